-- A queue of tasks, and the slots in which it is kept.
use Rattle.std.specs.Prelude.{◌≡◌, ℕ, ◌+◌, ◌-◌, ◌≤◌, List, length, drop, take}
use Rattle.rc_instr.specs.declared.instruction.Instruction.{Instruction}
use Rattle.mars_core.specs.State.{appended, tasks_after}

-- The addresses of the tasks, the next to execute first, and how many there may be.
pub record Queue : Type 0 where
  pub items : List ℕ
  pub capacity : ℕ

abbrev pub queue : List ℕ → ℕ → Queue
queue items capacity = record { items = items; capacity = capacity }

-- The queue with addresses appended in order, each only while there is room.
abbrev pub queue_with : Queue → List ℕ → Queue
queue_with q addresses = queue (appended q.capacity q.items addresses) q.capacity

abbrev pub without_first : Queue → Queue
without_first q = queue (drop 1 q.items) q.capacity

-- The queue of a side after its turn.
abbrev pub queue_after : List Instruction → Queue → Queue
queue_after core q = queue (tasks_after q.capacity core q.items) q.capacity

-- The most cycles that are played at a time.
abbrev pub stretch : ℕ
stretch = 2000

-- What slots hold from the slot `first` up to the one before `end`.
abbrev pub held_in : List ℕ → (first end : ℕ) → List ℕ
held_in slots first end = drop first (take end slots)

-- What contracts see of a `LinearQueue`: the queue, and the turns for which there are slots.
pub record LinearView : Type 0 where
  pub queue : Queue
  pub turns : ℕ

-- There may be `free` more tasks.
abbrev pub linear_view : List ℕ → (first end free : ℕ) → LinearView
linear_view slots first end free = record { queue = queue (held_in slots first end) (end - first + free); turns = stretch - first }

-- What holds of the slots, whose last task is before `end`: there is a slot after it.
pub record IsLinear (slots : List ℕ) (first end free : ℕ) : Type 0 where
  pub slots_are : length slots ≡ end - first + free + stretch + 1
  pub first_is : first ≤ stretch
  pub ordered : first ≤ end
  pub few : end - first + free ≤ 65535
