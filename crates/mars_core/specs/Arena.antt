-- An arena as contracts see it, and the snapshot by which it finds that a state comes back.
use Rattle.std.specs.Prelude.{◌≡◌, ℕ, ◌+◌, ◌*◌, ◌%◌, ◌<◌, ◌≤◌, List, [], length, replicate}
use Rattle.rc_instr.specs.Instruction.{empty_cell}
use Rattle.rc_instr.specs.Rules.{RulesView, IsRules}
use Rattle.rc_instr.specs.declared.instruction.Instruction.{Instruction}
use Rattle.mars_core.specs.Core.{IsCore, AreTasks}
use Rattle.mars_core.specs.Queue.{Queue}
use Rattle.mars_core.specs.State.{State}

pub record ArenaView : Type 0 where
  pub rules : RulesView
  pub state : State
  -- The turns made since the load.
  pub turns : ℕ
  -- The fights that were run, modulo 2 to the 64.
  pub fights : ℕ
  -- The number of cells that a reset would set.
  pub marks : ℕ

abbrev pub arena : RulesView → List Instruction → List ℕ → List ℕ → ℕ → ℕ → ℕ → ArenaView
arena rules core candidate opponent turns fights marks =
    record { rules = rules; state = record { core = core; candidate = candidate; opponent = opponent }; turns = turns; fights = fights; marks = marks }

-- The count of fights after `more` further ones.
abbrev pub fights_after : ℕ → ℕ → ℕ
fights_after fights more = (fights + more) % 18446744073709551616

-- A blank arena for these rules: empty cells, no tasks, no turns made, after any number of fights,
-- and with any marks.
pub record IsBlank (rules : RulesView) (a : ArenaView) : Type 0 where
  pub rules_kept : a.rules ≡ rules
  pub state : a.state ≡ record { core = replicate rules.core empty_cell; candidate = []; opponent = [] }
  pub turns : a.turns ≡ 0

-- The cells, the tasks of the side that moves first, and those of the other side.
pub record SnapshotView : Type 0 where
  pub core : List Instruction
  pub mine : List ℕ
  pub theirs : List ℕ
  -- After how many cycles it was taken, 0 if none was taken in this fight.
  pub cycles : ℕ

abbrev pub snapshot_view : List Instruction → List ℕ → List ℕ → ℕ → SnapshotView
snapshot_view core mine theirs cycles = record { core = core; mine = mine; theirs = theirs; cycles = cycles }

-- The most tasks of a side in a state that is kept.
abbrev pub few_tasks : ℕ
few_tasks = 8

-- A snapshot has room for these tasks of each side.
pub record HasRoom (mine theirs : Queue) : Type 0 where
  pub mine_room : mine.capacity ≡ few_tasks
  pub theirs_room : theirs.capacity ≡ few_tasks

-- The state after these cycles is the one that was kept, a period ago.
pub record IsBack (kept : SnapshotView) (core : List Instruction) (mine theirs : List ℕ) (cycles period : ℕ) : Type 0 where
  pub taken : 0 < kept.cycles
  pub state : kept ≡ snapshot_view core mine theirs kept.cycles
  pub period_is : kept.cycles + period ≡ cycles

-- What holds of every arena: checked rules, a core and tasks of their size, queues with room for
-- the tasks that the rules allow, a snapshot of as many cells, and at most two turns a cycle.
pub record IsArena (rules : RulesView) (core : List Instruction) (candidate opponent : Queue) (snapshot : SnapshotView) (turns : ℕ) : Type 0 where
  pub rules_hold : IsRules rules
  pub core_holds : IsCore rules.core core
  pub candidate_room : candidate.capacity ≡ rules.tasks
  pub opponent_room : opponent.capacity ≡ rules.tasks
  pub candidate_below : AreTasks rules.core candidate.items
  pub opponent_below : AreTasks rules.core opponent.items
  pub snapshot_size : length snapshot.core ≡ rules.core
  pub within : turns ≤ 2 * rules.cycles
