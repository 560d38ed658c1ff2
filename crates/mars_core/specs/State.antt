-- The state of a fight: its start, one turn, and the state after k turns (1994 draft).
use Rattle.std.specs.Prelude.{ℕ, zero, suc, ◌+◌, nat_lt, if◌then◌else◌, List, [], ◌∷◌, ◌++◌, length, replicate}
use Rattle.rc_instr.specs.Warrior.{WarriorView}
use Rattle.rc_instr.specs.Instruction.{empty_cell}
use Rattle.rc_instr.specs.declared.instruction.Instruction.{Instruction}
use Rattle.mars_core.specs.Core.{loaded_at}
use Rattle.mars_core.specs.Step.{step_of}
use Rattle.mars_core.specs.declared.side.Side.{Side}
use Rattle.mars_core.specs.declared.side.Side.TheVariants.{Candidate, Opponent}

-- The cells, and the tasks of each side, the next task first.
pub record State : Type 0 where
  pub core : List Instruction
  pub candidate : List ℕ
  pub opponent : List ℕ

abbrev pub tasks_of : Side → State → List ℕ
tasks_of Candidate s = s.candidate
tasks_of Opponent s = s.opponent

-- A fight starts with the candidate's code at address 0, the opponent's at p, all other cells
-- empty, and one task for each side, at its start.
unfoldable pub start_of : ℕ → WarriorView → WarriorView → ℕ → State
start_of m candidate opponent p = record {
  core = loaded_at (loaded_at (replicate m empty_cell) 0 candidate.code) p opponent.code;
  candidate = candidate.start ∷ [];
  opponent = (p + opponent.start) ∷ [];
}

-- The queue after addresses are appended in order, each only while the queue is shorter than the
-- limit.
abbrev pub appended : ℕ → List ℕ → List ℕ → List ℕ
appended limit tasks [] = tasks
appended limit tasks (t ∷ ts) = appended limit (if nat_lt (length tasks) limit then tasks ++ t ∷ [] else tasks) ts

-- The core after a turn of the side with these tasks.
unfoldable pub core_after : List Instruction → List ℕ → List Instruction
core_after core [] = core
core_after core (pc ∷ tasks) = (step_of core pc).core

-- The tasks after the turn: the first is taken out, and what its step queues is appended.
unfoldable pub tasks_after : ℕ → List Instruction → List ℕ → List ℕ
tasks_after limit core [] = []
tasks_after limit core (pc ∷ tasks) = appended limit tasks (step_of core pc).queued

-- One turn of a side, with at most `limit` tasks for each. A side without tasks changes nothing.
abbrev pub turn_of : ℕ → State → Side → State
turn_of limit s Candidate =
    record { core = core_after s.core s.candidate; candidate = tasks_after limit s.core s.candidate; opponent = s.opponent }
turn_of limit s Opponent =
    record { core = core_after s.core s.opponent; candidate = s.candidate; opponent = tasks_after limit s.core s.opponent }

abbrev pub other : Side → Side
other Candidate = Opponent
other Opponent = Candidate

-- The side that moves after k turns: sides alternate, beginning with `first`.
abbrev pub mover_of : Side → ℕ → Side
mover_of first zero = first
mover_of first (suc k) = other (mover_of first k)

-- The state after k turns.
abbrev pub play_of : ℕ → State → Side → ℕ → State
play_of limit start first zero = start
play_of limit start first (suc k) = turn_of limit (play_of limit start first k) (mover_of first k)

-- The state in which the side that moves first has the tasks `mine`, and the other side `theirs`.
abbrev pub seen_from : Side → List Instruction → List ℕ → List ℕ → State
seen_from Candidate core mine theirs = record { core = core; candidate = mine; opponent = theirs }
seen_from Opponent core mine theirs = record { core = core; candidate = theirs; opponent = mine }
