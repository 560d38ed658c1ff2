-- The outcome of a fight: its points (pMARS, for two warriors) and its turns.
use Rattle.std.specs.Prelude.{◌≡◌, ℕ, zero, suc, ◌*◌, ◌<◌, ◌≤◌, Bool, true, false, ◌||◌, nat_lt, ◌==◌, if◌then◌else◌, length, ◌⊎◌}
use Rattle.mars_core.specs.State.{State, play_of}
use Rattle.mars_core.specs.declared.side.Side.{Side}
use Rattle.mars_core.specs.declared.arena.Outcome.{Outcome}

-- A fight is over once a side has no task.
abbrev pub is_over : State → Bool
is_over s = (length s.candidate == 0) || (length s.opponent == 0)

-- The least k below n at which a test holds, or n if there is none.
abbrev pub least : (ℕ → Bool) → ℕ → ℕ
least test zero = zero
least test (suc n) = let k = least test n in if nat_lt k n then k else if test n then n else suc n

-- The candidate's points in a state: 3 if the opponent has no task, else 0 if the candidate has
-- none, else 1.
abbrev pub points_in : State → ℕ
points_in s = if length s.opponent == 0 then 3 else if length s.candidate == 0 then 0 else 1

-- A fight takes turns until a side has no task, and at most two for each cycle.
unfoldable pub turns_of : ℕ → State → Side → ℕ → ℕ
turns_of limit start first cycles = least (λ k. is_over (play_of limit start first k)) (2 * cycles)

-- The points are read off the state after these turns.
unfoldable pub outcome_of : ℕ → State → Side → ℕ → Outcome
outcome_of limit start first cycles =
    let turns = turns_of limit start first cycles in
    record { points = points_in (play_of limit start first turns); turns = turns }

-- The outcome as a relation: the fight was not over before these turns; after them it is over, or
-- two turns for each cycle were made; and the points say who has a task left.
pub record IsOutcome (limit : ℕ) (start : State) (first : Side) (cycles : ℕ) (o : Outcome) : Type 0 where
  pub goes_on : (k : ℕ) → k < o.turns → is_over (play_of limit start first k) ≡ false
  pub within : o.turns ≤ 2 * cycles
  pub ends : (is_over (play_of limit start first o.turns) ≡ true) ⊎ (o.turns ≡ 2 * cycles)
  pub points : o.points ≡ points_in (play_of limit start first o.turns)

-- A state that comes back after p cycles, the same side moving first, and until then no side loses
-- its last task.
pub record ComesBack (limit : ℕ) (s : State) (first : Side) (p : ℕ) : Type 0 where
  pub some : 0 < p
  pub back : play_of limit s first (2 * p) ≡ s
  pub lasts : turns_of limit s first p ≡ 2 * p
