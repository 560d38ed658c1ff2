-- Points of a fight are 0, 1 or 3.
use Rattle.std.proofs.Common.{◌≡◌, ℕ, inl, inr, true, false, refl, length}
use Rattle.std.specs.Prelude.{Bool, if◌then◌else◌, ◌==◌}
use Rattle.mars_core.specs.State.{State, play_of}
use Rattle.mars_core.specs.declared.side.Side.{Side}
use Rattle.mars_core.specs.declared.arena.Outcome.{Outcome}
use Rattle.mars_core.specs.Fight.{points_in, outcome_of, turns_of}
use Rattle.mars_fight.specs.Play.{ArePoints}

-- the points are 0, 1 or 3 whoever has tasks
chosen : (won lost : Bool) → ArePoints (if won then 3 else if lost then 0 else 1)
chosen true lost = inr (inr refl)
chosen false true = inl refl
chosen false false = inr (inl refl)

-- the points in any state
are_points : (s : State) → ArePoints (points_in s)
are_points s = chosen (length s.opponent == 0) (length s.candidate == 0)

-- the points of any outcome
pub outcome_points : (limit : ℕ) (start : State) (first : Side) (cycles : ℕ) (o : Outcome) → o ≡ outcome_of limit start first cycles → ArePoints o.points
unfolding outcome_of
outcome_points limit start first cycles o e = rw e (are_points (play_of limit start first (turns_of limit start first cycles)))
