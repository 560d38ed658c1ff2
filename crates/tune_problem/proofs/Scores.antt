-- Points of fights are 0, 1 or 3.
use Rattle.std.proofs.Common.{ℕ, List, Option, Some, None, refl, inl}
use Rattle.std.specs.List.{slice_get}
use Rattle.rc_instr.specs.Rules.{RulesView}
use Rattle.rc_instr.specs.Warrior.{WarriorView}
use Rattle.mars_fight.specs.declared.fight.Fight.{Fight}
use Rattle.mars_fight.specs.Play.{points_of, ArePoints}
use Rattle.mars_fight.proofs.Points.{outcome_points}
use Rattle.tune_problem.specs.Inputs.{InputsView}
use Rattle.tune_problem.specs.Problem.{IsProblem, points_with, points_against, fight_points, problem_of}

one_fight : (rules : RulesView) (candidate opponent : WarriorView) (fight : Fight) → ArePoints (points_of rules candidate opponent fight)
unfolding points_of
one_fight rules candidate opponent fight = outcome_points _ _ _ _ _ refl

with_any : (rules : RulesView) (w : WarriorView) (fight : Fight) (o : Option WarriorView) → ArePoints (points_with rules w fight o)
with_any rules w fight None = inl refl
with_any rules w fight (Some opponent) = one_fight rules w opponent fight

against_any : (rules : RulesView) (opponents : List WarriorView) (w : WarriorView) (f : Option Fight) → ArePoints (points_against rules opponents w f)
against_any rules opponents w None = inl refl
against_any rules opponents w (Some fight) = with_any rules w fight (slice_get opponents fight.opponent)

at_any : (rules : RulesView) (opponents : List WarriorView) (schedule : List Fight) (w : WarriorView) (k : ℕ) → ArePoints (fight_points rules opponents schedule w k)
unfolding fight_points
at_any rules opponents schedule w k = against_any rules opponents w (slice_get schedule k)

-- the problem of any inputs
pub inputs_problem : (i : InputsView) → IsProblem (problem_of i)
inputs_problem i = record { scores = λ w k. at_any i.rules i.opponents i.schedule w k }
