use Rattle.std.proofs.Common.{◌∙◌, ap}
use Rattle.mars_core.specs.declared.side.Side.TheVariants.{Candidate, Opponent}
use Rattle.mars_core.proofs.Outcomes.{outcome_is, left_is}
use Rattle.mars_core.proofs.arena.Arena.run.Goals as goal

pub returns-in-Candidate-clause-outcome : goal.returns-in-Candidate-clause-outcome
returns-in-Candidate-clause-outcome g c =
    outcome_is c.finish.result _ _ _ _ _ _ _ _ _ _
    (c.self.invariant.candidate_room ∙ ap (λ a. a.rules.tasks) c.self.view_is)
    (ap (λ a. a.state) c.self.view_is)
    c.in-Candidate.is
    (c.cycles-cycles.ensures.cycles ∙ ap (λ a. a.rules.cycles) c.self.view_is)
    (c.decide-turns.ensures.played.turns_are Candidate)
    (c.decide-turns.ensures.played.state_is Candidate)
    c.finish.ensures.points
    c.finish.ensures.result

pub returns-in-Candidate-clause-state : goal.returns-in-Candidate-clause-state
returns-in-Candidate-clause-state g c =
    left_is _ _ _ _ _ _ _ _ _ _
    (c.self.invariant.candidate_room ∙ ap (λ a. a.rules.tasks) c.self.view_is)
    (ap (λ a. a.state) c.self.view_is)
    c.in-Candidate.is
    c.finish.ensures.result
    (ap (λ a. a.state) c.finish.ensures.arena)
    (c.decide-turns.ensures.played.state_is Candidate)

pub returns-in-Opponent-clause-outcome : goal.returns-in-Opponent-clause-outcome
returns-in-Opponent-clause-outcome g c =
    outcome_is c.finish-in-Opponent.result _ _ _ _ _ _ _ _ _ _
    (c.self.invariant.opponent_room ∙ ap (λ a. a.rules.tasks) c.self.view_is)
    (ap (λ a. a.state) c.self.view_is)
    c.in-Opponent.is
    (c.cycles-cycles.ensures.cycles ∙ ap (λ a. a.rules.cycles) c.self.view_is)
    (c.decide-turns-in-Opponent.ensures.played.turns_are Opponent)
    (c.decide-turns-in-Opponent.ensures.played.state_is Opponent)
    c.finish-in-Opponent.ensures.points
    c.finish-in-Opponent.ensures.result

pub returns-in-Opponent-clause-state : goal.returns-in-Opponent-clause-state
returns-in-Opponent-clause-state g c =
    left_is _ _ _ _ _ _ _ _ _ _
    (c.self.invariant.opponent_room ∙ ap (λ a. a.rules.tasks) c.self.view_is)
    (ap (λ a. a.state) c.self.view_is)
    c.in-Opponent.is
    c.finish-in-Opponent.ensures.result
    (ap (λ a. a.state) c.finish-in-Opponent.ensures.arena)
    (c.decide-turns-in-Opponent.ensures.played.state_is Opponent)
