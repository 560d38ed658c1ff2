-- The weights of the fights of a schedule.
use Rattle.std.proofs.Common.{◌≡◌, ℕ, suc, ◌+◌, ◌*◌, ◌<◌, arith, List, [], ◌∷◌, length, get_or, Some, refl, sym, ◌∙◌, ap, subst}
use Rattle.std.specs.List.{sum_by, range_with_len, slice_get}
use Rattle.std.proofs.lemmas.List.Sums.{sum_by-cons}
use Rattle.std.proofs.lemmas.Option.{slice_get-get_or}
use Rattle.mars_fight.specs.declared.fight.Fight.{Fight}
use Rattle.mars_fight.specs.Listed.{IsPlain, greatest_total}
use Rattle.tune_problem.specs.Inputs.{InputsView}
use Rattle.tune_problem.specs.Problem.{CountsOnce, weight_at, fight_weight, problem_of}
use Rattle.tune_problem.specs.Optimum.{greatest_of}
use Rattle.tune_problem.proofs.Certificates.{slice_get_some}

-- the most that the last fights of a schedule can give, from fight a on
most_from : (schedule rest : List Fight) (a : ℕ) → ((j : ℕ) → slice_get schedule (a + j) ≡ slice_get rest j)
    → sum_by (λ (f : Fight). 3 * f.weight) rest ≡ sum_by (λ k. 3 * fight_weight schedule k) (range_with_len a (length rest))
unfolding fight_weight
most_from schedule [] a at = refl
most_from schedule (f ∷ rest) a at =
    let here : slice_get schedule a ≡ Some f = subst (λ (k : ℕ). slice_get schedule k ≡ Some f) (omega arith) (at 0) in
    let weight : weight_at (slice_get schedule a) ≡ f.weight = ap weight_at here in
    let next : (j : ℕ) → slice_get schedule (a + 1 + j) ≡ slice_get rest j =
    λ j. subst (λ (k : ℕ). slice_get schedule k ≡ slice_get rest j) (omega arith) (at (suc j)) in
    omega (
      arith,
      weight,
      most_from schedule rest (a + 1) next,
      sum_by-cons (λ (g : Fight). 3 * g.weight) f rest,
      sum_by-cons (λ k. 3 * fight_weight schedule k) a (range_with_len (a + 1) (length rest)),
    )

zero_plus : (j : ℕ) → 0 + j ≡ j
zero_plus j = omega arith

-- the greatest total of a schedule is that of its problem
pub greatest_is : (i : InputsView) → greatest_total i.schedule ≡ greatest_of (problem_of i)
unfolding greatest_total greatest_of
greatest_is i = most_from i.schedule i.schedule 0 (λ j. ap (slice_get i.schedule) (zero_plus j))

weight_there : (schedule : List Fight) (k : ℕ) (d : Fight) → k < length schedule → fight_weight schedule k ≡ (get_or schedule k d).weight
unfolding fight_weight
weight_there schedule k d l = ap weight_at (slice_get-get_or schedule k d l)

-- if every fight of a schedule counts once, so it is in its problem
pub plain_once : (i : InputsView) → IsPlain i.schedule → CountsOnce (problem_of i)
plain_once i h k l =
    let f = slice_get_some i.schedule k l in
    weight_there i.schedule k f.0 l ∙ h k f.0 l

-- and the other way round
pub once_plain : (i : InputsView) → CountsOnce (problem_of i) → IsPlain i.schedule
once_plain i h = λ k d l. sym (weight_there i.schedule k d l) ∙ h k l

pub ruleset plain = (plain_once, once_plain)
