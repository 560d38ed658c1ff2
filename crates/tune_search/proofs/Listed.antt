-- The fights that the rows of a search list are all fights of its candidates.
use Rattle.std.proofs.Common.{◌≡◌, ℕ, ◌+◌, ◌*◌, arith, List, [], ◌∷◌, Option, Some, None, length, sym, ◌∙◌, ap, map}
use Rattle.std.specs.Prelude.{cond}
use Rattle.std.specs.List.{range_with_len, sum_by, count_by}
use Rattle.std.specs.Option.{is_some}
use Rattle.std.proofs.lemmas.List.Sums.{sum_by-cons}
use Rattle.std.proofs.lemmas.List.FromFn.{length-map-range_with_len}
use Rattle.rc_instr.specs.Warrior.{WarriorView}
use Rattle.tune_problem.specs.Problem.{Problem}
use Rattle.tune_problem.specs.Optimum.{all_fights, candidates_of}
use Rattle.tune_problem.specs.Valid.{listed_in, listed_fights}
use Rattle.tune_search.specs.Plays.{played, row_with, row_of, rows_of}

-- one more setting, with a warrior or without one
one_more : (p : Problem) (o : Option WarriorView) (c s : ℕ) → s ≡ c * p.fights → listed_in (row_with p o) + s ≡ (cond (is_some o) 1 0 + c) * p.fights
one_more p None c s e = omega (arith, e)
one_more p (Some w) c s e =
    let row : List (ℕ × ℕ) = played p w (all_fights p) in
    let many : length row ≡ p.fights = length-map-range_with_len {X = ℕ × ℕ} (λ k. (k, p.points w k)) 0 p.fights in
    let next : (1 + c) * p.fights ≡ p.fights + c * p.fights = grind arith in
    ap (λ n. n + s) many ∙ ap (λ n. p.fights + n) e ∙ sym next

listed_more : (p : Problem) (vs : List ℕ) → sum_by listed_in (map (row_of p) vs) ≡ count_by (λ v. is_some (p.warrior v)) vs * p.fights
listed_more p [] = omega arith
listed_more p (v ∷ vs) =
    sum_by-cons listed_in (row_of p v) (map (row_of p) vs)
    ∙ one_more p (p.warrior v) (count_by (λ u. is_some (p.warrior u)) vs) _ (listed_more p vs)
    ∙ sym (ap (λ n. n * p.fights) (sum_by-cons (λ u. cond (is_some (p.warrior u)) 1 0) v vs))

pub listed_rows : (p : Problem) → listed_fights (rows_of p) ≡ candidates_of p * p.fights
unfolding listed_fights candidates_of
listed_rows p = listed_more p (range_with_len 0 p.count)
