-- Totals against caps.
use Rattle.std.proofs.Common.{◌≡◌, ℕ, ◌+◌, ◌≤◌, arith, List, length, take, drop, ◌∙◌, take_all}
use Rattle.std.specs.List.{sum_by}
use Rattle.std.specs.List.Sorted.{IsPermutation}
use Rattle.std.proofs.lemmas.List.Sums.{sum_by-take-drop}
use Rattle.std.proofs.lemmas.List.Sorted.{sum_by-IsPermutation, length_permutation}
use Rattle.std.proofs.lemmas.List.FromFn.{length-range_with_len}
use Rattle.rc_instr.specs.Warrior.{WarriorView}
use Rattle.tune_problem.specs.Problem.{Problem, IsProblem}
use Rattle.tune_problem.specs.Optimum.{total_of, cap_of, all_fights, score_of, most_of}
use Rattle.tune_problem.proofs.CapRows.{scores_most, cap_is}

pub order_length : (p : Problem) (order : List ℕ) → IsPermutation (all_fights p) order → length order ≡ p.fights
order_length p order h = length_permutation (all_fights p) order h ∙ length-range_with_len 0 p.fights

pub total_le_cap : (p : Problem) → IsProblem p → (w : WarriorView) (order : List ℕ) → IsPermutation (all_fights p) order → (j : ℕ) → total_of p w ≤ cap_of p w (take j order)
unfolding total_of
total_le_cap p laws w order h j =
    let scores : sum_by (score_of p w) order ≡ sum_by (score_of p w) (all_fights p) = sum_by-IsPermutation (score_of p w) (all_fights p) order h in
    let mosts : sum_by (most_of p) order ≡ sum_by (most_of p) (all_fights p) = sum_by-IsPermutation (most_of p) (all_fights p) order h in
    let parts : sum_by (score_of p w) (take j order) + sum_by (score_of p w) (drop j order) ≡ sum_by (score_of p w) order = sum_by-take-drop (score_of p w) order j in
    let most_parts : sum_by (most_of p) (take j order) + sum_by (most_of p) (drop j order) ≡ sum_by (most_of p) order = sum_by-take-drop (most_of p) order j in
    let rest : sum_by (score_of p w) (drop j order) ≤ sum_by (most_of p) (drop j order) = scores_most p laws w (drop j order) in
    omega (arith, cap_is p w (take j order))

pub cap_all : (p : Problem) (w : WarriorView) (order : List ℕ) → IsPermutation (all_fights p) order → cap_of p w (take p.fights order) ≡ total_of p w
unfolding total_of
cap_all p w order h =
    let n : length order ≡ p.fights = order_length p order h in
    let whole : take p.fights order ≡ order = take_all p.fights order (omega arith) in
    let scores : sum_by (score_of p w) order ≡ sum_by (score_of p w) (all_fights p) = sum_by-IsPermutation (score_of p w) (all_fights p) order h in
    let mosts : sum_by (most_of p) order ≡ sum_by (most_of p) (all_fights p) = sum_by-IsPermutation (most_of p) (all_fights p) order h in
    rw whole (omega (arith, cap_is p w order))
