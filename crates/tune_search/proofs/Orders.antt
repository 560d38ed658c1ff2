-- Each order of fights has every fight once.
use Rattle.std.proofs.Common.{ℕ, Bool, true, false, List, [], ◌∷◌, ◌++◌, Option, Some, None, sym, inl, inr, subst, append_assoc}
use Rattle.std.specs.List.Sorted.{IsPermutation}
use Rattle.std.proofs.lemmas.List.Sorted.{IsPermutation-refl, IsPermutation-cons, IsPermutation-trans, IsPermutation-sym, IsPermutation-middle}
use Rattle.rc_instr.specs.Warrior.{WarriorView}
use Rattle.mars_fight.specs.Play.{ArePoints}
use Rattle.tune_problem.specs.Problem.{Problem, IsProblem}
use Rattle.tune_problem.specs.Optimum.{all_fights}
use Rattle.tune_search.specs.Plays.{played}
use Rattle.tune_search.specs.Order.{with_points, by_points, order_after, fight_order}

-- a number goes to its own place
placed : (x k : ℕ) (ks : List ℕ) (row : List (ℕ × ℕ)) → ArePoints x → IsPermutation ks (by_points row) → IsPermutation (k ∷ ks) (by_points ((k, x) ∷ row))
placed x k ks row points h =
    let a = with_points 0 row in
    let b = with_points 1 row in
    let d = with_points 3 row in
    let here : IsPermutation (k ∷ ks) (k ∷ ((a ++ b) ++ d)) = IsPermutation-cons k _ _ h in
    elim points [
      | inl zero ↦ subst (λ (x : ℕ). IsPermutation (k ∷ ks) (by_points ((k, x) ∷ row))) (sym zero) here
      | inr other ↦ elim other [
        | inl one ↦ subst (λ (x : ℕ). IsPermutation (k ∷ ks) (by_points ((k, x) ∷ row))) (sym one)
            (IsPermutation-trans _ _ _ here
            (subst (λ (l : List ℕ). IsPermutation (k ∷ ((a ++ b) ++ d)) l) (sym (append_assoc a (k ∷ b) d))
            (subst (λ (l : List ℕ). IsPermutation (k ∷ l) (a ++ (k ∷ b ++ d))) (sym (append_assoc a b d)) (IsPermutation-sym _ _ (IsPermutation-middle a k (b ++ d))))))
        | inr three ↦ subst (λ (x : ℕ). IsPermutation (k ∷ ks) (by_points ((k, x) ∷ row))) (sym three)
            (IsPermutation-trans _ _ _ here (IsPermutation-sym _ _ (IsPermutation-middle (a ++ b) k d)))
      ]
    ]

pub by_points_permutes : (p : Problem) (w : WarriorView) (ks : List ℕ) → IsProblem p → IsPermutation ks (by_points (played p w ks))
by_points_permutes p w [] laws = IsPermutation-refl []
by_points_permutes p w (k ∷ ks) laws = placed (p.points w k) k ks (played p w ks) (laws.scores w k) (by_points_permutes p w ks laws)

after : (p : Problem) (b : Bool) (start : Option WarriorView) → IsProblem p → IsPermutation (all_fights p) (order_after p b start)
after p true start laws = IsPermutation-refl (all_fights p)
after p false None laws = IsPermutation-refl (all_fights p)
after p false (Some w) laws = by_points_permutes p w (all_fights p) laws

pub order_permutes : (p : Problem) (v : ℕ) → IsProblem p → IsPermutation (all_fights p) (fight_order p v)
unfolding fight_order
order_permutes p v laws = after p _ _ laws
