-- Caps, fight by fight.
use Rattle.std.proofs.Common.{◌≡◌, ℕ, ◌+◌, ◌-◌, ◌*◌, ◌<◌, ◌≤◌, arith, List, [], ◌∷◌, ◌++◌, length, take, get_or, ◌∙◌, ap, inl, inr, refl}
use Rattle.std.specs.List.{sum_by}
use Rattle.std.specs.List.Sorted.{IsPermutation}
use Rattle.std.proofs.lemmas.List.Sums.{sum_by_more, sum_by-take-le}
use Rattle.std.proofs.lemmas.List.Sorted.{sum_by-IsPermutation}
use Rattle.std.proofs.lemmas.Grind.{common_steps}
use Rattle.rc_instr.specs.Warrior.{WarriorView}
use Rattle.mars_fight.specs.Play.{ArePoints}
use Rattle.tune_problem.specs.Problem.{Problem}
use Rattle.tune_problem.specs.Optimum.{all_fights, score_of, most_of, greatest_of, cap_of}
use Rattle.tune_problem.proofs.CapRows.{cap_is}
use Rattle.tune_search.specs.Plays.{played}

-- what is missed of 3 points and what is made are 3 times the weight together
missed : (x n : ℕ) → ArePoints x → (3 - x) * n + x * n ≡ 3 * n
missed x n h = elim h [
  | inl a ↦ rw a (omega arith)
  | inr b ↦ elim b [ inl c ↦ rw c (omega arith) | inr d ↦ rw d (omega arith) ]
]

-- the cap after one more fight, in sums
after_one : (c s m g a b t s' m' : ℕ) → c ≡ s + (g - m) → s' ≡ s + b → m' ≡ m + t → a + b ≡ t → m' ≤ g → c - a ≡ s' + (g - m')
after_one c s m g a b t s' m' p q r u l = omega arith

room_one : (c s m g a b t m' : ℕ) → c ≡ s + (g - m) → m' ≡ m + t → a + b ≡ t → m' ≤ g → a ≤ c
room_one c s m g a b t m' p r u l = omega arith

module _ (p : Problem) (w : WarriorView) (order : List ℕ) (i c x n : ℕ) (inside : i < length order) (once : IsPermutation (all_fights p) order)
    (made : x ≡ p.points w (get_or order i 0)) (points : ArePoints x) (weight : n ≡ p.weight (get_or order i 0)) (e : c ≡ cap_of p w (take i order)) where
  scores : sum_by (score_of p w) (take (i + 1) order) ≡ sum_by (score_of p w) (take i order) + x * n
  scores = sum_by_more (score_of p w) order i 0 inside ∙ ap (λ k. sum_by (score_of p w) (take i order) + k) (rw (made, weight) refl)

  mosts : sum_by (most_of p) (take (i + 1) order) ≡ sum_by (most_of p) (take i order) + 3 * n
  mosts = sum_by_more (most_of p) order i 0 inside ∙ ap (λ k. sum_by (most_of p) (take i order) + k) (rw weight refl)

  within : sum_by (most_of p) (take (i + 1) order) ≤ sum_by (most_of p) (all_fights p)
  within = omega (arith, sum_by-take-le (most_of p) order (i + 1), sum_by-IsPermutation (most_of p) (all_fights p) order once)

  -- one more fight takes from the cap what it misses of 3 points, times the weight
  pub cap_more : c - (3 - x) * n ≡ cap_of p w (take (i + 1) order)
  cap_more =
      let now : c ≡ sum_by (score_of p w) (take i order) + (sum_by (most_of p) (all_fights p) - sum_by (most_of p) (take i order)) = e ∙ cap_is p w (take i order) in
      let next = cap_is p w (take (i + 1) order) in
      rw next (after_one c _ _ _ ((3 - x) * n) (x * n) (3 * n) _ _ now scores mosts (missed x n points) within)

  -- which the cap has
  pub cap_room : (3 - x) * n ≤ c
  cap_room =
      let now : c ≡ sum_by (score_of p w) (take i order) + (sum_by (most_of p) (all_fights p) - sum_by (most_of p) (take i order)) = e ∙ cap_is p w (take i order) in
      room_one c _ _ _ ((3 - x) * n) (x * n) (3 * n) _ now mosts (missed x n points) within

pub cap_none : (p : Problem) (w : WarriorView) (order : List ℕ) (c : ℕ) → c ≡ greatest_of p → c ≡ cap_of p w (take 0 order)
unfolding greatest_of
cap_none p w order c e = omega (arith, e, cap_is p w [])

pub played_more : (p : Problem) (w : WarriorView) (order : List ℕ) (i x : ℕ) (row : List (ℕ × ℕ)) → i < length order →
    x ≡ p.points w (get_or order i 0) → row ≡ played p w (take i order) → row ++ (get_or order i 0, x) ∷ [] ≡ played p w (take (i + 1) order)
played_more p w order i x row l made e = grind (arith, common_steps)
