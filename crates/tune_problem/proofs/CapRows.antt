-- Cap rows.
use Rattle.std.proofs.Common.{◌≡◌, ℕ, zero, suc, ◌+◌, ◌-◌, ◌*◌, ◌≤◌, arith, List, [], ◌∷◌, length, refl, sym, ◌∙◌, ap, ◌⊎◌, inl, inr, subst}
use Rattle.std.specs.List.{sum_by, range_with_len}
use Rattle.std.proofs.lemmas.List.Sums.{sum_by-cons}
use Rattle.std.proofs.lemmas.Bool.Decides.{leb_tells}
use Rattle.rc_instr.specs.Warrior.{WarriorView}
use Rattle.tune_problem.specs.Problem.{Problem, IsProblem}
use Rattle.tune_problem.specs.Optimum.{all_fights, score_of, most_of, total_of, greatest_of, most_besides, cap_of}
use Rattle.tune_problem.specs.Valid.{listed_indices, listed_score, listed_total, IsCapRow}
use Rattle.mars_fight.specs.Play.{ArePoints}

pub above : (a b : ℕ) → a ≤ b → (b ≡ a) ⊎ (a + 1 ≤ b)
above a b h = elim (leb_tells b a) [ inl p ↦ inl (omega arith) | inr p ↦ inr (omega arith) ]

cons_score : (p : Problem) (w : WarriorView) (k : ℕ) (ks : List ℕ) → sum_by (score_of p w) (k ∷ ks) ≡ score_of p w k + sum_by (score_of p w) ks
cons_score p w k ks = sum_by-cons (score_of p w) k ks

pub cons_most : (p : Problem) (k : ℕ) (ks : List ℕ) → sum_by (most_of p) (k ∷ ks) ≡ most_of p k + sum_by (most_of p) ks
cons_most p k ks = sum_by-cons (most_of p) k ks

-- points times a weight are at most 3 times the weight
times_weight : (x n : ℕ) → ArePoints x → x * n ≤ 3 * n
times_weight x n h = elim h [
  | inl a ↦ rw a (omega arith)
  | inr b ↦ elim b [ inl c ↦ rw c (omega arith) | inr d ↦ rw d (omega arith) ]
]

-- a score is at most the most
pub score_most : (p : Problem) → IsProblem p → (w : WarriorView) (k : ℕ) → score_of p w k ≤ most_of p k
score_most p laws w k = times_weight (p.points w k) (p.weight k) (laws.scores w k)

-- the scores in some fights are at most the most that these can give
pub scores_most : (p : Problem) → IsProblem p → (w : WarriorView) (ks : List ℕ) → sum_by (score_of p w) ks ≤ sum_by (most_of p) ks
scores_most p laws w [] = omega arith
scores_most p laws w (k ∷ ks) = omega (arith, cons_score p w k ks, cons_most p k ks, score_most p laws w k, scores_most p laws w ks)

-- a cap in sums
pub cap_is : (p : Problem) (w : WarriorView) (ks : List ℕ) → cap_of p w ks ≡ sum_by (score_of p w) ks + (sum_by (most_of p) (all_fights p) - sum_by (most_of p) ks)
unfolding cap_of most_besides greatest_of
cap_is p w ks = refl

-- A row of fights from a on, against all fights from a on: it has at most as many, and they can
-- give at most as much; its scores and the most of the others are at least the scores of all.
pub record IsWithin (p : Problem) (w : WarriorView) (m a : ℕ) (row : List (ℕ × ℕ)) : Type 0 where
  pub few : length row ≤ m
  pub most : sum_by (most_of p) (listed_indices row) ≤ sum_by (most_of p) (range_with_len a m)
  pub capped : sum_by (score_of p w) (range_with_len a m) + sum_by (most_of p) (listed_indices row) ≤ sum_by (score_of p w) (listed_indices row) + sum_by (most_of p) (range_with_len a m)

pub capped : (p : Problem) → IsProblem p → (w : WarriorView) (m a : ℕ) (row : List (ℕ × ℕ)) → a + m ≡ p.fights → IsCapRow p w a row → IsWithin p w m a row
capped p laws w zero a [] e h = record { few = omega arith; most = omega arith; capped = omega arith }
capped p laws w zero a (x ∷ row) e h = absurd (omega (arith, h.0, h.1))
capped p laws w (suc m) a [] e h = record { few = omega arith; most = omega arith; capped = omega (arith, scores_most p laws w (range_with_len a (suc m))) }
capped p laws w (suc m) a (x ∷ row) e h =
    elim (above a x.0 h.0) [
      | inl same ↦
          let rest : IsCapRow p w (a + 1) row = subst (λ (k : ℕ). IsCapRow p w (k + 1) row) same h.3 in
          let i = capped p laws w m (a + 1) row (omega arith) rest in
          let score : score_of p w x.0 ≡ score_of p w a = ap (score_of p w) same in
          let most : most_of p x.0 ≡ most_of p a = ap (most_of p) same in
          let scores = cons_score p w a (range_with_len (a + 1) m) in
          let listed = cons_score p w x.0 (listed_indices row) in
          let mosts = cons_most p a (range_with_len (a + 1) m) in
          let listed_mosts = cons_most p x.0 (listed_indices row) in
          record {
            few = omega (arith, i.few);
            most = omega (arith, i.most, most, mosts, listed_mosts);
            capped = omega (arith, i.capped, score, most, scores, listed, mosts, listed_mosts);
          }
      | inr more ↦
          let i = capped p laws w m (a + 1) (x ∷ row) (omega arith) (more, h.1, h.2, h.3) in
          let here : score_of p w a ≤ most_of p a = score_most p laws w a in
          let scores = cons_score p w a (range_with_len (a + 1) m) in
          let mosts = cons_most p a (range_with_len (a + 1) m) in
          record {
            few = omega (arith, i.few);
            most = omega (arith, i.most, mosts);
            capped = omega (arith, i.capped, here, scores, mosts);
          }
    ]

-- a row of as many fights as there are has each of them
pub whole : (p : Problem) → IsProblem p → (w : WarriorView) (m a : ℕ) (row : List (ℕ × ℕ)) → a + m ≡ p.fights → IsCapRow p w a row → length row ≡ m →
    listed_indices row ≡ range_with_len a m
whole p laws w zero a [] e h n = refl
whole p laws w zero a (x ∷ row) e h n = absurd (omega (arith, h.0, h.1))
whole p laws w (suc m) a [] e h n = absurd (omega arith)
whole p laws w (suc m) a (x ∷ row) e h n =
    elim (above a x.0 h.0) [
      | inl same ↦
          let rest : IsCapRow p w (a + 1) row = subst (λ (k : ℕ). IsCapRow p w (k + 1) row) same h.3 in
          let i = whole p laws w m (a + 1) row (omega arith) rest (omega arith) in
          ap (λ k. k ∷ listed_indices row) same ∙ ap (λ ks. a ∷ ks) i
      | inr more ↦
          let i = capped p laws w m (a + 1) (x ∷ row) (omega arith) (more, h.1, h.2, h.3) in
          absurd (omega (arith, i.few))
    ]

-- the scores listed are those of the fights
pub row_sum : (p : Problem) (w : WarriorView) (a : ℕ) (row : List (ℕ × ℕ)) → IsCapRow p w a row → listed_total p row ≡ sum_by (score_of p w) (listed_indices row)
row_sum p w a [] h = refl
row_sum p w a (x ∷ row) h =
    let i = row_sum p w (x.0 + 1) row h.3 in
    let here : listed_score p x ≡ score_of p w x.0 = ap (λ n. n * p.weight x.0) h.2 in
    sum_by-cons (listed_score p) x row ∙ ap (λ n. n + listed_total p row) here ∙ ap (λ n. score_of p w x.0 + n) i ∙ sym (cons_score p w x.0 (listed_indices row))

pub row_cap : (p : Problem) → IsProblem p → (w : WarriorView) (row : List (ℕ × ℕ)) → IsCapRow p w 0 row → total_of p w ≤ cap_of p w (listed_indices row)
unfolding total_of
row_cap p laws w row h =
    let c = capped p laws w p.fights 0 row (omega arith) h in
    omega (arith, c.most, c.capped, cap_is p w (listed_indices row))

-- a row has at most as many fights as there are
pub row_few : (p : Problem) → IsProblem p → (w : WarriorView) (row : List (ℕ × ℕ)) → IsCapRow p w 0 row → length row ≤ p.fights
row_few p laws w row h = (capped p laws w p.fights 0 row (omega arith) h).few

pub total_few : (p : Problem) → IsProblem p → (w : WarriorView) → total_of p w ≤ greatest_of p
unfolding total_of greatest_of
total_few p laws w = scores_most p laws w (all_fights p)

pub row_total : (p : Problem) → IsProblem p → (w : WarriorView) (row : List (ℕ × ℕ)) → IsCapRow p w 0 row → length row ≡ p.fights → listed_total p row ≡ total_of p w
unfolding total_of
row_total p laws w row h n = row_sum p w 0 row h ∙ ap (sum_by (score_of p w)) (whole p laws w p.fights 0 row (omega arith) h n)
