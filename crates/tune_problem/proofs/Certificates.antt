-- A valid certificate names the optimum.
use Rattle.std.proofs.Common.{◌≡◌, ◌≢◌, ℕ, ◌<◌, ◌≤◌, arith, false, List, Some, length, sym, ◌∙◌, ap, ◌⊎◌, inl, inr, subst}
use Rattle.std.specs.List.{slice_get}
use Rattle.std.proofs.lemmas.Bool.Decides.{nat_tests, leb_tells}
use Rattle.std.proofs.lemmas.Option.{slice_get_cases}
use Rattle.rc_instr.specs.Warrior.{WarriorView}
use Rattle.tune_problem.specs.Problem.{Problem, IsProblem}
use Rattle.tune_problem.specs.Optimum.{total_of, cap_of, beats, IsOptimum, HasTotal}
use Rattle.tune_problem.specs.Valid.{listed_indices, IsCapRow, IsNoBetter, IsRightRow, IsValid}
use Rattle.tune_problem.specs.declared.cert.Cert.{Cert}
use Rattle.tune_problem.specs.declared.cert.Row.{Row}
use Rattle.tune_problem.specs.declared.cert.Row.TheVariants.{Refused, Same, Cap}
use Rattle.tune_problem.proofs.CapRows.{row_cap, row_total}

pub some_is : {X : Type 0} (x y : X) → Some x ≡ Some y → x ≡ y
some_is x y e = cc

-- a cap c of v does not beat the total t of w
pub record Trails (c v t w : ℕ) : Type 0 where
  pub no_more : c ≤ t
  pub later : c ≡ t → w ≤ v

pub trails : (c v t w : ℕ) → beats c v t w ≡ false → Trails c v t w
trails c v t w h = record { no_more = grind (arith, nat_tests); later = λ e. grind (arith, nat_tests) }

pub not_beats : (c v t w : ℕ) → Trails c v t w → beats c v t w ≡ false
not_beats c v t w h = let a : c ≤ t = h.no_more in let b : c ≡ t → w ≤ v = h.later in grind (arith, nat_tests)

pub after_cap : (c d v t w : ℕ) → c ≤ d → Trails d v t w → Trails c v t w
after_cap c d v t w le h = let a : d ≤ t = h.no_more in let b : d ≡ t → w ≤ v = h.later in record { no_more = omega arith; later = λ e. b (omega arith) }

pub same_number : (u v : ℕ) → (u ≡ v) ⊎ (u ≢ v)
same_number u v = elim (leb_tells u v) [
  | inl p ↦ elim (leb_tells v u) [ inl q ↦ inl (omega arith) | inr q ↦ inr (λ e. omega arith) ]
  | inr p ↦ inr (λ e. omega arith)
]

pub slice_get_some : {X : Type 0} (xs : List X) (k : ℕ) → k < length xs → (x : X) × (slice_get xs k ≡ Some x)
slice_get_some xs k l = elim (slice_get_cases xs k).1 [ inl a ↦ (a.0, a.2) | inr b ↦ absurd (omega (arith, b.0)) ]

module _ (p : Problem) (laws : IsProblem p) (c : Cert) (valid : IsValid p c) where
  -- the warrior of the best vector, and its total
  best : (x : WarriorView) × (p.warrior c.best ≡ Some x) × (total_of p x ≡ c.total)
  best =
      let h = valid.right c.best (Cap valid.best_row) valid.best_at in
      (h.0, h.1, sym (row_total p laws h.0 valid.best_row h.2 valid.whole) ∙ valid.sums)

  -- a candidate's total trails the best
  after_row : (v : ℕ) (x : WarriorView) → p.warrior v ≡ Some x → (row : Row) → slice_get c.rows v ≡ Some row → IsRightRow p c v row → Trails (total_of p x) v c.total c.best
  after_row v x is Refused at h = absurd (cc)
  after_row v x is (Cap row) at h =
      let same : h.0 ≡ x = cc in
      let right : IsCapRow p x 0 row = subst (λ (y : WarriorView). IsCapRow p y 0 row) same h.2 in
      elim (same_number v c.best) [
        | inl e ↦
            let one : Some best.0 ≡ Some x = sym best.1 ∙ ap p.warrior (sym e) ∙ is in
            let it : total_of p x ≡ c.total = ap (total_of p) (sym (some_is _ _ one)) ∙ best.2 in
            record { no_more = omega arith; later = λ f. omega arith }
        | inr other ↦
            let it : Trails (cap_of p x (listed_indices row)) v c.total c.best = trails _ _ _ _ (subst (λ (y : WarriorView). IsNoBetter c (cap_of p y (listed_indices row)) v) same (h.3 other)) in
            let le : total_of p x ≤ cap_of p x (listed_indices row) = row_cap p laws x row right in
            after_cap (total_of p x) (cap_of p x (listed_indices row)) v c.total c.best le it
      ]
  after_row v x is (Same u) at h =
      let y = h.0 in
      let row = h.1 in
      let same : y ≡ x = some_is _ _ (sym h.4 ∙ is) in
      let of = valid.right u (Cap row) h.6 in
      let alike : of.0 ≡ y = some_is _ _ (sym of.1 ∙ h.5) in
      let right : IsCapRow p y 0 row = subst (λ (z : WarriorView). IsCapRow p z 0 row) alike of.2 in
      let it : Trails (cap_of p y (listed_indices row)) v c.total c.best = trails _ _ _ _ h.7 in
      subst (λ (z : WarriorView). Trails (total_of p z) v c.total c.best) same (after_cap _ _ v c.total c.best (row_cap p laws y row right) it)

  behind : (v : ℕ) (x : WarriorView) → v < p.count → p.warrior v ≡ Some x → Trails (total_of p x) v c.total c.best
  behind v x l is =
      let r = slice_get_some c.rows v (subst (λ (n : ℕ). v < n) (sym valid.rows_are) l) in
      after_row v x is r.0 r.1 (valid.right v r.0 r.1)

  -- the law
  pub valid_is_optimum : IsOptimum p c.best
  valid_is_optimum = record {
    warrior = best.0;
    inside = valid.best_inside;
    candidate = best.1;
    greatest = λ v x l is. let t_is : total_of p best.0 ≡ c.total = best.2 in let le : total_of p x ≤ c.total = (behind v x l is).no_more in omega arith;
    first = λ v x l is e. (behind v x l is).later (e ∙ best.2);
  }

  pub valid_total : HasTotal p c.best c.total
  valid_total = best

-- there is one optimum
pub optimum_one : (p : Problem) (v w : ℕ) → IsOptimum p v → IsOptimum p w → v ≡ w
optimum_one p v w a b =
    let x : total_of p b.warrior ≤ total_of p a.warrior = a.greatest w b.warrior b.inside b.candidate in
    let y : total_of p a.warrior ≤ total_of p b.warrior = b.greatest v a.warrior a.inside a.candidate in
    let even : total_of p b.warrior ≡ total_of p a.warrior = omega arith in
    let l : v ≤ w = a.first w b.warrior b.inside b.candidate even in
    let other : total_of p a.warrior ≡ total_of p b.warrior = omega arith in
    let m : w ≤ v = b.first v a.warrior a.inside a.candidate other in
    omega arith

-- a setting has one total
pub total_one : (p : Problem) (v w t s : ℕ) → v ≡ w → HasTotal p v t → HasTotal p w s → t ≡ s
total_one p v w t s e a b =
    let same : a.0 ≡ b.0 = some_is _ _ (sym a.1 ∙ ap p.warrior e ∙ b.1) in
    sym a.2 ∙ ap (total_of p) same ∙ b.2
