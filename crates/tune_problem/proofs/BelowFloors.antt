-- What a certificate without a best setting shows.
use Rattle.std.proofs.Common.{◌≡◌, ℕ, ◌<◌, ◌≤◌, arith, List, Some, sym, ◌∙◌, subst}
use Rattle.rc_instr.specs.Warrior.{WarriorView}
use Rattle.tune_problem.specs.Problem.{IsProblem, Problem}
use Rattle.tune_problem.specs.Optimum.{cap_of, total_of}
use Rattle.tune_problem.specs.Valid.{IsCapRow, listed_indices}
use Rattle.tune_problem.specs.Below.{IsRowBelow, IsValidBelow, AllBelow}
use Rattle.tune_problem.specs.declared.cert.Row.{Row}
use Rattle.tune_problem.specs.declared.cert.Row.TheVariants.{Cap, Refused, Same}
use Rattle.tune_problem.proofs.CapRows.{row_cap}
use Rattle.tune_problem.proofs.Certificates.{slice_get_some, some_is}

module _ (p : Problem) (laws : IsProblem p) (floor version : ℕ) (rows : List Row) (valid : IsValidBelow p floor version rows) where
  -- a cap row whose cap is below the floor
  by_cap : (x y : WarriorView) (row : List (ℕ × ℕ)) → x ≡ y → IsCapRow p x 0 row → cap_of p x (listed_indices row) < floor → total_of p y < floor
  by_cap x y row same right short =
      let le : total_of p x ≤ cap_of p x (listed_indices row) = row_cap p laws x row right in
      subst (λ (z : WarriorView). total_of p z < floor) same (omega (arith, le, short))

  by_row : (v : ℕ) (x : WarriorView) → p.warrior v ≡ Some x → (row : Row) → IsRowBelow p floor rows v row → total_of p x < floor
  by_row v x is Refused h = absurd (cc)
  by_row v x is (Cap row) h = by_cap h.0 x row (some_is _ _ (sym h.1 ∙ is)) h.2 h.3
  by_row v x is (Same u) h =
      let of = valid.right u (Cap h.1) h.6 in
      let alike : of.0 ≡ h.0 = some_is _ _ (sym of.1 ∙ h.5) in
      by_cap h.0 x h.1 (some_is _ _ (sym h.4 ∙ is)) (subst (λ (z : WarriorView). IsCapRow p z 0 h.1) alike of.2) h.7

  pub all_below : AllBelow p floor
  all_below = λ v x l is.
      let r = slice_get_some rows v (subst (λ (n : ℕ). v < n) (sym valid.rows_are) l) in
      by_row v x is r.0 (valid.right v r.0 r.1)
