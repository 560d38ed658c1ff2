-- What is wrong with a row, by its tests.
use Rattle.std.proofs.Common.{◌≡◌, ◌≢◌, ℕ, Bool, true, false, ◌&&◌, List, Option, Some, None, refl, sym, ◌∙◌, ap}
use Rattle.std.specs.Prelude.{not, ◌||◌, ◌==◌, [], ◌∷◌}
use Rattle.std.specs.List.{slice_get}
use Rattle.std.proofs.lemmas.Bool.{and_from, and_left, and_right, eq-eqb, ne_eqb}
use Rattle.rc_instr.specs.Warrior.{WarriorView}
use Rattle.tune_problem.specs.Problem.{Problem}
use Rattle.tune_problem.specs.Exact.{listed_cap}
use Rattle.tune_problem.specs.declared.aim.Aim.{Aim}
use Rattle.tune_problem.specs.declared.statement.Statement.{Statement}
use Rattle.tune_problem.specs.declared.cert.Row.{Row}
use Rattle.tune_problem.specs.declared.cert.Row.TheVariants.{Refused, Same, Cap}
use Rattle.tune_cert.specs.Checks.{rises, are_fights, has_points, have_points, share_warrior, names, stays_below, is_exact, cap_reason, listed_reason, reference_reason, unless, first_of}
use Rattle.tune_cert.specs.declared.verdict.Reason.TheVariants.{WrongPoints, RepeatedFight, CapTooHigh, NotSame}

-- ---- a cap, by the row that it is of

module _ (p : Problem) (s : Statement) (v : ℕ) (row : List (ℕ × ℕ)) (cap : ℕ) (b : Bool) (is : cap ≡ listed_cap p row) where
  pub lower_by : b ≡ stays_below s.answer cap v → stays_below s.answer (listed_cap p row) v ≡ b
  lower_by e = ap (λ (n : ℕ). stays_below s.answer n v) (sym is) ∙ sym e

  pub low_by : b ≡ (names s.answer v || stays_below s.answer cap v) → (names s.answer v || stays_below s.answer (listed_cap p row) v) ≡ b
  low_by e = ap (λ (n : ℕ). names s.answer v || stays_below s.answer n v) (sym is) ∙ sym e

-- ---- a cap row

module _ (p : Problem) (s : Statement) (aim : Option Aim) (v : ℕ) (row : List (ℕ × ℕ)) where
  pub cap_falls : rises 0 row ≡ false → Some RepeatedFight ≡ cap_reason p s aim v row
  unfolding cap_reason
  cap_falls e = rw e refl

  pub cap_refused : rises 0 row ≡ true → p.warrior v ≡ None → Some WrongPoints ≡ cap_reason p s aim v row
  unfolding cap_reason
  cap_refused e none = rw (e, none) refl

  module _ (w : WarriorView) (e : rises 0 row ≡ true) (is : p.warrior v ≡ Some w) where
    points_by : has_points p (p.warrior v) row ≡ have_points p w row
    points_by = ap (λ o. has_points p o row) is

    pub cap_wrong : have_points p w row ≡ false → Some WrongPoints ≡ cap_reason p s aim v row
    unfolding cap_reason
    cap_wrong h = let wrong : has_points p (p.warrior v) row ≡ false = points_by ∙ h in rw (e, wrong) refl

    cap_by : have_points p w row ≡ true → (b d : Bool) → (names s.answer v || stays_below s.answer (listed_cap p row) v) ≡ b → is_exact p aim s.rows v row ≡ d
        → cap_reason p s aim v row ≡ first_of (unless (b && d) CapTooHigh ∷ [])
    unfolding cap_reason
    cap_by h b d low all = let right : has_points p (p.warrior v) row ≡ true = points_by ∙ h in rw (e, right, low, all) refl

    pub cap_fine : have_points p w row ≡ true → (names s.answer v || stays_below s.answer (listed_cap p row) v) ≡ true → is_exact p aim s.rows v row ≡ true → None ≡ cap_reason p s aim v row
    cap_fine h low all = sym (cap_by h true true low all)

    pub cap_high : have_points p w row ≡ true → (names s.answer v || stays_below s.answer (listed_cap p row) v) ≡ false → Some CapTooHigh ≡ cap_reason p s aim v row
    cap_high h low = sym (cap_by h false _ low refl)

    pub cap_contends : have_points p w row ≡ true → (names s.answer v || stays_below s.answer (listed_cap p row) v) ≡ true → is_exact p aim s.rows v row ≡ false → Some CapTooHigh ≡ cap_reason p s aim v row
    cap_contends h low some = sym (cap_by h true false low some)

-- ---- a row that refers to another setting

pub no_cap : (p : Problem) (s : Statement) (aim : Option Aim) (v u : ℕ) (o : Option Row) → ((row : List (ℕ × ℕ)) → o ≡ Some (Cap row) → ⊥) → Some NotSame ≡ reference_reason p s aim v u o
no_cap p s aim v u None h = refl
no_cap p s aim v u (Some Refused) h = refl
no_cap p s aim v u (Some (Same t)) h = refl
no_cap p s aim v u (Some (Cap row)) h = absurd (h row refl)

module _ (p : Problem) (s : Statement) (aim : Option Aim) (v u : ℕ) (row : List (ℕ × ℕ)) (at : slice_get s.rows u ≡ Some (Cap row)) where
  by_row : reference_reason p s aim v u (slice_get s.rows u) ≡ listed_reason p s aim v u row
  by_row = ap (reference_reason p s aim v u) at

  tests : Bool
  tests = not (u == v) && (share_warrior (p.warrior v) (p.warrior u) && (rises 0 row && are_fights p row))

  if_fails : tests ≡ false → Some NotSame ≡ reference_reason p s aim v u (slice_get s.rows u)
  unfolding listed_reason tests
  if_fails e = sym (by_row ∙ rw e refl)

  pub to_itself : u ≡ v → Some NotSame ≡ reference_reason p s aim v u (slice_get s.rows u)
  unfolding tests
  to_itself e = if_fails (and_left _ _ (ap not (eq-eqb u v e)))

  pub to_another : share_warrior (p.warrior v) (p.warrior u) ≡ false → Some NotSame ≡ reference_reason p s aim v u (slice_get s.rows u)
  unfolding tests
  to_another e = if_fails (and_right (not (u == v)) _ (and_left _ _ e))

  pub to_falling : rises 0 row ≡ false → Some NotSame ≡ reference_reason p s aim v u (slice_get s.rows u)
  unfolding tests
  to_falling e = if_fails (and_right (not (u == v)) _ (and_right (share_warrior (p.warrior v) (p.warrior u)) _ (and_left _ _ e)))

  pub to_no_fights : are_fights p row ≡ false → Some NotSame ≡ reference_reason p s aim v u (slice_get s.rows u)
  unfolding tests
  to_no_fights e = if_fails (and_right (not (u == v)) _ (and_right (share_warrior (p.warrior v) (p.warrior u)) _ (and_right (rises 0 row) _ e)))

  module _ (other : u ≢ v) (shared : share_warrior (p.warrior v) (p.warrior u) ≡ true) (up : rises 0 row ≡ true) (there : are_fights p row ≡ true) where
    pass : tests ≡ true
    unfolding tests
    pass = and_from _ _ (ap not (ne_eqb u v other)) (and_from _ _ shared (and_from _ _ up there))

    pub to_fine : stays_below s.answer (listed_cap p row) v ≡ true → is_exact p aim s.rows v row ≡ true → None ≡ reference_reason p s aim v u (slice_get s.rows u)
    unfolding listed_reason tests
    to_fine low all = sym (by_row ∙ rw (pass, low, all) refl)

    pub to_contending : stays_below s.answer (listed_cap p row) v ≡ true → is_exact p aim s.rows v row ≡ false → Some CapTooHigh ≡ reference_reason p s aim v u (slice_get s.rows u)
    unfolding listed_reason tests
    to_contending low some = sym (by_row ∙ rw (pass, low, some) refl)

    pub to_high : stays_below s.answer (listed_cap p row) v ≡ false → Some CapTooHigh ≡ reference_reason p s aim v u (slice_get s.rows u)
    unfolding listed_reason tests
    to_high high = sym (by_row ∙ rw (pass, high) refl)
