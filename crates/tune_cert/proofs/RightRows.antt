-- Nothing is wrong with a row exactly if it is right.
use Rattle.std.proofs.Common.{◌≡◌, ◌≢◌, ℕ, arith, Bool, true, false, List, [], ◌∷◌, length, Option, Some, None, refl, sym, ◌∙◌, ap, subst}
use Rattle.std.specs.Prelude.{not, ◌||◌, ◌&&◌, ◌==◌, is_none, option_and_then}
use Rattle.std.specs.List.{slice_get}
use Rattle.std.proofs.lemmas.Bool.{and_from, and_parts, or_left, or_right, eq-eqb, ne_eqb}
use Rattle.std.proofs.lemmas.Option.{slice_get_within}
use Rattle.rc_instr.specs.Warrior.{WarriorView}
use Rattle.tune_problem.specs.Problem.{Problem}
use Rattle.tune_problem.specs.Optimum.{cap_of}
use Rattle.tune_problem.specs.Valid.{IsCapRow, IsRightBy, listed_indices}
use Rattle.tune_problem.specs.Exact.{fights_of, listed_cap, listed_for}
use Rattle.tune_problem.specs.declared.aim.Aim.{Aim}
use Rattle.tune_problem.specs.declared.statement.Statement.{Statement}
use Rattle.tune_problem.specs.declared.cert.Row.{Row}
use Rattle.tune_problem.specs.declared.cert.Row.TheVariants.{Refused, Same, Cap}
use Rattle.tune_problem.proofs.Certificates.{some_is}
use Rattle.tune_cert.specs.Checks.{rises, are_fights, has_points, have_points, share_warrior, names, stays_below, is_exact, cap_reason, listed_reason, reference_reason, row_reason, unless, first_of}
use Rattle.tune_cert.specs.declared.verdict.Reason.{Reason}
use Rattle.tune_cert.specs.declared.verdict.Reason.TheVariants.{Malformed, RowCount, BestRow, WrongPoints, RepeatedFight, CapTooHigh, NotSame, NotRefused, Version}
use Rattle.tune_problem.proofs.ListedRanks.{listed_is_cap}
use Rattle.tune_cert.proofs.RowChecks.{cap_row_of, cap_row_rises, cap_row_points}
use Rattle.tune_cert.proofs.EqualWarriors.{share_one, one_share}

-- ---- tests in a row

two_none : (a b : Bool) (r s : Reason) → first_of (unless a r ∷ unless b s ∷ []) ≡ None → (a ≡ true) × (b ≡ true)
two_none true true r s e = (refl, refl)
two_none true false r s e = absurd (cc)
two_none false b r s e = absurd (cc)

three_none : (a b d : Bool) (r s t : Reason) → first_of (unless a r ∷ unless b s ∷ unless d t ∷ []) ≡ None → (a ≡ true) × (b ≡ true) × (d ≡ true)
three_none true b d r s t e = let rest = two_none b d s t e in (refl, rest.0, rest.1)
three_none false b d r s t e = absurd (cc)

-- ---- a refused row

none_is : (o : Option WarriorView) → unless (is_none o) NotRefused ≡ None → o ≡ None
none_is None e = refl
none_is (Some w) e = absurd (cc)

is_none_of : (o : Option WarriorView) → o ≡ None → unless (is_none o) NotRefused ≡ None
is_none_of o e = rw e refl

-- ---- a cap row

points_of_some : (p : Problem) (o : Option WarriorView) (row : List (ℕ × ℕ)) → has_points p o row ≡ true → (w : WarriorView) × (o ≡ Some w) × (have_points p w row ≡ true)
points_of_some p None row e = absurd (cc)
points_of_some p (Some w) row e = (w, refl, e)

pub not_false : (b : Bool) → not b ≡ true → b ≡ false
not_false true e = absurd (cc)
not_false false e = refl

pub or_other : (a b : Bool) → (a || b) ≡ true → a ≡ false → b ≡ true
or_other true b e f = absurd (cc)
or_other false b e f = e

-- a row is right for a statement as `IsRightInShare` says for a certificate, with either answer
abbrev pub IsRightFor : Problem → Statement → (v : ℕ) → Row → Type 0
IsRightFor p s v row =
    IsRightBy p s.rows
    (λ w listed. names s.answer v ≡ false → stays_below s.answer (cap_of p w (listed_indices listed)) v ≡ true)
    (λ w listed. (rises 0 listed ≡ true) × (are_fights p listed ≡ true) × (stays_below s.answer (listed_cap p listed) v ≡ true)) v row

module _ (p : Problem) (s : Statement) (aim : Option Aim) (v : ℕ) (row : List (ℕ × ℕ)) where
  cap_tests : cap_reason p s aim v row ≡ None
      → (rises 0 row ≡ true) × (has_points p (p.warrior v) row ≡ true) × ((names s.answer v || stays_below s.answer (listed_cap p row) v) ≡ true) × (is_exact p aim s.rows v row ≡ true)
  unfolding cap_reason
  cap_tests e =
      let tests = three_none _ _ _ _ _ _ e in
      let low = and_parts (names s.answer v || stays_below s.answer (listed_cap p row) v) _ tests.2 in
      (tests.0, tests.1, low.0, low.1)

  cap_right : cap_reason p s aim v row ≡ None → IsRightFor p s v (Cap row)
  cap_right e =
      let tests = cap_tests e in
      let points = points_of_some p (p.warrior v) row tests.1 in
      let w = points.0 in
      let is_row : IsCapRow p w 0 row = cap_row_of p w 0 row tests.0 points.2 in (
        w,
        points.1,
        is_row,
        λ other. subst (λ (n : ℕ). stays_below s.answer n v ≡ true) (listed_is_cap p w row is_row) (or_other (names s.answer v) _ tests.2 other),
      )

  named_or_low : (b : Bool) → names s.answer v ≡ b → (b ≡ false → stays_below s.answer (listed_cap p row) v ≡ true) → (names s.answer v || stays_below s.answer (listed_cap p row) v) ≡ true
  named_or_low true is low = or_left _ _ is
  named_or_low false is low = or_right (names s.answer v) _ (low refl)

  cap_none : IsRightFor p s v (Cap row) → is_exact p aim s.rows v row ≡ true → cap_reason p s aim v row ≡ None
  unfolding cap_reason
  cap_none (w, is, is_row, low) exact =
      let up = cap_row_rises p w 0 row is_row in
      let points : has_points p (p.warrior v) row ≡ true = ap (λ o. has_points p o row) is ∙ cap_row_points p w 0 row is_row in
      let fine : (names s.answer v || stays_below s.answer (listed_cap p row) v) ≡ true = named_or_low (names s.answer v) refl (λ other.
      subst (λ (n : ℕ). stays_below s.answer n v ≡ true) (sym (listed_is_cap p w row is_row)) (low other)) in
      rw (up, points, fine, exact) refl

-- ---- a row that refers to another setting

cap_here : (p : Problem) (s : Statement) (aim : Option Aim) (v u : ℕ) (o : Option Row) → reference_reason p s aim v u o ≡ None
    → (row : List (ℕ × ℕ)) × (o ≡ Some (Cap row)) × (listed_reason p s aim v u row ≡ None)
cap_here p s aim v u None e = absurd (cc)
cap_here p s aim v u (Some Refused) e = absurd (cc)
cap_here p s aim v u (Some (Same t)) e = absurd (cc)
cap_here p s aim v u (Some (Cap row)) e = (row, refl, e)

eq_not : (u v : ℕ) → not (u == v) ≡ true → u ≢ v
eq_not u v e = λ same. let t : (u == v) ≡ true = eq-eqb u v same in let f : (u == v) ≡ false = not_false (u == v) e in absurd (let both : true ≡ false = sym t ∙ f in cc)

module _ (p : Problem) (s : Statement) (aim : Option Aim) (v u : ℕ) where
  same_right : length s.rows ≡ p.count → reference_reason p s aim v u (slice_get s.rows u) ≡ None → IsRightFor p s v (Same u)
  unfolding listed_reason
  same_right rows_are e =
      let here = cap_here p s aim v u (slice_get s.rows u) e in
      let row = here.0 in
      let tests = two_none _ _ _ _ here.2 in
      let first = and_parts _ _ tests.0 in
      let second = and_parts _ _ first.1 in
      let third = and_parts _ _ second.1 in
      let low = and_parts (stays_below s.answer (listed_cap p row) v) _ tests.1 in
      let one = share_one (p.warrior v) (p.warrior u) second.0 in
      let within = slice_get_within s.rows u (Cap row) here.1 in
      (one.0, row, eq_not u v first.0, omega (arith, within, rows_are), one.1, one.2, here.1, (third.0, third.1, low.0))

  same_exact : reference_reason p s aim v u (slice_get s.rows u) ≡ None → (row : List (ℕ × ℕ)) × (slice_get s.rows u ≡ Some (Cap row)) × (is_exact p aim s.rows v row ≡ true)
  unfolding listed_reason
  same_exact e =
      let here = cap_here p s aim v u (slice_get s.rows u) e in
      let tests = two_none _ _ _ _ here.2 in
      (here.0, here.1, (and_parts (stays_below s.answer (listed_cap p here.0) v) _ tests.1).1)

  same_none : IsRightFor p s v (Same u) → ((row : List (ℕ × ℕ)) → slice_get s.rows u ≡ Some (Cap row) → is_exact p aim s.rows v row ≡ true)
      → reference_reason p s aim v u (slice_get s.rows u) ≡ None
  unfolding listed_reason
  same_none (w, row, other, inside, own, theirs, at, (up, there, low)) exact =
      let tests : not (u == v) && (share_warrior (p.warrior v) (p.warrior u) && (rises 0 row && are_fights p row)) ≡ true =
      and_from _ _ (ap not (ne_eqb u v other)) (and_from _ _ (one_share (p.warrior v) (p.warrior u) w own theirs) (and_from _ _ up there)) in
      let all : is_exact p aim s.rows v row ≡ true = exact row at in
      ap (reference_reason p s aim v u) at ∙ rw (tests, low, all) refl

-- ---- any row

pub right_if_none : (p : Problem) (s : Statement) (aim : Option Aim) → length s.rows ≡ p.count → (v : ℕ) (row : Row) → row_reason p s aim v row ≡ None → IsRightFor p s v row
right_if_none p s aim rows_are v Refused e = none_is (p.warrior v) e
right_if_none p s aim rows_are v (Same u) e = same_right p s aim v u rows_are e
right_if_none p s aim rows_are v (Cap row) e = cap_right p s aim v row e

-- what is listed for the setting of a row is exact
abbrev pub IsExactRow : Problem → Option Aim → List Row → ℕ → Row → Type 0
IsExactRow p aim rows v row = (fights : List (ℕ × ℕ)) → listed_for rows row ≡ Some fights → is_exact p aim rows v fights ≡ true

pub exact_if_none : (p : Problem) (s : Statement) (aim : Option Aim) (v : ℕ) (row : Row) → row_reason p s aim v row ≡ None → IsExactRow p aim s.rows v row
exact_if_none p s aim v Refused e fights at = absurd (cc)
exact_if_none p s aim v (Same u) e fights at =
    let own = same_exact p s aim v u e in
    let one : Some own.0 ≡ Some fights = sym (ap (option_and_then fights_of) own.1) ∙ at in
    subst (λ (f : List (ℕ × ℕ)). is_exact p aim s.rows v f ≡ true) (some_is own.0 fights one) own.2
exact_if_none p s aim v (Cap row) e fights at = subst (λ (f : List (ℕ × ℕ)). is_exact p aim s.rows v f ≡ true) (some_is row fights at) (cap_tests p s aim v row e).3

pub none_if_right : (p : Problem) (s : Statement) (aim : Option Aim) (v : ℕ) (row : Row) → IsRightFor p s v row → IsExactRow p aim s.rows v row → row_reason p s aim v row ≡ None
none_if_right p s aim v Refused h exact = is_none_of (p.warrior v) h
none_if_right p s aim v (Same u) h exact = same_none p s aim v u h (λ row at. exact row (ap (option_and_then fights_of) at))
none_if_right p s aim v (Cap row) h exact = cap_none p s aim v row h (exact row refl)

-- without an aim every row will do
pub no_aim : (p : Problem) (rows : List Row) (v : ℕ) (row : Row) → IsExactRow p None rows v row
unfolding is_exact
no_aim p rows v row fights at = refl

-- ---- the reasons that a row can have

abbrev pub IsOfRow : Reason → Type 0
IsOfRow Malformed = ⊥
IsOfRow Version = ⊥
IsOfRow RowCount = ⊥
IsOfRow BestRow = ⊥
IsOfRow WrongPoints = Unit {0}
IsOfRow RepeatedFight = Unit {0}
IsOfRow CapTooHigh = Unit {0}
IsOfRow NotSame = Unit {0}
IsOfRow NotRefused = Unit {0}

of_row : (r x : Reason) → IsOfRow r → Some r ≡ Some x → IsOfRow x
of_row r x h e = let same : r ≡ x = cc in subst IsOfRow same h

two_some : (a b : Bool) (r s x : Reason) → IsOfRow r → IsOfRow s → first_of (unless a r ∷ unless b s ∷ []) ≡ Some x → IsOfRow x
two_some false b r s x f g e = of_row r x f e
two_some true false r s x f g e = of_row s x g e
two_some true true r s x f g e = absurd (cc)

three_some : (a b d : Bool) (r s t x : Reason) → IsOfRow r → IsOfRow s → IsOfRow t → first_of (unless a r ∷ unless b s ∷ unless d t ∷ []) ≡ Some x → IsOfRow x
three_some false b d r s t x f g h e = of_row r x f e
three_some true b d r s t x f g h e = two_some b d s t x g h e

one_some : (a : Bool) (r x : Reason) → IsOfRow r → unless a r ≡ Some x → IsOfRow x
one_some false r x f e = of_row r x f e
one_some true r x f e = absurd (cc)

cap_some : (p : Problem) (s : Statement) (aim : Option Aim) (v : ℕ) (row : List (ℕ × ℕ)) (x : Reason) → cap_reason p s aim v row ≡ Some x → IsOfRow x
unfolding cap_reason
cap_some p s aim v row x e = three_some _ _ _ RepeatedFight WrongPoints CapTooHigh x tt tt tt e

listed_some : (p : Problem) (s : Statement) (aim : Option Aim) (v u : ℕ) (row : List (ℕ × ℕ)) (x : Reason) → listed_reason p s aim v u row ≡ Some x → IsOfRow x
unfolding listed_reason
listed_some p s aim v u row x e = two_some _ _ NotSame CapTooHigh x tt tt e

same_some : (p : Problem) (s : Statement) (aim : Option Aim) (v u : ℕ) (o : Option Row) (x : Reason) → reference_reason p s aim v u o ≡ Some x → IsOfRow x
same_some p s aim v u None x e = of_row NotSame x tt e
same_some p s aim v u (Some Refused) x e = of_row NotSame x tt e
same_some p s aim v u (Some (Same t)) x e = of_row NotSame x tt e
same_some p s aim v u (Some (Cap row)) x e = listed_some p s aim v u row x e

pub row_some : (p : Problem) (s : Statement) (aim : Option Aim) (v : ℕ) (row : Row) (x : Reason) → row_reason p s aim v row ≡ Some x → IsOfRow x
row_some p s aim v Refused x e = one_some _ NotRefused x tt e
row_some p s aim v (Same u) x e = same_some p s aim v u (slice_get s.rows u) x e
row_some p s aim v (Cap row) x e = cap_some p s aim v row x e
