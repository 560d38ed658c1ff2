-- A share accepts a certificate exactly if it is valid in the share, and it is valid exactly if it
-- is valid in each share.
use Rattle.std.proofs.Common.{◌≡◌, ◌≢◌, ℕ, ◌+◌, ◌-◌, ◌<◌, ◌≤◌, arith, Bool, true, false, [], ◌∷◌, length, Option, Some, None, refl, sym, ◌∙◌, ap, subst}
use Rattle.std.specs.Prelude.{not, ◌||◌, ◌==◌}
use Rattle.std.specs.List.{slice_get, list_all}
use Rattle.std.proofs.lemmas.Bool.{and_from, and_parts, or_left, or_right, eqb-true, eq-eqb, ne_eqb, false_from_ne_true}
use Rattle.std.proofs.lemmas.Option.{slice_get_within}
use Rattle.rc_instr.specs.Warrior.{WarriorView}
use Rattle.tune_problem.specs.Parts.{part, whole, part_first, part_end}
use Rattle.tune_problem.specs.Problem.{Problem, IsProblem}
use Rattle.tune_problem.specs.Optimum.{beats, all_fights}
use Rattle.tune_problem.specs.Valid.{listed_total, IsVersionOf, IsOwnVersion, IsCapRow, IsRightRow, IsValid}
use Rattle.tune_problem.specs.declared.aim.Aim.{Aim}
use Rattle.tune_problem.specs.declared.cert.Cert.{Cert}
use Rattle.tune_problem.specs.declared.statement.Statement.{Statement}
use Rattle.tune_problem.specs.declared.cert.Row.{Row}
use Rattle.tune_problem.specs.declared.cert.Row.TheVariants.{Refused, Same, Cap}
use Rattle.tune_problem.specs.declared.part.Part.{Part}
use Rattle.tune_problem.proofs.CapRows.{whole as whole_row}
use Rattle.tune_problem.proofs.Certificates.{some_is, same_number}
use Rattle.tune_problem.proofs.WholeOfParts.{in_a_part}
use Rattle.tune_cert.specs.Checks.{alone_reason, same_reason, row_reason, reason_at, rows_failure, share_settings, failure_by, first_wrong, first_of, is_version_of, has_row_count, is_best_row}
use Rattle.tune_cert.specs.CertText.{stated}
use Rattle.tune_cert.specs.Shares.{IsRightInShare, IsValidInShare}
use Rattle.tune_cert.specs.Verdict.{IsBestRow}
use Rattle.tune_cert.specs.declared.verdict.Reason.{Reason}
use Rattle.tune_problem.proofs.ListedRanks.{listed_is_cap}
use Rattle.tune_cert.proofs.RowChecks.{cap_row_rises, cap_row_points, points_fights, all_indices, indices_all, all_listed}
use Rattle.tune_cert.proofs.RightRows.{IsRightFor, not_false, right_if_none, none_if_right, no_aim}
use Rattle.tune_cert.proofs.FirstWrong.{none_each, each_none, both_none, reason_here, here_reason, chain, chain_none, all_each, each_all}
use Rattle.std.proofs.Common.{inl, inr}

-- ---- the checks before the rows

pub version_right : (p : Problem) (version : ℕ) → is_version_of p version ≡ true → IsVersionOf p version
version_right p version e one k l = eqb-true (p.weight k) 1 (all_each (λ j. p.weight j == 1) p.fights 0 plain k (omega arith) (omega (arith, l)))
  where
    other : (a b : Bool) → (not a || b) ≡ true → a ≡ true → b ≡ true
    other true b h t = h
    other false b h t = absurd (cc)

    plain : list_all (λ j. p.weight j == 1) (all_fights p) ≡ true
    plain = other (version == 1) _ e (eq-eqb version 1 one)

pub right_version : (p : Problem) (version : ℕ) → IsVersionOf p version → is_version_of p version ≡ true
right_version p version h = elim (same_number version 1) [
  | inl one ↦
      or_right (not (version == 1)) _ (each_all (λ j. p.weight j == 1) p.fights 0 (λ k low high. eq-eqb (p.weight k) 1 (h one k (omega (arith, high)))))
  | inr other ↦ or_left _ _ (ap not (ne_eqb version 1 other))
]

-- there is a row for each setting, and this count is claimed
abbrev pub HasCount : Problem → Statement → Type 0
HasCount p s = (s.count ≡ p.count) × (length s.rows ≡ p.count)

pub count_right : (p : Problem) (s : Statement) → has_row_count p s ≡ true → HasCount p s
count_right p s e = let parts = and_parts _ _ e in (eqb-true s.count p.count parts.0, eqb-true (length s.rows) p.count parts.1)

pub right_count : (p : Problem) (s : Statement) → HasCount p s → has_row_count p s ≡ true
right_count p s h = and_from _ _ (eq-eqb s.count p.count h.0) (eq-eqb (length s.rows) p.count h.1)

best_row_at : (p : Problem) (c : Cert) (o : Option Row) → slice_get c.rows c.best ≡ o → is_best_row p c.total o ≡ true → IsBestRow p c
best_row_at p c None at e = absurd (cc)
best_row_at p c (Some Refused) at e = absurd (cc)
best_row_at p c (Some (Same u)) at e = absurd (cc)
best_row_at p c (Some (Cap row)) at e =
    let parts = and_parts _ _ e in
    record { row = row; here = at; every = all_indices p row parts.0; sums = eqb-true (listed_total p row) c.total parts.1 }

pub best_right : (p : Problem) (c : Cert) → is_best_row p c.total (slice_get c.rows c.best) ≡ true → IsBestRow p c
best_right p c e = best_row_at p c (slice_get c.rows c.best) refl e

pub right_best : (p : Problem) (c : Cert) → IsBestRow p c → is_best_row p c.total (slice_get c.rows c.best) ≡ true
right_best p c h =
    ap (is_best_row p c.total) h.here ∙ and_from _ _ (indices_all p h.row h.every) (eq-eqb (listed_total p h.row) c.total h.sums)

-- ---- a row that is right in a share

module _ (p : Problem) (c : Cert) where
  pub right_in_share : (v : ℕ) (row : Row) → IsRightFor p (stated c) v row → IsRightInShare p c v row
  right_in_share v Refused h = h
  right_in_share v (Cap row) (w, is, is_row, low) = (w, is, is_row, λ other. not_false _ (low (ne_eqb v c.best other)))
  right_in_share v (Same u) (w, row, other, l, own, theirs, at, (up, there, low)) = (w, row, other, l, own, theirs, at, (up, there, not_false _ low))

  pub in_share_right : (v : ℕ) (row : Row) → IsRightInShare p c v row → IsRightFor p (stated c) v row
  in_share_right v Refused h = h
  in_share_right v (Cap row) (w, is, is_row, low) = (w, is, is_row, λ other. ap not (low (λ same. let named = eq-eqb v c.best same in let both : true ≡ false = sym named ∙ other in cc)))
  in_share_right v (Same u) (w, row, other, l, own, theirs, at, (up, there, low)) = (w, row, other, l, own, theirs, at, (up, there, ap not low))

-- ---- a row by its two checks

split_row : (p : Problem) (s : Statement) (aim : Option Aim) (v : ℕ) (row : Row) → alone_reason p s aim v row ≡ None → same_reason p s aim v row ≡ None → row_reason p s aim v row ≡ None
split_row p s aim v Refused alone same = alone
split_row p s aim v (Same u) alone same = same
split_row p s aim v (Cap row) alone same = alone

alone_none : (p : Problem) (s : Statement) (aim : Option Aim) (v : ℕ) (row : Row) → row_reason p s aim v row ≡ None → alone_reason p s aim v row ≡ None
alone_none p s aim v Refused e = e
alone_none p s aim v (Same u) e = refl
alone_none p s aim v (Cap row) e = e

same_none : (p : Problem) (s : Statement) (aim : Option Aim) (v : ℕ) (row : Row) → row_reason p s aim v row ≡ None → same_reason p s aim v row ≡ None
same_none p s aim v Refused e = refl
same_none p s aim v (Same u) e = e
same_none p s aim v (Cap row) e = refl

-- ---- what a share accepts is valid in it

-- the first failure by the four checks
pub chain_by : (p : Problem) (share : Part) (s : Statement) (answered : Bool) (aim : Option Aim) (a b d : Bool) (o : Option (ℕ × Reason)) → is_version_of p s.version ≡ a → has_row_count p s ≡ b
    → answered ≡ d → rows_failure p s aim (share_settings share p.count) ≡ o → failure_by p share answered aim s ≡ chain a b d o
unfolding failure_by
chain_by p share s answered aim a b d o e f g h =
    let rows = rows_failure p s aim (share_settings share p.count) in
    ap (λ x. chain x (has_row_count p s) answered rows) e ∙ (ap (λ x. chain a x answered rows) f ∙ (ap (λ x. chain a b x rows) g ∙ ap (chain a b d) h))

-- nothing is wrong with the rows of a share exactly if nothing is with each
module _ (p : Problem) (share : Part) (s : Statement) (aim : Option Aim) where
  abbrev pub RowsRight : Type 0
  RowsRight = (v : ℕ) (row : Row) → part_first share p.count ≤ v → v < part_end share p.count → slice_get s.rows v ≡ Some row → row_reason p s aim v row ≡ None

  pub rows_each : rows_failure p s aim (share_settings share p.count) ≡ None → RowsRight
  rows_each e v row low high at =
      let inside : v < part_first share p.count + (part_end share p.count - part_first share p.count) = omega (arith, low, high) in
      let parts = both_none _ _ e in
      let alone = none_each (reason_at (alone_reason p s aim) s.rows) (part_end share p.count - part_first share p.count) (part_first share p.count) parts.0 v low inside in
      let same = none_each (reason_at (same_reason p s aim) s.rows) (part_end share p.count - part_first share p.count) (part_first share p.count) parts.1 v low inside in
      split_row p s aim v row (reason_here (alone_reason p s aim) s.rows v row None at alone) (reason_here (same_reason p s aim) s.rows v row None at same)

  pub each_rows : RowsRight → rows_failure p s aim (share_settings share p.count) ≡ None
  each_rows right =
      let first = part_first share p.count in
      let each : (v : ℕ) (row : Row) → first ≤ v → v < first + (part_end share p.count - first) → slice_get s.rows v ≡ Some row → row_reason p s aim v row ≡ None =
      λ v row low high at. right v row low (omega (arith, low, high)) at in
      let alone = each_none (reason_at (alone_reason p s aim) s.rows) (part_end share p.count - first) first
      (λ v low high. here_reason (alone_reason p s aim) s.rows v None (λ row at. alone_none p s aim v row (each v row low high at)) refl) in
      let same = each_none (reason_at (same_reason p s aim) s.rows) (part_end share p.count - first) first
      (λ v low high. here_reason (same_reason p s aim) s.rows v None (λ row at. same_none p s aim v row (each v row low high at)) refl) in
      ap (λ o. first_of (o ∷ first_wrong (reason_at (same_reason p s aim) s.rows) (share_settings share p.count) ∷ [])) alone ∙ ap (λ o. first_of (None ∷ o ∷ [])) same

  -- nothing is wrong exactly if each of the four checks finds nothing
  pub four_checks : (answered : Bool) → failure_by p share answered aim s ≡ None → IsVersionOf p s.version × HasCount p s × (answered ≡ true) × RowsRight
  unfolding failure_by
  four_checks answered e =
      let checks = chain_none _ _ _ _ e in
      (version_right p s.version checks.0, count_right p s checks.1, checks.2, rows_each checks.3)

  pub checks_four : (answered : Bool) → IsVersionOf p s.version → HasCount p s → answered ≡ true → RowsRight → failure_by p share answered aim s ≡ None
  checks_four answered version count answer right =
      chain_by p share s answered aim true true true None (right_version p s.version version) (right_count p s count) answer (each_rows right)

-- the first failure of a certificate without a demand
abbrev pub first_failure : Problem → Part → Cert → Option (ℕ × Reason)
first_failure p share c = failure_by p share (is_best_row p c.total (slice_get c.rows c.best)) None (stated c)

module _ (p : Problem) (share : Part) (c : Cert) where
  pub valid_if_none : first_failure p share c ≡ None → IsValidInShare p share c
  valid_if_none e =
      let checks = four_checks p share (stated c) None (is_best_row p c.total (slice_get c.rows c.best)) e in
      let best = best_right p c checks.2 in
      record {
        version_is = checks.0;
        count_is = checks.1.0;
        rows_are = checks.1.1;
        best_row = best.row;
        best_at = best.here;
        every = best.every;
        sums = best.sums;
        right = λ v row low high at. right_in_share p c v row (right_if_none p (stated c) None checks.1.1 v row (checks.3 v row low high at));
      }

  pub none_if_valid : IsValidInShare p share c → first_failure p share c ≡ None
  none_if_valid valid =
      checks_four p share (stated c) None (is_best_row p c.total (slice_get c.rows c.best)) valid.version_is (valid.count_is, valid.rows_are)
      (right_best p c (record { row = valid.best_row; here = valid.best_at; every = valid.every; sums = valid.sums }))
      (λ v row low high at. none_if_right p (stated c) None v row (in_share_right p c v row (valid.right v row low high at)) (no_aim p c.rows v row))

-- ---- all shares together

-- rows that are all right in a share are right, and the other way round
module _ (p : Problem) (c : Cert) where
  pub all_right : ((v : ℕ) (row : Row) → slice_get c.rows v ≡ Some row → IsRightInShare p c v row) → (v : ℕ) (row : Row) → slice_get c.rows v ≡ Some row → IsRightRow p c v row
  all_right each v Refused at = each v Refused at
  all_right each v (Cap row) at = each v (Cap row) at
  all_right each v (Same u) at =
      let h = each v (Same u) at in
      let w = h.0 in
      let row = h.1 in
      let of = each u (Cap row) h.6 in
      let same : of.0 ≡ w = some_is _ _ (sym of.1 ∙ h.5) in
      let is_row : IsCapRow p w 0 row = subst (λ (x : WarriorView). IsCapRow p x 0 row) same of.2 in
      (w, row, h.2, h.3, h.4, h.5, h.6, subst (λ (n : ℕ). beats n v c.total c.best ≡ false) (listed_is_cap p w row is_row) h.7.2)

  pub right_all : ((v : ℕ) (row : Row) → slice_get c.rows v ≡ Some row → IsRightRow p c v row) → (v : ℕ) (row : Row) → IsRightRow p c v row → IsRightInShare p c v row
  right_all each v Refused h = h
  right_all each v (Cap row) h = h
  right_all each v (Same u) (w, row, other, l, own, theirs, at, low) =
      let of = each u (Cap row) at in
      let same : of.0 ≡ w = some_is _ _ (sym of.1 ∙ theirs) in
      let is_row : IsCapRow p w 0 row = subst (λ (x : WarriorView). IsCapRow p x 0 row) same of.2 in (
        w,
        row,
        other,
        l,
        own,
        theirs,
        at,
        (
          cap_row_rises p w 0 row is_row,
          points_fights p w row (cap_row_points p w 0 row is_row),
          subst (λ (n : ℕ). beats n v c.total c.best ≡ false) (sym (listed_is_cap p w row is_row)) low,
        ),
      )

  module _ (shares : ℕ) (some : 1 ≤ shares) (each : (n : ℕ) → 1 ≤ n → n ≤ shares → IsValidInShare p (part n shares) c) where
    one : IsValidInShare p (part 1 shares) c
    one = each 1 (omega arith) some

    inside : (v : ℕ) (row : Row) → slice_get c.rows v ≡ Some row → v < p.count
    inside v row at = let within = slice_get_within c.rows v row at in omega (arith, within, one.rows_are)

    share_right : (v : ℕ) (row : Row) → slice_get c.rows v ≡ Some row → IsRightInShare p c v row
    share_right v row at =
        let found = in_a_part p.count shares some v (inside v row at) in
        (each found.0 found.1 found.2).right v row found.3 found.4 at

    pub valid_of_shares : IsValid p c
    valid_of_shares = record {
      version_is = one.version_is;
      count_is = one.count_is;
      rows_are = one.rows_are;
      best_row = one.best_row;
      best_inside = inside c.best (Cap one.best_row) one.best_at;
      best_at = one.best_at;
      whole = all_listed p one.best_row one.every;
      sums = one.sums;
      right = all_right share_right;
    }

  module _ (laws : IsProblem p) (valid : IsValid p c) where
    pub valid_in_shares : (share : Part) → IsValidInShare p share c
    valid_in_shares share =
        let h = valid.right c.best (Cap valid.best_row) valid.best_at in
        record {
          version_is = valid.version_is;
          count_is = valid.count_is;
          rows_are = valid.rows_are;
          best_row = valid.best_row;
          best_at = valid.best_at;
          every = whole_row p laws h.0 p.fights 0 valid.best_row (omega arith) h.2 valid.whole;
          sums = valid.sums;
          right = λ v row low high at. right_all valid.right v row (valid.right v row at);
        }

  -- the whole is share 1 of 1
  pub valid_if_whole : IsValidInShare p whole c → IsValid p c
  valid_if_whole valid = valid_of_shares 1 (omega arith) (λ n low high. let one : n ≡ 1 = omega (arith, low, high) in subst (λ (k : ℕ). IsValidInShare p (part k 1) c) (sym one) valid)

-- ---- the version

-- whether the version is one for the schedule, by the version that a search would write
pub own_version : (p : Problem) (own : ℕ) → IsOwnVersion p own → (own == 1) ≡ list_all (λ k. p.weight k == 1) (all_fights p)
own_version p own (inl h) = eq-eqb own 1 h.0 ∙ sym (each_all (λ k. p.weight k == 1) p.fights 0 (λ k low high. eq-eqb (p.weight k) 1 (h.1 k (omega (arith, high)))))
own_version p own (inr h) =
    let other : (own == 1) ≡ false = ne_eqb own 1 (λ e. omega (arith, e, h.0)) in
    let none : list_all (λ k. p.weight k == 1) (all_fights p) ≡ false =
    false_from_ne_true _ (λ t. h.1 (λ k l. eqb-true (p.weight k) 1 (all_each (λ j. p.weight j == 1) p.fights 0 t k (omega arith) (omega (arith, l))))) in
    other ∙ sym none

pub first_version : (p : Problem) (version own : ℕ) (r : Bool) → version ≡ 1 → IsOwnVersion p own → r ≡ (own == 1) → r ≡ is_version_of p version
first_version p version own r one h is = rw one (is ∙ own_version p own h)

pub other_version : (p : Problem) (version : ℕ) → version ≢ 1 → true ≡ is_version_of p version
other_version p version other = sym (or_left _ _ (ap not (ne_eqb version 1 other)))
