-- What a verdict on all rows promises.
use Rattle.std.proofs.Common.{◌≡◌, inl, inr, ℕ, ◌+◌, ◌-◌, ◌<◌, ◌≤◌, arith, Bool, true, false, List, length, Option, Some, None, Result, Ok, Err, refl, sym, ◌∙◌, ap, subst}
use Rattle.std.specs.List.{slice_get}
use Rattle.std.proofs.lemmas.Option.{slice_get_within}
use Rattle.tables.specs.Records.{Fields}
use Rattle.tune_problem.specs.Parts.{whole, part_first, part_end}
use Rattle.tune_problem.specs.Problem.{Problem, IsProblem}
use Rattle.tune_problem.specs.Valid.{IsVersionOf, IsValid}
use Rattle.tune_problem.specs.declared.cert.Cert.{Cert}
use Rattle.tune_problem.specs.declared.cert.Row.{Row}
use Rattle.tune_problem.specs.declared.cert.Row.TheVariants.{Refused, Same, Cap}
use Rattle.tune_problem.specs.declared.part.Part.{Part}
use Rattle.tune_problem.proofs.Certificates.{valid_is_optimum, valid_total}
use Rattle.tune_cert.proofs.ShareBounds.{whole_bounds}
use Rattle.tune_cert.specs.CertText.{stated}
use Rattle.tune_cert.specs.Spelling.{Spells, record_of, cert_of_records}
use Rattle.tune_cert.specs.Checks.{refers, alone_reason, same_reason, row_reason, reason_at, first_wrong, rows_failure, share_settings, failure_by, is_version_of, has_row_count, is_best_row}
use Rattle.tune_cert.specs.Verdict.{IsVerdictOf, HasRowCount, IsBestRow, IsWrongRow, IsRejected, IsCheckedBefore, IsFirstRow, IsFirst, IsRightVerdict}
use Rattle.tune_cert.specs.declared.verdict.Reason.{Reason}
use Rattle.tune_cert.specs.declared.verdict.Reason.TheVariants.{Malformed, RowCount, BestRow, WrongPoints, RepeatedFight, CapTooHigh, NotSame, NotRefused, Version}
use Rattle.tune_cert.specs.declared.verdict.Verdict.{Verdict}
use Rattle.tune_cert.specs.declared.verdict.Verdict.TheVariants.{Accepted, Rejected}
use Rattle.tune_cert.proofs.Statements.{one_spelled, none_malformed, cert_spelled, cert_malformed}
use Rattle.tune_cert.proofs.RightRows.{IsOfRow, row_some}
use Rattle.tune_cert.proofs.FirstWrong.{IsFound, none_each, found, two_walks_some, reason_here, wrong_row, Chain, at_version, at_count, at_best, at_rows, chain_some}
use Rattle.tune_cert.proofs.PlainChecks.{verdict_by, verdict_on_read, one_judged, verdict_is}
use Rattle.tune_cert.proofs.ValidShares.{first_failure, version_right, right_version, count_right, right_count, best_right, right_best, valid_if_none, none_if_valid, valid_in_shares, valid_if_whole}

-- ---- the first wrong row

module _ (p : Problem) (c : Cert) (rows_are : length c.rows ≡ p.count) where
  inside : (v : ℕ) (row : Row) → slice_get c.rows v ≡ Some row → v < part_first whole p.count + (part_end whole p.count - part_first whole p.count)
  inside v row at = let within = slice_get_within c.rows v row at in let bounds = whole_bounds p.count in omega (arith, within, rows_are, bounds.0, bounds.1)

  low : (v : ℕ) → part_first whole p.count ≤ v
  low v = let bounds = whole_bounds p.count in omega (arith, bounds.0)

  -- a walk over all rows finds the first
  by_walk : (check : ℕ → Row → Option Reason) (index : ℕ) (reason : Reason) → IsFound (reason_at check c.rows) (part_first whole p.count) (part_end whole p.count - part_first whole p.count) index reason
      → (v : ℕ) × (row : Row) × (index ≡ record_of v) × (slice_get c.rows v ≡ Some row) × (check v row ≡ Some reason)
      × ((u : ℕ) (r : Row) → u < v → slice_get c.rows u ≡ Some r → check u r ≡ None)
  by_walk check index reason i =
      let here = wrong_row check c.rows i.vector reason i.wrong in (
        i.vector,
        here.0,
        i.index_is,
        here.1,
        here.2,
        λ u r l at. reason_here check c.rows u r None at (i.before u (low u) l),
      )

  alone_all : (check : ℕ → Row → Option Reason) → first_wrong (reason_at check c.rows) (share_settings whole p.count) ≡ None → (u : ℕ) (r : Row) → slice_get c.rows u ≡ Some r → check u r ≡ None
  alone_all check e u r at =
      reason_here check c.rows u r None at (none_each (reason_at check c.rows) (part_end whole p.count - part_first whole p.count) (part_first whole p.count) e u (low u) (inside u r at))

  -- the row that a check of refused and cap rows finds
  alone_is : (v : ℕ) (row : Row) (reason : Reason) → alone_reason p (stated c) None v row ≡ Some reason → (refers row ≡ false) × (row_reason p (stated c) None v row ≡ Some reason)
  alone_is v Refused reason e = (refl, e)
  alone_is v (Same u) reason e = absurd (cc)
  alone_is v (Cap row) reason e = (refl, e)

  same_is : (v : ℕ) (row : Row) (reason : Reason) → same_reason p (stated c) None v row ≡ Some reason → (refers row ≡ true) × (row_reason p (stated c) None v row ≡ Some reason)
  same_is v Refused reason e = absurd (cc)
  same_is v (Same u) reason e = (refl, e)
  same_is v (Cap row) reason e = absurd (cc)

  -- what is checked before a refused or a cap row
  before_alone : (v : ℕ) (row : Row) → refers row ≡ false → ((u : ℕ) (r : Row) → u < v → slice_get c.rows u ≡ Some r → alone_reason p (stated c) None u r ≡ None)
      → (u : ℕ) (r : Row) → slice_get c.rows u ≡ Some r → IsCheckedBefore u r v row → row_reason p (stated c) None u r ≡ None
  before_alone v Refused f h u Refused at l = h u Refused l at
  before_alone v Refused f h u (Same s) at l = absurd l
  before_alone v Refused f h u (Cap r) at l = h u (Cap r) l at
  before_alone v (Same t) f h u r at l = absurd (cc)
  before_alone v (Cap row) f h u Refused at l = h u Refused l at
  before_alone v (Cap row) f h u (Same s) at l = absurd l
  before_alone v (Cap row) f h u (Cap r) at l = h u (Cap r) l at

  -- what is checked before a row that refers to another setting
  before_same : (v : ℕ) (row : Row) → refers row ≡ true → ((u : ℕ) (r : Row) → slice_get c.rows u ≡ Some r → alone_reason p (stated c) None u r ≡ None)
      → ((u : ℕ) (r : Row) → u < v → slice_get c.rows u ≡ Some r → same_reason p (stated c) None u r ≡ None)
      → (u : ℕ) (r : Row) → slice_get c.rows u ≡ Some r → IsCheckedBefore u r v row → row_reason p (stated c) None u r ≡ None
  before_same v Refused f a h u r at l = absurd (cc)
  before_same v (Cap row) f a h u r at l = absurd (cc)
  before_same v (Same t) f a h u Refused at l = a u Refused at
  before_same v (Same t) f a h u (Same s) at l = h u (Same s) l at
  before_same v (Same t) f a h u (Cap r) at l = a u (Cap r) at

  row_found : (index : ℕ) (reason : Reason) → rows_failure p (stated c) None (share_settings whole p.count) ≡ Some (index, reason) → IsWrongRow p c index reason × IsFirstRow p c index
  row_found index reason e = elim (two_walks_some _ _ _ e) [
    | inl alone ↦
        let i = by_walk (alone_reason p (stated c) None) index reason (found (reason_at (alone_reason p (stated c) None) c.rows) _ _ index reason alone) in
        let is = alone_is i.0 i.1 reason i.4 in (
          record { vector = i.0; index_is = i.2; row = i.1; here = i.3; wrong = is.1 },
          record { vector = i.0; index_is = i.2; row = i.1; here = i.3; before = before_alone i.0 i.1 is.0 i.5 },
        )
    | inr same ↦
        let i = by_walk (same_reason p (stated c) None) index reason (found (reason_at (same_reason p (stated c) None) c.rows) _ _ index reason same.1) in
        let is = same_is i.0 i.1 reason i.4 in (
          record { vector = i.0; index_is = i.2; row = i.1; here = i.3; wrong = is.1 },
          record { vector = i.0; index_is = i.2; row = i.1; here = i.3; before = before_same i.0 i.1 is.0 (alone_all (alone_reason p (stated c) None) same.0) i.5 },
        )
  ]

-- ---- a rejection

rejected_row : (p : Problem) (c : Cert) (index : ℕ) (reason : Reason) → IsOfRow reason → IsWrongRow p c index reason → IsRejected p c index reason
rejected_row p c index Malformed o w = absurd o
rejected_row p c index Version o w = absurd o
rejected_row p c index RowCount o w = absurd o
rejected_row p c index BestRow o w = absurd o
rejected_row p c index WrongPoints o w = w
rejected_row p c index RepeatedFight o w = w
rejected_row p c index CapTooHigh o w = w
rejected_row p c index NotSame o w = w
rejected_row p c index NotRefused o w = w

first_row : (p : Problem) (records : List Fields) (c : Cert) (index : ℕ) (reason : Reason) → IsOfRow reason → Spells records c
    → IsVersionOf p c.version × HasRowCount p c × IsBestRow p c × IsFirstRow p c index → IsFirst p records (Rejected index reason)
first_row p records c index Malformed o s f = absurd o
first_row p records c index Version o s f = absurd o
first_row p records c index RowCount o s f = absurd o
first_row p records c index BestRow o s f = absurd o
first_row p records c index WrongPoints o s f = (c, s, f)
first_row p records c index RepeatedFight o s f = (c, s, f)
first_row p records c index CapTooHigh o s f = (c, s, f)
first_row p records c index NotSame o s f = (c, s, f)
first_row p records c index NotRefused o s f = (c, s, f)

fails_not : {P : Type 0} (b : Bool) → (P → b ≡ true) → b ≡ false → P → ⊥
fails_not b h e x = let t = h x in let both : true ≡ false = sym t ∙ e in absurd (cc)

module _ (p : Problem) (laws : IsProblem p) (records : List Fields) (c : Cert) (s : Spells records c) where
  says : (index : ℕ) (reason : Reason)
      → Chain (is_version_of p c.version) (has_row_count p (stated c)) (is_best_row p c.total (slice_get c.rows c.best)) (rows_failure p (stated c) None (share_settings whole p.count)) index reason
      → IsRejected p c index reason × IsFirst p records (Rejected index reason)
  says index reason (at_version f n r) =
      rw r (((n, λ (h : IsVersionOf p c.version). fails_not (is_version_of p c.version) (right_version p c.version) f h), (c, s, tt)))
  says index reason (at_count v f n r) =
      rw r (((n, λ (h : HasRowCount p c). fails_not (has_row_count p (stated c)) (right_count p (stated c)) f h), (c, s, version_right p c.version v)))
  says index reason (at_best v k f n r) =
      rw r (((n, λ (h : IsBestRow p c). fails_not (is_best_row p c.total (slice_get c.rows c.best)) (right_best p c) f h), (c, s, (version_right p c.version v, count_right p (stated c) k))))
  says index reason (at_rows v k b e) =
      let many = count_right p (stated c) k in
      let i = row_found p c many.1 index reason e in
      let w = i.0 in
      let o = row_some p (stated c) None w.vector w.row reason w.wrong in
      (rejected_row p c index reason o w, first_row p records c index reason o s (version_right p c.version v, many, best_right p c b, i.1))

  -- a certificate with a failure is not valid
  not_valid : (x : ℕ × Reason) → first_failure p whole c ≡ Some x → (d : Cert) → Spells records d → IsValid p d → ⊥
  not_valid x e d spelled valid =
      let same : d ≡ c = one_spelled records d c spelled s in
      let own : IsValid p c = subst (λ (k : Cert). IsValid p k) same valid in
      let none = none_if_valid p whole c (valid_in_shares p c laws own whole) in
      let both : None ≡ Some x = sym none ∙ e in
      absurd (cc)

  by_failure : (o : Option (ℕ × Reason)) → first_failure p whole c ≡ o → IsRightVerdict p records (verdict_by c o)
  unfolding failure_by
  by_failure None e =
      let valid : IsValid p c = valid_if_whole p c (valid_if_none p whole c e) in
      record {
        holds = (c, s, valid, refl, refl);
        first = tt;
        optimum = (valid_is_optimum p laws c valid, valid_total p laws c valid);
        accepted = λ d spelled _. let same : d ≡ c = one_spelled records d c spelled s in ap (λ (k : Cert). Accepted k.best k.total) (sym same);
      }
  by_failure (Some x) e =
      let h = says x.0 x.1 (chain_some _ _ _ _ x.0 x.1 e) in
      record {
        holds = inr (c, s, h.0);
        first = h.1;
        optimum = tt;
        accepted = λ d spelled valid. absurd (not_valid x e d spelled valid);
      }

-- the verdict on what is read
by_read : (p : Problem) (records : List Fields) (r : Result Cert ℕ) → IsProblem p → cert_of_records records ≡ r → IsRightVerdict p records (verdict_on_read p whole r)
by_read p records (Ok c) laws e = by_failure p laws records c (cert_spelled records c e) (first_failure p whole c) refl
by_read p records (Err index) laws e =
    let bad = cert_malformed records index e in
    record {
      holds = inl (refl, bad.malformed);
      first = bad;
      optimum = tt;
      accepted = λ d spelled valid. absurd (none_malformed records d spelled index bad.malformed);
    }

pub right_verdict : (p : Problem) (records : List Fields) (v : Verdict) → IsProblem p → IsVerdictOf p whole records v → IsRightVerdict p records v
right_verdict p records v laws is = subst (λ (x : Verdict). IsRightVerdict p records x) (sym (verdict_is p whole records v is)) (by_read p records (cert_of_records records) laws refl)

-- ---- a share that accepts

accepts_one : (c : Cert) (o : Option (ℕ × Reason)) (best total : ℕ) → Accepted best total ≡ verdict_by c o → (o ≡ None) × (best ≡ c.best) × (total ≡ c.total)
accepts_one c None best total e = (refl, cc, cc)
accepts_one c (Some x) best total e = absurd (cc)

apart : (best total index : ℕ) (reason : Reason) → Accepted best total ≡ Rejected index reason → ⊥
apart best total index reason e = cc

-- records have one verdict
pub one_verdict : (p : Problem) (share : Part) (records : List Fields) (v w : Verdict) → IsVerdictOf p share records v → IsVerdictOf p share records w → v ≡ w
one_verdict p share records v w e f = one_judged v w (sym e ∙ f)
