-- A check with a demand accepts exactly what meets the demand, in each share as in the whole.
use Rattle.std.proofs.Common.{◌≡◌, ℕ, ◌<◌, ◌≤◌, arith, Bool, true, false, List, length, Option, Some, None, refl, sym, ◌∙◌, ap, subst}
use Rattle.std.specs.Prelude.{not, ◌||◌, nat_lt, option_and_then}
use Rattle.std.specs.List.{slice_get}
use Rattle.std.proofs.lemmas.Bool.{or_left, or_right, eqb-true, eq-eqb}
use Rattle.std.proofs.lemmas.Bool.Decides.{nat_tests}
use Rattle.std.proofs.lemmas.Option.{slice_get_within}
use Rattle.tune_problem.specs.Parts.{part, whole, part_first, part_end}
use Rattle.tune_problem.specs.Problem.{Problem, IsProblem}
use Rattle.tune_problem.specs.Valid.{IsCapRow, IsValid}
use Rattle.tune_problem.specs.Below.{IsRowBelow, IsValidBelow, cert_with}
use Rattle.tune_problem.specs.Ranking.{contends}
use Rattle.tune_problem.specs.Exact.{lists_all, listed_cap, listed_for, listed_at, listed_ranking}
use Rattle.tune_problem.specs.declared.aim.Aim.{Aim}
use Rattle.tune_problem.specs.declared.cert.Cert.{Cert}
use Rattle.tune_problem.specs.declared.cert.Row.{Row}
use Rattle.tune_problem.specs.declared.cert.Row.TheVariants.{Refused, Same, Cap}
use Rattle.tune_problem.specs.declared.part.Part.{Part}
use Rattle.tune_problem.specs.declared.statement.Answer.{Answer}
use Rattle.tune_problem.specs.declared.statement.Answer.TheVariants.{Best as TheBest, NoneFrom}
use Rattle.tune_problem.specs.declared.statement.Statement.{Statement}
use Rattle.tune_problem.specs.declared.watcher.Best.{Best}
use Rattle.rc_instr.specs.Warrior.{WarriorView}
use Rattle.tune_problem.proofs.Certificates.{some_is}
use Rattle.tune_problem.proofs.ListedRanks.{listed_is_cap}
use Rattle.tune_problem.proofs.WholeOfParts.{in_a_part}
use Rattle.tune_cert.proofs.RowChecks.{cap_row_rises, cap_row_points, points_fights}
use Rattle.tune_cert.specs.Checks.{row_reason, is_exact, is_best_row, failure_by, is_version_of, has_row_count, rows_failure, share_settings}
use Rattle.tune_cert.specs.CertText.{stated}
use Rattle.tune_cert.specs.Judgement.{aim_for, is_floor, is_answered, failure_of, judgement_by, judgement_on, ranking_for, accepted_with, IsExactFor, MeetsBy, MeetsDemand}
use Rattle.tune_cert.specs.declared.demand.Demand.{Demand}
use Rattle.tune_cert.specs.declared.verdict.Reason.{Reason}
use Rattle.tune_cert.specs.declared.verdict.Judgement.TheVariants.{Accepted}
use Rattle.tune_cert.proofs.ShareBounds.{whole_bounds}
use Rattle.tune_cert.proofs.RightRows.{IsExactRow, IsRightFor, no_aim, not_false, or_other, right_if_none, exact_if_none, none_if_right}
use Rattle.tune_cert.proofs.FirstWrong.{chain}
use Rattle.tune_cert.proofs.ValidShares.{first_failure, chain_by, right_best, four_checks, checks_four, valid_if_none, valid_if_whole, valid_in_shares, in_share_right}

-- ---- a judgement by its failure

none_if_accepted : (answer : Answer) (ranking : List Best) (o : Option (ℕ × Reason)) → judgement_by answer ranking o ≡ Accepted answer ranking → o ≡ None
none_if_accepted answer ranking None e = refl
none_if_accepted answer ranking (Some x) e = absurd (cc)

pub accepts_none : (p : Problem) (demand : Demand) (share : Part) (s : Statement) → judgement_on p demand share s ≡ accepted_with p demand s → failure_of p demand share s ≡ None
accepts_none p demand share s e = none_if_accepted _ _ (failure_of p demand share s) e

pub none_accepts : (p : Problem) (demand : Demand) (share : Part) (s : Statement) → failure_of p demand share s ≡ None → judgement_on p demand share s ≡ accepted_with p demand s
none_accepts p demand share s e = ap (judgement_by s.answer _) e

-- ---- all rows

-- share 1 of 1 has all rows
in_whole : (p : Problem) (rows : List Row) (v : ℕ) (row : Row) → length rows ≡ p.count → slice_get rows v ≡ Some row → (part_first whole p.count ≤ v) × (v < part_end whole p.count)
in_whole p rows v row rows_are at =
    let within = slice_get_within rows v row at in
    let bounds = whole_bounds p.count in
    (omega (arith, bounds.0), omega (arith, bounds.1, within, rows_are))

-- ---- exact rows

row_listed : (rows : List Row) (v : ℕ) (fights : List (ℕ × ℕ)) → listed_at rows v ≡ Some fights → (row : Row) × (slice_get rows v ≡ Some row) × (listed_for rows row ≡ Some fights)
row_listed rows v fights e = by_row (slice_get rows v) refl
  where
    by_row : (o : Option Row) → slice_get rows v ≡ o → (row : Row) × (slice_get rows v ≡ Some row) × (listed_for rows row ≡ Some fights)
    by_row None at = let nothing : None ≡ Some fights = sym (ap (option_and_then (listed_for rows)) at) ∙ e in absurd (cc)
    by_row (Some row) at = (row, at, sym (ap (option_and_then (listed_for rows)) at) ∙ e)

module _ (p : Problem) (rows : List Row) where
  exact_of : (aim : Option Aim) → ((v : ℕ) (row : Row) → slice_get rows v ≡ Some row → IsExactRow p aim rows v row) → IsExactFor p aim rows
  unfolding is_exact
  exact_of None each = tt
  exact_of (Some aim) each = λ v fights at some.
      let here = row_listed rows v fights at in
      not_false _ (or_other (lists_all p.fights 0 fights) _ (each v here.0 here.1 fights here.2) some)

  of_exact : (aim : Option Aim) → IsExactFor p aim rows → (v : ℕ) (row : Row) → slice_get rows v ≡ Some row → IsExactRow p aim rows v row
  unfolding is_exact
  of_exact None h v row at = no_aim p rows v row
  of_exact (Some aim) h v row at = λ fights listed. by_all fights (ap (option_and_then (listed_for rows)) at ∙ listed) (lists_all p.fights 0 fights) refl
    where
      by_all : (fights : List (ℕ × ℕ)) → listed_at rows v ≡ Some fights → (b : Bool) → lists_all p.fights 0 fights ≡ b
          → (lists_all p.fights 0 fights || not (contends aim (listed_cap p fights) v (listed_ranking p aim rows))) ≡ true
      by_all fights here true all = or_left _ _ all
      by_all fights here false some = or_right (lists_all p.fights 0 fights) _ (ap not (h v fights here some))

-- ---- a best setting

module _ (p : Problem) (laws : IsProblem p) (c : Cert) (aim : Option Aim) where
  valid_exact : failure_by p whole (is_best_row p c.total (slice_get c.rows c.best)) aim (stated c) ≡ None → IsValid p c × IsExactFor p aim c.rows
  valid_exact e =
      let checks = four_checks p whole (stated c) aim _ e in
      let here : (v : ℕ) (row : Row) → slice_get c.rows v ≡ Some row → row_reason p (stated c) aim v row ≡ None =
      λ v row at. let inside = in_whole p c.rows v row checks.1.1 at in checks.3 v row inside.0 inside.1 at in
      let plain : first_failure p whole c ≡ None =
      checks_four p whole (stated c) None _ checks.0 checks.1 checks.2 (λ v row low high at. none_if_right p (stated c) None v row (right_if_none p (stated c) aim checks.1.1 v row (here v row at)) (no_aim p c.rows v row)) in
      (valid_if_whole p c (valid_if_none p whole c plain), exact_of p c.rows aim (λ v row at. exact_if_none p (stated c) aim v row (here v row at)))

  exact_valid : IsValid p c → IsExactFor p aim c.rows → failure_by p whole (is_best_row p c.total (slice_get c.rows c.best)) aim (stated c) ≡ None
  exact_valid valid exact =
      let own = valid_in_shares p c laws valid whole in
      checks_four p whole (stated c) aim _ own.version_is (own.count_is, own.rows_are)
      (right_best p c (record { row = own.best_row; here = own.best_at; every = own.every; sums = own.sums }))
      (λ v row low high at. none_if_right p (stated c) aim v row (in_share_right p c v row (own.right v row low high at)) (of_exact p c.rows aim exact v row at))

-- ---- no setting reaches the floor

floor_is : (floor : ℕ) (o : Option ℕ) → is_floor floor o ≡ true → o ≡ Some floor
floor_is floor None e = absurd (cc)
floor_is floor (Some asked) e = ap (λ (n : ℕ). Some n) (sym (eqb-true floor asked e))

is_floor_of : (floor : ℕ) (o : Option ℕ) → o ≡ Some floor → is_floor floor o ≡ true
is_floor_of floor o e = ap (is_floor floor) e ∙ eq-eqb floor floor refl

below : (cap floor : ℕ) → nat_lt cap floor ≡ true → cap < floor
below cap floor e = grind (arith, nat_tests)

is_below : (cap floor : ℕ) → cap < floor → nat_lt cap floor ≡ true
is_below cap floor l = grind (arith, nat_tests)

module _ (p : Problem) (floor version count : ℕ) (rows : List Row) where
  abbrev claim : Statement
  claim = record { version = version; count = count; answer = NoneFrom floor; rows = rows }

  all_below : ((v : ℕ) (row : Row) → slice_get rows v ≡ Some row → IsRightFor p claim v row) → (v : ℕ) (row : Row) → slice_get rows v ≡ Some row → IsRowBelow p floor rows v row
  all_below each v Refused at = each v Refused at
  all_below each v (Cap row) at = let h = each v (Cap row) at in (h.0, h.1, h.2, below _ floor (h.3 refl))
  all_below each v (Same u) at =
      let h = each v (Same u) at in
      let w = h.0 in
      let row = h.1 in
      let of = each u (Cap row) h.6 in
      let same : of.0 ≡ w = some_is _ _ (sym of.1 ∙ h.5) in
      let is_row : IsCapRow p w 0 row = subst (λ (x : WarriorView). IsCapRow p x 0 row) same of.2 in
      (w, row, h.2, h.3, h.4, h.5, h.6, below _ floor (subst (λ (n : ℕ). nat_lt n floor ≡ true) (listed_is_cap p w row is_row) h.7.2))

  below_all : ((v : ℕ) (row : Row) → slice_get rows v ≡ Some row → IsRowBelow p floor rows v row) → (v : ℕ) (row : Row) → IsRowBelow p floor rows v row → IsRightFor p claim v row
  below_all each v Refused h = h
  below_all each v (Cap row) (w, is, is_row, low) = (w, is, is_row, λ other. is_below _ floor low)
  below_all each v (Same u) (w, row, other, l, own, theirs, at, low) =
      let of = each u (Cap row) at in
      let same : of.0 ≡ w = some_is _ _ (sym of.1 ∙ theirs) in
      let is_row : IsCapRow p w 0 row = subst (λ (x : WarriorView). IsCapRow p x 0 row) same of.2 in (
        w,
        row,
        other,
        l,
        own,
        theirs,
        at,
        (
          cap_row_rises p w 0 row is_row,
          points_fights p w row (cap_row_points p w 0 row is_row),
          subst (λ (n : ℕ). nat_lt n floor ≡ true) (sym (listed_is_cap p w row is_row)) (is_below _ floor low),
        ),
      )

  valid_below : (answered : Bool) → failure_by p whole answered None claim ≡ None → (answered ≡ true) × (count ≡ p.count) × IsValidBelow p floor version rows
  valid_below answered e =
      let checks = four_checks p whole claim None answered e in
      let right : (v : ℕ) (row : Row) → slice_get rows v ≡ Some row → IsRightFor p claim v row =
      λ v row at. let inside = in_whole p rows v row checks.1.1 at in right_if_none p claim None checks.1.1 v row (checks.3 v row inside.0 inside.1 at) in
      (checks.2, checks.1.0, record { version_is = checks.0; rows_are = checks.1.1; right = all_below right })

  below_valid : (answered : Bool) → answered ≡ true → count ≡ p.count → IsValidBelow p floor version rows → failure_by p whole answered None claim ≡ None
  below_valid answered answer count_is valid =
      checks_four p whole claim None answered valid.version_is (count_is, valid.rows_are) answer
      (λ v row low high at. none_if_right p claim None v row (below_all valid.right v row (valid.right v row at)) (no_aim p rows v row))

-- ---- either answer

module _ (p : Problem) (laws : IsProblem p) (demand : Demand) (s : Statement) where
  abbrev with_answer : Answer → Statement
  with_answer answer = record { version = s.version; count = s.count; answer = answer; rows = s.rows }

  met_by : (answer : Answer) → failure_by p whole (is_answered p demand s.rows answer) (aim_for demand answer) (with_answer answer) ≡ None → MeetsBy p demand s answer
  met_by (TheBest best) e = valid_exact p laws (cert_with s.version s.count s.rows best) (aim_for demand (TheBest best)) e
  met_by (NoneFrom floor) e =
      let h = valid_below p floor s.version s.count s.rows (is_floor floor demand.floor) e in
      (floor_is floor demand.floor h.0, h.1, h.2)

  by_met : (answer : Answer) → MeetsBy p demand s answer → failure_by p whole (is_answered p demand s.rows answer) (aim_for demand answer) (with_answer answer) ≡ None
  by_met (TheBest best) h = exact_valid p laws (cert_with s.version s.count s.rows best) (aim_for demand (TheBest best)) h.0 h.1
  by_met (NoneFrom floor) h = below_valid p floor s.version s.count s.rows (is_floor floor demand.floor) (is_floor_of floor demand.floor h.0) h.1 h.2

  pub met_if_accepted : judgement_on p demand whole s ≡ accepted_with p demand s → MeetsDemand p demand s
  met_if_accepted e = met_by s.answer (accepts_none p demand whole s e)

  pub accepted_if_met : MeetsDemand p demand s → judgement_on p demand whole s ≡ accepted_with p demand s
  accepted_if_met h = none_accepts p demand whole s (by_met s.answer h)

-- ---- all shares together

module _ (p : Problem) (demand : Demand) (s : Statement) where
  abbrev answered : Bool
  answered = is_answered p demand s.rows s.answer

  abbrev aim : Option Aim
  aim = aim_for demand s.answer

  pub whole_of_shares : (shares : ℕ) → 1 ≤ shares → ((n : ℕ) → 1 ≤ n → n ≤ shares → judgement_on p demand (part n shares) s ≡ accepted_with p demand s) → judgement_on p demand whole s ≡ accepted_with p demand s
  whole_of_shares shares some each =
      let checks = λ (n : ℕ) (low : 1 ≤ n) (high : n ≤ shares). four_checks p (part n shares) s aim answered (accepts_none p demand (part n shares) s (each n low high)) in
      let one = checks 1 (omega arith) some in
      none_accepts p demand whole s (checks_four p whole s aim answered one.0 one.1 one.2 (λ v row low high at.
      let within = slice_get_within s.rows v row at in
      let found = in_a_part p.count shares some v (omega (arith, within, one.1.1)) in
      (checks found.0 found.1 found.2).3 v row found.3 found.4 at))

  pub share_of_whole : judgement_on p demand whole s ≡ accepted_with p demand s → (share : Part) → judgement_on p demand share s ≡ accepted_with p demand s
  share_of_whole e share =
      let checks = four_checks p whole s aim answered (accepts_none p demand whole s e) in
      none_accepts p demand share s (checks_four p share s aim answered checks.0 checks.1 checks.2 (λ v row from to at.
      let inside = in_whole p s.rows v row checks.1.1 at in
      checks.3 v row inside.0 inside.1 at))

-- ---- a check, step by step

module _ (p : Problem) (demand : Demand) (share : Part) (s : Statement) (aim : Option Aim) (aim_is : aim ≡ aim_for demand s.answer) where
  failure_is : failure_of p demand share s ≡ failure_by p share (is_answered p demand s.rows s.answer) aim s
  failure_is = ap (λ (a : Option Aim). failure_by p share (is_answered p demand s.rows s.answer) a s) (sym aim_is)

  pub judged_chain : (a b d : Bool) (o : Option (ℕ × Reason)) → a ≡ is_version_of p s.version → b ≡ has_row_count p s → d ≡ is_answered p demand s.rows s.answer
      → rows_failure p s aim (share_settings share p.count) ≡ o
      → judgement_on p demand share s ≡ judgement_by s.answer (ranking_for p s.rows (aim_for demand s.answer)) (chain a b d o)
  judged_chain a b d o e f g h =
      ap (judgement_by s.answer (ranking_for p s.rows (aim_for demand s.answer)))
      (failure_is ∙ chain_by p share s (is_answered p demand s.rows s.answer) aim a b d o (sym e) (sym f) (sym g) h)

  pub ranking_is : (ranking : List Best) → ranking ≡ ranking_for p s.rows aim → ranking ≡ ranking_for p s.rows (aim_for demand s.answer)
  ranking_is ranking e = e ∙ ap (ranking_for p s.rows) aim_is
