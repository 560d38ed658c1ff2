-- What a check looks at, in its order: each test, and the reason to reject if it fails.
use Rattle.std.specs.Prelude.{ℕ, ◌+◌, ◌-◌, ◌<◌, ◌≤◌, ◌^◌, Bool, true, false, not, ◌&&◌, ◌||◌, ◌==◌, if◌then◌else◌, nat_lt, nat_le, is_none, List, [], ◌∷◌, length, slice_get, Option, Some, None, option_map, option_and_then}
use Rattle.std.specs.List.{list_all, sum_by, range_with_len}
use Rattle.mars_core.specs.Arena.{ArenaView}
use Rattle.rc_instr.specs.Instruction.{same_instruction}
use Rattle.rc_instr.specs.Warrior.{WarriorView}
use Rattle.rc_instr.specs.declared.instruction.Instruction.{Instruction}
use Rattle.tune_problem.specs.Parts.{part_first, part_end}
use Rattle.tune_problem.specs.Problem.{Problem}
use Rattle.tune_problem.specs.Optimum.{all_fights, beats}
use Rattle.tune_problem.specs.Valid.{listed_total, listed_by}
use Rattle.tune_problem.specs.Ranking.{contends}
use Rattle.tune_problem.specs.Exact.{lists_all, listed_cap, listed_ranking}
use Rattle.tune_problem.specs.declared.aim.Aim.{Aim}
use Rattle.tune_problem.specs.declared.cert.Row.{Row}
use Rattle.tune_problem.specs.declared.cert.Row.TheVariants.{Refused, Same, Cap}
use Rattle.tune_problem.specs.declared.part.Part.{Part}
use Rattle.tune_problem.specs.declared.statement.Answer.{Answer}
use Rattle.tune_problem.specs.declared.statement.Answer.TheVariants.{Best as TheBest, NoneFrom}
use Rattle.tune_problem.specs.declared.statement.Statement.{Statement}
use Rattle.tune_cert.specs.Spelling.{record_of}
use Rattle.tune_cert.specs.declared.verdict.Reason.{Reason}
use Rattle.tune_cert.specs.declared.verdict.Reason.TheVariants.{RowCount, BestRow, WrongPoints, RepeatedFight, CapTooHigh, NotSame, NotRefused, Version}

-- The reason, if the test fails.
abbrev pub unless : Bool → Reason → Option Reason
unless true reason = None
unless false reason = Some reason

-- The first failure in a list of checks.
abbrev pub first_of : {A : Type 0} → List (Option A) → Option A
first_of [] = None
first_of (None ∷ checks) = first_of checks
first_of (Some failure ∷ checks) = Some failure

-- ---- one row

-- A row refers to another setting.
abbrev pub refers : Row → Bool
refers (Same u) = true
refers Refused = false
refers (Cap listed) = false

-- The indices of the fights rise, from a or more, so that none is listed twice.
abbrev pub rises : (a : ℕ) → (listed : List (ℕ × ℕ)) → Bool
rises a [] = true
rises a (e ∷ listed) = nat_le a e.0 && rises (e.0 + 1) listed

-- Every listed fight exists.
abbrev pub are_fights : Problem → List (ℕ × ℕ) → Bool
are_fights p listed = list_all (λ e. nat_lt e.0 p.fights) listed

-- Every listed fight exists, and gives the warrior the listed points.
abbrev pub have_points : Problem → WarriorView → List (ℕ × ℕ) → Bool
have_points p w listed = list_all (λ e. nat_lt e.0 p.fights && (e.1 == p.points w e.0)) listed

-- A setting assembles, and its warrior has the listed points.
abbrev pub has_points : Problem → Option WarriorView → List (ℕ × ℕ) → Bool
has_points p None listed = false
has_points p (Some w) listed = have_points p w listed

-- Setting v is the best one, by this answer.
abbrev pub names : Answer → (v : ℕ) → Bool
names (TheBest best) v = v == best.vector
names (NoneFrom floor) v = false

-- A cap of setting v does not beat the best setting, or is below the floor that no setting is said
-- to reach.
abbrev pub stays_below : Answer → (cap v : ℕ) → Bool
stays_below (TheBest best) cap v = not (beats cap v best.total best.vector)
stays_below (NoneFrom floor) cap v = nat_lt cap floor

-- A listing, as one of setting v, has every fight, or its cap does not contend with the ranking
-- that the rows list. Without an aim every listing is exact.
unfoldable pub is_exact : Problem → Option Aim → List Row → (v : ℕ) → (listed : List (ℕ × ℕ)) → Bool
is_exact p None rows v listed = true
is_exact p (Some aim) rows v listed = lists_all p.fights 0 listed || not (contends aim (listed_cap p listed) v (listed_ranking p aim rows))

abbrev pub same_code : List Instruction → List Instruction → Bool
same_code [] [] = true
same_code [] (j ∷ others) = false
same_code (i ∷ code) [] = false
same_code (i ∷ code) (j ∷ others) = same_instruction i j && same_code code others

-- Two settings assemble, to equal warriors.
abbrev pub share_warrior : Option WarriorView → Option WarriorView → Bool
share_warrior None other = false
share_warrior (Some w) None = false
share_warrior (Some w) (Some x) = (w.start == x.start) && same_code w.code x.code

-- What is wrong with rows of statement s, against problem p. With an aim they have to be exact.
module _ (p : Problem) (s : Statement) (aim : Option Aim) where
  -- What is wrong with the cap row of setting v.
  unfoldable pub cap_reason : (v : ℕ) → (listed : List (ℕ × ℕ)) → Option Reason
  cap_reason v listed =
      first_of (
      unless (rises 0 listed) RepeatedFight
      ∷ unless (has_points p (p.warrior v) listed) WrongPoints
      ∷ unless ((names s.answer v || stays_below s.answer (listed_cap p listed) v) && is_exact p aim s.rows v listed) CapTooHigh
      ∷ []
      )

  -- What is wrong with the row of setting v if it refers to setting u, whose cap row has this
  -- listing. The points are taken as listed: whether they are right is a check of the row of u.
  unfoldable pub listed_reason : (v u : ℕ) → (listed : List (ℕ × ℕ)) → Option Reason
  listed_reason v u listed =
      first_of (
      unless (not (u == v) && (share_warrior (p.warrior v) (p.warrior u) && (rises 0 listed && are_fights p listed))) NotSame
      ∷ unless (stays_below s.answer (listed_cap p listed) v && is_exact p aim s.rows v listed) CapTooHigh
      ∷ []
      )

  -- What is wrong with the row of setting v if it refers to setting u, by the row of u.
  abbrev pub reference_reason : (v u : ℕ) → Option Row → Option Reason
  reference_reason v u None = Some NotSame
  reference_reason v u (Some Refused) = Some NotSame
  reference_reason v u (Some (Same t)) = Some NotSame
  reference_reason v u (Some (Cap listed)) = listed_reason v u listed

  -- What is wrong with the row of setting v: the first reason that applies.
  abbrev pub row_reason : (v : ℕ) → Row → Option Reason
  row_reason v Refused = unless (is_none (p.warrior v)) NotRefused
  row_reason v (Same u) = reference_reason v u (slice_get s.rows u)
  row_reason v (Cap listed) = cap_reason v listed

  -- What is wrong with the row of v if it refers to no other setting; None if it refers to one.
  abbrev pub alone_reason : (v : ℕ) → Row → Option Reason
  alone_reason v row = if refers row then None else row_reason v row

  -- What is wrong with the row of v if it refers to another setting; None if it does not.
  abbrev pub same_reason : (v : ℕ) → Row → Option Reason
  same_reason v row = if refers row then row_reason v row else None

-- ---- the rows of a share

-- The settings from `first` to just before `end`.
abbrev pub settings_between : (first end : ℕ) → List ℕ
settings_between first end = range_with_len first (end - first)

-- The settings of a share, out of `count`.
abbrev pub share_settings : Part → (count : ℕ) → List ℕ
share_settings share count = settings_between (part_first share count) (part_end share count)

-- A reason, at a record.
abbrev pub at_record : (index : ℕ) → Option Reason → Option (ℕ × Reason)
at_record index reason = option_map (λ r. (index, r)) reason

-- What a check of rows finds wrong with the row of setting v, if there is one.
abbrev pub reason_at : (check : ℕ → Row → Option Reason) → List Row → (v : ℕ) → Option Reason
reason_at check rows v = option_and_then (check v) (slice_get rows v)

-- The first wrong row of some settings.
abbrev pub first_wrong : (reason : ℕ → Option Reason) → (settings : List ℕ) → Option (ℕ × Reason)
first_wrong reason [] = None
first_wrong reason (v ∷ settings) = first_of (at_record (record_of v) (reason v) ∷ first_wrong reason settings ∷ [])

-- The first wrong row of statement s among some settings, against problem p. With an aim the rows
-- have to be exact.
module _ (p : Problem) (s : Statement) (aim : Option Aim) where
  -- The first wrong row that refers to no other setting.
  abbrev pub wrong_alone : (settings : List ℕ) → Option (ℕ × Reason)
  wrong_alone settings = first_wrong (reason_at (alone_reason p s aim) s.rows) settings

  -- The first wrong row that refers to another setting.
  abbrev pub wrong_same : (settings : List ℕ) → Option (ℕ × Reason)
  wrong_same settings = first_wrong (reason_at (same_reason p s aim) s.rows) settings

  -- The first wrong row: the refused and the cap rows are checked first, in order, and then those
  -- that refer to other settings.
  abbrev pub rows_failure : (settings : List ℕ) → Option (ℕ × Reason)
  rows_failure settings = first_of (wrong_alone settings ∷ wrong_same settings ∷ [])

-- The number of fights that the rows of some settings list together.
abbrev pub listed_fights_of : List Row → (settings : List ℕ) → ℕ
listed_fights_of rows settings = sum_by (λ v. listed_by (slice_get rows v)) settings

-- At most `listed` more fights were played, unless the count of fights would wrap around.
abbrev pub PlaysAtMost : (old new : ArenaView) → (listed : ℕ) → Type 0
PlaysAtMost old new listed = old.fights + listed < 2 ^ 64 → new.fights ≤ old.fights + listed

-- ---- the statement

-- Version 1 is for schedules in which every fight counts once.
abbrev pub is_version_of : Problem → (version : ℕ) → Bool
is_version_of p version = not (version == 1) || list_all (λ k. p.weight k == 1) (all_fights p)

-- The number of settings is claimed, and there are as many rows.
abbrev pub has_row_count : Problem → Statement → Bool
has_row_count p s = (s.count == p.count) && (length s.rows == p.count)

-- The row of the best setting lists every fight in order, and its scores add up to the total.
abbrev pub is_best_row : Problem → (total : ℕ) → Option Row → Bool
is_best_row p total None = false
is_best_row p total (Some Refused) = false
is_best_row p total (Some (Same u)) = false
is_best_row p total (Some (Cap listed)) = lists_all p.fights 0 listed && (listed_total p listed == total)

-- What is wrong with a statement, and at which record, as far as a check of a share sees.
-- `answered` says whether the record of the answer is right. With an aim the rows have to be exact.
unfoldable pub failure_by : Problem → (share : Part) → (answered : Bool) → Option Aim → Statement → Option (ℕ × Reason)
failure_by p share answered aim s =
    first_of (
    at_record 0 (unless (is_version_of p s.version) Version)
    ∷ at_record 0 (unless (has_row_count p s) RowCount)
    ∷ at_record 1 (unless answered BestRow)
    ∷ rows_failure p s aim (share_settings share p.count)
    ∷ []
    )
