-- What a check of a share says of a certificate, by its demand: certificates with either answer,
-- and those that show the first K of the ranking.
use Rattle.std.specs.Prelude.{◌≡◌, ℕ, ◌<◌, ◌^◌, Bool, false, ◌==◌, List, [], length, slice_get, Option, Some, None, option_map, Result, Ok, Err}
use Rattle.std.specs.List.{AllByRecursion}
use Rattle.std.specs.Option.{unwrap_or, is_some}
use Rattle.tables.specs.Records.{Fields}
use Rattle.tune_problem.specs.Problem.{Problem}
use Rattle.tune_problem.specs.Valid.{IsValid}
use Rattle.tune_problem.specs.Below.{IsValidBelow, cert_with}
use Rattle.tune_problem.specs.Exact.{listed_ranking, IsExact}
use Rattle.tune_problem.specs.declared.aim.Aim.{Aim}
use Rattle.tune_problem.specs.declared.cert.Row.{Row}
use Rattle.tune_problem.specs.declared.part.Part.{Part}
use Rattle.tune_problem.specs.declared.statement.Answer.{Answer}
use Rattle.tune_problem.specs.declared.statement.Answer.TheVariants.{Best as TheBest, NoneFrom}
use Rattle.tune_problem.specs.declared.statement.Statement.{Statement}
use Rattle.tune_problem.specs.declared.watcher.Best.{Best}
use Rattle.tune_cert.specs.Spelling.{statement_of}
use Rattle.tune_cert.specs.Checks.{is_best_row, failure_by}
use Rattle.tune_cert.specs.declared.demand.Demand.{Demand}
use Rattle.tune_cert.specs.declared.verdict.Reason.{Reason}
use Rattle.tune_cert.specs.declared.verdict.Reason.TheVariants.{Malformed}
use Rattle.tune_cert.specs.declared.verdict.Verdict.{Verdict}
use Rattle.tune_cert.specs.declared.verdict.Verdict.TheVariants.{Accepted as AcceptedCert, Rejected as RejectedCert}
use Rattle.tune_cert.specs.declared.verdict.Judgement.{Judgement}
use Rattle.tune_cert.specs.declared.verdict.Judgement.TheVariants.{Accepted, Rejected}

-- ---- demands

-- Nothing beside the optimum is asked for.
abbrev pub no_demand : Demand
no_demand = record { keep = None; floor = None }

-- The aim for which the rows have to be exact. There is none if no ranking is asked for, or if no
-- setting reaches the floor.
abbrev pub aim_for : Demand → Answer → Option Aim
aim_for demand (TheBest best) = option_map (λ keep. record { keep = keep; floor = unwrap_or demand.floor 0 }) demand.keep
aim_for demand (NoneFrom floor) = None

-- ---- checks

-- A floor is asked for, and it is `floor`.
abbrev pub is_floor : (floor : ℕ) → (asked : Option ℕ) → Bool
is_floor floor None = false
is_floor floor (Some asked) = floor == asked

-- The record of the answer is right: a best setting has its row, and a floor is the one that is
-- asked for.
abbrev pub is_answered : Problem → Demand → List Row → Answer → Bool
is_answered p demand rows (TheBest best) = is_best_row p best.total (slice_get rows best.vector)
is_answered p demand rows (NoneFrom floor) = is_floor floor demand.floor

-- What is wrong with a statement, and at which record, as far as a check of a share sees.
abbrev pub failure_of : Problem → Demand → Part → Statement → Option (ℕ × Reason)
failure_of p demand share s = failure_by p share (is_answered p demand s.rows s.answer) (aim_for demand s.answer) s

-- ---- judgements

-- The ranking that rows list for an aim.
abbrev pub ranking_for : Problem → List Row → Option Aim → List Best
ranking_for p rows None = []
ranking_for p rows (Some aim) = listed_ranking p aim rows

-- The judgement by the first failure. Without one it accepts, with the answer and the ranking that
-- the rows list.
abbrev pub judgement_by : Answer → List Best → Option (ℕ × Reason) → Judgement
judgement_by answer ranking None = Accepted answer ranking
judgement_by answer ranking (Some failure) = Rejected failure.0 failure.1

-- The judgement that accepts a statement.
abbrev pub accepted_with : Problem → Demand → Statement → Judgement
accepted_with p demand s = Accepted s.answer (ranking_for p s.rows (aim_for demand s.answer))

-- The judgement of a share on a statement.
abbrev pub judgement_on : Problem → Demand → Part → Statement → Judgement
judgement_on p demand share s = judgement_by s.answer (ranking_for p s.rows (aim_for demand s.answer)) (failure_of p demand share s)

-- A share accepts a statement for a demand, with its answer and the ranking that its rows list.
abbrev pub ShareAccepts : Problem → Demand → Part → Statement → Type 0
ShareAccepts p demand share s = judgement_on p demand share s ≡ accepted_with p demand s

-- The judgement of a share on what is read: on a statement, or else Malformed at this record.
abbrev pub judgement_on_read : Problem → Demand → Part → Result Statement ℕ → Judgement
judgement_on_read p demand share (Ok s) = judgement_on p demand share s
judgement_on_read p demand share (Err index) = Rejected index Malformed

-- The judgement of a share on records: on the statement that they spell, or else Malformed at the
-- first malformed one. A statement without a best setting is malformed unless a floor is asked for.
abbrev pub judgement_of : Problem → Demand → Part → List Fields → Judgement
judgement_of p demand share records = judgement_on_read p demand share (statement_of (is_some demand.floor) records)

-- The settings are below the count, and fewer than 2^32.
abbrev pub AreSettings : (count : ℕ) → List Best → Type 0
AreSettings count ranking = AllByRecursion (λ (b : Best). b.vector < count) ranking × (length ranking < 2 ^ 32)

-- The ranking of a judgement that accepts has such settings.
abbrev pub IsOfSettings : (count : ℕ) → Judgement → Type 0
IsOfSettings count (Accepted answer ranking) = AreSettings count ranking
IsOfSettings count (Rejected index reason) = Unit {0}

-- A verdict as a judgement, which has no ranking.
abbrev pub judged : Verdict → Judgement
judged (AcceptedCert best total) = Accepted (TheBest (record { vector = best; total = total })) []
judged (RejectedCert index reason) = Rejected index reason

-- ---- what a judgement on all rows promises

-- Rows are exact for the aim, if there is one.
abbrev pub IsExactFor : Problem → Option Aim → List Row → Type 0
IsExactFor p None rows = Unit {0}
IsExactFor p (Some aim) rows = IsExact p aim rows

-- A statement with a best setting meets a demand if it is a valid certificate of it, with rows that
-- are exact if a ranking is asked for. Any other meets it if its floor is the one that is asked
-- for, and its rows show that no candidate reaches this floor.
abbrev pub MeetsBy : Problem → Demand → Statement → Answer → Type 0
MeetsBy p demand s (TheBest best) = IsValid p (cert_with s.version s.count s.rows best) × IsExactFor p (aim_for demand (TheBest best)) s.rows
MeetsBy p demand s (NoneFrom floor) = (demand.floor ≡ Some floor) × (s.count ≡ p.count) × IsValidBelow p floor s.version s.rows

abbrev pub MeetsDemand : Problem → Demand → Statement → Type 0
MeetsDemand p demand s = MeetsBy p demand s s.answer
