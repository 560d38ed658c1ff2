-- What a run of a check writes, or why it refuses.
use Rattle.std.specs.Prelude.{◌≡◌, ◌⊎◌, ℕ, Bool, true, false, List, ◌++◌, codes, Option, Some, None, Result, Ok}
use Rattle.std.specs.Fmt.{decimal}
use Rattle.tables.specs.Records.{records_of}
use Rattle.tune_problem.specs.Inputs.{InputsView}
use Rattle.tune_problem.specs.Problem.{problem_of}
use Rattle.tune_problem.specs.declared.part.Part.{Part}
use Rattle.tune_problem.specs.Parts.{whole}
use Rattle.tune_problem.specs.declared.statement.Answer.{Answer}
use Rattle.tune_problem.specs.declared.statement.Answer.TheVariants.{Best as TheBest, NoneFrom}
use Rattle.tune_problem.specs.declared.watcher.Best.{Best}
use Rattle.rc_instr.specs.Results.{◌>>=◌}
use Rattle.tune_cert.specs.Judgement.{judgement_of}
use Rattle.tune_cert.specs.declared.demand.Demand.{Demand}
use Rattle.tune_cert.specs.declared.verdict.Judgement.{Judgement}
use Rattle.tune_cert.specs.declared.verdict.Judgement.TheVariants.{Accepted, Rejected}
use Rattle.tune_runs.specs.Report.{rank_lines, named_ranking}
use Rattle.tune_cert.specs.Verdict.{IsRightVerdict}
use Rattle.tune_cert.specs.declared.verdict.Reason.{Reason}
use Rattle.tune_cert.specs.declared.verdict.Reason.TheVariants.{Malformed, RowCount, BestRow, WrongPoints, RepeatedFight, CapTooHigh, NotSame, NotRefused, Version}
use Rattle.tune_cert.specs.declared.verdict.Verdict.{Verdict}
use Rattle.tune_cert.specs.declared.verdict.Verdict.TheVariants.{Accepted as AcceptedCert, Rejected as RejectedCert}
use Rattle.tune_runs.specs.TuneRun.{Texts, meaning_of, Means, HasNoCandidate}
use Rattle.tune_runs.specs.Runs.{Writes, Writer}
use Rattle.tune_runs.specs.declared.fault.RunFault.{RunFault}

abbrev pub reason_text : Reason → List ℕ
reason_text Malformed = codes "Malformed"
reason_text RowCount = codes "RowCount"
reason_text BestRow = codes "BestRow"
reason_text WrongPoints = codes "WrongPoints"
reason_text RepeatedFight = codes "RepeatedFight"
reason_text CapTooHigh = codes "CapTooHigh"
reason_text NotSame = codes "NotSame"
reason_text NotRefused = codes "NotRefused"
reason_text Version = codes "Version"

-- `accepted share I/K`.
unfoldable pub share_words : (number shares : ℕ) → List ℕ
share_words number shares = codes "accepted share " ++ decimal number ++ codes "/" ++ decimal shares

-- `accepted`, or `accepted share I/K` if a share is checked.
abbrev pub accepted_words : Option Part → List ℕ
accepted_words None = codes "accepted"
accepted_words (Some share) = share_words share.number share.parts

-- ` best W total T`, to the end of the line.
unfoldable pub best_text : ℕ → ℕ → List ℕ
best_text best total = codes " best " ++ decimal best ++ codes " total " ++ decimal total ++ codes "\n"

-- `rejected row R REASON`.
abbrev pub rejected_line : (row : ℕ) → Reason → List ℕ
rejected_line row reason = codes "rejected row " ++ decimal row ++ codes " " ++ reason_text reason ++ codes "\n"

-- The share that is meant: all rows, if none is given.
abbrev pub share_meant : Option Part → Part
share_meant None = whole
share_meant (Some share) = share

-- ` none below F`, to the end of the line.
unfoldable pub none_text : ℕ → List ℕ
none_text floor = codes " none below " ++ decimal floor ++ codes "\n"

-- ` best W total T`, or ` none below F`, to the end of the line.
abbrev pub answer_text : Answer → List ℕ
answer_text (TheBest best) = best_text best.vector best.total
answer_text (NoneFrom floor) = none_text floor

-- The lines of a judgement on all rows, or on a share: `accepted ..` and a line for each setting of
-- the ranking, or `rejected row R REASON`.
unfoldable pub judgement_lines : InputsView → Demand → Option Part → Judgement → List ℕ
judgement_lines i demand share (Accepted answer ranking) = accepted_words share ++ answer_text answer ++ rank_lines 1 (named_ranking i demand.keep ranking)
judgement_lines i demand share (Rejected row reason) = rejected_line row reason

abbrev pub accepts : Judgement → Bool
accepts (Accepted answer ranking) = true
accepts (Rejected row reason) = false

-- The output of a check: whether the bytes are accepted, and the lines of the judgement; or the
-- first fault of the texts.
unfoldable pub check_output : Texts → Demand → Option Part → List ℕ → Result (Bool × List ℕ) RunFault
check_output t demand share cert = do
  i ← meaning_of t
  Ok (said i (judgement_of (problem_of i) demand (share_meant share) (records_of cert)))
  where
    said : InputsView → Judgement → Bool × List ℕ
    said i judgement = (accepts judgement, judgement_lines i demand share judgement)

-- The lines were written, and `accepted` says whether the bytes are accepted.
abbrev pub WritesCheck : Texts → Demand → Option Part → List ℕ → Bool → Writer → Type 0
WritesCheck t demand share cert accepted out = Writes (check_output t demand share cert) accepted out

-- ---- what is accepted

-- The line of a verdict on all rows, or on a share: `accepted_words` and `best_text`, or
-- `rejected_line`. It is the one line of the judgement that is this verdict.
abbrev pub verdict_line : Option Part → Verdict → List ℕ
verdict_line share (AcceptedCert best total) = accepted_words share ++ best_text best total
verdict_line share (RejectedCert row reason) = rejected_line row reason

-- The right verdict on the bytes, for the inputs in the texts.
abbrev pub HasRightVerdict : Texts → List ℕ → Verdict → Type 0
HasRightVerdict t cert verdict = (i : InputsView) × Means t i × IsRightVerdict (problem_of i) (records_of cert) verdict

-- The right verdict on the bytes accepts them, with this best setting and total.
abbrev pub Accepts : Texts → List ℕ → ℕ → ℕ → Type 0
Accepts t cert best total = HasRightVerdict t cert (AcceptedCert best total)

-- A check with this demand accepts these bytes, with this answer.
abbrev pub AcceptsFor : Texts → Demand → List ℕ → Answer → Type 0
AcceptsFor t demand cert answer =
    (i : InputsView) × (ranking : List Best) × Means t i × (judgement_of (problem_of i) demand whole (records_of cert) ≡ Accepted answer ranking)

-- There is a demand with which a check accepts these bytes, with this answer.
abbrev pub IsAccepted : Texts → List ℕ → Answer → Type 0
IsAccepted t cert answer = (demand : Demand) × AcceptsFor t demand cert answer

-- An answer of a tuning is shown if a check accepts these bytes with it. That none reaches a floor
-- is also shown if no setting assembles.
abbrev pub IsShown : Texts → List ℕ → Answer → Type 0
IsShown t cert (TheBest best) = IsAccepted t cert (TheBest best)
IsShown t cert (NoneFrom floor) = IsAccepted t cert (NoneFrom floor) ⊎ HasNoCandidate t
