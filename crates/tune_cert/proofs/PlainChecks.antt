-- The judgement without a demand is a verdict, and which one it is.
use Rattle.std.proofs.Common.{◌≡◌, ℕ, false, List, [], Option, Some, None, Result, Ok, Err, refl, sym, ◌∙◌, ap}
use Rattle.tables.specs.Records.{Fields}
use Rattle.rc_instr.specs.Results.{and_then}
use Rattle.tune_problem.specs.Below.{cert_with}
use Rattle.tune_problem.specs.Problem.{Problem}
use Rattle.tune_problem.specs.declared.cert.Cert.{Cert}
use Rattle.tune_problem.specs.declared.part.Part.{Part}
use Rattle.tune_problem.specs.declared.statement.Answer.TheVariants.{Best as TheBest, NoneFrom}
use Rattle.tune_problem.specs.declared.statement.Statement.{Statement}
use Rattle.tune_problem.specs.declared.watcher.Best.{Best}
use Rattle.tune_cert.specs.CertText.{stated}
use Rattle.tune_cert.specs.Spelling.{cert_by, cert_of_records, statement_of}
use Rattle.tune_cert.specs.Shares.{IsValidInShare}
use Rattle.tune_cert.specs.Verdict.{IsVerdictOf}
use Rattle.tune_cert.specs.Judgement.{accepted_with, judged, judgement_by, judgement_of, judgement_on, judgement_on_read, no_demand}
use Rattle.tune_cert.specs.declared.verdict.Reason.{Reason}
use Rattle.tune_cert.specs.declared.verdict.Reason.TheVariants.{Malformed}
use Rattle.tune_cert.specs.declared.verdict.Judgement.{Judgement}
use Rattle.tune_cert.specs.declared.verdict.Judgement.TheVariants.{Accepted as AcceptedFor, Rejected as RejectedFor}
use Rattle.tune_cert.specs.declared.verdict.Verdict.{Verdict}
use Rattle.tune_cert.specs.declared.verdict.Verdict.TheVariants.{Accepted, Rejected}
use Rattle.tune_cert.proofs.Demands.{accepts_none, none_accepts}
use Rattle.tune_cert.proofs.Statements.{by_answer, names_best}
use Rattle.tune_cert.proofs.ValidShares.{first_failure, none_if_valid, valid_if_none}

-- ---- a share that accepts

pub accepts_valid : (p : Problem) (share : Part) (c : Cert) → judgement_on p no_demand share (stated c) ≡ accepted_with p no_demand (stated c) → IsValidInShare p share c
accepts_valid p share c e = valid_if_none p share c (accepts_none p no_demand share (stated c) e)

pub valid_accepts : (p : Problem) (share : Part) (c : Cert) → IsValidInShare p share c → judgement_on p no_demand share (stated c) ≡ accepted_with p no_demand (stated c)
valid_accepts p share c valid = none_accepts p no_demand share (stated c) (none_if_valid p share c valid)

-- ---- a verdict by the first failure

abbrev pub verdict_by : Cert → Option (ℕ × Reason) → Verdict
verdict_by c None = Accepted c.best c.total
verdict_by c (Some failure) = Rejected failure.0 failure.1

abbrev pub verdict_on_read : Problem → Part → Result Cert ℕ → Verdict
verdict_on_read p share (Ok c) = verdict_by c (first_failure p share c)
verdict_on_read p share (Err index) = Rejected index Malformed

judged_by : (c : Cert) (o : Option (ℕ × Reason)) → judgement_by (TheBest (record { vector = c.best; total = c.total })) [] o ≡ judged (verdict_by c o)
judged_by c None = refl
judged_by c (Some x) = refl

-- a certificate is read of the records of which a statement with a best setting is
cert_is : (records : List Fields) (s : Statement) (best : Best) → statement_of false records ≡ Ok s → s.answer ≡ TheBest best → cert_of_records records ≡ Ok (cert_with s.version s.count s.rows best)
unfolding cert_of_records
cert_is records s best e is = ap (and_then (λ (x : Statement). cert_by x x.answer)) e ∙ ap (cert_by s) is

not_read : (records : List Fields) (n : ℕ) → statement_of false records ≡ Err n → cert_of_records records ≡ Err n
unfolding cert_of_records
not_read records n e = ap (and_then (λ (x : Statement). cert_by x x.answer)) e

module _ (p : Problem) (share : Part) (records : List Fields) where
  by_read : (r : Result Statement ℕ) → statement_of false records ≡ r → judgement_on_read p no_demand share r ≡ judged (verdict_on_read p share (cert_of_records records))
  by_read (Err n) e = ap (λ (c : Result Cert ℕ). judged (verdict_on_read p share c)) (sym (not_read records n e))
  by_read (Ok s) e =
      let named = names_best records s e in
      let c = cert_with s.version s.count s.rows named.0 in
      let same : s ≡ stated c = by_answer s (TheBest named.0) c named.1 refl in
      let judgement : judgement_on p no_demand share (stated c) ≡ judged (verdict_by c (first_failure p share c)) = judged_by c (first_failure p share c) in
      ap (judgement_on p no_demand share) same
      ∙ judgement
      ∙ ap (λ (c : Result Cert ℕ). judged (verdict_on_read p share c)) (sym (cert_is records s named.0 e named.1))

  pub judgement_is : judgement_of p no_demand share records ≡ judged (verdict_on_read p share (cert_of_records records))
  judgement_is = by_read (statement_of false records) refl

-- ---- a judgement is at most one verdict

abbrev unjudged : Judgement → Verdict
unjudged (AcceptedFor (TheBest best) ranking) = Accepted best.vector best.total
unjudged (AcceptedFor (NoneFrom floor) ranking) = Rejected 1 Malformed
unjudged (RejectedFor row reason) = Rejected row reason

unjudged_is : (v : Verdict) → unjudged (judged v) ≡ v
unjudged_is (Accepted best total) = refl
unjudged_is (Rejected row reason) = refl

pub one_judged : (v w : Verdict) → judged v ≡ judged w → v ≡ w
one_judged v w e = sym (unjudged_is v) ∙ (ap unjudged e ∙ unjudged_is w)

pub verdict_is : (p : Problem) (share : Part) (records : List Fields) (v : Verdict) → IsVerdictOf p share records v → v ≡ verdict_on_read p share (cert_of_records records)
verdict_is p share records v is = one_judged v _ (sym is ∙ judgement_is p share records)

pub is_verdict : (p : Problem) (share : Part) (records : List Fields) (v : Verdict) → v ≡ verdict_on_read p share (cert_of_records records) → IsVerdictOf p share records v
is_verdict p share records v e = judgement_is p share records ∙ sym (ap judged e)
