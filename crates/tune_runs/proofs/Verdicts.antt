-- The verdict that a check without a demand writes, and that it is the right one.
use Rattle.std.proofs.Common.{◌≡◌, ℕ, Bool, List, ◌++◌, Option, None, Ok, refl, sym, ◌∙◌, ap, subst}
use Rattle.std.proofs.lemmas.List.{append-nil}
use Rattle.rc_instr.proofs.Chains.{went_on}
use Rattle.tables.specs.Records.{records_of}
use Rattle.tune_problem.specs.Inputs.{InputsView}
use Rattle.tune_problem.specs.Problem.{problem_of}
use Rattle.tune_problem.specs.Parts.{whole}
use Rattle.tune_problem.specs.declared.part.Part.{Part}
use Rattle.tune_cert.specs.declared.demand.Demand.{Demand}
use Rattle.tune_problem.proofs.Scores.{inputs_problem}
use Rattle.tune_cert.specs.Judgement.{no_demand, judged, judgement_of}
use Rattle.tune_cert.specs.Spelling.{cert_of_records}
use Rattle.tune_cert.specs.Verdict.{IsVerdictOf}
use Rattle.tune_cert.specs.declared.verdict.Judgement.{Judgement}
use Rattle.tune_cert.specs.declared.verdict.Verdict.{Verdict}
use Rattle.tune_cert.specs.declared.verdict.Verdict.TheVariants.{Accepted, Rejected}
use Rattle.tune_cert.proofs.PlainChecks.{judgement_is, verdict_on_read}
use Rattle.tune_cert.proofs.RightVerdicts.{right_verdict}
use Rattle.tune_runs.specs.TuneRun.{Texts, meaning_of, Means}
use Rattle.tune_runs.specs.CheckRun.{WritesCheck, accepted_words, accepts, best_text, check_output, judgement_lines, share_meant, verdict_line}
use Rattle.tune_runs.specs.Agreement.{Checks, IsRightLine}
use Rattle.tune_runs.specs.Runs.{Writer, Gets}

-- the lines of a judgement that is a verdict are the line of the verdict
one_line : (i : InputsView) (share : Option Part) (v : Verdict) → judgement_lines i no_demand share (judged v) ≡ verdict_line share v
unfolding judgement_lines
one_line i share (Accepted best total) = append-nil (accepted_words share ++ best_text best total)
one_line i share (Rejected row reason) = refl

-- what a check said, of all rows or of a share
pub record IsSaid (t : Texts) (demand : Demand) (share : Option Part) (bytes : List ℕ) (accepted : Bool) (out : Writer) : Type 0 where
  pub inputs : InputsView
  pub means : Means t inputs
  pub judgement : Judgement
  pub is : judgement_of (problem_of inputs) demand (share_meant share) (records_of bytes) ≡ judgement
  pub says : accepted ≡ accepts judgement
  pub lines : Gets out (judgement_lines inputs demand share judgement)

pub said_of : (t : Texts) (demand : Demand) (share : Option Part) (bytes : List ℕ) (accepted : Bool) (out : Writer) → WritesCheck t demand share bytes accepted out → IsSaid t demand share bytes accepted out
unfolding check_output
said_of t demand share bytes accepted out (text, output, wrote) =
    let judgement = λ (i : InputsView). judgement_of (problem_of i) demand (share_meant share) (records_of bytes) in
    let m = went_on (meaning_of t) (λ (i : InputsView). Ok (accepts (judgement i), judgement_lines i demand share (judgement i))) (accepted, text) output in
    let both : ◌≡◌ {A = Bool × List ℕ} (accepts (judgement m.0), judgement_lines m.0 demand share (judgement m.0)) (accepted, text) = let q = m.2 in cc in
    record {
      inputs = m.0;
      means = m.1;
      judgement = judgement m.0;
      is = refl;
      says = sym (ap (λ (p : Bool × List ℕ). p.0) both);
      lines = subst (λ (x : List ℕ). Gets out x) (sym (ap (λ (p : Bool × List ℕ). p.1) both)) wrote;
    }

-- the line of a check without a demand
pub record IsVerdictLine (t : Texts) (bytes : List ℕ) (accepted : Bool) (out : Writer) : Type 0 where
  pub verdict : Verdict
  pub inputs : InputsView
  pub means : Means t inputs
  pub is : IsVerdictOf (problem_of inputs) whole (records_of bytes) verdict
  pub says : accepted ≡ accepts (judged verdict)
  pub line : Gets out (verdict_line None verdict)

line_said : (t : Texts) (bytes : List ℕ) (accepted : Bool) (out : Writer) → Checks t bytes accepted out → IsVerdictLine t bytes accepted out
line_said t bytes accepted out check =
    let s = said_of t no_demand None bytes accepted out check in
    let i = s.inputs in
    let verdict = verdict_on_read (problem_of i) whole (cert_of_records (records_of bytes)) in
    let is : judgement_of (problem_of i) no_demand whole (records_of bytes) ≡ judged verdict = judgement_is (problem_of i) whole (records_of bytes) in
    let same : s.judgement ≡ judged verdict = sym s.is ∙ is in
    record {
      verdict = verdict;
      inputs = i;
      means = s.means;
      is = is;
      says = s.says ∙ ap accepts same;
      line = subst (λ (x : List ℕ). Gets out x) (ap (judgement_lines i no_demand None) same ∙ one_line i None verdict) s.lines;
    }

-- a check writes the line of the right verdict
pub right_line : (t : Texts) (bytes : List ℕ) (accepted : Bool) (out : Writer) → Checks t bytes accepted out → IsRightLine t bytes accepted out
right_line t bytes accepted out check =
    let l = line_said t bytes accepted out check in
    record {
      verdict = l.verdict;
      right = (l.inputs, l.means, right_verdict (problem_of l.inputs) (records_of bytes) l.verdict (inputs_problem l.inputs) l.is);
      says = l.says;
      line = l.line;
    }
