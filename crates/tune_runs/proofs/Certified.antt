-- What a tuning wrote is accepted, and what is accepted names what the tuning found.
use Rattle.std.proofs.Common.{◌≡◌, ◌≤◌, ℕ, List, None, true, sym, ◌∙◌, ap, subst}
use Rattle.mars_fight.specs.Limits.{MOST_TOTAL}
use Rattle.tables.specs.Records.{Fields, records_of}
use Rattle.tune_problem.specs.Inputs.{InputsView}
use Rattle.tune_problem.specs.Problem.{Problem, IsProblem, problem_of}
use Rattle.tune_problem.specs.Optimum.{greatest_of}
use Rattle.tune_problem.proofs.Weights.{greatest_is}
use Rattle.tune_problem.specs.Valid.{cert_of}
use Rattle.tune_cert.specs.Spelling.{Spells}
use Rattle.tune_problem.specs.declared.cert.Found.{Found}
use Rattle.tune_cert.specs.declared.verdict.Verdict.{Verdict}
use Rattle.tune_cert.specs.declared.verdict.Verdict.TheVariants.{Accepted, Rejected}
use Rattle.tune_problem.proofs.Certificates.{valid_is_optimum, valid_total, optimum_one, total_one}
use Rattle.tune_problem.proofs.Scores.{inputs_problem}
use Rattle.tune_cert.proofs.WrittenBack.{written as written_back}
use Rattle.tune_search.specs.Found.{IsSearch}
use Rattle.tune_search.specs.declared.method.Method.{Method}
use Rattle.tune_runs.specs.TuneRun.{Texts, WritesTuning}
use Rattle.tune_cert.specs.Judgement.{judged}
use Rattle.tune_cert.specs.Verdict.{IsVerdict, IsRightVerdict}
use Rattle.tune_runs.specs.CheckRun.{accepts, verdict_line}
use Rattle.tune_runs.specs.Agreement.{MayFind, written, Checks, Agree}
use Rattle.tune_runs.specs.Runs.{Writer, Gets}
use Rattle.tune_runs.proofs.BestTunings.{tuned}
use Rattle.tune_runs.proofs.Meaning.{one_meaning, made_of}
use Rattle.tune_runs.proofs.Verdicts.{right_line}
use Rattle.tune_runs.proofs.Writable.{most_points, writable}
use Rattle.mars_fight.proofs.Listed.{listed}

pub spelled : (t : Texts) (method : Method) (i : InputsView) (f : Found) → MayFind t method i f → Spells (written f) (cert_of f)
spelled t method i f h =
    let made = made_of t i h.means in
    let most : greatest_of (problem_of i) ≤ MOST_TOTAL = subst (λ (n : ℕ). n ≤ MOST_TOTAL) (greatest_is i) (most_points _ _ _ i.schedule made.schedule) in
    written_back (cert_of f) (writable (problem_of i) (inputs_problem i) (listed _ _ _ i.schedule made.schedule).1 most method f h.search)

pub accepted : (t : Texts) (method : Method) (i : InputsView) (f : Found) (v : Verdict) → MayFind t method i f → IsRightVerdict (problem_of i) (written f) v → v ≡ Accepted f.best f.total
accepted t method i f v h right = right.accepted (cert_of f) (spelled t method i f h) h.search.valid

-- a verdict that accepts names the optimum
named : (p : Problem) → IsProblem p → (method : Method) (f : Found) (records : List Fields) (v : Verdict) → IsSearch p method f → accepts (judged v) ≡ true → IsVerdict p records v →
    v ≡ Accepted f.best f.total
named p laws method f records (Accepted best total) s e (c, spells, valid, best_is, total_is) =
    let same : c.best ≡ f.best = optimum_one p c.best f.best (valid_is_optimum p laws c valid) s.optimum in
    let even : c.total ≡ f.total = total_one p c.best f.best c.total f.total same (valid_total p laws c valid) s.total_is in
    ap (λ b. Accepted b total) (best_is ∙ same) ∙ ap (λ n. Accepted f.best n) (total_is ∙ even)
named p laws method f records (Rejected row reason) s e h = absurd (cc)

line_names : (t : Texts) (method : Method) (bytes : List ℕ) (i : InputsView) (f : Found) (out : Writer) → MayFind t method i f → Checks t bytes true out → Gets out (verdict_line None (Accepted f.best f.total))
line_names t method bytes i f out h check =
    let r = right_line t bytes true out check in
    let (j, means, right) = r.right in
    let same : j ≡ i = one_meaning t j i means h.means in
    let here : IsVerdict (problem_of i) (records_of bytes) r.verdict = subst (λ (x : InputsView). IsVerdict (problem_of x) (records_of bytes) r.verdict) same right.holds in
    let name : r.verdict ≡ Accepted f.best f.total = named (problem_of i) (inputs_problem i) method f (records_of bytes) r.verdict h.search (sym r.says) here in
    subst (λ (x : Verdict). Gets out (verdict_line None x)) name r.line

pub certified : (t : Texts) (method : Method) (bytes : List ℕ) (report cert out : Writer) → WritesTuning t method report cert → Checks t bytes true out → Agree t method report cert out
certified t method bytes report cert out tunes check =
    let h = tuned t method report cert tunes in
    record {
      inputs = h.inputs;
      found = h.found;
      tuning = h.tuning;
      certified = h.certified;
      reported = h.reported;
      accepted = line_names t method bytes h.inputs h.found out h.tuning check;
    }
