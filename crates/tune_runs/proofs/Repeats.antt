-- Two tunings of the same texts.
use Rattle.std.proofs.Common.{◌≡◌, ℕ, List, sym, ◌∙◌, ap, subst}
use Rattle.tune_problem.specs.Inputs.{InputsView}
use Rattle.tune_problem.specs.Problem.{problem_of}
use Rattle.tune_problem.specs.Ranking.{IsAim, first_of}
use Rattle.tune_problem.specs.declared.aim.Aim.{Aim}
use Rattle.tune_cert.specs.CertText.{statement_text, statement_with}
use Rattle.tune_search.specs.Findings.{IsSearchFor}
use Rattle.tune_search.specs.declared.findings.Findings.{Findings}
use Rattle.tune_search.specs.declared.method.Method.{Method}
use Rattle.tune_search.proofs.OneAnswer.{answer_one}
use Rattle.tune_runs.specs.Report.{report_for, report_text}
use Rattle.tune_runs.specs.TuneRun.{Texts, answer_of}
use Rattle.tune_runs.specs.Agreement.{TuningBytes, GivesBytes}
use Rattle.tune_runs.proofs.Meaning.{one_meaning}

module _ (aim : Aim) where
  abbrev cert_text : Findings → List ℕ
  cert_text f = statement_text (statement_with f.version (answer_of aim.floor (first_of f.ranking)) f.rows)

  pub same_bytes : (t : Texts) (method : Method) (one other : TuningBytes) → IsAim aim → GivesBytes t aim method one → GivesBytes t aim method other → one ≡ other
  same_bytes t method one other is_aim (i, f, (means, s, some), wrote_cert, wrote_report) (j, g, (means_too, r, more), wrote_cert_too, wrote_report_too) =
      let inputs : i ≡ j = one_meaning t i j means means_too in
      let again : IsSearchFor (problem_of i) aim method g = subst (λ (x : InputsView). IsSearchFor (problem_of x) aim method g) (sym inputs) r in
      let found : f ≡ g = answer_one (problem_of i) aim method f g s again is_aim in
      let cert : one.cert ≡ cert_text f = wrote_cert in
      let cert_too : other.cert ≡ cert_text g = wrote_cert_too in
      let report : one.report ≡ report_text (report_for i aim f) = wrote_report in
      let report_too : other.report ≡ report_text (report_for j aim g) = wrote_report_too in
      let certs = cert ∙ (ap cert_text found ∙ sym cert_too) in
      let reports =
      report
      ∙ (ap (λ (x : InputsView). report_text (report_for x aim f)) inputs ∙ (ap (λ (x : Findings). report_text (report_for j aim x)) found ∙ sym report_too)) in
      λ k. record { report = reports k; cert = certs k }
