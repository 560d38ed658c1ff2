-- Accepted shares of a certificate are an accepted certificate, and the other way round.
use Rattle.std.proofs.Common.{◌≡◌, ℕ, ◌≤◌, Bool, List, Some, true, refl, sym, ◌∙◌, ap, subst, arith, Result, Ok, Err}
use Rattle.std.specs.Option.{is_some}
use Rattle.std.proofs.lemmas.Bool.{true≢false}
use Rattle.tables.specs.Records.{records_of}
use Rattle.tune_problem.specs.Inputs.{InputsView}
use Rattle.tune_problem.specs.Parts.{part, whole}
use Rattle.tune_problem.specs.Problem.{Problem, problem_of}
use Rattle.tune_problem.specs.declared.part.Part.{Part}
use Rattle.tune_problem.specs.declared.statement.Answer.{Answer}
use Rattle.tune_problem.specs.declared.statement.Answer.TheVariants.{Best as TheBest}
use Rattle.tune_problem.specs.declared.statement.Statement.{Statement}
use Rattle.tune_problem.specs.declared.watcher.Best.{Best}
use Rattle.tune_problem.proofs.Scores.{inputs_problem}
use Rattle.tune_cert.specs.Spelling.{cert_of_records, statement_of}
use Rattle.tune_cert.specs.Judgement.{accepted_with, aim_for, failure_of, judgement_of, judgement_on, judgement_on_read, no_demand, ranking_for}
use Rattle.tune_cert.specs.Verdict.{IsVerdictOf}
use Rattle.tune_cert.specs.declared.demand.Demand.{Demand}
use Rattle.tune_cert.specs.declared.verdict.Judgement.{Judgement}
use Rattle.tune_cert.specs.declared.verdict.Judgement.TheVariants.{Accepted, Rejected}
use Rattle.tune_cert.specs.declared.verdict.Verdict.{Verdict}
use Rattle.tune_cert.specs.declared.verdict.Verdict.TheVariants.{Accepted as AcceptedCert, Rejected as RejectedCert}
use Rattle.tune_cert.proofs.Demands.{share_of_whole, whole_of_shares}
use Rattle.tune_cert.proofs.PlainChecks.{judgement_is, verdict_on_read}
use Rattle.tune_cert.proofs.RightVerdicts.{right_verdict}
use Rattle.tune_runs.specs.Report.{named_ranking, rank_lines}
use Rattle.tune_runs.specs.TuneRun.{Texts, Means}
use Rattle.tune_runs.specs.CheckRun.{WritesCheck, accepts, judgement_lines, Accepts, AcceptsFor}
use Rattle.tune_runs.specs.Agreement.{AllAccept, NamesIn, AllName, AcceptsAsWhole}
use Rattle.tune_runs.specs.Runs.{Writer, Gets}
use Rattle.tune_runs.proofs.AcceptedParts.{accepted_answer}
use Rattle.tune_runs.proofs.Meaning.{one_meaning}
use Rattle.tune_runs.proofs.Verdicts.{said_of}

-- ---- one share

-- the statement that a share accepts
record IsAccepted (p : Problem) (demand : Demand) (share : Part) (bytes : List ℕ) (answer : Answer) : Type 0 where
  statement : Statement
  read : statement_of (is_some demand.floor) (records_of bytes) ≡ Ok statement
  answer_is : answer ≡ statement.answer
  accepted : judgement_on p demand share statement ≡ accepted_with p demand statement

accepted_statement : (p : Problem) (demand : Demand) (share : Part) (bytes : List ℕ) (answer : Answer) (ranking : List Best)
    → judgement_of p demand share (records_of bytes) ≡ Accepted answer ranking → IsAccepted p demand share bytes answer
accepted_statement p demand share bytes answer ranking is = by (statement_of (is_some demand.floor) (records_of bytes)) refl is
  where
    by : (r : Result Statement ℕ) → statement_of (is_some demand.floor) (records_of bytes) ≡ r → judgement_on_read p demand share r ≡ Accepted answer ranking → IsAccepted p demand share bytes answer
    by (Err n) e is = absurd (cc)
    by (Ok s) e is =
        let a = accepted_answer s.answer answer (ranking_for p s.rows (aim_for demand s.answer)) ranking (failure_of p demand share s) is in
        record { statement = s; read = e; answer_is = sym a.0; accepted = a.1 }

-- the lines of an accepting judgement name its answer
names_answer : (i : InputsView) (demand : Demand) (share : Part) (answer : Answer) (ranking : List Best) (out : Writer) → Gets out (judgement_lines i demand (Some share) (Accepted answer ranking)) → NamesIn share answer out
unfolding judgement_lines
names_answer i demand share answer ranking out lines = (rank_lines 1 (named_ranking i demand.keep ranking), lines)

module _ (t : Texts) (demand : Demand) (bytes : List ℕ) (i : InputsView) (m : Means t i) (share : Part) (out : Writer) where
  record IsAccepting : Type 0 where
    answer : Answer
    ranking : List Best
    is : judgement_of (problem_of i) demand share (records_of bytes) ≡ Accepted answer ranking
    names : NamesIn share answer out

  by_judgement : (j : Judgement) → judgement_of (problem_of i) demand share (records_of bytes) ≡ j → true ≡ accepts j → Gets out (judgement_lines i demand (Some share) j) → IsAccepting
  by_judgement (Accepted answer ranking) is says lines = record { answer = answer; ranking = ranking; is = is; names = names_answer i demand share answer ranking out lines }
  by_judgement (Rejected row reason) is says lines = absurd (true≢false says)

  accepting : WritesCheck t demand (Some share) bytes true out → IsAccepting
  accepting check =
      let c = said_of t demand (Some share) bytes true out check in
      let same : c.inputs ≡ i = one_meaning t c.inputs i c.means m in
      by_judgement c.judgement (subst (λ (x : InputsView). judgement_of (problem_of x) demand share (records_of bytes) ≡ c.judgement) same c.is) c.says
      (subst (λ (x : InputsView). Gets out (judgement_lines x demand (Some share) c.judgement)) same c.lines)

-- ---- all shares

pub shared_answer : (t : Texts) (demand : Demand) (shares : ℕ) (bytes : List ℕ) (out : ℕ → Writer) → AllAccept t demand shares bytes out
    → (answer : Answer) × AcceptsFor t demand bytes answer × AllName shares answer out
shared_answer t demand shares bytes out all =
    let first = said_of t demand (Some (part 1 shares)) bytes true (out 1) (all.each 1 (omega arith) all.some) in
    let i = first.inputs in
    let m = first.means in
    let p = problem_of i in
    let here : (n : ℕ) → 1 ≤ n → n ≤ shares → IsAccepting t demand bytes i m (part n shares) (out n) = λ n a b. accepting t demand bytes i m (part n shares) (out n) (all.each n a b) in
    let own : (n : ℕ) (a : 1 ≤ n) (b : n ≤ shares) → IsAccepted p demand (part n shares) bytes (here n a b).answer =
    λ n a b. accepted_statement p demand (part n shares) bytes (here n a b).answer (here n a b).ranking (here n a b).is in
    let one = own 1 (omega arith) all.some in
    let s = one.statement in
    let same : (n : ℕ) (a : 1 ≤ n) (b : n ≤ shares) → (own n a b).statement ≡ s = λ n a b. (let x = (own n a b).read in let y = one.read in cc) in
    let each : (n : ℕ) → 1 ≤ n → n ≤ shares → judgement_on p demand (part n shares) s ≡ accepted_with p demand s =
    λ n a b. subst (λ (x : Statement). judgement_on p demand (part n shares) x ≡ accepted_with p demand x) (same n a b) (own n a b).accepted in (
      s.answer,
      (i, ranking_for p s.rows (aim_for demand s.answer), m, ap (judgement_on_read p demand whole) one.read ∙ whole_of_shares p demand s shares all.some each),
      λ n a b.
          let answer : (here n a b).answer ≡ s.answer = (own n a b).answer_is ∙ ap (λ (x : Statement). x.answer) (same n a b) in
          subst (λ (x : Answer). NamesIn (part n shares) x (out n)) answer (here n a b).names,
    )

pub in_each_share : (t : Texts) (demand : Demand) (share : Part) (bytes : List ℕ) (says : Bool) (out : Writer) → WritesCheck t demand (Some share) bytes says out
    → AcceptsAsWhole t demand share bytes says out
in_each_share t demand share bytes says out check answer (i, ranking, m, accepted) =
    let p = problem_of i in
    let a = accepted_statement p demand whole bytes answer ranking accepted in
    let s = a.statement in
    let c = said_of t demand (Some share) bytes says out check in
    let inputs : c.inputs ≡ i = one_meaning t c.inputs i c.means m in
    let own : judgement_of p demand share (records_of bytes) ≡ accepted_with p demand s =
    ap (judgement_on_read p demand share) a.read ∙ share_of_whole p demand s a.accepted share in
    let is : judgement_of p demand share (records_of bytes) ≡ c.judgement =
    subst (λ (x : InputsView). judgement_of (problem_of x) demand share (records_of bytes) ≡ c.judgement) inputs c.is in
    let same : c.judgement ≡ accepted_with p demand s = sym is ∙ own in
    let lines : Gets out (judgement_lines i demand (Some share) (accepted_with p demand s)) =
    subst (λ (x : List ℕ). Gets out x) (ap (λ (x : InputsView). judgement_lines x demand (Some share) c.judgement) inputs ∙ ap (judgement_lines i demand (Some share)) same) c.lines in (
      c.says ∙ ap accepts same,
      subst (λ (x : Answer). NamesIn share x out) (sym a.answer_is) (names_answer i demand share s.answer (ranking_for p s.rows (aim_for demand s.answer)) out lines),
    )

-- ---- without a demand

abbrev answer_in : Answer → Judgement → Answer
answer_in other (Accepted answer ranking) = answer
answer_in other (Rejected row reason) = other

pub names_optimum : (t : Texts) (bytes : List ℕ) (answer : Answer) → AcceptsFor t no_demand bytes answer → (best : Best) × (answer ≡ TheBest best) × Accepts t bytes best.vector best.total
names_optimum t bytes answer (i, ranking, m, accepted) = by (verdict_on_read (problem_of i) whole (cert_of_records (records_of bytes))) (judgement_is (problem_of i) whole (records_of bytes))
  where
    by : (v : Verdict) → IsVerdictOf (problem_of i) whole (records_of bytes) v → (best : Best) × (answer ≡ TheBest best) × Accepts t bytes best.vector best.total
    by (AcceptedCert best total) is =
        (record { vector = best; total = total }, ap (answer_in answer) (sym accepted ∙ is), (i, m, right_verdict (problem_of i) (records_of bytes) (AcceptedCert best total) (inputs_problem i) is))
    by (RejectedCert row reason) is = absurd (let both : Accepted answer ranking ≡ Rejected row reason = sym accepted ∙ is in cc)
