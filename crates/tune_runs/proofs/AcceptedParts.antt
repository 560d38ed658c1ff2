-- Accepted certificates of parts name the optimum of the whole.
use Rattle.std.proofs.Common.{◌≡◌, ℕ, ◌≤◌, List, [], Option, Some, None, true, refl, ap, subst, arith, inl, inr, Ok, Err}
use Rattle.std.specs.Prelude.{Result}
use Rattle.std.specs.Option.{is_some}
use Rattle.std.proofs.lemmas.Bool.{true≢false}
use Rattle.tables.specs.Records.{records_of}
use Rattle.tune_template.specs.Instances.{setting_count}
use Rattle.tune_problem.specs.Parts.{whole}
use Rattle.tune_problem.specs.Inputs.{InputsView}
use Rattle.tune_problem.specs.Problem.{Problem, IsProblem, problem_of}
use Rattle.tune_problem.specs.Below.{AllBelow, cert_with}
use Rattle.tune_problem.specs.BestPart.{in_part, IsOutcome, AllStayBelow, IsBestPart}
use Rattle.tune_problem.specs.declared.statement.Answer.{Answer}
use Rattle.tune_problem.specs.declared.statement.Answer.TheVariants.{Best as TheBest, NoneFrom}
use Rattle.tune_problem.specs.declared.statement.Statement.{Statement}
use Rattle.tune_problem.specs.declared.watcher.Best.{Best}
use Rattle.tune_problem.proofs.Scores.{inputs_problem}
use Rattle.tune_problem.proofs.BelowFloors.{all_below}
use Rattle.tune_problem.proofs.Certificates.{valid_is_optimum, valid_total}
use Rattle.tune_problem.proofs.WholeOfParts.{whole_best, whole_below, none_below, below_none}
use Rattle.tune_cert.specs.Spelling.{statement_of}
use Rattle.tune_cert.specs.Judgement.{failure_of, judged, judgement_by, judgement_on_read, judgement_of, MeetsBy}
use Rattle.tune_cert.specs.declared.demand.Demand.{Demand}
use Rattle.tune_cert.specs.declared.verdict.Reason.{Reason}
use Rattle.tune_cert.specs.declared.verdict.Judgement.{Judgement}
use Rattle.tune_cert.specs.declared.verdict.Judgement.TheVariants.{Accepted, Rejected}
use Rattle.tune_cert.specs.declared.verdict.Verdict.{Verdict}
use Rattle.tune_cert.specs.declared.verdict.Verdict.TheVariants.{Accepted as AcceptedCert, Rejected as RejectedCert}
use Rattle.tune_cert.proofs.Demands.{met_if_accepted}
use Rattle.tune_runs.specs.Report.{rank_lines, named_ranking}
use Rattle.tune_runs.specs.TuneRun.{Texts, of_part, Means, HasNoCandidate}
use Rattle.tune_runs.specs.CheckRun.{accepts, verdict_line, judgement_lines, HasRightVerdict, Accepts, IsAccepted, IsShown}
use Rattle.tune_runs.specs.Agreement.{Checks, ChecksFor, NamesAnswer, AreShown, IsBestShown, IsBestOfAll, AreShownBelow, AreAllBelow}
use Rattle.tune_runs.specs.Runs.{Writer, Gets}
use Rattle.tune_runs.proofs.Meaning.{one_meaning, made_of, means}
use Rattle.tune_runs.proofs.Verdicts.{right_line, said_of}

-- ---- what a check with a demand accepts

-- an accepting judgement is on a statement with this answer
pub accepted_answer : (answer other : Answer) (ranking more : List Best) (o : Option (ℕ × Reason)) → judgement_by answer ranking o ≡ Accepted other more
    → (answer ≡ other) × (judgement_by answer ranking o ≡ Accepted answer ranking)
accepted_answer answer other ranking more None e = (ap answer_in e, refl)
  where
    answer_in : Judgement → Answer
    answer_in (Accepted a r) = a
    answer_in (Rejected number reason) = answer
accepted_answer answer other ranking more (Some x) e = absurd (cc)

met_outcome : (p : Problem) (laws : IsProblem p) (demand : Demand) (s : Statement) (answer : Answer) → MeetsBy p demand s answer → IsOutcome p answer
met_outcome p laws demand s (TheBest best) met =
    let c = cert_with s.version s.count s.rows best in
    (valid_is_optimum p laws c met.0, valid_total p laws c met.0)
met_outcome p laws demand s (NoneFrom floor) met = all_below p laws floor s.version s.rows met.2

-- a certificate that is accepted for a demand is right
accepted_outcome : (p : Problem) (laws : IsProblem p) (demand : Demand) (answer : Answer) (ranking : List Best) (r : Result Statement ℕ) → judgement_on_read p demand whole r ≡ Accepted answer ranking
    → IsOutcome p answer
accepted_outcome p laws demand answer ranking (Err number) e = absurd (cc)
accepted_outcome p laws demand answer ranking (Ok s) e =
    let a = accepted_answer s.answer answer _ ranking (failure_of p demand whole s) e in
    subst (IsOutcome p) a.0 (met_outcome p laws demand s s.answer (met_if_accepted p laws demand s a.1))

-- ---- what is shown of a part is its outcome

accepted_is : (t : Texts) (i : InputsView) (parts n : ℕ) (bytes : List ℕ) (o : Answer) → Means (of_part t n parts) (in_part i n parts) → IsAccepted (of_part t n parts) bytes o
    → IsOutcome (problem_of (in_part i n parts)) o
accepted_is t i parts n bytes o m (demand, (j, ranking, mean, accepted)) =
    let same : j ≡ in_part i n parts = one_meaning (of_part t n parts) j (in_part i n parts) mean m in
    subst (λ x. IsOutcome (problem_of x) o) same (accepted_outcome (problem_of j) (inputs_problem j) demand o ranking (statement_of (is_some demand.floor) (records_of bytes)) accepted)

shown_is : (t : Texts) (i : InputsView) (parts n : ℕ) (bytes : List ℕ) (o : Answer) → Means (of_part t n parts) (in_part i n parts) → IsShown (of_part t n parts) bytes o
    → IsOutcome (problem_of (in_part i n parts)) o
shown_is t i parts n bytes (TheBest best) m h = accepted_is t i parts n bytes (TheBest best) m h
shown_is t i parts n bytes (NoneFrom floor) m (inl h) = accepted_is t i parts n bytes (NoneFrom floor) m h
shown_is t i parts n bytes (NoneFrom floor) m (inr (j, mean, none)) =
    let same : j ≡ in_part i n parts = one_meaning (of_part t n parts) j (in_part i n parts) mean m in
    subst (λ (x : InputsView). AllBelow (problem_of x) floor) same (below_none (problem_of j) none floor)

-- whatever is shown of texts, they mean inputs
shown_means : (t : Texts) (bytes : List ℕ) (o : Answer) → IsShown t bytes o → (i : InputsView) × Means t i
shown_means t bytes (TheBest best) h = (h.1.0, h.1.2)
shown_means t bytes (NoneFrom floor) (inl h) = (h.1.0, h.1.2)
shown_means t bytes (NoneFrom floor) (inr h) = (h.0, h.1)

-- texts that mean inputs with one part mean them with any other
part_means : (t : Texts) (j : InputsView) (number parts n k : ℕ) → Means (of_part t number parts) j → 1 ≤ n → n ≤ k → k ≤ setting_count j.template → Means (of_part t n k) (in_part j n k)
part_means t j number parts n k m a b c =
    let x = made_of (of_part t number parts) j m in
    means (of_part t n k) (in_part j n k) (record {
      few = x.few;
      template = x.template;
      opponents = x.opponents;
      schedule = x.schedule;
      parted = record { some = a; within = b; few = c };
      rules = x.rules;
      part = refl;
    })

module _ (t : Texts) (parts : ℕ) (cert : ℕ → List ℕ) (outcome : ℕ → Answer) (each : AreShown t parts cert outcome) where
  module _ (number : ℕ) (j : InputsView) (m : Means (of_part t number parts) j) (some : 1 ≤ parts) where
    few : parts ≤ setting_count j.template
    few = (made_of (of_part t number parts) j m).parted.few

    whole_means : Means (of_part t 1 1) (in_part j 1 1)
    whole_means = part_means t j number parts 1 1 m (omega arith) (omega arith) (omega (arith, some, few))

    outs : (n : ℕ) → 1 ≤ n → n ≤ parts → IsOutcome (problem_of (in_part j n parts)) (outcome n)
    outs n a b = shown_is t j parts n (cert n) (outcome n) (part_means t j number parts n parts m a b few) (each n a b)

  whole_optimum : (number : ℕ) (best : Best) → IsBestPart parts outcome number best → IsBestOfAll t parts number best
  whole_optimum number best found =
      let low = found.some in
      let high = found.within in
      let some : 1 ≤ parts = omega (arith, low, high) in
      let one = shown_means (of_part t number parts) (cert number) (outcome number) (each number low high) in
      let j = one.0 in
      let m = one.1 in
      (in_part j 1 1, whole_means number j m some, whole_best j parts some (few number j m some) outcome (outs number j m some) number best found)

  whole_floor : (floor : ℕ) → 1 ≤ parts → AllStayBelow floor parts outcome → AreAllBelow t floor
  whole_floor floor some all =
      let one = shown_means (of_part t 1 parts) (cert 1) (outcome 1) (each 1 (omega arith) some) in
      (in_part one.0 1 1, whole_means 1 one.0 one.1 some, whole_below one.0 parts some (few 1 one.0 one.1 some) outcome (outs 1 one.0 one.1 some) floor all)

pub best_of_all : (t : Texts) (parts number : ℕ) (best : Best) → IsBestShown t parts number best → IsBestOfAll t parts number best
best_of_all t parts number best h = whole_optimum t parts h.cert h.outcome h.shown number best h.first

pub all_below_of : (t : Texts) (parts floor : ℕ) → AreShownBelow t parts floor → AreAllBelow t floor
all_below_of t parts floor h = whole_floor t parts h.cert h.outcome h.shown floor h.some h.below

pub whole_without : (t : Texts) (parts : ℕ) → 1 ≤ parts → ((n : ℕ) → 1 ≤ n → n ≤ parts → HasNoCandidate (of_part t n parts)) → HasNoCandidate (of_part t 1 1)
whole_without t parts some none =
    let below = whole_floor t parts (λ n. []) (λ n. NoneFrom 0) (λ n a b. inr (none n a b)) 0 some (λ n a b. omega arith) in
    (below.0, below.1, none_below (problem_of below.0) below.2)

-- the line of a verdict that accepts
pub accepted_line : (t : Texts) (bytes : List ℕ) (out : Writer) → Checks t bytes true out → (best total : ℕ) × Accepts t bytes best total × Gets out (verdict_line None (AcceptedCert best total))
accepted_line t bytes out check = let r = right_line t bytes true out check in by_verdict r.verdict r.right r.says r.line where
  by_verdict : (v : Verdict) → HasRightVerdict t bytes v → true ≡ accepts (judged v) → Gets out (verdict_line None v) → (best total : ℕ) × Accepts t bytes best total × Gets out (verdict_line None (AcceptedCert best total))
  by_verdict (AcceptedCert best total) right says line = (best, total, right, line)
  by_verdict (RejectedCert row reason) right says line = absurd (true≢false says)

-- the line of a judgement that accepts
pub accepted_text : (t : Texts) (demand : Demand) (bytes : List ℕ) (out : Writer) → ChecksFor t demand bytes true out → NamesAnswer t demand bytes out
unfolding judgement_lines
accepted_text t demand bytes out check = let c = said_of t demand None bytes true out check in by_judgement c.inputs c.means c.judgement c.is c.says c.lines
  where
    by_judgement : (i : InputsView) → Means t i → (j : Judgement) → judgement_of (problem_of i) demand whole (records_of bytes) ≡ j → true ≡ accepts j
        → Gets out (judgement_lines i demand None j) → NamesAnswer t demand bytes out
    by_judgement i m (Rejected number reason) is says lines = absurd (true≢false says)
    by_judgement i m (Accepted answer ranking) is says lines =
        record { answer = answer; accepts = (i, ranking, m, is); rest = rank_lines 1 (named_ranking i demand.keep ranking); lines = lines }
