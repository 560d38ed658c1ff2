-- What a tuning for the best setting alone wrote: the certificate and the report of the optimum.
use Rattle.std.proofs.Common.{◌≡◌, ℕ, zero, suc, ◌+◌, ◌<◌, arith, Bool, cond, false, List, [], Option, Some, None, refl, sym, ◌∙◌, ap, subst}
use Rattle.std.specs.List.{count_by, range_with_len}
use Rattle.std.proofs.lemmas.List.Sums.{sum_by-cons}
use Rattle.std.specs.Option.{is_some, option_map}
use Rattle.rc_instr.specs.Warrior.{WarriorView}
use Rattle.tune_problem.specs.Inputs.{InputsView}
use Rattle.tune_problem.specs.Problem.{Problem, problem_of}
use Rattle.tune_problem.specs.Optimum.{candidates_of}
use Rattle.tune_problem.specs.Valid.{cert_of}
use Rattle.tune_problem.specs.Ranking.{first_of, best_alone}
use Rattle.tune_problem.specs.declared.watcher.Best.{Best}
use Rattle.tune_problem.specs.declared.cert.Found.{Found}
use Rattle.tune_cert.specs.CertText.{cert_text, statement_text, statement_with}
use Rattle.tune_search.specs.Findings.{IsBestFrom, IsSearchFor, found_of}
use Rattle.tune_search.specs.Found.{NoneAssembles, as_findings}
use Rattle.tune_search.specs.declared.findings.Findings.{Findings}
use Rattle.tune_search.specs.declared.method.Method.{Method}
use Rattle.tune_problem.proofs.WholeOfParts.{none_below}
use Rattle.tune_search.proofs.Finish.{as_found}
use Rattle.tune_runs.specs.Report.{Report, report_for, report_text, named_setting}
use Rattle.tune_runs.specs.TuneRun.{Texts, WritesTuning, answer_of}
use Rattle.tune_runs.specs.Agreement.{MayFind}
use Rattle.tune_runs.specs.Runs.{Gets, Writer}

abbrev bit : Bool → ℕ
bit b = cond b 1 0

-- where nothing passes, the count is 0
none_count : (g : ℕ → Bool) (a n : ℕ) → ((k : ℕ) → k < n → g (a + k) ≡ false) → count_by g (range_with_len a n) ≡ 0
none_count g a zero h = refl
none_count g a (suc n) h =
    let more : count_by g (range_with_len a (suc n)) ≡ bit (g a) + count_by g (range_with_len (a + 1) n) = sum_by-cons (λ v. bit (g v)) a (range_with_len (a + 1) n) in
    let here : g a ≡ false = (let at : a + 0 ≡ a = omega arith in ap g (sym at) ∙ h 0 (omega arith)) in
    let rest : count_by g (range_with_len (a + 1) n) ≡ 0 = none_count g (a + 1) n (λ k l. let at : (a + 1) + k ≡ a + suc k = omega arith in ap g at ∙ h (suc k) (omega (arith, l))) in
    let none : bit (g a) ≡ 0 = ap bit here in
    omega (arith, more, rest, none)

-- a setting that is not a candidate has no warrior
no_warrior : (o : Option WarriorView) → ((w : WarriorView) × (o ≡ Some w) → ⊥) → is_some o ≡ false
no_warrior None none = refl
no_warrior (Some w) none = absurd (none (w, refl))

pub no_candidates : (p : Problem) → NoneAssembles p → candidates_of p ≡ 0
unfolding candidates_of
no_candidates p none = none_count (λ v. is_some (p.warrior v)) 0 p.count (λ k l. let at : 0 + k ≡ k = omega arith in ap (λ v. is_some (p.warrior v)) at ∙ no_warrior (p.warrior k) (none k l))

module _ (t : Texts) (method : Method) (i : InputsView) (f : Findings) (s : IsSearchFor (problem_of i) best_alone method f) (some : 0 < f.candidates) where
  -- some setting is ranked
  pub ranks_one : (best : Best) × (first_of f.ranking ≡ Some best)
  ranks_one = by_first (first_of f.ranking) refl
    where
      by_first : (o : Option Best) → first_of f.ranking ≡ o → (best : Best) × (first_of f.ranking ≡ Some best)
      by_first (Some best) is = (best, is)
      by_first None is =
          let zero_of : candidates_of (problem_of i) ≡ 0 = no_candidates (problem_of i) (none_below (problem_of i) (subst (IsBestFrom (problem_of i) 0) is s.best)) in
          let count : f.candidates ≡ candidates_of (problem_of i) = s.work.count in
          absurd (omega (arith, some, count, zero_of))

  -- the report is that of what is found
  same_report : (best : Best) → first_of f.ranking ≡ Some best → report_for i best_alone f ≡ report_for i best_alone (as_findings (found_of f best))
  same_report best is = λ j. record {
    vectors = (problem_of i).count;
    candidates = candidates_of (problem_of i);
    best = option_map (named_setting i) (is j);
    floor = 0;
    most = (report_for i best_alone f).most;
    fights = f.fights;
    all_fights = (report_for i best_alone f).all_fights;
    ranking = [];
  }

  same_cert : (best : Best) → first_of f.ranking ≡ Some best
      → statement_text (statement_with f.version (answer_of 0 (first_of f.ranking)) f.rows) ≡ cert_text (cert_of (found_of f best))
  same_cert best is = ap (λ (o : Option Best). statement_text (statement_with f.version (answer_of 0 o) f.rows)) is

-- what a tuning wrote for the best setting, as one finding of a search
pub record IsTuned (t : Texts) (method : Method) (report cert : Writer) : Type 0 where
  pub inputs : InputsView
  pub found : Found
  pub tuning : MayFind t method inputs found
  pub certified : Gets cert (cert_text (cert_of found))
  pub reported : Gets report (report_text (report_for inputs best_alone (as_findings found)))

pub tuned : (t : Texts) (method : Method) (report cert : Writer) → WritesTuning t method report cert → IsTuned t method report cert
tuned t method report cert (i, f, (means, s, some), wrote_cert, wrote_report) =
    let best = ranks_one t method i f s some in
    record {
      inputs = i;
      found = found_of f best.0;
      tuning = record { means = means; search = as_found (problem_of i) method f best.0 best.1 s };
      certified = subst (λ (x : List ℕ). Gets cert x) (same_cert t method i f s some best.0 best.1) wrote_cert;
      reported = subst (λ (r : Report). Gets report (report_text r)) (same_report t method i f s some best.0 best.1) wrote_report;
    }
