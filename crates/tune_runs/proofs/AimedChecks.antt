-- A check accepts what a tuning wrote that was asked for the same, and says what it found.
use Rattle.std.proofs.Common.{◌≡◌, ℕ, ◌<◌, ◌≤◌, arith, Bool, true, List, [], ◌∷◌, ◌++◌, map, length, Option, Some, None, Ok, refl, sym, ◌∙◌, ap, subst}
use Rattle.std.specs.Prelude.{nat_lt, if◌then◌else◌}
use Rattle.std.specs.Option.{is_some, option_map, unwrap_or}
use Rattle.std.proofs.lemmas.Bool.Decides.{nat_tests}
use Rattle.tables.specs.Records.{records_of}
use Rattle.mars_fight.specs.Limits.{MOST_TOTAL}
use Rattle.mars_fight.proofs.Listed.{listed}
use Rattle.tune_template.specs.Vectors.{vectors_of}
use Rattle.tune_template.specs.Instances.{setting_count}
use Rattle.tune_problem.specs.Parts.{IsPart}
use Rattle.tune_problem.specs.Inputs.{InputsView, index_among, part_start, settings_of}
use Rattle.tune_problem.specs.Problem.{Problem, IsProblem, problem_of}
use Rattle.tune_problem.specs.Optimum.{candidates_of, greatest_of}
use Rattle.tune_problem.specs.Below.{AllBelow, cert_with}
use Rattle.tune_problem.specs.Ranking.{IsAim, first_of}
use Rattle.tune_problem.specs.Exact.{IsExact, listed_ranking}
use Rattle.tune_problem.specs.declared.aim.Aim.{Aim}
use Rattle.tune_problem.specs.declared.part.Part.{Part}
use Rattle.tune_problem.specs.declared.statement.Answer.{Answer}
use Rattle.tune_problem.specs.declared.statement.Statement.{Statement}
use Rattle.tune_problem.specs.declared.watcher.Best.{Best}
use Rattle.tune_problem.proofs.PartSteps.{part_len, part_some}
use Rattle.tune_problem.proofs.Scores.{inputs_problem}
use Rattle.tune_problem.proofs.Weights.{greatest_is}
use Rattle.tune_cert.specs.CertText.{statement_text, statement_with}
use Rattle.tune_cert.specs.Spelling.{IsStatement, statement_of}
use Rattle.tune_cert.specs.Judgement.{IsExactFor, MeetsBy, MeetsDemand, accepted_with, aim_for, judgement_of, judgement_on_read, ranking_for}
use Rattle.tune_cert.specs.declared.demand.Demand.{Demand}
use Rattle.tune_cert.specs.declared.verdict.Judgement.TheVariants.{Accepted}
use Rattle.tune_cert.proofs.Demands.{accepted_if_met, share_of_whole}
use Rattle.tune_cert.proofs.Statements.{statement_read}
use Rattle.tune_cert.proofs.WrittenBack.{written, written_statement}
use Rattle.tune_search.specs.Findings.{IsBestFrom, IsCertified, IsSearchFor}
use Rattle.tune_search.specs.declared.findings.Findings.{Findings}
use Rattle.tune_search.specs.declared.method.Method.{Method}
use Rattle.tune_search.proofs.ExactRows.{is_exact, lists_ranking}
use Rattle.tune_problem.proofs.WholeOfParts.{none_below}
use Rattle.tune_runs.specs.Report.{named_setting, rank_lines}
use Rattle.tune_runs.specs.TuneRun.{Texts, Means, answer_of}
use Rattle.tune_runs.specs.CheckRun.{accepted_words, accepts, answer_text, judgement_lines, share_meant}
use Rattle.tune_runs.specs.Agreement.{filled}
use Rattle.tune_runs.specs.Runs.{Writer, Gets}
use Rattle.tune_runs.specs.AimedRuns.{AgreeAsked, Asked, ChecksAsked, IsAsked, TunesAsked, accepted_lines, aim_of}
use Rattle.tune_runs.proofs.BestTunings.{no_candidates}
use Rattle.tune_runs.proofs.Meaning.{made_of, one_meaning}
use Rattle.tune_runs.proofs.Verdicts.{said_of}
use Rattle.tune_runs.proofs.Writable.{most_points, writable_from}

-- ---- the start setting is one of the settings

start_among : (first count v : ℕ) → 0 < count → index_among first count v < count
start_among first count v some = grind (arith, nat_tests)

start_inside : (t : Texts) (i : InputsView) → Means t i → (problem_of i).start < (problem_of i).count
unfolding part_start settings_of
start_inside t i m =
    let h = made_of t i m in
    let parted : IsPart i.part (setting_count i.template) = subst (λ (q : Part). IsPart q (setting_count i.template)) (sym h.part) h.parted in
    let many = part_len i.part (vectors_of i.template.ranges.spans) parted in
    let some = part_some i.part (setting_count i.template) parted in
    start_among _ _ _ (omega (arith, many, some))

-- ---- a search for what is asked

no_first : (xs : List Best) → first_of xs ≡ None → [] ≡ xs
no_first [] e = refl
no_first (x ∷ xs) e = absurd (cc)

module _ (p : Problem) (laws : IsProblem p) (start : p.start < p.count) (demand : Demand) (is_aim : IsAim (aim_of demand))
    (method : Method) (f : Findings) (s : IsSearchFor p (aim_of demand) method f) (some : 0 < f.candidates) where
  abbrev aim : Aim
  aim = aim_of demand

  abbrev said : Option Best → Statement
  said best = statement_with f.version (answer_of aim.floor best) f.rows

  -- every candidate reaches the floor 0, so that a floor is asked for if none reaches it
  floor_asked : first_of f.ranking ≡ None → demand.floor ≡ Some aim.floor
  floor_asked none = by_floor demand.floor refl
    where
      by_floor : (o : Option ℕ) → demand.floor ≡ o → o ≡ Some (unwrap_or o 0)
      by_floor (Some n) e = refl
      by_floor None e =
          let below : AllBelow p aim.floor = subst (IsBestFrom p aim.floor) none s.best in
          let zero : aim.floor ≡ 0 = ap (λ (o : Option ℕ). unwrap_or o 0) e in
          let none_of : candidates_of p ≡ 0 = no_candidates p (none_below p (subst (AllBelow p) zero below)) in
          let count : f.candidates ≡ candidates_of p = s.work.count in
          absurd (omega (arith, some, count, none_of))

  -- ---- the demand is met

  exact_by : (best : Best) (o : Option ℕ) → demand.keep ≡ o → IsExactFor p (option_map (λ (keep : ℕ). record { keep = keep; floor = aim.floor }) o) f.rows
  exact_by best None e = tt
  exact_by best (Some k) e =
      subst (λ (n : ℕ). IsExact p (record { keep = n; floor = aim.floor }) f.rows) (ap (λ (o : Option ℕ). unwrap_or o 1) e) (is_exact p laws aim is_aim start method f s)

  met_by : (o : Option Best) → first_of f.ranking ≡ o → IsCertified p aim.floor f.version f.rows o → MeetsBy p demand (said o) (answer_of aim.floor o)
  met_by None none h = (floor_asked none, h.rows_are, h)
  met_by (Some best) is h = (h, exact_by best demand.keep refl)

  met : MeetsDemand p demand (said (first_of f.ranking))
  met = met_by (first_of f.ranking) refl s.certified

  -- ---- what is written is read

  cert_read : (best : Best) → IsStatement (said (Some best)) → statement_of (is_some demand.floor) (records_of (statement_text (said (Some best)))) ≡ Ok (said (Some best))
  cert_read best h =
      ap (statement_of (is_some demand.floor)) (written (cert_with f.version (length f.rows) f.rows best) h).text ∙ statement_read (is_some demand.floor) (said (Some best)) h tt

  read_by : (o : Option Best) → first_of f.ranking ≡ o → IsStatement (said o) → statement_of (is_some demand.floor) (records_of (statement_text (said o))) ≡ Ok (said o)
  read_by None none h = ap (λ (q : Option ℕ). statement_of (is_some q) (records_of (statement_text (said None)))) (floor_asked none) ∙ written_statement (said None) h
  read_by (Some best) is h = cert_read best h

  judged : IsStatement (said (first_of f.ranking)) → (share : Part) (bytes : List ℕ) → bytes ≡ statement_text (said (first_of f.ranking))
      → judgement_of p demand share (records_of bytes) ≡ accepted_with p demand (said (first_of f.ranking))
  judged h share bytes e =
      ap (λ (b : List ℕ). judgement_of p demand share (records_of b)) e
      ∙ ap (judgement_on_read p demand share) (read_by (first_of f.ranking) refl h)
      ∙ share_of_whole p demand (said (first_of f.ranking)) (accepted_if_met p laws demand (said (first_of f.ranking)) met) share

  -- ---- the ranking is that of the report

  ranking_by : (k : ℕ) → demand.keep ≡ Some k → (o : Option Best) → first_of f.ranking ≡ o → ranking_for p f.rows (aim_for demand (answer_of aim.floor o)) ≡ f.ranking
  ranking_by k e None none = no_first f.ranking none
  ranking_by k e (Some best) is =
      ap (λ (o : Option ℕ). ranking_for p f.rows (option_map (λ (keep : ℕ). record { keep = keep; floor = aim.floor }) o)) e
      ∙ ap (λ (n : ℕ). listed_ranking p (record { keep = n; floor = aim.floor }) f.rows) (sym (ap (λ (o : Option ℕ). unwrap_or o 1) e))
      ∙ lists_ranking p laws aim is_aim start method f s

  -- the lines of a judgement for `keep`, and of the report's ranking
  module _ (i : InputsView) (share : Option Part) where
    abbrev answer : Answer
    answer = answer_of aim.floor (first_of f.ranking)

    abbrev ranking : List Best
    ranking = ranking_for p f.rows (aim_for demand answer)

    judged_with : Option ℕ → List ℕ
    judged_with o = judgement_lines i (record { keep = o; floor = demand.floor }) share (Accepted answer ranking)

    abbrev lines_with : Option ℕ → List Best → List ℕ
    lines_with o xs = accepted_words share ++ answer_text answer ++ rank_lines 1 (if nat_lt 1 (unwrap_or o 1) then map (named_setting i) xs else [])

    lines_by : (o : Option ℕ) → demand.keep ≡ o → judged_with o ≡ lines_with o f.ranking
    unfolding judged_with judgement_lines
    lines_by None e = refl
    lines_by (Some k) e = ap (lines_with (Some k)) (ranking_by k e (first_of f.ranking) refl)

    same_lines : judgement_lines i demand share (accepted_with p demand (said (first_of f.ranking))) ≡ accepted_lines i aim share f
    unfolding judged_with
    same_lines = lines_by demand.keep refl

-- ---- both runs

pub agree : (a : Asked) (bytes : List ℕ) (accepted : Bool) (report out : Writer) → IsAsked a → TunesAsked a report (filled bytes) → ChecksAsked a bytes accepted out
    → (accepted ≡ true) × AgreeAsked a report out
agree a bytes accepted report out asked tunes checks =
    let (i, f, (m, s, some), wrote_cert, wrote_report) = tunes in
    let c = said_of a.texts a.demand a.share bytes accepted out checks in
    let p = problem_of i in
    let laws = inputs_problem i in
    let start = start_inside a.texts i m in
    let of_schedule = listed _ _ _ i.schedule (made_of a.texts i m).schedule in
    let most : greatest_of p ≤ MOST_TOTAL = subst (λ (n : ℕ). n ≤ MOST_TOTAL) (greatest_is i) (most_points _ _ _ i.schedule (made_of a.texts i m).schedule) in
    let fits = writable_from p laws of_schedule.1 most (aim_of a.demand) asked.floor a.method f s in
    let inputs : c.inputs ≡ i = one_meaning a.texts c.inputs i c.means m in
    let here : judgement_of p a.demand (share_meant a.share) (records_of bytes) ≡ c.judgement =
    subst (λ (x : InputsView). judgement_of (problem_of x) a.demand (share_meant a.share) (records_of bytes) ≡ c.judgement) inputs c.is in
    let same = sym here ∙ judged p laws start a.demand asked.aim a.method f s some fits (share_meant a.share) bytes wrote_cert in
    let lines = ap (λ (x : InputsView). judgement_lines x a.demand a.share c.judgement) inputs
    ∙ (ap (judgement_lines i a.demand a.share) same ∙ same_lines p laws start a.demand asked.aim a.method f s some i a.share) in (
      c.says ∙ ap accepts same,
      record {
        inputs = i;
        found = f;
        tuning = (m, s, some);
        reported = wrote_report;
        lines = subst (λ (x : List ℕ). Gets out x) lines c.lines;
      },
    )
