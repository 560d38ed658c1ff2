-- What a search found can be written down as a certificate, with either answer.
use Rattle.std.proofs.Common.{◌≡◌, ℕ, suc, ◌+◌, ◌*◌, ◌^◌, ◌<◌, ◌≤◌, arith, List, [], ◌∷◌, Option, Some, None, Ok, All, length, refl, sym, subst, inl, inr}
use Rattle.std.specs.List.{slice_get, sum_by}
use Rattle.std.proofs.lemmas.List.Sums.{sum_by-le}
use Rattle.std.proofs.lemmas.List.Elements.{All-nil, All-cons}
use Rattle.rc_instr.specs.Rules.{RulesView}
use Rattle.rc_instr.specs.Warrior.{WarriorView}
use Rattle.mars_fight.specs.Limits.{MOST_FIGHTS, MOST_TOTAL, MOST_WEIGHT}
use Rattle.mars_fight.specs.Play.{ArePoints}
use Rattle.mars_fight.specs.Schedule.{schedule_of}
use Rattle.mars_fight.specs.Listed.{greatest_total}
use Rattle.mars_fight.proofs.Listed.{listed}
use Rattle.mars_fight.specs.declared.fight.Fight.{Fight}
use Rattle.tune_template.specs.Limits.{MOST_SETTINGS}
use Rattle.tune_problem.specs.Problem.{Problem, IsProblem}
use Rattle.tune_problem.specs.Optimum.{total_of, greatest_of}
use Rattle.tune_problem.specs.Valid.{IsCapRow, IsRightRow, IsOwnVersion, cert_of}
use Rattle.tune_problem.specs.Below.{IsRowBelow, cert_with}
use Rattle.tune_problem.specs.Ranking.{best_alone, first_of}
use Rattle.tune_cert.specs.CertText.{statement_with}
use Rattle.tune_cert.specs.Spelling.{IsVersion, IsItem, IsRow, IsCert, IsStatement, FitsU32}
use Rattle.tune_problem.specs.declared.aim.Aim.{Aim}
use Rattle.tune_problem.specs.declared.cert.Cert.{Cert}
use Rattle.tune_problem.specs.declared.cert.Found.{Found}
use Rattle.tune_problem.specs.declared.cert.Row.{Row}
use Rattle.tune_problem.specs.declared.cert.Row.TheVariants.{Refused, Same, Cap}
use Rattle.tune_problem.specs.declared.statement.Statement.{Statement}
use Rattle.tune_problem.specs.declared.watcher.Best.{Best}
use Rattle.tune_problem.proofs.CapRows.{total_few}
use Rattle.tune_search.specs.Found.{IsSearch, as_findings}
use Rattle.tune_search.proofs.OneAnswer.{as_search}
use Rattle.tune_search.specs.Findings.{IsBestFrom, IsCertified, IsSearchFor}
use Rattle.tune_search.specs.declared.findings.Findings.{Findings}
use Rattle.tune_search.specs.declared.method.Method.{Method}
use Rattle.tune_runs.specs.TuneRun.{answer_of}

-- the fights of a schedule cannot give more than `MOST_TOTAL`
pub most_points : (rules : RulesView) (opponents : ℕ) (bytes : List ℕ) (fights : List Fight) → schedule_of rules opponents bytes ≡ Ok fights → greatest_total fights ≤ MOST_TOTAL
unfolding greatest_total
most_points rules opponents bytes fights e =
    let of_schedule = listed rules opponents bytes fights e in
    let most : sum_by (λ (f : Fight). 3 * f.weight) fights ≤ length fights * (3 * MOST_WEIGHT) =
    sum_by-le (λ (f : Fight). 3 * f.weight) (3 * MOST_WEIGHT) fights (λ k d l. let h = of_schedule.0 k d l in omega (arith, h.weight.most)) in
    omega (arith, of_schedule.1, most)

-- a version that a search writes can be written down
is_version : (p : Problem) (version : ℕ) → IsOwnVersion p version → IsVersion version
is_version p version h = elim h [ inl a ↦ inl a.0 | inr b ↦ inr b.0 ]

module _ (p : Problem) (laws : IsProblem p) (few : p.fights ≤ MOST_FIGHTS) (most : greatest_of p ≤ MOST_TOTAL) where
  items_of : (x : WarriorView) (a : ℕ) (row : List (ℕ × ℕ)) → IsCapRow p x a row → All IsItem row
  items_of x a [] h = All-nil IsItem
  items_of x a (e ∷ row) h =
      let small : e.0 < 2 ^ 32 = omega (arith, few, h.1) in
      All-cons IsItem e row (small, subst ArePoints (sym h.2) (laws.scores x e.0)) (items_of x (e.0 + 1) row h.3)

  rows_of : (rows : List Row) → ((v : ℕ) (row : Row) → slice_get rows v ≡ Some row → IsRow row) → All IsRow rows
  rows_of [] h = All-nil IsRow
  rows_of (row ∷ rows) h = All-cons IsRow row rows (h 0 row refl) (rows_of rows (λ v r at. h (suc v) r at))

  module _ (small : p.count ≤ MOST_SETTINGS) where
    row_of : (c : Cert) (v : ℕ) (row : Row) → IsRightRow p c v row → IsRow row
    row_of c v Refused h = tt
    row_of c v (Same u) h = omega (arith, h.3, small)
    row_of c v (Cap row) h = items_of h.0 0 row h.2

    row_below : (floor : ℕ) (rows : List Row) (v : ℕ) (row : Row) → IsRowBelow p floor rows v row → IsRow row
    row_below floor rows v Refused h = tt
    row_below floor rows v (Same u) h = omega (arith, h.3, small)
    row_below floor rows v (Cap row) h = items_of h.0 0 row h.2

  -- the floor can be written down
  module _ (aim : Aim) (fits : FitsU32 aim.floor) (method : Method) (f : Findings) (s : IsSearchFor p aim method f) where
    abbrev said : Option Best → Statement
    said best = statement_with f.version (answer_of aim.floor best) f.rows

    by_best : (o : Option Best) → IsCertified p aim.floor f.version f.rows o → IsBestFrom p aim.floor o → IsStatement (said o)
    by_best None h best =
        let few_rows : length f.rows ≤ MOST_SETTINGS = s.work.few in
        record {
          version = is_version p f.version s.work.version;
          count = omega arith;
          answer = fits;
          rows = rows_of f.rows (λ v row at. row_below (omega (arith, few_rows, h.rows_are)) aim.floor f.rows v row (h.right v row at));
          few = omega arith;
        }
    by_best (Some b) h best =
        let few_rows : length f.rows ≤ MOST_SETTINGS = s.work.few in
        let total : total_of p best.0.1.0 ≡ b.total = best.0.1.2 in
        record {
          version = is_version p f.version s.work.version;
          count = omega arith;
          answer = (omega (arith, few_rows, h.rows_are, h.best_inside), omega (arith, total, most, total_few p laws best.0.1.0));
          rows = rows_of f.rows (λ v row at. row_of (omega (arith, few_rows, h.rows_are)) (cert_with f.version (length f.rows) f.rows b) v row (h.right v row at));
          few = omega arith;
        }

    pub writable_from : IsStatement (said (first_of f.ranking))
    writable_from = by_best (first_of f.ranking) s.certified s.best

  pub writable : (method : Method) (f : Found) → IsSearch p method f → IsCert (cert_of f)
  writable method f s = writable_from best_alone (omega arith) method (as_findings f) (as_search p method f s)
