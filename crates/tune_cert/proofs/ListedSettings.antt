-- The ranking that rows list is of their settings, and no longer than was asked for.
use Rattle.std.proofs.Common.{◌≡◌, ℕ, zero, suc, ◌<◌, ◌≤◌, ◌^◌, IfSome, arith, Bool, true, false, List, Option, Some, None, length, sym, subst}
use Rattle.std.specs.List.{AllByRecursion}
use Rattle.std.proofs.lemmas.List.{length-take}
use Rattle.tune_problem.specs.Problem.{Problem}
use Rattle.tune_problem.specs.Ranking.{contends, ranked, ranking_by}
use Rattle.tune_problem.specs.Exact.{ranking_below, ranking_shown, total_at}
use Rattle.tune_problem.specs.declared.aim.Aim.{Aim}
use Rattle.tune_problem.specs.declared.cert.Row.{Row}
use Rattle.tune_problem.specs.declared.watcher.Best.{Best}
use Rattle.tune_problem.proofs.Ranks.{all_map, all_ranked, all_take}
use Rattle.tune_cert.specs.Judgement.{AreSettings, ranking_for}

abbrev Under : ℕ → Best → Type 0
Under k b = b.vector < k

module _ (p : Problem) (aim : Aim) (rows : List Row) where
  -- with one more setting
  under_by : (k total : ℕ) (xs : List Best) (run : Bool) → AllByRecursion (Under k) xs → AllByRecursion (Under (suc k)) (ranking_by aim total k xs run)
  under_by k total xs false h = all_map xs (λ b l. omega (arith, l)) h
  under_by k total xs true h =
      let it : Best = record { total = total; vector = k } in
      all_take (Under (suc k)) aim.keep (ranked it xs) (all_ranked (Under (suc k)) it xs (omega arith) (all_map xs (λ b l. omega (arith, l)) h))

  few_by : (k total : ℕ) (xs : List Best) (run : Bool) → length xs ≤ aim.keep → length (ranking_by aim total k xs run) ≤ aim.keep
  few_by k total xs false h = h
  few_by k total xs true h = let it : Best = record { total = total; vector = k } in omega (arith, length-take aim.keep (ranked it xs))

  under_shown : (k : ℕ) (o : Option ℕ) (xs : List Best) → AllByRecursion (Under k) xs → AllByRecursion (Under (suc k)) (ranking_shown aim k o xs)
  under_shown k None xs h = all_map xs (λ b l. omega (arith, l)) h
  under_shown k (Some total) xs h = under_by k total xs (contends aim total k xs) h

  few_shown : (k : ℕ) (o : Option ℕ) (xs : List Best) → length xs ≤ aim.keep → length (ranking_shown aim k o xs) ≤ aim.keep
  few_shown k None xs h = h
  few_shown k (Some total) xs h = few_by k total xs (contends aim total k xs) h

  under : (k : ℕ) → AllByRecursion (Under k) (ranking_below p aim rows k)
  unfolding ranking_below
  under zero = tt
  under (suc k) = under_shown k (total_at p rows k) (ranking_below p aim rows k) (under k)

  few : (k : ℕ) → length (ranking_below p aim rows k) ≤ aim.keep
  unfolding ranking_below
  few zero = omega arith
  few (suc k) = few_shown k (total_at p rows k) (ranking_below p aim rows k) (few k)

listed : (p : Problem) (rows : List Row) (aim : Option Aim) → length rows ≡ p.count → IfSome aim (λ (a : Aim). a.keep < 2 ^ 32) → AreSettings p.count (ranking_for p rows aim)
listed p rows None all most = (tt, omega arith)
listed p rows (Some aim) all most =
    (subst (λ (n : ℕ). AllByRecursion (Under n) (ranking_for p rows (Some aim))) all (under p aim rows (length rows)), omega (arith, most, few p aim rows (length rows)))

pub of_settings : (p : Problem) (rows : List Row) (aim : Option Aim) (ranking : List Best) → IfSome aim (λ (a : Aim). a.keep < 2 ^ 32) → length rows ≡ p.count
    → ranking ≡ ranking_for p rows aim → AreSettings p.count ranking
of_settings p rows aim ranking few all e = subst (AreSettings p.count) (sym e) (listed p rows aim all few)
