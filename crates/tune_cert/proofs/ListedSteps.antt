-- The ranking that rows list, setting by setting.
use Rattle.std.proofs.Common.{◌≡◌, ℕ, ◌+◌, List, [], Option, Some, None, sym, ◌∙◌, ap, add-one}
use Rattle.tune_problem.specs.Problem.{Problem}
use Rattle.tune_problem.specs.Ranking.{next_ranking}
use Rattle.tune_problem.specs.Exact.{total_at, ranking_shown, ranking_below}
use Rattle.tune_problem.specs.declared.aim.Aim.{Aim}
use Rattle.tune_problem.specs.declared.cert.Row.{Row}
use Rattle.tune_problem.specs.declared.watcher.Best.{Best}

module _ (p : Problem) (aim : Aim) (rows : List Row) where
  pub no_settings : (xs : List Best) → xs ≡ [] → xs ≡ ranking_below p aim rows 0
  unfolding ranking_below
  no_settings xs e = e

  step : (k : ℕ) (o : Option ℕ) → o ≡ total_at p rows k → ranking_below p aim rows (k + 1) ≡ ranking_shown aim k o (ranking_below p aim rows k)
  unfolding ranking_below
  step k o e = ap (ranking_below p aim rows) (add-one k) ∙ ap (λ x. ranking_shown aim k x (ranking_below p aim rows k)) (sym e)

  pub shown_next : (k total : ℕ) (o : Option ℕ) (xs ys : List Best) → xs ≡ ranking_below p aim rows k → o ≡ total_at p rows k → o ≡ Some total → ys ≡ next_ranking aim total k xs
      → ys ≡ ranking_below p aim rows (k + 1)
  shown_next k total o xs ys before at is next =
      next ∙ (ap (next_ranking aim total k) before ∙ sym (step k (Some total) (sym is ∙ at)))

  pub unshown_next : (k : ℕ) (o : Option ℕ) (xs : List Best) → xs ≡ ranking_below p aim rows k → o ≡ total_at p rows k → o ≡ None → xs ≡ ranking_below p aim rows (k + 1)
  unshown_next k o xs before at is = before ∙ sym (step k None (sym is ∙ at))
