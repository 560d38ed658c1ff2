-- The ranking that rows list, if each total that they show is that of its setting.
use Rattle.std.proofs.Common.{◌≡◌, ℕ, zero, suc, ◌<◌, ◌≤◌, arith, List, Option, Some, None, length, refl, sym, ◌∙◌, ap, inl, inr, subst}
use Rattle.rc_instr.specs.Warrior.{WarriorView}
use Rattle.tune_problem.specs.Problem.{Problem}
use Rattle.tune_problem.specs.Optimum.{total_of}
use Rattle.tune_problem.specs.Ranking.{IsAim, IsRanking}
use Rattle.tune_problem.specs.Exact.{total_at, ranking_shown, ranking_below, listed_ranking}
use Rattle.tune_problem.specs.declared.aim.Aim.{Aim}
use Rattle.tune_problem.specs.declared.cert.Row.{Row}
use Rattle.tune_problem.specs.declared.watcher.Best.{Best}
use Rattle.tune_problem.proofs.ListedRanks.{cases_last, same_settings}
use Rattle.tune_problem.proofs.Ranks.{ranking_more}

-- the settings below k whose totals are shown
abbrev pub ShownBelow : Problem → List Row → ℕ → ℕ → Type 0
ShownBelow p rows k v = (v < k) × (t : ℕ) × (total_at p rows v ≡ Some t)

module _ (p : Problem) (rows : List Row) (aim : Aim) (is_aim : IsAim aim)
    (right : (v t : ℕ) → v < p.count → total_at p rows v ≡ Some t → (w : WarriorView) × (p.warrior v ≡ Some w) × (total_of p w ≡ t)) where
  step : (k : ℕ) (xs : List Best) → k < p.count → IsRanking p aim (ShownBelow p rows k) xs → IsRanking p aim (ShownBelow p rows (suc k)) (ranking_shown aim k (total_at p rows k) xs)
  step k xs l h = by_total (total_at p rows k) refl
    where
      by_total : (o : Option ℕ) → total_at p rows k ≡ o → IsRanking p aim (ShownBelow p rows (suc k)) (ranking_shown aim k o xs)
      by_total None e = same_settings p aim (ShownBelow p rows k) (ShownBelow p rows (suc k)) xs (λ v b. (omega (arith, b.0), b.1, b.2)) back h
        where
          back : (v : ℕ) → ShownBelow p rows (suc k) v → ShownBelow p rows k v
          back v b = elim (cases_last v k b.0) [
            | inl less ↦ (less, b.1, b.2)
            | inr same ↦ let nothing : None ≡ Some b.1 = sym e ∙ (ap (total_at p rows) (sym same) ∙ b.2) in absurd (cc)
          ]
      by_total (Some t) e =
          let s = right k t l e in
          subst (λ n. IsRanking p aim (ShownBelow p rows (suc k)) (ranking_shown aim k (Some n) xs)) s.2
          (ranking_more p aim is_aim (ShownBelow p rows k) (ShownBelow p rows (suc k)) k l (omega arith, t, e)
          (λ v b. (omega (arith, b.0), b.1, b.2))
          (λ v b. elim (cases_last v k b.0) [ inl less ↦ inl (less, b.1, b.2) | inr same ↦ inr same ])
          (λ v b same. omega (arith, same, b.0))
          xs h (Some s.0) s.1)

  below : (k : ℕ) → k ≤ p.count → IsRanking p aim (ShownBelow p rows k) (ranking_below p aim rows k)
  unfolding ranking_below
  below zero l = record { few = omega arith; members = tt; order = tt; others = λ v w inside b is. absurd (omega (arith, b.0)) }
  below (suc k) l = step k (ranking_below p aim rows k) (omega arith) (below k (omega arith))

  pub listed_ranks : length rows ≡ p.count → IsRanking p aim (ShownBelow p rows (length rows)) (listed_ranking p aim rows)
  listed_ranks all = below (length rows) (omega (arith, all))
