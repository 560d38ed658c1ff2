-- The first of the ranking, visit by visit.
use Rattle.std.proofs.Common.{◌≡◌, ℕ, zero, suc, ◌<◌, ◌≤◌, arith, Bool, true, false, List, Option, Some, None, refl, sym, ◌∙◌, ap, inl, inr, add-zero, ◌+◌}
use Rattle.rc_instr.specs.Warrior.{WarriorView}
use Rattle.tune_problem.specs.Problem.{Problem}
use Rattle.tune_problem.specs.Optimum.{total_of}
use Rattle.tune_problem.specs.Ranking.{Any, IsAim, IsRanking, contends, first_of, ranking_by, ranking_with}
use Rattle.tune_problem.specs.declared.aim.Aim.{Aim}
use Rattle.tune_problem.specs.declared.watcher.Best.{Best}
use Rattle.tune_problem.proofs.Ranks.{Beaten, all_map, behind_first, in_behind, ranking_more, stays_out}
use Rattle.tune_search.specs.Visits.{visits_before, ranking_after, setting_visited}
use Rattle.tune_search.specs.Ranking.{IsRankingBy, VisitedBy}
use Rattle.tune_search.proofs.Leads.{by_then}
use Rattle.tune_search.proofs.VisitOrder.{before_below, before_visited, visited_below}

module _ (p : Problem) (aim : Aim) (is_aim : IsAim aim) where
  pub ranking_is : p.start < p.count → (k : ℕ) → k ≤ p.count → IsRankingBy p aim k (ranking_after p aim k)
  unfolding ranking_after
  ranking_is start zero le = record { few = omega arith; members = tt; order = tt; others = λ v w l before. absurd (omega (arith, before)) }
  ranking_is start (suc k) le =
      let here : visits_before p.start (setting_visited p.start k) ≡ k = before_visited p.start k in
      ranking_more p aim is_aim (VisitedBy p k) (VisitedBy p (suc k)) (setting_visited p.start k) (visited_below p.start p.count k start (omega arith))
      (omega (arith, here))
      (λ u before. omega (arith, before))
      (by_then p k (setting_visited p.start k) refl)
      (λ u before e. let even : visits_before p.start (setting_visited p.start k) ≡ visits_before p.start u = ap (visits_before p.start) e in omega (arith, before, here, even))
      (ranking_after p aim k) (ranking_is start k (omega arith)) (p.warrior (setting_visited p.start k)) refl

  pub after_visit : (k v : ℕ) → v ≡ setting_visited p.start k → ranking_after p aim (suc k) ≡ ranking_with p aim v (p.warrior v) (ranking_after p aim k)
  unfolding ranking_after
  after_visit k v at = ap (λ u. ranking_with p aim u (p.warrior u) (ranking_after p aim k)) (sym at)

  -- what does not contend after k visits does not after more
  out_one : p.start < p.count → (c u k : ℕ) → suc k ≤ p.count → contends aim c u (ranking_after p aim k) ≡ false → contends aim c u (ranking_after p aim (suc k)) ≡ false
  out_one start c u k le h = ap (contends aim c u) (after_visit k (setting_visited p.start k) refl) ∙ by_warrior (p.warrior (setting_visited p.start k))
    where
      by_run : (t : ℕ) (run : Bool) → contends aim c u (ranking_by aim t (setting_visited p.start k) (ranking_after p aim k) run) ≡ false
      by_run t true = stays_out aim is_aim c u (record { total = t; vector = setting_visited p.start k }) (ranking_after p aim k) (ranking_is start k (omega arith)).order h
      by_run t false = h

      by_warrior : (o : Option WarriorView) → contends aim c u (ranking_with p aim (setting_visited p.start k) o (ranking_after p aim k)) ≡ false
      by_warrior None = h
      by_warrior (Some w) = by_run (total_of p w) (contends aim (total_of p w) (setting_visited p.start k) (ranking_after p aim k))

  pub out_stays : p.start < p.count → (c u k m : ℕ) → k + m ≤ p.count → contends aim c u (ranking_after p aim k) ≡ false → contends aim c u (ranking_after p aim (k + m)) ≡ false
  out_stays start c u k zero le h = ap (λ n. contends aim c u (ranking_after p aim n)) (add-zero k) ∙ h
  out_stays start c u k (suc m) le h =
      let e : k + suc m ≡ suc (k + m) = omega arith in
      ap (λ n. contends aim c u (ranking_after p aim n)) e ∙ out_one start c u (k + m) (omega arith) (out_stays start c u k m (omega arith) h)

  -- a candidate that was visited trails the first
  pub visited_behind : (k : ℕ) (xs : List Best) → IsRankingBy p aim k xs → (v : ℕ) (w : WarriorView) → v < p.count → visits_before p.start v < k → p.warrior v ≡ Some w → Beaten aim (total_of p w) v (first_of xs)
  visited_behind k xs h v w l before is = elim (h.others v w l before is) [
    | inl m ↦ in_behind aim is_aim (record { total = total_of p w; vector = v }) xs h.order m
    | inr out ↦ behind_first aim is_aim (total_of p w) v xs h.order (all_map xs (λ x r. r.reaches) h.members) out
  ]

  -- the ranking of all that were visited in the end is that of all settings
  pub of_all : p.start < p.count → (xs : List Best) → IsRankingBy p aim p.count xs → IsRanking p aim Any xs
  of_all start xs h = record {
    few = h.few;
    members = all_map xs (λ x r. record {
      warrior = r.warrior;
      inside = r.inside;
      is_among = tt;
      candidate = r.candidate;
      scores = r.scores;
      reaches = r.reaches;
    }) h.members;
    order = h.order;
    others = λ v w l any is. h.others v w l (before_below p.start p.count v start l) is;
  }
