-- The cap of a setting that was fought, against the ranking then and later.
use Rattle.std.proofs.Common.{◌≡◌, ℕ, ◌+◌, ◌-◌, ◌<◌, ◌≤◌, arith, false, List, length, take, take_all, sym, ◌∙◌, ap, ◌⊎◌, inl, inr}
use Rattle.std.specs.List.Sorted.{IsPermutation}
use Rattle.rc_instr.specs.Warrior.{WarriorView}
use Rattle.tune_problem.specs.Problem.{IsProblem, Problem}
use Rattle.tune_problem.specs.Optimum.{all_fights, cap_of, total_of}
use Rattle.tune_problem.specs.Valid.{IsCapRow, listed_indices}
use Rattle.tune_problem.specs.declared.cert.Row.{Row}
use Rattle.tune_problem.proofs.Certificates.{same_number}
use Rattle.tune_search.specs.Order.{aim_at, enough, fight_order}
use Rattle.tune_search.specs.Visits.{IsFought, visits_before, ranking_after, ranking_before}
use Rattle.tune_problem.specs.declared.aim.Aim.{Aim}
use Rattle.tune_search.specs.declared.method.Method.{Method}
use Rattle.tune_search.proofs.Leads.{as_asked, enough_cases, start_contends}
use Rattle.tune_search.proofs.ListedFights.{All-take, listed_cap, listed_is_row, listed_length, order_below}
use Rattle.tune_search.proofs.Orders.{order_permutes}
use Rattle.tune_search.proofs.VisitOrder.{lesser}
use Rattle.tune_search.proofs.Rankings.{out_stays}
use Rattle.tune_search.proofs.Totals.{cap_all, order_length, total_le_cap}
use Rattle.tune_problem.specs.Ranking.{contends, IsAim}
use Rattle.tune_problem.proofs.Ranks.{smaller}

module _ (p : Problem) (laws : IsProblem p) (start : p.start < p.count) (aim : Aim) (is_aim : IsAim aim) (method : Method) (rows : List Row) (u : ℕ) (x : WarriorView) (h : IsFought p aim method rows u x) where
  abbrev order : List ℕ
  order = fight_order p u

  abbrev many : ℕ
  many = enough p method (aim_at p aim u) x order u (ranking_before p aim u)

  abbrev ks : List ℕ
  ks = take many order

  permutes : IsPermutation (all_fights p) order
  permutes = order_permutes p u laws

  pub fought_row : IsCapRow p x 0 h.row
  fought_row = listed_is_row p x ks h.row (All-take p.fights many order (order_below p order permutes)) h.listed

  abbrev cap : ℕ
  cap = cap_of p x (listed_indices h.row)

  row_cap_is : cap ≡ cap_of p x ks
  row_cap_is = listed_cap p x ks h.row h.listed

  pub total_few : total_of p x ≤ cap
  total_few = omega (arith, row_cap_is, total_le_cap p laws x order permutes many)

  -- if all fights were played
  all_long : many ≡ p.fights → length h.row ≡ p.fights
  all_long e =
      listed_length p x ks h.row h.listed ∙ ap (λ j. length (take j order)) e
      ∙ ap length (take_all p.fights order (omega (arith, order_length p order permutes))) ∙ order_length p order permutes

  all_cap : many ≡ p.fights → cap ≡ total_of p x
  all_cap e = row_cap_is ∙ ap (λ j. cap_of p x (take j order)) e ∙ cap_all p x order permutes

  pub fought_cases : ((cap ≡ total_of p x) × (length h.row ≡ p.fights)) ⊎ (contends (aim_at p aim u) cap u (ranking_before p aim u) ≡ false)
  fought_cases = elim (enough_cases p method (aim_at p aim u) x order u (ranking_before p aim u)) [
    | inl e ↦ inl (all_cap e, all_long e)
    | inr n ↦ inr (ap (λ m. contends (aim_at p aim u) m u (ranking_before p aim u)) row_cap_is ∙ n)
  ]

  pub start_cases : u ≡ p.start → (cap ≡ total_of p x) × (length h.row ≡ p.fights)
  start_cases e = elim fought_cases [ inl a ↦ a | inr n ↦ absurd (let yes = start_contends p aim cap u e in cc) ]

  -- after more visits, at least its own, it does not contend if it was dropped
  pub own_cases : (m : ℕ) → visits_before p.start u ≤ m → m ≤ p.count → ((cap ≡ total_of p x) × (length h.row ≡ p.fights)) ⊎ (contends aim cap u (ranking_after p aim m) ≡ false)
  own_cases m before le = elim fought_cases [
    | inl a ↦ inl a
    | inr n ↦
        let e : visits_before p.start u + (m - visits_before p.start u) ≡ m = omega arith in
        inr (ap (λ j. contends aim cap u (ranking_after p aim j)) (sym e)
        ∙ out_stays p aim is_aim start cap u (visits_before p.start u) (m - visits_before p.start u) (omega arith) (as_asked p aim cap u (ranking_before p aim u) n))
  ]

  -- nor does its cap as one of a setting that is visited later
  pub later_cases : (v m : ℕ) → visits_before p.start u < visits_before p.start v → visits_before p.start u ≤ m → m ≤ p.count →
      ((cap ≡ total_of p x) × (length h.row ≡ p.fights)) ⊎ (contends aim cap v (ranking_after p aim m) ≡ false)
  later_cases v m earlier before le = elim (same_number u p.start) [
    | inl first ↦ inl (start_cases first)
    | inr other ↦ elim (own_cases m before le) [
      | inl a ↦ inl a
      | inr n ↦
          let less : u < v = lesser p.start u v earlier (λ e. absurd (other e)) in
          inr (smaller aim cap cap u v (ranking_after p aim m) (omega arith) (omega arith) n)
    ]
  ]
