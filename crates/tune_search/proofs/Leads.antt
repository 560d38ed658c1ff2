-- What contends, and what was visited by then.
use Rattle.std.proofs.Common.{◌≡◌, ℕ, suc, ◌<◌, ◌≤◌, arith, Bool, true, false, not, ◌&&◌, nat_lt, ◌==◌, List, [], take, refl, sym, ◌∙◌, ap, ◌⊎◌, inl, inr}
use Rattle.std.proofs.lemmas.Bool.Decides.{nat_tests, leb_tells}
use Rattle.rc_instr.specs.Warrior.{WarriorView}
use Rattle.tune_problem.specs.Problem.{Problem}
use Rattle.tune_problem.specs.Optimum.{cap_of}
use Rattle.tune_search.specs.Order.{aim_at, drops, enough}
use Rattle.tune_search.specs.Visits.{visits_before, ranking_after, ranking_before, setting_visited}
use Rattle.tune_problem.specs.declared.watcher.Best.{Best}
use Rattle.tune_search.proofs.Enough.{least_cases}
use Rattle.tune_search.proofs.VisitOrder.{is_visited, before_visited, before_start}
use Rattle.tune_problem.specs.declared.aim.Aim.{Aim}
use Rattle.tune_search.specs.declared.method.Method.{Method}
use Rattle.tune_search.specs.declared.method.Method.TheVariants.{Dropping, PlayingAll}
use Rattle.tune_problem.specs.Ranking.{beats_lead, contends, last_kept}
use Rattle.tune_problem.proofs.Ranks.{contending, short_of, unbeating, unreaching}

not_true : (b : Bool) → not b ≡ true → b ≡ false
not_true true h = absurd (cc)
not_true false h = refl

-- the floor of a visit is no higher
floor_few : (p : Problem) (aim : Aim) (v : ℕ) → (aim_at p aim v).floor ≤ aim.floor
floor_few p aim v = grind (arith, nat_tests)

start_floor : (p : Problem) (aim : Aim) (v : ℕ) → v ≡ p.start → (aim_at p aim v).floor ≡ 0
start_floor p aim v e = grind (arith, nat_tests)

pub as_asked : (p : Problem) (aim : Aim) (c v : ℕ) (ranking : List Best) → contends (aim_at p aim v) c v ranking ≡ false → contends aim c v ranking ≡ false
as_asked p aim c v ranking h = elim (short_of (aim_at p aim v) c v ranking h) [
  | inl short ↦ unreaching aim c v ranking (let few : (aim_at p aim v).floor ≤ aim.floor = floor_few p aim v in omega (arith, short, few))
  | inr n ↦ unbeating aim c v ranking n
]

-- the start setting always contends at its visit
pub first_ranking : (p : Problem) (aim : Aim) (v : ℕ) → v ≡ p.start → ranking_before p aim v ≡ []
unfolding ranking_after
first_ranking p aim v e = ap (ranking_after p aim) (ap (visits_before p.start) e ∙ before_start p.start)

pub start_contends : (p : Problem) (aim : Aim) (c v : ℕ) → v ≡ p.start → contends (aim_at p aim v) c v (ranking_before p aim v) ≡ true
start_contends p aim c v e =
    let none : (aim_at p aim v).floor ≡ 0 = start_floor p aim v e in
    contending (aim_at p aim v) c v (ranking_before p aim v) (omega (arith, none)) (ap (λ r. beats_lead c v (last_kept (aim_at p aim v) r)) (first_ranking p aim v e))

-- what is dropped does not contend
dropped : (method : Method) (aim : Aim) (c v : ℕ) (ranking : List Best) → drops method aim c v ranking ≡ true → contends aim c v ranking ≡ false
dropped (Dropping capacity) aim c v ranking h = not_true _ h
dropped PlayingAll aim c v ranking h = absurd (cc)

pub not_copied : (s u v z : ℕ) → (u == s) && (z == u) && nat_lt v u ≡ false → u ≡ s → z ≡ u → u ≤ v
not_copied s u v z h a b = grind (arith, nat_tests)

-- as many fights as are enough are all, or the cap then does not contend
pub enough_cases : (p : Problem) (method : Method) (aim : Aim) (w : WarriorView) (order : List ℕ) (v : ℕ) (ranking : List Best) →
    (enough p method aim w order v ranking ≡ p.fights) ⊎ (contends aim (cap_of p w (take (enough p method aim w order v ranking) order)) v ranking ≡ false)
unfolding enough
enough_cases p method aim w order v ranking =
    elim (least_cases (λ j. drops method aim (cap_of p w (take j order)) v ranking) p.fights) [
      | inl e ↦ inl e
      | inr h ↦ inr (dropped method aim _ v ranking h)
    ]

-- if the cap at the end contends, all were played
pub all_fought : (p : Problem) (method : Method) (aim : Aim) (w : WarriorView) (order : List ℕ) (v : ℕ) (ranking : List Best) →
    contends aim (cap_of p w (take (enough p method aim w order v ranking) order)) v ranking ≡ true → enough p method aim w order v ranking ≡ p.fights
all_fought p method aim w order v ranking h = elim (enough_cases p method aim w order v ranking) [ inl e ↦ e | inr n ↦ absurd (cc) ]

module _ (p : Problem) (k v : ℕ) (at : v ≡ setting_visited p.start k) where
  here : visits_before p.start v ≡ k
  here = ap (visits_before p.start) at ∙ before_visited p.start k

  -- those visited by then are those before, and v
  pub by_then : (u : ℕ) → visits_before p.start u < suc k → (visits_before p.start u < k) ⊎ (u ≡ v)
  by_then u h = elim (leb_tells k (visits_before p.start u)) [
    | inl q ↦ let e : visits_before p.start u ≡ k = omega arith in inr (is_visited p.start u k e ∙ sym at)
    | inr q ↦ inl (omega arith)
  ]
