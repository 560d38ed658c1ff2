-- What holds at a visit; and the visit of a setting that is no candidate.
use Rattle.std.proofs.Common.{◌≡◌, ◌≢◌, ℕ, zero, suc, ◌+◌, ◌*◌, ◌<◌, ◌≤◌, arith, false, ◌==◌, List, [], ◌∷◌, Option, Some, None, map, refl, sym, ◌∙◌, ap, inl, inr, subst, add-one}
use Rattle.std.specs.List.{AllByRecursion, slice_get}
use Rattle.std.specs.List.Sorted.{IsPermutation}
use Rattle.std.proofs.lemmas.Bool.Decides.{nat_tests}
use Rattle.rc_instr.specs.Rules.{RulesView}
use Rattle.rc_instr.specs.Warrior.{WarriorView}
use Rattle.mars_fight.specs.Limits.{MOST_FIGHTS}
use Rattle.tune_problem.specs.Problem.{IsProblem, Problem}
use Rattle.tune_problem.specs.Optimum.{all_fights, total_of}
use Rattle.tune_problem.specs.declared.cert.Row.{Row}
use Rattle.tune_problem.specs.declared.cert.Row.TheVariants.{Refused}
use Rattle.tune_search.specs.Order.{fight_order, order_after}
use Rattle.tune_search.specs.Visits.{visits_before, ranking_after, ranking_before, setting_visited}
use Rattle.tune_search.specs.Ranking.{IsRankingBy}
use Rattle.tune_search.specs.Recent.{ChangesRecent, IsRecent}
use Rattle.tune_search.specs.Sharing.{IsExplained}
use Rattle.tune_search.specs.Method.{capacity_of}
use Rattle.tune_search.specs.State.{HasCopied, IsKnown, IsUnderWay}
use Rattle.tune_problem.specs.declared.watcher.Best.{Best}
use Rattle.tune_search.proofs.Orders.{order_permutes}
use Rattle.tune_search.proofs.Leads.{by_then}
use Rattle.tune_search.proofs.VisitOrder.{before_below, before_visited}
use Rattle.tune_search.proofs.Rankings.{after_visit, ranking_is}
use Rattle.tune_problem.specs.declared.aim.Aim.{Aim}
use Rattle.tune_search.specs.declared.fought.Fought.{Fought}
use Rattle.tune_search.specs.declared.findings.Findings.{Findings}
use Rattle.tune_search.specs.declared.method.Method.{Method}
use Rattle.tune_problem.specs.Ranking.{next_ranking, ranking_with, first_of, IsAim}

pub first_visit : (s k v : ℕ) → v ≡ setting_visited s k → (v == s) ≡ (k == 0)
first_visit s k v at = ap (λ n. n == s) at ∙ grind (arith, nat_tests)

pub not_zero : (k : ℕ) → (suc k == 0) ≡ false
not_zero k = grind (arith, nat_tests)

not_yet : (p : Problem) (k v : ℕ) (lead : Option Best) (copied : Option ℕ) → visits_before p.start v ≡ k → HasCopied p k lead copied → copied ≢ Some v
not_yet p k v lead None at h e = cc
not_yet p k v lead (Some u) at h e =
    let same : u ≡ v = cc in
    let before : visits_before p.start u < k = h.1 in
    let there : visits_before p.start u ≡ k = ap (visits_before p.start) same ∙ at in
    omega arith

-- the same at equal values
pub under_way_along : (p : Problem) (rules : RulesView) (aim : Aim) (method : Method) (k : ℕ) (f : Findings) (rows' : List Row) (ranking' : List Best) (order order' : List ℕ) (fights' : ℕ) (known known' : List (List ℕ × Fought)) →
    IsUnderWay p rules aim method k f order known → f.rows ≡ rows' → f.ranking ≡ ranking' → order ≡ order' → f.fights ≡ fights' → known ≡ known' →
    IsUnderWay p rules aim method k (record f { rows = rows'; ranking = ranking'; fights = fights' }) order' known'
under_way_along p rules aim method k f rows' ranking' order order' fights' known known' h er el eo ef ek =
    rw (← er, ← el, ← eo, ← ef, ← ek) h

-- What holds at the visit of setting v, after k others.
pub record IsVisit (p : Problem) (aim : Aim) (method : Method) (k v : ℕ) (f : Findings) (order : List ℕ) (known : List (List ℕ × Fought)) : Type 0 where
  pub its_place : visits_before p.start v ≡ k
  pub at_most : k ≤ p.count
  pub blank : slice_get f.rows v ≡ Some Refused
  pub fresh : f.copied ≢ Some v
  pub order_here : order ≡ fight_order p v
  pub permutes : IsPermutation (all_fights p) order
  pub order_later : 0 < k → order ≡ order_after p (suc k == 0) (p.warrior p.start)
  pub ranking_here : f.ranking ≡ ranking_before p aim v
  pub is_ranking : IsRankingBy p aim k f.ranking
  pub ranked_next : (w : WarriorView) → p.warrior v ≡ Some w → next_ranking aim (total_of p w) v f.ranking ≡ ranking_after p aim (suc k)
  pub recent_here : IsRecent p (capacity_of method) (visits_before p.start v) (map (λ e. e.1.vector) known)
  pub copied_grows : (o : Option ℕ) → HasCopied p k (first_of f.ranking) o → HasCopied p (suc k) (first_of f.ranking) o

module _ (p : Problem) (laws : IsProblem p) (start : p.start < p.count) (rules : RulesView) (aim : Aim) (is_aim : IsAim aim) (method : Method)
    (k v : ℕ) (at : v ≡ setting_visited p.start k) (inside : v < p.count) (f : Findings) (order : List ℕ) (known : List (List ℕ × Fought)) (s : IsUnderWay p rules aim method k f order known) where
  its_place : visits_before p.start v ≡ k
  its_place = ap (visits_before p.start) at ∙ before_visited p.start k

  blank : slice_get f.rows v ≡ Some Refused
  blank = s.unvisited v inside (omega (arith, its_place))

  fresh : f.copied ≢ Some v
  fresh = not_yet p k v (first_of f.ranking) f.copied its_place s.copied_is

  order_here : order ≡ fight_order p v
  unfolding fight_order
  order_here = s.order_is ∙ ap (λ b. order_after p b (p.warrior p.start)) (sym (first_visit p.start k v at))

  pub permutes : IsPermutation (all_fights p) order
  permutes = subst (λ (l : List ℕ). IsPermutation (all_fights p) l) (sym order_here) (order_permutes p v laws)

  ranking_here : f.ranking ≡ ranking_before p aim v
  ranking_here = s.ranking_is ∙ ap (ranking_after p aim) (sym its_place)

  is_ranking : IsRankingBy p aim k f.ranking
  is_ranking = subst (λ (r : List Best). IsRankingBy p aim k r) (sym s.ranking_is)
      (ranking_is p aim is_aim start k (let l : visits_before p.start v < p.count = before_below p.start p.count v start inside in let e : visits_before p.start v ≡ k = its_place in omega arith))

  at_most : k ≤ p.count
  at_most = let l : visits_before p.start v < p.count = before_below p.start p.count v start inside in let e : visits_before p.start v ≡ k = its_place in omega arith

  -- the ranking after a visit of a candidate
  ranked_next : (w : WarriorView) → p.warrior v ≡ Some w → next_ranking aim (total_of p w) v f.ranking ≡ ranking_after p aim (suc k)
  ranked_next w is =
      ap (next_ranking aim (total_of p w) v) s.ranking_is
      ∙ sym (after_visit p aim is_aim k v at ∙ ap (λ o. ranking_with p aim v o (ranking_after p aim k)) is)

  recent_here : IsRecent p (capacity_of method) (visits_before p.start v) (map (λ e. e.1.vector) known)
  recent_here = subst (λ (m : ℕ). IsRecent p (capacity_of method) m (map (λ e. e.1.vector) known)) (sym its_place) s.recent

  order_later : 0 < k → order ≡ order_after p (suc k == 0) (p.warrior p.start)
  order_later some =
      s.order_is ∙ ap (λ b. order_after p b (p.warrior p.start)) (let e : (k == 0) ≡ (suc k == 0) = grind (arith, nat_tests) in e)

  copied_grows : (o : Option ℕ) → HasCopied p k (first_of f.ranking) o → HasCopied p (suc k) (first_of f.ranking) o
  copied_grows None h = tt
  copied_grows (Some u) h = let before : visits_before p.start u < k = h.1 in (h.0, omega arith, h.2)

  pub visit_facts : IsVisit p aim method k v f order known
  visit_facts = record {
    its_place = its_place;
    at_most = at_most;
    blank = blank;
    fresh = fresh;
    order_here = order_here;
    permutes = permutes;
    order_later = order_later;
    ranking_here = ranking_here;
    is_ranking = is_ranking;
    ranked_next = ranked_next;
    recent_here = recent_here;
    copied_grows = copied_grows;
  }

  -- v is no candidate
  known_grows : (known : List (List ℕ × Fought)) → AllByRecursion (IsKnown p rules aim method f.rows k) known → AllByRecursion (IsKnown p rules aim method f.rows (suc k)) known
  known_grows [] h = tt
  known_grows (e ∷ es) h = (
    record {
      warrior = h.0.warrior;
      inside = h.0.inside;
      before = (let b : visits_before p.start e.1.vector < k = h.0.before in omega arith);
      candidate = h.0.candidate;
      is_warrior = h.0.is_warrior;
      fits = h.0.fits;
      text = h.0.text;
      fought = h.0.fought;
      cap = h.0.cap;
    },
    known_grows es h.1,
  )

  module _ (none : p.warrior v ≡ None) where
    refused_told : (u : ℕ) → u < p.count → visits_before p.start u < suc k → IsExplained p aim method f.rows f.copied u (p.warrior u)
    refused_told u l before = elim (by_then p k v at u before) [
      | inl b ↦ s.explained u l b
      | inr e ↦ subst (λ (n : ℕ). IsExplained p aim method f.rows f.copied n (p.warrior n)) (sym e) (subst (λ (o : Option WarriorView). IsExplained p aim method f.rows f.copied v o) (sym none) (fresh, blank))
    ]

    refused_order : (m : ℕ) → k ≡ m → order ≡ order_after p false (p.warrior p.start)
    refused_order zero e =
        let start : v ≡ p.start = at ∙ ap (setting_visited p.start) e in
        s.order_is ∙ ap (λ m. order_after p (m == 0) (p.warrior p.start)) e ∙ sym (ap (order_after p false) (ap p.warrior (sym start) ∙ none))
    refused_order (suc m) e = s.order_is ∙ ap (λ m. order_after p (m == 0) (p.warrior p.start)) e ∙ ap (λ b. order_after p b (p.warrior p.start)) (not_zero m)

    pub refused_visit : IsUnderWay p rules aim method (k + 1) f order known
    refused_visit = subst (λ (m : ℕ). IsUnderWay p rules aim method m f order known) (sym (add-one k)) (record {
      version_is = s.version_is;
      rows_are = s.rows_are;
      ranking_is = s.ranking_is ∙ sym (after_visit p aim is_aim k v at ∙ ap (λ o. ranking_with p aim v o (ranking_after p aim k)) none);
      whole = s.whole;
      full = s.full;
      explained = refused_told;
      unvisited = λ u l later. s.unvisited u l (omega arith);
      order_is = refused_order k refl ∙ ap (λ b. order_after p b (p.warrior p.start)) (sym (not_zero k));
      recent = (
        map (λ e. e.1.vector) known,
        s.recent,
        subst (λ (u : ℕ). ChangesRecent p (capacity_of method) u (p.warrior u) (map (λ e. e.1.vector) known) (map (λ e. e.1.vector) known)) at
            (subst (λ (o : Option WarriorView). ChangesRecent p (capacity_of method) v o (map (λ e. e.1.vector) known) (map (λ e. e.1.vector) known)) (sym none) refl),
      );
      all_known = known_grows known s.all_known;
      copied_is = copied_grows f.copied s.copied_is;
      fights = s.fights;
      count = s.count;
      room = let a : f.fights ≤ MOST_FIGHTS * k = s.room in omega arith;
    })
