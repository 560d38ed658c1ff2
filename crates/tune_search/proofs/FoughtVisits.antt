-- The visit of a setting that is fought.
use Rattle.std.proofs.Common.{◌≡◌, ℕ, zero, suc, ◌+◌, ◌*◌, ◌<◌, ◌≤◌, arith, Bool, true, false, ◌==◌, if◌then◌else◌, List, [], ◌∷◌, Option, Some, None, length, take, map, length-set, refl, sym, ◌∙◌, ap, inl, inr, subst, add-one}
use Rattle.std.specs.List.{AllByRecursion, slice_get, slice_set}
use Rattle.std.specs.List.Sorted.{IsPermutation, IsSorted}
use Rattle.std.specs.Map.{lookup}
use Rattle.std.proofs.lemmas.Bool.Decides.{nat_tests}
use Rattle.std.proofs.lemmas.List.{take_all, take-map, length-map}
use Rattle.std.proofs.lemmas.List.Sorted.{length_permutation}
use Rattle.rc_instr.specs.Rules.{IsRules, RulesView}
use Rattle.rc_instr.specs.Warrior.{Fits, IsWarrior, WarriorView}
use Rattle.rc_instr.specs.LoadText.{load_text}
use Rattle.mars_fight.specs.Limits.{MOST_FIGHTS}
use Rattle.tune_problem.specs.Problem.{IsProblem, Problem}
use Rattle.tune_problem.specs.Optimum.{all_fights, cap_of, total_of}
use Rattle.tune_problem.specs.declared.cert.Row.{Row}
use Rattle.tune_problem.specs.declared.cert.Row.TheVariants.{Cap}
use Rattle.tune_search.specs.Plays.{played}
use Rattle.tune_search.specs.Order.{aim_at, by_points, enough, fight_order, order_after}
use Rattle.tune_search.specs.Visits.{IsFought, IsListed, visits_before, ranking_after, setting_visited}
use Rattle.tune_search.specs.Recent.{ChangesRecent, IsRecent, NoneHas}
use Rattle.tune_search.specs.Sharing.{IsExplained, IsVisited, leads}
use Rattle.tune_search.specs.Found.{copied_fights}
use Rattle.tune_search.specs.Findings.{IsFull}
use Rattle.tune_search.specs.Cache.{same_text}
use Rattle.tune_search.specs.Method.{capacity_of}
use Rattle.tune_search.specs.State.{HasCopied, IsKnown, IsUnderWay, IsWhole, by_index}
use Rattle.tune_problem.specs.declared.watcher.Best.{Best}
use Rattle.tune_search.proofs.Slots.{slot_same}
use Rattle.tune_search.proofs.Totals.{cap_all, order_length, total_le_cap}
use Rattle.tune_search.proofs.ListedFights.{listed_cap, prefix_distinct, sorted_is_listed}
use Rattle.tune_search.proofs.Leads.{all_fought, as_asked, enough_cases, start_contends}
use Rattle.tune_search.proofs.Recalls.{none_found}
use Rattle.tune_search.proofs.Steps.{filled_more, full_stays, inside_rows, keeps_same, known_more, left_more, told_more, whole_stays, fights_more}
use Rattle.tune_problem.specs.declared.aim.Aim.{Aim}
use Rattle.tune_search.specs.declared.fought.Fought.{Fought}
use Rattle.tune_search.specs.declared.findings.Findings.{Findings}
use Rattle.tune_search.specs.declared.method.Method.{Method}
use Rattle.tune_problem.specs.Ranking.{contends, next_ranking, ranking_by, first_of, IsAim}
use Rattle.tune_problem.proofs.Ranks.{all_map, all_ranked, all_take, first_next, same_next}
use Rattle.tune_search.proofs.Visiting.{IsVisit, first_visit, not_zero, visit_facts}

take_rec : {X : Type 0} (P : X → Type 0) (n : ℕ) (xs : List X) → AllByRecursion P xs → AllByRecursion P (take n xs)
take_rec P zero xs h = tt
take_rec P (suc n) [] h = tt
take_rec P (suc n) (x ∷ xs) h = (h.0, take_rec P n xs h.1)

module _ (p : Problem) (laws : IsProblem p) (start : p.start < p.count) (rules : RulesView) (aim : Aim) (is_aim : IsAim aim) (method : Method)
    (k v : ℕ) (at : v ≡ setting_visited p.start k) (inside : v < p.count) (f : Findings) (order : List ℕ) (known : List (List ℕ × Fought)) (s : IsUnderWay p rules aim method k f order known) where
  abbrev now : IsVisit p aim method k v f order known
  now = visit_facts p laws start rules aim is_aim method k v at inside f order known s

  -- v is fought
  module _ (w : WarriorView) (is : p.warrior v ≡ Some w) (made : List (ℕ × ℕ)) (c' : ℕ) (row : List (ℕ × ℕ))
      (made_is : made ≡ played p w (take (enough p method (aim_at p aim v) w order v f.ranking) order)) (cap_is : c' ≡ cap_of p w (take (enough p method (aim_at p aim v) w order v f.ranking) order))
      (few : length made ≤ MOST_FIGHTS) (same : IsPermutation made row) (sorted : IsSorted by_index row) where
    abbrev ks : List ℕ
    ks = take (enough p method (aim_at p aim v) w order v f.ranking) order

    abbrev rows' : List Row
    rows' = slice_set f.rows v (Cap row)

    listed : IsListed p w ks row
    listed = sorted_is_listed p w ks row (prefix_distinct p.fights _ order now.permutes) (subst (λ (l : List (ℕ × ℕ)). IsPermutation l row) made_is same) sorted

    row_here : slice_get rows' v ≡ Some (Cap row)
    row_here = slot_same f.rows v (Cap row) (inside_rows p rules aim method k v at f.rows (Cap row) now.blank)

    fought : IsFought p aim method rows' v w
    fought = record {
      row = row;
      at = row_here;
      listed = subst (λ (r : List Best). IsListed p w (take (enough p method (aim_at p aim v) w (fight_order p v) v r) (fight_order p v)) row) now.ranking_here
          (subst (λ (l : List ℕ). IsListed p w (take (enough p method (aim_at p aim v) w l v f.ranking) l) row) now.order_here listed);
    }

    lengths : length made ≡ length row
    lengths = sym (length_permutation made row same)

    -- if all fights were played
    all_made : enough p method (aim_at p aim v) w order v f.ranking ≡ p.fights → length made ≡ p.fights
    all_made e = ap length made_is ∙ length-map {B = ℕ × ℕ} ks (λ k. (k, p.points w k)) ∙ ap (λ j. length (take j order)) e
        ∙ ap length (take_all p.fights order (omega (arith, order_length p order now.permutes))) ∙ order_length p order now.permutes

    score : enough p method (aim_at p aim v) w order v f.ranking ≡ p.fights → total_of p w ≡ c'
    score e = sym (cap_is ∙ ap (λ j. cap_of p w (take j order)) e ∙ cap_all p w order now.permutes)

    all_of : contends aim c' v f.ranking ≡ true → enough p method (aim_at p aim v) w order v f.ranking ≡ p.fights
    all_of h = elim (enough_cases p method (aim_at p aim v) w order v f.ranking) [
      | inl e ↦ e
      | inr n ↦ let out : contends aim c' v f.ranking ≡ false = ap (λ c. contends aim c v f.ranking) cap_is ∙ as_asked p aim _ v f.ranking n in absurd (cc)
    ]

    total_least : total_of p w ≤ c'
    total_least = omega (arith, cap_is, total_le_cap p laws w order now.permutes (enough p method (aim_at p aim v) w order v f.ranking))

    ranking_then : next_ranking aim c' v f.ranking ≡ ranking_after p aim (suc k)
    ranking_then = same_next aim is_aim c' (total_of p w) v f.ranking total_least (λ h. sym (score (all_of h))) ∙ now.ranked_next w is

    whole_same : IsWhole p rows' (first_of f.ranking)
    whole_same = whole_stays p rules aim method k v at f.rows (Cap row) now.blank (first_of f.ranking) s.whole

    whole_then : (run : Bool) → contends aim c' v f.ranking ≡ run → IsWhole p rows' (first_of (ranking_by aim c' v f.ranking run))
    whole_then true h = elim (first_next aim is_aim (record { total = c'; vector = v }) f.ranking) [
      | inl a ↦ subst (λ (o : Option Best). IsWhole p rows' o) (sym a.0) (row, row_here, sym lengths ∙ all_made (all_of h))
      | inr a ↦ subst (λ (o : Option Best). IsWhole p rows' o) (sym a.0) whole_same
    ]
    whole_then false h = whole_same

    full_old : AllByRecursion (IsFull p rows') f.ranking
    full_old = all_map f.ranking (λ b h. full_stays p rules aim method k v at f.rows (Cap row) now.blank b h) s.full

    full_made : (run : Bool) → contends aim c' v f.ranking ≡ run → AllByRecursion (IsFull p rows') (ranking_by aim c' v f.ranking run)
    full_made true h = all_take (IsFull p rows') aim.keep _ (all_ranked (IsFull p rows') _ f.ranking (v, row, row_here, sym lengths ∙ all_made (all_of h), inl refl) full_old)
    full_made false h = full_old

    copied_then : (run : Bool) (o : Option ℕ) → HasCopied p k (first_of f.ranking) o → HasCopied p (suc k) (first_of (ranking_by aim c' v f.ranking run)) o
    copied_then run None h = tt
    copied_then true (Some u) h =
        let before : visits_before p.start u < k = h.1 in (
          h.0,
          omega arith,
          elim (first_next aim is_aim (record { total = c'; vector = v }) f.ranking) [
            | inl a ↦ ap (leads p.start) a.0 ∙ first_visit p.start k v at ∙ grind (arith, nat_tests)
            | inr a ↦ ap (leads p.start) a.0 ∙ h.2
          ],
        )
    copied_then false (Some u) h = let before : visits_before p.start u < k = h.1 in (h.0, omega arith, h.2)

    order_then : (m : ℕ) → k ≡ m → (if m == 0 then by_points made else order) ≡ order_after p false (p.warrior p.start)
    order_then zero e =
        let start_is : v ≡ p.start = at ∙ ap (setting_visited p.start) e in
        let all : enough p method (aim_at p aim v) w order v f.ranking ≡ p.fights = all_fought p method (aim_at p aim v) w order v f.ranking
        (ap (contends (aim_at p aim v) (cap_of p w ks) v) now.ranking_here ∙ start_contends p aim (cap_of p w ks) v start_is) in
        let numbers : order ≡ all_fights p = s.order_is ∙ ap (λ m. order_after p (m == 0) (p.warrior p.start)) e in
        let whole : take (enough p method (aim_at p aim v) w order v f.ranking) order ≡ all_fights p =
        ap (λ j. take j order) all ∙ take_all p.fights order (omega (arith, order_length p order now.permutes)) ∙ numbers in
        ap by_points made_is ∙ ap (λ l. by_points (played p w l)) whole ∙ ap (order_after p false) (sym is ∙ ap p.warrior start_is)
    order_then (suc m) e =
        ap (λ b. if b then by_points made else order) (not_zero m) ∙ s.order_is
        ∙ ap (λ m. order_after p (m == 0) (p.warrior p.start)) e ∙ ap (λ b. order_after p b (p.warrior p.start)) (not_zero m)

    abbrev mine : Fought
    mine = record { vector = v; cap = c' }

    module _ (text : List ℕ) (text_is : text ≡ load_text rules.core w) (hold : IsRules rules) (is_w : IsWarrior w) (fits : Fits rules w) (absent : lookup (same_text text) known ≡ None) where
      none_has : NoneHas p w (map (λ e. e.1.vector) known)
      none_has = none_found p rules hold aim method f.rows k w is_w fits known s.all_known (ap (λ t. lookup (same_text t) known) (sym text_is) ∙ absent)

      row_made : IsVisited p aim method rows' f.copied v w
      row_made = record { recent = map (λ e. e.1.vector) known; is_recent = now.recent_here; row = inl (none_has, now.fresh, fought) }

      recent_then : IsRecent p (capacity_of method) (suc k) (map (λ e. e.1.vector) (take (capacity_of method) ((text, mine) ∷ known)))
      recent_then = (
        map (λ e. e.1.vector) known,
        s.recent,
        subst (λ (u : ℕ). ChangesRecent p (capacity_of method) u (p.warrior u) (map (λ e. e.1.vector) known) (map (λ e. e.1.vector) (take (capacity_of method) ((text, mine) ∷ known)))) at
            (subst (λ (o : Option WarriorView). ChangesRecent p (capacity_of method) v o (map (λ e. e.1.vector) known) (map (λ e. e.1.vector) (take (capacity_of method) ((text, mine) ∷ known)))) (sym is)
            (inr (none_has, sym (take-map (λ e. e.1.vector) (capacity_of method) ((text, mine) ∷ known))))),
      )

      known_then : AllByRecursion (IsKnown p rules aim method rows' (suc k)) (take (capacity_of method) ((text, mine) ∷ known))
      unfolding fought
      known_then = take_rec (IsKnown p rules aim method rows' (suc k)) (capacity_of method) ((text, mine) ∷ known) (
        record {
          warrior = w;
          inside = inside;
          before = omega (arith, now.its_place);
          candidate = is;
          is_warrior = is_w;
          fits = fits;
          text = text_is;
          fought = fought;
          cap = cap_is ∙ sym (listed_cap p w ks row listed);
        },
        known_more p rules aim method k v at f.rows (Cap row) now.blank known s.all_known,
      )

      abbrev pub fought_next : ℕ → Type 0
      fought_next m = IsUnderWay p rules aim method m (record f { rows = rows'; ranking = next_ranking aim c' v f.ranking; fights = f.fights + length made; candidates = f.candidates + 1 })
          (if k == 0 then by_points made else order) (take (capacity_of method) ((text, mine) ∷ known))

      pub fought_visit : fought_next (k + 1)
      fought_visit = subst fought_next (sym (add-one k)) (record {
        version_is = s.version_is;
        rows_are = length-set f.rows v (Cap row) ∙ s.rows_are;
        ranking_is = ranking_then;
        whole = whole_then _ refl;
        full = full_made _ refl;
        explained = told_more p rules aim method k v at f.rows (Cap row) now.blank f.copied f.copied (keeps_same p rules aim method k v at f.rows (Cap row) now.blank f.copied) s.explained
            (subst (λ (o : Option WarriorView). IsExplained p aim method rows' f.copied v o) (sym is) row_made);
        unvisited = left_more p rules aim method k v at f.rows (Cap row) now.blank s.unvisited;
        order_is = order_then k refl ∙ ap (λ b. order_after p b (p.warrior p.start)) (sym (not_zero k));
        recent = recent_then;
        all_known = known_then;
        copied_is = copied_then _ f.copied s.copied_is;
        fights = ap (λ m. (f.fights + m) + copied_fights rows' f.copied) lengths ∙ fights_more p rules aim method k v at f.rows (Cap row) now.blank f.fights f.copied s.fights now.fresh;
        count = filled_more p rules aim method k v at f.rows (Cap row) now.blank f.candidates s.count refl;
        room = let a : f.fights ≤ MOST_FIGHTS * k = s.room in omega (arith, few);
      })
