-- The visit of a setting that shares the fights of a recent one.
use Rattle.std.proofs.Common.{◌≡◌, ◌≢◌, ℕ, suc, ◌+◌, ◌*◌, ◌<◌, ◌≤◌, arith, Bool, true, false, List, [], ◌∷◌, Option, Some, None, length, map, get_or, length-set, add-zero, refl, sym, ◌∙◌, ap, inl, inr, subst, add-one}
use Rattle.std.specs.List.{AllByRecursion, slice_get, slice_set}
use Rattle.std.specs.Map.{lookup}
use Rattle.std.proofs.lemmas.Option.{get_or_from_slice_get}
use Rattle.lru.specs.LruCache.{promoted}
use Rattle.rc_instr.specs.Rules.{IsRules, RulesView}
use Rattle.rc_instr.specs.Warrior.{Fits, IsWarrior, WarriorView}
use Rattle.rc_instr.specs.LoadText.{load_text}
use Rattle.mars_fight.specs.Limits.{MOST_FIGHTS}
use Rattle.tune_problem.specs.Problem.{IsProblem, Problem}
use Rattle.tune_problem.specs.Optimum.{beats, cap_of, total_of}
use Rattle.tune_problem.specs.Valid.{listed_indices}
use Rattle.tune_problem.specs.declared.cert.Row.{Row}
use Rattle.tune_problem.specs.declared.cert.Row.TheVariants.{Cap, Same}
use Rattle.tune_problem.proofs.Certificates.{some_is}
use Rattle.tune_search.specs.Visits.{IsFought, visits_before, ranking_after, setting_visited}
use Rattle.tune_search.specs.Ranking.{IsRankingBy}
use Rattle.tune_search.specs.Recent.{ChangesRecent, IsRecent}
use Rattle.tune_search.specs.Sharing.{HasRowOf, IsExplained, Shares, copies, leads}
use Rattle.tune_search.specs.Found.{copied_fights}
use Rattle.tune_search.specs.Findings.{IsFull}
use Rattle.tune_search.specs.Cache.{same_text}
use Rattle.tune_search.specs.Method.{capacity_of}
use Rattle.tune_search.specs.State.{HasCopied, IsKnown, IsUnderWay, IsWhole, is_filled}
use Rattle.tune_problem.specs.declared.watcher.Best.{Best}
use Rattle.tune_search.proofs.Copies.{by_lead, by_none, by_other, by_start, by_total, by_vector, shares_trails}
use Rattle.tune_search.proofs.Slots.{slot_other, slot_same}
use Rattle.tune_search.proofs.Rankings.{visited_behind}
use Rattle.tune_search.proofs.FoughtCaps.{later_cases, start_cases, total_few}
use Rattle.tune_search.proofs.Recalls.{Recalled, found, promoted_is, promoted_known}
use Rattle.tune_search.proofs.Steps.{Keeps, filled_more, fought_stays, full_stays, inside_rows, keeps_new, keeps_same, known_more, left_more, told_more, whole_stays, fights_copied, fights_more}
use Rattle.tune_problem.specs.declared.aim.Aim.{Aim}
use Rattle.tune_search.specs.declared.fought.Fought.{Fought}
use Rattle.tune_search.specs.declared.findings.Findings.{Findings}
use Rattle.tune_search.specs.declared.method.Method.{Method}
use Rattle.tune_problem.specs.Ranking.{beats_lead, contends, last_kept, next_ranking, ranking_by, first_of, IsAim}
use Rattle.tune_problem.proofs.Ranks.{contending, reaching, all_map, all_ranked, all_take, beats_last, first_next, same_next}
use Rattle.tune_search.proofs.Visiting.{IsVisit, visit_facts}

module _ (p : Problem) (laws : IsProblem p) (start : p.start < p.count) (rules : RulesView) (aim : Aim) (is_aim : IsAim aim) (method : Method)
    (k v : ℕ) (at : v ≡ setting_visited p.start k) (inside : v < p.count) (f : Findings) (order : List ℕ) (known : List (List ℕ × Fought)) (s : IsUnderWay p rules aim method k f order known) where
  abbrev now : IsVisit p aim method k v f order known
  now = visit_facts p laws start rules aim is_aim method k v at inside f order known s

  -- v has the warrior of u, which is remembered
  module _ (w : WarriorView) (is : p.warrior v ≡ Some w) (hold : IsRules rules) (is_w : IsWarrior w) (fits : Fits rules w) (other : Fought) (look : lookup (same_text (load_text rules.core w)) known ≡ Some other) where
    abbrev u : ℕ
    u = other.vector

    one : Recalled p rules hold aim method f.rows k w is_w fits known other
    one = found p rules hold aim method f.rows k w is_w fits known other s.all_known look

    it_known : IsKnown p rules aim method f.rows k (one.entry.0, other)
    it_known = subst (λ (n : Fought). IsKnown p rules aim method f.rows k (one.entry.0, n)) one.vector one.known_one

    u_is : p.warrior u ≡ Some w
    u_is = one.has.alike

    u_inside : u < p.count
    u_inside = it_known.inside

    u_before : visits_before p.start u < k
    u_before = it_known.before

    u_earlier : visits_before p.start u < visits_before p.start v
    u_earlier = let b : visits_before p.start u < k = u_before in let e : visits_before p.start v ≡ k = now.its_place in omega arith

    with_cap : (g : IsFought p aim method f.rows u w) × (other.cap ≡ cap_of p w (listed_indices g.row))
    with_cap = subst (λ (y : WarriorView). (g : IsFought p aim method f.rows u y) × (other.cap ≡ cap_of p y (listed_indices g.row)))
        (some_is _ _ (sym it_known.candidate ∙ u_is)) (it_known.fought, it_known.cap)

    u_fought : IsFought p aim method f.rows u w
    u_fought = with_cap.0

    cap_is : other.cap ≡ cap_of p w (listed_indices u_fought.row)
    unfolding u_fought with_cap
    cap_is = with_cap.1

    -- if its cap contends as one of v, all its fights were played
    u_whole : contends aim other.cap v f.ranking ≡ true → (other.cap ≡ total_of p w) × (length u_fought.row ≡ p.fights)
    u_whole run = elim (later_cases p laws start aim is_aim method f.rows u w u_fought v k u_earlier (let b : visits_before p.start u < k = u_before in omega arith) now.at_most) [
      | inl a ↦ (cap_is ∙ a.0, a.1)
      | inr n ↦
          let out : contends aim other.cap v f.ranking ≡ false = ap (λ c. contends aim c v f.ranking) cap_is ∙ ap (contends aim (cap_of p w (listed_indices u_fought.row)) v) s.ranking_is ∙ n in
          absurd (cc)
    ]

    ranking_shared : next_ranking aim other.cap v f.ranking ≡ ranking_after p aim (suc k)
    ranking_shared =
        same_next aim is_aim other.cap (total_of p w) v f.ranking (omega (arith, cap_is, total_few p laws start aim is_aim method f.rows u w u_fought)) (λ run. (u_whole run).0)
        ∙ now.ranked_next w is

    recent_shared : IsRecent p (capacity_of method) (suc k) (map (λ e. e.1.vector) (promoted (same_text (load_text rules.core w)) known))
    recent_shared = (
      map (λ e. e.1.vector) known,
      s.recent,
      subst (λ (x : ℕ). ChangesRecent p (capacity_of method) x (p.warrior x) (map (λ e. e.1.vector) known) (map (λ e. e.1.vector) (promoted (same_text (load_text rules.core w)) known))) at
          (subst (λ (o : Option WarriorView). ChangesRecent p (capacity_of method) v o (map (λ e. e.1.vector) known) (map (λ e. e.1.vector) (promoted (same_text (load_text rules.core w)) known))) (sym is)
          (inl (u, one.has, promoted_is p rules hold aim method f.rows k w is_w fits known other one))),
    )

    -- a full row of v
    module _ (row : Row) where
      abbrev rows_then : List Row
      rows_then = slice_set f.rows v row

      full_by : IsFull p rows_then (record { total = other.cap; vector = v }) → (run : Bool) → AllByRecursion (IsFull p rows_then) (ranking_by aim other.cap v f.ranking run)
      full_by here true = all_take (IsFull p rows_then) aim.keep _ (all_ranked (IsFull p rows_then) _ f.ranking here (all_map f.ranking (λ b h. full_stays p rules aim method k v at f.rows row now.blank b h) s.full))
      full_by here false = all_map f.ranking (λ b h. full_stays p rules aim method k v at f.rows row now.blank b h) s.full

    -- it refers to u
    module _ (apart : copies p.start u v (first_of f.ranking) ≡ false) where
      abbrev same' : List Row
      same' = slice_set f.rows v (Same u)

      abbrev ranking' : List Best
      ranking' = next_ranking aim other.cap v f.ranking

      shares : Shares p aim method same' f.copied u v w
      shares = record {
        fought = fought_stays p rules aim method k v at f.rows (Same u) now.blank u w u_fought;
        before = u_earlier;
        row = subst (λ (r : List Best). HasRowOf same' f.copied u v (copies p.start u v (first_of r))) now.ranking_here
            (subst (λ (b : Bool). HasRowOf same' f.copied u v b) (sym apart) (now.fresh, slot_same f.rows v (Same u) (inside_rows p rules aim method k v at f.rows (Same u) now.blank)));
      }

      -- so v does not come to lead
      no_lead : contends aim other.cap v f.ranking ≡ true → beats_lead other.cap v (first_of f.ranking) ≡ false
      no_lead run = by_first f.ranking refl
        where
          by_first : (xs : List Best) → f.ranking ≡ xs → beats_lead other.cap v (first_of xs) ≡ false
          by_first [] e = absurd (
              let short : total_of p w < aim.floor = visited_behind p aim is_aim k [] (subst (λ (r : List Best). IsRankingBy p aim k r) e now.is_ranking) u w u_inside u_before u_is in
              omega (arith, short, (u_whole run).0, reaching aim other.cap v f.ranking run))
          by_first (x ∷ xs) e =
              let here : IsRankingBy p aim k (x ∷ xs) = subst (λ (r : List Best). IsRankingBy p aim k r) e now.is_ranking in
              let no_copy : copies p.start u v (Some x) ≡ false = ap (λ r. copies p.start u v (first_of r)) (sym e) ∙ apart in
              ap (λ c. beats c v x.total x.vector) (u_whole run).0
              ∙ shares_trails p.start u v x.total x.vector (total_of p w) u_earlier (let b : visits_before p.start x.vector < k = here.members.0.is_among in let q : visits_before p.start v ≡ k = now.its_place in omega arith) no_copy
              (visited_behind p aim is_aim k (x ∷ xs) here u w u_inside u_before u_is)

      first_by : (run : Bool) → contends aim other.cap v f.ranking ≡ run → first_of (ranking_by aim other.cap v f.ranking run) ≡ first_of f.ranking
      first_by true run = elim (first_next aim is_aim (record { total = other.cap; vector = v }) f.ranking) [
        | inl a ↦ absurd (let none = no_lead run in let some = a.1 in cc)
        | inr a ↦ a.0
      ]
      first_by false run = refl

      same_first : first_of ranking' ≡ first_of f.ranking
      same_first = first_by (contends aim other.cap v f.ranking) refl

      full_then : (run : Bool) → contends aim other.cap v f.ranking ≡ run → AllByRecursion (IsFull p same') (ranking_by aim other.cap v f.ranking run)
      full_then true run = full_by (Same u) (
        u,
        u_fought.row,
        slot_other f.rows v u (Same u) (λ e. let even : visits_before p.start u ≡ visits_before p.start v = ap (visits_before p.start) e in let l : visits_before p.start u < visits_before p.start v = u_earlier in omega arith) ∙ u_fought.at,
        (u_whole run).1,
        inr (slot_same f.rows v (Same u) (inside_rows p rules aim method k v at f.rows (Same u) now.blank)),
      ) true
      full_then false run = all_map f.ranking (λ b h. full_stays p rules aim method k v at f.rows (Same u) now.blank b h) s.full

      abbrev pub shared_next : ℕ → Type 0
      shared_next m = IsUnderWay p rules aim method m (record f { rows = same'; ranking = ranking'; candidates = f.candidates + 1 }) order (promoted (same_text (load_text rules.core w)) known)

      pub shared_visit : shared_next (k + 1)
      shared_visit = subst shared_next (sym (add-one k)) (record {
        version_is = s.version_is;
        rows_are = length-set f.rows v (Same u) ∙ s.rows_are;
        ranking_is = ranking_shared;
        whole = subst (λ (o : Option Best). IsWhole p same' o) (sym same_first) (whole_stays p rules aim method k v at f.rows (Same u) now.blank (first_of f.ranking) s.whole);
        full = full_then (contends aim other.cap v f.ranking) refl;
        explained = told_more p rules aim method k v at f.rows (Same u) now.blank f.copied f.copied (keeps_same p rules aim method k v at f.rows (Same u) now.blank f.copied) s.explained
            (subst (λ (o : Option WarriorView). IsExplained p aim method same' f.copied v o) (sym is)
            (record { recent = map (λ e. e.1.vector) known; is_recent = now.recent_here; row = inr (u, one.has, shares) }));
        unvisited = left_more p rules aim method k v at f.rows (Same u) now.blank s.unvisited;
        order_is = now.order_later (let b : visits_before p.start u < k = u_before in omega arith);
        recent = recent_shared;
        all_known = known_more p rules aim method k v at f.rows (Same u) now.blank _ (promoted_known p rules hold aim method f.rows k w is_w fits known other one);
        copied_is = subst (λ (o : Option Best). HasCopied p (suc k) o f.copied) (sym same_first) (now.copied_grows f.copied s.copied_is);
        fights = ap (λ m. m + copied_fights same' f.copied) (sym (add-zero f.fights)) ∙ fights_more p rules aim method k v at f.rows (Same u) now.blank f.fights f.copied s.fights now.fresh;
        count = filled_more p rules aim method k v at f.rows (Same u) now.blank f.candidates s.count refl;
        room = let a : f.fights ≤ MOST_FIGHTS * k = s.room in omega arith;
      })

    -- it copies the row of u
    module _ (row : Row) (row_of : row ≡ get_or f.rows u row) (apart : copies p.start u v (first_of f.ranking) ≡ true) where
      row_is : row ≡ Cap u_fought.row
      row_is = row_of ∙ get_or_from_slice_get f.rows u (Cap u_fought.row) row u_fought.at

      abbrev copied' : List Row
      copied' = slice_set f.rows v row

      row_at_v : slice_get copied' v ≡ Some row
      row_at_v = slot_same f.rows v row (inside_rows p rules aim method k v at f.rows row now.blank)

      u_other : u ≢ v
      u_other e =
          let there : visits_before p.start v < k = subst (λ (m : ℕ). visits_before p.start m < k) e u_before in
          let here : visits_before p.start v ≡ k = now.its_place in
          omega arith

      row_at_u : slice_get copied' u ≡ Some row
      row_at_u = slot_other f.rows v u row u_other ∙ u_fought.at ∙ ap Some (sym row_is)

      first : u ≡ p.start
      first = by_start p.start u v (first_of f.ranking) apart

      none_copied : (o : Option ℕ) → HasCopied p k (first_of f.ranking) o → o ≡ None
      none_copied None h = refl
      none_copied (Some x) h =
          let no : leads p.start (first_of f.ranking) ≡ false = h.2 in
          let it : leads p.start (first_of f.ranking) ≡ true = ap (λ m. leads m (first_of f.ranking)) (sym first) ∙ by_lead p.start u v (first_of f.ranking) apart in
          absurd (cc)

      was_none : f.copied ≡ None
      was_none = none_copied f.copied s.copied_is

      its_cap : (other.cap ≡ total_of p w) × (length u_fought.row ≡ p.fights)
      its_cap = let a = start_cases p laws start aim is_aim method f.rows u w u_fought first in (cap_is ∙ a.0, a.1)

      -- u leads, and v has its total and comes before it
      ahead_now : (contends aim other.cap v f.ranking ≡ true) × (beats_lead other.cap v (first_of f.ranking) ≡ true)
      ahead_now = by_first f.ranking refl
        where
          by_first : (xs : List Best) → f.ranking ≡ xs → (contends aim other.cap v f.ranking ≡ true) × (beats_lead other.cap v (first_of f.ranking) ≡ true)
          by_first [] e = absurd (by_none p.start u v (ap (λ r. copies p.start u v (first_of r)) (sym e) ∙ apart))
          by_first (x ∷ xs) e =
              let here : IsRankingBy p aim k (x ∷ xs) = subst (λ (r : List Best). IsRankingBy p aim k r) e now.is_ranking in
              let copy : copies p.start u v (Some x) ≡ true = ap (λ r. copies p.start u v (first_of r)) (sym e) ∙ apart in
              let same_w : here.members.0.warrior ≡ w = some_is _ _ (sym here.members.0.candidate ∙ ap p.warrior (by_vector p.start u v x copy) ∙ u_is) in
              let even : other.cap ≡ x.total = its_cap.0 ∙ ap (total_of p) (sym same_w) ∙ here.members.0.scores in
              let reach : aim.floor ≤ other.cap = omega (arith, even, here.members.0.reaches) in
              let beat : beats other.cap v x.total x.vector ≡ true = ap (λ c. beats c v x.total x.vector) even ∙ by_total p.start u v x copy in (
                contending aim other.cap v f.ranking reach (ap (λ r. beats_lead other.cap v (last_kept aim r)) e ∙ beats_last aim is_aim other.cap v x xs here.order beat),
                ap (λ r. beats_lead other.cap v (first_of r)) e ∙ beat,
              )

      abbrev ranking'' : List Best
      ranking'' = next_ranking aim other.cap v f.ranking

      now_first : first_of ranking'' ≡ Some (record { total = other.cap; vector = v })
      now_first = ap (λ run. first_of (ranking_by aim other.cap v f.ranking run)) ahead_now.0 ∙ elim (first_next aim is_aim (record { total = other.cap; vector = v }) f.ranking) [
        | inl a ↦ a.0
        | inr a ↦ absurd (let yes = ahead_now.1 in let none = a.1 in cc)
      ]

      whole_taken : IsWhole p copied' (first_of ranking'')
      whole_taken = subst (λ (o : Option Best). IsWhole p copied' o) (sym now_first) (u_fought.row, row_at_v ∙ ap Some row_is, its_cap.1)

      full_taken : AllByRecursion (IsFull p copied') ranking''
      full_taken = full_by row (v, u_fought.row, row_at_v ∙ ap Some row_is, its_cap.1, inl refl) (contends aim other.cap v f.ranking)

      copied_taken : HasCopied p (suc k) (first_of ranking'') (Some v)
      copied_taken =
          let here : visits_before p.start v ≡ k = now.its_place in
          (inside, omega arith, ap (leads p.start) now_first ∙ by_other p.start u v (first_of f.ranking) apart)

      shares_copied : Shares p aim method copied' (Some v) u v w
      shares_copied = record {
        fought = fought_stays p rules aim method k v at f.rows row now.blank u w u_fought;
        before = u_earlier;
        row = subst (λ (r : List Best). HasRowOf copied' (Some v) u v (copies p.start u v (first_of r))) now.ranking_here
            (subst (λ (b : Bool). HasRowOf copied' (Some v) u v b) (sym apart) (refl, row_at_v ∙ sym row_at_u));
      }

      abbrev pub copied_next : ℕ → Type 0
      copied_next m = IsUnderWay p rules aim method m (record f { rows = copied'; ranking = ranking''; candidates = f.candidates + 1; copied = Some v }) order (promoted (same_text (load_text rules.core w)) known)

      pub copied_visit : copied_next (k + 1)
      copied_visit = subst copied_next (sym (add-one k)) (record {
        version_is = s.version_is;
        rows_are = length-set f.rows v row ∙ s.rows_are;
        ranking_is = ranking_shared;
        whole = whole_taken;
        full = full_taken;
        explained = told_more p rules aim method k v at f.rows row now.blank f.copied (Some v)
            (subst (λ (o : Option ℕ). Keeps p rules aim method k v at f.rows row now.blank o (Some v)) (sym was_none) (keeps_new p rules aim method k v at f.rows row now.blank)) s.explained
            (subst (λ (o : Option WarriorView). IsExplained p aim method copied' (Some v) v o) (sym is)
            (record { recent = map (λ e. e.1.vector) known; is_recent = now.recent_here; row = inr (u, one.has, shares_copied) }));
        unvisited = left_more p rules aim method k v at f.rows row now.blank s.unvisited;
        order_is = now.order_later (let b : visits_before p.start u < k = u_before in omega arith);
        recent = recent_shared;
        all_known = known_more p rules aim method k v at f.rows row now.blank _ (promoted_known p rules hold aim method f.rows k w is_w fits known other one);
        copied_is = copied_taken;
        fights = fights_copied p rules aim method k v at f.rows row now.blank f.fights (ap (λ o. f.fights + copied_fights f.rows o) (sym was_none) ∙ s.fights);
        count = filled_more p rules aim method k v at f.rows row now.blank f.candidates s.count (ap is_filled row_is);
        room = let a : f.fights ≤ MOST_FIGHTS * k = s.room in omega arith;
      })
