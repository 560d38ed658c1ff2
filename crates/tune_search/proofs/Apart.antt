-- With room for all settings that are fought, no two of them have equal warriors.
use Rattle.std.proofs.Common.{◌≡◌, ◌≢◌, ℕ, zero, suc, ◌+◌, ◌-◌, ◌<◌, ◌≤◌, arith, Bool, true, false, not, ◌&&◌, cond, List, [], ◌∷◌, ◌++◌, Option, Some, None, length, take_all, length-append, add-one, add-zero, refl, sym, ◌∙◌, ap, ◌⊎◌, inl, inr, subst}
use Rattle.std.specs.List.{slice_get, count_by, range_with_len}
use Rattle.std.proofs.lemmas.Bool.Decides.{nat_tests, leb_tells}
use Rattle.rc_instr.specs.Warrior.{WarriorView}
use Rattle.tune_problem.specs.Problem.{Problem}
use Rattle.tune_problem.specs.Ranking.{first_of}
use Rattle.tune_problem.specs.declared.aim.Aim.{Aim}
use Rattle.tune_problem.specs.declared.cert.Row.TheVariants.{Cap}
use Rattle.tune_problem.proofs.Certificates.{same_number}
use Rattle.tune_search.specs.Visits.{visits_before, setting_visited}
use Rattle.tune_search.specs.Recent.{OneHas, ChangesRecent, IsRecent, NoneHas}
use Rattle.tune_search.specs.Method.{capacity_of}
use Rattle.tune_search.specs.Sharing.{HasRowOf}
use Rattle.tune_search.specs.Findings.{IsSearchFor}
use Rattle.tune_search.specs.declared.findings.Findings.{Findings}
use Rattle.tune_search.proofs.OneAnswer.{rows_count}
use Rattle.tune_search.specs.Found.{fought_count, is_cap, is_copied, was_fought}
use Rattle.tune_search.proofs.Leads.{by_then}
use Rattle.tune_search.proofs.VisitOrder.{before_below, before_visited, visited_below, visited_early, visited_late, visited_before}
use Rattle.tune_search.proofs.Ranges.{sum_more}
use Rattle.tune_search.proofs.Unique.{none_of, recent_one}
use Rattle.tune_search.specs.declared.method.Method.{Method}

abbrev pub bit : Bool → ℕ
bit b = cond b 1 0

-- how many of the first k settings visited pass a test
module _ (g : ℕ → Bool) (s : ℕ) where
  abbrev pub among : ℕ → ℕ
  among zero = 0
  among (suc k) = among k + bit (g (setting_visited s k))

  abbrev pub below : ℕ → ℕ
  below k = count_by g (range_with_len 0 k)

  below_more : (k : ℕ) → below (suc k) ≡ below k + bit (g k)
  below_more k = ap below (sym (add-one k)) ∙ sum_more (λ v. bit (g v)) k

  -- up to the start setting, that one and those before
  early : (k : ℕ) → k ≤ s → among (suc k) ≡ below k + bit (g s)
  early zero l = refl
  early (suc k) l =
      let i = early k (omega arith) in
      let at : setting_visited s (suc k) ≡ k = visited_early s k l in
      let more = below_more k in
      let here : bit (g (setting_visited s (suc k))) ≡ bit (g k) = ap (λ v. bit (g v)) at in
      omega (arith, i, more, here)

  -- past it, all before
  late : (k : ℕ) → s < k → among k ≡ below k
  late zero l = absurd (omega arith)
  late (suc k) l = elim (leb_tells k s) [
    | inl p ↦
        let e : k ≡ s = omega arith in
        let le : k ≤ s = omega arith in
        let i = early k le in
        let more = below_more k in
        let here : bit (g s) ≡ bit (g k) = ap (λ v. bit (g v)) (sym e) in
        omega (arith, i, more, here)
    | inr p ↦
        let past : s < k = omega arith in
        let i = late k past in
        let more = below_more k in
        let here : bit (g (setting_visited s k)) ≡ bit (g k) = ap (λ v. bit (g v)) (visited_late s k past) in
        omega (arith, i, more, here)
  ]

  grows : (k m : ℕ) → among k ≤ among (k + m)
  grows k zero = let e : among (k + 0) ≡ among k = ap among (add-zero k) in omega arith
  grows k (suc m) =
      let i = grows k m in
      let e : among (k + suc m) ≡ among (suc (k + m)) = ap among (let q : k + suc m ≡ suc (k + m) = omega arith in q) in
      let more : among (suc (k + m)) ≡ among (k + m) + bit (g (setting_visited s (k + m))) = refl in
      omega (arith, i, e, more)

  pub few_among : (k n : ℕ) → k ≤ n → s < n → among k ≤ below n
  few_among k n le inside =
      let m = n - k in
      let e : among (k + m) ≡ among n = ap among (let q : k + (n - k) ≡ n = omega arith in q) in
      omega (arith, grows k m, e, late n inside)

module _ (p : Problem) (aim : Aim) (method : Method) (f : Findings) (s : IsSearchFor p aim method f) (start : p.start < p.count) (room : fought_count f ≤ capacity_of method) where
  abbrev capacity : ℕ
  capacity = capacity_of method

  abbrev test : ℕ → Bool
  test = was_fought f

  all_room : below test p.start p.count ≤ capacity
  unfolding fought_count
  all_room =
      let e : length f.rows ≡ p.count = rows_count p aim.floor f.version f.rows (first_of f.ranking) s.certified in
      let same : fought_count f ≡ below test p.start p.count = ap (λ n. count_by test (range_with_len 0 n)) e in
      omega (arith, same, room)

  -- what a row says
  fought_true : (v : ℕ) (list : List (ℕ × ℕ)) → slice_get f.rows v ≡ Some (Cap list) → f.copied ≢ Some v → test v ≡ true
  fought_true v list at own = ap (λ o. is_cap o && not (is_copied f.copied v)) at ∙ own_true f.copied own
    where
      own_true : (o : Option ℕ) → o ≢ Some v → not (is_copied o v) ≡ true
      own_true None ne = refl
      own_true (Some u) ne = let apart : u ≢ v = (λ e. ne (ap Some e)) in grind (arith, nat_tests, apart)

  shared_false : (u v : ℕ) (b : Bool) → HasRowOf f.rows f.copied u v b → test v ≡ false
  shared_false u v true h = ap (λ o. is_cap (slice_get f.rows v) && not (is_copied o v)) h.0 ∙ grind (arith, nat_tests)
  shared_false u v false h = ap (λ o. is_cap o && not (is_copied f.copied v)) h.1

  refused_false : (v : ℕ) → v < p.count → p.warrior v ≡ None → test v ≡ false
  refused_false v l none = ap (λ o. is_cap o && not (is_copied f.copied v)) (s.work.refused v l none)

  never_both : (b : Bool) → b ≡ true → b ≡ false → ⊥
  never_both b t e = let q : true ≡ false = sym t ∙ e in cc

  none_back : (w : WarriorView) (u : ℕ) (front back : List ℕ) → NoneHas p w (u ∷ (front ++ back)) → NoneHas p w (front ++ u ∷ back)
  none_back w u [] back h = h
  none_back w u (x ∷ front) back h = (h.1.0, none_back w u front back (h.0, h.1.1))

  -- how a visit goes by the recent settings before it
  goes : (k v : ℕ) (w : WarriorView) (old : List ℕ) → v ≡ setting_visited p.start k → v < p.count → p.warrior v ≡ Some w → IsRecent p capacity k old →
      (NoneHas p w old × (test v ≡ true)) ⊎ ((u : ℕ) × OneHas p w u old × (test v ≡ false))
  goes k v w old at l is recent =
      let h = s.work.shared v w l is in
      let here : visits_before p.start v ≡ k = ap (visits_before p.start) at ∙ before_visited p.start k in
      let same : h.recent ≡ old = recent_one p capacity k h.recent old (subst (λ (n : ℕ). IsRecent p capacity n h.recent) here h.is_recent) recent in
      elim h.row [
        | inl g ↦ inl (subst (NoneHas p w) same g.0, fought_true v g.2.row g.2.at g.1)
        | inr g ↦ inr (g.0, subst (OneHas p w g.0) same g.1, shared_false g.0 v _ g.2.row)
      ]

  -- the recent settings are all that were fought
  record Full (k : ℕ) (us : List ℕ) : Type 0 where
    as_many : length us ≡ among test p.start k
    each : (v : ℕ) (w : WarriorView) → v < p.count → visits_before p.start v < k → test v ≡ true → p.warrior v ≡ Some w → NoneHas p w us → ⊥

  step : (k v : ℕ) (o : Option WarriorView) (old us : List ℕ) → k < p.count → v ≡ setting_visited p.start k → v < p.count → p.warrior v ≡ o → IsRecent p capacity k old → ChangesRecent p capacity v o old us →
      Full k old → Full (suc k) us
  step k v None old us less at l is recent r i =
      let no : test v ≡ false = refused_false v l is in
      record {
        as_many = ap length r ∙ i.as_many ∙ sym (ap (λ n. among test p.start k + bit (test n)) (sym at) ∙ ap (λ b. among test p.start k + bit b) no ∙ add-zero _);
        each = λ u w lu before t iu none. elim (by_then p k v at u before) [
          | inl b ↦ i.each u w lu b t iu (subst (NoneHas p w) r none)
          | inr e ↦ never_both _ t (ap test e ∙ no)
        ];
      }
  step k v (Some x) old us less at l is recent (inl m) i = elim (goes k v x old at l is recent) [
    | inl g ↦ absurd (none_of p x m.0 m.1.front m.1.back (subst (NoneHas p x) m.1.split g.0) m.1.alike)
    | inr g ↦
        let long : length us ≡ length old =
        ap length m.2 ∙ ap suc (length-append m.1.front m.1.back) ∙ sym (ap length m.1.split ∙ length-append m.1.front (m.0 ∷ m.1.back) ∙ (let q : length m.1.front + suc (length m.1.back) ≡ suc (length m.1.front + length m.1.back) = omega arith in q)) in
        record {
          as_many = long ∙ i.as_many ∙ sym (ap (λ n. among test p.start k + bit (test n)) (sym at) ∙ ap (λ b. among test p.start k + bit b) g.2 ∙ add-zero _);
          each = λ u w lu before t iu none. elim (by_then p k v at u before) [
            | inl b ↦ i.each u w lu b t iu (subst (NoneHas p w) (sym m.1.split) (none_back w m.0 m.1.front m.1.back (subst (NoneHas p w) m.2 none)))
            | inr e ↦ never_both _ t (ap test e ∙ g.2)
          ];
        }
  ]
  step k v (Some x) old us less at l is recent (inr m) i = elim (goes k v x old at l is recent) [
    | inr g ↦ absurd (none_of p x g.0 g.1.front g.1.back (subst (NoneHas p x) g.1.split m.0) g.1.alike)
    | inl g ↦
        let next : among test p.start (suc k) ≡ among test p.start k + 1 = ap (λ n. among test p.start k + bit (test n)) (sym at) ∙ ap (λ b. among test p.start k + bit b) g.1 in
        let long = i.as_many in
        let fits : suc (length old) ≤ capacity = omega (arith, few_among test p.start (suc k) p.count less start, all_room, next, long) in
        let whole : us ≡ v ∷ old = m.1 ∙ take_all capacity (v ∷ old) fits in
        record {
          as_many = ap length whole ∙ ap suc long ∙ sym (next ∙ add-one _);
          each = λ u w lu before t iu none.
              let all : NoneHas p w (v ∷ old) = subst (NoneHas p w) whole none in
              elim (by_then p k v at u before) [
                | inl b ↦ i.each u w lu b t iu all.1
                | inr e ↦ all.0 (ap p.warrior (sym e) ∙ iu)
              ];
        }
  ]

  full : (k : ℕ) (us : List ℕ) → k ≤ p.count → IsRecent p capacity k us → Full k us
  full zero us le r = record { as_many = ap length r; each = λ v w l before. absurd (omega arith) }
  full (suc k) us le r =
      let v = setting_visited p.start k in
      step k v (p.warrior v) r.0 us (omega arith) refl (visited_below p.start p.count k start (omega arith)) refl r.1 r.2 (full k r.0 (omega arith) r.1)

  not_later : (v u : ℕ) (w : WarriorView) → v < p.count → u < p.count → p.warrior v ≡ Some w → p.warrior u ≡ Some w → test v ≡ true → test u ≡ true →
      visits_before p.start u < visits_before p.start v → ⊥
  not_later v u w lv lu iv iu tv tu before =
      let h = s.work.shared v w lv iv in
      let k = visits_before p.start v in
      let inside : k < p.count = before_below p.start p.count v start lv in
      elim (goes k v w h.recent (sym (visited_before p.start v)) lv iv h.is_recent) [
        | inl g ↦ (full k h.recent (omega arith) h.is_recent).each u w lu before tu iu g.0
        | inr g ↦ never_both _ tv g.2
      ]

  pub one_fought : (v u : ℕ) (w : WarriorView) → v < p.count → u < p.count → p.warrior v ≡ Some w → p.warrior u ≡ Some w → test v ≡ true → test u ≡ true → v ≡ u
  one_fought v u w lv lu iv iu tv tu = elim (same_number (visits_before p.start v) (visits_before p.start u)) [
    | inl e ↦ sym (visited_before p.start v) ∙ ap (setting_visited p.start) e ∙ visited_before p.start u
    | inr ne ↦ elim (leb_tells (visits_before p.start v) (visits_before p.start u)) [
      | inl le ↦ absurd (not_later u v w lu lv iu iv tu tv (omega arith))
      | inr gt ↦ absurd (not_later v u w lv lu iv iu tv tu (omega arith))
    ]
  ]
