-- The ranking that the rows of a valid certificate list.
use Rattle.std.proofs.Common.{◌≡◌, ℕ, zero, suc, ◌+◌, ◌<◌, ◌≤◌, arith, Bool, true, false, cond, List, [], ◌∷◌, Option, Some, None, length, refl, sym, ◌∙◌, ap, ◌⊎◌, inl, inr, subst}
use Rattle.std.specs.Prelude.{option_and_then}
use Rattle.std.specs.List.{range_with_len}
use Rattle.std.proofs.lemmas.Bool.{and_from, and_parts, cases_lt, eqb-true, eq-eqb}
use Rattle.rc_instr.specs.Warrior.{WarriorView}
use Rattle.tune_problem.specs.Problem.{Problem, IsProblem}
use Rattle.tune_problem.specs.Optimum.{total_of, cap_of, most_besides}
use Rattle.tune_problem.specs.Valid.{listed_indices, listed_total, IsCapRow, IsRightRow, IsValid}
use Rattle.tune_problem.specs.Ranking.{Any, In, IsAim, IsRanking, contends}
use Rattle.tune_problem.specs.Exact.{lists_all, listed_cap, fights_of, listed_for, listed_at, shown_total, total_at, ranking_shown, ranking_below, listed_ranking, IsExact}
use Rattle.tune_problem.specs.declared.aim.Aim.{Aim}
use Rattle.tune_problem.specs.declared.cert.Cert.{Cert}
use Rattle.tune_problem.specs.declared.cert.Row.{Row}
use Rattle.tune_problem.specs.declared.cert.Row.TheVariants.{Refused, Same, Cap}
use Rattle.tune_problem.specs.declared.watcher.Best.{Best}
use Rattle.tune_problem.proofs.CapRows.{row_cap, row_sum, row_total}
use Rattle.tune_problem.proofs.Certificates.{slice_get_some, some_is}
use Rattle.tune_problem.proofs.Ranks.{all_map, ranking_more, smaller}

-- a row of all fights has as many as there are
pub up_to : (n a : ℕ) (row : List (ℕ × ℕ)) → lists_all n a row ≡ true → n ≡ a + length row
up_to n a [] h = omega (arith, eqb-true a n h)
up_to n a (e ∷ row) h = omega (arith, up_to n (a + 1) row (and_parts _ _ h).1)

-- fights with all indices in order are all fights
pub lists_range : (n a m : ℕ) (row : List (ℕ × ℕ)) → n ≡ a + m → listed_indices row ≡ range_with_len a m → lists_all n a row ≡ true
lists_range n a zero [] is h = eq-eqb a n (omega arith)
lists_range n a zero (e ∷ row) is h = absurd (cc)
lists_range n a (suc m) [] is h = absurd (cc)
lists_range n a (suc m) (e ∷ row) is h =
    let here : e.0 ≡ a = cc in
    let more : listed_indices row ≡ range_with_len (a + 1) m = cc in
    and_from _ _ (eq-eqb e.0 a here) (lists_range n (a + 1) m row (omega arith) more)

-- the cap by the points that a cap row lists
pub listed_is_cap : (p : Problem) (w : WarriorView) (row : List (ℕ × ℕ)) → IsCapRow p w 0 row → listed_cap p row ≡ cap_of p w (listed_indices row)
unfolding cap_of
listed_is_cap p w row h = ap (λ n. n + most_besides p (listed_indices row)) (row_sum p w 0 row h)

-- fights that show a total
shown_if : (b : Bool) (x t : ℕ) → cond b (Some x) None ≡ Some t → (b ≡ true) × (x ≡ t)
shown_if true x t e = (refl, some_is x t e)
shown_if false x t e = absurd (cc)

pub shown_by : (p : Problem) (fights : List (ℕ × ℕ)) → lists_all p.fights 0 fights ≡ true → shown_total p fights ≡ Some (listed_total p fights)
shown_by p fights e = ap (λ b. cond b (Some (listed_total p fights)) None) e

-- one below k + 1 is below k, or is k
pub cases_last : (v k : ℕ) → v < suc k → (v < k) ⊎ (v ≡ k)
cases_last v k l = elim (cases_lt v k) [ inl less ↦ inl less | inr more ↦ inr (omega (arith, l, more)) ]

-- the same settings, said otherwise
pub same_settings : (p : Problem) (aim : Aim) (among later : ℕ → Type 0) (xs : List Best) → ((v : ℕ) → among v → later v) → ((v : ℕ) → later v → among v)
    → IsRanking p aim among xs → IsRanking p aim later xs
same_settings p aim among later xs on back h = record {
  few = h.few;
  members = all_map xs (λ x r. record {
    warrior = r.warrior;
    inside = r.inside;
    is_among = on x.vector r.is_among;
    candidate = r.candidate;
    scores = r.scores;
    reaches = r.reaches;
  }) h.members;
  order = h.order;
  others = λ v w l now is. h.others v w l (back v now) is;
}

module _ (p : Problem) (laws : IsProblem p) (c : Cert) (valid : IsValid p c) where
  -- of a setting fights of its warrior are listed, or it has none
  abbrev Lists : ℕ → Option (List (ℕ × ℕ)) → Type 0
  Lists v o =
      ((o ≡ None) × (p.warrior v ≡ None))
      ⊎ ((fights : List (ℕ × ℕ)) × (w : WarriorView) × (o ≡ Some fights) × (p.warrior v ≡ Some w) × IsCapRow p w 0 fights)

  by_row : (v : ℕ) (row : Row) → IsRightRow p c v row → Lists v (listed_for c.rows row)
  by_row v Refused h = inl (refl, h)
  by_row v (Cap row) h = inr (row, h.0, refl, h.1, h.2)
  by_row v (Same u) h =
      let of = valid.right u (Cap h.1) h.6 in
      let alike : of.0 ≡ h.0 = some_is _ _ (sym of.1 ∙ h.5) in
      inr (h.1, h.0, ap (option_and_then fights_of) h.6, h.4, subst (λ (z : WarriorView). IsCapRow p z 0 h.1) alike of.2)

  lists : (v : ℕ) → v < p.count → Lists v (listed_at c.rows v)
  lists v l =
      let r = slice_get_some c.rows v (subst (λ (n : ℕ). v < n) (sym valid.rows_are) l) in
      subst (Lists v) (sym (ap (option_and_then (listed_for c.rows)) r.1)) (by_row v r.0 (valid.right v r.0 r.1))

  -- a total that is shown is the setting's
  shown : (v t : ℕ) → v < p.count → total_at p c.rows v ≡ Some t → (w : WarriorView) × (p.warrior v ≡ Some w) × (total_of p w ≡ t)
  shown v t l e = elim (lists v l) [
    | inl none ↦ let nothing : None ≡ Some t = sym (ap (option_and_then (shown_total p)) none.0) ∙ e in absurd (cc)
    | inr some ↦
        let here : shown_total p some.0 ≡ Some t = sym (ap (option_and_then (shown_total p)) some.2) ∙ e in
        let all = shown_if (lists_all p.fights 0 some.0) (listed_total p some.0) t here in
        let many = up_to p.fights 0 some.0 all.0 in
        (some.1, some.3, sym (row_total p laws some.1 some.0 some.4 (omega (arith, many))) ∙ all.1)
  ]

  -- the settings below k whose totals are shown
  abbrev Before : ℕ → ℕ → Type 0
  Before k v = (v < k) × (t : ℕ) × (total_at p c.rows v ≡ Some t)

  module _ (aim : Aim) (is_aim : IsAim aim) where
    step : (k : ℕ) (xs : List Best) → k < p.count → IsRanking p aim (Before k) xs → IsRanking p aim (Before (suc k)) (ranking_shown aim k (total_at p c.rows k) xs)
    step k xs l h = by_total (total_at p c.rows k) refl
      where
        by_total : (o : Option ℕ) → total_at p c.rows k ≡ o → IsRanking p aim (Before (suc k)) (ranking_shown aim k o xs)
        by_total None e = same_settings p aim (Before k) (Before (suc k)) xs (λ v b. (omega (arith, b.0), b.1, b.2)) back h
          where
            back : (v : ℕ) → Before (suc k) v → Before k v
            back v b = elim (cases_last v k b.0) [
              | inl less ↦ (less, b.1, b.2)
              | inr same ↦ let nothing : None ≡ Some b.1 = sym e ∙ (ap (total_at p c.rows) (sym same) ∙ b.2) in absurd (cc)
            ]
        by_total (Some t) e =
            let s = shown k t l e in
            subst (λ n. IsRanking p aim (Before (suc k)) (ranking_shown aim k (Some n) xs)) s.2
            (ranking_more p aim is_aim (Before k) (Before (suc k)) k l (omega arith, t, e)
            (λ v b. (omega (arith, b.0), b.1, b.2))
            (λ v b. elim (cases_last v k b.0) [ inl less ↦ inl (less, b.1, b.2) | inr same ↦ inr same ])
            (λ v b same. omega (arith, same, b.0))
            xs h (Some s.0) s.1)

    below : (k : ℕ) → k ≤ p.count → IsRanking p aim (Before k) (ranking_below p aim c.rows k)
    unfolding ranking_below
    below zero l = record { few = omega arith; members = tt; order = tt; others = λ v w inside b is. absurd (omega (arith, b.0)) }
    below (suc k) l = step k (ranking_below p aim c.rows k) (omega arith) (below k (omega arith))

    -- the law
    pub listed_is_ranking : IsExact p aim c.rows → IsRanking p aim Any (listed_ranking p aim c.rows)
    listed_is_ranking exact = record {
      few = h.few;
      members = all_map (listed_ranking p aim c.rows) (λ x r. record {
        warrior = r.warrior;
        inside = r.inside;
        is_among = tt;
        candidate = r.candidate;
        scores = r.scores;
        reaches = r.reaches;
      }) h.members;
      order = h.order;
      others = others;
    }
      where
        h : IsRanking p aim (Before (length c.rows)) (listed_ranking p aim c.rows)
        h = below (length c.rows) (omega (arith, valid.rows_are))

        others : (v : ℕ) (w : WarriorView) → v < p.count → Any v → p.warrior v ≡ Some w
            → In (record { total = total_of p w; vector = v }) (listed_ranking p aim c.rows) ⊎ (contends aim (total_of p w) v (listed_ranking p aim c.rows) ≡ false)
        others v w l any is = elim (lists v l) [
          | inl none ↦ let nothing : None ≡ Some w = sym none.1 ∙ is in absurd (cc)
          | inr some ↦ by_all some.0 some.2 (subst (λ (z : WarriorView). IsCapRow p z 0 some.0) (some_is _ _ (sym some.3 ∙ is)) some.4) (lists_all p.fights 0 some.0) refl
        ]
          where
            by_all : (fights : List (ℕ × ℕ)) → listed_at c.rows v ≡ Some fights → IsCapRow p w 0 fights → (b : Bool) → lists_all p.fights 0 fights ≡ b
                → In (record { total = total_of p w; vector = v }) (listed_ranking p aim c.rows) ⊎ (contends aim (total_of p w) v (listed_ranking p aim c.rows) ≡ false)
            by_all fights at row true e =
                h.others v w l (omega (arith, l, valid.rows_are), listed_total p fights, ap (option_and_then (shown_total p)) at ∙ shown_by p fights e) is
            by_all fights at row false e =
                let le = row_cap p laws w fights row in
                inr (smaller aim (total_of p w) (listed_cap p fights) v v (listed_ranking p aim c.rows) (omega (arith, le, listed_is_cap p w fights row)) (omega arith) (exact v fights at e))
