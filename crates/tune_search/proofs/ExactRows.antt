-- The rows of a search with an aim are exact for it, and list the ranking that it found.
use Rattle.std.proofs.Common.{◌≡◌, ℕ, ◌<◌, arith, Bool, true, false, cond, List, [], ◌∷◌, Option, Some, None, length, refl, sym, ◌∙◌, ap, ◌⊎◌, inl, inr, subst}
use Rattle.std.specs.Prelude.{option_and_then}
use Rattle.std.specs.List.{AllByRecursion, slice_get}
use Rattle.std.proofs.lemmas.Option.{slice_get_within}
use Rattle.rc_instr.specs.Warrior.{WarriorView}
use Rattle.tune_problem.specs.Problem.{Problem, IsProblem}
use Rattle.tune_problem.specs.Optimum.{cap_of, total_of}
use Rattle.tune_problem.specs.Valid.{IsCapRow, listed_indices, listed_total}
use Rattle.tune_problem.specs.Ranking.{Any, IsAim, IsRanked, IsRanking, contends, first_of}
use Rattle.tune_problem.specs.Exact.{IsExact, fights_of, listed_at, listed_cap, listed_for, listed_ranking, lists_all, shown_total, total_at}
use Rattle.tune_problem.specs.declared.aim.Aim.{Aim}
use Rattle.tune_problem.specs.declared.cert.Row.{Row}
use Rattle.tune_problem.specs.declared.watcher.Best.{Best}
use Rattle.tune_problem.proofs.CapRows.{row_total, whole}
use Rattle.tune_problem.proofs.Certificates.{some_is}
use Rattle.tune_problem.proofs.ListedRanks.{listed_is_cap, up_to, lists_range, shown_by}
use Rattle.tune_search.specs.Visits.{IsFought, visits_before, ranking_after}
use Rattle.tune_search.specs.Sharing.{HasRowOf}
use Rattle.tune_search.specs.Findings.{IsCertified, IsFull, IsSearchFor}
use Rattle.tune_search.specs.declared.findings.Findings.{Findings}
use Rattle.tune_search.specs.declared.method.Method.{Method}
use Rattle.tune_search.proofs.FoughtCaps.{fought_row, later_cases, own_cases}
use Rattle.tune_search.proofs.OneRanking.{one_ranking}
use Rattle.tune_search.proofs.VisitOrder.{before_below}
use Rattle.tune_search.proofs.Rankings.{of_all, ranking_is}
use Rattle.tune_search.proofs.ShownRanks.{ShownBelow, listed_ranks}

-- ---- a row of all fights

-- a cap row of as many fights as there are lists all of them
lists_every : (p : Problem) → IsProblem p → (w : WarriorView) (row : List (ℕ × ℕ)) → IsCapRow p w 0 row → length row ≡ p.fights → lists_all p.fights 0 row ≡ true
lists_every p laws w row h many = lists_range p.fights 0 p.fights row (omega arith) (whole p laws w p.fights 0 row (omega arith) h many)

shown_if : (b : Bool) (x t : ℕ) → cond b (Some x) None ≡ Some t → b ≡ true
shown_if true x t e = refl
shown_if false x t e = absurd (cc)

-- a setting for which fights are listed has a row
has_row : (rows : List Row) (v : ℕ) (fights : List (ℕ × ℕ)) → listed_at rows v ≡ Some fights → v < length rows
has_row rows v fights e = by_row (slice_get rows v) refl
  where
    by_row : (o : Option Row) → slice_get rows v ≡ o → v < length rows
    by_row None at = let nothing : None ≡ Some fights = sym (ap (option_and_then (listed_for rows)) at) ∙ e in absurd (cc)
    by_row (Some row) at = slice_get_within rows v row at

module _ (p : Problem) (laws : IsProblem p) (aim : Aim) (is_aim : IsAim aim) (start : p.start < p.count) (method : Method) (f : Findings) (s : IsSearchFor p aim method f) where
  rows_are : length f.rows ≡ p.count
  rows_are = by_best (first_of f.ranking) s.certified
    where
      by_best : (o : Option Best) → IsCertified p aim.floor f.version f.rows o → length f.rows ≡ p.count
      by_best None h = h.rows_are
      by_best (Some best) h = h.rows_are

  -- ---- what is listed for a setting

  -- for setting v the fights of u are listed, which is v, or has its warrior and was visited before
  record Lists (v : ℕ) (w : WarriorView) : Type 0 where
    u : ℕ
    fought : IsFought p aim method f.rows u w
    at : listed_at f.rows v ≡ Some fought.row
    before : (u ≡ v) ⊎ (visits_before p.start u < visits_before p.start v)

  by_copy : (u v : ℕ) (w : WarriorView) (b : Bool) (h : IsFought p aim method f.rows u w) → visits_before p.start u < visits_before p.start v → HasRowOf f.rows f.copied u v b → Lists v w
  by_copy u v w true h before row = record { u = u; fought = h; at = ap (option_and_then (listed_for f.rows)) (row.1 ∙ h.at); before = inr before }
  by_copy u v w false h before row =
      record { u = u; fought = h; at = ap (option_and_then (listed_for f.rows)) row.1 ∙ ap (option_and_then fights_of) h.at; before = inr before }

  lists : (v : ℕ) (w : WarriorView) → v < p.count → p.warrior v ≡ Some w → Lists v w
  lists v w l is = elim (s.work.shared v w l is).row [
    | inl h ↦ record { u = v; fought = h.2; at = ap (option_and_then (listed_for f.rows)) h.2.at; before = inl refl }
    | inr h ↦ by_copy h.0 v w _ h.2.fought h.2.before h.2.row
  ]

  unlisted : (v : ℕ) → v < p.count → p.warrior v ≡ None → listed_at f.rows v ≡ None
  unlisted v l none = ap (option_and_then (listed_for f.rows)) (s.work.refused v l none)

  row_of : (v : ℕ) (w : WarriorView) (h : Lists v w) → IsCapRow p w 0 h.fought.row
  row_of v w h = fought_row p laws start aim is_aim method f.rows h.u w h.fought

  -- a total that is shown is the setting's
  shown : (v t : ℕ) → v < p.count → total_at p f.rows v ≡ Some t → (w : WarriorView) × (p.warrior v ≡ Some w) × (total_of p w ≡ t)
  shown v t l e = by_warrior (p.warrior v) refl
    where
      by_warrior : (o : Option WarriorView) → p.warrior v ≡ o → (w : WarriorView) × (p.warrior v ≡ Some w) × (total_of p w ≡ t)
      by_warrior None none = let nothing : None ≡ Some t = sym (ap (option_and_then (shown_total p)) (unlisted v l none)) ∙ e in absurd (cc)
      by_warrior (Some w) is =
          let h = lists v w l is in
          let here : shown_total p h.fought.row ≡ Some t = sym (ap (option_and_then (shown_total p)) h.at) ∙ e in
          let all : lists_all p.fights 0 h.fought.row ≡ true = shown_if _ _ t here in
          let many = up_to p.fights 0 h.fought.row all in
          let sums : listed_total p h.fought.row ≡ t = some_is _ _ (sym (shown_by p h.fought.row all) ∙ here) in
          (w, is, sym (row_total p laws w h.fought.row (row_of v w h) (omega (arith, many))) ∙ sums)

  -- ---- the ranking

  -- of a ranked setting the total is shown
  listed_full : (b : Best) → (h : IsFull p f.rows b) → listed_at f.rows b.vector ≡ Some h.1
  listed_full b h = elim h.4 [
    | inl e ↦ ap (listed_at f.rows) (sym e) ∙ ap (option_and_then (listed_for f.rows)) h.2
    | inr e ↦ ap (option_and_then (listed_for f.rows)) e ∙ ap (option_and_then fights_of) h.2
  ]

  shown_full : (b : Best) → IsRanked p aim Any b → (h : IsFull p f.rows b) → total_at p f.rows b.vector ≡ Some (listed_total p h.1)
  shown_full b m h =
      let own = lists b.vector m.warrior m.inside m.candidate in
      let same : own.fought.row ≡ h.1 = some_is _ _ (sym own.at ∙ listed_full b h) in
      let row : IsCapRow p m.warrior 0 h.1 = subst (λ (r : List (ℕ × ℕ)). IsCapRow p m.warrior 0 r) same (row_of b.vector m.warrior own) in
      ap (option_and_then (shown_total p)) (listed_full b h) ∙ shown_by p h.1 (lists_every p laws m.warrior h.1 row h.3)

  among_shown : (xs : List Best) → AllByRecursion (IsRanked p aim Any) xs → AllByRecursion (IsFull p f.rows) xs → AllByRecursion (IsRanked p aim (ShownBelow p f.rows (length f.rows))) xs
  among_shown [] h full = tt
  among_shown (b ∷ xs) h full = (
    record {
      warrior = h.0.warrior;
      inside = h.0.inside;
      is_among = (omega (arith, h.0.inside, rows_are), listed_total p full.0.1, shown_full b h.0 full.0);
      candidate = h.0.candidate;
      scores = h.0.scores;
      reaches = h.0.reaches;
    },
    among_shown xs h.1 full.1,
  )

  found_ranks : IsRanking p aim (ShownBelow p f.rows (length f.rows)) f.ranking
  found_ranks = record {
    few = s.ranking.few;
    members = among_shown f.ranking s.ranking.members s.full;
    order = s.ranking.order;
    others = λ v w l any is. s.ranking.others v w l tt is;
  }

  pub lists_ranking : listed_ranking p aim f.rows ≡ f.ranking
  lists_ranking = one_ranking p aim is_aim (ShownBelow p f.rows (length f.rows)) (listed_ranking p aim f.rows) f.ranking (listed_ranks p f.rows aim is_aim shown rows_are) found_ranks

  -- it is the ranking after the last visit
  last_ranking : ranking_after p aim p.count ≡ listed_ranking p aim f.rows
  last_ranking =
      one_ranking p aim is_aim Any (ranking_after p aim p.count) f.ranking (of_all p aim is_aim start _ (ranking_is p aim is_aim start p.count (omega arith))) s.ranking
      ∙ sym lists_ranking

  -- ---- caps

  -- all fights are listed, or the cap does not contend after the last visit
  cap_cases : (v : ℕ) (w : WarriorView) (h : Lists v w) →
      (length h.fought.row ≡ p.fights) ⊎ (contends aim (cap_of p w (listed_indices h.fought.row)) v (ranking_after p aim p.count) ≡ false)
  cap_cases v w h =
      let inside : h.u < p.count = subst (λ (n : ℕ). h.u < n) rows_are (slice_get_within f.rows h.u _ h.fought.at) in
      let early : visits_before p.start h.u < p.count = before_below p.start p.count h.u start inside in
      elim h.before [
        | inl same ↦ elim (own_cases p laws start aim is_aim method f.rows h.u w h.fought p.count (omega arith) (omega arith)) [
          | inl all ↦ inl all.1
          | inr out ↦ inr (subst (λ (n : ℕ). contends aim (cap_of p w (listed_indices h.fought.row)) n (ranking_after p aim p.count) ≡ false) same out)
        ]
        | inr earlier ↦ elim (later_cases p laws start aim is_aim method f.rows h.u w h.fought v p.count earlier (omega arith) (omega arith)) [
          | inl all ↦ inl all.1
          | inr out ↦ inr out
        ]
      ]

  out_by : (v : ℕ) (w : WarriorView) (h : Lists v w) → lists_all p.fights 0 h.fought.row ≡ false → contends aim (listed_cap p h.fought.row) v (listed_ranking p aim f.rows) ≡ false
  out_by v w h some = elim (cap_cases v w h) [
    | inl many ↦ let all : lists_all p.fights 0 h.fought.row ≡ true = lists_every p laws w h.fought.row (row_of v w h) many in absurd (cc)
    | inr out ↦
        ap (λ n. contends aim n v (listed_ranking p aim f.rows)) (listed_is_cap p w h.fought.row (row_of v w h))
        ∙ ap (contends aim (cap_of p w (listed_indices h.fought.row)) v) (sym last_ranking) ∙ out
  ]

  pub is_exact : IsExact p aim f.rows
  is_exact v fights at some = by_warrior (p.warrior v) refl
    where
      l : v < p.count
      l = subst (λ (n : ℕ). v < n) rows_are (has_row f.rows v fights at)

      by_warrior : (o : Option WarriorView) → p.warrior v ≡ o → contends aim (listed_cap p fights) v (listed_ranking p aim f.rows) ≡ false
      by_warrior None none = let nothing : None ≡ Some fights = sym (unlisted v l none) ∙ at in absurd (cc)
      by_warrior (Some w) is =
          let h = lists v w l is in
          let same : h.fought.row ≡ fights = some_is _ _ (sym h.at ∙ at) in
          subst (λ (r : List (ℕ × ℕ)). contends aim (listed_cap p r) v (listed_ranking p aim f.rows) ≡ false) same
          (out_by v w h (subst (λ (r : List (ℕ × ℕ)). lists_all p.fights 0 r ≡ false) (sym same) some))
