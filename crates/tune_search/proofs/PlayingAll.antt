-- What a search finds that plays all fights.
use Rattle.std.proofs.Common.{◌≡◌, ◌≢◌, ℕ, zero, suc, ◌+◌, ◌*◌, ◌<◌, arith, List, [], ◌∷◌, ◌++◌, Option, Some, None, length, take, take_all, refl, sym, ◌∙◌, ap, inl, inr, subst}
use Rattle.std.specs.List.{slice_get}
use Rattle.std.specs.List.Sorted.{IsPermutation}
use Rattle.std.proofs.lemmas.Option.{slice_get-get_or}
use Rattle.std.proofs.lemmas.List.FromFn.{length-map-range_with_len, get_or-map-range_with_len}
use Rattle.rc_instr.specs.Warrior.{WarriorView}
use Rattle.tune_problem.specs.Problem.{Problem, IsProblem}
use Rattle.tune_problem.specs.Optimum.{all_fights}
use Rattle.tune_problem.specs.Valid.{IsCapRow, listed_fights, listed_indices}
use Rattle.tune_problem.specs.declared.aim.Aim.{Aim}
use Rattle.tune_problem.specs.declared.cert.Row.TheVariants.{Refused, Cap}
use Rattle.tune_problem.proofs.CapRows.{whole}
use Rattle.tune_search.specs.Plays.{played, row_of, row_with, rows_of}
use Rattle.tune_search.specs.Order.{aim_at, enough, fight_order}
use Rattle.tune_search.specs.Visits.{IsFought, IsListed, visits_before, ranking_before, setting_visited}
use Rattle.tune_search.specs.Recent.{OneHas, ChangesRecent, IsRecent}
use Rattle.tune_search.specs.Found.{copied_fights}
use Rattle.tune_search.specs.Findings.{IsSearchFor}
use Rattle.tune_search.specs.declared.findings.Findings.{Findings}
use Rattle.tune_search.specs.declared.method.Method.TheVariants.{PlayingAll}
use Rattle.tune_search.proofs.Enough.{all_enough}
use Rattle.tune_search.proofs.Listed.{listed_rows}
use Rattle.tune_search.proofs.ListedFights.{listed_is_row, listed_length, order_below}
use Rattle.tune_search.proofs.OneAnswer.{rows_count, same_lists}
use Rattle.tune_search.proofs.Orders.{order_permutes}
use Rattle.tune_search.proofs.Totals.{order_length}
use Rattle.tune_problem.specs.Ranking.{first_of}

-- it remembers no setting
nothing : (u : ℕ) (front back : List ℕ) → [] ≡ front ++ u ∷ back → ⊥
nothing u [] back e = cc
nothing u (x ∷ front) back e = cc

none_there : (p : Problem) (w : WarriorView) (u : ℕ) → OneHas p w u [] → ⊥
none_there p w u h = nothing u h.front h.back h.split

none_recalled : (p : Problem) (v : ℕ) (o : Option WarriorView) (old us : List ℕ) → old ≡ [] → ChangesRecent p 0 v o old us → us ≡ []
none_recalled p v None old us e h = h ∙ e
none_recalled p v (Some w) old us e h = elim h [
  | inl m ↦ absurd (none_there p w m.0 (subst (OneHas p w m.0) e m.1))
  | inr n ↦ n.1
]

none_recent : (p : Problem) (k : ℕ) (us : List ℕ) → IsRecent p 0 k us → us ≡ []
none_recent p zero us h = h
none_recent p (suc k) us h = none_recalled p (setting_visited p.start k) (p.warrior (setting_visited p.start k)) h.0 us (none_recent p k h.0 h.1) h.2

-- a cap row is made of its indices
row_played : (p : Problem) (w : WarriorView) (a : ℕ) (row : List (ℕ × ℕ)) → IsCapRow p w a row → row ≡ played p w (listed_indices row)
row_played p w a [] h = refl
row_played p w a (e ∷ row) h = let rest = row_played p w (e.0 + 1) row h.3 in λ i. (e.0, h.2 i) ∷ rest i

module _ (p : Problem) (aim : Aim) (f : Findings) (s : IsSearchFor p aim PlayingAll f) where
  -- a setting that assembles is fought, and no copy
  own : (v : ℕ) (w : WarriorView) → v < p.count → p.warrior v ≡ Some w → (f.copied ≢ Some v) × IsFought p aim PlayingAll f.rows v w
  own v w l is =
      let h = s.work.shared v w l is in
      let none : h.recent ≡ [] = none_recent p (visits_before p.start v) h.recent h.is_recent in
      elim h.row [
        | inl g ↦ (g.1, g.2)
        | inr g ↦ absurd (none_there p w g.0 (subst (OneHas p w g.0) none g.1))
      ]

  no_copy : (v : ℕ) (o : Option WarriorView) → p.warrior v ≡ o → v < p.count → o ≢ None → f.copied ≢ Some v
  no_copy v None is l some = absurd (some refl)
  no_copy v (Some w) is l some = (own v w l is).0

  none_copied : (o : Option ℕ) → f.copied ≡ o → o ≡ None
  none_copied None e = refl
  none_copied (Some v) e = let h = s.work.copied v e in absurd (no_copy v (p.warrior v) refl h.0 h.1 e)

  pub all_copied : f.copied ≡ None
  all_copied = none_copied f.copied refl

  module _ (laws : IsProblem p) where
    row_at : (v : ℕ) (o : Option WarriorView) → v < p.count → p.warrior v ≡ o → slice_get f.rows v ≡ Some (row_with p o)
    row_at v None l is = s.work.refused v l is
    row_at v (Some w) l is =
        let h = (own v w l is).1 in
        let order = fight_order p v in
        let permutes : IsPermutation (all_fights p) order = order_permutes p v laws in
        let many : length order ≡ p.fights = order_length p order permutes in
        let all : take (enough p PlayingAll (aim_at p aim v) w order v (ranking_before p aim v)) order ≡ order =
        ap (λ j. take j order) (all_enough p (aim_at p aim v) w order v (ranking_before p aim v)) ∙ take_all p.fights order (omega (arith, many)) in
        let listed : IsListed p w order h.row = subst (λ (ks : List ℕ). IsListed p w ks h.row) all h.listed in
        let row : IsCapRow p w 0 h.row = listed_is_row p w order h.row (order_below p order permutes) listed in
        let indices : listed_indices h.row ≡ all_fights p = whole p laws w p.fights 0 h.row (omega arith) row (listed_length p w order h.row listed ∙ many) in
        h.at ∙ ap (λ r. Some (Cap r)) (row_played p w 0 h.row row ∙ ap (played p w) indices)

    as_many : length (rows_of p) ≡ p.count
    as_many = length-map-range_with_len (row_of p) 0 p.count

    rows_at : (v : ℕ) → v < p.count → slice_get (rows_of p) v ≡ Some (row_of p v)
    rows_at v l =
        slice_get-get_or (rows_of p) v Refused (omega (arith, as_many, l)) ∙ ap (λ r. Some r) (get_or-map-range_with_len (row_of p) 0 p.count v v Refused l (omega arith))

    pub all_rows : f.rows ≡ rows_of p
    all_rows =
        let many = rows_count p aim.floor f.version f.rows (first_of f.ranking) s.certified in
        same_lists f.rows (rows_of p) (many ∙ sym as_many) (λ k l.
        let inside : k < p.count = subst (λ (n : ℕ). k < n) many l in
        row_at k (p.warrior k) inside refl ∙ sym (rows_at k inside))

    pub fights_of_all : f.fights ≡ f.candidates * p.fights
    fights_of_all =
        let none : copied_fights f.rows f.copied ≡ 0 = ap (copied_fights f.rows) all_copied in
        let fights : f.fights + copied_fights f.rows f.copied ≡ listed_fights f.rows = s.work.fights in
        let played : f.fights ≡ listed_fights f.rows = omega (arith, fights, none) in
        played ∙ ap listed_fights all_rows ∙ listed_rows p ∙ ap (λ n. n * p.fights) (sym s.work.count)
