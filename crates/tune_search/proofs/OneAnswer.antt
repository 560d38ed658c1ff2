-- The inputs, the aim and the method determine what a search finds.
use Rattle.std.proofs.Common.{◌≡◌, ℕ, suc, ◌+◌, ◌<◌, ◌≤◌, arith, Bool, true, false, List, [], ◌∷◌, ◌++◌, Option, Some, None, length, take, refl, sym, ◌∙◌, ap, ◌⊎◌, inl, inr, subst}
use Rattle.std.specs.List.{slice_get, AllByRecursion}
use Rattle.std.specs.List.Sorted.{IsPermutation}
use Rattle.std.proofs.lemmas.List.Sorted.{All-permutation, IsPermutation-sym, IsPermutation-trans}
use Rattle.std.proofs.lemmas.List.Elements.{All-from_recursion, recursion_from_All}
use Rattle.rc_instr.specs.Warrior.{WarriorView}
use Rattle.tune_problem.specs.Problem.{Problem}
use Rattle.tune_problem.specs.Valid.{IsCapRow, IsOwnVersion, listed_fights}
use Rattle.tune_problem.specs.declared.cert.Found.{Found}
use Rattle.tune_problem.specs.declared.cert.Row.{Row}
use Rattle.tune_problem.specs.declared.cert.Row.TheVariants.{Cap}
use Rattle.tune_problem.specs.Optimum.{total_of}
use Rattle.std.specs.Option.{option_map}
use Rattle.std.specs.Prelude.{nat_le}
use Rattle.std.proofs.lemmas.Bool.{and_right}
use Rattle.tune_problem.proofs.Certificates.{not_beats, optimum_one, some_is, total_one}
use Rattle.tune_search.specs.Plays.{played}
use Rattle.tune_search.specs.Order.{aim_at, enough, fight_order}
use Rattle.tune_search.specs.Visits.{visits_before, ranking_before, IsFought}
use Rattle.tune_search.specs.Recent.{OneHas, NoneHas}
use Rattle.tune_search.specs.Method.{capacity_of}
use Rattle.tune_search.specs.Sharing.{HasRowOf, Shares, copies}
use Rattle.tune_search.specs.Found.{IsSearch, as_findings, copied_fights}
use Rattle.tune_search.specs.Findings.{IsCertified, IsSearchFor, found_of}
use Rattle.tune_search.specs.declared.findings.Findings.{Findings}
use Rattle.tune_search.proofs.Unique.{apart_recent, none_of, recent_one, split_one, Apart}
use Rattle.tune_search.specs.declared.method.Method.{Method}
use Rattle.tune_problem.specs.Ranking.{Any, IsAim, IsRanking, best_alone, contends, first_of}
use Rattle.tune_problem.specs.declared.aim.Aim.{Aim}
use Rattle.tune_problem.specs.declared.watcher.Best.{Best}
use Rattle.tune_search.proofs.OneRanking.{one_ranking}

abbrev Entry : Type 0
Entry = ℕ × ℕ

abbrev In : Entry → List Entry → Type 0
In e [] = ⊥
In e (x ∷ xs) = (e ≡ x) ⊎ In e xs

-- every entry of the second list is in the first
abbrev Inside : List Entry → List Entry → Type 0
Inside xs ys = AllByRecursion (λ e. In e xs) ys

inside_more : (x : Entry) (xs ys : List Entry) → Inside xs ys → Inside (x ∷ xs) ys
inside_more x xs [] h = tt
inside_more x xs (y ∷ ys) h = (inr h.0, inside_more x xs ys h.1)

inside_itself : (xs : List Entry) → Inside xs xs
inside_itself [] = tt
inside_itself (x ∷ xs) = (inl refl, inside_more x xs xs (inside_itself xs))

inside_moved : (xs ys : List Entry) → IsPermutation xs ys → Inside xs ys
inside_moved xs ys m = recursion_from_All (λ e. In e xs) ys (All-permutation (λ e. In e xs) xs ys m (All-from_recursion (λ e. In e xs) xs (inside_itself xs)))

-- two cap rows with the same entries are one row
module _ (p : Problem) (w : WarriorView) where
  not_before : (a : ℕ) (xs : List Entry) (e : Entry) → IsCapRow p w a xs → In e xs → a ≤ e.0
  not_before a [] e h m = absurd m
  not_before a (x ∷ xs) e h m = elim m [
    | inl same ↦ let le : a ≤ x.0 = h.0 in let at : e.0 ≡ x.0 = ap (λ q. q.0) same in omega arith
    | inr on ↦ let le : a ≤ x.0 = h.0 in let far : x.0 + 1 ≤ e.0 = not_before (x.0 + 1) xs e h.3 on in omega arith
  ]

  inside_rest : (y : Entry) (ys : List Entry) (a : ℕ) (xs : List Entry) → IsCapRow p w a xs → y.0 < a → Inside (y ∷ ys) xs → Inside ys xs
  inside_rest y ys a [] h l i = tt
  inside_rest y ys a (x ∷ xs) h l i =
      let le : a ≤ x.0 = h.0 in (
        elim i.0 [ inl same ↦ let at : x.0 ≡ y.0 = ap (λ q. q.0) same in absurd (omega arith) | inr on ↦ on ],
        inside_rest y ys (x.0 + 1) xs h.3 (omega arith) i.1,
      )

  same_head : (a b : ℕ) (x y : Entry) (xs ys : List Entry) → IsCapRow p w a (x ∷ xs) → IsCapRow p w b (y ∷ ys) → In x (y ∷ ys) → In y (x ∷ xs) → x ≡ y
  same_head a b x y xs ys g h i j = elim i [
    | inl same ↦ same
    | inr m ↦ elim j [
      | inl same ↦ sym same
      | inr n ↦
          let one : y.0 + 1 ≤ x.0 = not_before (y.0 + 1) ys x h.3 m in
          let other : x.0 + 1 ≤ y.0 = not_before (x.0 + 1) xs y g.3 n in
          absurd (omega arith)
    ]
  ]

  row_one : (a b : ℕ) (xs ys : List Entry) → IsCapRow p w a xs → IsCapRow p w b ys → Inside ys xs → Inside xs ys → xs ≡ ys
  row_one a b [] [] g h i j = refl
  row_one a b [] (y ∷ ys) g h i j = absurd j.0
  row_one a b (x ∷ xs) [] g h i j = absurd i.0
  row_one a b (x ∷ xs) (y ∷ ys) g h i j =
      let same : x ≡ y = same_head a b x y xs ys g h i.0 j.0 in
      let at : x.0 ≡ y.0 = ap (λ q. q.0) same in
      let rest : xs ≡ ys =
      row_one (x.0 + 1) (y.0 + 1) xs ys g.3 h.3 (inside_rest y ys (x.0 + 1) xs g.3 (omega arith) i.1) (inside_rest x xs (y.0 + 1) ys h.3 (omega arith) j.1) in
      λ k. same k ∷ rest k

pub same_lists : {X : Type 0} (xs ys : List X) → length xs ≡ length ys → ((k : ℕ) → k < length xs → slice_get xs k ≡ slice_get ys k) → xs ≡ ys
same_lists [] [] e h = refl
same_lists [] (y ∷ ys) e h = absurd (omega arith)
same_lists (x ∷ xs) [] e h = absurd (omega arith)
same_lists (x ∷ xs) (y ∷ ys) e h =
    let first : x ≡ y = some_is x y (h 0 (omega arith)) in
    let rest : xs ≡ ys = same_lists xs ys (omega arith) (λ k l. h (suc k) (omega arith)) in
    λ i. first i ∷ rest i

same_options : (a b : Option ℕ) → ((v : ℕ) → a ≡ Some v → b ≡ Some v) → ((v : ℕ) → b ≡ Some v → a ≡ Some v) → a ≡ b
same_options None None there back = refl
same_options None (Some v) there back = back v refl
same_options (Some v) b there back = sym (there v refl)

version_one : (p : Problem) (m n : ℕ) → IsOwnVersion p m → IsOwnVersion p n → m ≡ n
version_one p m n a b = elim a [
  | inl x ↦ elim b [ inl y ↦ x.0 ∙ sym y.0 | inr y ↦ absurd (y.1 x.1) ]
  | inr x ↦ elim b [ inl y ↦ absurd (x.1 y.1) | inr y ↦ x.0 ∙ sym y.0 ]
]

-- the rows of a search, whichever answer they certify
module _ (p : Problem) (floor version : ℕ) (rows : List Row) where
  pub rows_count : (best : Option Best) → IsCertified p floor version rows best → length rows ≡ p.count
  rows_count None h = h.rows_are
  rows_count (Some best) h = h.rows_are

  cap_row_at : (best : Option Best) → IsCertified p floor version rows best → (v : ℕ) (row : List Entry) → slice_get rows v ≡ Some (Cap row)
      → (w : WarriorView) × (p.warrior v ≡ Some w) × IsCapRow p w 0 row
  cap_row_at None h v row at = let x = h.right v (Cap row) at in (x.0, x.1, x.2)
  cap_row_at (Some best) h v row at = let x = h.right v (Cap row) at in (x.0, x.1, x.2)

module _ (p : Problem) (aim : Aim) (method : Method) (f g : Findings) (s : IsSearchFor p aim method f) (t : IsSearchFor p aim method g) where
  fought_same : (v : ℕ) (w : WarriorView) → IsFought p aim method f.rows v w → IsFought p aim method g.rows v w → slice_get f.rows v ≡ slice_get g.rows v
  fought_same v w a b =
      let order = fight_order p v in
      let fights : IsPermutation (played p w (take (enough p method (aim_at p aim v) w order v (ranking_before p aim v)) order)) a.row = a.listed.same in
      let moved : IsPermutation a.row b.row = IsPermutation-trans _ _ _ (IsPermutation-sym _ _ fights) b.listed.same in
      let x = cap_row_at p aim.floor f.version f.rows (first_of f.ranking) s.certified v a.row a.at in
      let y = cap_row_at p aim.floor g.version g.rows (first_of g.ranking) t.certified v b.row b.at in
      let rises : IsCapRow p y.0 0 a.row = subst (λ (z : WarriorView). IsCapRow p z 0 a.row) (some_is _ _ (sym x.1 ∙ y.1)) x.2 in
      let one : a.row ≡ b.row = row_one p y.0 0 0 a.row b.row rises y.2 (inside_moved b.row a.row (IsPermutation-sym _ _ moved)) (inside_moved a.row b.row moved) in
      a.at ∙ ap (λ r. Some (Cap r)) one ∙ sym b.at

  -- what both say of setting v
  record Alike (v : ℕ) : Type 0 where
    row : slice_get f.rows v ≡ slice_get g.rows v
    there : f.copied ≡ Some v → g.copied ≡ Some v
    back : g.copied ≡ Some v → f.copied ≡ Some v

  row_same : (u v : ℕ) (b : Bool) → slice_get f.rows u ≡ slice_get g.rows u → HasRowOf f.rows f.copied u v b → HasRowOf g.rows g.copied u v b → Alike v
  row_same u v true same x y = record { row = x.1 ∙ same ∙ sym y.1; there = λ e. y.0; back = λ e. x.0 }
  row_same u v false same x y = record { row = x.1 ∙ sym y.1; there = λ e. absurd (x.0 e); back = λ e. absurd (y.0 e) }

  shared_same : (u v : ℕ) (w : WarriorView) → Shares p aim method f.rows f.copied u v w → Shares p aim method g.rows g.copied u v w → Alike v
  shared_same u v w a b =
      row_same u v (copies p.start u v (first_of (ranking_before p aim v))) (fought_same u w a.fought b.fought) a.row b.row

  never_both : (w : WarriorView) (u : ℕ) (us : List ℕ) → OneHas p w u us → NoneHas p w us → ⊥
  never_both w u us h none = none_of p w u h.front h.back (subst (NoneHas p w) h.split none) h.alike

  alike_by : (v : ℕ) (o : Option WarriorView) → v < p.count → p.warrior v ≡ o → Alike v
  alike_by v None l is = record {
    row = s.work.refused v l is ∙ sym (t.work.refused v l is);
    there = λ e. absurd ((s.work.copied v e).1 is);
    back = λ e. absurd ((t.work.copied v e).1 is);
  }
  alike_by v (Some w) l is =
      let a = s.work.shared v w l is in
      let b = t.work.shared v w l is in
      let same : a.recent ≡ b.recent = recent_one p (capacity_of method) (visits_before p.start v) a.recent b.recent a.is_recent b.is_recent in
      elim a.row [
        | inl x ↦ elim b.row [
          | inl y ↦ record { row = fought_same v w x.2 y.2; there = λ e. absurd (x.1 e); back = λ e. absurd (y.1 e) }
          | inr y ↦ absurd (never_both w y.0 a.recent (subst (OneHas p w y.0) (sym same) y.1) x.0)
        ]
        | inr x ↦ elim b.row [
          | inl y ↦ absurd (never_both w x.0 b.recent (subst (OneHas p w x.0) same x.1) y.0)
          | inr y ↦
              let apart : Apart p (x.1.front ++ x.0 ∷ x.1.back) = subst (Apart p) x.1.split (apart_recent p (capacity_of method) (visits_before p.start v) a.recent a.is_recent) in
              let both : x.1.front ++ x.0 ∷ x.1.back ≡ y.1.front ++ y.0 ∷ y.1.back = sym x.1.split ∙ same ∙ y.1.split in
              let one : x.0 ≡ y.0 = (split_one p w x.0 y.0 x.1.back y.1.back x.1.front y.1.front x.1.alike y.1.alike apart both).0 in
              shared_same y.0 v w (subst (λ (u : ℕ). Shares p aim method f.rows f.copied u v w) one x.2) y.2
        ]
      ]

  alike : (v : ℕ) → v < p.count → Alike v
  alike v l = alike_by v (p.warrior v) l refl

  rows_same : f.rows ≡ g.rows
  rows_same =
      let many = rows_count p aim.floor f.version f.rows (first_of f.ranking) s.certified in
      let as_many = rows_count p aim.floor g.version g.rows (first_of g.ranking) t.certified in
      same_lists f.rows g.rows (many ∙ sym as_many) (λ k l. (alike k (subst (λ (n : ℕ). k < n) many l)).row)

  copied_same : f.copied ≡ g.copied
  copied_same = same_options f.copied g.copied (λ v e. (alike v (s.work.copied v e).0).there e) (λ v e. (alike v (t.work.copied v e).0).back e)

  fights_same : f.fights ≡ g.fights
  fights_same =
      let copied : copied_fights f.rows f.copied ≡ copied_fights g.rows g.copied = λ i. copied_fights (rows_same i) (copied_same i) in
      let listed : listed_fights f.rows ≡ listed_fights g.rows = ap listed_fights rows_same in
      let one : f.fights + copied_fights f.rows f.copied ≡ listed_fights f.rows = s.work.fights in
      let other : g.fights + copied_fights g.rows g.copied ≡ listed_fights g.rows = t.work.fights in
      omega (arith, one, other, copied, listed)

  pub answer_one : IsAim aim → f ≡ g
  answer_one is_aim =
      let ranking : f.ranking ≡ g.ranking = one_ranking p aim is_aim Any f.ranking g.ranking s.ranking t.ranking in
      let version : f.version ≡ g.version = version_one p f.version g.version s.work.version t.work.version in
      let candidates : f.candidates ≡ g.candidates = s.work.count ∙ sym t.work.count in
      λ i. record { version = version i; ranking = ranking i; rows = rows_same i; fights = fights_same i; candidates = candidates i; copied = copied_same i }

-- ---- for the best setting alone

-- the optimum alone is the first of the ranking
alone_ranks : (p : Problem) (method : Method) (f : Found) → IsSearch p method f → IsRanking p best_alone Any (as_findings f).ranking
alone_ranks p method f s = record {
  few = omega arith;
  members = (
    record {
      warrior = s.total_is.0;
      inside = s.optimum.inside;
      is_among = tt;
      candidate = s.total_is.1;
      scores = s.total_is.2;
      reaches = omega arith;
    },
    tt,
  );
  order = (tt, tt);
  others = λ v w inside among is. inr (behind v w inside is);
}
  where
    behind : (v : ℕ) (w : WarriorView) → v < p.count → p.warrior v ≡ Some w → contends best_alone (total_of p w) v (as_findings f).ranking ≡ false
    behind v w inside is =
        let same : s.optimum.warrior ≡ s.total_is.0 = some_is _ _ (sym s.optimum.candidate ∙ s.total_is.1) in
        let best : total_of p s.optimum.warrior ≡ f.total = ap (total_of p) same ∙ s.total_is.2 in
        and_right (nat_le 0 (total_of p w)) _ (not_beats (total_of p w) v f.total f.best (record {
          no_more = let le = s.optimum.greatest v w inside is in omega (arith, le, best);
          later = λ even. s.optimum.first v w inside is (even ∙ sym best);
        }))

pub as_search : (p : Problem) (method : Method) (f : Found) → IsSearch p method f → IsSearchFor p best_alone method (as_findings f)
as_search p method f s = record {
  ranking = alone_ranks p method f s;
  full = ((f.best, s.valid.best_row, s.valid.best_at, s.valid.whole, inl refl), tt);
  best = ((s.optimum, s.total_is), omega arith);
  certified = s.valid;
  work = s.work;
}

-- the best setting of findings, if one is ranked
abbrev first_found : Findings → Option Found
first_found f = option_map (found_of f) (first_of f.ranking)

pub found_one : (p : Problem) (method : Method) (f g : Found) → IsSearch p method f → IsSearch p method g → f ≡ g
found_one p method f g s t =
    some_is f g (ap first_found (answer_one p best_alone method (as_findings f) (as_findings g) (as_search p method f s) (as_search p method g t) (omega arith, omega arith)))

-- searches by any two methods find the first of the ranking, and there is one
pub one_found : (p : Problem) (aim : Aim) (one other : Method) (f g : Findings) → IsAim aim → IsSearchFor p aim one f → IsSearchFor p aim other g
    → (f.ranking ≡ g.ranking) × (f.candidates ≡ g.candidates)
one_found p aim one other f g is_aim s t = (one_ranking p aim is_aim Any f.ranking g.ranking s.ranking t.ranking, s.work.count ∙ sym t.work.count)

pub one_optimum : (p : Problem) (one other : Method) (f g : Found) → IsSearch p one f → IsSearch p other g
    → (f.best ≡ g.best) × (f.total ≡ g.total) × (f.candidates ≡ g.candidates)
one_optimum p one other f g s t =
    let best : f.best ≡ g.best = optimum_one p f.best g.best s.optimum t.optimum in
    (best, total_one p f.best g.best f.total g.total best s.total_is t.total_is, s.work.count ∙ sym t.work.count)
