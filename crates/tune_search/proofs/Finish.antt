-- After the last visit the certificate is valid.
use Rattle.std.proofs.Common.{◌≡◌, ◌≢◌, ℕ, zero, suc, ◌+◌, ◌<◌, ◌≤◌, arith, Bool, true, false, not, ◌&&◌, cond, List, [], ◌∷◌, Option, Some, None, length, replicate, refl, sym, ◌∙◌, ap, inl, inr, subst}
use Rattle.std.specs.List.{slice_get, sum_by, count_by, range_with_len}
use Rattle.std.specs.Option.{is_some}
use Rattle.std.proofs.lemmas.Bool.Decides.{nat_tests}
use Rattle.std.proofs.lemmas.List.Sums.{sum_by-cons}
use Rattle.std.proofs.lemmas.Option.{slice_get_within}
use Rattle.rc_instr.specs.Rules.{RulesView}
use Rattle.rc_instr.specs.Warrior.{WarriorView}
use Rattle.tune_template.specs.Limits.{MOST_SETTINGS}
use Rattle.tune_problem.specs.Problem.{IsProblem, Problem}
use Rattle.tune_problem.specs.Optimum.{IsCandidate, all_fights, candidates_of, cap_of, total_of}
use Rattle.tune_problem.specs.Valid.{IsOwnVersion, IsVersionOf, IsCapRow, IsRightRow, listed_fights, listed_in, listed_indices}
use Rattle.tune_problem.specs.declared.cert.Row.{Row}
use Rattle.tune_problem.specs.declared.cert.Row.TheVariants.{Cap, Refused, Same}
use Rattle.tune_problem.proofs.Certificates.{Trails, same_number, some_is, trails}
use Rattle.tune_problem.proofs.CapRows.{row_total}
use Rattle.tune_search.specs.Visits.{IsFought, visits_before, ranking_after}
use Rattle.tune_search.specs.Ranking.{IsRankingBy}
use Rattle.tune_search.specs.Sharing.{HasRowOf, IsExplained, IsVisited}
use Rattle.tune_search.specs.Found.{IsSearch, IsWorkOf, is_cap, is_copied}
use Rattle.tune_problem.specs.Below.{IsRowBelow, cert_with}
use Rattle.tune_search.specs.Findings.{IsBestFrom, IsCertified, IsSearchFor, found_of}
use Rattle.tune_search.specs.declared.findings.Findings.{Findings}
use Rattle.tune_search.specs.State.{HasCopied, IsUnderWay, IsWhole, is_filled}
use Rattle.tune_problem.specs.declared.watcher.Best.{Best}
use Rattle.tune_search.proofs.Rankings.{ranking_is, visited_behind, of_all}
use Rattle.tune_search.proofs.FoughtCaps.{fought_row, own_cases, start_cases}
use Rattle.tune_search.proofs.Cached.{none_is}
use Rattle.tune_search.proofs.VisitOrder.{lesser, before_below}
use Rattle.tune_problem.specs.declared.aim.Aim.{Aim}
use Rattle.tune_search.specs.declared.fought.Fought.{Fought}
use Rattle.tune_search.specs.declared.method.Method.{Method}
use Rattle.tune_problem.specs.Ranking.{contends, IsAim, best_alone, first_of}
use Rattle.tune_problem.proofs.Ranks.{all_map, Beaten, beaten_later, behind_first}

-- the version that a search writes is one that its certificate may have
own_version : (p : Problem) (version : ℕ) → IsOwnVersion p version → IsVersionOf p version
own_version p version h = elim h [ inl a ↦ (λ e. a.1) | inr b ↦ (λ e. absurd (omega (arith, b.0, e))) ]

-- what the row of a setting shows against the lead: as one of the setting, its cap is beaten
abbrev Shown : Problem → Aim → List Row → Option Best → ℕ → Row → Type 0
Shown p aim rows lead v Refused = p.warrior v ≡ None
Shown p aim rows lead v (Cap row) =
    (w : WarriorView) × (p.warrior v ≡ Some w) × IsCapRow p w 0 row × Beaten aim (cap_of p w (listed_indices row)) v lead
Shown p aim rows lead v (Same u) =
    (w : WarriorView) × (row : List (ℕ × ℕ)) × (u ≢ v) × (u < p.count) × (p.warrior v ≡ Some w) × (p.warrior u ≡ Some w)
    × (slice_get rows u ≡ Some (Cap row)) × Beaten aim (cap_of p w (listed_indices row)) v lead

right_row : (p : Problem) (aim : Aim) (version : ℕ) (rows : List Row) (lead : Best) (v : ℕ) (row : Row) → Shown p aim rows (Some lead) v row → IsRightRow p (cert_with version (length rows) rows lead) v row
right_row p aim version rows lead v Refused h = h
right_row p aim version rows lead v (Cap row) h = (h.0, h.1, h.2, λ ne. h.3)
right_row p aim version rows lead v (Same u) h = h

row_below : (p : Problem) (aim : Aim) (rows : List Row) (v : ℕ) (row : Row) → Shown p aim rows None v row → IsRowBelow p aim.floor rows v row
row_below p aim rows v Refused h = h
row_below p aim rows v (Cap row) h = h
row_below p aim rows v (Same u) h = h

module _ (p : Problem) (laws : IsProblem p) (start : p.start < p.count) (aim : Aim) (is_aim : IsAim aim) (rows : List Row) (ranking : List Best) (is : ranking ≡ ranking_after p aim p.count) where
  pub is_ranking : IsRankingBy p aim p.count ranking
  is_ranking = subst (λ (r : List Best). IsRankingBy p aim p.count r) (sym is) (ranking_is p aim is_aim start p.count (omega arith))

  abbrev lead : Option Best
  lead = first_of ranking

  -- each candidate is beaten, or it leads
  behind : (v : ℕ) (x : WarriorView) → v < p.count → p.warrior v ≡ Some x → Beaten aim (total_of p x) v lead
  behind v x l is_v = visited_behind p aim is_aim p.count ranking is_ranking v x l (before_below p.start p.count v start l) is_v

  module _ (method : Method) (u : ℕ) (x : WarriorView) (inside : u < p.count) (is_u : p.warrior u ≡ Some x) (h : IsFought p aim method rows u x) where
    abbrev cap : ℕ
    cap = cap_of p x (listed_indices h.row)

    u_within : visits_before p.start u ≤ p.count
    u_within = let l : visits_before p.start u < p.count = before_below p.start p.count u start inside in omega arith

    -- its cap is beaten
    pub fought_behind : Beaten aim cap u lead
    fought_behind = elim (own_cases p laws start aim is_aim method rows u x h p.count u_within (omega arith)) [
      | inl a ↦ subst (λ (n : ℕ). Beaten aim n u lead) (sym a.0) (behind u x inside is_u)
      | inr n ↦ behind_first aim is_aim cap u ranking is_ranking.order (all_map ranking (λ x r. r.reaches) is_ranking.members) (ap (contends aim cap u) is ∙ n)
    ]

    -- and so for each setting with the same warrior that is visited later
    pub shared_behind : (v : ℕ) → v < p.count → p.warrior v ≡ Some x → visits_before p.start u < visits_before p.start v → Beaten aim cap v lead
    shared_behind v l is_v before = elim (same_number u p.start) [
      | inl first ↦ subst (λ (n : ℕ). Beaten aim n v lead) (sym (start_cases p laws start aim is_aim method rows u x h first).0) (behind v x l is_v)
      | inr other ↦ beaten_later aim cap u v lead (lesser p.start u v before (λ e. absurd (other e))) fought_behind
    ]

  module _ (method : Method) (copied : Option ℕ) (rows_are : length rows ≡ p.count)
      (told : (v : ℕ) → v < p.count → IsExplained p aim method rows copied v (p.warrior v)) where
    shared_shown : (u v : ℕ) (x : WarriorView) (b : Bool) (row : Row) → v < p.count → p.warrior v ≡ Some x → p.warrior u ≡ Some x → u < p.count →
        (f : IsFought p aim method rows u x) → visits_before p.start u < visits_before p.start v → HasRowOf rows copied u v b → slice_get rows v ≡ Some row → Shown p aim rows lead v row
    shared_shown u v x true row l is_v is_u inside f before h at =
        let same : row ≡ Cap f.row = some_is _ _ (sym at ∙ h.1 ∙ f.at) in
        subst (λ (r : Row). Shown p aim rows lead v r) (sym same)
        (x, is_v, fought_row p laws start aim is_aim method rows u x f, shared_behind method u x inside is_u f v l is_v before)
    shared_shown u v x false row l is_v is_u inside f before h at =
        let same : row ≡ Same u = some_is _ _ (sym at ∙ h.1) in
        subst (λ (r : Row). Shown p aim rows lead v r) (sym same) (
          x,
          f.row,
          (λ e. let even : visits_before p.start u ≡ visits_before p.start v = ap (visits_before p.start) e in omega arith),
          inside,
          is_v,
          is_u,
          f.at,
          shared_behind method u x inside is_u f v l is_v before,
        )

    shown_of : (v : ℕ) (o : Option WarriorView) → v < p.count → p.warrior v ≡ o → IsExplained p aim method rows copied v o → (row : Row) → slice_get rows v ≡ Some row → Shown p aim rows lead v row
    shown_of v None l is_v h row at =
        let same : row ≡ Refused = some_is _ _ (sym at ∙ h.1) in
        subst (λ (r : Row). Shown p aim rows lead v r) (sym same) is_v
    shown_of v (Some x) l is_v h row at = elim h.row [
      | inl f ↦
          let same : row ≡ Cap f.2.row = some_is _ _ (sym at ∙ f.2.at) in
          subst (λ (r : Row). Shown p aim rows lead v r) (sym same)
          (x, is_v, fought_row p laws start aim is_aim method rows v x f.2, fought_behind method v x l is_v f.2)
      | inr s ↦
          let inside : s.0 < p.count = subst (λ (n : ℕ). s.0 < n) rows_are (slice_get_within rows s.0 _ s.2.fought.at) in
          shared_shown s.0 v x _ row l is_v s.1.alike inside s.2.fought s.2.before s.2.row at
    ]

    pub shown : (v : ℕ) (row : Row) → slice_get rows v ≡ Some row → Shown p aim rows lead v row
    shown v row at =
        let l : v < p.count = subst (λ (n : ℕ). v < n) rows_are (slice_get_within rows v row at) in
        shown_of v (p.warrior v) l refl (told v l) row at

-- the optimum
best_from : (p : Problem) → p.start < p.count → (aim : Aim) → IsAim aim → (ranking : List Best) → IsRankingBy p aim p.count ranking → IsBestFrom p aim.floor (first_of ranking)
best_from p start aim is_aim [] h = λ v x l is. visited_behind p aim is_aim p.count [] h v x l (before_below p.start p.count v start l) is
best_from p start aim is_aim (lead ∷ xs) h =
    let it = h.members.0 in
    let made : total_of p it.warrior ≡ lead.total = it.scores in
    let after : (v : ℕ) (x : WarriorView) → v < p.count → p.warrior v ≡ Some x → Trails (total_of p x) v lead.total lead.vector =
    (λ v x l is. trails _ _ _ _ (visited_behind p aim is_aim p.count (lead ∷ xs) h v x l (before_below p.start p.count v start l) is)) in (
      (
        record {
          warrior = it.warrior;
          inside = it.inside;
          candidate = it.candidate;
          greatest = λ v x l is. let le : total_of p x ≤ lead.total = (after v x l is).no_more in omega arith;
          first = λ v x l is e. (after v x l is).later (e ∙ made);
        },
        (it.warrior, it.candidate, it.scores),
      ),
      it.reaches,
    )

-- and the certificate of it
certified : (p : Problem) → IsProblem p → (aim : Aim) (version : ℕ) → IsVersionOf p version → (rows : List Row) → length rows ≡ p.count → (ranking : List Best) → IsRankingBy p aim p.count ranking →
    ((v : ℕ) (row : Row) → slice_get rows v ≡ Some row → Shown p aim rows (first_of ranking) v row) → IsWhole p rows (first_of ranking) → IsCertified p aim.floor version rows (first_of ranking)
certified p laws aim version own rows rows_are [] h shown whole = record {
  version_is = own;
  rows_are = rows_are;
  right = λ v row at. row_below p aim rows v row (shown v row at);
}
certified p laws aim version own rows rows_are (lead ∷ xs) h shown whole =
    let r = shown lead.vector (Cap whole.0) whole.1 in
    let same : r.0 ≡ h.members.0.warrior = some_is _ _ (sym r.1 ∙ h.members.0.candidate) in
    record {
      version_is = own;
      count_is = rows_are;
      rows_are = rows_are;
      best_row = whole.0;
      best_inside = h.members.0.inside;
      best_at = whole.1;
      whole = whole.2;
      sums = row_total p laws r.0 whole.0 r.2 whole.2 ∙ ap (total_of p) same ∙ h.members.0.scores;
      right = λ v row at. right_row p aim version rows lead v row (shown v row at);
    }

-- a sum over the rows is the sum over the settings if each row adds what its setting does
same_sums : (f : Row → ℕ) (g : ℕ → ℕ) (rows : List Row) (a : ℕ) → ((k : ℕ) (r : Row) → slice_get rows k ≡ Some r → f r ≡ g (a + k)) → sum_by f rows ≡ sum_by g (range_with_len a (length rows))
same_sums f g [] a each = refl
same_sums f g (r ∷ rows) a each =
    let here : f r ≡ g a = each 0 r refl ∙ ap g (omega arith) in
    let rest : sum_by f rows ≡ sum_by g (range_with_len (a + 1) (length rows)) =
    same_sums f g rows (a + 1) (λ k q at. each (suc k) q at ∙ ap g (omega arith)) in
    sum_by-cons f r rows ∙ ap (λ n. n + sum_by f rows) here ∙ ap (λ n. g a + n) rest ∙ sym (sum_by-cons g a (range_with_len (a + 1) (length rows)))

abbrev bit : Bool → ℕ
bit b = cond b 1 0

module _ (p : Problem) (aim : Aim) (method : Method) (rows : List Row) (copied : Option ℕ) (rows_are : length rows ≡ p.count)
    (told : (v : ℕ) → v < p.count → IsExplained p aim method rows copied v (p.warrior v)) where
  filled_shared : (u v : ℕ) (x : WarriorView) (b : Bool) (r : Row) → IsFought p aim method rows u x → HasRowOf rows copied u v b → slice_get rows v ≡ Some r → is_filled r ≡ true
  filled_shared u v x true r f h at = ap is_filled (some_is r (Cap f.row) (sym at ∙ h.1 ∙ f.at))
  filled_shared u v x false r f h at = ap is_filled (some_is r (Same u) (sym at ∙ h.1))

  filled_is : (v : ℕ) (o : Option WarriorView) → IsExplained p aim method rows copied v o → (r : Row) → slice_get rows v ≡ Some r → is_filled r ≡ is_some o
  filled_is v None h r at = ap is_filled (some_is r Refused (sym at ∙ h.1))
  filled_is v (Some x) h r at = elim h.row [
    | inl f ↦ ap is_filled (some_is r (Cap f.2.row) (sym at ∙ f.2.at))
    | inr s ↦ filled_shared s.0 v x _ r s.2.fought s.2.row at
  ]

  -- the rows that are filled are those of the candidates
  pub filled_candidates : count_by is_filled rows ≡ candidates_of p
  unfolding candidates_of
  filled_candidates =
      same_sums (λ r. bit (is_filled r)) (λ v. bit (is_some (p.warrior v))) rows 0 (λ k r at.
      let l : k < p.count = subst (λ (n : ℕ). k < n) rows_are (slice_get_within rows k r at) in
      let e : k ≡ 0 + k = omega arith in
      ap bit (filled_is k (p.warrior k) (told k l) r at) ∙ ap (λ n. bit (is_some (p.warrior n))) e)
      ∙ ap (λ n. count_by (λ v. is_some (p.warrior v)) (range_with_len 0 n)) rows_are

-- a count of none
bit_none : (b : Bool) → bit b ≡ 0 → b ≡ false
bit_none true e = absurd (omega (arith, e))
bit_none false e = refl

none_passes : (g : ℕ → Bool) (a n k : ℕ) → count_by g (range_with_len a n) ≡ 0 → k < n → g (a + k) ≡ false
none_passes g a zero k e l = absurd (omega arith)
none_passes g a (suc n) zero e l =
    let more : count_by g (range_with_len a (suc n)) ≡ bit (g a) + count_by g (range_with_len (a + 1) n) = sum_by-cons (λ v. bit (g v)) a (range_with_len (a + 1) n) in
    let at : a + 0 ≡ a = omega arith in
    ap g at ∙ bit_none (g a) (omega (arith, e, more))
none_passes g a (suc n) (suc k) e l =
    let more : count_by g (range_with_len a (suc n)) ≡ bit (g a) + count_by g (range_with_len (a + 1) n) = sum_by-cons (λ v. bit (g v)) a (range_with_len (a + 1) n) in
    let at : a + suc k ≡ (a + 1) + k = omega arith in
    ap g at ∙ none_passes g (a + 1) n k (omega (arith, e, more)) (omega arith)

-- before the first visit
blank_at : (n v : ℕ) → v < n → slice_get (replicate n Refused) v ≡ Some Refused
blank_at zero v l = absurd (omega arith)
blank_at (suc n) zero l = refl
blank_at (suc n) (suc v) l = blank_at n v (omega arith)

blank_sum : (f : Row → ℕ) → f Refused ≡ 0 → (n : ℕ) → sum_by f (replicate n Refused) ≡ 0
blank_sum f e zero = refl
blank_sum f e (suc n) = let i = blank_sum f e n in let s = sum_by-cons f Refused (replicate n Refused) in omega arith

blank_length : (n : ℕ) → length (replicate n Refused) ≡ n
blank_length zero = refl
blank_length (suc n) = ap suc (blank_length n)

pub starts : (p : Problem) (rules : RulesView) (aim : Aim) (method : Method) (version : ℕ) → IsOwnVersion p version →
    IsUnderWay p rules aim method 0 (record { version = version; ranking = []; rows = replicate p.count Refused; fights = 0; candidates = 0; copied = None }) (all_fights p) []
unfolding listed_fights ranking_after
starts p rules aim method version own = record {
  version_is = own;
  rows_are = blank_length p.count;
  ranking_is = refl;
  whole = tt;
  full = tt;
  explained = λ v l before. absurd (omega arith);
  unvisited = λ v l later. blank_at p.count v l;
  order_is = refl;
  recent = refl;
  all_known = tt;
  copied_is = tt;
  fights = sym (blank_sum listed_in refl p.count);
  count = sym (blank_sum (λ r. bit (is_filled r)) refl p.count);
  room = omega arith;
}

-- a row that was fought is a cap row, and not the copied one
pub cap_listed : (o : Option Row) (b : Bool) → is_cap o && b ≡ true → (list : List (ℕ × ℕ)) × (o ≡ Some (Cap list))
cap_listed None b h = absurd (cc)
cap_listed (Some Refused) b h = absurd (cc)
cap_listed (Some (Same u)) b h = absurd (cc)
cap_listed (Some (Cap list)) b h = (list, refl)

pub own_row : (copied : Option ℕ) (v : ℕ) (b : Bool) → b && not (is_copied copied v) ≡ true → copied ≢ Some v
own_row None v b h e = cc
own_row (Some u) v b h e = let same : u ≡ v = cc in grind (arith, nat_tests, h, same)

-- after the last
module _ (p : Problem) (laws : IsProblem p) (start : p.start < p.count) (rules : RulesView) (aim : Aim) (is_aim : IsAim aim) (method : Method)
    (f : Findings) (order : List ℕ) (known : List (List ℕ × Fought)) (s : IsUnderWay p rules aim method p.count f order known) where
  all_told : (v : ℕ) → v < p.count → IsExplained p aim method f.rows f.copied v (p.warrior v)
  all_told v l = s.explained v l (before_below p.start p.count v start l)

  told_refused : (v : ℕ) (o : Option WarriorView) → o ≡ None → IsExplained p aim method f.rows f.copied v o → slice_get f.rows v ≡ Some Refused
  told_refused v None e h = h.1
  told_refused v (Some w) e h = absurd (cc)

  told_copied : (v : ℕ) (o : Option WarriorView) → f.copied ≡ Some v → IsExplained p aim method f.rows f.copied v o → o ≢ None
  told_copied v None is h = λ e. h.0 is
  told_copied v (Some w) is h = λ e. cc

  inside_copied : (v : ℕ) (o : Option ℕ) → o ≡ Some v → HasCopied p p.count (first_of f.ranking) o → v < p.count
  inside_copied v None e h = absurd (cc)
  inside_copied v (Some u) e h = let same : u ≡ v = cc in subst (λ (n : ℕ). n < p.count) same h.0

  shares_no_cap : (u v : ℕ) (b : Bool) (list : List (ℕ × ℕ)) → f.copied ≢ Some v → slice_get f.rows v ≡ Some (Cap list) → HasRowOf f.rows f.copied u v b → ⊥
  shares_no_cap u v true list other at h = other h.0
  shares_no_cap u v false list other at h = let e : Some (Cap list) ≡ Some (Same u) = sym at ∙ h.1 in absurd (cc)

  told_fought : (v : ℕ) (w : WarriorView) (list : List (ℕ × ℕ)) → f.copied ≢ Some v → slice_get f.rows v ≡ Some (Cap list) → IsVisited p aim method f.rows f.copied v w → IsFought p aim method f.rows v w
  told_fought v w list other at h = elim h.row [
    | inl h ↦ h.2
    | inr h ↦ absurd (shares_no_cap h.0 v _ list other at h.2.row)
  ]

  told_shared : (v : ℕ) (w : WarriorView) → v < p.count → p.warrior v ≡ Some w → IsVisited p aim method f.rows f.copied v w
  told_shared v w l is = subst (λ (o : Option WarriorView). IsExplained p aim method f.rows f.copied v o) is (all_told v l)

  pub finds_none : f.candidates ≡ 0 → (v : ℕ) → v < p.count → IsCandidate p v → ⊥
  unfolding candidates_of
  finds_none e v l (w, is) =
      let none : count_by (λ u. is_some (p.warrior u)) (range_with_len 0 p.count) ≡ 0 = sym (filled_candidates p aim method f.rows f.copied s.rows_are all_told) ∙ sym s.count ∙ e in
      let at : 0 + v ≡ v = omega arith in
      let refused : p.warrior v ≡ None = none_is (p.warrior v) (ap (λ u. is_some (p.warrior u)) (sym at) ∙ none_passes (λ u. is_some (p.warrior u)) 0 p.count v none l) in
      absurd (cc)

  -- the rows and the counts are those of the method
  worked : p.count ≤ MOST_SETTINGS → IsWorkOf p aim method f
  worked few =
      let all : length f.rows ≡ p.count = s.rows_are in
      record {
        version = s.version_is;
        count = s.count ∙ filled_candidates p aim method f.rows f.copied s.rows_are all_told;
        few = omega (arith, all, few);
        refused = λ v i none. told_refused v (p.warrior v) none (all_told v i);
        fought = λ v w i is own.
            let list = cap_listed (slice_get f.rows v) _ own in
            told_fought v w list.0 (own_row f.copied v _ own) list.1 (told_shared v w i is);
        shared = told_shared;
        copied = λ v is.
            let i : v < p.count = inside_copied v f.copied is s.copied_is in
            (i, told_copied v (p.warrior v) is (all_told v i));
        fights = s.fights;
      }

  -- what was found is what a search promises
  pub finds : p.count ≤ MOST_SETTINGS → IsSearchFor p aim method f
  finds few =
      let right_ranking : IsRankingBy p aim p.count f.ranking = is_ranking p laws start aim is_aim f.rows f.ranking s.ranking_is in
      record {
        ranking = of_all p aim is_aim start f.ranking right_ranking;
        full = s.full;
        best = best_from p start aim is_aim f.ranking right_ranking;
        certified = certified p laws aim f.version (own_version p f.version s.version_is) f.rows s.rows_are f.ranking right_ranking
            (shown p laws start aim is_aim f.rows f.ranking s.ranking_is method f.copied s.rows_are all_told) s.whole;
        work = worked few;
      }

-- without a floor
pub as_found : (p : Problem) (method : Method) (f : Findings) (best : Best) → first_of f.ranking ≡ Some best → IsSearchFor p best_alone method f → IsSearch p method (found_of f best)
as_found p method f best is s =
    let found : IsBestFrom p 0 (Some best) = subst (IsBestFrom p 0) is s.best in
    record {
      optimum = found.0.0;
      total_is = found.0.1;
      valid = subst (IsCertified p 0 f.version f.rows) is s.certified;
      work = record {
        version = s.work.version;
        count = s.work.count;
        few = s.work.few;
        refused = s.work.refused;
        fought = s.work.fought;
        shared = s.work.shared;
        copied = s.work.copied;
        fights = s.work.fights;
      };
    }
