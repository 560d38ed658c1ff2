-- One visit: what was explained stays so, and the new row is explained.
use Rattle.std.proofs.Common.{◌≡◌, ◌≢◌, ℕ, suc, ◌+◌, ◌<◌, ◌≤◌, arith, Bool, true, false, cond, List, [], ◌∷◌, Option, Some, None, length, get_or, sym, ◌∙◌, ap, inl, inr, subst}
use Rattle.std.specs.List.{AllByRecursion, slice_get, slice_set, sum_by, count_by}
use Rattle.std.proofs.lemmas.Option.{slice_get_within, get_or_from_slice_get}
use Rattle.std.proofs.lemmas.List.Sums.{sum_by-set}
use Rattle.rc_instr.specs.Rules.{RulesView}
use Rattle.rc_instr.specs.Warrior.{WarriorView}
use Rattle.tune_problem.specs.Problem.{Problem}
use Rattle.tune_problem.specs.Valid.{listed_by, listed_fights, listed_in}
use Rattle.tune_problem.specs.declared.cert.Row.{Row}
use Rattle.tune_problem.specs.declared.cert.Row.TheVariants.{Cap, Refused}
use Rattle.tune_search.specs.Visits.{IsFought, visits_before, setting_visited}
use Rattle.tune_search.specs.Sharing.{HasRowOf, IsExplained}
use Rattle.tune_search.specs.Found.{copied_fights}
use Rattle.tune_search.specs.Findings.{IsFull}
use Rattle.tune_search.specs.State.{IsKnown, IsWhole, is_filled}
use Rattle.tune_problem.specs.declared.watcher.Best.{Best}
use Rattle.tune_search.proofs.Slots.{slot_other, slot_same}
use Rattle.tune_search.proofs.Leads.{by_then}
use Rattle.tune_search.proofs.VisitOrder.{before_visited}
use Rattle.tune_problem.specs.declared.aim.Aim.{Aim}
use Rattle.tune_search.specs.declared.fought.Fought.{Fought}
use Rattle.tune_search.specs.declared.method.Method.{Method}

abbrev bit : Bool → ℕ
bit b = cond b 1 0

-- the row of v is written, which was not before
module _ (p : Problem) (rules : RulesView) (aim : Aim) (method : Method) (k v : ℕ) (at : v ≡ setting_visited p.start k) (rows : List Row) (row : Row) (blank : slice_get rows v ≡ Some Refused) where
  abbrev after : List Row
  after = slice_set rows v row

  other_than : (u : ℕ) (list : List (ℕ × ℕ)) → slice_get rows u ≡ Some (Cap list) → u ≢ v
  other_than u list h e =
      let same : slice_get rows u ≡ Some Refused = ap (slice_get rows) e ∙ blank in
      absurd (cc)

  pub fought_stays : (u : ℕ) (w : WarriorView) → IsFought p aim method rows u w → IsFought p aim method after u w
  fought_stays u w h = record {
    row = h.row;
    at = slot_other rows v u row (other_than u h.row h.at) ∙ h.at;
    listed = h.listed;
  }

  -- nothing changes at other settings
  pub record Keeps (old new : Option ℕ) : Type 0 where
    pub yes_stays : (u : ℕ) → u ≢ v → old ≡ Some u → new ≡ Some u
    pub no_stays : (u : ℕ) → u ≢ v → old ≢ Some u → new ≢ Some u

  pub keeps_same : (old : Option ℕ) → Keeps old old
  keeps_same old = record { yes_stays = λ u ne e. e; no_stays = λ u ne e. e }

  pub keeps_new : Keeps None (Some v)
  keeps_new = record { yes_stays = λ u ne e. absurd (cc); no_stays = λ u ne e f. ne (let g : v ≡ u = cc in sym g) }

  module _ (old new : Option ℕ) (keeps : Keeps old new) where
    shared_stays : (u t : ℕ) (b : Bool) → u ≢ v → t ≢ v → HasRowOf rows old t u b → HasRowOf after new t u b
    shared_stays u t true nu nt h = (keeps.yes_stays u nu h.0, slot_other rows v u row nu ∙ h.1 ∙ sym (slot_other rows v t row nt))
    shared_stays u t false nu nt h = (keeps.no_stays u nu h.0, slot_other rows v u row nu ∙ h.1)

    explained_stays : (u : ℕ) (o : Option WarriorView) → u ≢ v → IsExplained p aim method rows old u o → IsExplained p aim method after new u o
    explained_stays u None ne h = (keeps.no_stays u ne h.0, slot_other rows v u row ne ∙ h.1)
    explained_stays u (Some w) ne h = record {
      recent = h.recent;
      is_recent = h.is_recent;
      row = elim h.row [
        | inl f ↦ inl (f.0, keeps.no_stays u ne f.1, fought_stays u w f.2)
        | inr s ↦ inr (
          s.0,
          s.1,
          record {
            fought = fought_stays s.0 w s.2.fought;
            before = s.2.before;
            row = shared_stays u s.0 _ ne (other_than s.0 s.2.fought.row s.2.fought.at) s.2.row;
          },
        )
      ];
    }

    -- all that were visited, and v
    pub told_more : ((u : ℕ) → u < p.count → visits_before p.start u < k → IsExplained p aim method rows old u (p.warrior u)) →
        IsExplained p aim method after new v (p.warrior v) → (u : ℕ) → u < p.count → visits_before p.start u < suc k → IsExplained p aim method after new u (p.warrior u)
    told_more told one u l before =
        elim (by_then p k v at u before) [
          | inl b ↦ explained_stays u (p.warrior u) (λ e. let same : visits_before p.start u ≡ k = ap (visits_before p.start) (e ∙ at) ∙ before_visited p.start k in omega arith) (told u l b)
          | inr e ↦ subst (λ (n : ℕ). IsExplained p aim method after new n (p.warrior n)) (sym e) one
        ]

  pub left_more : ((u : ℕ) → u < p.count → k ≤ visits_before p.start u → slice_get rows u ≡ Some Refused) →
      (u : ℕ) → u < p.count → suc k ≤ visits_before p.start u → slice_get after u ≡ Some Refused
  left_more left u l later =
      slot_other rows v u row (λ e. let same : visits_before p.start u ≡ k = ap (visits_before p.start) (e ∙ at) ∙ before_visited p.start k in omega arith) ∙ left u l (omega arith)

  known_one : (e : List ℕ × Fought) → IsKnown p rules aim method rows k e → IsKnown p rules aim method after (suc k) e
  unfolding fought_stays
  known_one e h = record {
    warrior = h.warrior;
    inside = h.inside;
    before = let b : visits_before p.start e.1.vector < k = h.before in omega arith;
    candidate = h.candidate;
    is_warrior = h.is_warrior;
    fits = h.fits;
    text = h.text;
    fought = fought_stays e.1.vector h.warrior h.fought;
    cap = h.cap;
  }

  pub known_more : (known : List (List ℕ × Fought)) → AllByRecursion (IsKnown p rules aim method rows k) known → AllByRecursion (IsKnown p rules aim method after (suc k)) known
  known_more [] h = tt
  known_more (e ∷ es) h = (known_one e h.0, known_more es h.1)

  pub whole_stays : (lead : Option Best) → IsWhole p rows lead → IsWhole p after lead
  whole_stays None h = tt
  whole_stays (Some lead) h = (h.0, slot_other rows v lead.vector row (other_than lead.vector h.0 h.1) ∙ h.1, h.2)

  pub full_stays : (b : Best) → IsFull p rows b → IsFull p after b
  full_stays b h = (
    h.0,
    h.1,
    slot_other rows v h.0 row (other_than h.0 h.1 h.2) ∙ h.2,
    h.3,
    elim h.4 [
      | inl e ↦ inl e
      | inr s ↦ inr (slot_other rows v b.vector row (λ e. let same : slice_get rows b.vector ≡ Some Refused = ap (slice_get rows) e ∙ blank in absurd (cc)) ∙ s)
    ],
  )

  pub inside_rows : v < length rows
  inside_rows = slice_get_within rows v Refused blank

  was : get_or rows v Refused ≡ Refused
  was = get_or_from_slice_get rows v Refused Refused blank

  -- the sums over the rows
  pub filled_more : (n : ℕ) → n ≡ count_by is_filled rows → is_filled row ≡ true → n + 1 ≡ count_by is_filled after
  filled_more n e filled =
      let more : count_by is_filled after + bit (is_filled (get_or rows v Refused)) ≡ count_by is_filled rows + bit (is_filled row) =
      sum_by-set (λ r. bit (is_filled r)) rows v row Refused inside_rows in
      let old : bit (is_filled (get_or rows v Refused)) ≡ 0 = ap (λ r. bit (is_filled r)) was in
      let new : bit (is_filled row) ≡ 1 = ap bit filled in
      omega arith

  sum_more : listed_fights after ≡ listed_fights rows + listed_in row
  unfolding listed_fights
  sum_more =
      let more : sum_by listed_in after + listed_in (get_or rows v Refused) ≡ sum_by listed_in rows + listed_in row = sum_by-set listed_in rows v row Refused inside_rows in
      let old : listed_in (get_or rows v Refused) ≡ 0 = ap listed_in was in
      omega arith

  pub fights_more : (f : ℕ) (copied : Option ℕ) → f + copied_fights rows copied ≡ listed_fights rows → copied ≢ Some v →
      (f + listed_in row) + copied_fights after copied ≡ listed_fights after
  fights_more f None e other = let more = sum_more in omega (arith, more)
  fights_more f (Some u) e other =
      let same : listed_by (slice_get after u) ≡ listed_by (slice_get rows u) = ap listed_by (slot_other rows v u row (λ same. other (ap Some same))) in
      let more = sum_more in omega (arith, more, same)

  pub fights_copied : (f : ℕ) → f + 0 ≡ listed_fights rows → f + copied_fights after (Some v) ≡ listed_fights after
  fights_copied f e =
      let same : listed_by (slice_get after v) ≡ listed_in row = ap listed_by (slot_same rows v row inside_rows) in
      let more = sum_more in omega (arith, more, same)
