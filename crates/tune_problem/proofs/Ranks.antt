-- Rankings: what contends, and what one more setting changes.
use Rattle.std.proofs.Common.{◌≡◌, ◌≢◌, ℕ, zero, suc, ◌-◌, ◌<◌, ◌≤◌, arith, Bool, true, false, ◌&&◌, cond, nat_le, List, [], ◌∷◌, Option, Some, None, length, take, refl, sym, ◌∙◌, ap, ◌⊎◌, inl, inr, subst, ◌++◌, drop, get_or}
use Rattle.std.specs.List.{AllByRecursion, slice_get}
use Rattle.std.proofs.lemmas.Bool.{and_parts}
use Rattle.std.proofs.lemmas.Bool.Decides.{nat_tests}
use Rattle.std.proofs.lemmas.List.{length-take}
use Rattle.rc_instr.specs.Warrior.{WarriorView}
use Rattle.tune_problem.specs.Problem.{Problem}
use Rattle.tune_problem.specs.Optimum.{beats, total_of}
use Rattle.tune_problem.specs.Ranking.{Ahead, In, InOrder, IsAim, IsRanked, IsRanking, beats_lead, contends, first_of, last_kept, next_ranking, ranked, ranking_by, ranking_with}
use Rattle.tune_problem.specs.declared.aim.Aim.{Aim}
use Rattle.tune_problem.specs.declared.watcher.Best.{Best}
use Rattle.tune_problem.proofs.Certificates.{not_beats, some_is}

-- what contends, and what does not
pub either : (a b : Bool) → a && b ≡ false → (a ≡ false) ⊎ (b ≡ false)
either true b h = inr h
either false b h = inl refl

pub not_right : (a b : Bool) → b ≡ false → a && b ≡ false
not_right true b h = h
not_right false b h = refl

pub reaching : (aim : Aim) (c v : ℕ) (ranking : List Best) → contends aim c v ranking ≡ true → aim.floor ≤ c
reaching aim c v ranking h = let reach : nat_le aim.floor c ≡ true = (and_parts _ _ h).0 in grind (arith, nat_tests)

pub contending : (aim : Aim) (c v : ℕ) (ranking : List Best) → aim.floor ≤ c → beats_lead c v (last_kept aim ranking) ≡ true → contends aim c v ranking ≡ true
contending aim c v ranking le h = let reach : nat_le aim.floor c ≡ true = grind (arith, nat_tests) in ap (λ b. b && beats_lead c v (last_kept aim ranking)) reach ∙ h

pub unbeating : (aim : Aim) (c v : ℕ) (ranking : List Best) → beats_lead c v (last_kept aim ranking) ≡ false → contends aim c v ranking ≡ false
unbeating aim c v ranking h = not_right (nat_le aim.floor c) _ h

pub unreaching : (aim : Aim) (c v : ℕ) (ranking : List Best) → c < aim.floor → contends aim c v ranking ≡ false
unreaching aim c v ranking l = let short : nat_le aim.floor c ≡ false = grind (arith, nat_tests) in ap (λ b. b && beats_lead c v (last_kept aim ranking)) short

pub short_of : (aim : Aim) (c v : ℕ) (ranking : List Best) → contends aim c v ranking ≡ false → (c < aim.floor) ⊎ (beats_lead c v (last_kept aim ranking) ≡ false)
short_of aim c v ranking h = elim (either (nat_le aim.floor c) _ h) [ inl short ↦ inl (grind (arith, nat_tests)) | inr n ↦ inr n ]

-- a smaller cap does not contend where a larger one does not, nor does it as a later setting's
pub beaten : (c d u v : ℕ) (lead : Option Best) → c ≤ d → u ≤ v → beats_lead d u lead ≡ false → beats_lead c v lead ≡ false
beaten c d u v None le later h = h
beaten c d u v (Some lead) le later h = grind (arith, nat_tests)

pub smaller : (aim : Aim) (c d u v : ℕ) (ranking : List Best) → c ≤ d → u ≤ v → contends aim d u ranking ≡ false → contends aim c v ranking ≡ false
smaller aim c d u v ranking le later h = elim (short_of aim d u ranking h) [
  | inl short ↦ unreaching aim c v ranking (omega arith)
  | inr n ↦ unbeating aim c v ranking (beaten c d u v (last_kept aim ranking) le later n)
]

-- the order
pub ahead_of : (x y z : Best) → Ahead x y → Ahead y z → Ahead x z
ahead_of x y z a b = grind (arith, nat_tests)

pub not_ahead : (x y : Best) → Ahead x y → beats y.total y.vector x.total x.vector ≡ false
not_ahead x y a = grind (arith, nat_tests)

pub other_ahead : (x y : Best) → beats y.total y.vector x.total x.vector ≡ false → y.vector ≢ x.vector → Ahead x y
other_ahead x y a ne = grind (arith, nat_tests)

-- what does not beat one setting does not beat one that is ahead of it
pub behind_ahead : (c v : ℕ) (y z : Best) → beats c v y.total y.vector ≡ false → Ahead z y → beats c v z.total z.vector ≡ false
behind_ahead c v y z a b = grind (arith, nat_tests)

abbrev pub Apart : Best → Best → Type 0
Apart b x = b.vector ≢ x.vector

pub all_map : {P Q : Best → Type 0} (xs : List Best) → ((x : Best) → P x → Q x) → AllByRecursion P xs → AllByRecursion Q xs
all_map [] f h = tt
all_map (x ∷ xs) f h = (f x h.0, all_map xs f h.1)

pub all_take : (P : Best → Type 0) (n : ℕ) (xs : List Best) → AllByRecursion P xs → AllByRecursion P (take n xs)
all_take P zero xs h = tt
all_take P (suc n) [] h = tt
all_take P (suc n) (x ∷ xs) h = (h.0, all_take P n xs h.1)

pub in_all : (P : Best → Type 0) (b : Best) (xs : List Best) → AllByRecursion P xs → In b xs → P b
in_all P b [] h m = absurd m
in_all P b (x ∷ xs) h (inl e) = subst P (sym e) h.0
in_all P b (x ∷ xs) h (inr m) = in_all P b xs h.1 m

-- a setting in its place
pub all_ranked : (P : Best → Type 0) (b : Best) (xs : List Best) → P b → AllByRecursion P xs → AllByRecursion P (ranked b xs)
unfolding ranked
all_ranked P b [] here h = (here, tt)
all_ranked P b (x ∷ xs) here h = (elim (beats b.total b.vector x.total x.vector) as (λ t. AllByRecursion P (cond t (b ∷ x ∷ xs) (x ∷ ranked b xs))) [
  | true ↦ (here, (h.0, h.1))
  | false ↦ (h.0, all_ranked P b xs here h.1)
])

pub order_ranked : (b : Best) (xs : List Best) → AllByRecursion (Apart b) xs → InOrder xs → InOrder (ranked b xs)
unfolding ranked
order_ranked b [] apart h = (tt, tt)
order_ranked b (x ∷ xs) apart h = (elim (beats b.total b.vector x.total x.vector) as (λ t. beats b.total b.vector x.total x.vector ≡ t → InOrder (cond t (b ∷ x ∷ xs) (x ∷ ranked b xs))) [
  | true ↦ λ t. ((t, all_map xs (λ y a. ahead_of b x y t a) h.0), (h.0, h.1))
  | false ↦ λ t. (all_ranked (Ahead x) b xs (other_ahead x b t apart.0) h.0, order_ranked b xs apart.1 h.1)
]) refl

pub order_take : (n : ℕ) (xs : List Best) → InOrder xs → InOrder (take n xs)
order_take zero xs h = tt
order_take (suc n) [] h = tt
order_take (suc n) (x ∷ xs) h = (all_take (Ahead x) n xs h.0, order_take n xs h.1)

pub in_ranked : (b : Best) (xs : List Best) → In b (ranked b xs)
unfolding ranked
in_ranked b [] = inl refl
in_ranked b (x ∷ xs) = (elim (beats b.total b.vector x.total x.vector) as (λ t. In b (cond t (b ∷ x ∷ xs) (x ∷ ranked b xs))) [
  | true ↦ inl refl
  | false ↦ inr (in_ranked b xs)
])

pub stays_in : (b y : Best) (xs : List Best) → In y xs → In y (ranked b xs)
unfolding ranked
stays_in b y [] m = absurd m
stays_in b y (x ∷ xs) m = (elim (beats b.total b.vector x.total x.vector) as (λ t. In y (cond t (b ∷ x ∷ xs) (x ∷ ranked b xs))) [
  | true ↦ inr m
  | false ↦ elim m [ inl e ↦ inl e | inr n ↦ inr (stays_in b y xs n) ]
])

-- what is in a ranking is among the first n + 1, or does not beat the last of these
pub cut : (n : ℕ) (y : Best) (xs : List Best) → InOrder xs → In y xs → In y (take (suc n) xs) ⊎ ((z : Best) × (slice_get (take (suc n) xs) n ≡ Some z) × (beats y.total y.vector z.total z.vector ≡ false))
cut n y [] h m = absurd m
cut n y (x ∷ xs) h (inl e) = inl (inl e)
cut zero y (x ∷ xs) h (inr m) = inr (x, refl, not_ahead x y (in_all (Ahead x) y xs h.0 m))
cut (suc n) y (x ∷ xs) h (inr m) = elim (cut n y xs h.1 m) [ inl k ↦ inl (inr k) | inr k ↦ inr k ]

-- the one before a place
pub before_place : (m : ℕ) (x y : Best) (xs : List Best) → InOrder (x ∷ xs) → slice_get xs m ≡ Some y → (z : Best) × (slice_get (take (suc m) (x ∷ xs)) m ≡ Some z) × Ahead z y
before_place m x y [] h at = absurd (cc)
before_place zero x y (a ∷ xs) h at = (x, refl, subst (Ahead x) (some_is a y at) h.0.0)
before_place (suc m) x y (a ∷ xs) h at = before_place m a y xs h.1 at

-- the last of the first n + 1 only rises
pub rises : (n c v : ℕ) (b y : Best) (xs : List Best) → InOrder xs → slice_get xs n ≡ Some y → beats c v y.total y.vector ≡ false →
    (z : Best) × (slice_get (take (suc n) (ranked b xs)) n ≡ Some z) × (beats c v z.total z.vector ≡ false)
unfolding ranked
rises n c v b y [] h at out = absurd (cc)
rises zero c v b y (x ∷ xs) h at out = (elim (beats b.total b.vector x.total x.vector) as (λ t. beats b.total b.vector x.total x.vector ≡ t →
    (z : Best) × (slice_get (take 1 (cond t (b ∷ x ∷ xs) (x ∷ ranked b xs))) 0 ≡ Some z) × (beats c v z.total z.vector ≡ false)) [
      | true ↦ λ t. (b, refl, behind_ahead c v x b (subst (λ (q : Best). beats c v q.total q.vector ≡ false) (sym (some_is x y at)) out) t)
      | false ↦ λ t. (x, refl, subst (λ (q : Best). beats c v q.total q.vector ≡ false) (sym (some_is x y at)) out)
    ]) refl
rises (suc n) c v b y (x ∷ xs) h at out = (elim (beats b.total b.vector x.total x.vector) as (λ t.
    (z : Best) × (slice_get (take (suc (suc n)) (cond t (b ∷ x ∷ xs) (x ∷ ranked b xs))) (suc n) ≡ Some z) × (beats c v z.total z.vector ≡ false)) [
      | true ↦ let z = before_place n x y xs h at in (z.0, z.1, behind_ahead c v y z.0 out z.2)
      | false ↦ rises n c v b y xs h.1 at out
    ])

-- cap c of setting v does not beat the lead, or is below the floor if there is none
abbrev pub Beaten : Aim → ℕ → ℕ → Option Best → Type 0
Beaten aim c v None = c < aim.floor
Beaten aim c v (Some lead) = beats c v lead.total lead.vector ≡ false

pub beaten_later : (aim : Aim) (c u v : ℕ) (lead : Option Best) → u < v → Beaten aim c u lead → Beaten aim c v lead
beaten_later aim c u v None less h = h
beaten_later aim c u v (Some lead) less h = grind (arith, nat_tests)

-- the first of a ranking with one more setting is that, which beats the first before, or it stays
pub first_cases : (n : ℕ) (b : Best) (xs : List Best) →
    ((first_of (take (suc n) (ranked b xs)) ≡ Some b) × (beats_lead b.total b.vector (first_of xs) ≡ true)) ⊎ ((first_of (take (suc n) (ranked b xs)) ≡ first_of xs) × (beats_lead b.total b.vector (first_of xs) ≡ false))
unfolding ranked
first_cases n b [] = inl (refl, refl)
first_cases n b (x ∷ xs) = (elim (beats b.total b.vector x.total x.vector) as (λ t. beats b.total b.vector x.total x.vector ≡ t →
    ((first_of (take (suc n) (cond t (b ∷ x ∷ xs) (x ∷ ranked b xs))) ≡ Some b) × (beats b.total b.vector x.total x.vector ≡ true)) ⊎ ((first_of (take (suc n) (cond t (b ∷ x ∷ xs) (x ∷ ranked b xs))) ≡ Some x) × (beats b.total b.vector x.total x.vector ≡ false))) [
      | true ↦ λ t. inl (refl, t)
      | false ↦ λ t. inr (refl, t)
    ]) refl

module _ (aim : Aim) (is_aim : IsAim aim) where
  abbrev last : ℕ
  last = aim.keep - 1

  keep_is : aim.keep ≡ suc last
  keep_is = omega (arith, is_aim.0)

  -- what is not in the running never is again
  pub stays_out : (c u : ℕ) (b : Best) (xs : List Best) → InOrder xs → contends aim c u xs ≡ false → contends aim c u (take aim.keep (ranked b xs)) ≡ false
  stays_out c u b xs order h = elim (either (nat_le aim.floor c) _ h) [
    | inl short ↦ ap (λ q. q && beats_lead c u (last_kept aim (take aim.keep (ranked b xs)))) short
    | inr n ↦ not_right (nat_le aim.floor c) _ (by_last (slice_get xs last) refl n)
  ]
    where
      by_last : (o : Option Best) → slice_get xs last ≡ o → beats_lead c u o ≡ false → beats_lead c u (last_kept aim (take aim.keep (ranked b xs))) ≡ false
      by_last None at n = absurd (cc)
      by_last (Some y) at n =
          let z = rises last c u b y xs order at n in
          ap (beats_lead c u) (ap (λ m. slice_get (take m (ranked b xs)) last) keep_is ∙ z.1) ∙ z.2

  -- what is in a ranking is among the first, or not in the running
  pub from_cut : (y : Best) (xs : List Best) → InOrder xs → In y xs → In y (take aim.keep xs) ⊎ (contends aim y.total y.vector (take aim.keep xs) ≡ false)
  from_cut y xs order m = elim (cut last y xs order m) [
    | inl k ↦ inl (subst (λ (n : ℕ). In y (take n xs)) (sym keep_is) k)
    | inr k ↦ inr (not_right (nat_le aim.floor y.total) _ (ap (beats_lead y.total y.vector) (ap (λ m. slice_get (take m xs) last) keep_is ∙ k.1) ∙ k.2))
  ]

  pub first_next : (b : Best) (xs : List Best) →
      ((first_of (take aim.keep (ranked b xs)) ≡ Some b) × (beats_lead b.total b.vector (first_of xs) ≡ true)) ⊎ ((first_of (take aim.keep (ranked b xs)) ≡ first_of xs) × (beats_lead b.total b.vector (first_of xs) ≡ false))
  first_next b xs = subst (λ (n : ℕ).
      ((first_of (take n (ranked b xs)) ≡ Some b) × (beats_lead b.total b.vector (first_of xs) ≡ true)) ⊎ ((first_of (take n (ranked b xs)) ≡ first_of xs) × (beats_lead b.total b.vector (first_of xs) ≡ false)))
      (sym keep_is) (first_cases last b xs)

  -- a cap that is the total, if it contends, leaves the ranking as the total does
  pub same_next : (c t v : ℕ) (xs : List Best) → t ≤ c → (contends aim c v xs ≡ true → c ≡ t) → next_ranking aim c v xs ≡ next_ranking aim t v xs
  same_next c t v xs le even = by_run (contends aim c v xs) refl
    where
      by_run : (run : Bool) → contends aim c v xs ≡ run → next_ranking aim c v xs ≡ next_ranking aim t v xs
      by_run true e = ap (λ n. next_ranking aim n v xs) (even e)
      by_run false e = ap (ranking_by aim c v xs) e ∙ sym (ap (ranking_by aim t v xs) (smaller aim t c v v xs le (omega arith) e))

  -- against the first of a ranking
  pub at_place : (n : ℕ) (y : Best) (xs : List Best) → slice_get xs n ≡ Some y → In y xs
  at_place n y [] e = absurd (cc)
  at_place zero y (x ∷ xs) e = inl (sym (some_is x y e))
  at_place (suc n) y (x ∷ xs) e = inr (at_place n y xs e)

  pub behind_first : (c v : ℕ) (xs : List Best) → InOrder xs → AllByRecursion (λ (x : Best). aim.floor ≤ x.total) xs → contends aim c v xs ≡ false → Beaten aim c v (first_of xs)
  behind_first c v [] order members h = elim (short_of aim c v [] h) [ inl short ↦ short | inr n ↦ absurd (cc) ]
  behind_first c v (x ∷ xs) order members h = elim (short_of aim c v (x ∷ xs) h) [
    | inl short ↦ not_beats c v x.total x.vector (record { no_more = omega (arith, short, members.0); later = λ e. absurd (omega (arith, e, short, members.0)) })
    | inr n ↦ by_last (slice_get (x ∷ xs) last) refl n
  ]
    where
      by_last : (o : Option Best) → slice_get (x ∷ xs) last ≡ o → beats_lead c v o ≡ false → beats c v x.total x.vector ≡ false
      by_last None at n = absurd (cc)
      by_last (Some y) at n = elim (at_place last y (x ∷ xs) at) [
        | inl e ↦ subst (λ (q : Best). beats c v q.total q.vector ≡ false) e n
        | inr m ↦ behind_ahead c v y x n (in_all (Ahead x) y xs order.0 m)
      ]

  -- what beats the first beats the last that is kept
  pub beats_last : (c v : ℕ) (x : Best) (xs : List Best) → InOrder (x ∷ xs) → beats c v x.total x.vector ≡ true → beats_lead c v (last_kept aim (x ∷ xs)) ≡ true
  beats_last c v x xs order beat = by_last (slice_get (x ∷ xs) last) refl
    where
      by_last : (o : Option Best) → slice_get (x ∷ xs) last ≡ o → beats_lead c v (slice_get (x ∷ xs) last) ≡ true
      by_last None at = ap (beats_lead c v) at
      by_last (Some y) at = ap (beats_lead c v) at ∙ elim (at_place last y (x ∷ xs) at) [
        | inl e ↦ subst (λ (q : Best). beats c v q.total q.vector ≡ true) (sym e) beat
        | inr m ↦ ahead_of (record { total = c; vector = v }) x y beat (in_all (Ahead x) y xs order.0 m)
      ]

  pub in_behind : (y : Best) (xs : List Best) → InOrder xs → In y xs → Beaten aim y.total y.vector (first_of xs)
  in_behind y [] order m = absurd m
  in_behind y (x ∷ xs) order (inl e) = subst (λ (q : Best). beats y.total y.vector q.total q.vector ≡ false) e (not_beats y.total y.vector y.total y.vector (record { no_more = omega arith; later = λ f. omega arith }))
  in_behind y (x ∷ xs) order (inr m) = not_ahead x y (in_all (Ahead x) y xs order.0 m)

-- a ranking with one more setting, v, which is not among those before
module _ (p : Problem) (aim : Aim) (is_aim : IsAim aim) (among later : ℕ → Type 0) (v : ℕ) (inside : v < p.count) (now : later v)
    (grows : (u : ℕ) → among u → later u) (splits : (u : ℕ) → later u → among u ⊎ (u ≡ v)) (fresh : (u : ℕ) → among u → v ≢ u)
    (xs : List Best) (h : IsRanking p aim among xs) where
  more : (x : Best) → IsRanked p aim among x → IsRanked p aim later x
  more x r = record {
    warrior = r.warrior;
    inside = r.inside;
    is_among = grows x.vector r.is_among;
    candidate = r.candidate;
    scores = r.scores;
    reaches = r.reaches;
  }

  members_more : AllByRecursion (IsRanked p aim later) xs
  members_more = all_map xs more h.members

  refused : p.warrior v ≡ None → IsRanking p aim later xs
  refused none = record {
    few = h.few;
    members = members_more;
    order = h.order;
    others = λ u x l among_u is_u. elim (splits u among_u) [
      | inl b ↦ h.others u x l b is_u
      | inr e ↦ let no_warrior : p.warrior u ≡ None = ap p.warrior e ∙ none in absurd (cc)
    ];
  }

  module _ (w : WarriorView) (is : p.warrior v ≡ Some w) where
    abbrev it : Best
    it = record { total = total_of p w; vector = v }

    abbrev of : ℕ → WarriorView → Best
    of u x = record { total = total_of p x; vector = u }

    same : (u : ℕ) (x : WarriorView) → u ≡ v → p.warrior u ≡ Some x → it ≡ of u x
    same u x e is_u =
        let one : w ≡ x = some_is w x (sym is ∙ ap p.warrior (sym e) ∙ is_u) in
        λ i. record { total = total_of p (one i); vector = sym e i }

    not_running : contends aim (total_of p w) v xs ≡ false → IsRanking p aim later xs
    not_running out = record {
      few = h.few;
      members = members_more;
      order = h.order;
      others = λ u x l among_u is_u. elim (splits u among_u) [
        | inl b ↦ h.others u x l b is_u
        | inr e ↦ inr (subst (λ (y : Best). contends aim y.total y.vector xs ≡ false) (same u x e is_u) out)
      ];
    }

    apart : AllByRecursion (Apart it) xs
    apart = all_map xs (λ x r. fresh x.vector r.is_among) h.members

    order_all : InOrder (ranked it xs)
    order_all = order_ranked it xs apart h.order

    running : contends aim (total_of p w) v xs ≡ true → IsRanking p aim later (take aim.keep (ranked it xs))
    running run = record {
      few = omega (arith, length-take aim.keep (ranked it xs));
      members = all_take (IsRanked p aim later) aim.keep (ranked it xs) (all_ranked (IsRanked p aim later) it xs (record {
        warrior = w;
        inside = inside;
        is_among = now;
        candidate = is;
        scores = refl;
        reaches = reaching aim (total_of p w) v xs run;
      }) members_more);
      order = order_take aim.keep (ranked it xs) order_all;
      others = λ u x l among_u is_u. elim (splits u among_u) [
        | inl b ↦ elim (h.others u x l b is_u) [
          | inl m ↦ from_cut aim is_aim (of u x) (ranked it xs) order_all (stays_in it (of u x) xs m)
          | inr out ↦ inr (stays_out aim is_aim (total_of p x) u it xs h.order out)
        ]
        | inr e ↦ from_cut aim is_aim (of u x) (ranked it xs) order_all (subst (λ (y : Best). In y (ranked it xs)) (same u x e is_u) (in_ranked it xs))
      ];
    }

    by_run : (r : Bool) → contends aim (total_of p w) v xs ≡ r → IsRanking p aim later (ranking_by aim (total_of p w) v xs r)
    by_run true run = running run
    by_run false out = not_running out

  pub ranking_more : (o : Option WarriorView) → p.warrior v ≡ o → IsRanking p aim later (ranking_with p aim v o xs)
  ranking_more None none = refused none
  ranking_more (Some w) is = by_run w is (contends aim (total_of p w) v xs) refl

-- the place of a setting, by the settings up to it
pub here_at : (b : Best) (n : ℕ) (xs : List Best) (d : Best) → n < length xs → beats b.total b.vector (get_or xs n d).total (get_or xs n d).vector ≡ true → ranked b (drop n xs) ≡ b ∷ drop n xs
unfolding ranked
here_at b n [] d l t = absurd (omega arith)
here_at b zero (x ∷ xs) d l t = ap (λ r. cond r (b ∷ x ∷ xs) (x ∷ ranked b xs)) t
here_at b (suc n) (x ∷ xs) d l t = here_at b n xs d (omega arith) t

pub next_at : (b : Best) (n : ℕ) (xs : List Best) (d : Best) → n < length xs → beats b.total b.vector (get_or xs n d).total (get_or xs n d).vector ≡ false →
    take n xs ++ ranked b (drop n xs) ≡ take (suc n) xs ++ ranked b (drop (suc n) xs)
unfolding ranked
next_at b n [] d l t = absurd (omega arith)
next_at b zero (x ∷ xs) d l t = ap (λ r. cond r (b ∷ x ∷ xs) (x ∷ ranked b xs)) t
next_at b (suc n) (x ∷ xs) d l t = ap (λ ys. x ∷ ys) (next_at b n xs d (omega arith) t)

pub none_at : (b : Best) (n : ℕ) (xs : List Best) → length xs ≤ n → ranked b (drop n xs) ≡ b ∷ drop n xs
unfolding ranked
none_at b zero [] l = refl
none_at b (suc n) [] l = refl
none_at b zero (x ∷ xs) l = absurd (omega arith)
none_at b (suc n) (x ∷ xs) l = none_at b n xs (omega arith)
