-- Some settings have one ranking.
use Rattle.std.proofs.Common.{◌≡◌, ℕ, zero, suc, ◌-◌, ◌≤◌, arith, true, false, List, [], ◌∷◌, Option, Some, None, length, refl, sym, ◌∙◌, ◌⊎◌, inl, inr, subst}
use Rattle.std.specs.List.{AllByRecursion, slice_get}
use Rattle.tune_problem.specs.Problem.{Problem}
use Rattle.tune_problem.specs.Optimum.{beats}
use Rattle.tune_problem.specs.Ranking.{Ahead, In, InOrder, IsAim, IsRanked, IsRanking, beats_lead, contends}
use Rattle.tune_problem.specs.declared.aim.Aim.{Aim}
use Rattle.tune_problem.specs.declared.watcher.Best.{Best}
use Rattle.tune_problem.proofs.Certificates.{Trails, not_beats, some_is, trails}
use Rattle.tune_problem.proofs.Ranks.{all_map, behind_ahead, in_all, short_of}

-- ---- two settings

itself : (x : Best) → beats x.total x.vector x.total x.vector ≡ false
itself x = not_beats x.total x.vector x.total x.vector (record { no_more = omega arith; later = λ e. omega arith })

-- two of which neither beats the other are one
neither : (x y : Best) → beats x.total x.vector y.total y.vector ≡ false → beats y.total y.vector x.total x.vector ≡ false → x ≡ y
neither x y a b =
    let there : Trails x.total x.vector y.total y.vector = trails x.total x.vector y.total y.vector a in
    let back : Trails y.total y.vector x.total x.vector = trails y.total y.vector x.total x.vector b in
    let even : x.total ≡ y.total = omega (arith, there.no_more, back.no_more) in
    let same : x.vector ≡ y.vector = omega (arith, there.later even, back.later (sym even)) in
    λ i. record { total = even i; vector = same i }

-- ---- a setting and a ranking

-- setting x is in a list, or does not beat the setting at place n of it
abbrev Placed : ℕ → List Best → Best → Type 0
Placed n ys x = In x ys ⊎ ((z : Best) × (slice_get ys n ≡ Some z) × (beats x.total x.vector z.total z.vector ≡ false))

nowhere : (n : ℕ) (x : Best) → Placed n [] x → ⊥
nowhere n x (inl m) = absurd m
nowhere n x (inr z) = let at = z.1 in absurd (cc)

in_place : (n : ℕ) (z : Best) (ys : List Best) → slice_get ys n ≡ Some z → In z ys
in_place n z [] e = absurd (cc)
in_place zero z (y ∷ ys) e = inl (sym (some_is y z e))
in_place (suc n) z (y ∷ ys) e = inr (in_place n z ys e)

-- what is in a list does not beat the first, nor does what does not beat one of the list
no_better : (c v : ℕ) (y z : Best) (ys : List Best) → InOrder (y ∷ ys) → In z (y ∷ ys) → beats c v z.total z.vector ≡ false → beats c v y.total y.vector ≡ false
no_better c v y z ys order (inl e) out = subst (λ (q : Best). beats c v q.total q.vector ≡ false) e out
no_better c v y z ys order (inr m) out = behind_ahead c v z y out (in_all (Ahead y) z ys order.0 m)

after_first : (n : ℕ) (x y : Best) (ys : List Best) → InOrder (y ∷ ys) → Placed n (y ∷ ys) x → beats x.total x.vector y.total y.vector ≡ false
after_first n x y ys order (inl m) = no_better x.total x.vector y x ys order m (itself x)
after_first n x y ys order (inr z) = no_better x.total x.vector y z.0 ys order (in_place n z.0 (y ∷ ys) z.1) z.2

-- without the first
rest : (n : ℕ) (x y : Best) (ys : List Best) → Ahead y x → Placed (suc n) (y ∷ ys) x → Placed n ys x
rest n x y ys ahead (inl (inl e)) =
    let no : beats y.total y.vector y.total y.vector ≡ false = itself y in
    let yes : beats y.total y.vector y.total y.vector ≡ true = subst (λ (q : Best). Ahead y q) e ahead in
    absurd (cc)
rest n x y ys ahead (inl (inr m)) = inl m
rest n x y ys ahead (inr z) = inr z

all_rest : (n : ℕ) (y : Best) (ys xs : List Best) → AllByRecursion (Ahead y) xs → AllByRecursion (Placed (suc n) (y ∷ ys)) xs → AllByRecursion (Placed n ys) xs
all_rest n y ys [] ahead h = tt
all_rest n y ys (x ∷ xs) ahead h = (rest n x y ys ahead.0 h.0, all_rest n y ys xs ahead.1 h.1)

-- ---- two rankings

none_left : (xs : List Best) → length xs ≤ 0 → xs ≡ []
none_left [] l = refl
none_left (x ∷ xs) l = absurd (omega arith)

one_list : (n : ℕ) (xs ys : List Best) → length xs ≤ suc n → length ys ≤ suc n → InOrder xs → InOrder ys
    → AllByRecursion (Placed n ys) xs → AllByRecursion (Placed n xs) ys → xs ≡ ys
one_list n [] [] few less order other h k = refl
one_list n [] (y ∷ ys) few less order other h k = absurd (nowhere n y k.0)
one_list n (x ∷ xs) [] few less order other h k = absurd (nowhere n x h.0)
one_list zero (x ∷ xs) (y ∷ ys) few less order other h k =
    let same : x ≡ y = neither x y (after_first zero x y ys other h.0) (after_first zero y x xs order k.0) in
    let more : xs ≡ ys = none_left xs (omega arith) ∙ sym (none_left ys (omega arith)) in
    λ i. same i ∷ more i
one_list (suc n) (x ∷ xs) (y ∷ ys) few less order other h k =
    let same : x ≡ y = neither x y (after_first (suc n) x y ys other h.0) (after_first (suc n) y x xs order k.0) in
    let there : AllByRecursion (Placed n ys) xs = all_rest n x ys xs order.0 (subst (λ (q : Best). AllByRecursion (Placed (suc n) (q ∷ ys)) xs) (sym same) h.1) in
    let back : AllByRecursion (Placed n xs) ys = all_rest n y xs ys other.0 (subst (λ (q : Best). AllByRecursion (Placed (suc n) (q ∷ xs)) ys) same k.1) in
    let more : xs ≡ ys = one_list n xs ys (omega arith) (omega arith) order.1 other.1 there back in
    λ i. same i ∷ more i

module _ (p : Problem) (aim : Aim) (is_aim : IsAim aim) (among : ℕ → Type 0) where
  abbrev last : ℕ
  last = aim.keep - 1

  -- one that does not contend does not beat the last that is kept
  by_last : (c v : ℕ) (ys : List Best) (o : Option Best) → slice_get ys last ≡ o → beats_lead c v o ≡ false
      → (z : Best) × (slice_get ys last ≡ Some z) × (beats c v z.total z.vector ≡ false)
  by_last c v ys None at out = absurd (cc)
  by_last c v ys (Some z) at out = (z, at, out)

  placed : (x : Best) (ys : List Best) → IsRanked p aim among x → IsRanking p aim among ys → Placed last ys x
  placed x ys m h =
      let here : In x ys ⊎ (contends aim x.total x.vector ys ≡ false) =
      subst (λ (n : ℕ). In (record { total = n; vector = x.vector }) ys ⊎ (contends aim n x.vector ys ≡ false)) m.scores (h.others x.vector m.warrior m.inside m.is_among m.candidate) in
      elim here [
        | inl inside ↦ inl inside
        | inr out ↦ elim (short_of aim x.total x.vector ys out) [
          | inl short ↦ absurd (omega (arith, short, m.reaches))
          | inr behind ↦ inr (by_last x.total x.vector ys (slice_get ys last) refl behind)
        ]
      ]

  pub one_ranking : (xs ys : List Best) → IsRanking p aim among xs → IsRanking p aim among ys → xs ≡ ys
  one_ranking xs ys h k =
      one_list last xs ys (omega (arith, h.few, is_aim.0)) (omega (arith, k.few, is_aim.0)) h.order k.order
      (all_map xs (λ x m. placed x ys m k) h.members) (all_map ys (λ y m. placed y xs m h) k.members)
