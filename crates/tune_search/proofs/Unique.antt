-- There is one list of recent settings.
use Rattle.std.proofs.Common.{◌≡◌, ◌≢◌, ℕ, zero, suc, List, [], ◌∷◌, ◌++◌, Option, Some, None, take, refl, sym, ◌∙◌, ap, inl, inr, subst}
use Rattle.rc_instr.specs.Warrior.{WarriorView}
use Rattle.tune_problem.specs.Problem.{Problem}
use Rattle.tune_search.specs.Visits.{setting_visited}
use Rattle.tune_search.specs.Recent.{ChangesRecent, IsRecent, NoneHas}

module _ (p : Problem) where
  -- no two have one warrior
  abbrev pub Apart : List ℕ → Type 0
  Apart [] = Unit {0}
  Apart (u ∷ us) = ((w : WarriorView) → p.warrior u ≡ Some w → NoneHas p w us) × Apart us

  without : (w : WarriorView) (u : ℕ) (f b : List ℕ) → NoneHas p w (f ++ u ∷ b) → NoneHas p w (f ++ b)
  without w u [] b h = h.1
  without w u (x ∷ f) b h = (h.0, without w u f b h.1)

  pub none_of : (w : WarriorView) (u : ℕ) (f b : List ℕ) → NoneHas p w (f ++ u ∷ b) → p.warrior u ≢ Some w
  none_of w u [] b h = h.0
  none_of w u (x ∷ f) b h = none_of w u f b h.1

  moved : (w : WarriorView) (u : ℕ) (f b : List ℕ) → p.warrior u ≡ Some w → Apart (f ++ u ∷ b) → NoneHas p w (f ++ b) × Apart (f ++ b)
  moved w u [] b is h = (h.0 w is, h.1)
  moved w u (x ∷ f) b is h =
      let on = moved w u f b is h.1 in
      ((λ e. none_of w u f b (h.0 w e) is, on.0), (λ y e. without y u f b (h.0 y e), on.1))

  none_take : (w : WarriorView) (n : ℕ) (us : List ℕ) → NoneHas p w us → NoneHas p w (take n us)
  none_take w zero us h = tt
  none_take w (suc n) [] h = tt
  none_take w (suc n) (u ∷ us) h = (h.0, none_take w n us h.1)

  apart_take : (n : ℕ) (us : List ℕ) → Apart us → Apart (take n us)
  apart_take zero us h = tt
  apart_take (suc n) [] h = tt
  apart_take (suc n) (u ∷ us) h = (λ w e. none_take w n us (h.0 w e), apart_take n us h.1)

  one_warrior : (u : ℕ) (w y : WarriorView) → p.warrior u ≡ Some w → p.warrior u ≡ Some y → w ≡ y
  one_warrior u w y a b = let e : Some w ≡ Some y = sym a ∙ b in cc

  apart_touched : (c v : ℕ) (o : Option WarriorView) (old new : List ℕ) → p.warrior v ≡ o → Apart old → ChangesRecent p c v o old new → Apart new
  apart_touched c v None old new is h t = subst Apart (sym t) h
  apart_touched c v (Some w) old new is h t = elim t [
    | inl m ↦
        let all : Apart (m.1.front ++ m.0 ∷ m.1.back) = subst Apart m.1.split h in
        let on = moved w m.0 m.1.front m.1.back m.1.alike all in
        subst Apart (sym m.2) (λ y e. subst (λ (x : WarriorView). NoneHas p x (m.1.front ++ m.1.back)) (one_warrior m.0 w y m.1.alike e) on.0, on.1)
    | inr n ↦
        subst Apart (sym n.1) (apart_take c (v ∷ old) (λ y e. subst (λ (x : WarriorView). NoneHas p x old) (one_warrior v w y is e) n.0, h))
  ]

  pub apart_recent : (c k : ℕ) (us : List ℕ) → IsRecent p c k us → Apart us
  apart_recent c zero us h = subst Apart (sym h) tt
  apart_recent c (suc k) us h = apart_touched c (setting_visited p.start k) (p.warrior (setting_visited p.start k)) h.0 us refl (apart_recent c k h.0 h.1) h.2

  pub split_one : (w : WarriorView) (u v : ℕ) (b d : List ℕ) (f g : List ℕ) → p.warrior u ≡ Some w → p.warrior v ≡ Some w → Apart (f ++ u ∷ b) → f ++ u ∷ b ≡ g ++ v ∷ d →
      (u ≡ v) × (f ++ b ≡ g ++ d)
  split_one w u v b d [] [] iu iv h e = let same : u ≡ v = cc in let rest : b ≡ d = cc in (same, rest)
  split_one w u v b d [] (y ∷ g) iu iv h e =
      let rest : b ≡ g ++ v ∷ d = cc in
      absurd (none_of w v g d (subst (NoneHas p w) rest (h.0 w iu)) iv)
  split_one w u v b d (x ∷ f) [] iu iv h e =
      let same : x ≡ v = cc in
      absurd (none_of w u f b (h.0 w (ap p.warrior same ∙ iv)) iu)
  split_one w u v b d (x ∷ f) (y ∷ g) iu iv h e =
      let same : x ≡ y = cc in
      let rest : f ++ u ∷ b ≡ g ++ v ∷ d = cc in
      let on = split_one w u v b d f g iu iv h.1 rest in
      (on.0, λ i. same i ∷ on.1 i)

  touched_one : (c v : ℕ) (o : Option WarriorView) (old us vs : List ℕ) → Apart old → ChangesRecent p c v o old us → ChangesRecent p c v o old vs → us ≡ vs
  touched_one c v None old us vs h a b = a ∙ sym b
  touched_one c v (Some w) old us vs h a b = elim a [
    | inl m ↦ elim b [
      | inl n ↦
          let s = split_one w m.0 n.0 m.1.back n.1.back m.1.front n.1.front m.1.alike n.1.alike (subst Apart m.1.split h) (sym m.1.split ∙ n.1.split) in
          m.2 ∙ (λ i. s.0 i ∷ s.1 i) ∙ sym n.2
      | inr n ↦ absurd (none_of w m.0 m.1.front m.1.back (subst (NoneHas p w) m.1.split n.0) m.1.alike)
    ]
    | inr m ↦ elim b [
      | inl n ↦ absurd (none_of w n.0 n.1.front n.1.back (subst (NoneHas p w) n.1.split m.0) n.1.alike)
      | inr n ↦ m.1 ∙ sym n.1
    ]
  ]

  pub recent_one : (c k : ℕ) (us vs : List ℕ) → IsRecent p c k us → IsRecent p c k vs → us ≡ vs
  recent_one c zero us vs a b = a ∙ sym b
  recent_one c (suc k) us vs a b =
      let v = setting_visited p.start k in
      let same : a.0 ≡ b.0 = recent_one c k a.0 b.0 a.1 b.1 in
      touched_one c v (p.warrior v) b.0 us vs (apart_recent c k b.0 b.1) (subst (λ (l : List ℕ). ChangesRecent p c v (p.warrior v) l us) same a.2) b.2
