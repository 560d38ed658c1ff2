-- The least number at which a test holds.
use Rattle.std.proofs.Common.{◌≡◌, ℕ, zero, suc, ◌<◌, ◌≤◌, ◌*◌, arith, Bool, true, false, refl, sym, ◌∙◌, subst, ◌⊎◌, inl, inr}
use Rattle.std.proofs.lemmas.Bool.Decides.{nat_tests, leb_tells}
use Rattle.mars_core.specs.Fight.{least, is_over, turns_of}
use Rattle.mars_core.specs.State.{State, play_of}
use Rattle.mars_core.specs.declared.side.Side.{Side}

pub split : (k n : ℕ) → k ≤ suc n → (k ≤ n) ⊎ (k ≡ suc n)
split k n h = elim (leb_tells k n) [ inl p ↦ inl p.1 | inr p ↦ inr (omega arith) ]

-- the step up from n to n + 1, by what `least` gives below n
found : (test : ℕ → Bool) (n k : ℕ) → least test n ≡ k → k < n → least test (suc n) ≡ k
found test n k e h = rw e (grind (arith, nat_tests))

here_is : (test : ℕ → Bool) (n : ℕ) → least test n ≡ n → test n ≡ true → least test (suc n) ≡ n
here_is test n e h = rw (e, h) (grind (arith, nat_tests))

none_yet : (test : ℕ → Bool) (n : ℕ) → least test n ≡ n → test n ≡ false → least test (suc n) ≡ suc n
none_yet test n e h = rw (e, h) (grind (arith, nat_tests))

-- what is least is the one number below which the test never holds, and at which it holds
pub least_is : (test : ℕ → Bool) (n k : ℕ) → k ≤ n → ((j : ℕ) → j < k → test j ≡ false) → (k < n → test k ≡ true) → least test n ≡ k
least_is test zero k le below here = omega arith
least_is test (suc n) k le below here =
    elim (split k n le) [
      | inl p ↦
          let e : least test n ≡ k = least_is test n k p below (λ l. here (omega arith)) in
          elim (split (suc k) n (omega arith)) [
            | inl q ↦ found test n k e (omega arith)
            | inr q ↦ let s : k ≡ n = omega arith in
                subst (λ (x : ℕ). least test (suc n) ≡ x) (sym s) (here_is test n (e ∙ s) (subst (λ (x : ℕ). test x ≡ true) s (here (omega arith))))
          ]
      | inr p ↦
          let e : least test n ≡ n = least_is test n n (omega arith) (λ j l. below j (omega arith)) (λ l. absurd (omega arith)) in
          none_yet test n e (below n (omega arith)) ∙ sym p
    ]

-- a fight that went on for k turns, and is over then or has no more, takes k turns
pub turns_are : (limit : ℕ) (start : State) (first : Side) (cycles k : ℕ) → k ≤ 2 * cycles → ((j : ℕ) → j < k → is_over (play_of limit start first j) ≡ false)
    → (k < 2 * cycles → is_over (play_of limit start first k) ≡ true) → turns_of limit start first cycles ≡ k
unfolding turns_of
turns_are limit start first cycles k le below here = least_is (λ j. is_over (play_of limit start first j)) (2 * cycles) k le below here

-- what the least is: at most n, not before it, and there unless it is n
pub record IsLeast (test : ℕ → Bool) (n k : ℕ) : Type 0 where
  pub within : k ≤ n
  pub before : (j : ℕ) → j < k → test j ≡ false
  pub here : k < n → test k ≡ true

-- the test did not hold below n
least_last : (test : ℕ → Bool) (n : ℕ) (b : Bool) → least test n ≡ n → test n ≡ b → ((j : ℕ) → j < n → test j ≡ false) → IsLeast test (suc n) (least test (suc n))
least_last test n true e t before =
    subst (λ (x : ℕ). IsLeast test (suc n) x) (sym (here_is test n e t)) (record { within = omega arith; before = before; here = λ l. t })
least_last test n false e t before =
    subst (λ (x : ℕ). IsLeast test (suc n) x) (sym (none_yet test n e t)) (record {
      within = omega arith;
      before = λ j l. elim (split (suc j) n (omega arith)) [
        | inl p ↦ before j (omega arith)
        | inr q ↦ let s : j ≡ n = omega arith in subst (λ (x : ℕ). test x ≡ false) (sym s) t
      ];
      here = λ l. absurd (omega arith);
    })

-- one step up
least_step : (test : ℕ → Bool) (n k : ℕ) (b : Bool) → least test n ≡ k → test n ≡ b → IsLeast test n k → IsLeast test (suc n) (least test (suc n))
least_step test n k b e t h =
    elim (split (suc k) n (omega (arith, h.within))) [
      | inl p ↦
          let f : least test (suc n) ≡ k = found test n k e (omega arith) in
          subst (λ (x : ℕ). IsLeast test (suc n) x) (sym f) (record { within = omega (arith, h.within); before = h.before; here = λ l. h.here (omega arith) })
      | inr q ↦ least_last test n b (e ∙ omega arith) t (λ j l. h.before j (omega arith))
    ]

pub least_is_least : (test : ℕ → Bool) (n : ℕ) → IsLeast test n (least test n)
least_is_least test zero = record { within = omega arith; before = λ j l. absurd (omega arith); here = λ l. absurd (omega arith) }
least_is_least test (suc n) = least_step test n (least test n) (test n) refl refl (least_is_least test n)
