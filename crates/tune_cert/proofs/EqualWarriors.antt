-- Equal warriors, as a test.
use Rattle.std.proofs.Common.{◌≡◌, ℕ, Bool, true, false, List, [], ◌∷◌, Option, Some, None, refl, sym, ◌∙◌, ap}
use Rattle.std.proofs.lemmas.Bool.{and_from, and_parts, eqb-true, eq-eqb}
use Rattle.rc_instr.specs.Instruction.{same_instruction}
use Rattle.rc_instr.specs.Warrior.{WarriorView, warrior_view}
use Rattle.rc_instr.specs.declared.instruction.Instruction.{Instruction}
use Rattle.rc_instr.proofs.Same.{derived, same-true, same_self}
use Rattle.tune_cert.specs.Checks.{same_code, share_warrior}

one_instruction : (i j : Instruction) → same_instruction i j ≡ true → i ≡ j
one_instruction i j e = same-true i j (derived i j ∙ e)

both_first : {A : Type 0} (x y : A) (xs ys : List A) → x ≡ y → xs ≡ ys → x ∷ xs ≡ y ∷ ys
both_first x y xs ys e f = cc

one_code : (code other : List Instruction) → same_code code other ≡ true → code ≡ other
one_code [] [] e = refl
one_code [] (j ∷ other) e = absurd (cc)
one_code (i ∷ code) [] e = absurd (cc)
one_code (i ∷ code) (j ∷ other) e =
    let parts = and_parts _ _ e in
    both_first i j code other (one_instruction i j parts.0) (one_code code other parts.1)

own_code : (code : List Instruction) → same_code code code ≡ true
own_code [] = refl
own_code (i ∷ code) = and_from _ _ (same_self i) (own_code code)

one_warrior : (w x : WarriorView) → w.start ≡ x.start → w.code ≡ x.code → w ≡ x
one_warrior w x s c = ap (λ (n : ℕ). warrior_view w.code n) s ∙ ap (λ (is : List Instruction). warrior_view is x.start) c

pub share_one : (o r : Option WarriorView) → share_warrior o r ≡ true → (w : WarriorView) × (o ≡ Some w) × (r ≡ Some w)
share_one None r e = absurd (cc)
share_one (Some w) None e = absurd (cc)
share_one (Some w) (Some x) e =
    let parts = and_parts _ _ e in
    let same : w ≡ x = one_warrior w x (eqb-true w.start x.start parts.0) (one_code w.code x.code parts.1) in
    (w, refl, ap (λ (y : WarriorView). Some y) (sym same))

pub one_share : (o r : Option WarriorView) (w : WarriorView) → o ≡ Some w → r ≡ Some w → share_warrior o r ≡ true
one_share o r w e f = rw (e, f) (and_from _ _ (eq-eqb w.start w.start refl) (own_code w.code))

no_true : (b : Bool) → (b ≡ true → ⊥) → b ≡ false
no_true true h = absurd (h refl)
no_true false h = refl

-- the test by an answer that says whether two warriors are equal
pub share_test : (o r : Option WarriorView) (w x : WarriorView) (b : Bool) → o ≡ Some w → r ≡ Some x → (b ≡ true → w ≡ x) → (w ≡ x → b ≡ true) → share_warrior o r ≡ b
share_test o r w x true e f joins apart = one_share o r w e (f ∙ ap (λ (y : WarriorView). Some y) (sym (joins refl)))
share_test o r w x false e f joins apart =
    no_true (share_warrior o r) (λ t.
    let one = share_one o r t in
    let own : Some one.0 ≡ Some w = sym one.1 ∙ e in
    let other : Some one.0 ≡ Some x = sym one.2 ∙ f in
    let same : w ≡ x = cc in
    let bad : false ≡ true = apart same in
    absurd (cc))

pub none_shared : (o r : Option WarriorView) → o ≡ None → share_warrior o r ≡ false
none_shared o r e = rw e refl

pub shared_none : (o r : Option WarriorView) → r ≡ None → share_warrior o r ≡ false
shared_none o r e = rw e (without o)
  where
    without : (x : Option WarriorView) → share_warrior x None ≡ false
    without None = refl
    without (Some w) = refl
