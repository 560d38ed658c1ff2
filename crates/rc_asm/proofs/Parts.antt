-- The parts between commas.
use Rattle.std.proofs.Common.{◌≡◌, ℕ, suc, ◌+◌, ◌-◌, ◌<◌, Bool, true, false, List, [], ◌∷◌, Option, Some, None, length, take, drop, refl, sym, ◌∙◌, ap, subst, cond, arith, ⊎_elim}
use Rattle.std.specs.Prelude.{IfSome, IfNone, position}
use Rattle.std.specs.List.{position_from}
use Rattle.std.proofs.lemmas.Iterator.Adapters.{position_from-zero}
use Rattle.std.proofs.lemmas.Slice.{between_to_end}
use Rattle.std.proofs.lemmas.Bool.{cases_Bool}
use Rattle.rc_text.specs.declared.token.Token.{Token}
use Rattle.rc_expand.specs.Read.Lines.{into_first}
use Rattle.rc_asm.specs.Words.{is_comma}
use Rattle.rc_instr.specs.declared.instruction.Opcode.{Opcode}
use Rattle.std.specs.Prelude.{Err}
use Rattle.rc_asm.specs.declared.fault.AsmKind.TheVariants.{ExtraText}
use Rattle.rc_asm.specs.Form.{parts_from, parts, operands_of}

-- the parts up to the first comma, if there is one; `i` tokens come before `ts`
abbrev CommaAt : List Token → ℕ → Option ℕ → Type 0
CommaAt ts i None = parts_from ts ≡ ts ∷ []
CommaAt ts i (Some at) = (n : ℕ) × (n + i ≡ at) × (n < length ts) × (parts_from ts ≡ take n ts ∷ parts_from (drop (suc n) ts))

comma_at : (ts : List Token) (i : ℕ) → CommaAt ts i (position_from is_comma i ts)
comma_at [] i = refl
comma_at (t ∷ ts) i = by_comma (is_comma t) refl (comma_at ts (i + 1)) where
  later : (o : Option ℕ) → is_comma t ≡ false → CommaAt ts (i + 1) o → CommaAt (t ∷ ts) i o
  later None e h = rw e (ap (into_first t) h)
  later (Some at) e h = (suc h.0, omega (arith, h.1), omega (arith, h.2), rw e (ap (into_first t) h.3))

  by_comma : (b : Bool) → is_comma t ≡ b → CommaAt ts (i + 1) (position_from is_comma (i + 1) ts) → CommaAt (t ∷ ts) i (cond b (Some i) (position_from is_comma (i + 1) ts))
  by_comma true e h = (0, omega arith, omega arith, rw e refl)
  by_comma false e h = later (position_from is_comma (i + 1) ts) e h

first_at : (ts : List Token) (o : Option ℕ) → o ≡ position is_comma ts → CommaAt ts 0 o
first_at ts o e = subst (CommaAt ts 0) (sym (e ∙ position_from-zero is_comma ts)) (comma_at ts 0)

pub no_comma_found : (ts : List Token) (o : Option ℕ) → o ≡ position is_comma ts → IfNone o (parts_from ts ≡ ts ∷ [])
no_comma_found ts None e = first_at ts None e
no_comma_found ts (Some at) e = tt

pub comma_found : (ts : List Token) (o : Option ℕ) → o ≡ position is_comma ts → IfSome o (λ at. (at < length ts) × (parts_from ts ≡ take at ts ∷ parts_from (drop (at + 1) ts)))
comma_found ts None e = tt
comma_found ts (Some at) e =
    let h = first_at ts (Some at) e in
    let n : h.0 ≡ at = omega (arith, h.1) in
    let m : suc h.0 ≡ at + 1 = omega (arith, h.1) in
    (omega (arith, h.2, n), h.3 ∙ (ap (λ k. take k ts ∷ parts_from (drop (suc h.0) ts)) n ∙ ap (λ k. take at ts ∷ parts_from (drop k ts)) m))

into_some : (t : Token) (ps : List (List Token)) → into_first t ps ≡ [] → ⊥
into_some t [] h = cc
into_some t (p ∷ ps) h = cc

parts_some : (ts : List Token) → parts_from ts ≡ [] → ⊥
parts_some [] h = cc
parts_some (t ∷ ts) h = ⊎_elim (λ e. let k = rw e at h in cc) (λ e. into_some t (parts_from ts) (rw e at h)) (cases_Bool (is_comma t))

too_many : (o : Opcode) (p q : List Token) (ps : List (List Token)) → (ps ≡ [] → ⊥) → Err ExtraText ≡ operands_of o (p ∷ q ∷ ps)
too_many o p q [] h = absurd (h refl)
too_many o p q (r ∷ ps) h = refl

parts_of_some : (ts : List Token) → 0 < length ts → parts ts ≡ parts_from ts
unfolding parts
parts_of_some [] h = absurd (omega (arith, h))
parts_of_some (t ∷ ts) h = refl

-- the tokens after an index, as a slice has them
abbrev pub after_place : List Token → ℕ → List Token
after_place ts at = take (length ts - (at + 1)) (drop (at + 1) ts)

-- two commas are too many
pub two_commas : (o : Opcode) (ts : List Token) (at k : ℕ) → 0 < length ts → at < length ts → parts_from ts ≡ take at ts ∷ parts_from (drop (at + 1) ts)
    → parts_from (after_place ts at) ≡ take k (after_place ts at) ∷ parts_from (drop (k + 1) (after_place ts at)) → Err ExtraText ≡ operands_of o (parts ts)
two_commas o ts at k h l e f =
    let s = after_place ts at in
    let d : s ≡ drop (at + 1) ts = between_to_end ts (at + 1) (length ts) (omega arith) in
    let g : parts_from (drop (at + 1) ts) ≡ take k s ∷ parts_from (drop (k + 1) s) = ap parts_from (sym d) ∙ f in
    too_many o (take at ts) (take k s) _ (parts_some (drop (k + 1) s)) ∙ ap (operands_of o) (sym (parts_of_some ts h ∙ e ∙ ap (λ x. take at ts ∷ x) g))
