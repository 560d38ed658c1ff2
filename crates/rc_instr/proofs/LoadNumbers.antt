-- Numbers at the front of a load file's bytes: what is written is read, and nothing else.
use Rattle.std.proofs.Common.{◌≡◌, ℕ, ◌<◌, ◌≤◌, ◌^◌, Bool, true, false, List, ◌++◌, take, drop, refl, sym, ◌∙◌, ap, subst, arith, take-append-drop, Some, None}
use Rattle.std.specs.Prelude.{Option, ◌&&◌, nat_lt}
use Rattle.std.specs.Fmt.{decimal}
use Rattle.std.specs.Str.{bytes_eq}
use Rattle.std.proofs.lemmas.Slice.Eq.{bytes_eq-Decides}
use Rattle.std.proofs.lemmas.Bool.{and_parts}
use Rattle.std.proofs.lemmas.Option.{same_Some}
use borrow.Author.Tests.{ltb-true, lt-ltb}
use Rattle.rc_instr.specs.Digits.{digits_len, read_on, NoDigitFirst}
use Rattle.rc_instr.specs.LoadReaders.{given, if_passes, short_number_at}
use Rattle.rc_instr.proofs.Decimals.{decimal_front, decimal_value, back_digits, decimal_one}

-- a decimal is read
pub short_front : (n : ℕ) (rest bs : List ℕ) → n < 2 ^ 16 → NoDigitFirst rest → bs ≡ decimal n ++ rest → short_number_at bs ≡ Some (n, rest)
unfolding short_number_at
short_front n rest bs l h e =
    let f = decimal_front n rest bs (omega (arith, l)) h e in
    let v = decimal_value n (omega (arith, l)) in
    rw (f.0, f.1, v, lt-ltb n 65536 l, (bytes_eq-Decides (decimal n) (decimal n)).1 refl) refl

-- what is read is a decimal
pub record IsShort (bs : List ℕ) (n : ℕ) (rest : List ℕ) : Type 0 where
  pub text : bs ≡ decimal n ++ rest
  pub small : n < 2 ^ 16
  pub ends : NoDigitFirst rest

-- what is read passed its test
pub kept : {A : Type 0} (b : Bool) (x : A) (bytes : List ℕ) (y : A) (rest : List ℕ) → given (if_passes b x) bytes ≡ Some (y, rest) → (b ≡ true) × (x ≡ y) × (bytes ≡ rest)
kept {A} true x bytes y rest e = let q = same_Some (x, bytes) (y, rest) e in (refl, ap (λ (p : A × List ℕ). p.0) q, ap (λ (p : A × List ℕ). p.1) q)
kept false x bytes y rest e = absurd (cc)

pub short_some : (bs : List ℕ) (n : ℕ) (rest : List ℕ) → short_number_at bs ≡ Some (n, rest) → IsShort bs n rest
unfolding short_number_at
short_some bs n rest e =
    let k = digits_len bs in
    let ds = take k bs in
    let v = read_on 0 ds in
    let p = kept (nat_lt v 65536 && bytes_eq ds (decimal v)) v (drop k bs) n rest e in
    let q = and_parts (nat_lt v 65536) (bytes_eq ds (decimal v)) p.0 in
    let small = ltb-true v 65536 q.0 in
    record {
      text = sym (take-append-drop k bs) ∙ ap (λ x. x ++ drop k bs) ((bytes_eq-Decides ds (decimal v)).0 q.1 ∙ ap decimal p.1) ∙ ap (λ r. decimal n ++ r) p.2;
      small = omega (arith, small, p.1);
      ends = subst NoDigitFirst p.2 (back_digits bs);
    }

-- bytes that no decimal begins
pub short_none : (bs : List ℕ) → ((n : ℕ) (rest : List ℕ) → n < 2 ^ 16 → NoDigitFirst rest → bs ≡ decimal n ++ rest → ⊥) → short_number_at bs ≡ None
short_none bs h = by_case (short_number_at bs) refl where
  by_case : (o : Option (ℕ × List ℕ)) → short_number_at bs ≡ o → o ≡ None
  by_case None e = refl
  by_case (Some x) e = let s = short_some bs x.0 x.1 e in absurd (h x.0 x.1 s.small s.ends s.text)

-- if the bytes begin otherwise, no decimal is read
pub no_short : (bs : List ℕ) (n : ℕ) (rest : List ℕ) → n < 2 ^ 32 → 2 ^ 16 ≤ n → NoDigitFirst rest → bs ≡ decimal n ++ rest → short_number_at bs ≡ None
no_short bs n rest l g h e = short_none bs (λ k r m i f. let d = decimal_one n k rest r l (omega (arith, m)) h i (sym e ∙ f) in omega (arith, m, g, d.0))
