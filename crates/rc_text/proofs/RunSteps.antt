-- A run of signs before an operand.
use Rattle.std.proofs.Common.{◌≡◌, ℕ, ◌+◌, ◌≤◌, Bool, true, false, cond, List, [], ◌∷◌, ◌++◌, drop, length, refl, ◌∙◌, ap, arith}
use Rattle.std.proofs.Math.Numerals.{one-add}
use Rattle.std.specs.List.{prefix_len}
use Rattle.std.proofs.lemmas.List.Sums.{prefix_len-le-length}
use Rattle.rc_text.specs.declared.token.Sign.{Sign}
use Rattle.rc_text.specs.declared.token.Kind.TheVariants.{Sign as SignOf}
use Rattle.rc_text.specs.Grammar.{is_prefix}
use Rattle.rc_text.specs.declared.token.Token.{Token}
use Rattle.rc_text.specs.Values.{Outcome}
use Rattle.rc_text.specs.Reading.{is_prefix_kind, signed_by, signed_outcome}

-- the run ends within the tokens
pub within : (ts : List Token) (n : ℕ) → n ≡ prefix_len (λ t. is_prefix_kind t.kind) ts → n ≤ length ts
within ts n e = rw e (prefix_len-le-length (λ t. is_prefix_kind t.kind) ts)

-- one token more
unsigned_step : (t : Token) (ts : List Token) (n : ℕ) (b : Bool) → is_prefix_kind t.kind ≡ b → prefix_len (λ t. is_prefix_kind t.kind) (drop n ts) ≡ 0 → prefix_len (λ t. is_prefix_kind t.kind) (drop (cond b (1 + n) 0) (t ∷ ts)) ≡ 0
unsigned_step t ts n true e h = rw one-add h
unsigned_step t ts n false e h = rw e refl

-- after the run no sign comes before the operand
pub unsigned : (ts : List Token) → prefix_len (λ t. is_prefix_kind t.kind) (drop (prefix_len (λ t. is_prefix_kind t.kind) ts) ts) ≡ 0
unsigned [] = refl
unsigned (t ∷ ts) = unsigned_step t ts (prefix_len (λ t. is_prefix_kind t.kind) ts) (is_prefix_kind t.kind) refl (unsigned ts)

-- the last sign acts first
pub last_first : (ts : List Token) (t : Token) (x : Outcome) → signed_outcome (ts ++ t ∷ []) x ≡ signed_outcome ts (signed_by t.kind x)
last_first [] t x = refl
last_first (u ∷ ts) t x = ap (signed_by u.kind) (last_first ts t x)

-- a first token that begins no run is not a sign before an operand
pub not_prefix : (ts rest : List Token) (t : Token) (s : Sign) → ts ≡ t ∷ rest → t.kind ≡ SignOf s → prefix_len (λ t. is_prefix_kind t.kind) ts ≡ 0 → is_prefix s ≡ false
not_prefix ts rest t s e k h = by_test (is_prefix s) refl where
  by_test : (b : Bool) → is_prefix s ≡ b → b ≡ false
  by_test false p = refl
  by_test true p = let q : is_prefix_kind t.kind ≡ true = ap is_prefix_kind k ∙ p in absurd (omega (arith, (rw (e, q) at h)))
