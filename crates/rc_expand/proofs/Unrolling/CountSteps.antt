-- The count of a block, and the labels before it.
use Rattle.std.proofs.Common.{◌≡◌, ℕ, zero, suc, true, false, List, [], ◌∷◌, length, take, get_or, Option, Some, None, ok_or, refl, sym, ◌∙◌, ap, arith}
use Rattle.std.specs.Prelude.{ℤ, Result, Ok, Err, option_and_then}
use Rattle.std.specs.Result.{result_ok}
use Rattle.rc_text.specs.declared.token.Token.{Token}
use Rattle.rc_text.specs.declared.fault.EvalFault.{EvalFault}
use Rattle.rc_text.specs.Symbols.{symbols_of}
use Rattle.rc_text.specs.Values.{Meaning}
use Rattle.rc_text.specs.Reading.{evaluation_of}
use Rattle.rc_expand.specs.declared.read.raw_line.RawLine.{RawLine}
use Rattle.rc_expand.specs.declared.fault.ExpandFault.{ExpandFault}
use Rattle.rc_expand.specs.declared.fault.ExpandKind.TheVariants.{BadDirective, CountRefused}
use Rattle.rc_instr.specs.Results.{mapped, and_then}
use Rattle.rc_expand.specs.Results.{at_line}
use Rattle.rc_expand.specs.Replace.{replaced_tokens}
use Rattle.rc_expand.specs.Contexts.{ContextView}
use Rattle.rc_expand.specs.Read.Lines.{plain_token}
use Rattle.rc_expand.specs.Unroll.Openings.{counter_fault_kind, counter_of, earlier_of, limited_count, opening_with_counter, count_of, opening, counter_name}
use Rattle.rc_expand.specs.Names.{given_names}

-- the counter is the last label
pub counter_at : (source : List ℕ) (line : ℕ) (ls : List (List Token)) (i : ℕ) (l : List Token) → suc i ≡ length ls → l ≡ get_or ls i l → counter_of source line ls ≡ mapped Some (ok_or (plain_token source l) (at_line line (counter_fault_kind l)))
counter_at source line [] i l h e = absurd (omega arith)
counter_at source line (m ∷ []) zero l h e = ap (λ l. mapped Some (ok_or (plain_token source l) (at_line line (counter_fault_kind l)))) (sym e)
counter_at source line (m ∷ []) (suc i) l h e = absurd (omega arith)
counter_at source line (m ∷ n ∷ ls) zero l h e = absurd (omega arith)
counter_at source line (m ∷ n ∷ ls) (suc i) l h e = counter_at source line (n ∷ ls) i l (omega arith) e

module _ (s : ContextView) (line : ℕ) (ts : List Token) where
  abbrev names : Meaning
  names = given_names s.given.constants s.given.rules

  abbrev counted : Option ℕ → Result ℕ ExpandFault
  counted o = ok_or o (at_line line CountRefused)

  abbrev counted_in : List Token → Result ℕ ExpandFault
  counted_in r = counted (option_and_then limited_count (result_ok (evaluation_of names (symbols_of s.source r))))

  -- a count with a value, small or not
  pub count_valued : (r : List Token) (x : ℤ) (o : Option ℕ) → replaced_tokens s line [] ts ≡ Ok r → Ok x ≡ evaluation_of names (symbols_of s.source r) → o ≡ limited_count x → count_of s line ts ≡ counted o
  unfolding count_of
  count_valued r x o e v m = ap (and_then counted_in) e ∙ (ap (λ v. counted (option_and_then limited_count (result_ok v))) (sym v) ∙ ap counted (sym m))

  -- a count without a value
  pub count_valueless : (r : List Token) (f : EvalFault) → replaced_tokens s line [] ts ≡ Ok r → Err f ≡ evaluation_of names (symbols_of s.source r) → count_of s line ts ≡ counted None
  unfolding count_of
  count_valueless r f e v = ap (and_then counted_in) e ∙ ap (λ v. counted (option_and_then limited_count (result_ok v))) (sym v)

  -- a count whose EQU names cannot be replaced
  pub count_refused : (f : ExpandFault) → replaced_tokens s line [] ts ≡ Err f → count_of s line ts ≡ Err f
  unfolding count_of
  count_refused f e = ap (and_then counted_in) e

module _ (s : ContextView) (f : RawLine) where
  -- a spoiled FOR
  pub opening_spoiled : f.spoiled ≡ true → opening s f ≡ Err (at_line f.number BadDirective)
  unfolding opening
  opening_spoiled e = rw e

  -- any other is tested part by part
  pub opening_tested : f.spoiled ≡ false → opening s f ≡ and_then (opening_with_counter s f) (and_then (counter_name s f.number) (counter_of s.source f.number f.labels))
  unfolding opening
  opening_tested e = rw e

-- all labels but the last
pub earlier_at : (ls : List (List Token)) (i : ℕ) → suc i ≡ length ls → take i ls ≡ earlier_of ls
earlier_at [] i h = absurd (omega arith)
earlier_at (m ∷ []) zero h = refl
earlier_at (m ∷ []) (suc i) h = absurd (omega arith)
earlier_at (m ∷ n ∷ ls) zero h = absurd (omega arith)
earlier_at (m ∷ n ∷ ls) (suc i) h = ap (λ r. m ∷ r) (earlier_at (n ∷ ls) i (omega arith))
