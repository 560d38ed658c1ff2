-- The lines of a text, token by token.
use Rattle.std.proofs.Common.{◌≡◌, ℕ, Bool, true, false, List, [], ◌∷◌, ◌++◌, refl, sym, ◌∙◌, ap, append_assoc}
use Rattle.std.specs.Prelude.{Result, Ok, Err}
use Rattle.rc_text.specs.declared.token.Token.{Token}
use Rattle.rc_text.specs.Gaps.{is_line_end}
use Rattle.rc_text.specs.Tokens.{tokens_of}
use Rattle.rc_expand.specs.declared.fault.ExpandFault.{ExpandFault}
use Rattle.rc_expand.specs.declared.read.raw_line.RawLine.{RawLine}
use Rattle.rc_instr.specs.Results.{mapped}
use Rattle.rc_expand.specs.Read.{text_lines}
use Rattle.rc_expand.specs.Read.Faults.{text_fault}
use Rattle.rc_expand.specs.Read.Lines.{choose, line_of_tokens, has_end, up_to_end, lines_from}

-- the lines so far, the tokens of the line that has begun, and the tokens still to come
abbrev pub SoFar : List ℕ → List RawLine → List Token → List Token → Type 0
SoFar source raws front tokens = text_lines source ≡ mapped (λ r. raws ++ r) (lines_from source (text_fault source) front tokens)

same_result : (r : Result (List RawLine) ExpandFault) → r ≡ mapped (λ r. [] ++ r) r
same_result (Ok r) = refl
same_result (Err f) = refl

regroup : (raws hs : List RawLine) (r : Result (List RawLine) ExpandFault) → mapped (λ r. raws ++ r) (mapped (λ r. hs ++ r) r) ≡ mapped (λ r. (raws ++ hs) ++ r) r
regroup raws hs (Ok r) = ap Ok (sym (append_assoc raws hs r))
regroup raws hs (Err f) = refl

goes_on : (hs : List RawLine) (later : Result (List RawLine) ExpandFault) → has_end hs ≡ false → up_to_end hs later ≡ mapped (λ r. hs ++ r) later
goes_on hs later e = rw e

module _ (source : List ℕ) where
  -- before the first token
  pub at_first : SoFar source [] [] (tokens_of source).tokens
  at_first = same_result (lines_from source (text_fault source) [] (tokens_of source).tokens)

  module _ (raws : List RawLine) (front : List Token) where
    -- a token goes to the line that has begun, or ends it
    at_either : (t : Token) (ts tokens : List Token) → tokens ≡ t ∷ ts → (b : Bool) → b ≡ is_line_end t.kind → SoFar source raws front tokens
        → text_lines source ≡ mapped (λ r. raws ++ r) (choose b (λ i. up_to_end (line_of_tokens source front) (lines_from source (text_fault source) [] ts)) (λ i. lines_from source (text_fault source) (front ++ (t ∷ [])) ts))
    at_either t ts tokens e b k h =
        h ∙ (ap (λ x. mapped (λ r. raws ++ r) (lines_from source (text_fault source) front x)) e
        ∙ ap (λ b. mapped (λ r. raws ++ r) (choose b (λ i. up_to_end (line_of_tokens source front) (lines_from source (text_fault source) [] ts)) (λ i. lines_from source (text_fault source) (front ++ (t ∷ [])) ts))) (sym k))

    pub at_token : (t : Token) (ts tokens : List Token) → tokens ≡ t ∷ ts → false ≡ is_line_end t.kind → SoFar source raws front tokens → SoFar source raws (front ++ (t ∷ [])) ts
    at_token t ts tokens e k h = at_either t ts tokens e false k h

    -- a line end closes the line
    pub at_line : (t : Token) (ts tokens : List Token) → tokens ≡ t ∷ ts → true ≡ is_line_end t.kind → false ≡ has_end (line_of_tokens source front) → SoFar source raws front tokens
        → SoFar source (raws ++ line_of_tokens source front) [] ts
    at_line t ts tokens e k b h =
        at_either t ts tokens e true k h
        ∙ (ap (mapped (λ r. raws ++ r)) (goes_on (line_of_tokens source front) (lines_from source (text_fault source) [] ts) (sym b))
        ∙ regroup raws (line_of_tokens source front) (lines_from source (text_fault source) [] ts))
