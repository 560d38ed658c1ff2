-- Each token of a text is spelled by its bytes, is the longest at its place, and has the line that
-- the line feeds before it give.
use Rattle.std.proofs.Common.{◌≡◌, ℕ, suc, zero, ◌+◌, ◌-◌, ◌≤◌, ◌<◌, Bool, true, false, List, [], ◌∷◌, ◌++◌, get_or, take, drop, drop-drop, length-drop, length, refl, sym, subst, arith, ap, ◌∙◌, add-zero, inl, inr}
use Rattle.std.proofs.Math.Numerals.{one-add}
use Rattle.std.specs.Prelude.{Option, Some, None, if◌then◌else◌, ◌&&◌, ◌||◌, ◌==◌, codes, All, unwrap_or}
use Rattle.std.specs.List.{list_all}
use Rattle.std.proofs.lemmas.Bool.Decides.{eqb_tells}
use Rattle.std.proofs.lemmas.List.{get_or-drop, take_more}
use Rattle.std.proofs.lemmas.List.Elements.{All-cons}
use Rattle.rc_text.specs.declared.token.Kind.{Kind}
use Rattle.rc_text.specs.declared.token.Kind.TheVariants.{LineEnd}
use Rattle.rc_text.specs.declared.header.Extent.{Extent}
use Rattle.rc_text.specs.declared.lexeme.Lexeme.{Lexeme}
use Rattle.rc_text.specs.declared.lexeme.Lexeme.TheVariants.{Trivia, LineFeed, Token as TokenOf, Fault}
use Rattle.rc_text.specs.Bytes.{LINE_FEED, begins_with_word}
use Rattle.rc_text.specs.Headers.{extent, further_on, header_from, header_of}
use Rattle.rc_text.specs.Tokens.{lexeme_of, token_of, tokens_after, tokens_from, tokens_of, Onward}
use Rattle.rc_text.specs.TokenTexts.{is_one_token, SpellsToken, line_feed_count, StandsIn}
use Rattle.rc_text.proofs.LexemeSteps.{FitsIn, lexeme_fits, and_left, and_right}
use Rattle.rc_text.proofs.LongestTokens.{NoLonger, no_longer}
use Rattle.rc_text.proofs.SpelledTokens.{is_plain, IsPlain, Shows, shows}

-- line feeds of two texts in a row
line_feed_count-append : (xs ys : List ℕ) → line_feed_count (xs ++ ys) ≡ line_feed_count xs + line_feed_count ys
line_feed_count-append [] ys = omega arith
line_feed_count-append (x ∷ xs) ys = by_first (x == LINE_FEED) (line_feed_count-append xs ys) where
  by_first : (b : Bool) → line_feed_count (xs ++ ys) ≡ line_feed_count xs + line_feed_count ys
      → (if b then suc (line_feed_count (xs ++ ys)) else line_feed_count (xs ++ ys)) ≡ (if b then suc (line_feed_count xs) else line_feed_count xs) + line_feed_count ys
  by_first true h = omega arith
  by_first false h = h

-- a plain byte is not a line feed
not_counted : (b : ℕ) → is_plain b ≡ true → line_feed_count (b ∷ []) ≡ 0
not_counted b h =
    elim (eqb_tells b 10) [
      | inl (on, e) ↦ let f : false ≡ true = rw e at h in absurd (cc)
      | inr (off, n) ↦ rw off refl
    ]

-- at a byte of the source
module _ (source : List ℕ) (b : ℕ) (rest : List ℕ) (at : ℕ) (here : b ∷ rest ≡ drop at source) where
  -- what is left after the byte
  pub tail_dropped : rest ≡ drop (at + 1) source
  tail_dropped = let d : drop 1 (drop at source) ≡ drop (at + 1) source = rw drop-drop in ap (drop 1) here ∙ d

  -- the place is within the source
  inside : at < length source
  inside = let size : suc (length rest) ≡ length source - at = ap length here ∙ length-drop at source in omega arith

  -- the byte at the place
  byte_here : get_or source at 0 ≡ b
  byte_here = let e : get_or (drop at source) 0 0 ≡ get_or source at 0 = get_or-drop at source 0 0 ∙ rw add-zero in sym e ∙ sym (ap (λ bs. get_or bs 0 0) here)

  -- the line feeds up to the byte, and in it
  pub counted : line_feed_count (take (at + 1) source) ≡ line_feed_count (take at source) + line_feed_count (b ∷ [])
  counted = ap line_feed_count (take_more source at 0 inside) ∙ (line_feed_count-append (take at source) (get_or source at 0 ∷ []) ∙ ap (λ x. line_feed_count (take at source) + line_feed_count (x ∷ [])) byte_here)

-- if there is no token
none_stands : (source : List ℕ) → All (StandsIn source) []
none_stands source = λ k d lt. absurd (omega arith)

-- a token that is taken at a place of the source
token_stands : (source bs : List ℕ) (at len line : ℕ) (kind : Kind) → bs ≡ drop at source → SpellsToken (take len bs) kind → ((n : ℕ) → len < n → n ≤ length bs → is_one_token (take n bs) ≡ false)
    → line ≡ 1 + line_feed_count (take at source) → StandsIn source (token_of kind at len line)
token_stands source bs at len line kind e spelled longest l =
    let size : length bs ≡ length source - at = ap length e ∙ length-drop at source in
    let width : at + len - at ≡ len = omega arith in
    record {
      spelled = rw width (subst (λ x. SpellsToken (take len x) kind) e spelled);
      longest = λ end over within. ap (λ x. is_one_token (take (end - at) x)) (sym e) ∙ longest (end - at) (omega arith) (omega arith);
      line = l;
      unjoined = refl;
    }

-- the first byte of plain ones
front_plain : (len b : ℕ) (rest : List ℕ) → 0 < len → IsPlain (take len (b ∷ rest)) → is_plain b ≡ true
front_plain zero b rest pos h = absurd (omega arith)
front_plain (suc len) b rest pos h = and_left (is_plain b) (list_all is_plain (take len rest)) h

-- the bytes after it
tail_plain : (len b : ℕ) (rest : List ℕ) → 0 < len → IsPlain (take len (b ∷ rest)) → IsPlain (take (len - 1) rest)
tail_plain zero b rest pos h = absurd (omega arith)
tail_plain (suc len) b rest pos h = let e : suc len - 1 ≡ len = omega arith in rw e (and_right (is_plain b) (list_all is_plain (take len rest)) h)

-- after the first lexeme
stand_after : (source : List ℕ) (b : ℕ) (rest : List ℕ) (l : Lexeme) (next : Onward) (at_line_start : Bool) (at line : ℕ) → b ∷ rest ≡ drop at source
    → Shows (b ∷ rest) l → NoLonger (b ∷ rest) l → FitsIn (b ∷ rest) l → line ≡ 1 + line_feed_count (take at source)
    → ((k : ℕ) (at_line_start : Bool) (line : ℕ) → IsPlain (take k rest) → line ≡ 1 + line_feed_count (take (at + 1) source) → All (StandsIn source) (next k at_line_start (at + 1) line).tokens)
    → All (StandsIn source) (tokens_after l next at_line_start at line).tokens
stand_after source b rest (Trivia len) next at_line_start at line e shown longest fits l more =
    more (len - 1) at_line_start line (tail_plain len b rest fits.0 shown) (omega (arith, counted source b rest at e, not_counted b (front_plain len b rest fits.0 shown)))
stand_after source b rest LineFeed next at_line_start at line e shown longest fits l more =
    let feed : line_feed_count (b ∷ []) ≡ 1 = ap line_feed_count shown in
    All-cons (StandsIn source) (token_of LineEnd at 1 line) (next 0 true (at + 1) (line + 1)).tokens (token_stands source (b ∷ rest) at 1 line LineEnd e shown longest l)
    (more 0 true (line + 1) refl (omega (arith, counted source b rest at e)))
stand_after source b rest (TokenOf len kind) next at_line_start at line e shown longest fits l more =
    All-cons (StandsIn source) (token_of kind at len line) (next (len - 1) false (at + 1) line).tokens (token_stands source (b ∷ rest) at len line kind e shown.0 longest l)
    (more (len - 1) false line (tail_plain len b rest fits.0 shown.1) (omega (arith, counted source b rest at e, not_counted b (front_plain len b rest fits.0 shown.1))))
stand_after source b rest (Fault f) next at_line_start at line e shown longest fits l more = none_stands source

-- the tokens of what is left
stand_from : (source bs : List ℕ) (inside : ℕ) (at_line_start : Bool) (at line : ℕ) → bs ≡ drop at source → IsPlain (take inside bs) → line ≡ 1 + line_feed_count (take at source)
    → All (StandsIn source) (tokens_from bs inside at_line_start at line).tokens
stand_from source [] inside at_line_start at line e plain l = none_stands source
stand_from source (b ∷ rest) (suc inside) at_line_start at line e plain l =
    stand_from source rest inside at_line_start (at + 1) line (tail_dropped source b rest at e) (and_right (is_plain b) (list_all is_plain (take inside rest)) plain)
    (omega (arith, counted source b rest at e, not_counted b (and_left (is_plain b) (list_all is_plain (take inside rest)) plain)))
stand_from source (b ∷ rest) zero at_line_start at line e plain l =
    stand_after source b rest (lexeme_of at_line_start (b ∷ rest)) (tokens_from rest) at_line_start at line e (shows (b ∷ rest) at_line_start (omega arith)) (no_longer (b ∷ rest) at_line_start (omega arith)) (lexeme_fits (b ∷ rest) at_line_start (omega arith)) l
    (λ k f n p m. stand_from source rest k f (at + 1) n (tail_dropped source b rest at e) p m)

-- the ignored lines are counted by their line feeds
abbrev pub CountsLines : List ℕ → Option Extent → Type 0
CountsLines bs None = Unit {0}
CountsLines bs (Some e) = e.lines ≡ line_feed_count (take e.bytes bs)

-- one byte more
counts_more : (b : ℕ) (rest : List ℕ) (n : ℕ) (o : Option Extent) → line_feed_count (b ∷ []) ≡ n → CountsLines rest o → CountsLines (b ∷ rest) (further_on 1 n o)
counts_more b rest n None e h = tt
counts_more b rest n (Some x) e h = rw one-add (omega (arith, line_feed_count-append (b ∷ []) (take x.bytes rest), h, e))

-- the lines of a header are its line feeds
header_counts : (bs : List ℕ) (begins found : Bool) → CountsLines bs (header_from bs begins found)
header_counts [] begins false = tt
header_counts [] begins true = refl
header_counts (b ∷ rest) begins found =
    by_byte (b == LINE_FEED) refl (found || (begins && begins_with_word (codes ";redcode") (b ∷ rest))) (header_counts rest true false) (header_counts rest false) where
      by_byte : (feed : Bool) → b == LINE_FEED ≡ feed → (here : Bool) → CountsLines rest (header_from rest true false) → ((f : Bool) → CountsLines rest (header_from rest false f))
          → CountsLines (b ∷ rest) (if feed then (if here then Some (extent 1 1) else further_on 1 1 (header_from rest true false)) else further_on 1 0 (header_from rest false here))
      by_byte true e true h k = rw e refl
      by_byte true e false h k = counts_more b rest 1 (header_from rest true false) (rw e refl) h
      by_byte false e here h k = counts_more b rest 0 (header_from rest false here) (rw e refl) (k here)

-- the same where there is none
header_of_counts : (text : List ℕ) (o : Option Extent) → CountsLines text o → (unwrap_or o (extent 0 0)).lines ≡ line_feed_count (take (unwrap_or o (extent 0 0)).bytes text)
header_of_counts text None h = refl
header_of_counts text (Some e) h = h

-- the tokens of a text
pub all_stand : (text : List ℕ) → All (StandsIn text) (tokens_of text).tokens
all_stand text =
    let lines = header_of_counts text (header_from text true false) (header_counts text true false) in
    stand_from text (drop (header_of text).bytes text) 0 true (header_of text).bytes (1 + (header_of text).lines) refl refl (ap (λ n. 1 + n) lines)
