-- The steps of the search for the header.
use Rattle.std.proofs.Common.{◌≡◌, ℕ, ◌+◌, ◌-◌, ◌<◌, Bool, true, false, List, ◌∷◌, get_or, take, drop, length, refl, arith, ap, ◌∙◌, add-one, add-zero, drop-cons}
use Rattle.std.specs.Prelude.{Option, Some, None, if◌then◌else◌, ◌&&◌, ◌||◌, ◌==◌, codes}
use Rattle.std.proofs.lemmas.Slice.{between_to_end}
use Rattle.rc_text.specs.declared.header.Extent.{Extent}
use Rattle.rc_text.specs.Bytes.{LINE_FEED, begins_with_word}
use Rattle.rc_text.specs.Headers.{header_from, further_on}

-- what comes before what comes before
further_on-further_on : (a b c d : ℕ) (o : Option Extent) → further_on a b (further_on c d o) ≡ further_on (a + c) (b + d) o
further_on-further_on a b c d None = refl
further_on-further_on a b c d (Some e) = let x : a + (c + e.bytes) ≡ a + c + e.bytes = omega arith in let y : b + (d + e.lines) ≡ b + d + e.lines = omega arith in cc

-- at a byte, where `here` says whether the line has begun as a header
at_byte : (b : ℕ) (rest : List ℕ) (begins found here is_feed : Bool) → here ≡ (found || (begins && begins_with_word (codes ";redcode") (b ∷ rest))) → b == LINE_FEED ≡ is_feed
    → header_from (b ∷ rest) begins found ≡ (if is_feed then (if here then Some (record { bytes = 1; lines = 1 }) else further_on 1 1 (header_from rest true false)) else further_on 1 0 (header_from rest false here))
at_byte b rest begins found here is_feed e f = rw (e, ← f)

module _ (text : List ℕ) (i lines : ℕ) (begins found here : Bool) (whole : Option Extent) (inside : i < length text)
    (is_here : here ≡ (found || (begins && begins_with_word (codes ";redcode") (take (length text - i) (drop i text))))) (so_far : whole ≡ further_on i lines (header_from (drop i text) begins found)) where
  -- one byte further
  step : (is_feed : Bool) → get_or text i 0 == LINE_FEED ≡ is_feed
      → whole ≡ further_on i lines (if is_feed then (if here then Some (record { bytes = 1; lines = 1 }) else further_on 1 1 (header_from (drop (i + 1) text) true false)) else further_on 1 0 (header_from (drop (i + 1) text) false here))
  step is_feed f =
      let d : drop i text ≡ get_or text i 0 ∷ drop (i + 1) text = rw add-one (drop-cons text i 0 inside) in
      let tail : take (length text - i) (drop i text) ≡ get_or text i 0 ∷ drop (i + 1) text = between_to_end text i (length text) (omega arith) ∙ d in
      so_far ∙ ap (further_on i lines) (ap (λ bs. header_from bs begins found) d ∙ at_byte (get_or text i 0) (drop (i + 1) text) begins found here is_feed (is_here ∙ ap (λ bs. found || (begins && begins_with_word (codes ";redcode") bs)) tail) f)

  -- past a line feed that ends no header
  pub past_feed : get_or text i 0 == LINE_FEED ≡ true → here ≡ false → whole ≡ further_on (i + 1) (lines + 1) (header_from (drop (i + 1) text) true false)
  past_feed f off = step true f ∙ rw off (further_on-further_on i lines 1 1 (header_from (drop (i + 1) text) true false))

  -- past any other byte
  pub past_byte : get_or text i 0 == LINE_FEED ≡ false → whole ≡ further_on (i + 1) lines (header_from (drop (i + 1) text) false here)
  past_byte f = step false f ∙ (further_on-further_on i lines 1 0 (header_from (drop (i + 1) text) false here) ∙ rw add-zero)

  -- at the line feed that ends the header
  pub at_end : get_or text i 0 == LINE_FEED ≡ true → here ≡ true → whole ≡ Some (record { bytes = i + 1; lines = lines + 1 })
  at_end f on = step true f ∙ rw on
