-- What lies ahead at a place, by what is there.
use Rattle.std.proofs.Common.{drop-drop, ◌≡◌, ◌≢◌, ℕ, suc, zero, ◌+◌, ◌-◌, ◌≤◌, ◌<◌, Bool, true, false, List, [], ◌∷◌, get_or, take, drop, length, refl, sym, subst, arith, ap, ◌∙◌, add-zero, length-drop, cond}
use Rattle.std.proofs.Math.Numerals.{one-add}
use Rattle.std.specs.Prelude.{Option, Some, None, Ok}
use Rattle.std.specs.Prelude.{if◌then◌else◌, not, ◌&&◌, ◌==◌, ◌^◌, nat_lt, codes}
use Rattle.std.specs.List.{prefix_len}
use Rattle.std.proofs.lemmas.Slice.{between_to_end}
use Rattle.std.proofs.lemmas.List.Sums.{prefix_len-le-length}
use Rattle.std.specs.Char.{is_ascii_digit}
use Rattle.rc_text.specs.Bytes.{is_blank, LINE_FEED, SEMICOLON, begins_name, continues_name, decimal_value, begins_with_word}
use Rattle.rc_text.specs.Signs.{long_sign, short_sign}
use Rattle.rc_text.proofs.WordSteps.{begins_le}
use Rattle.rc_text.specs.declared.token.Sign.{Sign}
use Rattle.rc_text.specs.declared.token.Kind.{Kind}
use Rattle.rc_text.specs.declared.fault.LexFault.{LexFault}
use Rattle.rc_text.specs.declared.lexeme.Lexeme.{Lexeme}
use Rattle.rc_text.specs.declared.lexeme.Lexeme.TheVariants.{Trivia, LineFeed, Token as TokenOf, Fault}
use Rattle.rc_text.specs.declared.token.Kind.TheVariants.{LineEnd}
use Rattle.rc_text.specs.Tokens.{lexeme_of, is_assert, sign_lexeme, tokens_after, with_token, token_of, tokens_from, line_after, lexer_view, lexer_at, LexerView, TakesToken}

-- the rest of a piece is passed over
skipped : (bs : List ℕ) (k : ℕ) (at_line_start : Bool) (at line : ℕ) → k ≤ length bs → tokens_from bs k at_line_start at line ≡ tokens_from (drop k bs) 0 at_line_start (at + k) line
skipped [] zero at_line_start at line h = refl
skipped [] (suc k) at_line_start at line h = absurd (omega arith)
skipped (b ∷ bs) zero at_line_start at line h = rw add-zero
skipped (b ∷ bs) (suc k) at_line_start at line h = let e : at + 1 + k ≡ at + suc k = omega arith in rw (← e) (skipped bs k at_line_start (at + 1) line (omega arith))

-- what is read at the front
at_front : (bs : List ℕ) (at_line_start : Bool) (at line : ℕ) → 0 < length bs → tokens_from bs 0 at_line_start at line ≡ tokens_after (lexeme_of at_line_start bs) (tokens_from (drop 1 bs)) at_line_start at line
at_front [] at_line_start at line h = absurd (omega arith)
at_front (b ∷ bs) at_line_start at line h = refl

-- the length of a piece is within the text
abbrev pub FitsIn : List ℕ → Lexeme → Type 0
FitsIn bs (Trivia len) = (0 < len) × (len ≤ length bs)
FitsIn bs LineFeed = 0 < length bs
FitsIn bs (TokenOf len kind) = (0 < len) × (len ≤ length bs) × ((line : ℕ) → line_after kind line ≡ line)
FitsIn bs (Fault f) = Unit {0}

-- what holds of both branches
pub if_both : {A : Type 0} (P : A → Type 0) (b : Bool) (x y : A) → (b ≡ true → P x) → (b ≡ false → P y) → P (if b then x else y)
if_both P true x y f g = f refl
if_both P false x y f g = g refl

-- a front that begins is not empty
pub front_fits : (p : ℕ → Bool) (bs : List ℕ) → 0 < length bs → p (get_or bs 0 0) ≡ true → (0 < prefix_len p bs) × (prefix_len p bs ≤ length bs)
front_fits p [] h e = absurd (omega arith)
front_fits p (b ∷ bs) h e = let le = prefix_len-le-length p bs in rw e (omega arith, omega arith)

-- a test and a false one
pub and_false : (b : Bool) → (b && false) ≡ false
and_false true = refl
and_false false = refl

-- both tests hold
pub and_left : (a b : Bool) → (a && b) ≡ true → a ≡ true
and_left true b h = refl
and_left false b h = h

-- both tests hold
pub and_right : (a b : Bool) → (a && b) ≡ true → b ≡ true
and_right true b h = h
and_right false b h = cc

-- no sign of two ends in a zero byte
pub long_sign_zero : (a : ℕ) → long_sign a 0 ≡ None
long_sign_zero a = simp and_false

-- a sign is within the text, if one of two bytes has two
sign_lexeme_fits : (bs : List ℕ) (long short : Option Sign) → (long ≢ None → 2 ≤ length bs) → 0 < length bs → FitsIn bs (sign_lexeme long short)
sign_lexeme_fits bs (Some s) short two h = (omega arith, two (λ e. cc), λ l. refl)
sign_lexeme_fits bs None (Some s) two h = (omega arith, omega arith, λ l. refl)
sign_lexeme_fits bs None None two h = tt

-- the sign at the front is within the text
sign_fits : (bs : List ℕ) (b : ℕ) → b ≡ get_or bs 1 0 → 0 < length bs → FitsIn bs (sign_lexeme (long_sign (get_or bs 0 0) b) (short_sign (get_or bs 0 0)))
sign_fits bs b e h = sign_lexeme_fits bs (long_sign (get_or bs 0 0) b) (short_sign (get_or bs 0 0)) (second bs b e h) h where
  second : (bs : List ℕ) (b : ℕ) → b ≡ get_or bs 1 0 → 0 < length bs → long_sign (get_or bs 0 0) b ≢ None → 2 ≤ length bs
  second [] b e h n = absurd (omega arith)
  second (a ∷ []) b e h n = absurd (n (rw e (long_sign_zero a)))
  second (a ∷ c ∷ bs) b e h n = omega arith

-- what the text begins with is within the text
pub lexeme_fits : (bs : List ℕ) (at_line_start : Bool) → 0 < length bs → FitsIn bs (lexeme_of at_line_start bs)
lexeme_fits bs at_line_start h =
    let b = get_or bs 0 0 in
    if_both (FitsIn bs) (is_blank b) _ _ (λ _. (omega arith, omega arith)) (λ _.
    if_both (FitsIn bs) (b == LINE_FEED) _ _ (λ _. h) (λ not_feed.
    if_both (FitsIn bs) (b == SEMICOLON) _ _
    (λ semicolon. if_both (FitsIn bs) (at_line_start && is_assert bs) _ _ (λ is. (omega arith, begins_le (codes ";assert") bs (and_left (begins_with_word (codes ";assert") bs) (is_blank (get_or bs 7 0)) (and_right at_line_start (is_assert bs) is)), λ l. refl)) (λ _. front_fits (λ b. not (b == LINE_FEED)) bs h (rw not_feed))) (λ _.
    if_both (FitsIn bs) (begins_name b) _ _ (λ begins. let f = front_fits continues_name bs h (rw begins) in (f.0, f.1, λ l. refl)) (λ _.
    if_both (FitsIn bs) (is_ascii_digit b) _ _
    (λ digit. if_both (FitsIn bs) (nat_lt (decimal_value (take (prefix_len is_ascii_digit bs) bs)) (2 ^ 32)) _ _ (λ _. let f = front_fits is_ascii_digit bs h digit in (f.0, f.1, λ l. refl)) (λ _. tt))
    (λ _. sign_fits bs (get_or bs 1 0) refl h)))))

-- by what the text begins with
abbrev pub LiesAhead : List ℕ → Bool → ℕ → ℕ → Lexeme → Type 0
LiesAhead bs at_line_start at line (Trivia len) = tokens_from bs 0 at_line_start at line ≡ tokens_from (drop len bs) 0 at_line_start (at + len) line
LiesAhead bs at_line_start at line LineFeed = tokens_from bs 0 at_line_start at line ≡ with_token (token_of LineEnd at 1 line) (tokens_from (drop 1 bs) 0 true (at + 1) (line + 1))
LiesAhead bs at_line_start at line (TokenOf len kind) = tokens_from bs 0 at_line_start at line ≡ with_token (token_of kind at len line) (tokens_from (drop len bs) 0 false (at + len) line)
LiesAhead bs at_line_start at line (Fault f) = tokens_from bs 0 at_line_start at line ≡ record { tokens = []; ending = Some f }

-- after the first byte the rest of the lexeme is passed over
rest_skipped : (bs : List ℕ) (len : ℕ) (at_line_start : Bool) (at line : ℕ) → 0 < len → len ≤ length bs → tokens_from (drop 1 bs) (len - 1) at_line_start (at + 1) line ≡ tokens_from (drop len bs) 0 at_line_start (at + len) line
rest_skipped [] len at_line_start at line pos h = absurd (omega arith)
rest_skipped (b ∷ bs) zero at_line_start at line pos h = absurd (omega arith)
rest_skipped (b ∷ bs) (suc k) at_line_start at line pos h = let e : suc k - 1 ≡ k = omega arith in let f : at + 1 + k ≡ at + suc k = omega arith in rw (e, ← f) (skipped bs k at_line_start (at + 1) line (omega arith))

-- what lies ahead of a lexeme that fits
lies_ahead_by : (bs : List ℕ) (at_line_start : Bool) (at line : ℕ) (p : Lexeme) → FitsIn bs p → tokens_from bs 0 at_line_start at line ≡ tokens_after p (tokens_from (drop 1 bs)) at_line_start at line → LiesAhead bs at_line_start at line p
lies_ahead_by bs at_line_start at line (Trivia len) fits e = e ∙ rest_skipped bs len at_line_start at line fits.0 fits.1
lies_ahead_by bs at_line_start at line LineFeed fits e = e
lies_ahead_by bs at_line_start at line (TokenOf len kind) fits e = e ∙ ap (with_token (token_of kind at len line)) (rest_skipped bs len false at line fits.0 fits.1)
lies_ahead_by bs at_line_start at line (Fault f) fits e = e

-- what lies ahead of the lexeme at the front
pub lies_ahead : (bs : List ℕ) (at_line_start : Bool) (at line : ℕ) → 0 < length bs → LiesAhead bs at_line_start at line (lexeme_of at_line_start bs)
lies_ahead bs at_line_start at line h = lies_ahead_by bs at_line_start at line (lexeme_of at_line_start bs) (lexeme_fits bs at_line_start h) (at_front bs at_line_start at line h)

-- a run of blanks is passed over
past_blanks : (bs : List ℕ) (at_line_start : Bool) (at line : ℕ) → tokens_from bs 0 at_line_start at line ≡ tokens_from (drop (prefix_len is_blank bs) bs) 0 at_line_start (at + prefix_len is_blank bs) line
past_blanks [] at_line_start at line = refl
past_blanks (b ∷ bs) at_line_start at line = by_first (is_blank b) refl (past_blanks bs at_line_start (at + 1) line) where
  by_first : (t : Bool) → is_blank b ≡ t → tokens_from bs 0 at_line_start (at + 1) line ≡ tokens_from (drop (prefix_len is_blank bs) bs) 0 at_line_start (at + 1 + prefix_len is_blank bs) line → tokens_from (b ∷ bs) 0 at_line_start at line ≡ tokens_from (drop (cond t (1 + prefix_len is_blank bs) 0) (b ∷ bs)) 0 at_line_start (at + cond t (1 + prefix_len is_blank bs) 0) line
  by_first true e more =
      let sum : at + 1 + prefix_len is_blank bs ≡ at + (1 + prefix_len is_blank bs) = omega arith in
      let fall : drop (1 + prefix_len is_blank bs) (b ∷ bs) ≡ drop (prefix_len is_blank bs) bs = rw one-add refl in
      let front : tokens_from (b ∷ bs) 0 at_line_start at line ≡ tokens_from bs 0 at_line_start (at + 1) line = rw e refl in
      rw (fall, ← sum) (front ∙ more)
  by_first false e more = rw add-zero

-- skipping the blanks at `at` changes nothing of what lies ahead
pub blanks_at : (source : List ℕ) (at_line_start : Bool) (at line n : ℕ) → at ≤ length source → n ≡ prefix_len is_blank (take (length source - at) (drop at source)) → (at + n ≤ length source) × (lexer_at source at_line_start (at + n) line ≡ lexer_at source at_line_start at line)
blanks_at source at_line_start at line n h e =
    let tail : take (length source - at) (drop at source) ≡ drop at source = between_to_end source at (length source) (omega arith) in
    let is : n ≡ prefix_len is_blank (drop at source) = e ∙ ap (prefix_len is_blank) tail in
    let le = prefix_len-le-length is_blank (drop at source) in
    let d : drop n (drop at source) ≡ drop (at + n) source = rw drop-drop in
    let p : tokens_from (drop at source) 0 at_line_start at line ≡ tokens_from (drop n (drop at source)) 0 at_line_start (at + n) line = rw is (past_blanks (drop at source) at_line_start at line) in
    (omega (arith, is, le, length-drop at source), ap (λ t. lexer_view t line) (sym (p ∙ ap (λ bs. tokens_from bs 0 at_line_start (at + n) line) d)))

-- the same at a place of a source, for what lies ahead there
module _ (source : List ℕ) (at_line_start : Bool) (at line : ℕ) (v : LexerView) (inside : at < length source) (is : lexer_at source at_line_start at line ≡ v) where
  -- a byte is left
  some_left : 0 < length (drop at source)
  some_left = simp length-drop (omega arith)

  -- what lies ahead at the place
  front : LiesAhead (drop at source) at_line_start at line (lexeme_of at_line_start (drop at source))
  front = lies_ahead (drop at source) at_line_start at line some_left

  -- what is there is within the source
  fits : FitsIn (drop at source) (lexeme_of at_line_start (drop at source))
  fits = lexeme_fits (drop at source) at_line_start some_left

  -- `&source[at..]`
  tail : take (length source - at) (drop at source) ≡ drop at source
  tail = between_to_end source at (length source) (omega arith)

  -- past what is not a token
  pub trivia_at : (len : ℕ) → Trivia len ≡ lexeme_of at_line_start (take (length source - at) (drop at source)) → (0 < len) × (at + len ≤ length source) × (lexer_at source at_line_start (at + len) line ≡ v)
  trivia_at len e =
      let f = subst (FitsIn (drop at source)) (sym (e ∙ ap (lexeme_of at_line_start) tail)) fits in
      let l = subst (LiesAhead (drop at source) at_line_start at line) (sym (e ∙ ap (lexeme_of at_line_start) tail)) front in
      let d : drop len (drop at source) ≡ drop (at + len) source = rw drop-drop in
      (f.0, omega (arith, f.1, length-drop at source), ap (λ bs. lexer_view (tokens_from bs 0 at_line_start (at + len) line) line) (sym d) ∙ (ap (λ x. lexer_view x line) (sym l) ∙ is))

  -- past a line feed
  pub line_feed_at : LineFeed ≡ lexeme_of at_line_start (take (length source - at) (drop at source)) → TakesToken v (Ok (Some (token_of LineEnd at 1 line))) (lexer_at source true (at + 1) (line + 1))
  line_feed_at e =
      let l = subst (LiesAhead (drop at source) at_line_start at line) (sym (e ∙ ap (lexeme_of at_line_start) tail)) front in
      let d : drop 1 (drop at source) ≡ drop (at + 1) source = rw drop-drop in
      let m = l ∙ ap (λ bs. with_token (token_of LineEnd at 1 line) (tokens_from bs 0 true (at + 1) (line + 1))) d in
      (sym (ap (λ x. x.tokens) is) ∙ ap (λ x. x.tokens) m, sym (ap (λ x. x.ending) m) ∙ ap (λ x. x.ending) is, ap (λ x. x.line) is, refl)

  -- past a token
  pub token_at : (len : ℕ) (kind : Kind) → TokenOf len kind ≡ lexeme_of at_line_start (take (length source - at) (drop at source)) → (0 < len) × (at + len ≤ length source) × TakesToken v (Ok (Some (token_of kind at len line))) (lexer_at source false (at + len) line)
  token_at len kind e =
      let f = subst (FitsIn (drop at source)) (sym (e ∙ ap (lexeme_of at_line_start) tail)) fits in
      let l = subst (LiesAhead (drop at source) at_line_start at line) (sym (e ∙ ap (lexeme_of at_line_start) tail)) front in
      let d : drop len (drop at source) ≡ drop (at + len) source = rw drop-drop in
      let m = l ∙ ap (λ bs. with_token (token_of kind at len line) (tokens_from bs 0 false (at + len) line)) d in
      (f.0, omega (arith, f.1, length-drop at source), (sym (ap (λ x. x.tokens) is) ∙ ap (λ x. x.tokens) m, sym (ap (λ x. x.ending) m) ∙ ap (λ x. x.ending) is, ap (λ x. x.line) is, sym (f.2 line)))

  -- at a fault nothing is left
  pub fault_at : (fault : LexFault) → Fault fault ≡ lexeme_of at_line_start (take (length source - at) (drop at source)) → (v.tokens ≡ []) × (v.ending ≡ Some fault)
  fault_at fault e =
      let l = subst (LiesAhead (drop at source) at_line_start at line) (sym (e ∙ ap (lexeme_of at_line_start) tail)) front in
      (sym (ap (λ x. x.tokens) is) ∙ ap (λ x. x.tokens) l, sym (ap (λ x. x.ending) is) ∙ ap (λ x. x.ending) l)
