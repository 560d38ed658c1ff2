-- What a tree of the grammar spells is read as what the tree means.
use Rattle.std.proofs.Common.{◌≡◌, ℕ, suc, ◌+◌, ◌≤◌, ◌<◌, true, false, nat_lt, List, [], ◌∷◌, ◌++◌, refl, ◌∙◌, ap, arith, append_assoc}
use Rattle.std.proofs.lemmas.Bool.Decides.{nat_tests}
use Rattle.rc_text.specs.declared.token.Sign.{Sign}
use Rattle.rc_text.specs.declared.token.Sign.TheVariants.{Open, Close, Plus, Minus, Star, Slash, Percent, Less, Greater, LessEqual, GreaterEqual, Equal, NotEqual, And, Or}
use Rattle.rc_text.specs.Symbols.{Symbol, Decimal, Identifier, Mark, Foreign}
use Rattle.rc_text.specs.Grammar.{Tree, Literal, Named, Group, Prefix, Infix, spelling_of, LOOSEST_LEVEL, OPERAND_LEVEL, level_of, is_prefix, tightness, IsGrammatical, depth_of}
use Rattle.rc_text.specs.Reading.{Algebra, Frame, Paren, Before, Left, open_count, Continuation, reduction, at_bottom, at_paren, is_close, is_open, before_operand, after_operand, FitsFrames, Stops}

-- what a tree means
abbrev pub meaning_in : {A : Type 0} → Algebra A → Tree → A
meaning_in m (Literal n) = m.literal n
meaning_in m (Named name) = m.named name
meaning_in m (Group t) = m.group (meaning_in m t)
meaning_in m (Prefix s t) = m.prefix s (meaning_in m t)
meaning_in m (Infix a s b) = m.infix' (meaning_in m a) s (meaning_in m b)

-- what stops a tighter reading stops a looser one
pub stops_more : (n m : ℕ) (k : List Symbol) → n ≤ m → Stops n k → Stops m k
stops_more n m [] le h = tt
stops_more n m (Mark s ∷ ws) le h = omega arith
stops_more n m (Decimal v ∷ ws) le h = tt
stops_more n m (Identifier v ∷ ws) le h = tt
stops_more n m (Foreign ∷ ws) le h = tt

-- a tighter operand fits the same frames
pub below_more : {A : Type 0} (n m : ℕ) (S : List (Frame A)) → n ≤ m → FitsFrames n S → FitsFrames m S
below_more n m [] le h = tt
below_more n m (Paren ∷ S) le h = tt
below_more n m (Before s ∷ S) le h = omega arith
below_more n m (Left x s ∷ S) le h = omega arith

-- levels end at 6
pub level_le_6 : (s : Sign) → level_of s ≤ 6
level_le_6 Or = omega arith
level_le_6 And = omega arith
level_le_6 Equal = omega arith
level_le_6 NotEqual = omega arith
level_le_6 Less = omega arith
level_le_6 Greater = omega arith
level_le_6 LessEqual = omega arith
level_le_6 GreaterEqual = omega arith
level_le_6 Plus = omega arith
level_le_6 Minus = omega arith
level_le_6 Star = omega arith
level_le_6 Slash = omega arith
level_le_6 Percent = omega arith
level_le_6 _ = omega arith

-- a sign before an operand is not an open parenthesis
pub not_open_of_prefix : (s : Sign) → is_prefix s ≡ true → is_open s ≡ false
not_open_of_prefix Open h = cc
not_open_of_prefix _ h = refl

-- an operator is not a closing parenthesis
pub not_close_of_level : (s : Sign) → 0 < level_of s → is_close s ≡ false
not_close_of_level Close h = absurd (omega arith)
not_close_of_level _ h = refl

module _ {A : Type 0} (m : Algebra A) where
  -- where the operand is tighter than the frames, none of them is closed
  pub reduction_below : (n : ℕ) (next : Continuation A) (x : A) (S : List (Frame A)) → n ≤ 6 → FitsFrames n S → reduction m n next x S ≡ next x S
  reduction_below n next x [] small b = refl
  reduction_below n next x (Paren ∷ S) small b = refl
  reduction_below n next x (Before s ∷ S) small b = absurd (omega arith)
  reduction_below n next x (Left l s ∷ S) small b = grind (arith, nat_tests)

  -- a left side whose operator is as tight as the level is closed
  reduction_left : (n : ℕ) (next : Continuation A) (x l : A) (s : Sign) (S : List (Frame A)) → n ≤ level_of s → reduction m n next x (Left l s ∷ S) ≡ reduction m n next (m.infix' l s x) S
  reduction_left n next x l s S h = grind (arith, nat_tests)

  -- a sign before an operand is always closed first
  pub after_before : (ws : List Symbol) (x : A) (s : Sign) (S : List (Frame A)) → after_operand m ws x (Before s ∷ S) ≡ after_operand m ws (m.prefix s x) S
  unfolding after_operand before_operand
  after_before [] x s S = refl
  after_before (Mark r ∷ ws) x s S = refl
  after_before (Decimal n ∷ ws) x s S = refl
  after_before (Identifier n ∷ ws) x s S = refl
  after_before (Foreign ∷ ws) x s S = refl

  -- a left side is closed where no tighter operator follows
  pub after_left : (ws : List Symbol) (x l : A) (s : Sign) (S : List (Frame A)) → 0 < level_of s → Stops (suc (level_of s)) ws → after_operand m ws x (Left l s ∷ S) ≡ after_operand m ws (m.infix' l s x) S
  unfolding after_operand before_operand
  after_left [] x l s S h stops = reduction_left LOOSEST_LEVEL at_bottom x l s S (omega arith)
  after_left (Mark r ∷ ws) x l s S h stops =
      let in_parens = reduction_left LOOSEST_LEVEL (at_paren m (after_operand m ws)) x l s S (omega arith) in
      let in_operator = reduction_left (level_of r) (λ y T. before_operand m ws (Left y r ∷ T)) x l s S (omega arith) in
      rw (in_parens, in_operator) refl
  after_left (Decimal n ∷ ws) x l s S h stops = refl
  after_left (Identifier n ∷ ws) x l s S h stops = refl
  after_left (Foreign ∷ ws) x l s S h stops = refl

  -- an operator after an operand on looser frames
  pub after_operator : (ws : List Symbol) (x : A) (s : Sign) (S : List (Frame A)) → 0 < level_of s → FitsFrames (level_of s) S → after_operand m (Mark s ∷ ws) x S ≡ before_operand m ws (Left x s ∷ S)
  unfolding after_operand before_operand
  after_operator ws x s S h b =
      let not_close : is_close s ≡ false = not_close_of_level s h in
      let is_operator : nat_lt 0 (level_of s) ≡ true = grind (arith, nat_tests) in
      rw (not_close, is_operator) (reduction_below (level_of s) (λ y T. before_operand m ws (Left y s ∷ T)) x S (level_le_6 s) b)

  -- what a tree spells is read as what it means, whatever follows
  pub reads : (t : Tree) (S : List (Frame A)) (k : List Symbol) → IsGrammatical t → FitsFrames (tightness t) S → Stops (suc (tightness t)) k → open_count S + depth_of t ≤ m.limit
      → before_operand m (spelling_of t ++ k) S ≡ after_operand m k (meaning_in m t) S
  unfolding after_operand before_operand
  reads (Literal n) S k g b stops d = refl
  reads (Named n) S k g b stops d = refl
  reads (Group t) S k g b stops d =
      let room : nat_lt (open_count S) m.limit ≡ true = grind (arith, nat_tests) in
      let inner = reads t (Paren ∷ S) (Mark Close ∷ k) g tt (omega arith) (omega arith) in
      rw room (ap (λ w. before_operand m w (Paren ∷ S)) (append_assoc (spelling_of t) (Mark Close ∷ []) k) ∙ inner)
  reads (Prefix s t) S k g b stops d =
      let signed : is_prefix s ≡ true = g.0 in
      let not_open : is_open s ≡ false = not_open_of_prefix s signed in
      let inner = reads t (Before s ∷ S) k g.2 g.1 (stops_more OPERAND_LEVEL (suc (tightness t)) k (omega arith) stops) d in
      rw (not_open, signed) (inner ∙ after_before k (meaning_in m t) s S)
  reads (Infix l s r) S k g b stops d =
      let left = reads l S (Mark s ∷ (spelling_of r ++ k)) g.3 (below_more (level_of s) (tightness l) S g.1 b) (omega arith) (omega arith) in
      let x = meaning_in m l in
      ap (λ w. before_operand m w S) (append_assoc (spelling_of l) (Mark s ∷ spelling_of r) k)
      ∙ (left
      ∙ (after_operator (spelling_of r ++ k) x s S g.0 b
      ∙ (reads r (Left x s ∷ S) k g.4 g.2 (stops_more (suc (level_of s)) (suc (tightness r)) k (omega arith) stops) (omega arith)
      ∙ after_left k (meaning_in m r) x s S g.0 stops)))
