-- Where reading ends in a fault, the expression has it.
use Rattle.std.proofs.Common.{◌≡◌, ℕ, suc, ◌+◌, ◌-◌, ◌≤◌, true, false, nat_lt, nat_le, List, [], ◌∷◌, refl, sym, ◌∙◌, ap, subst, arith, ◌⊎◌, inl, inr}
use Rattle.std.specs.Prelude.{Result, Ok, Err}
use Rattle.std.proofs.lemmas.Bool.{or_left, or_right}
use Rattle.std.proofs.lemmas.Bool.Decides.{nat_tests}
use Rattle.rc_text.specs.declared.token.Sign.{Sign}
use Rattle.rc_text.specs.declared.token.Sign.TheVariants.{Open, Close}
use Rattle.rc_text.specs.declared.fault.EvalFault.{EvalFault}
use Rattle.rc_text.specs.declared.fault.EvalFault.TheVariants.{Syntax, TooDeep}
use Rattle.rc_text.specs.Symbols.{Symbol, Decimal, Identifier, Mark, Foreign}
use Rattle.rc_text.specs.Grammar.{spelling_of, LOOSEST_LEVEL, level_of, is_prefix, depth_of}
use Rattle.rc_text.specs.Values.{DEEPEST, opens_too_many, HasNoTree}
use Rattle.rc_text.specs.Reading.{Algebra, Frame, Paren, Before, Left, open_count, Continuation, reduction, at_bottom, at_paren, is_close, is_open, before_operand, after_operand}
use Rattle.rc_text.proofs.ReadTrees.{meaning_in}
use Rattle.rc_text.proofs.OneTree.{reads_whole}
use Rattle.rc_text.proofs.TreesRead.{chosen}

-- a sign other than a parenthesis opens nothing
passed_over : (s : Sign) (n : ℕ) (ws : List Symbol) → is_open s ≡ false → is_close s ≡ false → opens_too_many n (Mark s ∷ ws) ≡ opens_too_many n ws
passed_over Open n ws o c = cc
passed_over Close n ws o c = cc
passed_over _ n ws o c = refl

-- a sign before an operand is not a closing parenthesis
not_close_of_prefix : (s : Sign) → is_prefix s ≡ true → is_close s ≡ false
not_close_of_prefix Close h = cc
not_close_of_prefix _ h = refl

-- an operator is not an open parenthesis
not_open_of_level : (s : Sign) → nat_lt 0 (level_of s) ≡ true → is_open s ≡ false
not_open_of_level Open h = cc
not_open_of_level _ h = refl

-- a sixty-fifth parenthesis, or a later one
opened : (s : Sign) (n : ℕ) (ws : List Symbol) → is_open s ≡ true → (DEEPEST ≤ n) ⊎ (opens_too_many (suc n) ws ≡ true) → opens_too_many n (Mark s ∷ ws) ≡ true
opened Open n ws o (inl full) = or_left (nat_le DEEPEST n) (opens_too_many (suc n) ws) (grind (arith, nat_tests))
opened Open n ws o (inr later) = or_right (nat_le DEEPEST n) (opens_too_many (suc n) ws) later
opened _ n ws o h = cc

module _ {A : Type 0} (m : Algebra A) where
  -- a fault after the closing of frames; that closes no parenthesis
  reduced_fault : (n : ℕ) (next : Continuation A) (x : A) (S : List (Frame A)) (e : EvalFault) → reduction m n next x S ≡ Err e → (y : A) × (T : List (Frame A)) × (open_count T ≡ open_count S) × (next y T ≡ Err e)
  reduced_fault n next x [] e h = (x, [], refl, h)
  reduced_fault n next x (Paren ∷ S) e h = (x, Paren ∷ S, refl, h)
  reduced_fault n next x (Before s ∷ S) e h = reduced_fault n next (m.prefix s x) S e h
  reduced_fault n next x (Left l s ∷ S) e h =
      elim (chosen (nat_le n (level_of s)) _ _ (Err e) h) [
        | inl (on, g) ↦ reduced_fault n next (m.infix' l s x) S e g
        | inr (off, g) ↦ (x, Left l s ∷ S, refl, g)
      ]

  -- at the end nothing is too deep
  at_bottom_not_deep : (x : A) (S : List (Frame A)) → at_bottom x S ≡ Err TooDeep → ⊥
  at_bottom_not_deep x [] h = cc
  at_bottom_not_deep x (f ∷ S) h = cc

  -- at a closing parenthesis one less is open
  at_paren_deep : (next : Continuation A) (x : A) (S : List (Frame A)) → at_paren m next x S ≡ Err TooDeep → (y : A) × (T : List (Frame A)) × (open_count T ≡ open_count S - 1) × (next y T ≡ Err TooDeep)
  at_paren_deep next x [] h = cc
  at_paren_deep next x (Paren ∷ S) h = (m.group x, S, omega arith, h)
  at_paren_deep next x (Before s ∷ S) h = cc
  at_paren_deep next x (Left l s ∷ S) h = cc

  -- a closing parenthesis, and one too many later
  closed : (s : Sign) (n : ℕ) (ws : List Symbol) → is_close s ≡ true → opens_too_many (n - 1) ws ≡ true → opens_too_many n (Mark s ∷ ws) ≡ true
  closed Close n ws c h = h
  closed _ n ws c h = cc

  mutual
    unfolding after_operand before_operand

    -- where an operand has to come and the reading ends as too deep, too many parentheses are
    -- opened
    pub before_too_deep : (ws : List Symbol) (S : List (Frame A)) → m.limit ≡ DEEPEST → before_operand m ws S ≡ Err TooDeep → opens_too_many (open_count S) ws ≡ true
    before_too_deep [] S l h = cc
    before_too_deep (Decimal n ∷ ws) S l h = after_too_deep ws (m.literal n) S l h
    before_too_deep (Identifier n ∷ ws) S l h = after_too_deep ws (m.named n) S l h
    before_too_deep (Mark s ∷ ws) S l h =
        elim (chosen (is_open s) _ _ (Err TooDeep) h) [
          | inl (on, g) ↦ elim (chosen (nat_lt (open_count S) m.limit) _ _ (Err TooDeep) g) [
            | inl (fits, f) ↦ opened s (open_count S) ws on (inr (before_too_deep ws (Paren ∷ S) l f))
            | inr (full, f) ↦ opened s (open_count S) ws on (inl (grind (arith, nat_tests)))
          ]
          | inr (off, g) ↦ elim (chosen (is_prefix s) _ _ (Err TooDeep) g) [
            | inl (is, f) ↦ passed_over s (open_count S) ws off (not_close_of_prefix s is) ∙ before_too_deep ws (Before s ∷ S) l f
            | inr (not, f) ↦ cc
          ]
        ]
    before_too_deep (Foreign ∷ ws) S l h = cc

    -- the same after an operand
    pub after_too_deep : (ws : List Symbol) (x : A) (S : List (Frame A)) → m.limit ≡ DEEPEST → after_operand m ws x S ≡ Err TooDeep → opens_too_many (open_count S) ws ≡ true
    after_too_deep [] x S l h = let r = reduced_fault LOOSEST_LEVEL at_bottom x S TooDeep h in absurd (at_bottom_not_deep r.0 r.1 r.3)
    after_too_deep (Mark s ∷ ws) x S l h =
        elim (chosen (is_close s) _ _ (Err TooDeep) h) [
          | inl (on, g) ↦
              let r = reduced_fault LOOSEST_LEVEL (at_paren m (after_operand m ws)) x S TooDeep g in
              let p = at_paren_deep (after_operand m ws) r.0 r.1 r.3 in
              closed s (open_count S) ws on (ap (λ n. opens_too_many n ws) (ap (λ n. n - 1) (sym r.2) ∙ sym p.2) ∙ after_too_deep ws p.0 p.1 l p.3)
          | inr (off, g) ↦ elim (chosen (nat_lt 0 (level_of s)) _ _ (Err TooDeep) g) [
            | inl (is, f) ↦
                let r = reduced_fault (level_of s) (λ y T. before_operand m ws (Left y s ∷ T)) x S TooDeep f in
                passed_over s (open_count S) ws (not_open_of_level s is) off ∙ (ap (λ n. opens_too_many n ws) (sym r.2) ∙ before_too_deep ws (Left r.0 s ∷ r.1) l r.3)
            | inr (not, f) ↦ cc
          ]
        ]
    after_too_deep (Decimal n ∷ ws) x S l h = cc
    after_too_deep (Identifier n ∷ ws) x S l h = cc
    after_too_deep (Foreign ∷ ws) x S l h = cc

-- the faults that end the reading
abbrev pub EndsReading : EvalFault → Type 0
EndsReading Syntax = Unit {0}
EndsReading TooDeep = Unit {0}
EndsReading e = ⊥

-- a result has one fault
same_err : {A : Type 0} (e f : EvalFault) (r : Result A EvalFault) → r ≡ Err e → r ≡ Err f → e ≡ f
same_err e f r h k = cc

-- a fault that ends the reading is the fault in question
ends : {A : Type 0} (f e : EvalFault) (r : Result A EvalFault) → EndsReading f → r ≡ Err f → r ≡ Err e → EndsReading e
ends f e r h p q = subst EndsReading (same_err f e r p q) h

module _ {A : Type 0} (m : Algebra A) where
  -- at the end the fault is Syntax
  bottom_ends : (x : A) (S : List (Frame A)) (e : EvalFault) → at_bottom x S ≡ Err e → EndsReading e
  bottom_ends x [] e h = cc
  bottom_ends x (f ∷ S) e h = ends Syntax e (Err Syntax) tt refl h

  -- at a closing parenthesis the fault is Syntax or a later one
  paren_ends : (next : Continuation A) → ((y : A) (T : List (Frame A)) (e : EvalFault) → next y T ≡ Err e → EndsReading e) → (x : A) (S : List (Frame A)) (e : EvalFault) → at_paren m next x S ≡ Err e → EndsReading e
  paren_ends next go x [] e h = ends Syntax e (Err Syntax) tt refl h
  paren_ends next go x (Paren ∷ S) e h = go (m.group x) S e h
  paren_ends next go x (Before s ∷ S) e h = ends Syntax e (Err Syntax) tt refl h
  paren_ends next go x (Left l s ∷ S) e h = ends Syntax e (Err Syntax) tt refl h

  mutual
    unfolding after_operand before_operand

    -- reading ends in no other fault
    pub before_ends : (ws : List Symbol) (S : List (Frame A)) (e : EvalFault) → before_operand m ws S ≡ Err e → EndsReading e
    before_ends [] S e h = ends Syntax e (Err Syntax) tt refl h
    before_ends (Decimal n ∷ ws) S e h = after_ends ws (m.literal n) S e h
    before_ends (Identifier n ∷ ws) S e h = after_ends ws (m.named n) S e h
    before_ends (Mark s ∷ ws) S e h =
        elim (chosen (is_open s) _ _ (Err e) h) [
          | inl (on, g) ↦ elim (chosen (nat_lt (open_count S) m.limit) _ _ (Err e) g) [
            | inl (fits, f) ↦ before_ends ws (Paren ∷ S) e f
            | inr (full, f) ↦ ends TooDeep e (Err TooDeep) tt refl f
          ]
          | inr (off, g) ↦ elim (chosen (is_prefix s) _ _ (Err e) g) [
            | inl (is, f) ↦ before_ends ws (Before s ∷ S) e f
            | inr (not, f) ↦ ends Syntax e (Err Syntax) tt refl f
          ]
        ]
    before_ends (Foreign ∷ ws) S e h = ends Syntax e (Err Syntax) tt refl h

    -- the same after an operand
    pub after_ends : (ws : List Symbol) (x : A) (S : List (Frame A)) (e : EvalFault) → after_operand m ws x S ≡ Err e → EndsReading e
    after_ends [] x S e h = let r = reduced_fault m LOOSEST_LEVEL at_bottom x S e h in bottom_ends r.0 r.1 e r.3
    after_ends (Mark s ∷ ws) x S e h =
        elim (chosen (is_close s) _ _ (Err e) h) [
          | inl (on, g) ↦ let r = reduced_fault m LOOSEST_LEVEL (at_paren m (after_operand m ws)) x S e g in paren_ends (after_operand m ws) (after_ends ws) r.0 r.1 e r.3
          | inr (off, g) ↦ elim (chosen (nat_lt 0 (level_of s)) _ _ (Err e) g) [
            | inl (is, f) ↦ let r = reduced_fault m (level_of s) (λ y T. before_operand m ws (Left y s ∷ T)) x S e f in before_ends ws (Left r.0 s ∷ r.1) e r.3
            | inr (not, f) ↦ ends Syntax e (Err Syntax) tt refl f
          ]
        ]
    after_ends (Decimal n ∷ ws) x S e h = ends Syntax e (Err Syntax) tt refl h
    after_ends (Identifier n ∷ ws) x S e h = ends Syntax e (Err Syntax) tt refl h
    after_ends (Foreign ∷ ws) x S e h = ends Syntax e (Err Syntax) tt refl h

-- the same parts with room for more parentheses
abbrev pub widened : {A : Type 0} → Algebra A → ℕ → Algebra A
widened m limit = record { limit = limit; literal = m.literal; named = m.named; group = m.group; prefix = m.prefix; infix' = m.infix' }

module _ {A : Type 0} (m : Algebra A) (limit : ℕ) (wider : m.limit ≤ limit) where
  -- the same after the closing of frames
  reduced_syntax : (n : ℕ) (next next' : Continuation A) (x : A) (S : List (Frame A)) → ((y : A) (T : List (Frame A)) → next y T ≡ Err Syntax → next' y T ≡ Err Syntax)
      → reduction m n next x S ≡ Err Syntax → reduction (widened m limit) n next' x S ≡ Err Syntax
  reduced_syntax n next next' x [] go h = go x [] h
  reduced_syntax n next next' x (Paren ∷ S) go h = go x (Paren ∷ S) h
  reduced_syntax n next next' x (Before s ∷ S) go h = reduced_syntax n next next' (m.prefix s x) S go h
  reduced_syntax n next next' x (Left l s ∷ S) go h =
      elim (chosen (nat_le n (level_of s)) _ _ (Err Syntax) h) [
        | inl (on, g) ↦ rw on (reduced_syntax n next next' (m.infix' l s x) S go g)
        | inr (off, g) ↦ rw off (go x (Left l s ∷ S) g)
      ]

  -- the same at a closing parenthesis
  at_paren_syntax : (next next' : Continuation A) → ((y : A) (T : List (Frame A)) → next y T ≡ Err Syntax → next' y T ≡ Err Syntax) → (x : A) (S : List (Frame A)) → at_paren m next x S ≡ Err Syntax → at_paren (widened m limit) next' x S ≡ Err Syntax
  at_paren_syntax next next' go x [] h = refl
  at_paren_syntax next next' go x (Paren ∷ S) h = go (m.group x) S h
  at_paren_syntax next next' go x (Before s ∷ S) h = refl
  at_paren_syntax next next' go x (Left l s ∷ S) h = refl

  -- the same at the end
  at_bottom_syntax : (y : A) (T : List (Frame A)) → at_bottom y T ≡ Err Syntax → at_bottom y T ≡ Err Syntax
  at_bottom_syntax y T h = h

  mutual
    unfolding after_operand before_operand

    -- a fault of the grammar is one also where more parentheses may be open
    pub before_syntax : (ws : List Symbol) (S : List (Frame A)) → before_operand m ws S ≡ Err Syntax → before_operand (widened m limit) ws S ≡ Err Syntax
    before_syntax [] S h = refl
    before_syntax (Decimal n ∷ ws) S h = after_syntax ws (m.literal n) S h
    before_syntax (Identifier n ∷ ws) S h = after_syntax ws (m.named n) S h
    before_syntax (Mark s ∷ ws) S h =
        elim (chosen (is_open s) _ _ (Err Syntax) h) [
          | inl (on, g) ↦ elim (chosen (nat_lt (open_count S) m.limit) _ _ (Err Syntax) g) [
            | inl (fits, f) ↦ let room : nat_lt (open_count S) limit ≡ true = grind (arith, nat_tests) in rw (on, room) (before_syntax ws (Paren ∷ S) f)
            | inr (full, f) ↦ cc
          ]
          | inr (off, g) ↦ elim (chosen (is_prefix s) _ _ (Err Syntax) g) [
            | inl (is, f) ↦ rw (off, is) (before_syntax ws (Before s ∷ S) f)
            | inr (not, f) ↦ rw (off, not) refl
          ]
        ]
    before_syntax (Foreign ∷ ws) S h = refl

    -- the same after an operand
    pub after_syntax : (ws : List Symbol) (x : A) (S : List (Frame A)) → after_operand m ws x S ≡ Err Syntax → after_operand (widened m limit) ws x S ≡ Err Syntax
    after_syntax [] x S h = reduced_syntax LOOSEST_LEVEL at_bottom at_bottom x S at_bottom_syntax h
    after_syntax (Mark s ∷ ws) x S h =
        elim (chosen (is_close s) _ _ (Err Syntax) h) [
          | inl (on, g) ↦ rw on (reduced_syntax LOOSEST_LEVEL (at_paren m (after_operand m ws)) (at_paren (widened m limit) (after_operand (widened m limit) ws)) x S (at_paren_syntax (after_operand m ws) (after_operand (widened m limit) ws) (after_syntax ws)) g)
          | inr (off, g) ↦ elim (chosen (nat_lt 0 (level_of s)) _ _ (Err Syntax) g) [
            | inl (is, f) ↦ rw (off, is) (reduced_syntax (level_of s) (λ y T. before_operand m ws (Left y s ∷ T)) (λ y T. before_operand (widened m limit) ws (Left y s ∷ T)) x S (λ y T. before_syntax ws (Left y s ∷ T)) f)
            | inr (not, f) ↦ rw (off, not) refl
          ]
        ]
    after_syntax (Decimal n ∷ ws) x S h = refl
    after_syntax (Identifier n ∷ ws) x S h = refl
    after_syntax (Foreign ∷ ws) x S h = refl

-- where reading finds no expression, there is no tree
pub no_tree : {A : Type 0} (m : Algebra A) (ws : List Symbol) → before_operand m ws [] ≡ Err Syntax → HasNoTree ws
no_tree m ws h t g e =
    let wide = widened m (m.limit + depth_of t) in
    let refused : before_operand wide ws [] ≡ Err Syntax = before_syntax m (m.limit + depth_of t) (omega arith) ws [] h in
    let read : before_operand wide (spelling_of t) [] ≡ Ok (meaning_in wide t) = reads_whole wide t g (omega arith) in
    let same : before_operand wide (spelling_of t) [] ≡ before_operand wide ws [] = ap (λ w. before_operand wide w []) e in
    cc
