-- What is read has a tree of the grammar.
use Rattle.std.proofs.Common.{◌≡◌, ℕ, ◌+◌, ◌≤◌, ◌<◌, Bool, true, false, nat_lt, nat_le, List, [], ◌∷◌, ◌++◌, refl, sym, ◌∙◌, ap, arith, append_assoc, ◌⊎◌, inl, inr}
use Rattle.std.proofs.lemmas.List.{append-nil}
use Rattle.std.specs.Prelude.{if◌then◌else◌, Result, Ok}
use Rattle.std.proofs.lemmas.Bool.Decides.{nat_tests}
use Rattle.rc_text.specs.declared.token.Sign.{Sign}
use Rattle.rc_text.specs.declared.token.Sign.TheVariants.{Open, Close}
use Rattle.rc_text.specs.declared.fault.EvalFault.{EvalFault}
use Rattle.rc_text.specs.Symbols.{Symbol, Decimal, Identifier, Mark, Foreign}
use Rattle.rc_text.specs.Grammar.{Tree, Literal, Named, Group, Prefix, Infix, spelling_of, LOOSEST_LEVEL, PREFIX_LEVEL, level_of, is_prefix, tightness, IsGrammatical, depth_of}
use Rattle.rc_text.specs.Reading.{Algebra, Frame, Paren, Before, Left, open_count, Continuation, reduction, at_bottom, at_paren, is_close, is_open, before_operand, after_operand, FitsFrames}
use Rattle.rc_text.proofs.ReadTrees.{meaning_in, below_more, level_le_6}

-- the symbols that were read before the operand that is wanted
abbrev pub before : List (Frame Tree) → List Symbol
before [] = []
before (Paren ∷ S) = before S ++ (Mark Open ∷ [])
before (Before s ∷ S) = before S ++ (Mark s ∷ [])
before (Left t s ∷ S) = before S ++ (spelling_of t ++ (Mark s ∷ []))

-- the tree means the value and is in the grammar, with room for its parentheses
pub record Means {A : Type 0} (m : Algebra A) (above : ℕ) (t : Tree) (x : A) : Type 0 where
  pub grammatical : IsGrammatical t
  pub value : meaning_in m t ≡ x
  pub room : above + depth_of t ≤ m.limit

-- the frames over values are those over trees
pub data Stand {A : Type 0} (m : Algebra A) : List (Frame Tree) → List (Frame A) → Type 0 where
  bottom : Stand m [] []
  paren : {T : List (Frame Tree)} {S : List (Frame A)} → Stand m T S → Stand m (Paren ∷ T) (Paren ∷ S)
  signed : {T : List (Frame Tree)} {S : List (Frame A)} (s : Sign) → is_prefix s ≡ true → Stand m T S → Stand m (Before s ∷ T) (Before s ∷ S)
  sided : {T : List (Frame Tree)} {S : List (Frame A)} (t : Tree) (x : A) (s : Sign) → 0 < level_of s → level_of s ≤ tightness t → FitsFrames (level_of s) S → Means m (open_count S) t x → Stand m T S → Stand m (Left t s ∷ T) (Left x s ∷ S)

-- the whole has a tree, where these symbols come before its rest
pub record Whole {A : Type 0} (m : Algebra A) (symbols : List Symbol) (x : A) : Type 0 where
  pub tree : Tree
  pub spells : spelling_of tree ≡ symbols
  pub means : Means m 0 tree x

-- a result has one value
same_ok : {A : Type 0} (x y : A) (r : Result A EvalFault) → r ≡ Ok x → r ≡ Ok y → x ≡ y
same_ok x y r h k = cc

-- which branch was taken
pub chosen : {A : Type 0} (b : Bool) (p q z : A) → (if b then p else q) ≡ z → ((b ≡ true) × (p ≡ z)) ⊎ ((b ≡ false) × (q ≡ z))
chosen true p q z h = inl (refl, h)
chosen false p q z h = inr (refl, h)

-- the operand after the closing of frames, with what goes on from there
pub record Rest {A : Type 0} (m : Algebra A) (n : ℕ) (next : Continuation A) (symbols : List Symbol) (y : A) : Type 0 where
  pub tree : Tree
  pub value : A
  pub trees : List (Frame Tree)
  pub frames : List (Frame A)
  pub means : Means m (open_count frames) tree value
  pub stand : Stand m trees frames
  pub below : FitsFrames (tightness tree) frames
  pub stops : FitsFrames n frames
  pub tight : n ≤ tightness tree
  pub spells : before trees ++ spelling_of tree ≡ symbols
  pub goes_on : next value frames ≡ Ok y

-- frames are no tighter than a prefix
below_prefix : {A : Type 0} (S : List (Frame A)) → FitsFrames PREFIX_LEVEL S
below_prefix [] = tt
below_prefix (Paren ∷ S) = tt
below_prefix (Before s ∷ S) = omega arith
below_prefix (Left x s ∷ S) = omega (arith, level_le_6 s)

-- the closing parenthesis
pub is_Close : (s : Sign) → is_close s ≡ true → s ≡ Close
is_Close Close h = refl
is_Close _ h = cc

-- the open parenthesis
pub is_Open : (s : Sign) → is_open s ≡ true → s ≡ Open
is_Open Open h = refl
is_Open _ h = cc

-- the group that a closing parenthesis ends
pub record Opened {A : Type 0} (m : Algebra A) (next : Continuation A) (symbols : List Symbol) (y : A) : Type 0 where
  pub tree : Tree
  pub value : A
  pub trees : List (Frame Tree)
  pub frames : List (Frame A)
  pub means : Means m (open_count frames) (Group tree) (m.group value)
  pub stand : Stand m trees frames
  pub spells : before trees ++ (Mark Open ∷ spelling_of tree) ≡ symbols
  pub goes_on : next (m.group value) frames ≡ Ok y

-- the symbols of a side and its operator in a row
regroup : (a b c d : List Symbol) (s : Symbol) (ws : List Symbol) → a ++ b ≡ c ++ d → (a ++ (b ++ (s ∷ []))) ++ ws ≡ c ++ (d ++ (s ∷ ws))
regroup a b c d s ws e = append_assoc a (b ++ (s ∷ [])) ws ∙ (ap (λ w. a ++ w) (append_assoc b (s ∷ []) ws) ∙ (sym (append_assoc a b (s ∷ ws)) ∙ (ap (λ w. w ++ (s ∷ ws)) e ∙ append_assoc c d (s ∷ ws))))

module _ {A : Type 0} (m : Algebra A) where
  -- for the same symbols
  renamed : {n : ℕ} {next : Continuation A} {y : A} (v w : List Symbol) → v ≡ w → Rest m n next v y → Rest m n next w y
  renamed v w e r = record { tree = r.tree; value = r.value; trees = r.trees; frames = r.frames; means = r.means; stand = r.stand; below = r.below; stops = r.stops; tight = r.tight; spells = r.spells ∙ e; goes_on = r.goes_on }

  -- frames that are closed make a tree
  pub reduced : (n : ℕ) (next : Continuation A) (t : Tree) (x y : A) {T : List (Frame Tree)} {S : List (Frame A)} → 0 < n → n ≤ PREFIX_LEVEL → Means m (open_count S) t x → Stand m T S → FitsFrames (tightness t) S → n ≤ tightness t
      → reduction m n next x S ≡ Ok y → Rest m n next (before T ++ spelling_of t) y
  reduced n next t x y pos small means bottom below tight h = record { tree = t; value = x; trees = []; frames = []; means = means; stand = bottom; below = below; stops = tt; tight = tight; spells = refl; goes_on = h }
  reduced n next t x y pos small means (paren {T} {S} stand) below tight h = record { tree = t; value = x; trees = Paren ∷ T; frames = Paren ∷ S; means = means; stand = paren stand; below = below; stops = tt; tight = tight; spells = refl; goes_on = h }
  reduced n next t x y pos small means (signed {T} {S} s is stand) below tight h =
      let value : meaning_in m (Prefix s t) ≡ m.prefix s x = ap (m.prefix s) means.value in
      renamed (before T ++ spelling_of (Prefix s t)) _ (sym (append_assoc (before T) (Mark s ∷ []) (spelling_of t)))
      (reduced n next (Prefix s t) (m.prefix s x) y pos small (record { grammatical = (is, below, means.grammatical); value = value; room = means.room }) stand (below_prefix S) small h)
  reduced n next t x y pos small means (sided {T} {S} u l s is_operator firm under left stand) below tight h =
      elim (chosen (nat_le n (level_of s)) _ _ (Ok y) h) [
        | inl (on, g) ↦
            let value : meaning_in m (Infix u s t) ≡ m.infix' l s x = ap (λ v. m.infix' v s (meaning_in m t)) left.value ∙ ap (m.infix' l s) means.value in
            renamed (before T ++ spelling_of (Infix u s t)) _ (ap (λ w. before T ++ w) (sym (append_assoc (spelling_of u) (Mark s ∷ []) (spelling_of t))) ∙ sym (append_assoc (before T) (spelling_of u ++ (Mark s ∷ [])) (spelling_of t)))
            (reduced n next (Infix u s t) (m.infix' l s x) y pos small (record { grammatical = (is_operator, firm, below, left.grammatical, means.grammatical); value = value; room = omega (arith, left.room, means.room) }) stand under (grind (arith, nat_tests)) g)
        | inr (off, g) ↦ record { tree = t; value = x; trees = Left u s ∷ T; frames = Left l s ∷ S; means = means; stand = sided u l s is_operator firm under left stand; below = below; stops = grind (arith, nat_tests); tight = tight; spells = refl; goes_on = g }
      ]

  -- an operand at the bottom is the whole
  whole_of_bottom : (t : Tree) (x y : A) {T : List (Frame Tree)} {S : List (Frame A)} → Stand m T S → Means m (open_count S) t x → at_bottom x S ≡ Ok y → Whole m (before T ++ spelling_of t) y
  whole_of_bottom t x y bottom means h = record { tree = t; spells = refl; means = record { grammatical = means.grammatical; value = means.value ∙ same_ok x y (Ok x) refl h; room = means.room } }
  whole_of_bottom t x y (paren stand) means h = cc
  whole_of_bottom t x y (signed s is stand) means h = cc
  whole_of_bottom t x y (sided u l s a b c d stand) means h = cc

  -- for the same symbols
  same_symbols : {y : A} (v w : List Symbol) → v ≡ w → Whole m v y → Whole m w y
  same_symbols v w e r = record { tree = r.tree; spells = r.spells ∙ e; means = r.means }

  -- a closing parenthesis makes a group
  opened : (next : Continuation A) (t : Tree) (x y : A) {T : List (Frame Tree)} {S : List (Frame A)} → Stand m T S → Means m (open_count S) t x → at_paren m next x S ≡ Ok y → Opened m next (before T ++ spelling_of t) y
  opened next t x y bottom means h = cc
  opened next t x y (paren {T} {S} stand) means h = record { tree = t; value = x; trees = T; frames = S; means = record { grammatical = means.grammatical; value = ap m.group means.value; room = omega (arith, means.room) }; stand = stand; spells = sym (append_assoc (before T) (Mark Open ∷ []) (spelling_of t)); goes_on = h }
  opened next t x y (signed s is stand) means h = cc
  opened next t x y (sided u l s a b c d stand) means h = cc

  mutual
    unfolding before_operand after_operand

    -- where an operand has to come
    pub whole_before : (ws : List Symbol) (y : A) {T : List (Frame Tree)} {S : List (Frame A)} → Stand m T S → open_count S ≤ m.limit → before_operand m ws S ≡ Ok y → Whole m (before T ++ ws) y
    whole_before [] y stand room h = cc
    whole_before (Decimal n ∷ ws) y {T} {S} stand room h =
        whole_after ws y (Literal n) (m.literal n) stand (record { grammatical = tt; value = refl; room = omega arith }) (omega arith) h
    whole_before (Identifier n ∷ ws) y {T} {S} stand room h =
        whole_after ws y (Named n) (m.named n) stand (record { grammatical = tt; value = refl; room = omega arith }) (omega arith) h
    whole_before (Mark s ∷ ws) y {T} {S} stand room h =
        elim (chosen (is_open s) _ _ (Ok y) h) [
          | inl (on, g) ↦ elim (chosen (nat_lt (open_count S) m.limit) _ _ (Ok y) g) [
            | inl (fits, f) ↦ same_symbols _ _ (append_assoc (before T) (Mark Open ∷ []) ws ∙ ap (λ r. before T ++ (Mark r ∷ ws)) (sym (is_Open s on))) (whole_before ws y (paren stand) (grind (arith, nat_tests)) f)
            | inr (full, f) ↦ cc
          ]
          | inr (off, g) ↦ elim (chosen (is_prefix s) _ _ (Ok y) g) [
            | inl (is, f) ↦ same_symbols _ _ (append_assoc (before T) (Mark s ∷ []) ws) (whole_before ws y (signed s is stand) room f)
            | inr (not, f) ↦ cc
          ]
        ]
    whole_before (Foreign ∷ ws) y stand room h = cc

    -- after an operand
    pub whole_after : (ws : List Symbol) (y : A) (t : Tree) (x : A) {T : List (Frame Tree)} {S : List (Frame A)} → Stand m T S → Means m (open_count S) t x → PREFIX_LEVEL ≤ tightness t → after_operand m ws x S ≡ Ok y → Whole m (before T ++ (spelling_of t ++ ws)) y
    whole_after [] y t x {T} {S} stand means tight h =
        let r = reduced LOOSEST_LEVEL at_bottom t x y (omega arith) (omega arith) means stand (below_more PREFIX_LEVEL (tightness t) S tight (below_prefix S)) (omega arith) h in
        same_symbols _ _ (r.spells ∙ ap (λ w. before T ++ w) (sym (append-nil (spelling_of t)))) (whole_of_bottom r.tree r.value y r.stand r.means r.goes_on)
    whole_after (Mark s ∷ ws) y t x {T} {S} stand means tight h =
        let below : FitsFrames (tightness t) S = below_more PREFIX_LEVEL (tightness t) S tight (below_prefix S) in
        elim (chosen (is_close s) _ _ (Ok y) h) [
          | inl (on, g) ↦
              let r = reduced LOOSEST_LEVEL (at_paren m (after_operand m ws)) t x y (omega arith) (omega arith) means stand below (omega arith) g in
              let o = opened (after_operand m ws) r.tree r.value y r.stand r.means r.goes_on in
              same_symbols _ _ (ap (λ w. before o.trees ++ (Mark Open ∷ w)) (append_assoc (spelling_of o.tree) (Mark Close ∷ []) ws)
              ∙ (sym (append_assoc (before o.trees) (Mark Open ∷ spelling_of o.tree) (Mark Close ∷ ws))
              ∙ (ap (λ w. w ++ (Mark Close ∷ ws)) (o.spells ∙ r.spells) ∙ (append_assoc (before T) (spelling_of t) (Mark Close ∷ ws) ∙ ap (λ z. before T ++ (spelling_of t ++ (Mark z ∷ ws))) (sym (is_Close s on))))))
              (whole_after ws y (Group o.tree) (m.group o.value) o.stand o.means (omega arith) o.goes_on)
          | inr (off, g) ↦ elim (chosen (nat_lt 0 (level_of s)) _ _ (Ok y) g) [
            | inl (is, f) ↦
                let pos : 0 < level_of s = grind (arith, nat_tests) in
                let r = reduced (level_of s) (λ z U. before_operand m ws (Left z s ∷ U)) t x y pos (omega (arith, level_le_6 s)) means stand below (omega (arith, level_le_6 s)) f in
                same_symbols _ _ (regroup (before r.trees) (spelling_of r.tree) (before T) (spelling_of t) (Mark s) ws r.spells) (whole_before ws y (sided r.tree r.value s pos r.tight r.stops r.means r.stand) (omega (arith, r.means.room)) r.goes_on)
            | inr (not, f) ↦ cc
          ]
        ]
    whole_after (Decimal n ∷ ws) y t x stand means tight h = cc
    whole_after (Identifier n ∷ ws) y t x stand means tight h = cc
    whole_after (Foreign ∷ ws) y t x stand means tight h = cc
