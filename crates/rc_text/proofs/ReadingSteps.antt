-- The steps of the reading, as the functions that read an expression take them.
use Rattle.std.proofs.Common.{◌≡◌, ℕ, suc, ◌+◌, ◌≤◌, ◌<◌, Bool, true, false, cond, nat_lt, List, [], ◌∷◌, take, drop, refl, sym, ◌∙◌, ap, arith}
use Rattle.std.specs.Prelude.{pos, Ok, Err}
use Rattle.std.proofs.Math.Numerals.{one-add}
use Rattle.std.specs.List.{prefix_len}
use Rattle.std.proofs.lemmas.Bool.Decides.{nat_tests}
use Rattle.rc_text.specs.declared.token.Sign.{Sign}
use Rattle.rc_text.specs.declared.token.Sign.TheVariants.{Open, Close}
use Rattle.rc_text.specs.declared.token.Kind.{Kind}
use Rattle.rc_text.specs.declared.token.Kind.TheVariants.{Name, Number, Sign as SignOf, Assert, LineEnd}
use Rattle.rc_text.specs.declared.token.Token.{Token}
use Rattle.rc_text.specs.declared.fault.EvalFault.{EvalFault}
use Rattle.rc_text.specs.declared.fault.EvalFault.TheVariants.{Syntax, TooDeep}
use Rattle.rc_text.specs.Symbols.{Symbol, Decimal, Identifier, Mark, Foreign, symbol_of, symbols_of, symbol_of_kind, name_of}
use Rattle.rc_text.specs.Grammar.{LOOSEST_LEVEL, OPERAND_LEVEL, level_of, is_prefix}
use Rattle.rc_text.specs.Values.{Meaning, Outcome, name_outcome, prefix_outcome, infix_outcome, DEEPEST}
use Rattle.rc_text.specs.Reading.{Frame, Paren, Before, Left, open_count, is_open, before_operand, after_operand, FitsFrames, Stops, ReadsOperand, RefusesOperand, BeginsWithoutClose, values, is_prefix_kind, signed_by, signed_outcome}
use Rattle.rc_text.proofs.ReadTrees.{after_before, after_left, after_operator, not_open_of_prefix, below_more, stops_more}

module _ (names : Meaning) (depth : ℕ) where
  -- a number is read
  pub number_read : (n : ℕ) (ws : List Symbol) → ReadsOperand names OPERAND_LEVEL depth (Decimal n ∷ ws) (Ok (pos n)) ws
  unfolding before_operand after_operand
  number_read n ws S b o = refl

  -- a name is read
  pub name_read : (name : List ℕ) (ws : List Symbol) → ReadsOperand names OPERAND_LEVEL depth (Identifier name ∷ ws) (name_outcome (names name)) ws
  unfolding before_operand after_operand
  name_read name ws S b o = refl

  -- no operand at the end
  pub nothing_refused : RefusesOperand names OPERAND_LEVEL depth [] Syntax
  unfolding before_operand after_operand
  nothing_refused S b o = refl

  -- no operand at a token that no expression has
  pub foreign_refused : (ws : List Symbol) → RefusesOperand names OPERAND_LEVEL depth (Foreign ∷ ws) Syntax
  unfolding before_operand after_operand
  foreign_refused ws S b o = refl

  -- a sign that neither opens a group nor comes before an operand
  pub sign_refused : (s : Sign) (ws : List Symbol) → (s ≡ Open → ⊥) → is_prefix s ≡ false → RefusesOperand names OPERAND_LEVEL depth (Mark s ∷ ws) Syntax
  unfolding before_operand after_operand
  sign_refused s ws n p S b o = let e : is_open s ≡ false = not_open s n in rw (e, p) refl where
    not_open : (s : Sign) → (s ≡ Open → ⊥) → is_open s ≡ false
    not_open Open n = absurd (n refl)
    not_open _ n = refl

  -- a sign before an operand
  at_prefix : (s : Sign) (ws : List Symbol) (S : List (Frame Outcome)) → is_prefix s ≡ true → before_operand (values names DEEPEST) (Mark s ∷ ws) S ≡ before_operand (values names DEEPEST) ws (Before s ∷ S)
  unfolding before_operand after_operand
  at_prefix s ws S p = let e : is_open s ≡ false = not_open_of_prefix s p in rw (e, p) refl

  -- a sign and the operand after it
  prefix_read : (s : Sign) (ws rest : List Symbol) (x : Outcome) → is_prefix s ≡ true → ReadsOperand names OPERAND_LEVEL depth ws x rest → ReadsOperand names OPERAND_LEVEL depth (Mark s ∷ ws) (prefix_outcome s x) rest
  prefix_read s ws rest x p h S b o = at_prefix s ws S p ∙ (h (Before s ∷ S) (omega arith) o ∙ after_before (values names DEEPEST) rest x s S)

  -- a sign without an operand after it
  prefix_refused : (s : Sign) (ws : List Symbol) (e : EvalFault) → is_prefix s ≡ true → RefusesOperand names OPERAND_LEVEL depth ws e → RefusesOperand names OPERAND_LEVEL depth (Mark s ∷ ws) e
  prefix_refused s ws e p h S b o = at_prefix s ws S p ∙ h (Before s ∷ S) (omega arith) o

  -- the same for a token that is such a sign
  kind_read : (k : Kind) (name : List ℕ) (ws rest : List Symbol) (x : Outcome) → is_prefix_kind k ≡ true → ReadsOperand names OPERAND_LEVEL depth ws x rest → ReadsOperand names OPERAND_LEVEL depth (symbol_of_kind k name ∷ ws) (signed_by k x) rest
  kind_read (SignOf s) name ws rest x p h = prefix_read s ws rest x p h
  kind_read Name name ws rest x p h = cc
  kind_read (Number n) name ws rest x p h = cc
  kind_read Assert name ws rest x p h = cc
  kind_read LineEnd name ws rest x p h = cc

  -- the same without an operand
  kind_refused : (k : Kind) (name : List ℕ) (ws : List Symbol) (e : EvalFault) → is_prefix_kind k ≡ true → RefusesOperand names OPERAND_LEVEL depth ws e → RefusesOperand names OPERAND_LEVEL depth (symbol_of_kind k name ∷ ws) e
  kind_refused (SignOf s) name ws e p h = prefix_refused s ws e p h
  kind_refused Name name ws e p h = cc
  kind_refused (Number n) name ws e p h = cc
  kind_refused Assert name ws e p h = cc
  kind_refused LineEnd name ws e p h = cc

  -- an open parenthesis with room for it
  at_group : (ws : List Symbol) (S : List (Frame Outcome)) → open_count S ≡ depth → depth < 64 → before_operand (values names DEEPEST) (Mark Open ∷ ws) S ≡ before_operand (values names DEEPEST) ws (Paren ∷ S)
  unfolding before_operand after_operand
  at_group ws S o lt = let e : nat_lt (open_count S) 64 ≡ true = grind (arith, nat_tests) in rw e refl

  -- one without room
  pub group_full : (ws : List Symbol) → depth ≡ 64 → RefusesOperand names OPERAND_LEVEL depth (Mark Open ∷ ws) TooDeep
  unfolding before_operand after_operand
  group_full ws full S b o = let e : nat_lt (open_count S) 64 ≡ false = grind (arith, nat_tests) in rw e refl

  -- a group is read
  pub group_read : (ws front rest : List Symbol) (x : Outcome) → depth < 64 → ReadsOperand names LOOSEST_LEVEL (depth + 1) ws x front → front ≡ Mark Close ∷ rest → ReadsOperand names OPERAND_LEVEL depth (Mark Open ∷ ws) x rest
  unfolding before_operand after_operand
  group_read ws front rest x lt h e S b o = at_group ws S o lt ∙ (h (Paren ∷ S) tt (omega arith) ∙ ap (λ w. after_operand (values names DEEPEST) w x (Paren ∷ S)) e)

  -- a group without an expression
  pub group_refused : (ws : List Symbol) (e : EvalFault) → depth < 64 → RefusesOperand names LOOSEST_LEVEL (depth + 1) ws e → RefusesOperand names OPERAND_LEVEL depth (Mark Open ∷ ws) e
  group_refused ws e lt h S b o = at_group ws S o lt ∙ h (Paren ∷ S) tt (omega arith)

  -- after an operand that no operator follows, and no parenthesis closes
  stuck : (ws : List Symbol) (x : Outcome) (S : List (Frame Outcome)) → Stops LOOSEST_LEVEL ws → BeginsWithoutClose ws → after_operand (values names DEEPEST) ws x (Paren ∷ S) ≡ Err Syntax
  unfolding before_operand after_operand
  stuck [] x S stops not_close = refl
  stuck (Mark s ∷ ws) x S stops not_close = let e : nat_lt 0 (level_of s) ≡ false = grind (arith, nat_tests) in rw (not_close, e) refl
  stuck (Decimal n ∷ ws) x S stops not_close = refl
  stuck (Identifier n ∷ ws) x S stops not_close = refl
  stuck (Foreign ∷ ws) x S stops not_close = refl

  -- a group that is not closed
  pub group_not_closed : (ws rest : List Symbol) (x : Outcome) → depth < 64 → ReadsOperand names LOOSEST_LEVEL (depth + 1) ws x rest → Stops LOOSEST_LEVEL rest → BeginsWithoutClose rest → RefusesOperand names OPERAND_LEVEL depth (Mark Open ∷ ws) Syntax
  group_not_closed ws rest x lt h stops not_close S b o = at_group ws S o lt ∙ (h (Paren ∷ S) tt (omega arith) ∙ stuck rest x S stops not_close)

  -- an operator after what was read
  module _ (level n : ℕ) (symbols front after : List Symbol) (l : Outcome) (s : Sign) (is : front ≡ Mark s ∷ after) (at_level : n ≡ level_of s) (pos : 0 < level) (tight : level ≤ level_of s) (left : ReadsOperand names level depth symbols l front) where
    -- the operator is read
    at_operator : (S : List (Frame Outcome)) → FitsFrames level S → open_count S ≡ depth → before_operand (values names DEEPEST) symbols S ≡ before_operand (values names DEEPEST) after (Left l s ∷ S)
    at_operator S b o = left S b o ∙ (ap (λ w. after_operand (values names DEEPEST) w l S) is ∙ after_operator (values names DEEPEST) after l s S (omega arith) (below_more level (level_of s) S tight b))

    -- with the right side
    pub more_read : (rest : List Symbol) (r : Outcome) → ReadsOperand names (n + 1) depth after r rest → Stops (n + 1) rest → ReadsOperand names level depth symbols (infix_outcome l s r) rest
    more_read rest r right stops S b o =
        at_operator S b o ∙ (right (Left l s ∷ S) (omega arith) o ∙ after_left (values names DEEPEST) rest r l s S (omega arith) (stops_more (n + 1) (suc (level_of s)) rest (omega arith) stops))

    -- without a right side
    pub more_refused : (e : EvalFault) → RefusesOperand names (n + 1) depth after e → RefusesOperand names level depth symbols e
    more_refused e right S b o = at_operator S b o ∙ right (Left l s ∷ S) (omega arith) o

  -- an operand with a run of signs before it
  module _ (source : List ℕ) where
    -- one sign more
    run_step : (t : Token) (ts : List Token) (n : ℕ) (x : Outcome) (rest : List Symbol) (b : Bool) → is_prefix_kind t.kind ≡ b
        → (ReadsOperand names OPERAND_LEVEL depth (symbols_of source (drop n ts)) x rest → ReadsOperand names OPERAND_LEVEL depth (symbols_of source ts) (signed_outcome (take n ts) x) rest)
        → ReadsOperand names OPERAND_LEVEL depth (symbols_of source (drop (cond b (1 + n) 0) (t ∷ ts))) x rest
        → ReadsOperand names OPERAND_LEVEL depth (symbols_of source (t ∷ ts)) (signed_outcome (take (cond b (1 + n) 0) (t ∷ ts)) x) rest
    run_step t ts n x rest true e more h = rw one-add (kind_read t.kind (name_of source t) (symbols_of source ts) rest (signed_outcome (take n ts) x) e (more (rw one-add at h)))
    run_step t ts n x rest false e more h = h

    -- the whole run and its operand
    pub run_read : (ts : List Token) (x : Outcome) (rest : List Symbol)
        → ReadsOperand names OPERAND_LEVEL depth (symbols_of source (drop (prefix_len (λ t. is_prefix_kind t.kind) ts) ts)) x rest
        → ReadsOperand names OPERAND_LEVEL depth (symbols_of source ts) (signed_outcome (take (prefix_len (λ t. is_prefix_kind t.kind) ts) ts) x) rest
    run_read [] x rest h = h
    run_read (t ∷ ts) x rest h = run_step t ts (prefix_len (λ t. is_prefix_kind t.kind) ts) x rest (is_prefix_kind t.kind) refl (run_read ts x rest) h

    -- one sign more
    refused_step : (t : Token) (ts : List Token) (n : ℕ) (e : EvalFault) (b : Bool) → is_prefix_kind t.kind ≡ b
        → (RefusesOperand names OPERAND_LEVEL depth (symbols_of source (drop n ts)) e → RefusesOperand names OPERAND_LEVEL depth (symbols_of source ts) e)
        → RefusesOperand names OPERAND_LEVEL depth (symbols_of source (drop (cond b (1 + n) 0) (t ∷ ts))) e
        → RefusesOperand names OPERAND_LEVEL depth (symbols_of source (t ∷ ts)) e
    refused_step t ts n e true is more h = kind_refused t.kind (name_of source t) (symbols_of source ts) e is (more (rw one-add at h))
    refused_step t ts n e false is more h = h

    -- the whole run without an operand
    pub run_refused : (ts : List Token) (e : EvalFault)
        → RefusesOperand names OPERAND_LEVEL depth (symbols_of source (drop (prefix_len (λ t. is_prefix_kind t.kind) ts) ts)) e
        → RefusesOperand names OPERAND_LEVEL depth (symbols_of source ts) e
    run_refused [] e h = h
    run_refused (t ∷ ts) e h = refused_step t ts (prefix_len (λ t. is_prefix_kind t.kind) ts) e (is_prefix_kind t.kind) refl (run_refused ts e) h

-- the same symbols
pub read_same : (names : Meaning) (level depth : ℕ) (v w : List Symbol) (x : Outcome) (rest : List Symbol) → v ≡ w → ReadsOperand names level depth w x rest → ReadsOperand names level depth v x rest
unfolding before_operand after_operand
read_same names level depth v w x rest e h S b o = ap (λ u. before_operand (values names DEEPEST) u S) e ∙ h S b o

-- the same symbols
pub refused_same : (names : Meaning) (level depth : ℕ) (v w : List Symbol) (e : EvalFault) → v ≡ w → RefusesOperand names level depth w e → RefusesOperand names level depth v e
refused_same names level depth v w e p h S b o = ap (λ u. before_operand (values names DEEPEST) u S) p ∙ h S b o

-- the same outcome
pub outcome_same : (names : Meaning) (level depth : ℕ) (symbols : List Symbol) (x y : Outcome) (rest : List Symbol) → y ≡ x → ReadsOperand names level depth symbols x rest → ReadsOperand names level depth symbols y rest
unfolding before_operand after_operand
outcome_same names level depth symbols x y rest e h S b o = h S b o ∙ ap (λ z. after_operand (values names DEEPEST) rest z S) (sym e)

-- the first symbol by the token's kind
pub first_symbol : (source : List ℕ) (token : Token) (kind : Kind) (symbols rest : List Symbol) → symbols ≡ symbol_of source token ∷ rest → token.kind ≡ kind → symbols ≡ symbol_of_kind kind (name_of source token) ∷ rest
first_symbol source token kind symbols rest e k = e ∙ ap (λ x. symbol_of_kind x (name_of source token) ∷ rest) k
