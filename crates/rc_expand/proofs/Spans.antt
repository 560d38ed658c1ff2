-- The tokens of an expansion have spans of the text, pass by pass.
use Rattle.std.proofs.Common.{ℕ, zero, suc, ◌+◌, Bool, true, false, List, [], ◌∷◌, ◌++◌, length, take, drop, Option, Some, None, sym, subst}
use Rattle.std.specs.Prelude.{Result, Ok, Err, ◌&&◌, ◌||◌, not, nat_lt, All, IfOk, IfSome, if◌then◌else◌, flat_map, option_map, option_and_then, option_to_list, is_some}
use Rattle.std.specs.Str.{bytes_eq}
use Rattle.std.specs.List.{AllByRecursion as ByRecursion}
use Rattle.std.proofs.lemmas.List.Elements.{All-from_recursion, recursion_from_All, All-take, All-drop}
use Rattle.rc_text.specs.declared.token.Token.{Token}
use Rattle.rc_text.specs.Gaps.{is_line_end}
use Rattle.rc_text.specs.Symbols.{LiesIn, name_of}
use Rattle.rc_text.specs.Tokens.{tokens_of}
use Rattle.rc_text.proofs.GapSteps.{lie_in_the_text}
use Rattle.rc_instr.specs.Rules.{RulesView}
use Rattle.rc_expand.specs.declared.read.raw_line.RawLine.{RawLine}
use Rattle.rc_expand.specs.declared.read.raw_line.RawWord.{RawWord}
use Rattle.rc_expand.specs.declared.read.raw_line.RawWord.TheVariants as word
use Rattle.rc_expand.specs.declared.fault.ExpandFault.{ExpandFault}
use Rattle.rc_expand.specs.declared.line.Line.{Line}
use Rattle.rc_expand.specs.Limits.{MOST_JOINED, MOST_TOKENS, MOST_REPLACEMENTS, DEEPEST_BLOCK, DEEPEST_EQU}
use Rattle.rc_instr.specs.Results.{mapped, and_then}
use Rattle.rc_expand.specs.Names.{Table, GivenNamesView, entry_of, is_taken}
use Rattle.rc_expand.specs.Contexts.{ContextView}
use Rattle.rc_expand.specs.Read.{text_lines, equ_token, with_equ_name, equs_after_line, equs_from, equs_of, first_pass_of_blocks, first_pass}
use Rattle.rc_expand.specs.Read.Faults.{text_fault}
use Rattle.rc_expand.specs.Read.Tree.{BlockTree, NoLine, OneLine, Block, Parts, line_before, rof_before, for_before, parts_by, parts_from, blocks_of}
use Rattle.rc_expand.specs.Read.Lines.{choose, is_unreserved_name, is_colon, has_modifier, label_token, label_split, line_with_word, line_after_labels, raw_line_of, word_of, line_of_tokens, has_end, up_to_end, lines_unless_fault, lines_from, bare_line, is_name_token}
use Rattle.rc_expand.specs.Unroll.{UnrolledSoFarView, Step, nothing_unrolled, has_room, with_line, with_copy, copies_from, with_earlier, is_bare_rof, rof_check, line_check, one_line, one_copy, one_block, unrolled_in, unrolled}
use Rattle.rc_expand.specs.Unroll.Copies.{BlockCopyView, NumberingView, numbering_by, is_in_block, line_in_copy, line_in, all_of, is_counter, with_number, with_counter, joins, copied_from, copied_tokens, copied_code, copied_rest, or_spoiled, copied_line}
use Rattle.rc_expand.specs.Unroll.Openings.{OpeningView, earlier_of, opening_with_counter, count_of, counter_name, counter_of, opening}
use Rattle.rc_expand.specs.Equs.{Equs, equ_in}
use Rattle.rc_expand.specs.Replace.{TokensSoFarView, BodyStep, with_token, with_replacement, token_or_body, exempt_len, equ_body, with_tokens, body_within, tokens_within, replaced_tokens, line_tokens}
use Rattle.rc_expand.specs.Replace.Lines.{own_label_then, own_labels, others_here_or_later, other_labels, expanded_line, made_line, line_with_others, line_of, names_of, LinesSoFarView, nothing_replaced, with_expanded_line, with_names, line_added, line_replaced, lines_replaced, replaced}
use Rattle.rc_expand.specs.Expansion.{LineLies, names_given, context_of, expansion_by, expansion_of, IsExpansion}
use Rattle.rc_expand.proofs.Reading.LabelLaws.{labels_and_rest}

-- either branch
either : {A : Type 0} (P : A → Type 0) (b : Bool) (x y : A) → P x → P y → P (if b then x else y)
either P true x y h i = h
either P false x y h i = i

chosen : {A : Type 0} (P : A → Type 0) (b : Bool) (f g : Unit {0} → A) → P (f tt) → P (g tt) → P (choose b f g)
chosen P true f g h i = h
chosen P false f g h i = i

-- one step after another
after : {A B E : Type 0} (P : A → Type 0) (Q : B → Type 0) (f : A → Result B E) (r : Result A E) → IfOk r P → ((x : A) → P x → IfOk (f x) Q) → IfOk (and_then f r) Q
after P Q f (Ok x) h g = g x h
after P Q f (Err e) h g = tt

after_any : {A B E : Type 0} (Q : B → Type 0) (f : A → Result B E) (r : Result A E) → ((x : A) → IfOk (f x) Q) → IfOk (and_then f r) Q
after_any Q f (Ok x) g = g x
after_any Q f (Err e) g = tt

over : {A B E : Type 0} (P : A → Type 0) (Q : B → Type 0) (f : A → B) (r : Result A E) → IfOk r P → ((x : A) → P x → Q (f x)) → IfOk (mapped f r) Q
over P Q f (Ok x) h g = g x h
over P Q f (Err e) h g = tt

over_any : {A B E : Type 0} (Q : B → Type 0) (f : A → B) (r : Result A E) → ((x : A) → Q (f x)) → IfOk (mapped f r) Q
over_any Q f (Ok x) g = g x
over_any Q f (Err e) g = tt

some_after : {A B : Type 0} (P : A → Type 0) (Q : B → Type 0) (f : A → Option B) (o : Option A) → IfSome o P → ((x : A) → P x → IfSome (f x) Q) → IfSome (option_and_then f o) Q
some_after P Q f (Some x) h g = g x h
some_after P Q f None h g = tt

some_over : {A B : Type 0} (P : A → Type 0) (Q : B → Type 0) (f : A → B) (o : Option A) → IfSome o P → ((x : A) → P x → Q (f x)) → IfSome (option_map f o) Q
some_over P Q f (Some x) h g = g x h
some_over P Q f None h g = tt

-- parts of lists
rest_of : {A : Type 0} (P : A → Type 0) (x : A) (xs : List A) → ByRecursion P (x ∷ xs) → ByRecursion P xs
rest_of P x xs h = h.1

both : {A : Type 0} (P : A → Type 0) (xs ys : List A) → ByRecursion P xs → ByRecursion P ys → ByRecursion P (xs ++ ys)
both P [] ys h i = i
both P (x ∷ xs) ys h i = (h.0, both P xs ys h.1 i)

parts : {A : Type 0} (P : A → Type 0) (xs ys : List A) → ByRecursion P (xs ++ ys) → ByRecursion P xs × ByRecursion P ys
parts P [] ys h = (tt, h)
parts P (x ∷ xs) ys h = let r = parts P xs ys h.1 in ((h.0, r.0), r.1)

module _ (source : List ℕ) where
  -- the tokens, the labels and the lines with spans of the source
  abbrev Ls : List Token → Type 0
  Ls = ByRecursion (LiesIn source)

  abbrev Labels : List (List Token) → Type 0
  Labels = ByRecursion Ls

  record IsIn (h : RawLine) : Type 0 where
    labels : Labels h.labels
    directive : IfSome h.directive (LiesIn source)
    rest : Ls h.rest

  abbrev AreIn : List RawLine → Type 0
  AreIn = ByRecursion IsIn

  flat : (ls : List (List Token)) → Ls (flat_map (λ x. x) ls) → Labels ls
  flat [] h = tt
  flat (l ∷ ls) h = let r = parts (LiesIn source) l (flat_map (λ x. x) ls) h in (r.0, flat ls r.1)

  joined_up : (ls : List (List Token)) → Labels ls → Ls (flat_map (λ x. x) ls)
  joined_up [] h = tt
  joined_up (l ∷ ls) h = both (LiesIn source) l (flat_map (λ x. x) ls) h.0 (joined_up ls h.1)

  -- lines are made of tokens
  with_word : (w : RawWord) (n : ℕ) (ls : List (List Token)) (t : Token) (ts : List Token) → Labels ls → LiesIn source t → Ls ts → IsIn (line_with_word w n ls t ts)
  with_word word.Code n ls t ts h i j = record { labels = h; directive = tt; rest = (i, j) }
  with_word _ n ls t ts h i j = record { labels = h; directive = i; rest = j }

  after_labels : (n : ℕ) (ls : List (List Token)) (ts : List Token) → Labels ls → Ls ts → IsIn (line_after_labels source n ls ts)
  after_labels n ls [] h j = record { labels = h; directive = tt; rest = tt }
  after_labels n ls (t ∷ ts) h j = with_word (word_of source t) n ls t ts h j.0 j.1

  raw_line_in : (n : ℕ) (ts : List Token) → Ls ts → IsIn (raw_line_of source n ts)
  unfolding raw_line_of
  raw_line_in n ts h =
      let l = label_split source ts in
      let r = parts (LiesIn source) (flat_map (λ x. x) l.labels) l.after (subst Ls (sym (labels_and_rest source ts)) h) in
      after_labels n l.labels l.after (flat l.labels r.0) r.1

  tokens_in_line : (ts : List Token) → Ls ts → AreIn (line_of_tokens source ts)
  tokens_in_line [] h = tt
  tokens_in_line (t ∷ ts) h = (raw_line_in t.line (t ∷ ts) h, tt)

  then_lines : (hs : List RawLine) (later : Result (List RawLine) ExpandFault) → AreIn hs → IfOk later AreIn → IfOk (up_to_end hs later) AreIn
  then_lines hs later h i = either (λ r. IfOk r AreIn) (has_end hs) (Ok hs) (mapped (λ r. hs ++ r) later) h (over AreIn AreIn (λ r. hs ++ r) later i (λ r j. both IsIn hs r h j))

  unless_fault : (o : Option ExpandFault) (hs : List RawLine) → AreIn hs → IfOk (lines_unless_fault o hs) AreIn
  unless_fault None hs h = h
  unless_fault (Some f) hs h = tt

  lines_in : (fault : Option ExpandFault) (front ts : List Token) → Ls front → Ls ts → IfOk (lines_from source fault front ts) AreIn
  lines_in fault front [] h i = unless_fault fault (line_of_tokens source front) (tokens_in_line front h)
  lines_in fault front (t ∷ ts) h i =
      chosen (λ r. IfOk r AreIn) (is_line_end t.kind) _ _ (then_lines (line_of_tokens source front) (lines_from source fault [] ts) (tokens_in_line front h) (lines_in fault [] ts tt i.1))
      (lines_in fault (front ++ (t ∷ [])) ts (both (LiesIn source) front (t ∷ []) h (i.0, tt)) i.1)

  -- EQU names have tokens of these lines
  abbrev Bodies : Equs → Type 0
  Bodies = ByRecursion (λ e. Ls e.1.tokens)

  -- so has a tree of lines, and what is read while blocks are open
  abbrev TreeIn : BlockTree → Type 0
  TreeIn NoLine = Unit {0}
  TreeIn (OneLine h rest) = IsIn h × TreeIn rest
  TreeIn (Block f inside r rest) = IsIn f × TreeIn inside × IsIn r × TreeIn rest

  abbrev PartsIn : (n : ℕ) → Parts n → Type 0
  PartsIn zero b = TreeIn b
  PartsIn (suc n) p = TreeIn p.inside × IsIn p.closes × PartsIn n p.after

  line_in_parts : (h : RawLine) → IsIn h → (n : ℕ) (p : Parts n) → PartsIn n p → PartsIn n (line_before h n p)
  line_in_parts h i zero b j = (i, j)
  line_in_parts h i (suc n) p j = ((i, j.0), j.1, j.2)

  for_in_parts : (f : RawLine) → IsIn f → (n : ℕ) (p : Parts (suc n)) → PartsIn (suc n) p → PartsIn n (for_before f n p)
  for_in_parts f i zero p j = (i, j.0, j.1, j.2)
  for_in_parts f i (suc n) p j = ((i, j.0, j.1, j.2.0), j.2.1, j.2.2)

  by_word_in : (w : RawWord) (h : RawLine) (n line : ℕ) (next : (m l : ℕ) → Result (Parts m) ExpandFault) → IsIn h → ((m l : ℕ) → IfOk (next m l) (PartsIn m)) → IfOk (parts_by w h n line next) (PartsIn n)
  by_word_in word.For h zero line next i j = over (PartsIn 1) (PartsIn 0) (for_before h 0) (next 1 h.number) (j 1 h.number) (for_in_parts h i 0)
  by_word_in word.For h (suc n) line next i j =
      either (λ r. IfOk r (PartsIn (suc n))) (nat_lt (suc n) DEEPEST_BLOCK) _ _ (over (PartsIn (suc (suc n))) (PartsIn (suc n)) (for_before h (suc n)) (next (suc (suc n)) line) (j (suc (suc n)) line) (for_in_parts h i (suc n))) tt
  by_word_in word.Rof h zero line next i j = tt
  by_word_in word.Rof h (suc n) line next i j = over (PartsIn n) (PartsIn (suc n)) (rof_before h n) (next n line) (j n line) (λ p k. (tt, i, k))
  by_word_in _ h n line next i j = over (PartsIn n) (PartsIn n) (line_before h n) (next n line) (j n line) (line_in_parts h i n)

  parts_in : (hs : List RawLine) (n line : ℕ) → AreIn hs → IfOk (parts_from hs n line) (PartsIn n)
  parts_in [] zero line h = tt
  parts_in [] (suc n) line h = tt
  parts_in (h ∷ hs) n line i = by_word_in h.word h n line (λ m l. parts_from hs m l) i.0 (λ m l. parts_in hs m l i.1)

  module _ (given : GivenNamesView) where
    one_equ : (h : RawLine) (equs : Equs) (t : Token) → IsIn h → Bodies equs → IfOk (with_equ_name source given h equs t) Bodies
    one_equ h equs t i j =
        either (λ r. IfOk r Bodies) (is_taken given (name_of source t) || is_some (entry_of equs (name_of source t))) _ _ tt (both (λ e. Ls e.1.tokens) equs _ j (i.rest, tt))

    with_equ_in : (w : RawWord) (h : RawLine) (equs : Equs) → IsIn h → Bodies equs → IfOk (equs_after_line source given w h equs) Bodies
    with_equ_in word.Equ h equs i j = after_any Bodies (with_equ_name source given h equs) (equ_token source h) (λ t. one_equ h equs t i j)
    with_equ_in _ h equs i j = j

    equs_in : (b : BlockTree) (equs : Equs) → TreeIn b → Bodies equs → IfOk (equs_from source given b equs) Bodies
    equs_in NoLine equs i j = j
    equs_in (OneLine h rest) equs i j = after Bodies Bodies (equs_from source given rest) (equs_after_line source given h.word h equs) (with_equ_in h.word h equs i.0 j) (λ e k. equs_in rest e i.1 k)
    equs_in (Block f inside r rest) equs i j = equs_in rest equs i.3 j

    first_pass_in : IfOk (first_pass source given) (λ r. TreeIn r.blocks × Bodies r.equs)
    unfolding first_pass equs_of
    first_pass_in =
        let lines = lines_in (text_fault source) [] (tokens_of source).tokens tt (recursion_from_All (LiesIn source) (tokens_of source).tokens (lie_in_the_text source)) in
        let nested = after AreIn TreeIn blocks_of (text_lines source) lines (λ hs h. parts_in hs 0 0 h) in
        after TreeIn (λ r. TreeIn r.blocks × Bodies r.equs) (first_pass_of_blocks source given) (and_then blocks_of (text_lines source)) nested
        (λ b h. over Bodies (λ r. TreeIn r.blocks × Bodies r.equs) (λ equs. record { blocks = b; equs = equs }) (equs_of source given b) (equs_in b [] h tt) (λ equs j. (h, j)))

  -- a copy changes no span
  module _ (counter : List ℕ) (number : ℕ) where
    abbrev numbering : NumberingView
    numbering = numbering_by source counter number

    join_in : (t : Token) → LiesIn source t → IfSome (with_counter numbering t) (LiesIn source)
    join_in t h = either (λ o. IfSome o (LiesIn source)) (nat_lt (length t.joined) MOST_JOINED) _ _ (record { order = h.order; inside = h.inside }) tt

    numbered_in : (made : Bool) (t : Token) → LiesIn source t → LiesIn source (with_number numbering made t)
    numbered_in made t h = either (LiesIn source) (not made && is_counter numbering t) _ _ (record { order = h.order; inside = h.inside }) h

    from_in : (made : Bool) (t : Token) (ts : List Token) → LiesIn source t → Ls ts → IfSome (copied_from numbering made t ts) Ls
    from_in made t [] h i = (numbered_in made t h, tt)
    from_in made t (u ∷ []) h i = some_over Ls Ls (λ r. with_number numbering made t ∷ r) (copied_from numbering false u []) (from_in false u [] i.0 tt) (λ r j. (numbered_in made t h, j))
    from_in made t (u ∷ v ∷ ts) h i =
        let more = rest_of (LiesIn source) u (v ∷ ts) i in
        chosen (λ o. IfSome o Ls) (joins numbering t (u ∷ v ∷ ts)) _ _
        (some_after (LiesIn source) Ls (λ j. copied_from numbering true j ts) (with_counter numbering t) (join_in t h) (λ j p. from_in true j ts p (rest_of (LiesIn source) v ts more)))
        (some_over Ls Ls (λ r. with_number numbering made t ∷ r) (copied_from numbering false u (v ∷ ts)) (from_in false u (v ∷ ts) i.0 more) (λ r j. (numbered_in made t h, j)))

    tokens_in : (ts : List Token) → Ls ts → IfSome (copied_tokens numbering ts) Ls
    tokens_in [] h = tt
    tokens_in (t ∷ ts) h = from_in false t ts h.0 h.1

    code_in : (ts : List Token) → Ls ts → IfSome (copied_code numbering ts) Ls
    code_in [] h = tokens_in [] h
    code_in (t ∷ []) h = tokens_in (t ∷ []) h
    code_in (t ∷ u ∷ []) h = tokens_in (t ∷ u ∷ []) h
    code_in (t ∷ u ∷ v ∷ ts) h =
        let p = rest_of (LiesIn source) t (u ∷ v ∷ ts) h in
        let q = rest_of (LiesIn source) u (v ∷ ts) p in
        chosen (λ o. IfSome o Ls) (has_modifier source t u v) _ _
        (some_over Ls Ls (λ r. t ∷ u ∷ v ∷ r) (copied_tokens numbering ts) (tokens_in ts (rest_of (LiesIn source) v ts q)) (λ r j. (h.0, (p.0, (q.0, j)))))
        (tokens_in (t ∷ u ∷ v ∷ ts) h)

    rest_in : (w : RawWord) (ts : List Token) → Ls ts → IfSome (copied_rest numbering w ts) Ls
    rest_in word.Code ts h = code_in ts h
    rest_in _ ts h = tokens_in ts h

    labels_in : (ls : List (List Token)) → Labels ls → IfSome (all_of (copied_tokens numbering) ls) Labels
    labels_in [] h = tt
    labels_in (l ∷ ls) h =
        some_after Ls Labels (λ y. option_map (λ ys. y ∷ ys) (all_of (copied_tokens numbering) ls)) (copied_tokens numbering l) (tokens_in l h.0)
        (λ y p. some_over Labels Labels (λ ys. y ∷ ys) (all_of (copied_tokens numbering) ls) (labels_in ls h.1) (λ ys q. (p, q)))

    or_spoiled_in : (h : RawLine) (a : Option (List (List Token))) (b : Option (List Token)) → IsIn h → IfSome a Labels → IfSome b Ls → IsIn (or_spoiled h a b)
    or_spoiled_in h (Some a) (Some b) i p q = record { labels = p; directive = i.directive; rest = q }
    or_spoiled_in h (Some a) None i p q = record { labels = tt; directive = i.directive; rest = tt }
    or_spoiled_in h None b i p q = record { labels = tt; directive = i.directive; rest = tt }

    copy_in : (h : RawLine) → IsIn h → IsIn (copied_line numbering h)
    unfolding copied_line
    copy_in h i = or_spoiled_in h (all_of (copied_tokens numbering) h.labels) (copied_rest numbering h.word h.rest) i (labels_in h.labels i.labels) (rest_in h.word h.rest i.rest)

  by_copy : (counter : Option (List ℕ)) (k : ℕ) (h : RawLine) → IsIn h → IsIn (line_in_copy source counter k h)
  by_copy None k h i = i
  by_copy (Some counter) k h i = copy_in counter k h i

  in_copies : (cs : List BlockCopyView) (h : RawLine) → IsIn h → IsIn (line_in source cs h)
  in_copies [] h i = i
  in_copies (c ∷ cs) h i = in_copies cs (line_in_copy source c.counter c.number h) (by_copy c.counter c.number h i)

  -- what is unrolled so far has such lines, and each step keeps them
  abbrev SoFar : UnrolledSoFarView → Type 0
  SoFar u = AreIn u.lines

  abbrev Keeps : Step → Type 0
  Keeps step = (u : UnrolledSoFarView) → SoFar u → IfOk (step u) SoFar

  line_kept : (h : RawLine) → IsIn h → Keeps (with_line h)
  line_kept h i u j = either (λ r. IfOk r SoFar) (has_room u) _ _ (both IsIn u.lines (h ∷ []) j (i, tt)) tt

  copy_kept : (line : ℕ) → Keeps (with_copy line)
  copy_kept line u j = either (λ r. IfOk r SoFar) (has_room u) _ _ j tt

  copies_kept : (f : ℕ → Step) → ((k : ℕ) → Keeps (f k)) → (n k : ℕ) → Keeps (copies_from f n k)
  copies_kept f g zero k u j = j
  copies_kept f g (suc n) k u j = after SoFar SoFar (copies_from f n (k + 1)) (f k u) (g k u j) (λ v i. copies_kept f g n (k + 1) v i)

  earlier_kept : (line : ℕ) (ls : List (List Token)) → Labels ls → Keeps (with_earlier line ls)
  earlier_kept line [] h u j = j
  earlier_kept line (l ∷ ls) h u j = line_kept (bare_line line (l ∷ ls)) (record { labels = h; directive = tt; rest = tt }) u j

  rof_kept : (rof : RawLine) → Keeps (rof_check rof)
  rof_kept rof u j = either (λ r. IfOk r SoFar) (is_bare_rof rof) _ _ j tt

  earlier_in : (ls : List (List Token)) → Labels ls → Labels (earlier_of ls)
  earlier_in [] h = tt
  earlier_in (l ∷ []) h = tt
  earlier_in (l ∷ m ∷ ls) h = (h.0, earlier_in (m ∷ ls) (rest_of Ls l (m ∷ ls) h))

  -- names of one label
  label_in : (l : List Token) → Ls l → IfSome (label_token source l) (LiesIn source)
  label_in [] h = tt
  label_in (t ∷ []) h = either (λ o. IfSome o (LiesIn source)) (is_unreserved_name source t) _ _ h.0 tt
  label_in (t ∷ u ∷ []) h = either (λ o. IfSome o (LiesIn source)) (is_unreserved_name source t && is_colon u) _ _ h.0 tt
  label_in (t ∷ u ∷ v ∷ ts) h = tt

  own_stepped : (o : Option Token) (ts : List Token) → IfSome o (LiesIn source) → Ls ts → Ls (own_label_then source o ts)
  own_stepped None ts h i = tt
  own_stepped (Some t) ts h i = (h, i)

  own_in : (ls : List (List Token)) → Labels ls → Ls (own_labels source ls)
  own_in [] h = tt
  own_in (l ∷ ls) h = own_stepped (label_token source l) (own_labels source ls) (label_in l h.0) (own_in ls h.1)

  other_stepped : (o : Option Token) (here later : List (List Token)) → Labels here → Labels later → Labels (others_here_or_later source o here later)
  other_stepped None here later h i = h
  other_stepped (Some t) here later h i = i

  others_in : (ls : List (List Token)) → Labels ls → Labels (other_labels source ls)
  others_in [] h = tt
  others_in (l ∷ ls) h = other_stepped (label_token source l) (l ∷ ls) (other_labels source ls) h (others_in ls h.1)

  option_in : (o : Option Token) → IfSome o (LiesIn source) → Ls (option_to_list o)
  option_in None h = tt
  option_in (Some t) h = (h, tt)

  -- EQU names give way to tokens of EQU names
  module _ (given : GivenNamesView) (equs : Equs) (bodies : Bodies equs) where
    abbrev here : ContextView
    here = record { source = source; given = given; equs = equs }

    abbrev Tokens : TokensSoFarView → Type 0
    Tokens r = Ls r.tokens

    entry_in : (table : Equs) → Bodies table → (name : List ℕ) → IfSome (entry_of table name) (λ e. Ls e.tokens)
    entry_in [] h name = tt
    entry_in (e ∷ table) h name = either (λ o. IfSome o (λ e. Ls e.tokens)) (bytes_eq name e.0) _ _ h.0 (entry_in table h.1 name)

    body_in : (t : Token) → IfSome (equ_body here t) Ls
    body_in t = some_over (λ e. Ls e.tokens) Ls (λ e. e.tokens) (equ_in source equs t)
        (either (λ o. IfSome o (λ e. Ls e.tokens)) (is_name_token t) _ _ (entry_in equs bodies (name_of source t)) tt) (λ e h. h)

    token_kept : (t : Token) → LiesIn source t → (r : TokensSoFarView) → Tokens r → IfOk (with_token t r) Tokens
    token_kept t i r j = either (λ x. IfOk x Tokens) (nat_lt (length r.tokens) MOST_TOKENS) _ _ (both (LiesIn source) r.tokens (t ∷ []) j (i, tt)) tt

    replacement_kept : (r : TokensSoFarView) → Tokens r → IfOk (with_replacement r) Tokens
    replacement_kept r j = either (λ x. IfOk x Tokens) (nat_lt r.replacements MOST_REPLACEMENTS) _ _ j tt

    abbrev InnerKeeps : BodyStep → Type 0
    InnerKeeps inner = (body : List Token) → Ls body → (r : TokensSoFarView) → Tokens r → IfOk (inner body r) Tokens

    token_replaced : (inner : BodyStep) → InnerKeeps inner → (t : Token) (o : Option (List Token)) → LiesIn source t → IfSome o Ls → (r : TokensSoFarView) → Tokens r → IfOk (token_or_body inner t o r) Tokens
    token_replaced inner g t None i h r j = token_kept t i r j
    token_replaced inner g t (Some body) i h r j = g body h r j

    spread_kept : (inner : BodyStep) → InnerKeeps inner → (ts : List Token) → Ls ts → (r : TokensSoFarView) → Tokens r → IfOk (with_tokens here inner ts r) Tokens
    spread_kept inner g [] h r j = j
    spread_kept inner g (t ∷ ts) h r j =
        after Tokens Tokens (with_tokens here inner ts) (token_or_body inner t (equ_body here t) r) (token_replaced inner g t (equ_body here t) h.0 (body_in t) r j) (λ x i. spread_kept inner g ts h.1 x i)

    inner_kept : (levels : ℕ) → InnerKeeps (body_within here levels)
    inner_kept zero body h r j = tt
    inner_kept (suc n) body h r j =
        after Tokens Tokens (with_tokens here (body_within here n) body) (with_replacement r) (replacement_kept r j) (λ x i. spread_kept (body_within here n) (inner_kept n) body h x i)

    replaced_in : (line : ℕ) (front ts : List Token) → Ls front → Ls ts → IfOk (replaced_tokens here line front ts) Ls
    unfolding replaced_tokens
    replaced_in line front ts h i =
        let start : TokensSoFarView = record { line = line; tokens = front; replacements = 0 } in
        over Tokens Ls (λ r. r.tokens) (tokens_within here DEEPEST_EQU ts start) (spread_kept (body_within here DEEPEST_EQU) (inner_kept DEEPEST_EQU) ts i start h) (λ r j. j)

    line_tokens_in : (line : ℕ) (w : RawWord) (ts : List Token) → Ls ts → IfOk (line_tokens here line w ts) Ls
    line_tokens_in line w ts h =
        let n = exempt_len source w ts in
        let all = All-from_recursion (LiesIn source) ts h in
        replaced_in line (take n ts) (drop n ts) (recursion_from_All (LiesIn source) (take n ts) (All-take (LiesIn source) n ts all)) (recursion_from_All (LiesIn source) (drop n ts) (All-drop (LiesIn source) n ts all))

    made_in : (h : RawLine) (w : RawWord) (ts : List Token) → IsIn h → Ls ts → IfOk (made_line here h w ts) (LineLies source)
    made_in h w ts i j =
        over Ls (LineLies source) (expanded_line source h w) (line_tokens here h.number w ts) (line_tokens_in h.number w ts j)
        (λ r k. record { labels = All-from_recursion (LiesIn source) (own_labels source h.labels) (own_in h.labels i.labels); tokens = All-from_recursion (LiesIn source) r k })

    with_labels_in : (h : RawLine) (others : List (List Token)) → IsIn h → Labels others → IfOk (line_with_others here h others) (LineLies source)
    with_labels_in h [] i j = made_in h h.word h.rest i i.rest
    with_labels_in h (l ∷ ls) i j =
        made_in h word.Code (flat_map (λ x. x) (l ∷ ls) ++ (option_to_list h.directive ++ h.rest)) i
        (both (LiesIn source) (flat_map (λ x. x) (l ∷ ls)) (option_to_list h.directive ++ h.rest) (joined_up (l ∷ ls) j) (both (LiesIn source) (option_to_list h.directive) h.rest (option_in h.directive i.directive) i.rest))

    line_of_in : (h : RawLine) → IsIn h → IfOk (line_of here h) (LineLies source)
    unfolding line_of
    line_of_in h i = with_labels_in h (other_labels source h.labels) i (others_in h.labels i.labels)

module _ (s : ContextView) where
  opening_in : (f : RawLine) → IsIn s.source f → IfOk (opening s f) (λ o. Labels s.source o.earlier)
  unfolding opening
  opening_in f i =
      either (λ (r : Result OpeningView ExpandFault). IfOk r (λ o. Labels s.source o.earlier)) f.spoiled _ _ tt
      (after_any (λ o. Labels s.source o.earlier) (opening_with_counter s f) (and_then (counter_name s f.number) (counter_of s.source f.number f.labels))
      (λ name. over_any (λ o. Labels s.source o.earlier) (λ n. record { counter = name; earlier = earlier_of f.labels; count = n }) (count_of s f.number f.rest) (λ n. earlier_in s.source f.labels i.labels)))

  abbrev Kept : UnrolledSoFarView → Type 0
  Kept u = SoFar s.source u

  -- a line, and a block whose lines keep them
  one_kept : (cs : List BlockCopyView) (h : RawLine) → IsIn s.source h → Keeps s.source (one_line s cs h)
  one_kept cs h i u j =
      after_any Kept (λ _. with_line (line_in s.source cs h) u) (line_check (is_in_block cs) (line_in s.source cs h))
      (λ _. line_kept s.source (line_in s.source cs h) (in_copies s.source cs h i) u j)

  module _ (inside : List BlockCopyView → Step) (d : (cs : List BlockCopyView) → Keeps s.source (inside cs)) where
    copy_of_kept : (cs : List BlockCopyView) (line : ℕ) (counter : Option (List ℕ)) (k : ℕ) → Keeps s.source (one_copy inside cs line counter k)
    copy_of_kept cs line counter k u j =
        let more : List BlockCopyView = cs ++ (record { counter = counter; number = k } ∷ []) in
        after Kept Kept (inside more) (with_copy line u) (copy_kept s.source line u j) (λ v i. d more v i)

    block_kept : (cs : List BlockCopyView) (f r : RawLine) → IsIn s.source f → Keeps s.source (one_block s inside cs f r)
    block_kept cs f r i u j =
        after (λ o. Labels s.source o.earlier) Kept _ (opening s (line_in s.source cs f)) (opening_in (line_in s.source cs f) (in_copies s.source cs f i))
        (λ o l. after Kept Kept _ (with_earlier f.number o.earlier u) (earlier_kept s.source f.number o.earlier l u j)
        (λ v k. after Kept Kept _ (copies_from (one_copy inside cs f.number o.counter) o.count 1 v) (copies_kept s.source (one_copy inside cs f.number o.counter) (copy_of_kept cs f.number o.counter) o.count 1 v k)
        (λ w m. rof_kept s.source (line_in s.source cs r) w m)))

  tree_kept : (b : BlockTree) → TreeIn s.source b → (cs : List BlockCopyView) → Keeps s.source (unrolled_in s b cs)
  tree_kept NoLine i cs u j = j
  tree_kept (OneLine h rest) i cs u j = after Kept Kept (unrolled_in s rest cs) (one_line s cs h u) (one_kept cs h i.0 u j) (λ v k. tree_kept rest i.1 cs v k)
  tree_kept (Block f inside r rest) i cs u j =
      after Kept Kept (unrolled_in s rest cs) (one_block s (unrolled_in s inside) cs f r u) (block_kept (unrolled_in s inside) (λ ds v k. tree_kept inside i.1 ds v k) cs f r i.0 u j) (λ v k. tree_kept rest i.3 cs v k)

  unrolled_lines_in : (b : BlockTree) → TreeIn s.source b → IfOk (unrolled s b) (AreIn s.source)
  unfolding unrolled
  unrolled_lines_in b h = over (SoFar s.source) (AreIn s.source) (λ u. u.lines) (unrolled_in s b [] nothing_unrolled) (tree_kept b h [] nothing_unrolled tt) (λ u i. i)

  -- the lines of the expansion
  abbrev Made : LinesSoFarView → Type 0
  Made r = ByRecursion (LineLies s.source) r.lines

  module _ (bodies : Bodies s.source s.equs) where
    made_and_added : (h : RawLine) (lines : List Line) (names : List (List ℕ)) → IsIn s.source h → ByRecursion (LineLies s.source) lines → IfOk (mapped (with_expanded_line lines names) (line_of s h)) Made
    made_and_added h lines names i j =
        over (LineLies s.source) Made (with_expanded_line lines names) (line_of s h) (line_of_in s.source s.given s.equs bodies h i) (λ l k. both (LineLies s.source) lines (l ∷ []) j (k, tt))

    added : (w : RawWord) (h : RawLine) (lines : List Line) (names : List (List ℕ)) → IsIn s.source h → ByRecursion (LineLies s.source) lines → IfOk (line_added s w h lines names) Made
    added word.Equ h lines names i j = j
    added _ h lines names i j = made_and_added h lines names i j

    lines_made : (hs : List RawLine) → AreIn s.source hs → (r : LinesSoFarView) → Made r → IfOk (lines_replaced s hs r) Made
    lines_made [] h r j = j
    lines_made (h ∷ hs) i r j =
        after Made Made (lines_replaced s hs) (line_replaced s h r)
        (after_any Made (line_added s h.word h r.lines) (with_names s h.number (names_of s.source h) r.names) (λ names. added h.word h r.lines names i.0 j)) (λ x k. lines_made hs i.1 x k)

    replaced_lines_in : (hs : List RawLine) → AreIn s.source hs → IfOk (replaced s hs) (ByRecursion (LineLies s.source))
    unfolding replaced
    replaced_lines_in hs h = over Made (ByRecursion (LineLies s.source)) (λ r. r.lines) (lines_replaced s hs nothing_replaced) (lines_made hs h nothing_replaced tt) (λ r k. k)

-- all passes
expansion_in : (source : List ℕ) (constants : Table) (rules : RulesView) → IfOk (expansion_of source constants rules) (ByRecursion (LineLies source))
unfolding expansion_of
expansion_in source constants rules =
    after (λ r. TreeIn source r.blocks × Bodies source r.equs) (ByRecursion (LineLies source)) (expansion_by source constants rules) (first_pass source (names_given source constants rules)) (first_pass_in source (names_given source constants rules))
    (λ r h. let s = context_of source constants rules r in
    after (AreIn source) (ByRecursion (LineLies source)) (replaced s) (unrolled s r.blocks) (unrolled_lines_in s r.blocks h.0) (λ hs i. replaced_lines_in s h.1 hs i))

pub expansion_lies : (source : List ℕ) (constants : Table) (rules : RulesView) (lines : List Line) → IsExpansion source constants rules lines → All (LineLies source) lines
expansion_lies source constants rules lines e =
    All-from_recursion (LineLies source) lines (subst (λ r. IfOk r (ByRecursion (LineLies source))) e (expansion_in source constants rules))
