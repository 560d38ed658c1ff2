-- The tree of a text and the faults of its blocks, as they are read line by line, are what the law
-- says.
use Rattle.std.proofs.Common.{◌≡◌, ℕ, zero, suc, true, false, List, [], ◌∷◌, ◌++◌, length, refl, sym, subst, ◌∙◌, ap, arith, append_assoc, inl, inr, ◌+◌, ◌≤◌, nat_lt}
use Rattle.std.specs.Prelude.{Result, Ok, Err}
use Rattle.std.proofs.lemmas.List.{append-nil}
use Rattle.std.proofs.lemmas.Bool.Decides.{nat_tests}
use Rattle.rc_expand.specs.Limits.{DEEPEST_BLOCK}
use Rattle.rc_expand.specs.declared.read.raw_line.RawLine.{RawLine}
use Rattle.rc_expand.specs.declared.read.raw_line.RawWord.{RawWord}
use Rattle.rc_expand.specs.declared.read.raw_line.RawWord.TheVariants as word
use Rattle.rc_expand.specs.declared.fault.ExpandFault.{ExpandFault}
use Rattle.rc_expand.specs.declared.fault.ExpandKind.TheVariants.{ForTooDeep}
use Rattle.rc_instr.specs.Results.{mapped}
use Rattle.rc_expand.specs.Results.{at_line}
use Rattle.rc_expand.specs.Read.Tree.{BlockTree, NoLine, OneLine, Block, lines_of, Parts, line_before, rof_before, for_before, parts_by, parts_from, blocks_of}
use Rattle.rc_expand.specs.Read.Nesting.{opens_or_closes, IsNested, Open, open_lines, AreOpen, outermost_line, AreBlocks}

-- ---- trees after one another

-- two trees as one
abbrev pub join : BlockTree → BlockTree → BlockTree
join NoLine c = c
join (OneLine h b) c = OneLine h (join b c)
join (Block f i r b) c = Block f i r (join b c)

join_none : (b : BlockTree) → join b NoLine ≡ b
join_none NoLine = refl
join_none (OneLine h b) = ap (OneLine h) (join_none b)
join_none (Block f i r b) = ap (Block f i r) (join_none b)

join_assoc : (b c d : BlockTree) → join (join b c) d ≡ join b (join c d)
join_assoc NoLine c d = refl
join_assoc (OneLine h b) c d = ap (OneLine h) (join_assoc b c d)
join_assoc (Block f i r b) c d = ap (Block f i r) (join_assoc b c d)

join_lines : (b c : BlockTree) → lines_of (join b c) ≡ lines_of b ++ lines_of c
join_lines NoLine c = refl
join_lines (OneLine h b) c = ap (λ hs. h ∷ hs) (join_lines b c)
join_lines (Block f i r b) c = ap (λ hs. f ∷ (lines_of i ++ (r ∷ hs))) (join_lines b c) ∙ ap (λ hs. f ∷ hs) (sym (append_assoc (lines_of i) (r ∷ lines_of b) (lines_of c)))

join_nested : (n : ℕ) (b c : BlockTree) → IsNested n b → IsNested n c → IsNested n (join b c)
join_nested n NoLine c h k = k
join_nested n (OneLine x b) c h k = (h.0, join_nested n b c h.1 k)
join_nested zero (Block f i r b) c h k = absurd h
join_nested (suc n) (Block f i r b) c h k = (h.0, h.1, h.2, join_nested (suc n) b c h.3 k)

-- a tree before what is read while `n` blocks are open
abbrev pub tree_before : BlockTree → (n : ℕ) → Parts n → Parts n
tree_before b zero p = join b p
tree_before b (suc n) p = record { inside = join b p.inside; closes = p.closes; after = p.after }

none_before : (n : ℕ) (p : Parts n) → tree_before NoLine n p ≡ p
none_before zero p = refl
none_before (suc n) p = refl

line_is_tree : (h : RawLine) (b : BlockTree) (n : ℕ) (p : Parts n) → line_before h n (tree_before b n p) ≡ tree_before (OneLine h b) n p
line_is_tree h b zero p = refl
line_is_tree h b (suc n) p = refl

block_is_tree : (f r : RawLine) (i b : BlockTree) (n : ℕ) (p : Parts n) → for_before f n (tree_before i (suc n) (rof_before r n (tree_before b n p))) ≡ tree_before (Block f i r b) n p
block_is_tree f r i b zero p = ap (λ x. Block f x r (join b p)) (join_none i)
block_is_tree f r i b (suc n) p = ap (λ x. record { inside = Block f x r (join b p.inside); closes = p.closes; after = p.after }) (join_none i)

-- ---- results

pub mapped_same : {A E : Type 0} (f : A → A) (r : Result A E) → ((x : A) → f x ≡ x) → mapped f r ≡ r
mapped_same f (Ok x) h = ap Ok (h x)
mapped_same f (Err e) h = refl

pub mapped_twice : {A B C E : Type 0} (f : B → C) (g : A → B) (k : A → C) (r : Result A E) → ((x : A) → f (g x) ≡ k x) → mapped f (mapped g r) ≡ mapped k r
mapped_twice f g k (Ok x) h = ap Ok (h x)
mapped_twice f g k (Err e) h = refl

-- ---- one line

pub at_word : (h : RawLine) (w : RawWord) (n line : ℕ) (hs : List RawLine) → h.word ≡ w → parts_from (h ∷ hs) n line ≡ parts_by w h n line (λ m l. parts_from hs m l)
at_word h w n line hs e = ap (λ v. parts_by v h n line (λ m l. parts_from hs m l)) e

-- a line that is neither FOR nor ROF
pub at_line_alone : (h : RawLine) (n line : ℕ) (hs : List RawLine) → opens_or_closes h.word ≡ false → parts_from (h ∷ hs) n line ≡ mapped (line_before h n) (parts_from hs n line)
at_line_alone h n line hs = by_word h.word where
  by_word : (w : RawWord) → opens_or_closes w ≡ false → parts_by w h n line (λ m l. parts_from hs m l) ≡ mapped (line_before h n) (parts_from hs n line)
  by_word word.Bare e = refl
  by_word word.Code e = refl
  by_word word.Org e = refl
  by_word word.End e = refl
  by_word word.Assert e = refl
  by_word word.Equ e = refl
  by_word word.For e = cc
  by_word word.Rof e = cc

-- the line of the outermost open block after a FOR
abbrev pub opened_line : RawLine → (n line : ℕ) → ℕ
opened_line f zero line = f.number
opened_line f (suc n) line = line

-- a FOR where there is room
pub at_for : (f : RawLine) (n line : ℕ) (hs : List RawLine) → f.word ≡ word.For → nat_lt n DEEPEST_BLOCK ≡ true → parts_from (f ∷ hs) n line ≡ mapped (for_before f n) (parts_from hs (suc n) (opened_line f n line))
at_for f zero line hs w room = at_word f word.For zero line hs w
at_for f (suc n) line hs w room = at_word f word.For (suc n) line hs w ∙ rw room refl

-- where no block is open it does not matter which was the last outermost one
any_outermost : (hs : List RawLine) (a b : ℕ) → parts_from hs 0 a ≡ parts_from hs 0 b
any_outermost [] a b = refl
any_outermost (h ∷ hs) a b = by_word h.word (any_outermost hs a b) where
  by_word : (w : RawWord) → parts_from hs 0 a ≡ parts_from hs 0 b → parts_by w h 0 a (λ m o. parts_from hs m o) ≡ parts_by w h 0 b (λ m o. parts_from hs m o)
  by_word word.For same = refl
  by_word word.Rof same = refl
  by_word word.Bare same = ap (mapped (line_before h 0)) same
  by_word word.Code same = ap (mapped (line_before h 0)) same
  by_word word.Org same = ap (mapped (line_before h 0)) same
  by_word word.End same = ap (mapped (line_before h 0)) same
  by_word word.Assert same = ap (mapped (line_before h 0)) same
  by_word word.Equ same = ap (mapped (line_before h 0)) same

after_block : (f : RawLine) (n line : ℕ) (hs : List RawLine) → parts_from hs n (opened_line f n line) ≡ parts_from hs n line
after_block f zero line hs = any_outermost hs f.number line
after_block f (suc n) line hs = refl

-- ---- closed lines are passed over

pub passed_over : (b : BlockTree) (k n line : ℕ) (rest : List RawLine) → IsNested k b → n + k ≤ DEEPEST_BLOCK → parts_from (lines_of b ++ rest) n line ≡ mapped (tree_before b n) (parts_from rest n line)
passed_over NoLine k n line rest i e = sym (mapped_same (tree_before NoLine n) (parts_from rest n line) (none_before n))
passed_over (OneLine h b) k n line rest i e =
    at_line_alone h n line (lines_of b ++ rest) i.0
    ∙ (ap (mapped (line_before h n)) (passed_over b k n line rest i.1 e)
    ∙ mapped_twice (line_before h n) (tree_before b n) (tree_before (OneLine h b) n) (parts_from rest n line) (line_is_tree h b n))
passed_over (Block f i r b) zero n line rest h e = absurd h
passed_over (Block f i r b) (suc k) n line rest h e =
    let room : nat_lt n DEEPEST_BLOCK ≡ true = grind (arith, nat_tests, e) in
    let more = lines_of b ++ rest in
    let l = opened_line f n line in
    let x = parts_from rest n line in
    ap (λ hs. parts_from (f ∷ hs) n line) (append_assoc (lines_of i) (r ∷ lines_of b) rest)
    ∙ (at_for f n line (lines_of i ++ (r ∷ more)) h.0 room
    ∙ (ap (mapped (for_before f n)) (passed_over i k (suc n) l (r ∷ more) h.1 (omega (arith, e))
    ∙ ap (mapped (tree_before i (suc n))) (at_word r word.Rof (suc n) l more h.2
    ∙ ap (mapped (rof_before r n)) (after_block f n line more ∙ passed_over b (suc k) n line rest h.3 e)))
    ∙ whole x))
  where
    whole : (x : Result (Parts n) ExpandFault) → mapped (for_before f n) (mapped (tree_before i (suc n)) (mapped (rof_before r n) (mapped (tree_before b n) x))) ≡ mapped (tree_before (Block f i r b) n) x
    whole (Ok p) = ap Ok (block_is_tree f r i b n p)
    whole (Err g) = refl

-- the lines of a tree have this tree
pub tree_of_lines : (b : BlockTree) (k : ℕ) → IsNested k b → k ≤ DEEPEST_BLOCK → blocks_of (lines_of b) ≡ Ok b
tree_of_lines b k i e =
    ap (λ hs. parts_from hs 0 0) (sym (append-nil (lines_of b))) ∙ (passed_over b k 0 0 [] i (omega (arith, e)) ∙ ap Ok (join_none b))

-- ---- lines with open blocks

-- the tree of closed lines in open blocks and of what is read after them
abbrev whole : (xs : List Open) → BlockTree → Parts (length xs) → BlockTree
whole [] c p = join c p
whole (x ∷ xs) c p = whole xs x.before (for_before x.opens (length xs) (tree_before c (suc (length xs)) p))

-- with more closed lines
whole_more : (xs : List Open) (c d : BlockTree) (p : Parts (length xs)) → whole xs (join c d) p ≡ whole xs c (tree_before d (length xs) p)
whole_more [] c d p = join_assoc c d p
whole_more (x ∷ xs) c d p = ap (λ i. whole xs x.before (for_before x.opens (length xs) (record { inside = i; closes = p.closes; after = p.after }))) (join_assoc c d p.inside)

abbrev outermost_or : List Open → ℕ → ℕ
outermost_or [] line = line
outermost_or (x ∷ xs) line = outermost_line x xs

same_outermost : (x : Open) (xs : List Open) → outermost_or (x ∷ xs) 0 ≡ opened_line x.opens (length xs) (outermost_or xs 0)
same_outermost x [] = refl
same_outermost x (y ∷ xs) = refl

-- the open blocks and those that may be opened are DEEPEST_BLOCK
counted : (xs : List Open) (n : ℕ) → AreOpen n xs → length xs + n ≡ DEEPEST_BLOCK
counted [] n i = omega (arith, i)
counted (x ∷ xs) n i = let e : length xs + suc n ≡ DEEPEST_BLOCK = counted xs (suc n) i.0 in omega (arith, e)

-- lines with open blocks lead to the state that counts them
opened_to : (xs : List Open) (c : BlockTree) (n : ℕ) (rest : List RawLine) → AreOpen n xs → IsNested n c
    → parts_from ((open_lines xs ++ lines_of c) ++ rest) 0 0 ≡ mapped (whole xs c) (parts_from rest (length xs) (outermost_or xs 0))
opened_to [] c n rest i j = passed_over c n 0 0 rest j (omega (arith, i))
opened_to (x ∷ xs) c n rest i j =
    let e : length xs + suc n ≡ DEEPEST_BLOCK = counted xs (suc n) i.0 in
    let room : nat_lt (length xs) DEEPEST_BLOCK ≡ true = grind (arith, nat_tests, e) in
    let line = outermost_or xs 0 in
    let around = open_lines xs in
    let spread : ((around ++ (lines_of x.before ++ (x.opens ∷ []))) ++ lines_of c) ++ rest ≡ (around ++ lines_of x.before) ++ (x.opens ∷ (lines_of c ++ rest)) =
    append_assoc (around ++ (lines_of x.before ++ (x.opens ∷ []))) (lines_of c) rest
    ∙ (ap (λ hs. hs ++ (lines_of c ++ rest)) (sym (append_assoc around (lines_of x.before) (x.opens ∷ [])))
    ∙ append_assoc (around ++ lines_of x.before) (x.opens ∷ []) (lines_of c ++ rest)) in
    ap (λ hs. parts_from hs 0 0) spread
    ∙ (opened_to xs x.before (suc n) (x.opens ∷ (lines_of c ++ rest)) i.0 i.1
    ∙ (ap (mapped (whole xs x.before)) (at_for x.opens (length xs) line (lines_of c ++ rest) i.2 room
    ∙ ap (mapped (for_before x.opens (length xs)))
    (ap (parts_from (lines_of c ++ rest) (suc (length xs))) (sym (same_outermost x xs))
    ∙ passed_over c n (suc (length xs)) (outermost_or (x ∷ xs) 0) rest j (omega (arith, e))))
    ∙ composed (parts_from rest (suc (length xs)) (outermost_or (x ∷ xs) 0))))
  where
    composed : (r : Result (Parts (suc (length xs))) ExpandFault)
        → mapped (whole xs x.before) (mapped (for_before x.opens (length xs)) (mapped (tree_before c (suc (length xs))) r)) ≡ mapped (whole (x ∷ xs) c) r
    composed (Ok p) = refl
    composed (Err f) = refl

-- ---- what the trees say is what is read

pub found : (hs : List RawLine) (r : Result BlockTree ExpandFault) → AreBlocks hs r → blocks_of hs ≡ r
found hs (Ok b) a = ap (λ ls. parts_from ls 0 0) a.1 ∙ tree_of_lines b DEEPEST_BLOCK a.0 (omega arith)
found hs (Err f) (inl r) =
    ap (λ ls. parts_from ls 0 0) r.lines
    ∙ (passed_over r.before DEEPEST_BLOCK 0 0 (r.rof ∷ r.after) r.nests (omega arith)
    ∙ (ap (mapped (tree_before r.before 0)) (at_word r.rof word.Rof 0 0 r.after r.is_rof) ∙ ap (λ g. Err g) (sym r.fault)))
found hs (Err f) (inr (inl r)) =
    ap (λ ls. parts_from ls 0 0) r.lines
    ∙ (opened_to r.opened r.inside 0 (r.ninth ∷ r.after) r.are_open r.nests
    ∙ (ap (mapped (whole r.opened r.inside)) (ninth r.opened r.ninth r.after r.are_open r.is_for) ∙ ap (λ g. Err g) (sym r.fault)))
  where
    ninth : (xs : List Open) (h : RawLine) (rest : List RawLine) → AreOpen 0 xs → h.word ≡ word.For → parts_from (h ∷ rest) (length xs) (outermost_or xs 0) ≡ Err (at_line h.number ForTooDeep)
    ninth [] h rest i w = let e : 0 ≡ DEEPEST_BLOCK = i in absurd (omega (arith, e))
    ninth (x ∷ xs) h rest i w =
        let e : suc (length xs) + 0 ≡ DEEPEST_BLOCK = counted (x ∷ xs) 0 i in
        let full : nat_lt (suc (length xs)) DEEPEST_BLOCK ≡ false = grind (arith, nat_tests, e) in
        at_word h word.For (suc (length xs)) (outermost_or (x ∷ xs) 0) rest w ∙ rw full refl
found hs (Err f) (inr (inr r)) =
    ap (λ ls. parts_from ls 0 0) (r.lines ∙ sym (append-nil (open_lines (r.innermost ∷ r.around) ++ lines_of r.inside)))
    ∙ (opened_to (r.innermost ∷ r.around) r.inside r.room [] r.are_open r.nests ∙ ap (λ g. Err g) (sym r.fault))

-- ---- what is read is what the trees say

moved : (a b : List RawLine) (x y : Result BlockTree ExpandFault) → a ≡ b → x ≡ y → AreBlocks a x → AreBlocks b y
moved a b x y e f t = subst (λ l. AreBlocks l y) e (subst (AreBlocks a) f t)

-- what is told of lines that were read and of those that follow
abbrev Told : List RawLine → Type 0
Told hs = (xs : List Open) (c : BlockTree) (n : ℕ) → AreOpen n xs → IsNested n c → AreBlocks ((open_lines xs ++ lines_of c) ++ hs) (mapped (whole xs c) (parts_from hs (length xs) (outermost_or xs 0)))

at_end : Told []
at_end [] c n i j =
    let k : IsNested DEEPEST_BLOCK c = subst (λ m. IsNested m c) i j in
    (subst (IsNested DEEPEST_BLOCK) (sym (join_none c)) k, append-nil (lines_of c) ∙ ap lines_of (sym (join_none c)))
at_end (x ∷ xs) c n i j =
    inr (inr record {
      innermost = x;
      around = xs;
      inside = c;
      room = n;
      are_open = i;
      nests = j;
      lines = append-nil (open_lines (x ∷ xs) ++ lines_of c);
      fault = refl;
    })

module _ (h : RawLine) (hs : List RawLine) (next : Told hs) where
  -- more closed lines in the same blocks
  closed_more : (xs : List Open) (c d : BlockTree) (n : ℕ) → AreOpen n xs → IsNested n c → IsNested n d
      → AreBlocks ((open_lines xs ++ lines_of c) ++ (lines_of d ++ hs)) (mapped (whole xs c) (mapped (tree_before d (length xs)) (parts_from hs (length xs) (outermost_or xs 0))))
  closed_more xs c d n i j k =
      let r = parts_from hs (length xs) (outermost_or xs 0) in
      moved ((open_lines xs ++ lines_of (join c d)) ++ hs) ((open_lines xs ++ lines_of c) ++ (lines_of d ++ hs)) (mapped (whole xs (join c d)) r) (mapped (whole xs c) (mapped (tree_before d (length xs)) r))
      (ap (λ l. (open_lines xs ++ l) ++ hs) (join_lines c d)
      ∙ (ap (λ l. l ++ hs) (sym (append_assoc (open_lines xs) (lines_of c) (lines_of d))) ∙ append_assoc (open_lines xs ++ lines_of c) (lines_of d) hs))
      (sym (mapped_twice (whole xs c) (tree_before d (length xs)) (whole xs (join c d)) r (λ p. sym (whole_more xs c d p))))
      (next xs (join c d) n i (join_nested n c d j k))

  -- a line that is neither
  plain : (xs : List Open) (c : BlockTree) (n : ℕ) → AreOpen n xs → IsNested n c → opens_or_closes h.word ≡ false
      → AreBlocks ((open_lines xs ++ lines_of c) ++ (h ∷ hs)) (mapped (whole xs c) (parts_from (h ∷ hs) (length xs) (outermost_or xs 0)))
  plain xs c n i j w =
      let r = parts_from hs (length xs) (outermost_or xs 0) in
      subst (λ x. AreBlocks ((open_lines xs ++ lines_of c) ++ (h ∷ hs)) (mapped (whole xs c) x)) (same r ∙ sym (at_line_alone h (length xs) (outermost_or xs 0) hs w))
      (closed_more xs c (OneLine h NoLine) n i j (w, tt))
    where
      before : (m : ℕ) (p : Parts m) → tree_before (OneLine h NoLine) m p ≡ line_before h m p
      before zero p = refl
      before (suc m) p = refl

      same : (r : Result (Parts (length xs)) ExpandFault) → mapped (tree_before (OneLine h NoLine) (length xs)) r ≡ mapped (line_before h (length xs)) r
      same (Ok p) = ap Ok (before (length xs) p)
      same (Err f) = refl

  -- one more FOR
  opening : (xs : List Open) (c : BlockTree) (n : ℕ) → AreOpen n xs → IsNested n c → h.word ≡ word.For
      → AreBlocks ((open_lines xs ++ lines_of c) ++ (h ∷ hs)) (mapped (whole xs c) (parts_from (h ∷ hs) (length xs) (outermost_or xs 0)))
  opening [] c zero i j w = absurd (omega (arith, i))
  opening (x ∷ xs) c zero i j w =
      let e : suc (length xs) + 0 ≡ DEEPEST_BLOCK = counted (x ∷ xs) 0 i in
      let full : nat_lt (suc (length xs)) DEEPEST_BLOCK ≡ false = grind (arith, nat_tests, e) in
      let is : parts_from (h ∷ hs) (suc (length xs)) (outermost_or (x ∷ xs) 0) ≡ Err (at_line h.number ForTooDeep) = at_word h word.For (suc (length xs)) (outermost_or (x ∷ xs) 0) hs w ∙ rw full refl in
      subst (λ r. AreBlocks ((open_lines (x ∷ xs) ++ lines_of c) ++ (h ∷ hs)) (mapped (whole (x ∷ xs) c) r)) (sym is)
      (inr (inl record {
        opened = x ∷ xs;
        inside = c;
        ninth = h;
        after = hs;
        are_open = i;
        nests = j;
        is_for = w;
        lines = refl;
        fault = refl;
      }))
  opening xs c (suc n) i j w =
      let e : length xs + suc n ≡ DEEPEST_BLOCK = counted xs (suc n) i in
      let room : nat_lt (length xs) DEEPEST_BLOCK ≡ true = grind (arith, nat_tests, e) in
      let o : Open = record { before = c; opens = h } in
      let r = parts_from hs (suc (length xs)) (outermost_or (o ∷ xs) 0) in
      let lines : (open_lines (o ∷ xs) ++ []) ++ hs ≡ (open_lines xs ++ lines_of c) ++ (h ∷ hs) =
      ap (λ l. l ++ hs) (append-nil (open_lines (o ∷ xs)) ∙ sym (append_assoc (open_lines xs) (lines_of c) (h ∷ []))) ∙ append_assoc (open_lines xs ++ lines_of c) (h ∷ []) hs in
      let read : parts_from (h ∷ hs) (length xs) (outermost_or xs 0) ≡ mapped (for_before h (length xs)) r =
      at_for h (length xs) (outermost_or xs 0) hs w room ∙ ap (λ l. mapped (for_before h (length xs)) (parts_from hs (suc (length xs)) l)) (sym (same_outermost o xs)) in
      moved ((open_lines (o ∷ xs) ++ []) ++ hs) ((open_lines xs ++ lines_of c) ++ (h ∷ hs)) (mapped (whole (o ∷ xs) NoLine) r) (mapped (whole xs c) (parts_from (h ∷ hs) (length xs) (outermost_or xs 0)))
      lines (same r ∙ ap (mapped (whole xs c)) (sym read)) (next (o ∷ xs) NoLine n (i, j, w) tt)
    where
      same : (r : Result (Parts (suc (length xs))) ExpandFault) → mapped (whole (record { before = c; opens = h } ∷ xs) NoLine) r ≡ mapped (whole xs c) (mapped (for_before h (length xs)) r)
      same (Ok p) = refl
      same (Err f) = refl

  -- a ROF
  closing : (xs : List Open) (c : BlockTree) (n : ℕ) → AreOpen n xs → IsNested n c → h.word ≡ word.Rof
      → AreBlocks ((open_lines xs ++ lines_of c) ++ (h ∷ hs)) (mapped (whole xs c) (parts_from (h ∷ hs) (length xs) (outermost_or xs 0)))
  closing [] c n i j w =
      subst (λ r. AreBlocks (lines_of c ++ (h ∷ hs)) (mapped (whole [] c) r)) (sym (at_word h word.Rof 0 0 hs w))
      (inl record {
        before = c;
        rof = h;
        after = hs;
        nests = subst (λ m. IsNested m c) i j;
        is_rof = w;
        lines = refl;
        fault = refl;
      })
  closing (x ∷ xs) c n i j w =
      let m = length xs in
      let d : BlockTree = Block x.opens c h NoLine in
      let r = parts_from hs m (outermost_or xs 0) in
      let lines : (open_lines xs ++ lines_of x.before) ++ (lines_of d ++ hs) ≡ (open_lines (x ∷ xs) ++ lines_of c) ++ (h ∷ hs) =
      ap (λ l. (open_lines xs ++ lines_of x.before) ++ (x.opens ∷ l)) (append_assoc (lines_of c) (h ∷ []) hs)
      ∙ (sym (append_assoc (open_lines xs ++ lines_of x.before) (x.opens ∷ []) (lines_of c ++ (h ∷ hs)))
      ∙ (ap (λ l. l ++ (lines_of c ++ (h ∷ hs))) (append_assoc (open_lines xs) (lines_of x.before) (x.opens ∷ []))
      ∙ sym (append_assoc (open_lines (x ∷ xs)) (lines_of c) (h ∷ hs)))) in
      let read : parts_from (h ∷ hs) (suc m) (outermost_or (x ∷ xs) 0) ≡ mapped (rof_before h m) r =
      at_word h word.Rof (suc m) (outermost_or (x ∷ xs) 0) hs w
      ∙ ap (mapped (rof_before h m)) (ap (parts_from hs m) (same_outermost x xs) ∙ after_block x.opens m (outermost_or xs 0) hs) in
      moved ((open_lines xs ++ lines_of x.before) ++ (lines_of d ++ hs)) ((open_lines (x ∷ xs) ++ lines_of c) ++ (h ∷ hs)) (mapped (whole xs x.before) (mapped (tree_before d m) r)) (mapped (whole (x ∷ xs) c) (parts_from (h ∷ hs) (suc m) (outermost_or (x ∷ xs) 0)))
      lines (same r ∙ ap (mapped (whole (x ∷ xs) c)) (sym read)) (closed_more xs x.before d (suc n) i.0 i.1 (i.2, j, w, tt))
    where
      before : (m : ℕ) (p : Parts m) → tree_before (Block x.opens c h NoLine) m p ≡ for_before x.opens m (tree_before c (suc m) (rof_before h m p))
      before m p = sym (ap (λ q. for_before x.opens m (tree_before c (suc m) (rof_before h m q))) (sym (none_before m p)) ∙ block_is_tree x.opens h c NoLine m p)

      same : (r : Result (Parts (length xs)) ExpandFault) → mapped (whole xs x.before) (mapped (tree_before (Block x.opens c h NoLine) (length xs)) r) ≡ mapped (whole (x ∷ xs) c) (mapped (rof_before h (length xs)) r)
      same (Ok p) = ap (λ q. Ok (whole xs x.before q)) (before (length xs) p)
      same (Err f) = refl

  one_more : Told (h ∷ hs)
  one_more xs c n i j = by_word h.word refl where
    by_word : (w : RawWord) → h.word ≡ w → AreBlocks ((open_lines xs ++ lines_of c) ++ (h ∷ hs)) (mapped (whole xs c) (parts_from (h ∷ hs) (length xs) (outermost_or xs 0)))
    by_word word.For e = opening xs c n i j e
    by_word word.Rof e = closing xs c n i j e
    by_word word.Bare e = plain xs c n i j (ap opens_or_closes e)
    by_word word.Code e = plain xs c n i j (ap opens_or_closes e)
    by_word word.Org e = plain xs c n i j (ap opens_or_closes e)
    by_word word.End e = plain xs c n i j (ap opens_or_closes e)
    by_word word.Assert e = plain xs c n i j (ap opens_or_closes e)
    by_word word.Equ e = plain xs c n i j (ap opens_or_closes e)

told : (hs : List RawLine) → Told hs
told [] = at_end
told (h ∷ hs) = one_more h hs (told hs)

tree_or_fault : (hs : List RawLine) → AreBlocks hs (blocks_of hs)
tree_or_fault hs = subst (AreBlocks hs) (mapped_same (λ b. b) (blocks_of hs) (λ b. refl)) (told hs [] NoLine DEEPEST_BLOCK refl tt)

pub said : (hs : List RawLine) (r : Result BlockTree ExpandFault) → blocks_of hs ≡ r → AreBlocks hs r
said hs r e = subst (AreBlocks hs) e (tree_or_fault hs)
