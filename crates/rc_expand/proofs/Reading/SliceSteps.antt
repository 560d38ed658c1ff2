-- The first line of lines whose blocks are whole, and the slices that its block cuts out.
use Rattle.std.proofs.Common.{◌≡◌, ℕ, zero, suc, false, List, [], ◌∷◌, ◌++◌, length, take, drop, get_or, refl, sym, subst, ◌∙◌, ap, arith, length-append, ◌+◌, ◌-◌, ◌<◌, ◌≤◌}
use Rattle.std.specs.Prelude.{Result, Ok, Err}
use Rattle.std.proofs.Math.Seq.{take-append_seam, drop-append-add, get_or-append_seam}
use Rattle.rc_expand.specs.Limits.{DEEPEST_BLOCK}
use Rattle.rc_expand.specs.declared.read.raw_line.RawLine.{RawLine}
use Rattle.rc_expand.specs.declared.read.raw_line.RawWord.TheVariants as word
use Rattle.rc_expand.specs.declared.fault.ExpandFault.{ExpandFault}
use Rattle.rc_instr.specs.Results.{mapped}
use Rattle.rc_expand.specs.Read.Tree.{BlockTree, NoLine, OneLine, Block, lines_of, distances, blocks_of, blocks_or_none, tree_of, HaveDistances}
use Rattle.rc_expand.specs.Read.Nesting.{opens_or_closes, IsNested}
use Rattle.rc_expand.proofs.Reading.NestingSteps.{said, tree_of_lines}

-- there is a distance for each line
same_length : (b : BlockTree) → length (distances b) ≡ length (lines_of b)
same_length NoLine = refl
same_length (OneLine h b) = ap suc (same_length b)
same_length (Block f i r b) =
    let p = same_length i in
    let q = same_length b in
    omega (arith, p, q, length-append (distances i) (0 ∷ distances b), length-append (lines_of i) (r ∷ lines_of b))

-- fewer blocks may be nested
more_room : (n : ℕ) (b : BlockTree) → IsNested n b → IsNested (suc n) b
more_room n NoLine h = tt
more_room n (OneLine x b) h = (h.0, more_room n b h.1)
more_room zero (Block f i r b) h = absurd h
more_room (suc n) (Block f i r b) h = (h.0, more_room n i h.1, h.2, more_room (suc n) b h.3)

-- lines with a tree, and its distances
pub record Paired (hs : List RawLine) (ds : List ℕ) : Type 0 where
  pub tree : BlockTree
  pub nests : IsNested DEEPEST_BLOCK tree
  pub lines : hs ≡ lines_of tree
  pub distances_are : ds ≡ distances tree

-- such lines are those of their tree
pub paired : (hs : List RawLine) (ds : List ℕ) → HaveDistances hs ds → Paired hs ds
paired hs ds h = by_result (blocks_of hs) refl h where
  or_none : Result (List ℕ) ExpandFault → List ℕ
  or_none (Ok x) = x
  or_none (Err f) = []

  by_result : (r : Result BlockTree ExpandFault) → blocks_of hs ≡ r → mapped distances r ≡ Ok ds → Paired hs ds
  by_result (Ok b) e k =
      let a = said hs (Ok b) e in
      record {
        tree = b;
        nests = a.0;
        lines = a.1;
        distances_are = sym (ap or_none k);
      }
  by_result (Err f) e k = absurd (cc)

-- a tree of lines that are nested is found again
pub tree_is : (b : BlockTree) (n : ℕ) → IsNested n b → n ≤ DEEPEST_BLOCK → tree_of (lines_of b) ≡ b
tree_is b n i e = ap blocks_or_none (tree_of_lines b n i e)

pub distances_found : (b : BlockTree) (n : ℕ) → IsNested n b → n ≤ DEEPEST_BLOCK → HaveDistances (lines_of b) (distances b)
distances_found b n i e = ap (mapped distances) (tree_of_lines b n i e)

-- the first line is a FOR, with its distance: what lies before and after its ROF
pub record IsBlock (hs : List RawLine) (ds : List ℕ) (h : RawLine) (d : ℕ) : Type 0 where
  pub low : 1 ≤ d
  pub high : d < length hs
  pub same : length ds ≡ length hs
  pub inside : HaveDistances (take (d - 1) (drop 1 hs)) (take (d - 1) (drop 1 ds))
  pub after : HaveDistances (drop (d + 1) hs) (drop (d + 1) ds)
  pub tree : (x : RawLine) → tree_of hs ≡ Block h (tree_of (take (d - 1) (drop 1 hs))) (get_or hs d x) (tree_of (drop (d + 1) hs))

block_there : (f r : RawLine) (i b : BlockTree) → IsNested DEEPEST_BLOCK (Block f i r b)
    → IsBlock (lines_of (Block f i r b)) (distances (Block f i r b)) f (suc (length (distances i)))
block_there f r i b n =
    let d = suc (length (distances i)) in
    let l = lines_of i in
    let m = lines_of b in
    let s = same_length i in
    let e : d - 1 ≡ length l = omega (arith, s) in
    let g : d - 1 ≡ length (distances i) = omega arith in
    let p : d + 1 ≡ suc (length l + 1) = omega (arith, s) in
    let q : d + 1 ≡ suc (length (distances i) + 1) = omega arith in
    let inner_lines : take (d - 1) (l ++ (r ∷ m)) ≡ l = ap (λ k. take k (l ++ (r ∷ m))) e ∙ take-append_seam l (r ∷ m) in
    let inner : take (d - 1) (distances i ++ (0 ∷ distances b)) ≡ distances i = ap (λ k. take k (distances i ++ (0 ∷ distances b))) g ∙ take-append_seam (distances i) (0 ∷ distances b) in
    let later_lines : drop (d + 1) (f ∷ (l ++ (r ∷ m))) ≡ m = ap (λ k. drop k (f ∷ (l ++ (r ∷ m)))) p ∙ drop-append-add l (r ∷ m) 1 in
    let later : drop (d + 1) (d ∷ (distances i ++ (0 ∷ distances b))) ≡ distances b = ap (λ k. drop k (d ∷ (distances i ++ (0 ∷ distances b)))) q ∙ drop-append-add (distances i) (0 ∷ distances b) 1 in
    let closes : (x : RawLine) → get_or (f ∷ (l ++ (r ∷ m))) d x ≡ r = λ x. ap (λ k. get_or (l ++ (r ∷ m)) k x) s ∙ get_or-append_seam l r m x in
    record {
      low = omega arith;
      high = omega (arith, s, length-append l (r ∷ m));
      same = same_length (Block f i r b);
      inside = rw (inner_lines, inner) (distances_found i 7 n.1 (omega arith));
      after = rw (later_lines, later) (distances_found b 8 n.3 (omega arith));
      tree = λ x.
          tree_is (Block f i r b) 8 n (omega arith)
          ∙ (ap (λ t. Block f t r b) (sym (ap tree_of inner_lines ∙ tree_is i 7 n.1 (omega arith)))
          ∙ (ap (λ t. Block f (tree_of (take (d - 1) (l ++ (r ∷ m)))) r t) (sym (ap tree_of later_lines ∙ tree_is b 8 n.3 (omega arith)))
          ∙ ap (λ t. Block f (tree_of (take (d - 1) (l ++ (r ∷ m)))) t (tree_of (drop (d + 1) (f ∷ (l ++ (r ∷ m)))))) (sym (closes x))));
    }

-- lines that begin with a FOR begin with its block
pub first_block : (hs : List RawLine) (ds : List ℕ) (h : RawLine) (hs' : List RawLine) → HaveDistances hs ds → hs ≡ h ∷ hs' → h.word ≡ word.For → IsBlock hs ds h (get_or ds 0 0)
first_block hs ds h hs' k e w =
    let p = paired hs ds k in
    subst (λ l. IsBlock l ds h (get_or ds 0 0)) (sym p.lines)
    (subst (λ x. IsBlock (lines_of p.tree) x h (get_or x 0 0)) (sym p.distances_are) (by_tree p.tree p.nests (sym p.lines ∙ e)))
  where
    by_tree : (b : BlockTree) → IsNested DEEPEST_BLOCK b → lines_of b ≡ h ∷ hs' → IsBlock (lines_of b) (distances b) h (get_or (distances b) 0 0)
    by_tree NoLine n l = absurd (cc)
    by_tree (OneLine g b) n l =
        let same : g ≡ h = ap (λ x. get_or x 0 g) l in
        let neither : opens_or_closes word.For ≡ false = ap opens_or_closes (sym w) ∙ (ap (λ x. opens_or_closes x.word) (sym same) ∙ n.0) in
        absurd (cc)
    by_tree (Block f i r b) n l =
        let same : f ≡ h = ap (λ x. get_or x 0 f) l in
        subst (λ x. IsBlock (lines_of (Block f i r b)) (distances (Block f i r b)) x (suc (length (distances i)))) same (block_there f r i b n)

-- the first line is no FOR: it is alone, and the lines after it
pub record IsLine (hs : List RawLine) (ds : List ℕ) (h : RawLine) : Type 0 where
  pub same : length ds ≡ length hs
  pub after : HaveDistances (drop 1 hs) (drop 1 ds)
  pub tree : tree_of hs ≡ OneLine h (tree_of (drop 1 hs))

pub first_line : (hs : List RawLine) (ds : List ℕ) (h : RawLine) (hs' : List RawLine) → HaveDistances hs ds → hs ≡ h ∷ hs' → (h.word ≡ word.For → ⊥) → IsLine hs ds h
first_line hs ds h hs' k e w =
    let p = paired hs ds k in
    subst (λ l. IsLine l ds h) (sym p.lines)
    (subst (λ x. IsLine (lines_of p.tree) x h) (sym p.distances_are) (by_tree p.tree p.nests (sym p.lines ∙ e)))
  where
    by_tree : (b : BlockTree) → IsNested DEEPEST_BLOCK b → lines_of b ≡ h ∷ hs' → IsLine (lines_of b) (distances b) h
    by_tree NoLine n l = absurd (cc)
    by_tree (OneLine g b) n l =
        let same : g ≡ h = ap (λ x. get_or x 0 g) l in
        record {
          same = same_length (OneLine g b);
          after = distances_found b 8 n.1 (omega arith);
          tree = tree_is (OneLine g b) 8 n (omega arith) ∙ (ap (λ x. OneLine x b) same ∙ ap (OneLine h) (sym (tree_is b 8 n.1 (omega arith))));
        }
    by_tree (Block f i r b) n l = let same : f ≡ h = ap (λ x. get_or x 0 f) l in absurd (w (ap (λ x. x.word) (sym same) ∙ n.0))

-- lines without a first one
pub no_first : (hs : List RawLine) → length hs ≡ 0 → tree_of hs ≡ NoLine
no_first [] e = refl
no_first (h ∷ hs) e = absurd (omega (arith, e))
