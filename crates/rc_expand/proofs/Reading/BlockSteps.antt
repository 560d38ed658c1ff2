-- The distances from FORs to their ROFs, line by line, and the slices that they cut out.
use Rattle.std.proofs.Common.{◌≡◌, ℕ, zero, suc, true, false, List, [], ◌∷◌, ◌++◌, length, set, refl, sym, ◌∙◌, ap, arith, append_assoc, length-append, ◌+◌, ◌-◌, ◌<◌, nat_lt, subst}
use Rattle.std.specs.Prelude.{Ok, Err}
use Rattle.std.specs.List.{AllByRecursion}
use Rattle.std.proofs.lemmas.List.{append-nil}
use Rattle.std.proofs.lemmas.Bool.Decides.{nat_tests}
use Rattle.std.proofs.Math.Seq.{set-append_seam}
use Rattle.rc_expand.specs.Limits.{DEEPEST_BLOCK}
use Rattle.rc_expand.specs.declared.read.raw_line.RawLine.{RawLine}
use Rattle.rc_expand.specs.declared.read.raw_line.RawWord.{RawWord}
use Rattle.rc_expand.specs.declared.read.raw_line.RawWord.TheVariants as word
use Rattle.rc_expand.specs.declared.fault.ExpandKind.TheVariants.{ForTooDeep, RofWithoutFor, ForWithoutRof}
use Rattle.rc_instr.specs.Results.{mapped}
use Rattle.rc_expand.specs.Results.{at_line}
use Rattle.rc_expand.specs.Read.Tree.{BlockTree, NoLine, OneLine, Block, distances, Parts, line_before, rof_before, for_before, parts_by, parts_from, blocks_of, HaveDistances}
use Rattle.rc_expand.specs.Read.Nesting.{opens_or_closes}
use Rattle.rc_expand.proofs.Reading.NestingSteps.{join, tree_before, mapped_twice, at_word, at_line_alone, at_for, opened_line}

-- ---- the distances so far

join_distances : (b c : BlockTree) → distances (join b c) ≡ distances b ++ distances c
join_distances NoLine c = refl
join_distances (OneLine h b) c = ap (λ ds. 0 ∷ ds) (join_distances b c)
join_distances (Block f i r b) c =
    ap (λ ds. suc (length (distances i)) ∷ (distances i ++ (0 ∷ ds))) (join_distances b c)
    ∙ ap (λ ds. suc (length (distances i)) ∷ ds) (sym (append_assoc (distances i) (0 ∷ distances b) (distances c)))

-- the distances of all lines, by those so far, with 0 at each FOR that is open, and by what is read
-- after them; the FORs are at the indices `xs`, the innermost first
abbrev pub finished : (xs ds : List ℕ) → Parts (length xs) → List ℕ
finished [] ds b = ds ++ distances b
finished (x ∷ xs) ds p = finished xs (set (ds ++ distances p.inside) x (length (ds ++ distances p.inside) - x) ++ (0 ∷ [])) p.after

abbrev pub SoFar : List RawLine → (xs ds : List ℕ) → (line : ℕ) → List RawLine → Type 0
SoFar raws xs ds line hs = mapped distances (blocks_of raws) ≡ mapped (finished xs ds) (parts_from hs (length xs) line)

tree_finished : (d : BlockTree) (xs ds : List ℕ) (p : Parts (length xs)) → finished xs ds (tree_before d (length xs) p) ≡ finished xs (ds ++ distances d) p
tree_finished d [] ds p = ap (λ x. ds ++ x) (join_distances d p) ∙ sym (append_assoc ds (distances d) (distances p))
tree_finished d (x ∷ xs) ds p =
    ap (λ all. finished xs (set all x (length all - x) ++ (0 ∷ [])) p.after)
    (ap (λ y. ds ++ y) (join_distances d p.inside) ∙ sym (append_assoc ds (distances d) (distances p.inside)))

line_finished : (h : RawLine) (xs ds : List ℕ) (p : Parts (length xs)) → finished xs ds (line_before h (length xs) p) ≡ finished xs (ds ++ (0 ∷ [])) p
line_finished h xs ds p = ap (finished xs ds) (sym (before (length xs) p)) ∙ tree_finished (OneLine h NoLine) xs ds p where
  before : (n : ℕ) (p : Parts n) → tree_before (OneLine h NoLine) n p ≡ line_before h n p
  before zero p = refl
  before (suc n) p = refl

rof_finished : (r : RawLine) (x : ℕ) (xs ds : List ℕ) (p : Parts (length xs)) → finished (x ∷ xs) ds (rof_before r (length xs) p) ≡ finished xs (set ds x (length ds - x) ++ (0 ∷ [])) p
rof_finished r x xs ds p = ap (λ all. finished xs (set all x (length all - x) ++ (0 ∷ [])) p) (append-nil ds)

for_finished : (f : RawLine) (xs ds : List ℕ) (p : Parts (suc (length xs))) → finished xs ds (for_before f (length xs) p) ≡ finished (length ds ∷ xs) (ds ++ (0 ∷ [])) p
for_finished f xs ds p =
    ap (finished xs ds) (sym (before (length xs) p))
    ∙ (tree_finished (Block f p.inside p.closes NoLine) xs ds p.after
    ∙ ap (λ all. finished xs all p.after) (sym (patched)))
  where
    before : (n : ℕ) (p : Parts (suc n)) → tree_before (Block f p.inside p.closes NoLine) n p.after ≡ for_before f n p
    before zero p = refl
    before (suc n) p = refl

    patched : set ((ds ++ (0 ∷ [])) ++ distances p.inside) (length ds) (length ((ds ++ (0 ∷ [])) ++ distances p.inside) - length ds) ++ (0 ∷ [])
        ≡ ds ++ (suc (length (distances p.inside)) ∷ (distances p.inside ++ (0 ∷ [])))
    patched =
        let i = distances p.inside in
        let n : length (ds ++ (0 ∷ i)) - length ds ≡ suc (length i) = omega (arith, length-append ds (0 ∷ i)) in
        ap (λ all. set all (length ds) (length all - length ds) ++ (0 ∷ [])) (append_assoc ds (0 ∷ []) i)
        ∙ (ap (λ k. set (ds ++ (0 ∷ i)) (length ds) k ++ (0 ∷ [])) n
        ∙ (ap (λ l. l ++ (0 ∷ [])) (set-append_seam ds 0 i (suc (length i)))
        ∙ append_assoc ds (suc (length i) ∷ i) (0 ∷ [])))

module _ (raws : List RawLine) (xs ds : List ℕ) (line : ℕ) (lines : List RawLine) (h : RawLine) (hs : List RawLine) (l : lines ≡ h ∷ hs) (so_far : SoFar raws xs ds line lines) where
  from_here : mapped distances (blocks_of raws) ≡ mapped (finished xs ds) (parts_from (h ∷ hs) (length xs) line)
  from_here = so_far ∙ ap (λ ls. mapped (finished xs ds) (parts_from ls (length xs) line)) l

  -- a line that is neither FOR nor ROF
  pub at_other : opens_or_closes h.word ≡ false → SoFar raws xs (ds ++ (0 ∷ [])) line hs
  at_other w =
      from_here ∙ (ap (mapped (finished xs ds)) (at_line_alone h (length xs) line hs w)
      ∙ mapped_twice (finished xs ds) (line_before h (length xs)) (finished xs (ds ++ (0 ∷ []))) (parts_from hs (length xs) line) (line_finished h xs ds))

  -- a FOR where there is room
  pub at_opening : (new : List ℕ) (outermost : ℕ) → new ≡ length ds ∷ xs → outermost ≡ opened_line h (length xs) line → h.word ≡ word.For → length xs < DEEPEST_BLOCK → SoFar raws new (ds ++ (0 ∷ [])) outermost hs
  at_opening new outermost e o w room =
      let r : nat_lt (length xs) DEEPEST_BLOCK ≡ true = grind (arith, nat_tests, room) in
      let there : SoFar raws (length ds ∷ xs) (ds ++ (0 ∷ [])) (opened_line h (length xs) line) hs =
      from_here ∙ (ap (mapped (finished xs ds)) (at_for h (length xs) line hs w r)
      ∙ mapped_twice (finished xs ds) (for_before h (length xs)) (finished (length ds ∷ xs) (ds ++ (0 ∷ []))) (parts_from hs (suc (length xs)) (opened_line h (length xs) line)) (for_finished h xs ds)) in
      subst (λ n. SoFar raws n (ds ++ (0 ∷ [])) outermost hs) (sym e) (subst (λ m. SoFar raws (length ds ∷ xs) (ds ++ (0 ∷ [])) m hs) (sym o) there)

  -- a ROF of the innermost open block
  pub at_closing : (x : ℕ) (new : List ℕ) → xs ≡ x ∷ new → h.word ≡ word.Rof → SoFar raws new (set ds x (length ds - x) ++ (0 ∷ [])) line hs
  at_closing x new e w =
      subst (λ n. mapped distances (blocks_of raws) ≡ mapped (finished n ds) (parts_from (h ∷ hs) (length n) line)) e from_here
      ∙ (ap (mapped (finished (x ∷ new) ds)) (at_word h word.Rof (suc (length new)) line hs w)
      ∙ mapped_twice (finished (x ∷ new) ds) (rof_before h (length new)) (finished new (set ds x (length ds - x) ++ (0 ∷ []))) (parts_from hs (length new) line) (rof_finished h x new ds))

  -- a FOR where there is no room
  pub too_deep : h.word ≡ word.For → length xs ≡ DEEPEST_BLOCK → mapped distances (blocks_of raws) ≡ Err (at_line h.number ForTooDeep)
  too_deep w e = from_here ∙ (ap (λ r. mapped (finished xs ds) r) (at_word h word.For (length xs) line hs w) ∙ by_length (length xs) (finished xs ds) e) where
    by_length : (n : ℕ) (f : Parts n → List ℕ) → n ≡ DEEPEST_BLOCK → mapped f (parts_by word.For h n line (λ m l. parts_from hs m l)) ≡ Err (at_line h.number ForTooDeep)
    by_length zero f e = absurd (omega (arith, e))
    by_length (suc n) f e = let full : nat_lt (suc n) DEEPEST_BLOCK ≡ false = grind (arith, nat_tests, e) in rw full refl

  -- a ROF outside of all blocks
  pub rof_alone : h.word ≡ word.Rof → length xs ≡ 0 → mapped distances (blocks_of raws) ≡ Err (at_line h.number RofWithoutFor)
  rof_alone w e = from_here ∙ (ap (λ r. mapped (finished xs ds) r) (at_word h word.Rof (length xs) line hs w) ∙ by_length (length xs) (finished xs ds) e) where
    by_length : (n : ℕ) (f : Parts n → List ℕ) → n ≡ 0 → mapped f (parts_by word.Rof h n line (λ m l. parts_from hs m l)) ≡ Err (at_line h.number RofWithoutFor)
    by_length zero f e = refl
    by_length (suc n) f e = absurd (omega (arith, e))

module _ (raws : List RawLine) (ds : List ℕ) (line : ℕ) where
  -- no line is left, and no block is open
  pub all_closed : (xs : List ℕ) → length xs ≡ 0 → SoFar raws xs ds line [] → HaveDistances raws ds
  all_closed [] e so_far = so_far ∙ ap Ok (append-nil ds)
  all_closed (x ∷ xs) e so_far = absurd (omega (arith, e))

  -- blocks are open at the end
  pub left_open : (xs : List ℕ) → (length xs ≡ 0 → ⊥) → SoFar raws xs ds line [] → mapped distances (blocks_of raws) ≡ Err (at_line line ForWithoutRof)
  left_open [] e so_far = absurd (e refl)
  left_open (x ∷ xs) e so_far = so_far

-- the FORs that are open are at earlier lines
pub still_below : (xs : List ℕ) (n : ℕ) → AllByRecursion (λ x. x < n) xs → AllByRecursion (λ x. x < n + 1) xs
still_below [] n h = tt
still_below (x ∷ xs) n h = (omega (arith, h.0), still_below xs n h.1)

-- the outermost open block after a FOR
pub is_outermost : (f : RawLine) (n line m : ℕ) → n ≡ 0 → m ≡ f.number → m ≡ opened_line f n line
is_outermost f zero line m e o = o
is_outermost f (suc n) line m e o = absurd (omega (arith, e))

pub is_inner : (f : RawLine) (n line m : ℕ) → 0 < n → m ≡ line → m ≡ opened_line f n line
is_inner f zero line m e o = absurd (omega (arith, e))
is_inner f (suc n) line m e o = o

-- before the first line
pub start : (raws : List RawLine) → SoFar raws [] [] 0 raws
start raws = refl

pub is_neither : (w : RawWord) → (w ≡ word.For → ⊥) → (w ≡ word.Rof → ⊥) → opens_or_closes w ≡ false
is_neither word.For f r = absurd (f refl)
is_neither word.Rof f r = absurd (r refl)
is_neither _ f r = refl
