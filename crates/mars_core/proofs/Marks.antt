-- Which cells are marked, and how many of them are not empty.
use Rattle.std.proofs.Common.{◌≡◌, ℕ, zero, suc, ◌+◌, ◌<◌, ◌≤◌, List, [], ◌∷◌, length, Bool, true, false, not, cond, get_or, refl, sym, ◌∙◌, ap, arith}
use Rattle.std.specs.Prelude.{slice_set, count_by, map, replicate}
use Rattle.std.proofs.lemmas.List.Sums.{sum_by-cons, count_by-le-length}
use Rattle.std.proofs.lemmas.List.{map-set, length-replicate, length-map, length-set}
use Rattle.rc_instr.specs.Instruction.{empty_cell, same_instruction}
use Rattle.rc_instr.specs.declared.instruction.Instruction.{Instruction}
use Rattle.mars_core.specs.Core.{filled_in}
use Rattle.mars_core.specs.Packed.{packed, unpacked, is_marked, empty_word}
use Rattle.mars_core.specs.Store.{IsStore, IsPacked, marks_after, counts_as_marked}
use Rattle.mars_core.proofs.Packing.{unpacked_packed}
use Rattle.mars_core.proofs.Stores.{empty_unmarked}

abbrev bit : Bool → ℕ
bit b = cond b 1 0

abbrev is_filled : Instruction → Bool
is_filled i = not (same_instruction i empty_cell)

at_most_one : (b : Bool) (n : ℕ) → cond b n (n + 1) ≤ n + 1
at_most_one true n = omega arith
at_most_one false n = omega arith

pub one_added : (marked : List Bool) (at n k : ℕ) → k ≡ marks_after marked at n → k ≤ n + 1
one_added marked at n k e = rw e (at_most_one (get_or marked at true) n)

-- ---- plain cells, all of which are marked

pub as_many : (cells : List Instruction) → length (replicate (length cells) true) ≡ length cells
as_many cells = length-replicate (length cells) true

set_true : (m at : ℕ) → slice_set (replicate m true) at true ≡ replicate m true
set_true zero at = refl
set_true (suc m) zero = refl
set_true (suc m) (suc at) = ap (λ bs. true ∷ bs) (set_true m at)

pub all_stay : (cells : List Instruction) (at : ℕ) (i : Instruction) → replicate (length (slice_set cells at i)) true ≡ slice_set (replicate (length cells) true) at true
all_stay cells at i = ap (λ n. replicate n true) (length-set cells at i) ∙ sym (set_true (length cells) at)

get_true : (m at : ℕ) → get_or (replicate m true) at true ≡ true
get_true zero at = refl
get_true (suc m) zero = refl
get_true (suc m) (suc at) = get_true m at

pub none_added : (cells : List Instruction) (at n k : ℕ) → k ≡ n → k ≡ marks_after (replicate (length cells) true) at n
none_added cells at n k e = rw (get_true (length cells) at) e

pub at_most_all : (cells : List Instruction) → filled_in cells ≤ length cells
unfolding filled_in
at_most_all cells = count_by-le-length is_filled cells

pub still_all : (cells old : List Instruction) → length cells ≡ length old → replicate (length cells) true ≡ replicate (length old) true
still_all cells old e = ap (λ n. replicate n true) e

-- ---- packed cells

pub one_each : (words : List ℕ) → length (map is_marked words) ≡ length (map unpacked words)
one_each words = length-map words is_marked ∙ sym (length-map words unpacked)

-- a test of words, and a word that passes it
pub mark_set : (p : ℕ → Bool) (words : List ℕ) (at w : ℕ) → p w ≡ true → map p (slice_set words at w) ≡ slice_set (map p words) at true
mark_set p words at w m = map-set p words at w ∙ ap (λ b. slice_set (map p words) at b) m

mark_at : (p : ℕ → Bool) (words : List ℕ) (at : ℕ) → at < length words → get_or (map p words) at true ≡ p (get_or words at 0)
mark_at p [] at l = absurd (omega (arith, l))
mark_at p (w ∷ ws) zero l = refl
mark_at p (w ∷ ws) (suc at) l = mark_at p ws at (omega (arith, l))

counted : (b : Bool) (n k : ℕ) → (b ≡ false → k ≡ n + 1) → (b ≡ true → k ≡ n) → k ≡ cond b n (n + 1)
counted true n k first again = again refl
counted false n k first again = first refl

-- words beside a closed journal
pub all_counted : (words : List ℕ) → map (counts_as_marked false) words ≡ replicate (length (map unpacked words)) true
all_counted [] = refl
all_counted (w ∷ ws) = ap (λ bs. true ∷ bs) (all_counted ws)

unmarked_copies : (m : ℕ) → map is_marked (replicate m empty_word) ≡ replicate m false
unmarked_copies zero = refl
unmarked_copies (suc m) =
    let here : is_marked empty_word ≡ false = empty_unmarked in
    let rest = unmarked_copies m in
    λ i. here i ∷ rest i

pub unmarked_of : (words old : List ℕ) → words ≡ replicate (length old) empty_word → map is_marked words ≡ replicate (length (map unpacked old)) false
unmarked_of words old e = ap (λ ws. map is_marked ws) e ∙ unmarked_copies (length old) ∙ ap (λ n. replicate n false) (sym (length-map old unpacked))

empty_held : unpacked empty_word ≡ empty_cell
unfolding empty_word
empty_held = unpacked_packed empty_cell (packed empty_cell) refl (omega arith) (omega arith)

empty_itself : is_filled empty_cell ≡ false
unfolding same_instruction
empty_itself = refl

-- a cell that is not empty is marked
one_filled : (w : ℕ) (b : Bool) → is_marked w ≡ b → (is_marked w ≡ false → w ≡ empty_word) → bit (is_filled (unpacked w)) ≤ bit b
one_filled w true e h = at_most (is_filled (unpacked w)) where
  at_most : (c : Bool) → bit c ≤ 1
  at_most true = omega arith
  at_most false = omega arith
one_filled w false e h =
    let none : bit (is_filled (unpacked w)) ≡ 0 = ap (λ i. bit (is_filled i)) (ap unpacked (h e) ∙ empty_held) ∙ ap bit empty_itself in
    omega (arith, none)

filled_marked : (words : List ℕ) → ((k : ℕ) → k < length words → is_marked (get_or words k 0) ≡ false → get_or words k 0 ≡ empty_word) →
    count_by is_filled (map unpacked words) ≤ count_by is_marked words
filled_marked [] h = omega arith
filled_marked (w ∷ ws) h =
    let here = one_filled w (is_marked w) refl (λ e. h 0 (omega arith) e) in
    let rest = filled_marked ws (λ k l e. h (suc k) (omega arith) e) in
    let left = sum_by-cons (λ i. bit (is_filled i)) (unpacked w) (map unpacked ws) in
    let right = sum_by-cons (λ x. bit (is_marked x)) w ws in
    omega (arith, here, rest, left, right)

pub few_filled : (words journal : List ℕ) (count : ℕ) → IsStore words journal count → filled_in (map unpacked words) ≤ count
unfolding filled_in
few_filled words journal count s = let few = filled_marked words s.empty in let n = s.counted in omega (arith, few, n)

-- no more cells are filled than are marked
pub packed_few : (words journal : List ℕ) (count : ℕ) (is_open : Bool) → IsPacked words journal count is_open →
    filled_in (map unpacked words) ≤ cond is_open count (length words)
packed_few words journal count true s = few_filled words journal count (s.listed refl)
packed_few words journal count false s = omega (arith, at_most_all (map unpacked words), length-map words unpacked)
