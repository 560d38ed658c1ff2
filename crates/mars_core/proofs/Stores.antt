-- Words and their journal.
use Rattle.std.proofs.Common.{◌≡◌, ◌≢◌, ℕ, zero, suc, ◌<◌, ◌≤◌, ◌+◌, List, [], ◌∷◌, ◌++◌, length, take, Bool, true, false, get_or, refl, sym, ◌∙◌, ap, arith, cond, length-set, get_or-set_other, get_or-set_same, subst, inl, inr, ◌⊎◌}
use Rattle.std.specs.Prelude.{slice_set, count_by, Contains, All, map, replicate}
use Rattle.std.proofs.lemmas.Bool.Decides.{eqb_tells}
use Rattle.std.proofs.lemmas.List.Sums.{sum_by-set, sum_by-cons, count_by-le-length}
use Rattle.std.proofs.lemmas.List.Elements.{All-push, All-nil, All-get_or, All-set, All-replicate, Contains-push, Contains-append_left}
use Rattle.std.proofs.lemmas.List.{get_or-map, map-set, length-replicate, length-map}
use Rattle.rc_instr.specs.Instruction.{empty_cell}
use Rattle.rc_instr.specs.declared.instruction.Instruction.{Instruction}
use Rattle.mars_core.specs.Packed.{packed, unpacked, is_marked, empty_word, marked, mark_of, IsClassed}
use Rattle.mars_core.specs.Classes.{class_of_key}
use Rattle.mars_core.specs.Store.{IsStore, IsPacked, ListsWritten}
use Rattle.mars_core.proofs.Packing.{unpacked_packed, unpacked_marked, mark_marked, classed_packed}

pub marked_is : (w v : ℕ) → v ≡ marked w → is_marked v ≡ true
marked_is w v e = rw (e, mark_marked w) refl

pub marked_holds : (w v : ℕ) → v ≡ marked w → unpacked v ≡ unpacked w
marked_holds w v e = ap unpacked e ∙ unpacked_marked w

pub marked_marked : (w : ℕ) → is_marked (marked w) ≡ true
marked_marked w = rw (mark_marked w) refl

abbrev bit : Bool → ℕ
bit b = cond b 1 0

-- one word more is marked
counted_more : (words : List ℕ) (at w : ℕ) → at < length words → is_marked (get_or words at 0) ≡ false → is_marked w ≡ true →
    count_by is_marked (slice_set words at w) ≡ count_by is_marked words + 1
counted_more words at w l u m =
    let e = sum_by-set (λ x. bit (is_marked x)) words at w 0 l in
    let b : bit (is_marked (get_or words at 0)) ≡ 0 = ap bit u in
    let d : bit (is_marked w) ≡ 1 = ap bit m in
    omega (arith, e, b, d)

counted_same : (words : List ℕ) (at w : ℕ) → at < length words → is_marked (get_or words at 0) ≡ true → is_marked w ≡ true →
    count_by is_marked (slice_set words at w) ≡ count_by is_marked words
counted_same words at w l u m =
    let e = sum_by-set (λ x. bit (is_marked x)) words at w 0 l in
    let b : bit (is_marked (get_or words at 0)) ≡ 1 = ap bit u in
    let d : bit (is_marked w) ≡ 1 = ap bit m in
    omega (arith, e, b, d)

-- a word that is not marked leaves room in the journal
pub room_left : (words journal : List ℕ) (count at : ℕ) → IsStore words journal count → at < length words → is_marked (get_or words at 0) ≡ false →
    count < length words
room_left words journal count at s l u =
    let more = counted_more words at (marked 0) l u (marked_marked 0) in
    let most = count_by-le-length is_marked (slice_set words at (marked 0)) in
    let same = length-set words at (marked 0) in
    omega (arith, s.counted, more, most, same)

-- the first items, and one more
taken_suc : (xs : List ℕ) (n x : ℕ) → n < length xs → take (suc n) (slice_set xs n x) ≡ take n xs ++ x ∷ []
taken_suc [] n x l = absurd (omega arith)
taken_suc (y ∷ ys) zero x l = refl
taken_suc (y ∷ ys) (suc n) x l = ap (λ zs. y ∷ zs) (taken_suc ys n x (omega arith))

taken_more : (xs : List ℕ) (n x : ℕ) → n < length xs → take (n + 1) (slice_set xs n x) ≡ take n xs ++ x ∷ []
taken_more xs n x l = let e : n + 1 ≡ suc n = omega arith in rw e (taken_suc xs n x l)

-- a marked word written: the others stay, and it is marked
at_or_other : (words : List ℕ) (at w k : ℕ) → at < length words →
    ((k ≡ at) × (get_or (slice_set words at w) k 0 ≡ w)) ⊎ ((k ≢ at) × (get_or (slice_set words at w) k 0 ≡ get_or words k 0))
at_or_other words at w k l = elim (eqb_tells k at) [
  | inl p ↦ inl (p.1, rw p.1 (rw get_or-set_same))
  | inr p ↦ let n : k ≢ at = p.1 in inr (p.1, get_or-set_other words at k w 0 n)
]

-- in any journal that has what this one has, and `at`: words with a marked one there are a store
stored : (words journal journal' : List ℕ) (count count' at w : ℕ) → IsStore words journal count → at < length words → is_marked w ≡ true →
    length journal' ≡ length words → count' ≡ count_by is_marked (slice_set words at w) →
    ((k : ℕ) → Contains (take count journal) k → Contains (take count' journal') k) → Contains (take count' journal') at →
    All (λ j. j < length words) (take count' journal') → IsClassed w → IsStore (slice_set words at w) journal' count'
stored words journal journal' count count' at w s l m roomy counts keeps has within class = record {
  small = omega (arith, s.small, length-set words at w);
  room = omega (arith, length-set words at w);
  counted = counts;
  empty = λ k h e.
      elim (at_or_other words at w k l) [
        | inl p ↦ absurd (let t : true ≡ false = sym (ap is_marked p.1 ∙ m) ∙ e in cc)
        | inr p ↦ p.1 ∙ s.empty k (omega (arith, length-set words at w)) (sym (ap is_marked p.1) ∙ e)
      ];
  listed = λ k h e.
      elim (at_or_other words at w k l) [
        | inl p ↦ subst (λ (j : ℕ). Contains (take count' journal') j) (sym p.0) has
        | inr p ↦ keeps k (s.listed k (omega (arith, length-set words at w)) (sym (ap is_marked p.1) ∙ e))
      ];
  within = λ k d h. rw (length-set words at w) (within k d h);
  classed = All-set IsClassed words at w class s.classed;
}

pub stored_again : (words journal : List ℕ) (count at w : ℕ) → IsStore words journal count → at < length words → is_marked (get_or words at 0) ≡ true →
    is_marked w ≡ true → IsClassed w → IsStore (slice_set words at w) journal count
stored_again words journal count at w s l u m p =
    stored words journal journal count count at w s l m s.room (s.counted ∙ sym (counted_same words at w l u m)) (λ k h. h) (s.listed at l u) s.within p

pub stored_first : (words journal : List ℕ) (count at w : ℕ) → IsStore words journal count → at < length words → is_marked (get_or words at 0) ≡ false →
    is_marked w ≡ true → IsClassed w → IsStore (slice_set words at w) (slice_set journal count at) (count + 1)
stored_first words journal count at w s l u m p =
    let left = room_left words journal count at s l u in
    let taken = taken_more journal count at (omega (arith, left, s.room)) in
    stored words journal (slice_set journal count at) count (count + 1) at w s l m (omega (arith, s.room, length-set journal count at))
    (sym (counted_more words at w l u m ∙ ap (λ n. n + 1) (sym s.counted)))
    (λ k h. rw taken (Contains-append_left (take count journal) (at ∷ []) k h)) (rw taken (Contains-push (take count journal) at))
    (rw taken (All-push (λ j. j < length words) (take count journal) at s.within l)) p

-- each word keeps a class that is right
pub word_classed : (words journal : List ℕ) (count : ℕ) (is_open : Bool) (at : ℕ) → IsPacked words journal count is_open → at < length words → IsClassed (get_or words at 0)
word_classed words journal count is_open at s l = All-get_or IsClassed words at 0 l s.classed

-- a journal that is right may be closed
pub packed_of : (words journal : List ℕ) (count : ℕ) (is_open : Bool) → IsStore words journal count → IsPacked words journal count is_open
packed_of words journal count is_open s = record { small = s.small; room = s.room; classed = s.classed; listed = λ e. s }

-- beside a closed journal, a word of a right class is all that is needed
pub packed_set : (words journal : List ℕ) (count : ℕ) (is_open : Bool) (at w : ℕ) → IsPacked words journal count is_open → is_open ≡ false → IsClassed w →
    IsPacked (slice_set words at w) journal count is_open
packed_set words journal count is_open at w s e p = record {
  small = omega (arith, s.small, length-set words at w);
  room = omega (arith, s.room, length-set words at w);
  classed = All-set IsClassed words at w p s.classed;
  listed = λ o. absurd (let t : true ≡ false = sym o ∙ e in cc);
}

pub item_at : (words : List ℕ) (at : ℕ) → at < length words → get_or (map unpacked words) at empty_cell ≡ unpacked (get_or words at 0)
item_at words at l = get_or-map unpacked words at 0 empty_cell l

pub item_set : (words : List ℕ) (at w : ℕ) (i : Instruction) → unpacked w ≡ i → map unpacked (slice_set words at w) ≡ slice_set (map unpacked words) at i
item_set words at w i e = map-set unpacked words at w ∙ ap (λ j. slice_set (map unpacked words) at j) e

pub written_listed : (words journal : List ℕ) (count : ℕ) → IsStore words journal count → ListsWritten words (take count journal)
written_listed words journal count s = record {
  within = s.within;
  listed = λ k l. by_mark words (take count journal) k (is_marked (get_or words k 0)) refl (s.empty k l) (s.listed k l);
} where
  by_mark : (words journal : List ℕ) (k : ℕ) (b : Bool) → is_marked (get_or words k 0) ≡ b → (is_marked (get_or words k 0) ≡ false → get_or words k 0 ≡ empty_word) →
      (is_marked (get_or words k 0) ≡ true → Contains journal k) → (get_or words k 0 ≡ empty_word) ⊎ Contains journal k
  by_mark words journal k true e f g = inr (g e)
  by_mark words journal k false e f g = inl (f e)

-- a list whose items are all x
pub all_replicate : (xs : List ℕ) (x : ℕ) → ((k : ℕ) → k < length xs → get_or xs k 0 ≡ x) → xs ≡ replicate (length xs) x
all_replicate [] x h = refl
all_replicate (y ∷ ys) x h = (let f : y ≡ x = h 0 (omega arith) in let r = all_replicate ys x (λ k l. h (suc k) (omega arith)) in cc)

pub emptied : (words : List ℕ) → ListsWritten words [] → words ≡ replicate (length words) empty_word
emptied words h = all_replicate words empty_word (λ k l. elim (h.listed k l) [ inl p ↦ p | inr p ↦ absurd (omega (arith, p.1)) ])

map_copies : (m w : ℕ) (i : Instruction) → unpacked w ≡ i → map unpacked (replicate m w) ≡ replicate m i
map_copies zero w i e = refl
map_copies (suc m) w i e = let r = map_copies m w i e in cc

pub blanks : (m : ℕ) → map unpacked (replicate m empty_word) ≡ replicate m empty_cell
unfolding empty_word
blanks m = map_copies m _ _ (unpacked_packed empty_cell (packed empty_cell) refl (omega arith) (omega arith))

pub blanks_of : (words old : List ℕ) → words ≡ replicate (length old) empty_word → map unpacked words ≡ replicate (length (map unpacked old)) empty_cell
blanks_of words old e = ap (λ xs. map unpacked xs) e ∙ blanks (length old) ∙ ap (λ k. replicate k empty_cell) (sym (length-map old unpacked))

-- the empty word is not marked
pub empty_unmarked : is_marked empty_word ≡ false
unfolding empty_word packed mark_of class_of_key
empty_unmarked = refl

get_or_replicate : (m k x : ℕ) → k < m → get_or (replicate m x) k 0 ≡ x
get_or_replicate zero k x l = absurd (omega arith)
get_or_replicate (suc m) zero x l = refl
get_or_replicate (suc m) (suc k) x l = get_or_replicate m k x (omega arith)

none_counted : (m : ℕ) → count_by is_marked (replicate m empty_word) ≡ 0
none_counted zero = refl
none_counted (suc m) =
    let e : bit (is_marked empty_word) ≡ 0 = ap bit empty_unmarked in
    let r : bit (is_marked empty_word) + count_by is_marked (replicate m empty_word) ≡ 0 = omega (arith, e, none_counted m) in
    sum_by-cons (λ x. bit (is_marked x)) empty_word (replicate m empty_word) ∙ r

empty_classed : IsClassed empty_word
unfolding empty_word
empty_classed = classed_packed empty_cell (packed empty_cell) refl (omega arith) (omega arith)

all_empty : (m : ℕ) → All IsClassed (replicate m empty_word)
all_empty m = All-replicate IsClassed m empty_word empty_classed

pub fresh_store : (m : ℕ) (journal : List ℕ) → m ≤ 65535 → length journal ≡ m → IsStore (replicate m empty_word) journal 0
fresh_store m journal l r = let n = length-replicate m empty_word in record {
  small = omega (arith, n);
  room = omega (arith, n);
  counted = sym (none_counted m);
  empty = λ k h e. get_or_replicate m k empty_word (omega (arith, n));
  listed = λ k h e. absurd (let t : true ≡ false = sym e ∙ ap is_marked (get_or_replicate m k empty_word (omega (arith, n))) ∙ empty_unmarked in cc);
  within = All-nil (λ j. j < length (replicate m empty_word));
  classed = all_empty m;
}

pub ruleset stores = (room_left, stored_again, stored_first, fresh_store, word_classed)
