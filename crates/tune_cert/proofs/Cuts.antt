-- A text is cut at a byte, part by part.
use Rattle.std.proofs.Common.{◌≡◌, inl, inr, ℕ, suc, ◌+◌, ◌<◌, ◌≤◌, Bool, true, false, List, [], ◌∷◌, ◌++◌, length, take, drop, refl, sym, ◌∙◌, ap, arith, subst, append-nil, append_assoc, Bor}
use Rattle.std.specs.Prelude.{◌==◌, nat_lt, Option, Some, None, IfSome, codes}
use Rattle.std.specs.Str.{bytes_eq}
use Rattle.std.specs.List.{slice_split, join_with_byte, position, position_or_len}
use Rattle.std.specs.Option.{option_map, option_map_or, option_zip}
use Rattle.std.proofs.lemmas.Bool.{ltb-true, ltb-false, cases_Bool}
use Rattle.std.proofs.lemmas.List.Splits.{slice_split_first, slice_split_none, join_with_byte-slice_split, length-slice_split}
use Rattle.std.proofs.lemmas.List.Sums.{fails_before_first}
use Rattle.std.proofs.lemmas.Option.{cond_some, same_Some}
use Rattle.tune_cert.specs.Spelling.{decimal_of, points_of, item_of, item_by, items_of, listing_of}
use Rattle.tune_cert.specs.Steps.{AreParts}
use Rattle.tune_cert.proofs.FieldTexts.{no_colon}

-- ---- where the byte is

pub cut_found : (p : ℕ → Bool) (xs : List ℕ) (at : ℕ) → position p xs ≡ Some at → (at < length xs) × (slice_split p xs ≡ take at xs ∷ slice_split p (drop (at + 1) xs))
cut_found p xs at e =
    let c = cond_some (nat_lt (position_or_len p xs) (length xs)) (position_or_len p xs) at e in
    let inside : position_or_len p xs < length xs = ltb-true (position_or_len p xs) (length xs) c.0 in
    (subst (λ (n : ℕ). n < length xs) c.1 inside, subst (λ (n : ℕ). slice_split p xs ≡ take n xs ∷ slice_split p (drop (n + 1) xs)) c.1 (slice_split_first p xs 0 inside))

pub cut_none : (p : ℕ → Bool) (xs : List ℕ) → position p xs ≡ None → slice_split p xs ≡ xs ∷ []
cut_none p xs e = elim (cases_Bool (nat_lt (position_or_len p xs) (length xs))) [
  | inl inside ↦ absurd (cc (e, inside))
  | inr outside ↦
      let past : length xs ≤ position_or_len p xs = ltb-false (position_or_len p xs) (length xs) outside in
      slice_split_none p xs (λ k d l. fails_before_first p xs k d (omega arith))
]

-- ---- a fight with its points

zip_none : {A B : Type 0} (a : Option A) (b : Option B) → b ≡ None → option_zip a b ≡ None
zip_none (Some x) b e = rw e refl
zip_none None b e = refl

some_part : (c : ℕ) (text : List ℕ) → slice_split (λ (b : ℕ). b == c) text ≡ [] → ⊥
some_part c text e =
    let none : length (slice_split (λ (b : ℕ). b == c) text) ≡ 0 = ap length e in
    omega (arith, none, length-slice_split (λ (b : ℕ). b == c) text)

-- points that are followed by a colon are none
points_alone : (points p q : List ℕ) (more : List (List ℕ)) → slice_split (λ (b : ℕ). b == 58) points ≡ p ∷ q ∷ more → (o : Option ℕ) → points_of points ≡ o → o ≡ None
points_alone points p q more e None o = refl
points_alone points p q more e (Some n) o = absurd (let alone = no_colon points n o in cc (e, alone))

by_parts : (fight points : List ℕ) (parts : List (List ℕ)) → slice_split (λ (b : ℕ). b == 58) points ≡ parts → item_by (fight ∷ parts) ≡ option_zip (decimal_of fight) (points_of points)
by_parts fight points [] e = absurd (some_part 58 points e)
by_parts fight points (p ∷ []) e =
    let same : p ≡ points = sym (ap (join_with_byte 58) e) ∙ join_with_byte-slice_split 58 points in
    rw same refl
by_parts fight points (p ∷ q ∷ more) e = sym (zip_none (decimal_of fight) (points_of points) (points_alone points p q more e (points_of points) refl))

item_cut : (text fight points : List ℕ) → slice_split (λ (b : ℕ). b == 58) text ≡ fight ∷ slice_split (λ (b : ℕ). b == 58) points → item_of text ≡ option_zip (decimal_of fight) (points_of points)
item_cut text fight points e = ap item_by e ∙ by_parts fight points (slice_split (λ (b : ℕ). b == 58) points) refl

no_item : (text fight : List ℕ) → slice_split (λ (b : ℕ). b == 58) text ≡ fight ∷ [] → item_of text ≡ None
no_item text fight e = ap item_by e

pub no_points : (text fight : List ℕ) (points : Option (Bor (List ℕ))) → AreParts 58 text fight points → points ≡ None → item_of text ≡ None
no_points text fight (Some p) parts e = absurd (cc)
no_points text fight None parts e = no_item text fight parts

pub bad_fight : (text fight : List ℕ) (points : Option (Bor (List ℕ))) → AreParts 58 text fight points → decimal_of fight ≡ None → item_of text ≡ None
bad_fight text fight (Some p) parts e = item_cut text fight p.now parts ∙ rw e refl
bad_fight text fight None parts e = no_item text fight parts

pub by_points : (text fight : List ℕ) (points : Option (Bor (List ℕ))) (p : Bor (List ℕ)) → AreParts 58 text fight points → points ≡ Some p → item_of text ≡ option_zip (decimal_of fight) (points_of p.now)
by_points text fight (Some q) p parts e =
    let same : q ≡ p = same_Some q p e in
    item_cut text fight q.now parts ∙ ap (λ (r : Bor (List ℕ)). option_zip (decimal_of fight) (points_of r.now)) same
by_points text fight None p parts e = absurd (cc)

pub bad_points : (text fight : List ℕ) (points : Option (Bor (List ℕ))) (p : Bor (List ℕ)) → AreParts 58 text fight points → points ≡ Some p → points_of p.now ≡ None → item_of text ≡ None
bad_points text fight points p parts is e = by_points text fight points p parts is ∙ zip_none (decimal_of fight) (points_of p.now) e

pub good_item : (text fight : List ℕ) (points : Option (Bor (List ℕ))) (p : Bor (List ℕ)) (f n : ℕ) → AreParts 58 text fight points → points ≡ Some p → decimal_of fight ≡ Some f → points_of p.now ≡ Some n
    → item_of text ≡ Some (f, n)
good_item text fight points p f n parts is e g = by_points text fight points p parts is ∙ rw (e, g) refl

-- ---- a list of fights

-- what the texts still to be read give after what was read
abbrev pub with_read : List (ℕ × ℕ) → Option (List (ℕ × ℕ)) → Option (List (ℕ × ℕ))
with_read read more = option_map (λ (items : List (ℕ × ℕ)). read ++ items) more

pub begun : (all : Option (List (ℕ × ℕ))) → all ≡ with_read [] all
begun (Some items) = refl
begun None = refl

pub ended : (read : List (ℕ × ℕ)) (all : Option (List (ℕ × ℕ))) → all ≡ with_read read (Some []) → all ≡ Some read
ended read all e = e ∙ ap (λ (items : List (ℕ × ℕ)). Some items) (append-nil read)

more_read : (read : List (ℕ × ℕ)) (item : ℕ × ℕ) (more : Option (List (ℕ × ℕ)))
    → with_read read (option_map (λ (x : (ℕ × ℕ) × List (ℕ × ℕ)). x.0 ∷ x.1) (option_zip (Some item) more)) ≡ with_read (read ++ item ∷ []) more
more_read read item (Some items) = ap (λ (xs : List (ℕ × ℕ)). Some xs) (sym (append_assoc read (item ∷ []) items))
more_read read item None = refl

-- what the texts after a cut give
abbrev pub others_of : Option (Bor (List ℕ)) → Option (List (ℕ × ℕ))
others_of others = option_map_or (λ (list : Bor (List ℕ)). items_of (slice_split (λ (b : ℕ). b == 32) list.now)) others (Some [])

parted : (list text : List ℕ) (others : Option (Bor (List ℕ))) → AreParts 32 list text others
    → items_of (slice_split (λ (b : ℕ). b == 32) list) ≡ option_map (λ (x : (ℕ × ℕ) × List (ℕ × ℕ)). x.0 ∷ x.1) (option_zip (item_of text) (others_of others))
parted list text (Some rest) parts = ap items_of parts
parted list text None parts = ap items_of parts

-- one more text is read
pub one_more : (read : List (ℕ × ℕ)) (item : ℕ × ℕ) (list text : List ℕ) (others : Option (Bor (List ℕ))) (all : Option (List (ℕ × ℕ)))
    → all ≡ with_read read (items_of (slice_split (λ (b : ℕ). b == 32) list)) → AreParts 32 list text others → item_of text ≡ Some item
    → all ≡ with_read (read ++ item ∷ []) (others_of others)
one_more read item list text others all e parts i =
    e ∙ ap (with_read read) (parted list text others parts)
    ∙ ap (λ (o : Option (ℕ × ℕ)). with_read read (option_map (λ (x : (ℕ × ℕ) × List (ℕ × ℕ)). x.0 ∷ x.1) (option_zip o (others_of others)))) i ∙ more_read read item (others_of others)

-- a text that is no fight
pub not_one : (read : List (ℕ × ℕ)) (list text : List ℕ) (others : Option (Bor (List ℕ))) (all : Option (List (ℕ × ℕ)))
    → all ≡ with_read read (items_of (slice_split (λ (b : ℕ). b == 32) list)) → AreParts 32 list text others → item_of text ≡ None → all ≡ None
not_one read list text others all e parts i =
    e ∙ ap (with_read read) (parted list text others parts)
    ∙ ap (λ (o : Option (ℕ × ℕ)). with_read read (option_map (λ (x : (ℕ × ℕ) × List (ℕ × ℕ)). x.0 ∷ x.1) (option_zip o (others_of others)))) i

-- what is left is shorter
pub shorter : (list : Bor (List ℕ)) (rest others : Option (Bor (List ℕ))) → rest ≡ Some list → IfSome others (λ r. length r.now < length list.now)
    → option_map_or (λ (l : Bor (List ℕ)). suc (length l.now)) others 0 < option_map_or (λ (l : Bor (List ℕ)). suc (length l.now)) rest 0
shorter list rest (Some r) e h = rw e (omega (arith, h))
shorter list rest None e h = rw e (omega arith)

pub dash_listed : (bytes : List ℕ) → bytes_eq bytes (codes "-") ≡ true → listing_of bytes ≡ Some []
unfolding listing_of
dash_listed bytes e = rw e refl

pub texts_listed : (bytes : List ℕ) → bytes_eq bytes (codes "-") ≡ false → listing_of bytes ≡ items_of (slice_split (λ (b : ℕ). b == 32) bytes)
unfolding listing_of
texts_listed bytes e = rw e refl
