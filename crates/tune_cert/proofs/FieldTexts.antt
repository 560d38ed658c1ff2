-- What the fields of records spell: each definition gives a value exactly if the field is its text.
use Rattle.std.proofs.Common.{◌≡◌, ◌⊎◌, inl, inr, ℕ, ◌<◌, ◌^◌, Bool, true, false, List, [], ◌∷◌, ◌++◌, length, map, refl, sym, ◌∙◌, ap, arith, subst, append-nil, append_assoc}
use Rattle.std.specs.Prelude.{◌==◌, nat_lt, if◌then◌else◌, Option, Some, None, IfSome, All, flat_map, codes}
use Rattle.std.specs.Char.{is_ascii_digit}
use Rattle.std.specs.Fmt.{decimal}
use Rattle.std.specs.List.{slice_split, join_with_byte}
use Rattle.std.specs.Option.{option_map, option_zip}
use Rattle.std.specs.Str.{all_ascii_digits, bytes_eq}
use Rattle.std.proofs.lemmas.Bool.{and_parts, cases_Bool, eqb-true, ltb-true, lt-ltb}
use Rattle.std.proofs.lemmas.Fmt.{decimal_digit}
use Rattle.std.proofs.lemmas.List.Elements.{All-nil, All-cons, All-head, All-tail, All-append}
use Rattle.std.proofs.lemmas.List.Splits.{slice_split_at, slice_split_none, join_with_byte-slice_split, length-slice_split}
use Rattle.std.proofs.lemmas.Option.{same_Some}
use Rattle.std.proofs.lemmas.Slice.Eq.{bytes_eq-Decides}
use Rattle.mars_fight.specs.Play.{ArePoints}
use Rattle.rc_instr.specs.Digits.{read_on}
use Rattle.rc_instr.proofs.Decimals.{decimal_value, decimal_all, decimal_first}
use Rattle.tune_cert.specs.CertText.{item_text, spaced_text, list_text}
use Rattle.tune_cert.specs.Spelling.{IsVersion, IsItem, decimal_of, version_of, points_of, item_by, item_of, items_of, listing_of}

-- ---- steps

-- which way a choice went
pub branch : {A : Type 0} (b : Bool) (x y r : A) → (if b then x else y) ≡ r → ((b ≡ true) × (x ≡ r)) ⊎ ((b ≡ false) × (y ≡ r))
branch true x y r e = inl (refl, e)
branch false x y r e = inr (refl, e)

-- a condition that gave something holds
pub held : {A : Type 0} (b : Bool) (o : Option A) (y : A) → (if b then o else None) ≡ Some y → (b ≡ true) × (o ≡ Some y)
held true o y e = (refl, e)
held false o y e = absurd (cc)

pub zipped : {A B : Type 0} (a : Option A) (b : Option B) (y : A × B) → option_zip a b ≡ Some y → (a ≡ Some y.0) × (b ≡ Some y.1)
zipped (Some x) (Some z) y e =
    let p = same_Some _ _ e in
    (ap (λ q. Some q.0) p, ap (λ q. Some q.1) p)
zipped (Some x) None y e = absurd (cc)
zipped None b y e = absurd (cc)

pub changed : {A B : Type 0} (f : A → B) (o : Option A) (y : B) → option_map f o ≡ Some y → (x : A) × (o ≡ Some x) × (f x ≡ y)
changed f (Some x) y e = (x, refl, same_Some _ _ e)
changed f None y e = absurd (cc)

-- a test of a text
pub same_text : (a b : List ℕ) → bytes_eq a b ≡ true → a ≡ b
same_text a b e = (bytes_eq-Decides a b).0 e

pub is_text : (a b : List ℕ) → a ≡ b → bytes_eq a b ≡ true
is_text a b e = (bytes_eq-Decides a b).1 e

-- ---- decimals

pub decimal_spelled : (bytes : List ℕ) (n : ℕ) → decimal_of bytes ≡ Some n → (n < 2 ^ 32) × (bytes ≡ decimal n)
unfolding decimal_of
decimal_spelled bytes n e =
    let w = held _ (Some (read_on 0 bytes)) n e in
    let p = and_parts (nat_lt (read_on 0 bytes) (2 ^ 32)) (bytes_eq bytes (decimal (read_on 0 bytes))) w.0 in
    let is : read_on 0 bytes ≡ n = same_Some _ _ w.1 in
    (subst (λ (m : ℕ). m < 2 ^ 32) is (ltb-true _ _ p.0), subst (λ (m : ℕ). bytes ≡ decimal m) is (same_text _ _ p.1))

pub decimal_read : (bytes : List ℕ) (n : ℕ) → n < 2 ^ 32 → bytes ≡ decimal n → decimal_of bytes ≡ Some n
unfolding decimal_of
decimal_read bytes n small e = rw (e, decimal_value n small, lt-ltb n (2 ^ 32) small, is_text (decimal n) (decimal n) refl) refl

-- what is a decimal exactly if one is spelled
pub decimal_result : (bytes : List ℕ) (r : Option ℕ) → IfSome r (λ n. (bytes ≡ decimal n) × (n < 2 ^ 32)) → ((n : ℕ) → n < 2 ^ 32 → bytes ≡ decimal n → r ≡ Some n) → r ≡ decimal_of bytes
decimal_result bytes (Some n) found only = sym (decimal_read bytes n found.1 found.0)
decimal_result bytes None found only = by (decimal_of bytes) refl
  where
    by : (o : Option ℕ) → decimal_of bytes ≡ o → None ≡ o
    by None e = refl
    by (Some n) e = let s = decimal_spelled bytes n e in absurd (let is = only n s.0 s.1 in cc)

pub version_spelled : (bytes : List ℕ) (n : ℕ) → version_of bytes ≡ Some n → IsVersion n × (bytes ≡ decimal n)
version_spelled bytes n e = elim (branch (bytes_eq bytes (codes "1")) _ _ _ e) [
  | inl one ↦
      let is : 1 ≡ n = same_Some _ _ one.1 in
      (inl (sym is), same_text _ _ one.0 ∙ sym (decimal_digit 1 (omega arith)) ∙ ap decimal is)
  | inr other ↦
      let two = held (bytes_eq bytes (codes "2")) (Some 2) n other.1 in
      let is : 2 ≡ n = same_Some _ _ two.1 in
      (inr (sym is), same_text _ _ two.0 ∙ sym (decimal_digit 2 (omega arith)) ∙ ap decimal is)
]

pub version_read : (bytes : List ℕ) (n : ℕ) → IsVersion n → bytes ≡ decimal n → version_of bytes ≡ Some n
version_read bytes n (inl one) e = rw (e, one, decimal_digit 1 (omega arith)) refl
version_read bytes n (inr two) e = rw (e, two, decimal_digit 2 (omega arith)) refl

pub points_spelled : (bytes : List ℕ) (n : ℕ) → points_of bytes ≡ Some n → ArePoints n × (bytes ≡ decimal n)
points_spelled bytes n e = elim (branch (bytes_eq bytes (codes "0")) _ _ _ e) [
  | inl none ↦
      let is : 0 ≡ n = same_Some _ _ none.1 in
      (inl (sym is), same_text _ _ none.0 ∙ sym (decimal_digit 0 (omega arith)) ∙ ap decimal is)
  | inr some ↦ elim (branch (bytes_eq bytes (codes "1")) _ _ _ some.1) [
    | inl one ↦
        let is : 1 ≡ n = same_Some _ _ one.1 in
        (inr (inl (sym is)), same_text _ _ one.0 ∙ sym (decimal_digit 1 (omega arith)) ∙ ap decimal is)
    | inr other ↦
        let three = held (bytes_eq bytes (codes "3")) (Some 3) n other.1 in
        let is : 3 ≡ n = same_Some _ _ three.1 in
        (inr (inr (sym is)), same_text _ _ three.0 ∙ sym (decimal_digit 3 (omega arith)) ∙ ap decimal is)
  ]
]

pub points_read : (n : ℕ) → ArePoints n → points_of (decimal n) ≡ Some n
points_read n (inl none) = rw (none, decimal_digit 0 (omega arith)) refl
points_read n (inr (inl one)) = rw (one, decimal_digit 1 (omega arith)) refl
points_read n (inr (inr three)) = rw (three, decimal_digit 3 (omega arith)) refl

-- ---- fights with their points

-- digits are no other byte
no_digit : (c : ℕ) (digits : List ℕ) → is_ascii_digit c ≡ false → all_ascii_digits digits ≡ true → All (λ (x : ℕ). (x == c) ≡ false) digits
no_digit c [] other all = All-nil (λ (x : ℕ). (x == c) ≡ false)
no_digit c (d ∷ digits) other all =
    let p = and_parts (is_ascii_digit d) (all_ascii_digits digits) all in
    All-cons (λ (x : ℕ). (x == c) ≡ false) d digits (differs d p.0) (no_digit c digits other p.1)
  where
    differs : (d : ℕ) → is_ascii_digit d ≡ true → (d == c) ≡ false
    differs d is = elim (cases_Bool (d == c)) [
      | inl e ↦ absurd (let same = eqb-true d c e in cc)
      | inr e ↦ e
    ]

-- the colon is between the fight and its points
parts_spelled : (parts : List (List ℕ)) (i : ℕ × ℕ) → item_by parts ≡ Some i → IsItem i × (join_with_byte 58 parts ≡ item_text i)
unfolding item_text
parts_spelled (fight ∷ points ∷ []) i e =
    let z = zipped (decimal_of fight) _ i e in
    let f = decimal_spelled fight i.0 z.0 in
    let p = points_spelled points i.1 z.1 in
    ((f.0, p.0), rw (f.1, p.1) refl)
parts_spelled [] i e = absurd (cc)
parts_spelled (a ∷ []) i e = absurd (cc)
parts_spelled (a ∷ b ∷ c ∷ more) i e = absurd (cc)

item_spelled : (text : List ℕ) (i : ℕ × ℕ) → item_of text ≡ Some i → IsItem i × (text ≡ item_text i)
item_spelled text i e =
    let p = parts_spelled (slice_split (λ (b : ℕ). b == 58) text) i e in
    (p.0, sym (join_with_byte-slice_split 58 text) ∙ p.1)

points_small : (n : ℕ) → ArePoints n → n < 2 ^ 32
points_small n h = omega (arith, h)

-- points have no colon
pub no_colon : (text : List ℕ) (n : ℕ) → points_of text ≡ Some n → slice_split (λ (b : ℕ). b == 58) text ≡ text ∷ []
no_colon text n e =
    let p = points_spelled text n e in
    let digits = no_digit 58 (decimal n) refl (decimal_all n (points_small n p.0)) in
    rw p.1 (slice_split_none (λ (b : ℕ). b == 58) (decimal n) digits)

item_read : (i : ℕ × ℕ) → IsItem i → item_of (item_text i) ≡ Some i
unfolding item_text
item_read i h =
    let fight = no_digit 58 (decimal i.0) refl (decimal_all i.0 h.0) in
    let points = no_digit 58 (decimal i.1) refl (decimal_all i.1 (points_small i.1 h.1)) in
    rw (slice_split_at (λ (b : ℕ). b == 58) (decimal i.0) 58 (decimal i.1) fight refl, slice_split_none (λ (b : ℕ). b == 58) (decimal i.1) points, decimal_read (decimal i.0) i.0 h.0 refl, points_read i.1 h.1) refl

-- ---- lists of fights

-- the text is the list of these fights
pub record AreItems (text : List ℕ) (items : List (ℕ × ℕ)) : Type 0 where
  pub text_is : text ≡ list_text items
  pub each : All IsItem items

with_first : (a b : List ℕ) (xs ys : List (List ℕ)) → a ≡ b → xs ≡ ys → a ∷ xs ≡ b ∷ ys
with_first a b xs ys e f = cc

items_spelled : (texts : List (List ℕ)) (items : List (ℕ × ℕ)) → items_of texts ≡ Some items → All IsItem items × (texts ≡ map item_text items)
items_spelled [] items e =
    let none : [] ≡ items = same_Some _ _ e in
    rw (sym none) (All-nil _, refl)
items_spelled (text ∷ texts) items e =
    let m = changed (λ (x : (ℕ × ℕ) × List (ℕ × ℕ)). x.0 ∷ x.1) (option_zip (item_of text) (items_of texts)) items e in
    let z = zipped (item_of text) (items_of texts) m.0 m.1 in
    let i = item_spelled text m.0.0 z.0 in
    let more = items_spelled texts m.0.1 z.1 in
    subst (λ (xs : List (ℕ × ℕ)). All IsItem xs × (text ∷ texts ≡ map item_text xs)) m.2 (All-cons IsItem m.0.0 m.0.1 i.0 more.0, with_first text (item_text m.0.0) texts (map item_text m.0.1) i.1 more.1)

items_read : (items : List (ℕ × ℕ)) → All IsItem items → items_of (map item_text items) ≡ Some items
items_read [] h = refl
items_read (i ∷ items) h = rw (item_read i (All-head IsItem i items h), items_read items (All-tail IsItem i items h)) refl

-- the texts of fights, with a space between each two
joined : (i : ℕ × ℕ) (items : List (ℕ × ℕ)) → join_with_byte 32 (map item_text (i ∷ items)) ≡ list_text (i ∷ items)
unfolding list_text spaced_text
joined i [] = sym (append-nil (item_text i))
joined i (j ∷ items) = ap (λ (t : List ℕ). item_text i ++ 32 ∷ t) (joined j items)

-- the text of a fight has no space
no_space : (i : ℕ × ℕ) → IsItem i → All (λ (x : ℕ). (x == 32) ≡ false) (item_text i)
unfolding item_text
no_space i h =
    All-append (λ (x : ℕ). (x == 32) ≡ false) (decimal i.0) (58 ∷ decimal i.1) (no_digit 32 (decimal i.0) refl (decimal_all i.0 h.0))
    (All-cons (λ (x : ℕ). (x == 32) ≡ false) 58 (decimal i.1) refl (no_digit 32 (decimal i.1) refl (decimal_all i.1 (points_small i.1 h.1))))

parted : (i : ℕ × ℕ) (items : List (ℕ × ℕ)) → All IsItem (i ∷ items) → slice_split (λ (b : ℕ). b == 32) (list_text (i ∷ items)) ≡ map item_text (i ∷ items)
unfolding list_text spaced_text
parted i [] h = rw (append-nil (item_text i)) (slice_split_none (λ (b : ℕ). b == 32) (item_text i) (no_space i (All-head IsItem i [] h)))
parted i (j ∷ items) h =
    slice_split_at (λ (b : ℕ). b == 32) (item_text i) 32 (list_text (j ∷ items)) (no_space i (All-head IsItem i (j ∷ items) h)) refl
    ∙ ap (λ (t : List (List ℕ)). item_text i ∷ t) (parted j items (All-tail IsItem i (j ∷ items) h))

some_part : (text : List ℕ) → slice_split (λ (b : ℕ). b == 32) text ≡ [] → ⊥
some_part text e =
    let none : length (slice_split (λ (b : ℕ). b == 32) text) ≡ 0 = ap length e in
    omega (arith, none, length-slice_split (λ (b : ℕ). b == 32) text)

texts_spelled : (text : List ℕ) (items : List (ℕ × ℕ)) → items_of (slice_split (λ (b : ℕ). b == 32) text) ≡ Some items → AreItems text items
texts_spelled text [] e = absurd (some_part text (items_spelled (slice_split (λ (b : ℕ). b == 32) text) [] e).1)
texts_spelled text (i ∷ items) e =
    let s = items_spelled (slice_split (λ (b : ℕ). b == 32) text) (i ∷ items) e in
    record {
      text_is = sym (join_with_byte-slice_split 32 text) ∙ ap (join_with_byte 32) s.1 ∙ joined i items;
      each = s.0;
    }

dash : AreItems (codes "-") []
unfolding list_text
dash = record { text_is = refl; each = All-nil _ }

pub listing_spelled : (text : List ℕ) (items : List (ℕ × ℕ)) → listing_of text ≡ Some items → AreItems text items
unfolding listing_of
listing_spelled text items e = elim (branch (bytes_eq text (codes "-")) _ _ _ e) [
  | inl none ↦
      let is : [] ≡ items = same_Some _ _ none.1 in
      subst (λ (xs : List (ℕ × ℕ)). AreItems text xs) is (subst (λ (t : List ℕ). AreItems t []) (sym (same_text text (codes "-") none.0)) dash)
  | inr some ↦ texts_spelled text items some.1
]

-- a fight is no dash
item_parts : (i : ℕ × ℕ) (rest : List ℕ) → item_text i ++ rest ≡ decimal i.0 ++ 58 ∷ (decimal i.1 ++ rest)
unfolding item_text
item_parts i rest = simp append_assoc

not_dash : (i : ℕ × ℕ) (items : List (ℕ × ℕ)) → IsItem i → bytes_eq (list_text (i ∷ items)) (codes "-") ≡ false
unfolding list_text
not_dash i items h = elim (cases_Bool (bytes_eq (list_text (i ∷ items)) (codes "-"))) [
  | inl e ↦ absurd (decimal_first i.0 (58 ∷ (decimal i.1 ++ flat_map spaced_text items)) [] h.0 (sym (same_text _ _ e) ∙ item_parts i (flat_map spaced_text items)))
  | inr e ↦ e
]

no_list : listing_of (list_text []) ≡ Some []
unfolding listing_of list_text
no_list = refl

pub listing_read : (items : List (ℕ × ℕ)) → All IsItem items → listing_of (list_text items) ≡ Some items
unfolding listing_of
listing_read [] h = no_list
listing_read (i ∷ items) h = rw (not_dash i items (All-head IsItem i items h), parted i items h) (items_read (i ∷ items) h)
