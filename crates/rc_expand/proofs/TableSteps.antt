-- The search for a constant.
use Rattle.std.proofs.Common.{◌≡◌, ℕ, ◌+◌, ◌≤◌, ◌<◌, false, List, [], ◌∷◌, get_or, drop, drop-cons, add-one, length, refl, sym, ◌∙◌, ap, None}
use Rattle.std.specs.Prelude.{ℤ, pos}
use Rattle.std.specs.Global.{Vec}
use Rattle.std.specs.Str.{bytes_eq}
use Rattle.std.proofs.lemmas.List.{drop_all}
use Rattle.rc_expand.specs.Names.{entry_of, table_of}
use Rattle.rc_expand.proofs.Each.{split_at}

no_values : (ns : List (Vec ℕ)) → table_of ns [] ≡ []
no_values [] = refl
no_values (n ∷ ns) = refl

-- no entry is left
pub found_ends : (ns : List (Vec ℕ)) (vs : List ℤ) (name : List ℕ) (i : ℕ) → length vs ≤ i → entry_of (table_of (drop i ns) (drop i vs)) name ≡ None
found_ends ns vs name i h = ap (λ r. entry_of (table_of (drop i ns) r) name) (drop_all i vs h) ∙ ap (λ t. entry_of t name) (no_values (drop i ns))

-- an entry of another name is passed
pub found_passed : (ns : List (Vec ℕ)) (vs : List ℤ) (name : List ℕ) (i : ℕ) (n : Vec ℕ) → i < length ns → i < length vs → n ≡ get_or ns i n → false ≡ bytes_eq name n.items
    → entry_of (table_of (drop i ns) (drop i vs)) name ≡ entry_of (table_of (drop (i + 1) ns) (drop (i + 1) vs)) name
found_passed ns vs name i n h k is f =
    let t : bytes_eq name n.items ≡ false = sym f in
    let d : drop i vs ≡ get_or vs i (pos 0) ∷ drop (i + 1) vs = rw add-one (drop-cons vs i (pos 0) k) in
    ap (λ r. entry_of (table_of r (drop i vs)) name) (split_at ns i n h is) ∙ (ap (λ r. entry_of (table_of (n ∷ drop (i + 1) ns) r) name) d ∙ rw t)
