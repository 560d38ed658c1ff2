-- Words in letters of any case.
use Rattle.std.proofs.Common.{◌≡◌, ℕ, ◌≤◌, Bool, true, false, List, [], ◌∷◌, take, drop, get_or, map, length, refl, sym, ◌∙◌, ap, arith}
use Rattle.std.specs.Char.{to_ascii_lowercase}
use Rattle.std.proofs.lemmas.Slice.Eq.{bytes_eq-Decides}
use Rattle.std.proofs.lemmas.List.{length-map, length-take}
use Rattle.std.specs.Prelude.{◌&&◌, ◌==◌}
use Rattle.std.specs.List.{list_all, list_any}
use Rattle.std.specs.Str.{bytes_eq}
use Rattle.std.proofs.lemmas.Bool.{ne_eqb, and_parts, both_ways, false_from_ne_true}
use Rattle.rc_text.specs.Bytes.{begins_with_word, begins_name, continues_name}
use Rattle.rc_text.specs.NameClasses.{is_name, is_one_of}

-- a text that begins with a word is no shorter
pub begins_le : (word text : List ℕ) → begins_with_word word text ≡ true → length word ≤ length text
begins_le word text h =
    let same = (bytes_eq-Decides (map to_ascii_lowercase (take (length word) text)) (map to_ascii_lowercase word)).0 h in
    let shorter : length (take (length word) text) ≡ length word = sym (length-map (take (length word) text) to_ascii_lowercase) ∙ (ap length same ∙ length-map word to_ascii_lowercase) in
    omega (arith, shorter, length-take (length word) text)

-- a name by its first byte and the others
pub name_of_more : (bytes : List ℕ) → 1 ≤ length bytes → is_name bytes ≡ (begins_name (get_or bytes 0 0) && list_all continues_name (drop 1 bytes))
name_of_more [] h = absurd (omega arith)
name_of_more (b ∷ rest) h = refl

-- an empty name is not a name
pub name_of_none : (bytes : List ℕ) → length bytes ≡ 0 → is_name bytes ≡ false
name_of_none [] h = refl
name_of_none (b ∷ rest) h = absurd (omega arith)

abbrev has_three : List ℕ → Bool
has_three w = length w == 3

-- a word of another length is not among words of three letters
any_none : (words : List (List ℕ)) (v : List ℕ) → list_all (λ w. has_three (map to_ascii_lowercase w)) words ≡ true → has_three v ≡ false → list_any (λ w. bytes_eq (map to_ascii_lowercase w) v) words ≡ false
any_none [] v k h = refl
any_none (w ∷ ws) v k h =
    let p = and_parts (has_three (map to_ascii_lowercase w)) (list_all (λ w. has_three (map to_ascii_lowercase w)) ws) k in
    let n : bytes_eq (map to_ascii_lowercase w) v ≡ false =
    false_from_ne_true (bytes_eq (map to_ascii_lowercase w) v) (λ s. both_ways (has_three v) h (ap has_three (sym ((bytes_eq-Decides (map to_ascii_lowercase w) v).0 s)) ∙ p.0)) in
    rw n (any_none ws v p.1 h)

pub no_word : (words : List (List ℕ)) (name : List ℕ) → list_all (λ w. has_three (map to_ascii_lowercase w)) words ≡ true → (length name ≡ 3 → ⊥) → false ≡ is_one_of words name
no_word words name k h = sym (any_none words (map to_ascii_lowercase name) k (ne_eqb (length (map to_ascii_lowercase name)) 3 (λ e. h (sym (length-map name to_ascii_lowercase) ∙ e))))
