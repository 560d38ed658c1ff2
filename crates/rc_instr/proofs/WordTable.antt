-- A word is its opcode's or modifier's, and no other's.
use Rattle.std.proofs.Common.{arith, cond, ◌≡◌, ◌≢◌, ℕ, get_or, Bool, true, false, List, [], ◌∷◌, ◌++◌, take, drop, length, Some, None, refl, ◌∙◌, ap}
use Rattle.std.specs.Prelude.{◌==◌}
use Rattle.std.specs.List.{find, list_all}
use Rattle.std.specs.Str.{bytes_eq}
use Rattle.std.proofs.lemmas.Bool.{and_parts, both_ways, false_from_ne_true}
use Rattle.std.proofs.lemmas.Slice.Eq.{bytes_eq-Decides}
use Rattle.rc_instr.specs.Words.{opcode_text, modifier_text, opcodes, modifiers, opcode_of, modifier_of, opcode_named, modifier_named}
use Rattle.rc_instr.specs.declared.instruction.Opcode.{Opcode}
use Rattle.rc_instr.specs.declared.instruction.Opcode.TheVariants.{Dat, Mov, Add, Sub, Mul, Div, Mod, Jmp, Jmz, Jmn, Djn, Seq, Sne, Slt, Spl, Nop}
use Rattle.rc_instr.specs.declared.instruction.Modifier.{Modifier}
use Rattle.rc_instr.specs.declared.instruction.Modifier.TheVariants.{A, B, AB, BA, F, X, I}

-- what a search finds has the word
pub found_word : {X : Type 0} (text : X → List ℕ) (xs : List X) (word : List ℕ) (x : X) → find (λ y. bytes_eq word (text y)) xs ≡ Some x → word ≡ text x
found_word text [] word x e = absurd (cc)
found_word text (y ∷ ys) word x e = by_test (bytes_eq word (text y)) refl e (λ h. found_word text ys word x h) where
  by_test : (b : Bool) → bytes_eq word (text y) ≡ b → cond b (Some y) (find (λ z. bytes_eq word (text z)) ys) ≡ Some x
      → (find (λ z. bytes_eq word (text z)) ys ≡ Some x → word ≡ text x) → word ≡ text x
  by_test true t h later = (bytes_eq-Decides word (text y)).0 t ∙ ap text (let e : y ≡ x = cc in e)
  by_test false t h later = later h

-- an opcode is found by its word alone
opcode_word_is : (word : List ℕ) (o : Opcode) → opcode_of word ≡ Some o → word ≡ opcode_text o
opcode_word_is word o e = found_word opcode_text opcodes word o e

-- a modifier's word is what it is found by
pub modifier_word_is : (word : List ℕ) (m : Modifier) → modifier_of word ≡ Some m → word ≡ modifier_text m
modifier_word_is word m e = found_word modifier_text modifiers word m e

pub opcode_found : (first second third : ℕ) (rest : List ℕ) (o : Opcode) → opcode_of (first ∷ second ∷ third ∷ []) ≡ Some o → first ∷ second ∷ third ∷ rest ≡ opcode_text o ++ rest
opcode_found first second third rest o e = ap (λ word. word ++ rest) (opcode_word_is (first ∷ second ∷ third ∷ []) o e)

-- an opcode's word at the front of a text is three letters that name it
pub opcode_front : (o : Opcode) (rest : List ℕ) → (opcode_of (take 3 (opcode_text o ++ rest)) ≡ Some o) × (drop 3 (opcode_text o ++ rest) ≡ rest)
opcode_front Dat rest = (refl, refl)
opcode_front Mov rest = (refl, refl)
opcode_front Add rest = (refl, refl)
opcode_front Sub rest = (refl, refl)
opcode_front Mul rest = (refl, refl)
opcode_front Div rest = (refl, refl)
opcode_front Mod rest = (refl, refl)
opcode_front Jmp rest = (refl, refl)
opcode_front Jmz rest = (refl, refl)
opcode_front Jmn rest = (refl, refl)
opcode_front Djn rest = (refl, refl)
opcode_front Seq rest = (refl, refl)
opcode_front Sne rest = (refl, refl)
opcode_front Slt rest = (refl, refl)
opcode_front Spl rest = (refl, refl)
opcode_front Nop rest = (refl, refl)

-- a modifier of one letter, and the space after it
pub letter_ahead : (m : Modifier) (rest : List ℕ) (first : ℕ) (others : List ℕ) → first ∷ 32 ∷ others ≡ modifier_text m ++ 32 ∷ rest → (modifier_of (first ∷ []) ≡ Some m) × (others ≡ rest)
letter_ahead A rest first others e = (ap (λ l. modifier_of (take 1 l)) e, ap (drop 2) e)
letter_ahead B rest first others e = (ap (λ l. modifier_of (take 1 l)) e, ap (drop 2) e)
letter_ahead AB rest first others e = absurd (let n : 32 ≡ 66 = ap (λ l. get_or l 1 0) e in omega (arith, n))
letter_ahead BA rest first others e = absurd (let n : 32 ≡ 65 = ap (λ l. get_or l 1 0) e in omega (arith, n))
letter_ahead F rest first others e = (ap (λ l. modifier_of (take 1 l)) e, ap (drop 2) e)
letter_ahead X rest first others e = (ap (λ l. modifier_of (take 1 l)) e, ap (drop 2) e)
letter_ahead I rest first others e = (ap (λ l. modifier_of (take 1 l)) e, ap (drop 2) e)

-- a modifier of two letters, of which the second is not a space
pub letters_ahead : (m : Modifier) (rest : List ℕ) (first second : ℕ) (others : List ℕ) → second ≢ 32 → first ∷ second ∷ others ≡ modifier_text m ++ 32 ∷ rest
    → (modifier_of (first ∷ second ∷ []) ≡ Some m) × (others ≡ 32 ∷ rest)
letters_ahead A rest first second others n e = absurd (n (ap (λ l. get_or l 1 0) e))
letters_ahead B rest first second others n e = absurd (n (ap (λ l. get_or l 1 0) e))
letters_ahead AB rest first second others n e = (ap (λ l. modifier_of (take 2 l)) e, ap (drop 2) e)
letters_ahead BA rest first second others n e = (ap (λ l. modifier_of (take 2 l)) e, ap (drop 2) e)
letters_ahead F rest first second others n e = absurd (n (ap (λ l. get_or l 1 0) e))
letters_ahead X rest first second others n e = absurd (n (ap (λ l. get_or l 1 0) e))
letters_ahead I rest first second others n e = absurd (n (ap (λ l. get_or l 1 0) e))

-- a word of another length is not among words of this length
found_none : {X : Type 0} (text : X → List ℕ) (n : ℕ) (xs : List X) (word : List ℕ) → list_all (λ x. length (text x) == n) xs ≡ true → (length word == n) ≡ false
    → find (λ x. bytes_eq word (text x)) xs ≡ None
found_none text n [] word k h = refl
found_none text n (x ∷ xs) word k h =
    let p = and_parts (length (text x) == n) (list_all (λ y. length (text y) == n) xs) k in
    let e : bytes_eq word (text x) ≡ false =
    false_from_ne_true (bytes_eq word (text x)) (λ s. both_ways (length word == n) h (ap (λ w. length w == n) ((bytes_eq-Decides word (text x)).0 s) ∙ p.0)) in
    rw e (found_none text n xs word p.1 h)

-- an opcode's word names it
pub opcode_back : (o : Opcode) → opcode_named (opcode_text o) ≡ Some o
opcode_back Dat = refl
opcode_back Mov = refl
opcode_back Add = refl
opcode_back Sub = refl
opcode_back Mul = refl
opcode_back Div = refl
opcode_back Mod = refl
opcode_back Jmp = refl
opcode_back Jmz = refl
opcode_back Jmn = refl
opcode_back Djn = refl
opcode_back Seq = refl
opcode_back Sne = refl
opcode_back Slt = refl
opcode_back Spl = refl
opcode_back Nop = refl

-- a modifier's word names it
pub modifier_back : (m : Modifier) → modifier_named (modifier_text m) ≡ Some m
modifier_back A = refl
modifier_back B = refl
modifier_back AB = refl
modifier_back BA = refl
modifier_back F = refl
modifier_back X = refl
modifier_back I = refl
