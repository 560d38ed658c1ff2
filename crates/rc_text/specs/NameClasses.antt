-- Names, and which of them are reserved or predefined. The opcodes are those of `rc_instr`.
use Rattle.std.specs.Prelude.{ℕ, Bool, false, ◌&&◌, ◌||◌, List, [], ◌∷◌, map, if◌then◌else◌, is_some, codes}
use Rattle.std.specs.List.{list_any, list_all}
use Rattle.std.specs.Str.{bytes_eq}
use Rattle.std.specs.Char.{to_ascii_lowercase}
use Rattle.rc_instr.specs.Words.{opcode_named}
use Rattle.rc_text.specs.declared.class.NameClass.{NameClass}
use Rattle.rc_text.specs.declared.class.NameClass.TheVariants.{NoName, Reserved, Predefined, Free}
use Rattle.rc_text.specs.Bytes.{begins_name, continues_name, is_same_word}

-- A letter or an underscore, then letters, digits and underscores.
abbrev pub is_name : List ℕ → Bool
is_name [] = false
is_name (b ∷ rest) = begins_name b && list_all continues_name rest

-- The directives: ORG and END of the 1994 draft, EQU, FOR and ROF of pMARS.
abbrev pub directives : List (List ℕ)
directives = codes "ORG" ∷ codes "END" ∷ codes "EQU" ∷ codes "FOR" ∷ codes "ROF" ∷ []

-- A name that is one of the words, in letters of any case.
abbrev pub is_one_of : List (List ℕ) → List ℕ → Bool
is_one_of words name = list_any (λ word. is_same_word word name) words

-- A name in lower case that is one of the words.
abbrev pub is_lower_of : List (List ℕ) → List ℕ → Bool
is_lower_of words name = list_any (λ word. bytes_eq (map to_ascii_lowercase word) name) words

-- An opcode, in letters of any case.
unfoldable pub is_opcode_word : List ℕ → Bool
is_opcode_word name = is_some (opcode_named name)

-- An opcode or a directive, in letters of any case.
abbrev pub is_reserved : List ℕ → Bool
is_reserved name = is_opcode_word name || is_one_of directives name

-- The predefined names, in capitals (pMARS).
abbrev pub predefined_names : List (List ℕ)
predefined_names =
    codes "CORESIZE"
    ∷ codes "MAXPROCESSES"
    ∷ codes "MAXCYCLES"
    ∷ codes "MAXLENGTH"
    ∷ codes "MINDISTANCE"
    ∷ codes "WARRIORS"
    ∷ codes "VERSION"
    ∷ codes "CURLINE"
    ∷ []

-- A name that is one of the predefined names, case included.
abbrev pub is_predefined : List ℕ → Bool
is_predefined name = list_any (λ word. bytes_eq name word) predefined_names

-- A name is reserved before it is predefined, and free otherwise.
abbrev pub class_of : List ℕ → NameClass
class_of bytes =
    if is_name bytes then (if is_reserved bytes then Reserved else if is_predefined bytes then Predefined else Free)
    else NoName
