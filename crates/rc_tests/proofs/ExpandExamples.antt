-- Examples of rc_expand: the lines of concrete texts, computed by the definitions.
use Rattle.std.specs.Prelude.{◌≡◌, refl, ℕ, List, [], ◌∷◌, ◌++◌, map, codes, Option, Some, option_map, Bool, true, false, is_some}
use Rattle.std.specs.Result.{result_ok}
use Rattle.rc_text.specs.Reading.{before_operand, after_operand}
use Rattle.rc_text.specs.declared.token.Sign.TheVariants.{Hash, Comma, Plus, Star}
use Rattle.rc_text.specs.Symbols.{Symbol, Identifier, Decimal, Mark, name_of, symbols_of}
use Rattle.rc_instr.specs.Rules.{rules_view}
use Rattle.rc_expand.specs.declared.line.Line.{Line}
use Rattle.rc_text.specs.NameClasses.{is_opcode_word}
use Rattle.rc_expand.specs.Names.{given_names, is_taken}
use Rattle.rc_expand.specs.Read.Lines.{is_unreserved_name, is_opcode, word_of_name, raw_line_of}
use Rattle.rc_expand.specs.Replace.{replaced_tokens}
use Rattle.rc_expand.specs.Unroll.{unrolled}
use Rattle.rc_expand.specs.Unroll.Copies.{copied_line}
use Rattle.rc_expand.specs.Unroll.Openings.{count_of, opening}
use Rattle.rc_expand.specs.Read.{equs_of, first_pass}
use Rattle.rc_expand.specs.Replace.Lines.{line_of, replaced}
use Rattle.rc_expand.specs.Expansion.{expansion_of}

abbrev lines_of : List ℕ → Option (List Line)
lines_of text = result_ok (expansion_of text [] (rules_view 16 20 4 4 4))

-- Lines, each with a line feed after it.
abbrev text_of : List (List ℕ) → List ℕ
text_of [] = []
text_of (l ∷ ls) = l ++ (10 ∷ text_of ls)

-- The labels of a line as names, and its tokens as symbols.
abbrev Shown : Type 0
Shown = List (List ℕ) × List Symbol

abbrev shown : List (List ℕ) → List Symbol → Shown
shown labels symbols = (labels, symbols)

abbrev shown_lines : List (List ℕ) → Option (List Shown)
shown_lines ls = option_map (map (λ l. shown (map (name_of (text_of ls)) l.labels) (symbols_of (text_of ls) l.tokens))) (lines_of (text_of ls))

abbrev label_names_of : List (List ℕ) → Option (List (List (List ℕ)))
label_names_of ls = option_map (map (λ l. map (name_of (text_of ls)) l.labels)) (lines_of (text_of ls))

abbrev has_lines : List (List ℕ) → Bool
has_lines ls = is_some (lines_of (text_of ls))

-- A counter is joined to a name, and becomes a number elsewhere.
copies_of_a_line : shown_lines (codes "i FOR 2" ∷ codes "x&i DAT #i" ∷ codes "ROF" ∷ codes "JMP x01" ∷ [])
    ≡ Some (
    shown (codes "x01" ∷ []) (Identifier (codes "DAT") ∷ Mark Hash ∷ Decimal 1 ∷ [])
    ∷ shown (codes "x02" ∷ []) (Identifier (codes "DAT") ∷ Mark Hash ∷ Decimal 2 ∷ [])
    ∷ shown [] (Identifier (codes "JMP") ∷ Identifier (codes "x01") ∷ []) ∷ [])
unfolding expansion_of first_pass equs_of line_of replaced unrolled given_names is_taken count_of opening copied_line replaced_tokens is_unreserved_name is_opcode word_of_name raw_line_of is_opcode_word before_operand after_operand
copies_of_a_line = refl

-- An EQU name stands for tokens, not for a value.
tokens_in_place : shown_lines (codes "s EQU 2+3" ∷ codes "DAT #0, #s*2" ∷ [])
    ≡ Some (shown [] (Identifier (codes "DAT") ∷ Mark Hash ∷ Decimal 0 ∷ Mark Comma ∷ Mark Hash ∷ Decimal 2 ∷ Mark Plus ∷ Decimal 3 ∷ Mark Star ∷ Decimal 2 ∷ []) ∷ [])
unfolding expansion_of first_pass equs_of line_of replaced unrolled given_names is_taken count_of opening copied_line replaced_tokens is_unreserved_name is_opcode word_of_name raw_line_of is_opcode_word before_operand after_operand
tokens_in_place = refl

-- Two nested blocks, a dropped one, and END before the end.
nested_blocks : label_names_of (codes "a FOR 2" ∷ codes "b FOR a" ∷ codes "x&a&b NOP a,b ; c" ∷ codes "ROF" ∷ codes "ROF" ∷ codes "FOR 0" ∷ codes "junk EQU 5" ∷ codes "ROF" ∷ codes "END x0101" ∷ codes "= =" ∷ [])
    ≡ Some ((codes "x0101" ∷ []) ∷ (codes "x0201" ∷ []) ∷ (codes "x0202" ∷ []) ∷ [] ∷ [])
unfolding expansion_of first_pass equs_of line_of replaced unrolled given_names is_taken count_of opening copied_line replaced_tokens is_unreserved_name is_opcode word_of_name raw_line_of is_opcode_word before_operand after_operand
nested_blocks = refl

-- A joined name that spells the counter of an inner block is that counter.
joined_counter : shown_lines (codes "i FOR 1" ∷ codes "x01 FOR 2" ∷ codes "DAT x&i" ∷ codes "ROF" ∷ codes "ROF" ∷ [])
    ≡ Some (shown [] (Identifier (codes "DAT") ∷ Decimal 1 ∷ []) ∷ shown [] (Identifier (codes "DAT") ∷ Decimal 2 ∷ []) ∷ [])
unfolding expansion_of first_pass equs_of line_of replaced unrolled given_names is_taken count_of opening copied_line replaced_tokens is_unreserved_name is_opcode word_of_name raw_line_of is_opcode_word before_operand after_operand
joined_counter = refl

-- A FOR alone, the counter of an enclosing block, a counter written with `&`, an EQU in a block, a
-- label before ROF, a ninth counter.
refused_texts : map has_lines ((codes "FOR 3" ∷ []) ∷ (codes "i FOR 2" ∷ codes "i FOR 2" ∷ codes "ROF" ∷ codes "ROF" ∷ []) ∷ (codes "i FOR 2" ∷ codes "x&i FOR 2" ∷ codes "ROF" ∷ codes "ROF" ∷ [])
    ∷ (codes "FOR 1" ∷ codes "s EQU 2" ∷ codes "ROF" ∷ []) ∷ (codes "FOR 0" ∷ codes "a ROF" ∷ []) ∷ (codes "i FOR 1" ∷ codes "x&i&i&i&i&i&i&i&i&i NOP" ∷ codes "ROF" ∷ []) ∷ [])
    ≡ false ∷ false ∷ false ∷ false ∷ false ∷ false ∷ []
unfolding expansion_of first_pass equs_of line_of replaced unrolled given_names is_taken count_of opening copied_line replaced_tokens is_unreserved_name is_opcode word_of_name raw_line_of is_opcode_word before_operand after_operand
refused_texts = refl

-- In a dropped block only FOR, ROF and END count.
dropped_lines : map has_lines ((codes "FOR 0" ∷ codes "FOR 0" ∷ codes "a ROF 3" ∷ codes "CORESIZE EQU" ∷ codes "x FOR" ∷ codes "ROF" ∷ codes "ROF" ∷ codes "NOP" ∷ [])
    ∷ (codes "i FOR 1" ∷ codes "FOR 0" ∷ codes "x&i&i&i&i&i&i&i&i&i NOP" ∷ codes "ROF" ∷ codes "ROF" ∷ []) ∷ [])
    ≡ true ∷ true ∷ []
unfolding expansion_of first_pass equs_of line_of replaced unrolled given_names is_taken count_of opening copied_line replaced_tokens is_unreserved_name is_opcode word_of_name raw_line_of is_opcode_word before_operand after_operand
dropped_lines = refl
