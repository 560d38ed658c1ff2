-- Examples of rc_text: tokens and values of concrete texts, computed by the definitions.
use Rattle.std.specs.Prelude.{◌≡◌, refl, codes, ◌∷◌, [], map, Some, None, Ok, Err, pos, negsuc, ◌++◌}
use Rattle.rc_text.specs.declared.token.Kind.TheVariants.{Name, Number, Sign as SignOf}
use Rattle.rc_text.specs.declared.token.Sign.TheVariants.{Comma, LessEqual, Dot}
use Rattle.rc_text.specs.declared.fault.LexFault.TheVariants.{BadByte}
use Rattle.rc_text.specs.declared.fault.EvalFault.TheVariants.{Syntax, DivisionByZero}
use Rattle.rc_text.specs.declared.class.NameClass.TheVariants.{NoName, Reserved, Predefined, Free}
use Rattle.rc_text.specs.Tokens.{tokens_of}
use Rattle.rc_text.specs.Symbols.{symbols_of}
use Rattle.rc_text.specs.Reading.{evaluation_of, before_operand, after_operand}
use Rattle.rc_text.specs.NameClasses.{class_of, is_opcode_word}

kinds_of_a_line : map (λ t. t.kind) (tokens_of (codes "MOV.I a1, 12<=3 ;x")).tokens ≡ Name ∷ SignOf Dot ∷ Name ∷ Name ∷ SignOf Comma ∷ Number 12 ∷ SignOf LessEqual ∷ Number 3 ∷ []
kinds_of_a_line = refl

-- `=` alone ends the tokens.
ending_at_a_bad_byte : (tokens_of (codes "x = 1")).ending ≡ Some BadByte
ending_at_a_bad_byte = refl

-- Everything up to and including the line of `;redcode` is ignored.
places_after_a_header : map (λ t. t.lo) (tokens_of (codes "hello ?" ++ 10 ∷ codes ";Redcode-94" ++ 10 ∷ codes "  ;assert 1" ++ 10 ∷ [])).tokens ≡ 22 ∷ 30 ∷ 31 ∷ []
places_after_a_header = refl

-- Levels: 2+3*4 is 14.
value_by_levels : evaluation_of (λ _. None) (symbols_of (codes "2+3*4") (tokens_of (codes "2+3*4")).tokens) ≡ Ok (pos 14)
unfolding before_operand after_operand
value_by_levels = refl

value_with_groups : evaluation_of (λ _. None) (symbols_of (codes "(1<2)+!0-7/-2*(3-4-5)") (tokens_of (codes "(1<2)+!0-7/-2*(3-4-5)")).tokens) ≡ Ok (negsuc 15)
unfolding before_operand after_operand
value_with_groups = refl

-- A fault of the grammar comes before one of a value.
fault_of_the_grammar : evaluation_of (λ _. None) (symbols_of (codes "1/0+") (tokens_of (codes "1/0+")).tokens) ≡ Err Syntax
unfolding before_operand after_operand
fault_of_the_grammar = refl

fault_of_the_values : evaluation_of (λ _. None) (symbols_of (codes "1/0+x") (tokens_of (codes "1/0+x")).tokens) ≡ Err DivisionByZero
unfolding before_operand after_operand
fault_of_the_values = refl

classes_of_names : map class_of (codes "Mov" ∷ codes "MAXLENGTH" ∷ codes "maxlength" ∷ codes "2x" ∷ []) ≡ Reserved ∷ Predefined ∷ Free ∷ NoName ∷ []
unfolding is_opcode_word
classes_of_names = refl
