-- The tokens and lines of a load file, from which it is proved that it assembles to its warrior.
use Rattle.std.specs.Prelude.{◌≡◌, ℕ, suc, ◌+◌, List, [], ◌∷◌, ◌++◌, codes, None}
use Rattle.rc_text.specs.declared.token.Sign.{Sign}
use Rattle.rc_text.specs.declared.token.Sign.TheVariants.{Dot, Comma, Hash, Dollar, Star, At, OpenBrace, CloseBrace, Less, Greater, Minus}
use Rattle.rc_text.specs.declared.token.Kind.TheVariants.{Name, Number, LineEnd, Sign as SignOf}
use Rattle.rc_text.specs.declared.token.Token.{Token}
use Rattle.rc_text.specs.Tokens.{TokenList}
use Rattle.rc_expand.specs.declared.line.LineWord.TheVariants.{Code, Org}
use Rattle.rc_expand.specs.declared.line.Line.{Line}
use Rattle.rc_expand.specs.Read.Lines.{bytes_of}
use Rattle.rc_instr.specs.Words.{opcode_text, modifier_text}
use Rattle.rc_instr.specs.Warrior.{WarriorView}
use Rattle.rc_instr.specs.declared.instruction.Mode.{Mode}
use Rattle.rc_instr.specs.declared.instruction.Mode.TheVariants as mode
use Rattle.rc_instr.specs.declared.instruction.Instruction.{Instruction}

abbrev pub mode_sign : Mode → Sign
mode_sign mode.Immediate = Hash
mode_sign mode.Direct = Dollar
mode_sign mode.AIndirect = Star
mode_sign mode.BIndirect = At
mode_sign mode.APredecrement = OpenBrace
mode_sign mode.BPredecrement = Less
mode_sign mode.APostincrement = CloseBrace
mode_sign mode.BPostincrement = Greater

-- a name with these bytes and no joined counter
pub record IsWord (source text : List ℕ) (t : Token) : Type 0 where
  pub kind : t.kind ≡ Name
  pub joined : t.joined ≡ []
  pub bytes : bytes_of source t ≡ text

-- the tokens of the number n in a core of m cells: n itself, or a minus sign and m - n
pub data AreNumber (m n : ℕ) : List Token → Type 0 where
  Plain : (t : Token) → t.kind ≡ Number n → AreNumber m n (t ∷ [])
  Below : (s t : Token) (k : ℕ) → s.kind ≡ SignOf Minus → t.kind ≡ Number (suc k) → suc k + n ≡ m → AreNumber m n (s ∷ t ∷ [])

-- the tokens of one line of code
pub record Row : Type 0 where
  pub opcode : Token
  pub dot : Token
  pub modifier : Token
  pub a_sign : Token
  pub a_number : List Token
  pub comma : Token
  pub b_sign : Token
  pub b_number : List Token
  pub end : Token

abbrev pub a_tokens : Row → List Token
a_tokens r = r.a_sign ∷ r.a_number

abbrev pub b_tokens : Row → List Token
b_tokens r = r.b_sign ∷ r.b_number

-- all tokens of the line but its end
abbrev pub row_tokens : Row → List Token
row_tokens r = r.opcode ∷ r.dot ∷ r.modifier ∷ (a_tokens r ++ (r.comma ∷ b_tokens r))

-- the tokens spell the instruction
pub record IsPrinted (source : List ℕ) (m : ℕ) (i : Instruction) (r : Row) : Type 0 where
  pub opcode : IsWord source (opcode_text i.opcode) r.opcode
  pub dot : r.dot.kind ≡ SignOf Dot
  pub modifier : IsWord source (modifier_text i.modifier) r.modifier
  pub a_sign : r.a_sign.kind ≡ SignOf (mode_sign i.a_mode)
  pub a_number : AreNumber m i.a_number r.a_number
  pub comma : r.comma.kind ≡ SignOf Comma
  pub b_sign : r.b_sign.kind ≡ SignOf (mode_sign i.b_mode)
  pub b_number : AreNumber m i.b_number r.b_number
  pub end : r.end.kind ≡ LineEnd

-- one line of tokens for each instruction
abbrev pub ArePrinted : List ℕ → ℕ → List Instruction → List Row → Type 0
ArePrinted source m [] [] = Unit {0}
ArePrinted source m [] (r ∷ rs) = ⊥
ArePrinted source m (i ∷ is) [] = ⊥
ArePrinted source m (i ∷ is) (r ∷ rs) = IsPrinted source m i r × ArePrinted source m is rs

-- the tokens of the first line, which says the start
pub record Opening : Type 0 where
  pub word : Token
  pub number : Token
  pub end : Token

-- the tokens spell the start
pub record IsStart (source : List ℕ) (start : ℕ) (o : Opening) : Type 0 where
  pub word : IsWord source (codes "ORG") o.word
  pub number : o.number.kind ≡ Number start
  pub end : o.end.kind ≡ LineEnd

-- the tokens of a load file
pub record Printed : Type 0 where
  pub opening : Opening
  pub rows : List Row

-- the tokens spell the warrior
pub record IsPrint (source : List ℕ) (m : ℕ) (w : WarriorView) (p : Printed) : Type 0 where
  pub start : IsStart source w.start p.opening
  pub code : ArePrinted source m w.code p.rows

abbrev pub rows_tokens : List Row → List Token
rows_tokens [] = []
rows_tokens (r ∷ rs) = row_tokens r ++ (r.end ∷ rows_tokens rs)

-- all tokens of the file, which ends without a fault
abbrev pub printed_tokens : Printed → TokenList
printed_tokens p = record { tokens = p.opening.word ∷ p.opening.number ∷ p.opening.end ∷ rows_tokens p.rows; ending = None }

-- the line that the opening makes
abbrev pub start_line : Opening → Line
start_line o = record { number = o.word.line; labels = []; word = Org; tokens = o.number ∷ [] }

-- the line that the tokens of an instruction make
abbrev pub code_line : Row → Line
code_line r = record { number = r.opcode.line; labels = []; word = Code; tokens = row_tokens r }

abbrev pub code_lines : List Row → List Line
code_lines [] = []
code_lines (r ∷ rs) = code_line r ∷ code_lines rs

abbrev pub printed_lines : Printed → List Line
printed_lines p = start_line p.opening ∷ code_lines p.rows
