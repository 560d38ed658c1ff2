-- The first pass: the lines of a text, the tree of its blocks, and its EQU names (pMARS).
pub mod Lines
pub mod Tree
pub mod Nesting
pub mod Faults
use Rattle.std.specs.Prelude.{ℕ, ◌||◌, List, [], ◌∷◌, ◌++◌, Option, None, if◌then◌else◌, is_some, ok_or, Result, Ok, Err}
use Rattle.rc_text.specs.declared.token.Token.{Token}
use Rattle.rc_text.specs.Symbols.{name_of}
use Rattle.rc_text.specs.Tokens.{tokens_of}
use Rattle.rc_expand.specs.declared.read.raw_line.RawLine.{RawLine}
use Rattle.rc_expand.specs.declared.read.raw_line.RawWord.{RawWord}
use Rattle.rc_expand.specs.declared.read.raw_line.RawWord.TheVariants as word
use Rattle.rc_expand.specs.declared.fault.ExpandFault.{ExpandFault}
use Rattle.rc_expand.specs.declared.fault.ExpandKind.TheVariants.{DuplicateName, BadDirective}
use Rattle.rc_instr.specs.Results.{mapped, ◌>>=◌}
use Rattle.rc_expand.specs.Results.{at_line}
use Rattle.rc_expand.specs.Names.{GivenNamesView, entry_of, is_taken}
use Rattle.rc_expand.specs.Read.Lines.{lines_from, plain_token}
use Rattle.rc_expand.specs.Read.Faults.{text_fault}
use Rattle.rc_expand.specs.Equs.{Equs}
use Rattle.rc_expand.specs.Read.Tree.{BlockTree, NoLine, OneLine, Block, blocks_of}

-- The lines of a text as a tree, and its EQU names with their tokens.
pub record FirstPass : Type 0 where
  pub blocks : BlockTree
  pub equs : Equs

module _ (source : List ℕ) where
  -- The lines of the text up to END.
  abbrev pub text_lines : Result (List RawLine) ExpandFault
  text_lines = lines_from source (text_fault source) [] (tokens_of source).tokens

  -- The only label, if there is one alone and it is a plain name.
  abbrev pub only_name : List (List Token) → Option Token
  only_name (l ∷ []) = plain_token source l
  only_name _ = None

  -- EQU needs exactly one plain name before it.
  abbrev pub equ_token : RawLine → Result Token ExpandFault
  equ_token raw = ok_or (only_name raw.labels) (at_line raw.number BadDirective)

  module _ (given : GivenNamesView) where
    -- The name of an EQU line must not be a constant, a predefined name or an EQU name of a line
    -- before it.
    abbrev pub with_equ_name : RawLine → Equs → Token → Result Equs ExpandFault
    with_equ_name raw equs t =
        if is_taken given (name_of source t) || is_some (entry_of equs (name_of source t)) then Err (at_line raw.number DuplicateName) else
        Ok (equs ++ ((name_of source t, record { tokens = raw.rest; line = raw.number }) ∷ []))

    abbrev pub with_equ : RawLine → Equs → Result Equs ExpandFault
    with_equ raw equs = equ_token raw >>= with_equ_name raw equs

    -- A line outside blocks may be an EQU line.
    abbrev pub equs_after_line : RawWord → RawLine → Equs → Result Equs ExpandFault
    equs_after_line word.Equ raw equs = with_equ raw equs
    equs_after_line _ raw equs = Ok equs

    abbrev pub equs_from : BlockTree → Equs → Result Equs ExpandFault
    equs_from NoLine equs = Ok equs
    equs_from (OneLine raw rest) equs = do
      more ← equs_after_line raw.word raw equs
      equs_from rest more
    equs_from (Block opens inside closes rest) equs = equs_from rest equs

    -- The EQU names of the EQU lines outside blocks.
    unfoldable pub equs_of : BlockTree → Result Equs ExpandFault
    equs_of b = equs_from b []

    abbrev pub first_pass_of_blocks : BlockTree → Result FirstPass ExpandFault
    first_pass_of_blocks b = mapped (λ equs. record { blocks = b; equs = equs }) (equs_of b)

    -- The lines up to END, whose blocks must nest, and the EQU names outside the blocks.
    unfoldable pub first_pass : Result FirstPass ExpandFault
    first_pass = text_lines >>= blocks_of >>= first_pass_of_blocks
