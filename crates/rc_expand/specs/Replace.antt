-- The tokens of a line with EQU names replaced by their own (EQU is from pMARS).
pub mod Lines
use Rattle.std.specs.Prelude.{Result, Ok, Err, ℕ, zero, suc, ◌+◌, nat_lt, List, [], ◌∷◌, ◌++◌, length, take, drop, Option, Some, None, option_map, if◌then◌else◌}
use Rattle.rc_text.specs.declared.token.Token.{Token}
use Rattle.rc_expand.specs.declared.fault.ExpandFault.{ExpandFault}
use Rattle.rc_expand.specs.declared.fault.ExpandKind.TheVariants.{EquTooDeep, TooManyTokens}
use Rattle.rc_expand.specs.declared.read.raw_line.RawWord.{RawWord}
use Rattle.rc_expand.specs.declared.read.raw_line.RawWord.TheVariants as word
use Rattle.rc_expand.specs.Limits.{MOST_TOKENS, MOST_REPLACEMENTS, DEEPEST_EQU}
use Rattle.rc_instr.specs.Results.{mapped, ◌>>=◌}
use Rattle.rc_expand.specs.Results.{at_line}
use Rattle.rc_expand.specs.Read.Lines.{has_modifier}
use Rattle.rc_expand.specs.Equs.{equ_in}
use Rattle.rc_expand.specs.Contexts.{ContextView}

-- The tokens of a line so far, its number, and how many EQU names were replaced in it.
pub record TokensSoFarView : Type 0 where
  pub line : ℕ
  pub tokens : List Token
  pub replacements : ℕ

-- A step: the tokens so far with a part of the line added, or the first fault.
abbrev pub TokenStep : Type 0
TokenStep = TokensSoFarView → Result TokensSoFarView ExpandFault

-- One more token, within the limit.
abbrev pub with_token : Token → TokenStep
with_token t r = if nat_lt (length r.tokens) MOST_TOKENS then Ok (record r { tokens = r.tokens ++ (t ∷ []) }) else Err (at_line r.line TooManyTokens)

-- Counts one more replacement, within the limit.
abbrev pub with_replacement : TokenStep
with_replacement r = if nat_lt r.replacements MOST_REPLACEMENTS then Ok (record r { replacements = r.replacements + 1 }) else Err (at_line r.line TooManyTokens)

-- How the tokens of an EQU name are added, with the EQU names in them replaced.
abbrev pub BodyStep : Type 0
BodyStep = List Token → TokenStep

-- One token; if it is an EQU name with these tokens, `inner` adds them in its place.
abbrev pub token_or_body : BodyStep → Token → Option (List Token) → TokenStep
token_or_body inner t None r = with_token t r
token_or_body inner t (Some body) r = inner body r

module _ (source : List ℕ) where
  abbrev pub exempt_len_of_code : List Token → ℕ
  exempt_len_of_code [] = 0
  exempt_len_of_code (t ∷ u ∷ v ∷ ts) = if has_modifier source t u v then 3 else 1
  exempt_len_of_code _ = 1

  -- The number of tokens at the front of a line that stay as they are: in code the first, or an
  -- opcode, a dot and a modifier.
  abbrev pub exempt_len : RawWord → List Token → ℕ
  exempt_len word.Code ts = exempt_len_of_code ts
  exempt_len _ ts = 0

module _ (context : ContextView) where
  -- The tokens of the EQU name with the spelling of the token, if there is one.
  abbrev pub equ_body : Token → Option (List Token)
  equ_body t = option_map (λ e. e.tokens) (equ_in context.source context.equs t)

  -- Adds tokens in turn.
  abbrev pub with_tokens : BodyStep → List Token → TokenStep
  with_tokens inner [] r = Ok r
  with_tokens inner (t ∷ ts) r = do
    more ← token_or_body inner t (equ_body t) r
    with_tokens inner ts more

  -- Adds the tokens of an EQU name. This name and those inside of it may nest `levels` deep.
  abbrev pub body_within : ℕ → BodyStep
  body_within zero = λ body r. Err (at_line r.line EquTooDeep)
  body_within (suc levels) = λ body r. with_replacement r >>= with_tokens (body_within levels) body

  -- Adds a token. If it is an EQU name, it and the names inside of it may nest `levels` deep.
  abbrev pub token_within : ℕ → Token → TokenStep
  token_within levels t = token_or_body (body_within levels) t (equ_body t)

  -- Adds tokens in turn, in which EQU names may nest `levels` deep.
  abbrev pub tokens_within : ℕ → List Token → TokenStep
  tokens_within levels = with_tokens (body_within levels)

  -- `front` as it is, and then tokens with their EQU names replaced.
  unfoldable pub replaced_tokens : (line : ℕ) (front : List Token) → List Token → Result (List Token) ExpandFault
  replaced_tokens line front ts =
      mapped (λ r. r.tokens) (tokens_within DEEPEST_EQU ts (record { line = line; tokens = front; replacements = 0 }))

  -- The tokens of a line by its word: those at its front that are exempt stay as they are.
  abbrev pub line_tokens : ℕ → RawWord → List Token → Result (List Token) ExpandFault
  line_tokens line w ts = replaced_tokens line (take (exempt_len context.source w ts) ts) (drop (exempt_len context.source w ts) ts)
