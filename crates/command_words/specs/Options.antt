-- What the options of a command mean, by the words that `clap` found for them.
use Rattle.std.specs.Prelude.{◌≡◌, ℕ, ◌<◌, ◌^◌, pos, List, Option, Some, None, MatchOption, codes}
use Rattle.std.specs.Str.Parse.{IsNumeral, without_leading_sign, signed_digits_value}
use Rattle.clap.specs.declared.parser.matches.Found.{Found}
use Rattle.clap.specs.Matches.{first_value}
use Rattle.tune_problem.specs.declared.part.Part.{Part}
use Rattle.rc_instr.specs.declared.rules.RawRules.{RawRules}
use Rattle.command_words.specs.CommandLine.{part_word, IsCounted}
use Rattle.command_words.specs.Hills.{raw_rules, hill_rules}

-- The number that a word says, of 32 bits. A sign may come before its digits, but `-` only if it is
-- 0.
pub record SaysNumber (word : List ℕ) (n : ℕ) : Type 0 where
  pub digits : IsNumeral 10 (without_leading_sign word)
  pub value : signed_digits_value 10 word ≡ pos n
  pub small : n < 2 ^ 32

-- The part that a word says. A share is spelt in the same way.
pub record SaysPart (word : List ℕ) (p : Part) : Type 0 where
  pub spelt : word ≡ part_word p
  pub counted : IsCounted p

-- What an option gives: nothing without a word, and else what the word says.
abbrev pub IsGiven : {X : Type 0} → (List ℕ → X → Type 0) → Option (List ℕ) → Option X → Type 0
IsGiven Says None given = given ≡ None
IsGiven Says (Some word) given = MatchOption given ⊥ (Says word)

-- What an option means: the default without a word, and else what the word says.
abbrev pub IsMeant : {X : Type 0} → (List ℕ → X → Type 0) → X → Option (List ℕ) → X → Type 0
IsMeant Says default None meant = meant ≡ default
IsMeant Says default (Some word) meant = Says word meant

-- The option has a word, which says no value.
abbrev pub IsSaidWrong : {X : Type 0} → (List ℕ → X → Type 0) → Option (List ℕ) → Type 0
IsSaidWrong Says None = ⊥
IsSaidWrong {X} Says (Some word) = (x : X) → Says word x → ⊥

-- The rules of a hill, or the standard rules without one.
abbrev pub hill_meant : Option (List ℕ) → RawRules
hill_meant None = raw_rules 8000 80000 8000 100 100
hill_meant (Some name) = hill_rules name

-- Each rule is the number of its option, or that of the hill.
pub record AreRules (found : Found) (rules : RawRules) : Type 0 where
  pub core : IsMeant SaysNumber (hill_meant (first_value found (codes "hill"))).core (first_value found (codes "core")) rules.core
  pub cycles : IsMeant SaysNumber (hill_meant (first_value found (codes "hill"))).cycles (first_value found (codes "cycles")) rules.cycles
  pub tasks : IsMeant SaysNumber (hill_meant (first_value found (codes "hill"))).tasks (first_value found (codes "tasks")) rules.tasks
  pub length : IsMeant SaysNumber (hill_meant (first_value found (codes "hill"))).length (first_value found (codes "length")) rules.length
  pub distance : IsMeant SaysNumber (hill_meant (first_value found (codes "hill"))).distance (first_value found (codes "distance")) rules.distance
