-- Tunings of parts, and what they say of the whole.
use Rattle.std.specs.Prelude.{◌≡◌, ℕ, ◌+◌, ◌<◌, ◌≤◌}
use Rattle.tune_template.specs.Instances.{setting_count}
use Rattle.tune_problem.specs.Parts.{part, part_first, ForEach}
use Rattle.tune_problem.specs.Inputs.{InputsView, with_part}
use Rattle.tune_problem.specs.Problem.{Problem, problem_of}
use Rattle.tune_problem.specs.Optimum.{IsBest}
use Rattle.tune_problem.specs.Below.{AllBelow}
use Rattle.tune_problem.specs.declared.statement.Answer.{Answer}
use Rattle.tune_problem.specs.declared.statement.Answer.TheVariants.{Best as TheBest, NoneFrom}
use Rattle.tune_problem.specs.declared.watcher.Best.{Best}

-- The same inputs with part `number` of `parts`.
abbrev pub in_part : InputsView → ℕ → ℕ → InputsView
in_part i number parts = with_part i (part number parts)

-- The problem of all settings of the inputs.
abbrev pub whole_of : InputsView → Problem
whole_of i = problem_of (in_part i 1 1)

-- Where a part begins.
abbrev pub first_setting : InputsView → ℕ → ℕ → ℕ
first_setting i number parts = part_first (part number parts) (setting_count i.template)

-- A setting of a part, by its index in the whole: counted on from where the part begins.
abbrev pub in_whole : InputsView → ℕ → ℕ → Best → Best
in_whole i number parts best = record { vector = first_setting i number parts + best.vector; total = best.total }

-- What is known of a part that was tuned: this setting is the best, or no candidate reaches the
-- floor. A part without a candidate counts as `NoneFrom 0`, since every candidate reaches the floor
-- 0.
abbrev pub IsOutcome : Problem → Answer → Type 0
IsOutcome p (TheBest best) = IsBest p best
IsOutcome p (NoneFrom floor) = AllBelow p floor

-- The parts 1 to `parts` are tuned, each with its outcome.
pub record AreTuned (i : InputsView) (parts : ℕ) (outcome : ℕ → Answer) : Type 0 where
  pub some : 1 ≤ parts
  pub few : parts ≤ setting_count i.template
  pub right : ForEach parts (λ n. IsOutcome (problem_of (in_part i n parts)) (outcome n))

-- With this outcome no candidate reaches the floor.
abbrev pub StaysBelow : ℕ → Answer → Type 0
StaysBelow floor (TheBest best) = best.total < floor
StaysBelow floor (NoneFrom other) = other ≤ floor

-- No part has a candidate that reaches the floor.
abbrev pub AllStayBelow : ℕ → ℕ → (ℕ → Answer) → Type 0
AllStayBelow floor parts outcome = ForEach parts (λ n. StaysBelow floor (outcome n))

-- The first of the parts with the greatest total: the parts before it stay below this total, and
-- the parts after it have no greater one.
pub record IsBestPart (parts : ℕ) (outcome : ℕ → Answer) (number : ℕ) (best : Best) : Type 0 where
  pub some : 1 ≤ number
  pub within : number ≤ parts
  pub here : outcome number ≡ TheBest best
  pub before : (other : ℕ) → 1 ≤ other → other < number → StaysBelow best.total (outcome other)
  pub after : (other : ℕ) → number < other → other ≤ parts → StaysBelow (best.total + 1) (outcome other)
