-- What the run of a fight text writes, or why it refuses.
use Rattle.std.specs.Prelude.{ℕ, ◌+◌, Bool, ◌&&◌, nat_le, List, Result, Ok}
use Rattle.rc_instr.specs.Results.{with_fault, ◌>>=◌, check}
use Rattle.rc_instr.specs.Rules.{RulesView}
use Rattle.rc_instr.specs.Warrior.{Fits}
use Rattle.rc_instr.specs.Checks.{rules_of}
use Rattle.rc_instr.specs.LoadMeaning.{load_meaning}
use Rattle.mars_core.specs.State.{start_of}
use Rattle.mars_core.specs.Fight.{outcome_of as outcome_of_fight}
use Rattle.mars_core.specs.declared.arena.Outcome.{Outcome}
use Rattle.mars_core.specs.declared.side.Side.TheVariants.{Candidate, Opponent}
use Rattle.mars_fight.specs.Listed.{IsPosition}
use Rattle.tune_runs.specs.FightText.{fight_words}
use Rattle.tune_runs.specs.ResultLine.{result_line}
use Rattle.tune_runs.specs.Runs.{load_fault, Writes, Writer}
use Rattle.tune_runs.specs.declared.fight.NamedFight.{NamedFight}
use Rattle.tune_runs.specs.declared.fault.RunFault.{RunFault}
use Rattle.tune_runs.specs.declared.fault.RunFault.TheVariants.{FightText, Rules, Position}

-- The position is at least the distance away from the candidate at 0, both ways round the core.
abbrev pub keeps_distance : RulesView → ℕ → Bool
keeps_distance rules position = nat_le rules.distance position && nat_le (position + rules.distance) rules.core

-- The fight that a text names, or the text's first fault.
unfoldable pub fight_named : List ℕ → Result NamedFight RunFault
fight_named text = do
  w ← with_fault FightText (fight_words text)
  rules ← with_fault Rules (rules_of w.rules)
  c ← with_fault (load_fault Candidate) (load_meaning rules w.candidate)
  o ← with_fault (load_fault Opponent) (load_meaning rules w.opponent)
  _ ← check (keeps_distance rules w.position) Position
  Ok (record { rules = rules; candidate = c; opponent = o; position = w.position; first = w.first })

-- Both warriors of a fight fit its rules, and its position keeps the distance of the rules.
abbrev pub KeepsRules : NamedFight → Type 0
KeepsRules f = Fits f.rules f.candidate × Fits f.rules f.opponent × IsPosition f.rules f.position

-- How a fight ends.
abbrev pub outcome_for : NamedFight → Outcome
outcome_for f = outcome_of_fight f.rules.tasks (start_of f.rules.core f.candidate f.opponent f.position) f.first f.rules.cycles

-- The result line of a fight that was named, or the fault of its text.
abbrev pub line_of : Result NamedFight RunFault → Result (Unit {0} × List ℕ) RunFault
line_of fight = do
  f ← fight
  Ok (tt, result_line (outcome_for f))

-- The output of `fight_run`: the result line of the fight in a text, or its first fault.
abbrev pub fight_output : List ℕ → Result (Unit {0} × List ℕ) RunFault
fight_output text = line_of (fight_named text)

abbrev pub WritesFight : List ℕ → Writer → Type 0
WritesFight text out = Writes (fight_output text) tt out
