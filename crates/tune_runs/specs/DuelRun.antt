-- What the run of a duel writes, a fight of two Redcode texts, or why it refuses.
use Rattle.std.specs.Prelude.{ℕ, ◌/◌, List, [], Option, Some, None, Result, Ok}
use Rattle.rc_instr.specs.Results.{with_fault, ◌>>=◌, check}
use Rattle.rc_instr.specs.Rules.{RulesView}
use Rattle.rc_asm.specs.Assembly.{outcome_of}
use Rattle.mars_core.specs.declared.side.Side.{Side}
use Rattle.tune_runs.specs.AsmRun.{warrior_of}
use Rattle.tune_runs.specs.FightRun.{keeps_distance, line_of}
use Rattle.tune_runs.specs.Runs.{opponent_fault, Writes, Writer}
use Rattle.tune_runs.specs.declared.fight.NamedFight.{NamedFight}
use Rattle.tune_runs.specs.declared.fault.RunFault.{RunFault}
use Rattle.tune_runs.specs.declared.fault.RunFault.TheVariants.{Position}

-- Two Redcode texts, the rules of their fight, where the opponent is loaded, and who moves first.
pub record Duel : Type 0 where
  pub candidate : List ℕ
  pub opponent : List ℕ
  pub rules : RulesView
  pub position : ℕ
  pub first : Side

abbrev pub duel : List ℕ → List ℕ → RulesView → ℕ → Side → Duel
duel candidate opponent rules position first =
    record { candidate = candidate; opponent = opponent; rules = rules; position = position; first = first }

-- The position that was given, or half of the core.
abbrev pub position_meant : RulesView → Option ℕ → ℕ
position_meant rules None = rules.core / 2
position_meant rules (Some position) = position

-- The fight of a duel, or its first fault. The opponent is the only one, so its index is 0.
unfoldable pub duel_named : Duel → Result NamedFight RunFault
duel_named d = do
  c ← warrior_of d.candidate d.rules
  o ← with_fault (opponent_fault 0) (outcome_of d.opponent [] d.rules)
  _ ← check (keeps_distance d.rules d.position) Position
  Ok (record { rules = d.rules; candidate = c; opponent = o; position = d.position; first = d.first })

-- The output of `duel_run`: the result line of the duel, or its first fault.
abbrev pub duel_output : Duel → Result (Unit {0} × List ℕ) RunFault
duel_output d = line_of (duel_named d)

abbrev pub WritesDuel : Duel → Writer → Type 0
WritesDuel d out = Writes (duel_output d) tt out
