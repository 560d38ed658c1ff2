-- What the run of an assembly writes, or why it refuses.
use Rattle.std.specs.Prelude.{ℕ, List, [], Result, Ok}
use Rattle.rc_instr.specs.Results.{with_fault, ◌>>=◌}
use Rattle.rc_instr.specs.Rules.{RulesView}
use Rattle.rc_instr.specs.Warrior.{WarriorView}
use Rattle.rc_instr.specs.LoadText.{load_text}
use Rattle.rc_asm.specs.Assembly.{outcome_of}
use Rattle.tune_runs.specs.Runs.{asm_fault}
use Rattle.tune_runs.specs.declared.fault.RunFault.{RunFault}

-- The warrior to which a text without open constants assembles.
abbrev pub warrior_of : List ℕ → RulesView → Result WarriorView RunFault
warrior_of source rules = with_fault asm_fault (outcome_of source [] rules)

-- The output of `asm_run`: its load file.
unfoldable pub asm_output : List ℕ → RulesView → Result (Unit {0} × List ℕ) RunFault
asm_output source rules = do
  w ← warrior_of source rules
  Ok (tt, load_text rules.core w)
