-- What a run of the program writes on standard output, by its exit status.
use Rattle.std.specs.Prelude.{◌≡◌, ◌≢◌, ◌⊎◌, ◌≤◌, ℕ, List, Option, Err, true, false, codes, IsTrue}
use Rattle.rc_instr.specs.Outlet.{OutletView}
use Rattle.tune_runs.specs.FightRun.{fight_output}
use Rattle.tune_runs.specs.Runs.{Writer, writer}
use Rattle.tune_runs.specs.declared.fault.RunFault.{RunFault}
use Rattle.command_words.specs.CommandLine.{AsksForFight, command_of, is_command}
use Rattle.command_words.specs.Help.{MentionsHelp}
use Rattle.command_runs.specs.Commands.{WritesFightIn, WritesSomeDuel, WritesSomeLoadFile, WritesSomeSettings, WritesSomeReport, WritesSomeCheckLine}
use Rattle.command_runs.specs.Input.{IsInput}

-- What the command that the words name wrote, if it succeeded. For `check` that is the output that
-- accepts a certificate, or a share of one.
pub record IsSuccess (words : List (List ℕ)) (input : Option (List ℕ)) (out : Writer) : Type 0 where
  pub known : IsTrue (is_command (command_of words))
  pub fight : command_of words ≡ codes "fight" → WritesFightIn input out ⊎ WritesSomeDuel out
  pub asm : command_of words ≡ codes "asm" → WritesSomeLoadFile out
  pub settings : command_of words ≡ codes "settings" → WritesSomeSettings out
  pub tune : command_of words ≡ codes "tune" → WritesSomeReport out
  pub check : command_of words ≡ codes "check" → WritesSomeCheckLine true out

-- A run of these words, with this input, that ends with a status.
pub record IsProgramRun (words : List (List ℕ)) (input : Option (List ℕ)) (old new : OutletView) (ended : ℕ) : Type 0 where
  -- if the words ask for a fight, status 0 means that the result line of the fight in the input was
  -- written, and status 1 that the input is refused and nothing was written
  pub done : AsksForFight words → ended ≡ 0 → WritesFightIn input (writer old new)
  pub refused : AsksForFight words → ended ≡ 1 → (text : List ℕ) × (fault : RunFault) × IsInput input text × (fight_output text ≡ Err fault) × (new ≡ old)
  pub understood : AsksForFight words → ended ≢ 2
  -- whatever the words are, status 0 means that their command succeeded, or that help was asked for
  pub success : ended ≡ 0 → MentionsHelp words ⊎ IsSuccess words input (writer old new)
  -- nothing is written if the words or an input are refused, except the line of a rejected
  -- certificate or share. A failed write gives status 3, and status 3 without one means that
  -- nothing was written.
  pub misused : ended ≡ 2 → new ≡ old
  pub unwritten : ended ≡ 1 → (new ≡ old) ⊎ WritesSomeCheckLine false (writer old new)
  pub failed : IsTrue new.failed → ended ≡ 3
  pub lost : ended ≡ 3 → (new ≡ old) ⊎ IsTrue new.failed
  pub status : ended ≤ 3
