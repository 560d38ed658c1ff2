-- A fight text means a fight of two warriors; the texts of a tuning mean its inputs. A result line,
-- a report and a check line say what came of them. A run over bytes writes exactly the text that
-- the definitions give, or refuses with the first fault that applies.
pub mod Runs
pub mod FightLines
pub mod FightText
pub mod ResultLine
pub mod AsmRun
pub mod FightRun
pub mod Report
pub mod TuneRun
pub mod CheckRun
pub mod Agreement
pub mod AimedRuns
pub mod SettingRun
pub mod SettingsRun
pub mod DuelRun
pub mod Given
