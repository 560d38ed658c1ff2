use Rattle.std.proofs.Common.{◌≡◌, ◌≤◌, ◌+◌, ◌++◌, drop, length}
use Rattle.rc_instr.specs.Results.{mapped}
use Rattle.mars_fight.specs.Limits.{MOST_FIGHTS}
use Rattle.mars_fight.specs.Schedule.{fights_from}
use Rattle.tables.specs.Records.{records_of}
use Rattle.mars_fight.proofs.schedule.read_fights.Given as goal

-- the records that are left give the rest of the fights
abbrev pub invariant-loop-fights : goal.invariant-loop-fights
invariant-loop-fights l = record {
  so_far : fights_from l.rules l.opponents l.columns 1 (drop 1 (records_of l.bytes)) ≡ mapped (λ more. l.fights.items ++ more) (fights_from l.rules l.opponents l.columns (length l.fights.items + 1) l.records);
  few : length l.fights.items ≤ MOST_FIGHTS;
}

abbrev pub decreases-loop-fights : goal.decreases-loop-fights
decreases-loop-fights l = length l.records
