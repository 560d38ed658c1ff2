use Rattle.std.proofs.Common.{◌≡◌, ◌+◌, ◌++◌, map, length, All}
use Rattle.rc_instr.specs.Results.{mapped}
use Rattle.rc_instr.specs.Warrior.{Fits}
use Rattle.tune_runs.specs.TuneRun.{opponents_from}
use Rattle.tune_runs.proofs.inputs.opponents_of.Given as goal

abbrev pub decreases-loop-source : goal.decreases-loop-source
decreases-loop-source l = length l.rest

-- the texts that are left give the rest of the warriors
abbrev pub invariant-loop-source : goal.invariant-loop-source
invariant-loop-source l = record {
  so_far : opponents_from l.rules 0 (map (λ s. s.items) l.sources)
      ≡ mapped (λ more. l.warriors.items ++ more) (opponents_from l.rules (length l.warriors.items) (map (λ s. s.items) l.rest));
  fit : All (Fits l.rules) l.warriors.items;
  count : length l.warriors.items + length l.rest ≡ length l.sources;
}
