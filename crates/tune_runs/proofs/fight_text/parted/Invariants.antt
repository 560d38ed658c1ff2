use Rattle.std.proofs.Common.{◌≡◌, take, drop, true}
use Rattle.tune_runs.specs.FightLines.{parted}
use Rattle.tune_runs.proofs.Parting.{joined}
use Rattle.tune_runs.proofs.fight_text.parted.Given as goal

-- what stands behind is parted as the whole is
abbrev pub invariant-loop-at : goal.invariant-loop-at
invariant-loop-at l = parted true l.bytes ≡ joined (take l.at l.bytes) (parted l.begins (drop l.at l.bytes))
