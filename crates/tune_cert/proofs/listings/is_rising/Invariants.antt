use Rattle.std.proofs.Common.{◌≡◌, drop}
use Rattle.tune_cert.specs.Checks.{rises}
use Rattle.tune_cert.proofs.listings.is_rising.Given as goal

-- the row rises if the rest does
abbrev pub invariant-loop-index : goal.invariant-loop-index
invariant-loop-index l = rises l.next (drop l.index-index l.listed) ≡ rises 0 l.listed
