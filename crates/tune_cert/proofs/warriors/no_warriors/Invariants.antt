use Rattle.std.proofs.Common.{◌≡◌, replicate, None}
use Rattle.tune_cert.proofs.warriors.no_warriors.Given as goal

abbrev pub invariant-loop-setting : goal.invariant-loop-setting
invariant-loop-setting l = l.warriors.items ≡ replicate l._setting None
