use Rattle.std.proofs.Common.{◌≡◌, ◌↔◌, drop}
use Rattle.tune_cert.proofs.warriors.is_same_code.Given as goal

-- the lists are equal if what is left of them is
abbrev pub invariant-loop-mine : goal.invariant-loop-mine
invariant-loop-mine l = (drop l.mine-index l.one ≡ l.rest) ↔ (l.one ≡ l.other)
