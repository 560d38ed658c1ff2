use Rattle.std.proofs.Common.{◌≡◌, ◌^◌, take, min}
use Rattle.rc_text.specs.Bytes.{decimal_value}
use Rattle.rc_text.proofs.lexeme.decimal.Given as goal

abbrev pub invariant-loop-digit : goal.invariant-loop-digit
invariant-loop-digit l = l.value ≡ min (decimal_value (take l.digit-index l.digits)) (2 ^ 32)
