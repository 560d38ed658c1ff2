use Rattle.std.proofs.Common.{arith}
use Rattle.rc_instr.proofs.Powers.{power_small}
use Rattle.rc_instr.proofs.decimal.padded_decimal.Goals as goal

pub overflow_mul-number : goal.overflow_mul-number
overflow_mul-number c = omega (arith, power_small c.loop-digit.digit-index)

pub overflow_add-number : goal.overflow_add-number
overflow_add-number c = omega (arith, power_small c.loop-digit.digit-index)
