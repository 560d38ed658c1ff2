use Rattle.std.proofs.Common.{arith}
use Rattle.rc_instr.proofs.LoadNumbers.{short_front, short_none, no_short}
use Rattle.rc_instr.proofs.loadfile.number.short_number_at.Goals as goal

pub returns-in_err-number : goal.returns-in_err-number
returns-in_err-number c = rw c.from_residual.ensures (short_none c.args.bytes.now (λ n rest l h e. c.in_err-number.ensures.only n rest (omega (arith, l)) h e))

pub returns-then-number-gt65535 : goal.returns-then-number-gt65535
returns-then-number-gt65535 c = no_short c.args.bytes.now c.in_ok-number.number c.in_ok-number.rest.now (omega (arith, c.in_ok-number.ensures.found.1)) (omega arith) c.in_ok-number.ensures.all_digits c.in_ok-number.ensures.found.0

pub returns : goal.returns
returns c = short_front c.in_ok-number.number c.in_ok-number.rest.now c.args.bytes.now (omega arith) c.in_ok-number.ensures.all_digits c.in_ok-number.ensures.found.0
