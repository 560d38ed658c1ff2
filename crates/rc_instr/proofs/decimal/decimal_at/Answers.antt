use Rattle.std.proofs.Common.{◌≡◌, Some}
use Rattle.std.specs.Fmt.{decimal}
use Rattle.rc_instr.proofs.Decimals.{front_digits, back_digits, decimal_front}
use Rattle.rc_instr.proofs.decimal.decimal_at.Goals as goal

pub digits_number-requires : goal.digits_number-requires
digits_number-requires c = rw (c.split_at.ensures.front, c.digits_len.ensures) (front_digits c.args.bytes.now)

pub returns-in-Some-clause-all_digits : goal.returns-in-Some-clause-all_digits
returns-in-Some-clause-all_digits c = rw (c.split_at.ensures.back, c.digits_len.ensures) (back_digits c.args.bytes.now)

pub returns-in-Some-clause-only : goal.returns-in-Some-clause-only
returns-in-Some-clause-only c n rest l h e =
    let f = decimal_front n rest c.args.bytes.now l h e in
    let front : c.split_at.result.0.now ≡ decimal n = rw (c.split_at.ensures.front, c.digits_len.ensures) f.0 in
    let some : Some c.in-Some.number ≡ Some n = c.in-Some.ensures.only n l front in
    (cc, rw (c.split_at.ensures.back, c.digits_len.ensures) f.1)

pub returns-in-None-clause-only : goal.returns-in-None-clause-only
returns-in-None-clause-only c n rest l h e =
    let f = decimal_front n rest c.args.bytes.now l h e in
    let front : c.split_at.result.0.now ≡ decimal n = rw (c.split_at.ensures.front, c.digits_len.ensures) f.0 in
    let none = c.in-None.ensures.only n l front in
    cc
