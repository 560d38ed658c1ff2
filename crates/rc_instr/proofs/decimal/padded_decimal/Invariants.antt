use Rattle.std.proofs.Common.{◌≡◌, ◌<◌, ◌^◌, drop}
use Rattle.std.specs.Str.{all_ascii_digits}
use Rattle.rc_instr.specs.Digits.{read_on}
use Rattle.rc_instr.proofs.decimal.padded_decimal.Given as goal

abbrev pub invariant-loop-digit : goal.invariant-loop-digit
invariant-loop-digit l = record {
  value : read_on l.number (drop l.digit-index l.digits) ≡ read_on 0 l.digits;
  digits : all_ascii_digits (drop l.digit-index l.digits) ≡ all_ascii_digits l.digits;
  small : l.number < 10 ^ l.digit-index;
}
