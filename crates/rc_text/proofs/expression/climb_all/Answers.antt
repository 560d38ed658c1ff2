use Rattle.std.proofs.Common.{arith, ◌≡◌, ◌<◌, length, sym, ap}
use Rattle.std.specs.Result.{result_flatten}
use Rattle.std.proofs.lemmas.Bool.Decides.{nat_tests}
use Rattle.std.proofs.lemmas.Result.{err_from_is_err_and}
use Rattle.rc_text.specs.Symbols.{symbols_of}
use Rattle.rc_text.proofs.WholeReading.{whole_read, whole_over, whole_refused}
use Rattle.rc_text.proofs.expression.climb_all.Goals as goal

pub returns-in_err-outcome : goal.returns-in_err-outcome
returns-in_err-outcome g c =
    let p = err_from_is_err_and c.from_residual.result c.from_residual.ensures.1 in
    rw (p.1, p.2) (sym (ap result_flatten (whole_refused (g.N.Names.meaning c.args.names.now) (symbols_of c.args.source.now c.args.tokens.now) _ c.in_err-outcome.ensures.read)))

pub returns-then-is_empty : goal.returns-then-is_empty
returns-then-is_empty g c =
    let none : length c.in_ok-outcome.rest.now ≡ 0 = grind (arith, nat_tests) in
    sym (ap result_flatten (whole_read (g.N.Names.meaning c.args.names.now) (symbols_of c.args.source.now c.args.tokens.now) c.args.source.now c.in_ok-outcome.outcome c.in_ok-outcome.rest.now c.in_ok-outcome.ensures.read none))

pub returns-else-is_empty : goal.returns-else-is_empty
returns-else-is_empty g c =
    let some : 0 < length c.in_ok-outcome.rest.now = grind (arith, nat_tests) in
    sym (ap result_flatten (whole_over (g.N.Names.meaning c.args.names.now) (symbols_of c.args.source.now c.args.tokens.now) _ _ _ c.in_ok-outcome.ensures.read c.in_ok-outcome.ensures.stops some))
