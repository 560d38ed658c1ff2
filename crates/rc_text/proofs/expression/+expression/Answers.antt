use Rattle.std.proofs.Common.{arith, sym, inl, inr, ap}
use Rattle.std.proofs.lemmas.Result.{err_from_is_err_and}
use Rattle.rc_text.specs.Grammar.{OPERAND_LEVEL}
use Rattle.rc_text.specs.Symbols.{symbols_of}
use Rattle.rc_text.proofs.ReadingSteps.{number_read, name_read, nothing_refused, foreign_refused, sign_refused, group_full, group_read, group_refused, group_not_closed, more_read, more_refused, run_read, run_refused, read_same, refused_same, outcome_same, first_symbol}
use Rattle.rc_text.proofs.RunSteps.{not_prefix}
use Rattle.rc_text.proofs.expression.+expression.Goals as goal

pub climb-returns-in_err-right-clause-read : goal.climb-returns-in_err-right-clause-read
climb-returns-in_err-right-clause-read g t c =
    let p = err_from_is_err_and c.from_residual-in_err-right.result c.from_residual-in_err-right.ensures.1 in
    rw (p.1, p.2) (more_refused (g.N.Names.meaning c.args.names.now) c.args.depth c.args.level c.level_of.result _ _ _ _ c.in-Some.sign c.in-Some.ensures.symbols c.level_of.ensures.value c.requires.level c.in-Some.ensures.tight c.loop-sign.invariant.0 _ c.in_err-right.ensures.read)

pub climb-loop-sign-preserved : goal.climb-loop-sign-preserved
climb-loop-sign-preserved g t c =
    let r = more_read (g.N.Names.meaning c.args.names.now) c.args.depth c.args.level c.level_of.result _ _ _ _ c.in-Some.sign c.in-Some.ensures.symbols c.level_of.ensures.value c.requires.level c.in-Some.ensures.tight c.loop-sign.invariant.0 _ _ c.in_ok-right.ensures.read c.in_ok-right.ensures.stops in
    (outcome_same (g.N.Names.meaning c.args.names.now) c.args.level c.args.depth _ _ _ _ c.infix_outcome-left.ensures r, omega (arith, c.in_ok-right.ensures.shorter, c.in-Some.ensures.shorter, c.loop-sign.invariant.1))

pub group-returns-then-depth-eq-DEEPEST-clause-read : goal.group-returns-then-depth-eq-DEEPEST-clause-read
group-returns-then-depth-eq-DEEPEST-clause-read g t c = group_full (g.N.Names.meaning c.args.names.now) c.args.depth _ c.if-depth-eq-DEEPEST.true

pub group-returns-in_err-outcome-clause-read : goal.group-returns-in_err-outcome-clause-read
group-returns-in_err-outcome-clause-read g t c =
    let p = err_from_is_err_and c.from_residual.result c.from_residual.ensures.1 in
    rw (p.1, p.2) (group_refused (g.N.Names.meaning c.args.names.now) c.args.depth _ _ (omega (arith, c.requires.room, c.if-depth-eq-DEEPEST.false)) c.in_err-outcome.ensures.read)

pub group-returns-in-None-clause-read : goal.group-returns-in-None-clause-read
group-returns-in-None-clause-read g t c = group_not_closed (g.N.Names.meaning c.args.names.now) c.args.depth _ _ _ (omega (arith, c.requires.room, c.if-depth-eq-DEEPEST.false)) c.in_ok-outcome.ensures.read c.in_ok-outcome.ensures.stops c.in-None.ensures.none

pub group-returns-in-Some-clause-read : goal.group-returns-in-Some-clause-read
group-returns-in-Some-clause-read g t c = group_read (g.N.Names.meaning c.args.names.now) c.args.depth _ _ _ _ (omega (arith, c.requires.room, c.if-depth-eq-DEEPEST.false)) c.in_ok-outcome.ensures.read c.in-Some.ensures.symbols

pub operand-returns-in_err-outcome-clause-read : goal.operand-returns-in_err-outcome-clause-read
operand-returns-in_err-outcome-clause-read g t c =
    let p = err_from_is_err_and c.from_residual.result c.from_residual.ensures.1 in
    rw (p.1, p.2) (run_refused (g.N.Names.meaning c.args.names.now) c.args.depth c.args.source.now c.args.tokens.now _ (refused_same (g.N.Names.meaning c.args.names.now) OPERAND_LEVEL c.args.depth _ _ _ (ap (symbols_of c.args.source.now) (sym c.split_signs.ensures.rest)) c.in_err-outcome.ensures.read))

pub operand-returns-clause-read : goal.operand-returns-clause-read
operand-returns-clause-read g t c =
    outcome_same (g.N.Names.meaning c.args.names.now) OPERAND_LEVEL c.args.depth _ _ _ _ (rw (← c.split_signs.ensures.signs) c.signed_outcome.ensures)
    (run_read (g.N.Names.meaning c.args.names.now) c.args.depth c.args.source.now c.args.tokens.now _ _ (read_same (g.N.Names.meaning c.args.names.now) OPERAND_LEVEL c.args.depth _ _ _ _ (ap (symbols_of c.args.source.now) (sym c.split_signs.ensures.rest)) c.in_ok-outcome.ensures.read))

pub primary-returns-in-None-clause-read : goal.primary-returns-in-None-clause-read
primary-returns-in-None-clause-read g t c = refused_same (g.N.Names.meaning c.args.names.now) OPERAND_LEVEL c.args.depth _ _ _ c.in-None.ensures.none (nothing_refused (g.N.Names.meaning c.args.names.now) c.args.depth)

pub primary-returns-in-Number-clause-read : goal.primary-returns-in-Number-clause-read
primary-returns-in-Number-clause-read g t c =
    read_same (g.N.Names.meaning c.args.names.now) OPERAND_LEVEL c.args.depth _ _ _ _ (first_symbol _ c.in-Some.token.now _ _ _ c.in-Some.ensures.symbols c.in-Number.is) (outcome_same (g.N.Names.meaning c.args.names.now) OPERAND_LEVEL c.args.depth _ _ _ _ c.number_outcome.ensures (number_read (g.N.Names.meaning c.args.names.now) c.args.depth c.in-Number.n _))

pub primary-returns-in-Name-clause-read : goal.primary-returns-in-Name-clause-read
primary-returns-in-Name-clause-read g t c =
    read_same (g.N.Names.meaning c.args.names.now) OPERAND_LEVEL c.args.depth _ _ _ _ (first_symbol _ c.in-Some.token.now _ _ _ c.in-Some.ensures.symbols c.in-Name.is) (outcome_same (g.N.Names.meaning c.args.names.now) OPERAND_LEVEL c.args.depth _ _ _ _ (rw (← c.value.ensures) c.name_outcome.ensures) (name_read (g.N.Names.meaning c.args.names.now) c.args.depth _ _))

pub primary-returns-in_default : goal.primary-returns-in_default
primary-returns-in_default g t c =
    record { read = refused_same (g.N.Names.meaning c.args.names.now) OPERAND_LEVEL c.args.depth _ _ _ (first_symbol _ c.in-Some.token.now _ _ _ c.in-Some.ensures.symbols c.in-Sign.is) (sign_refused (g.N.Names.meaning c.args.names.now) c.args.depth c.in-Sign.sign _ c.in_default.not-Open (not_prefix _ _ c.in-Some.token.now c.in-Sign.sign c.in-Some.ensures.tokens c.in-Sign.is c.requires.unsigned)); shorter = tt }

pub primary-returns-in-Assert-clause-read : goal.primary-returns-in-Assert-clause-read
primary-returns-in-Assert-clause-read g t c =
    elim c.in-Assert.is [
      | inl is ↦ refused_same (g.N.Names.meaning c.args.names.now) OPERAND_LEVEL c.args.depth _ _ _ (first_symbol _ c.in-Some.token.now _ _ _ c.in-Some.ensures.symbols is) (foreign_refused (g.N.Names.meaning c.args.names.now) c.args.depth _)
      | inr is ↦ refused_same (g.N.Names.meaning c.args.names.now) OPERAND_LEVEL c.args.depth _ _ _ (first_symbol _ c.in-Some.token.now _ _ _ c.in-Some.ensures.symbols is) (foreign_refused (g.N.Names.meaning c.args.names.now) c.args.depth _)
    ]
