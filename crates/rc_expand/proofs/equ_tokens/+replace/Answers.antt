use Rattle.std.proofs.Common.{arith, rules, ◌∙◌}
use Rattle.std.proofs.lemmas.Result.{err_from_is_err_and}
use Rattle.rc_expand.specs.Contexts.{seen_context}
use Rattle.rc_expand.proofs.Replacing.ReplaceSteps.{next, fails, ends}
use Rattle.rc_expand.proofs.Reading.TableIndices.{index_of}
use Rattle.rc_expand.proofs.equ_tokens.+replace.Goals as goal

pub append_replaced-append_token-requires : goal.append_replaced-append_token-requires
append_replaced-append_token-requires t c = (
  search rules,
  index_of c.args.context.now.source.now c.args.context.now.equs.now c.args.tokens.now c.args.indices.now c.loop-i.i c.index-tokens-i.result c.requires c.loop-i-test.true c.index-tokens-i.is,
)

pub append_replaced-returns-in_err-append_token : goal.append_replaced-returns-in_err-append_token
append_replaced-returns-in_err-append_token t c =
    let p = err_from_is_err_and c.from_residual.result c.from_residual.ensures.1 in
    rw (p.1, p.2) (λ h. c.loop-i.invariant
    ∙ fails (seen_context c.args.context.now) c.args.levels c.args.tokens.now c.loop-i.i c.loop-i.out c.index-tokens-i.result c.loop-i-test.true c.index-tokens-i.is c.in_err-append_token.field-0.0 (c.in_err-append_token.ensures h))

pub append_replaced-loop-i-preserved : goal.append_replaced-loop-i-preserved
append_replaced-loop-i-preserved t c =
    c.loop-i.invariant
    ∙ next (seen_context c.args.context.now) c.args.levels c.args.tokens.now c.loop-i.i c.loop-i.out c.index-tokens-i.result c.loop-i-test.true c.index-tokens-i.is c.append_token.new.out c.in_ok-append_token.ensures

pub append_replaced-returns : goal.append_replaced-returns
append_replaced-returns t c =
    c.loop-i.invariant ∙ ends (seen_context c.args.context.now) c.args.levels c.args.tokens.now c.loop-i.i c.loop-i.out (omega (arith, c.loop-i-test.false))
