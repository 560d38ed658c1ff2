use Rattle.std.proofs.Common.{◌≡◌, sym, ◌∙◌, subst, false, []}
use Rattle.rc_text.specs.Tokens.{LexerView}
use Rattle.rc_expand.specs.Read.Lines.{has_end, line_of_tokens}
use Rattle.rc_expand.proofs.Reading.ReadSteps.{SoFar, at_first, at_token, at_line}
use Rattle.rc_expand.proofs.Reading.TextFaults.{at_beginning, after_token}
use Rattle.rc_expand.proofs.read.lines.read_lines.Goals as goal

pub loop-line-init : goal.loop-line-init
loop-line-init c =
    let P : LexerView → Type 0 = λ a. SoFar c.args.source.now [] [] a.tokens in
    let first : SoFar c.args.source.now c.new-lines.result.items c.new-line.result.items c.new-lexer.result.tokens =
    rw (c.new-lines.ensures.items, c.new-line.ensures.items) (subst P (sym c.new-lexer.ensures) (at_first c.args.source.now)) in (
      first,
      at_beginning c.args.source.now c.new-lexer.result c.new-lexer.ensures,
    )

pub loop-line-preserved-then-is_line_end : goal.loop-line-preserved-then-is_line_end
loop-line-preserved-then-is_line_end c =
    let took = rw c.in-Some.is at c.in_ok-token.ensures in
    let ended : false ≡ has_end (line_of_tokens c.args.source.now c.loop-line.line.items) =
    sym c.if-branch.false ∙ c.in_ok-push_line.ensures.ended in
    let r = at_line c.args.source.now c.loop-line.lines.items c.loop-line.line.items c.in-Some.token c.next_token.new.lexer.tokens c.loop-line.lexer.tokens took.0 c.if-is_line_end.ensures ended c.loop-line.invariant.0 in
    let first : SoFar c.args.source.now c.push_line.new.lines.items c.clear.new.self.items c.next_token.new.lexer.tokens =
    rw (c.in_ok-push_line.ensures.lines, c.clear.ensures.items) r in (
      first,
      after_token c.args.source.now c.loop-line.lexer c.next_token.new.lexer c.in-Some.token took.0 took.1 took.3 c.loop-line.invariant.1,
    )

pub loop-line-preserved : goal.loop-line-preserved
loop-line-preserved c =
    let took = rw c.in-Some.is at c.in_ok-token.ensures in
    let r = at_token c.args.source.now c.loop-line.lines.items c.loop-line.line.items c.in-Some.token c.next_token.new.lexer.tokens c.loop-line.lexer.tokens took.0 c.if-is_line_end.ensures c.loop-line.invariant.0 in
    let first : SoFar c.args.source.now c.loop-line.lines.items c.push.new.self.items c.next_token.new.lexer.tokens =
    rw (c.in_ok-push.ensures.items) r in (
      first,
      after_token c.args.source.now c.loop-line.lexer c.next_token.new.lexer c.in-Some.token took.0 took.1 took.3 c.loop-line.invariant.1,
    )
