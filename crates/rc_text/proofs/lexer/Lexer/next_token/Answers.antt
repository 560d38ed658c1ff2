use Rattle.std.proofs.Common.{rules, arith, ◌+◌, ◌∙◌}
use Rattle.rc_text.proofs.LexemeSteps.{blanks_at, trivia_at, line_feed_at, token_at}
use Rattle.rc_text.proofs.lexer.Lexer.next_token.Goals as goal

pub overflow_add-self : goal.overflow_add-self
overflow_add-self c =
    let p = trivia_at c.loop-self.self-inside.source.now c.loop-self.self-inside.at_line_start c.loop-self.self-inside.at c.loop-self.self-inside.line _ c.loop-self-test.true c.loop-self.invariant.2 c.in-Trivia.len c.in-Trivia.ensures in
    search rules

pub overflow_add-self-in-Trivia : goal.overflow_add-self-in-Trivia
overflow_add-self-in-Trivia c =
    let p = trivia_at c.loop-self.self-inside.source.now c.loop-self.self-inside.at_line_start c.loop-self.self-inside.at c.loop-self.self-inside.line _ c.loop-self-test.true c.loop-self.invariant.2 c.in-Trivia.len c.in-Trivia.ensures in
    let q = blanks_at c.loop-self.self-inside.source.now c.loop-self.self-inside.at_line_start (c.loop-self.self-inside.at + c.in-Trivia.len) c.loop-self.self-inside.line _ p.1 c.blanks_len.ensures in
    search rules

pub slice_bounds-blanks_len-count : goal.slice_bounds-blanks_len-count
slice_bounds-blanks_len-count c =
    let p = trivia_at c.loop-self.self-inside.source.now c.loop-self.self-inside.at_line_start c.loop-self.self-inside.at c.loop-self.self-inside.line _ c.loop-self-test.true c.loop-self.invariant.2 c.in-Trivia.len c.in-Trivia.ensures in
    omega (arith, p.1)

pub slice_bounds-blanks_len-start : goal.slice_bounds-blanks_len-start
slice_bounds-blanks_len-start c =
    let p = trivia_at c.loop-self.self-inside.source.now c.loop-self.self-inside.at_line_start c.loop-self.self-inside.at c.loop-self.self-inside.line _ c.loop-self-test.true c.loop-self.invariant.2 c.in-Trivia.len c.in-Trivia.ensures in
    omega (arith, p.1)

pub loop-self-smaller : goal.loop-self-smaller
loop-self-smaller c =
    let p = trivia_at c.loop-self.self-inside.source.now c.loop-self.self-inside.at_line_start c.loop-self.self-inside.at c.loop-self.self-inside.line _ c.loop-self-test.true c.loop-self.invariant.2 c.in-Trivia.len c.in-Trivia.ensures in
    let q = blanks_at c.loop-self.self-inside.source.now c.loop-self.self-inside.at_line_start (c.loop-self.self-inside.at + c.in-Trivia.len) c.loop-self.self-inside.line _ p.1 c.blanks_len.ensures in
    omega (arith, p.0, p.1, q.0)

pub loop-self-preserved : goal.loop-self-preserved
loop-self-preserved c =
    let p = trivia_at c.loop-self.self-inside.source.now c.loop-self.self-inside.at_line_start c.loop-self.self-inside.at c.loop-self.self-inside.line _ c.loop-self-test.true c.loop-self.invariant.2 c.in-Trivia.len c.in-Trivia.ensures in
    let q = blanks_at c.loop-self.self-inside.source.now c.loop-self.self-inside.at_line_start (c.loop-self.self-inside.at + c.in-Trivia.len) c.loop-self.self-inside.line _ p.1 c.blanks_len.ensures in
    (q.0, omega (arith, c.loop-self.invariant.1), q.1 ∙ p.2)

pub returns-in-LineFeed : goal.returns-in-LineFeed
returns-in-LineFeed c =
    rw c.token_of-token.ensures (line_feed_at c.loop-self.self-inside.source.now c.loop-self.self-inside.at_line_start c.loop-self.self-inside.at c.loop-self.self-inside.line _ c.loop-self-test.true c.loop-self.invariant.2 c.in-LineFeed.ensures)

pub token_of-token-requires-in-Token : goal.token_of-token-requires-in-Token
token_of-token-requires-in-Token c =
    let p = token_at c.loop-self.self-inside.source.now c.loop-self.self-inside.at_line_start c.loop-self.self-inside.at c.loop-self.self-inside.line _ c.loop-self-test.true c.loop-self.invariant.2 c.in-Token.len c.in-Token.kind c.in-Token.ensures in
    search rules

pub invariant_of-self-in-Token : goal.invariant_of-self-in-Token
invariant_of-self-in-Token c =
    let p = token_at c.loop-self.self-inside.source.now c.loop-self.self-inside.at_line_start c.loop-self.self-inside.at c.loop-self.self-inside.line _ c.loop-self-test.true c.loop-self.invariant.2 c.in-Token.len c.in-Token.kind c.in-Token.ensures in
    (p.1, omega (arith, c.loop-self.invariant.1))

pub returns-in-Token : goal.returns-in-Token
returns-in-Token c =
    rw c.token_of-token-in-Token.ensures ((token_at c.loop-self.self-inside.source.now c.loop-self.self-inside.at_line_start c.loop-self.self-inside.at c.loop-self.self-inside.line _ c.loop-self-test.true c.loop-self.invariant.2 c.in-Token.len c.in-Token.kind c.in-Token.ensures).2)
