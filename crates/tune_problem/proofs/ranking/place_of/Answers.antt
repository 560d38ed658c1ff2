use Rattle.std.proofs.Common.{arith, ◌≡◌, ◌∙◌, ◌++◌, ap, sym, add-one, take, drop, length}
use Rattle.tune_problem.specs.Ranking.{ranked}
use Rattle.tune_problem.proofs.Ranks.{here_at, next_at, none_at}
use Rattle.tune_problem.proofs.ranking.place_of.Goals as goal

pub returns-then-beats-clause-place : goal.returns-then-beats-clause-place
returns-then-beats-clause-place c =
    let xs = c.args.ranking.now in
    let n = c.loop-at.at in
    c.loop-at.invariant ∙ ap (λ l. take n xs ++ l) (here_at c.args.best n xs _ c.loop-at-test.true (sym c.beats.ensures ∙ c.if-beats.true))

pub loop-at-preserved : goal.loop-at-preserved
loop-at-preserved c =
    let xs = c.args.ranking.now in
    let n = c.loop-at.at in
    c.loop-at.invariant ∙ next_at c.args.best n xs _ c.loop-at-test.true (sym c.beats.ensures ∙ c.if-beats.false)
    ∙ ap (λ m. take m xs ++ ranked c.args.best (drop m xs)) (sym (add-one n))

pub returns-clause-place : goal.returns-clause-place
returns-clause-place c =
    let xs = c.args.ranking.now in
    let n = c.loop-at.at in
    let e : n ≡ length xs = omega (arith, c.loop-at-test.false, c.loop-at.auto.at-end) in
    c.loop-at.invariant ∙ ap (λ m. take m xs ++ ranked c.args.best (drop m xs)) e
    ∙ ap (λ l. take (length xs) xs ++ l) (none_at c.args.best (length xs) xs (omega arith))
