use Rattle.std.proofs.Common.{ap, ◌∙◌, ◌++◌}
use Rattle.std.specs.Prelude.{codes}
use Rattle.std.specs.Fmt.{decimal}
use Rattle.tune_runs.specs.CheckRun.{share_words}
use Rattle.tune_runs.proofs.Appended.{more}
use Rattle.tune_runs.proofs.lines.add_share.Goals as goal

pub returns : goal.returns
unfolding share_words
returns c =
    let old = c.args.line.now.items in
    let a = codes "accepted share " in
    let number = decimal c.args.share.number in
    let shares = decimal c.args.share.shares in
    let x = c.extend_from_slice.new.self.items in
    let y = c.extend_from_slice-2.new.self.items in
    let z = c.extend_from_slice-3.new.self.items in
    more old (a ++ number ++ codes "/") shares z _ (
    more old (a ++ number) (codes "/") y z (
    more old a number x y c.in_ok-extend_from_slice.ensures.items
    (c.in_ok-extend_from_slice-2.ensures.items ∙ ap (λ t. x ++ t) (c.as_bytes.ensures.value ∙ c.format.ensures.text)))
    c.in_ok-extend_from_slice-3.ensures.items)
    (c.in_ok-extend_from_slice-4.ensures.items ∙ ap (λ t. z ++ t) (c.as_bytes-2.ensures.value ∙ c.format-2.ensures.text))
