use Rattle.std.proofs.Common.{ap, ◌∙◌, ◌++◌}
use Rattle.std.specs.Prelude.{codes}
use Rattle.std.specs.Fmt.{decimal}
use Rattle.tune_runs.specs.CheckRun.{none_text}
use Rattle.tune_runs.proofs.Appended.{more}
use Rattle.tune_runs.proofs.lines.add_none.Goals as goal

pub returns : goal.returns
unfolding none_text
returns c =
    let old = c.args.line.now.items in
    let a = codes " none below " in
    let number = decimal c.args.floor in
    let x = c.extend_from_slice.new.self.items in
    let y = c.extend_from_slice-2.new.self.items in
    more old (a ++ number) (codes "\n") y _ (
    more old a number x y c.in_ok-extend_from_slice.ensures.items
    (c.in_ok-extend_from_slice-2.ensures.items ∙ ap (λ t. x ++ t) (c.as_bytes.ensures.value ∙ c.format.ensures.text)))
    c.in_ok-extend_from_slice-3.ensures.items
