use Rattle.std.proofs.Common.{sym, ◌∙◌, ap, take, get_or, None}
use Rattle.std.specs.Prelude.{option_map}
use Rattle.rc_expand.specs.declared.unroll.reached.BlockCopy.{BlockCopy}
use Rattle.rc_expand.specs.Unroll.Copies.{numbering_by, copied_line, line_in_copy, line_in}
use Rattle.rc_expand.specs.Unroll.Reached.{copies_in}
use Rattle.rc_expand.proofs.Unrolling.Reaching.{copies_more}
use Rattle.rc_expand.proofs.unroll.reached.copy_for_each.Goals as goal
use Rattle.rc_expand.proofs.unroll.reached.copy_for_each.Goals.{in-Some+in_ok-made, in_default}

pub loop-i-preserved : goal.loop-i-preserved
loop-i-preserved c =
    let s = c.args.source.now in
    let i = c.loop-i.i in
    let cs = c.args.copies.now in
    let h = c.args.line in
    let none : BlockCopy = record { counter = None; number = 0 } in
    let more = copies_more s cs i none h c.loop-i-test.true in
    let k = (get_or cs i none).number in
    elim c.match-copies-i.branch [
      | in-Some+in_ok-made w ↦
          w.made-is ∙ w.in_ok-made.ensures
          ∙ ap (copied_line (numbering_by s w.in-Some.counter.now k)) c.loop-i.invariant
          ∙ ap (λ o. line_in_copy s (option_map (λ b. b.now) o) k (line_in s (copies_in (take i cs)) h)) (sym w.in-Some.is)
          ∙ sym more
      | in_default w ↦
          w.made-is ∙ c.loop-i.invariant
          ∙ ap (λ o. line_in_copy s (option_map (λ b. b.now) o) k (line_in s (copies_in (take i cs)) h)) (sym w.in_default.is)
          ∙ sym more
    ]
