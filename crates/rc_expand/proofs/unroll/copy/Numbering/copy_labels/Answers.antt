use Rattle.std.proofs.Common.{◌≡◌, sym, ◌∙◌, ap, Option, Some, List}
use Rattle.rc_text.specs.declared.token.Token.{Token}
use Rattle.rc_expand.specs.Unroll.Numberings.{seen_numbering}
use Rattle.rc_expand.specs.Unroll.Copies.{copied_tokens}
use Rattle.rc_expand.proofs.Each.{so_far_more}
use Rattle.rc_expand.proofs.unroll.copy.Numbering.copy_labels.Goals as goal

pub loop-label-preserved : goal.loop-label-preserved
loop-label-preserved c =
    let f : List Token → Option (List Token) = copied_tokens (seen_numbering c.args.self.now) in
    let made : Some c.in-Some.tokens ≡ f c.label-item.result = sym c.in-Some.is ∙ (c.in_ok-copy_tokens.ensures ∙ ap f c.as_slice.ensures) in
    rw c.in_ok-push-in-Some.ensures (so_far_more f c.as_slice-label-items.result.now c.loop-label.copied c.label-item.result c.in-Some.tokens c.loop-label.label-index c.loop-label-test.true c.label-item.is made c.loop-label.invariant)
