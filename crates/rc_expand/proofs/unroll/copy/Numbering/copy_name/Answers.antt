use Rattle.std.proofs.Common.{◌≡◌, sym, ◌∙◌, ap, arith, ◌∷◌, drop, false}
use Rattle.std.specs.Prelude.{option_map}
use Rattle.rc_text.specs.declared.token.Token.{Token}
use Rattle.rc_expand.specs.Unroll.Numberings.{seen_numbering}
use Rattle.rc_expand.specs.Unroll.Copies.{joins, copied_tokens}
use Rattle.rc_expand.proofs.Unrolling.Copies.{name_joined, no_more_joined, joins_short}
use Rattle.rc_expand.proofs.unroll.copy.Numbering.copy_name.Goals.{then-loop-after-test+else-joins, else-loop-after-test}
use Rattle.rc_expand.proofs.unroll.copy.Numbering.copy_name.Goals as goal

pub loop-after-preserved : goal.loop-after-preserved
loop-after-preserved c = rw c.push.ensures (
  c.loop-after.invariant.0 ∙ name_joined (seen_numbering c.args.self.now) c.loop-after.made c.loop-after.name c.args.tokens.now c.loop-after.after (omega arith) c.if-joins.ensures.result,
  omega arith,
  omega arith,
)

pub returns-clause-copied : goal.returns-clause-copied
returns-clause-copied c =
    let n = c.loop-after.name in
    let others = drop c.loop-after.after c.args.tokens.now in
    let no_more : joins (seen_numbering c.args.self.now) n others ≡ false = elim c.loop-after-test.branch [
      | then-loop-after-test+else-joins w ↦ sym w.if-joins.ensures.result
      | else-loop-after-test w ↦ joins_short (seen_numbering c.args.self.now) n c.args.tokens.now c.loop-after.after (omega arith)
    ] in
    c.loop-after.invariant.0
    ∙ (no_more_joined (seen_numbering c.args.self.now) c.loop-after.made n others no_more
    ∙ ap (λ (t : Token). option_map (λ r. t ∷ r) (copied_tokens (seen_numbering c.args.self.now) others)) (sym c.put_number.ensures))
