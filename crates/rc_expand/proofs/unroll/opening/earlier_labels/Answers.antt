use Rattle.std.proofs.Common.{◌≡◌, arith, suc, ◌-◌, length, List, subst}
use Rattle.std.specs.Prelude.{IfOk}
use Rattle.rc_text.specs.declared.token.Token.{Token}
use Rattle.rc_expand.proofs.Unrolling.CountSteps.{earlier_at}
use Rattle.rc_expand.proofs.unroll.opening.earlier_labels.Goals as goal

pub returns : goal.returns
returns c =
    let n : suc (length c.args.labels.now - 1) ≡ length c.args.labels.now = omega arith in
    let P : List (List Token) → Type 0 = λ x. IfOk c.clone_labels.result (λ l. l ≡ x) in
    subst P (earlier_at c.args.labels.now (length c.args.labels.now - 1) n) c.clone_labels.ensures
