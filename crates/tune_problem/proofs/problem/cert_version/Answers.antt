use Rattle.std.proofs.Common.{inr, refl, sym, subst, false, List}
use Rattle.std.specs.Prelude.{IsTrue}
use Rattle.mars_fight.specs.Listed.{IsPlain}
use Rattle.mars_fight.specs.declared.fight.Fight.{Fight}
use Rattle.tune_problem.proofs.Weights.{once_plain}
use Rattle.tune_problem.proofs.problem.cert_version.Goals as goal

pub returns-else-plain : goal.returns-else-plain
returns-else-plain c =
    inr (
      refl,
      λ once.
          let yes : IsTrue false = c.if-plain.ensures.1 (subst (λ (s : List Fight). IsPlain s) (sym c.schedule.ensures.schedule) (once_plain c.args.inputs.now once)) in
          cc,
    )
