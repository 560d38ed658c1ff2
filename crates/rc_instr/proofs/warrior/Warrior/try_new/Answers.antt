use Rattle.rc_instr.proofs.CheckSteps.{unrefused, refused_for}
use Rattle.rc_instr.proofs.warrior.Warrior.try_new.Goals as goal

pub invariant_of-result : goal.invariant_of-result
invariant_of-result c = (unrefused c.args.rules.now _ c.length.ensures.rules (rw c.as_slice.ensures.value at c.in-None.ensures)).1

pub returns-in-None-clause-ok : goal.returns-in-None-clause-ok
returns-in-None-clause-ok c = unrefused c.args.rules.now _ c.length.ensures.rules (rw c.as_slice.ensures.value at c.in-None.ensures)

pub returns-in-Some-clause-refused : goal.returns-in-Some-clause-refused
returns-in-Some-clause-refused c = (c.from_vec.ensures, refused_for _ _ (rw c.as_slice.ensures.value at c.in-Some.ensures))
