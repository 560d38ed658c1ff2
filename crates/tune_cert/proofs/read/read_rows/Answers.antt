use Rattle.std.proofs.Common.{◌≡◌, ◌∙◌, sym, arith, ◌∷◌, ◌++◌, []}
use Rattle.tune_cert.proofs.RowsRead.{one_more, ended, not_one, too_many}
use Rattle.tune_cert.proofs.read.read_rows.Goals as goal

pub loop-rows-preserved : goal.loop-rows-preserved
loop-rows-preserved c =
    let items : c.push.new.self.items ≡ c.loop-rows.rows.items ++ c.in-Some.row ∷ [] = c.in_ok-push-in-Some.ensures.items in
    let left = rw c.if-branch.true at c.in_ok-read.ensures.read in
    record {
      so_far = rw items (one_more _ c.in-Some.row c.loop-rows.vector _ _ _ (rw left at c.loop-rows.invariant.so_far) (sym c.in_ok-row.ensures ∙ c.in-Some.is));
      few = omega arith;
    }

pub returns-then-vector-from : goal.returns-then-vector-from
returns-then-vector-from c =
    let left = rw c.if-branch.true at c.in_ok-read.ensures.read in
    λ n. not_one _ c.loop-rows.vector _ _ _ _ (rw left at c.loop-rows.invariant.so_far) (too_many c.loop-rows.vector _ (omega arith)) c.record_of.ensures

pub returns-in-None : goal.returns-in-None
returns-in-None c =
    let left = rw c.if-branch.true at c.in_ok-read.ensures.read in
    λ n. not_one _ c.loop-rows.vector _ _ _ _ (rw left at c.loop-rows.invariant.so_far) (sym c.in_ok-row.ensures ∙ c.in-None.is) c.record_of-in-None.ensures

pub returns : goal.returns
returns c =
    let none = rw c.if-branch.false at c.in_ok-read.ensures.read in
    ended _ c.loop-rows.vector _ _ none.0 c.loop-rows.invariant.so_far
