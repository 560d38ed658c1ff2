use Rattle.std.proofs.Common.{◌≡◌, ◌∙◌, ◌<◌, sym, arith, length, Some, slice_get}
use Rattle.tune_problem.specs.Problem.{problem_of}
use Rattle.tune_cert.specs.Checks.{same_reason}
use Rattle.tune_cert.proofs.RowWalks.{row_here, right_here, no_reference}
use Rattle.tune_cert.proofs.share_rows.none_refer.Goals as goal

pub loop-vector-preserved : goal.loop-vector-preserved
loop-vector-preserved c =
    let p = problem_of c.args.claim.now.inputs.now in
    let s = c.args.claim.now.statement.now in
    let v = c.loop-vector.vector in
    let row = c.index-rows-vector.result in
    let l : v < length s.rows = omega (arith, c.loop-vector-test.true, c.requires) in
    let at : slice_get s.rows v ≡ Some row = row_here s.rows c.as_slice-rows.result.now v row c.as_slice-rows.ensures l c.index-rows-vector.is in
    c.loop-vector.invariant ∙ right_here (same_reason p s c.args.claim.now.aim) s.rows v c.args.end row c.loop-vector-test.true at (no_reference p s c.args.claim.now.aim v row (sym c.if-refers.ensures))
