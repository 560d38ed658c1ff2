use Rattle.std.proofs.Common.{◌≡◌, ◌∙◌, ◌<◌, ap, sym, arith, length, Some, slice_get}
use Rattle.tune_problem.specs.Problem.{problem_of}
use Rattle.tune_cert.specs.Checks.{same_reason}
use Rattle.tune_cert.specs.Spelling.{record_of}
use Rattle.tune_cert.proofs.RowWalks.{row_here, right_here, wrong_here}
use Rattle.tune_cert.proofs.share_rows.check_rows_same.Goals as goal

pub returns-in-Some : goal.returns-in-Some
returns-in-Some g c =
    let p = problem_of c.args.claim.now.inputs.now in
    let s = c.args.claim.now.statement.now in
    let v = c.loop-vector.vector in
    let row = c.index-rows-vector.result in
    let l : v < length s.rows = omega (arith, c.loop-vector-test.true, c.requires.inside, c.args.claim.now.counted) in
    let at : slice_get s.rows v ≡ Some row = row_here s.rows c.as_slice-rows.result.now v row c.as_slice-rows.ensures l c.index-rows-vector.is in
    record {
      wrong = ap (λ n. Some (n, c.in-Some.reason)) (c.record_of.ensures ∙ ap record_of c.from.ensures)
          ∙ sym (c.loop-vector.invariant.wrong ∙ wrong_here (same_reason p s c.args.claim.now.aim) s.rows v c.args.end row c.in-Some.reason c.loop-vector-test.true at (sym c.in-Some.is ∙ c.in_ok-reason.ensures.reason));
    }

pub loop-vector-preserved : goal.loop-vector-preserved
loop-vector-preserved g c =
    let p = problem_of c.args.claim.now.inputs.now in
    let s = c.args.claim.now.statement.now in
    let v = c.loop-vector.vector in
    let row = c.index-rows-vector.result in
    let l : v < length s.rows = omega (arith, c.loop-vector-test.true, c.requires.inside, c.args.claim.now.counted) in
    let at : slice_get s.rows v ≡ Some row = row_here s.rows c.as_slice-rows.result.now v row c.as_slice-rows.ensures l c.index-rows-vector.is in
    record {
      wrong = c.loop-vector.invariant.wrong
          ∙ right_here (same_reason p s c.args.claim.now.aim) s.rows v c.args.end row c.loop-vector-test.true at (sym c.in_default.is ∙ c.in_ok-reason.ensures.reason);
      assembled = c.check_same.ensures.assembled;
    }
