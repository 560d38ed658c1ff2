use Rattle.std.proofs.Common.{◌≡◌, ◌∙◌, ◌<◌, ap, sym, arith, length, Some, slice_get}
use Rattle.tune_problem.specs.Problem.{problem_of}
use Rattle.tune_problem.specs.Valid.{listed_in}
use Rattle.tune_cert.specs.Checks.{alone_reason}
use Rattle.tune_cert.specs.Spelling.{record_of}
use Rattle.tune_cert.proofs.RowWalks.{row_here, right_here, wrong_here, fights_step, played_within}
use Rattle.tune_cert.proofs.share_rows.check_rows_alone.Goals as goal

pub returns-in_err-reason-clause-most : goal.returns-in_err-reason-clause-most
returns-in_err-reason-clause-most g c = λ room.
    let rows = c.args.claim.now.statement.now.rows in
    let v = c.loop-vector.vector in
    let row = c.index-rows-vector.result in
    let l : v < length rows = omega (arith, c.loop-vector-test.true, c.requires.inside, c.args.claim.now.counted) in
    let at : slice_get rows v ≡ Some row = row_here rows c.as_slice-rows.result.now v row c.as_slice-rows.ensures l c.index-rows-vector.is in
    let within = played_within _ _ _ _ (listed_in row) _ c.check_alone.new.arena.fights room (c.loop-vector.invariant.most room) (fights_step rows v c.args.end row c.loop-vector-test.true at) c.in_err-reason.ensures.most in
    omega (arith, within)

pub returns-in-Some-clause-wrong : goal.returns-in-Some-clause-wrong
returns-in-Some-clause-wrong g c =
    let p = problem_of c.args.claim.now.inputs.now in
    let s = c.args.claim.now.statement.now in
    let v = c.loop-vector.vector in
    let row = c.index-rows-vector.result in
    let l : v < length s.rows = omega (arith, c.loop-vector-test.true, c.requires.inside, c.args.claim.now.counted) in
    let at : slice_get s.rows v ≡ Some row = row_here s.rows c.as_slice-rows.result.now v row c.as_slice-rows.ensures l c.index-rows-vector.is in
    ap (λ n. Some (n, c.in-Some.reason)) (c.record_of.ensures ∙ ap record_of c.from.ensures)
    ∙ sym (c.loop-vector.invariant.wrong ∙ wrong_here (alone_reason p s c.args.claim.now.aim) s.rows v c.args.end row c.in-Some.reason c.loop-vector-test.true at (sym c.in-Some.is ∙ c.in_ok-reason.ensures.reason))

pub returns-in-Some-clause-most : goal.returns-in-Some-clause-most
returns-in-Some-clause-most g c = λ room.
    let rows = c.args.claim.now.statement.now.rows in
    let v = c.loop-vector.vector in
    let row = c.index-rows-vector.result in
    let l : v < length rows = omega (arith, c.loop-vector-test.true, c.requires.inside, c.args.claim.now.counted) in
    let at : slice_get rows v ≡ Some row = row_here rows c.as_slice-rows.result.now v row c.as_slice-rows.ensures l c.index-rows-vector.is in
    let within = played_within _ _ _ _ (listed_in row) _ c.check_alone.new.arena.fights room (c.loop-vector.invariant.most room) (fights_step rows v c.args.end row c.loop-vector-test.true at) c.in_ok-reason.ensures.most in
    omega (arith, within)

pub loop-vector-preserved : goal.loop-vector-preserved
loop-vector-preserved g c =
    let p = problem_of c.args.claim.now.inputs.now in
    let s = c.args.claim.now.statement.now in
    let v = c.loop-vector.vector in
    let row = c.index-rows-vector.result in
    let l : v < length s.rows = omega (arith, c.loop-vector-test.true, c.requires.inside, c.args.claim.now.counted) in
    let at : slice_get s.rows v ≡ Some row = row_here s.rows c.as_slice-rows.result.now v row c.as_slice-rows.ensures l c.index-rows-vector.is in
    record {
      blank = c.check_alone.ensures.blank;
      wrong = c.loop-vector.invariant.wrong
          ∙ right_here (alone_reason p s c.args.claim.now.aim) s.rows v c.args.end row c.loop-vector-test.true at (sym c.in_default.is ∙ c.in_ok-reason.ensures.reason);
      most = λ room. played_within _ _ _ _ (listed_in row) _ c.check_alone.new.arena.fights room (c.loop-vector.invariant.most room) (fights_step s.rows v c.args.end row c.loop-vector-test.true at)
          c.in_ok-reason.ensures.most;
    }
