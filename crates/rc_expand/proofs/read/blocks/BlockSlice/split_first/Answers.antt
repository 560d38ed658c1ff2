use Rattle.std.proofs.Common.{arith, length, ◌+◌}
use Rattle.std.specs.Prelude.{slice_index_or}
use Rattle.std.proofs.lemmas.Slice.{between_to_end}
use Rattle.rc_expand.proofs.Reading.SliceSteps.{first_block}
use Rattle.rc_expand.proofs.read.blocks.BlockSlice.split_first.Goals as goal

pub slice_bounds-inside-end : goal.slice_bounds-inside-end
slice_bounds-inside-end c =
    let p = first_block c.args.self.now.lines.now c.args.self.now.distances.now c.in_ok-raw.raw.now _ c.args.self.now.paired c.in_ok-raw.ensures.cases.0 c.in-For.is in
    omega (arith, p.low, p.high, p.same)

pub slice_bounds-rest-count : goal.slice_bounds-rest-count
slice_bounds-rest-count c =
    let p = first_block c.args.self.now.lines.now c.args.self.now.distances.now c.in_ok-raw.raw.now _ c.args.self.now.paired c.in_ok-raw.ensures.cases.0 c.in-For.is in
    omega (arith, p.low, p.high, p.same)

pub slice_bounds-rest-start : goal.slice_bounds-rest-start
slice_bounds-rest-start c =
    let p = first_block c.args.self.now.lines.now c.args.self.now.distances.now c.in_ok-raw.raw.now _ c.args.self.now.paired c.in_ok-raw.ensures.cases.0 c.in-For.is in
    omega (arith, p.low, p.high, p.same)

pub bounds-self-distance : goal.bounds-self-distance
bounds-self-distance c =
    let p = first_block c.args.self.now.lines.now c.args.self.now.distances.now c.in_ok-raw.raw.now _ c.args.self.now.paired c.in_ok-raw.ensures.cases.0 c.in-For.is in
    omega (arith, p.low, p.high, p.same)

pub invariant_of-inside : goal.invariant_of-inside
invariant_of-inside c =
    let p = first_block c.args.self.now.lines.now c.args.self.now.distances.now c.in_ok-raw.raw.now _ c.args.self.now.paired c.in_ok-raw.ensures.cases.0 c.in-For.is in
    record { paired = p.inside }

pub invariant_of-rest : goal.invariant_of-rest
invariant_of-rest c =
    let p = first_block c.args.self.now.lines.now c.args.self.now.distances.now c.in_ok-raw.raw.now _ c.args.self.now.paired c.in_ok-raw.ensures.cases.0 c.in-For.is in
    let d = slice_index_or c.args.self.now.distances.now 0 0 in
    let hs = between_to_end c.args.self.now.lines.now (d + 1) (length c.args.self.now.lines.now) (omega arith) in
    let ds = between_to_end c.args.self.now.distances.now (d + 1) (length c.args.self.now.distances.now) (omega arith) in
    record { paired = rw (hs, ds) p.after }

pub returns-in-For-clause-block : goal.returns-in-For-clause-block
returns-in-For-clause-block c =
    let p = first_block c.args.self.now.lines.now c.args.self.now.distances.now c.in_ok-raw.raw.now _ c.args.self.now.paired c.in_ok-raw.ensures.cases.0 c.in-For.is in
    let d = slice_index_or c.args.self.now.distances.now 0 0 in
    let hs = between_to_end c.args.self.now.lines.now (d + 1) (length c.args.self.now.lines.now) (omega arith) in
    rw hs (p.tree c.index-self-distance.result)
