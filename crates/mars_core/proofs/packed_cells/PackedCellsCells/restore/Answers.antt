use Rattle.std.proofs.Common.{◌≤◌, Bool, subst, cond, length, map, arith}
use Rattle.std.proofs.lemmas.List.{length-map}
use Rattle.mars_core.specs.Core.{filled_in}
use Rattle.mars_core.specs.Packed.{unpacked}
use Rattle.mars_core.specs.Store.{StoreView}
use Rattle.mars_core.proofs.Marks.{packed_few}
use Rattle.mars_core.proofs.packed_cells.PackedCellsCells.restore.Goals.{then-self, else-self}
use Rattle.mars_core.proofs.packed_cells.PackedCellsCells.restore.Goals as goal

pub returns-clause-least : goal.returns-clause-least
returns-clause-least c =
    let inside = c.self.inside in
    let few = packed_few _ _ _ _ c.self.invariant in
    let at_most = λ (b : Bool). filled_in (map unpacked inside.words.items) ≤ cond b inside.count (length inside.words.items) in
    let marks : filled_in (map unpacked inside.words.items) ≤ c.if-self.marks = elim c.if-self.branch [
      | then-self w ↦ let f = subst at_most w.if-self.true few in omega (arith, f, w.marks-is)
      | else-self w ↦
          let f : filled_in (map unpacked inside.words.items) ≤ length inside.words.items = subst at_most w.if-self.false few in
          let all = length-map w.fill.new.self.items unpacked in
          omega (arith, f, w.marks-is, w.size-marks.ensures.size, w.fill.ensures.len, all)
    ] in
    subst (λ (s : StoreView). filled_in s.items ≤ c.if-self.marks) c.self.view_is marks
