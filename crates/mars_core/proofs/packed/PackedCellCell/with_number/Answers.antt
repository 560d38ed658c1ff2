use Rattle.std.proofs.Common.{rules, ap, refl, ◌∙◌}
use Rattle.mars_core.specs.Core.{field_of}
use Rattle.mars_core.specs.Packed.{unpacked}
use Rattle.mars_core.proofs.Packing.{moved_a, moved_b}
use Rattle.mars_core.proofs.packed.PackedCellCell.with_number.Goals.{in-ANumber, in-BNumber}
use Rattle.mars_core.proofs.packed.PackedCellCell.with_number.Goals as goal

pub invariant_of-result : goal.invariant_of-result
unfolding unpacked
invariant_of-result c =
    let w = c.args.self.word in
    let old = c.from-2.ensures ∙ c.number.ensures in
    record {
      classed = elim c.match-field.branch [
        | in-ANumber f ↦ (moved_a w c.args.number _ _ _ _ (search rules) c.requires f.unit-is c.from.ensures (old ∙ ap (λ f. field_of f (unpacked w)) f.in-ANumber.is) refl).1 c.args.self.classed
        | in-BNumber f ↦ (moved_b w c.args.number _ _ _ _ (search rules) c.requires f.unit-is c.from.ensures (old ∙ ap (λ f. field_of f (unpacked w)) f.in-BNumber.is) refl).1 c.args.self.classed
      ];
    }

pub returns : goal.returns
unfolding unpacked
returns c =
    let w = c.args.self.word in
    let old = c.from-2.ensures ∙ c.number.ensures in
    elim c.match-field.branch [
      | in-ANumber f ↦ rw f.in-ANumber.is ((moved_a w c.args.number _ _ _ _ (search rules) c.requires f.unit-is c.from.ensures (old ∙ ap (λ f. field_of f (unpacked w)) f.in-ANumber.is) refl).0)
      | in-BNumber f ↦ rw f.in-BNumber.is ((moved_b w c.args.number _ _ _ _ (search rules) c.requires f.unit-is c.from.ensures (old ∙ ap (λ f. field_of f (unpacked w)) f.in-BNumber.is) refl).0)
    ]
