use Rattle.std.proofs.Common.{◌≡◌, ◌+◌, ◌≤◌, length, arith, sym, ◌∙◌, ap, [], drop}
use Rattle.std.proofs.lemmas.List.Edits.{sets}
use Rattle.std.proofs.lemmas.Grind.{common_steps}
use Rattle.mars_core.proofs.Loading.{loaded}
use Rattle.mars_core.proofs.cells.load_code.Goals as goal

pub returns-clause-items : goal.returns-clause-items
returns-clause-items g c =
    let none : drop c.loop-instruction.instruction-index c.args.code.now ≡ [] = grind (arith, common_steps) in
    let room : c.args.at + length c.args.code.now ≤ length (g.C.Store.items c.args.cells.now) = omega (arith, c.requires.room, c.requires.core.size) in
    loaded _ _ _ _ room
    (ap (λ code. sets (g.C.Store.items c.loop-instruction.cells) c.loop-instruction.to code) (sym none) ∙ c.loop-instruction.invariant.rest)
