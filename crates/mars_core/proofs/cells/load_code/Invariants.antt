use Rattle.std.proofs.Common.{◌≡◌, ◌+◌, ◌≤◌, drop}
use Rattle.std.proofs.lemmas.List.Edits.{sets}
use Rattle.mars_core.specs.Core.{IsCore}
use Rattle.mars_core.proofs.cells.load_code.Given as goal

-- what is left to write makes the whole
abbrev pub invariant-loop-instruction : goal.invariant-loop-instruction
invariant-loop-instruction g l =
    let items = g.C.Store.items in
    record {
      to : l.to ≡ l.fn.at + l.instruction-index;
      core : IsCore l.size (items l.cells);
      rest : sets (items l.cells) l.to (drop l.instruction-index l.code) ≡ sets (items l.fn.cells) l.fn.at l.fn.code;
      marks : g.C.Store.marks l.cells ≤ g.C.Store.marks l.fn.cells + l.instruction-index;
    }
