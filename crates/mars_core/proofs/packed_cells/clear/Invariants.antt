use Rattle.std.proofs.Common.{◌≡◌, length, drop}
use Rattle.mars_core.specs.Packed.{empty_word}
use Rattle.mars_core.specs.Store.{ListsWritten}
use Rattle.mars_core.proofs.packed_cells.clear.Given as goal

-- what is not empty yet is among the addresses to come
abbrev pub invariant-loop-at : goal.invariant-loop-at
invariant-loop-at l = record {
  size : length l.words.items ≡ length l.fn.words.items;
  empty : l.empty ≡ empty_word;
  left : ListsWritten l.words.items (drop l.at-index l.journal);
}
