-- Trees of blocks, by how many lines and blocks they have.
use Rattle.std.proofs.Common.{ℕ, suc, ◌+◌}
use Rattle.rc_expand.specs.Read.Tree.{BlockTree, NoLine, OneLine, Block}

abbrev pub size : BlockTree → ℕ
size NoLine = 0
size (OneLine h rest) = suc (size rest)
size (Block f inside r rest) = suc (size inside + size rest)
