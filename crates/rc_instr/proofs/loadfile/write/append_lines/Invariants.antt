use Rattle.std.proofs.Common.{◌≡◌, ◌++◌, drop}
use Rattle.std.specs.Prelude.{flat_map}
use Rattle.rc_instr.specs.Appending.{IsFront}
use Rattle.rc_instr.specs.LoadText.{line_text}
use Rattle.rc_instr.proofs.loadfile.write.append_lines.Given as goal

-- what is left to append makes the whole
abbrev pub invariant-loop-instruction : goal.invariant-loop-instruction
invariant-loop-instruction l = record {
  rest : l.out.items ++ flat_map (line_text l.core) (drop l.instruction-index l.code) ≡ l.fn.out.items ++ flat_map (line_text l.core) l.fn.code;
  front : IsFront l.fn.out.items l.out.items;
}
