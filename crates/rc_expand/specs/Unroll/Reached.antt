-- The views of what the code keeps of an unrolled line: the line of the text, and the copies that
-- it is in.
use Rattle.std.specs.Prelude.{Bool, true, false, List, map, option_map, is_none}
use Rattle.std.specs.List.{list_all}
use Rattle.rc_expand.specs.declared.read.raw_line.RawLine.{RawLine}
use Rattle.rc_expand.specs.declared.unroll.reached.BlockCopy.{BlockCopy}
use Rattle.rc_expand.specs.Read.Lines.{bare_line}
use Rattle.rc_expand.specs.Unroll.Copies.{BlockCopyView}
use Rattle.rc_expand.specs.Unroll.Openings.{earlier_of}

abbrev pub seen_block_copy : BlockCopy → BlockCopyView
seen_block_copy c = record { counter = option_map (λ b. b.now) c.counter; number = c.number }

-- The copies that a line is in, the outermost first.
abbrev pub copies_in : List BlockCopy → List BlockCopyView
copies_in cs = map seen_block_copy cs

-- No copy has a counter: a line is in them as the text has it.
abbrev pub have_no_counter : List BlockCopy → Bool
have_no_counter cs = list_all (λ c. is_none c.counter) cs

-- A line itself, or the line of the labels before the counter of a FOR.
abbrev pub reached_part : (is_earlier : Bool) → RawLine → RawLine
reached_part true raw = bare_line raw.number (earlier_of raw.labels)
reached_part false raw = raw
