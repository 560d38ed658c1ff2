use Rattle.std.proofs.Common.{◌≡◌, drop}
use Rattle.rc_expand.specs.Contexts.{seen_context}
use Rattle.rc_expand.specs.Replace.Lines.{lines_replaced, nothing_replaced}
use Rattle.rc_expand.proofs.replace.replace_lines.Given as goal

-- the lines that are left make the whole
abbrev pub invariant-loop-i : goal.invariant-loop-i
invariant-loop-i l =
    lines_replaced (seen_context l.context) l.reached nothing_replaced
    ≡ lines_replaced (seen_context l.context) (drop l.i l.reached) l.out
