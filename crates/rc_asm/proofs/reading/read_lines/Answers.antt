use Rattle.std.proofs.Common.{[], sym, ◌∙◌, ap}
use Rattle.rc_instr.specs.Results.{and_then}
use Rattle.rc_asm.specs.Lines.{after_lines}
use Rattle.rc_asm.specs.Seen.{seen_names, seen_reading}
use Rattle.rc_asm.proofs.reading.read_lines.Goals as goal

pub loop-line-init : goal.loop-line-init
loop-line-init c =
    let s = c.args.source.now in
    let n = seen_names c.args.context.now in
    let lines = c.args.lines.now in
    sym (
    ap (λ code. after_lines s n lines (record { code = code; starts = c.none.result })) c.in_ok-with_capacity.ensures.items
    ∙ ap (λ starts. after_lines s n lines (record { code = []; starts = starts })) c.none.ensures)

pub loop-line-preserved : goal.loop-line-preserved
loop-line-preserved c =
    let s = c.args.source.now in
    let n = seen_names c.args.context.now in
    c.loop-line.invariant
    ∙ ap (λ ls. after_lines s n ls (seen_reading c.loop-line.reading)) c.in-Some.ensures.cases.0
    ∙ ap (and_then (after_lines s n c.in-Some.after.now)) c.in_ok-read_line.ensures
