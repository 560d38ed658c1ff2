use Rattle.std.proofs.Common.{sym, ◌∙◌, ap, subst, arith, length}
use Rattle.rc_expand.specs.Results.{Returns}
use Rattle.rc_expand.specs.Read.Lines.{bare_line}
use Rattle.rc_expand.specs.Unroll.{with_line}
use Rattle.rc_expand.specs.Unroll.Copies.{line_in}
use Rattle.rc_expand.specs.Unroll.Openings.{earlier_of}
use Rattle.rc_expand.specs.Unroll.Reached.{copies_in}
use Rattle.rc_expand.proofs.Unrolling.Reaching.{number_in, some_earlier}
use Rattle.rc_expand.proofs.unroll.append_earlier.Goals as goal

pub returns : goal.returns
returns c =
    let s = c.args.context.now.source.now in
    let f = c.args.raw.now in
    let cs = copies_in c.args.copies.now in
    let u = c.args.out.now in
    let same = ap (λ n. with_line (bare_line n (earlier_of (line_in s cs f).labels)) u) (number_in s cs f)
    ∙ (ap (λ h. with_line (bare_line f.number (earlier_of h.labels)) u) (sym c.requires)
    ∙ sym (some_earlier f.number c.args.made.now.labels u (omega (arith, ap length c.as_slice.ensures)))) in
    subst (λ r. Returns (λ i. c.append_reached.new.out) c.append_reached.result r) same c.append_reached.ensures
