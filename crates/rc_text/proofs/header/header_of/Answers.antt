use Rattle.std.proofs.Common.{arith, ◌≡◌, true, false, nat_eq, get_or}
use Rattle.std.proofs.lemmas.Bool.Decides.{nat_tests}
use Rattle.rc_text.proofs.HeaderSteps.{past_feed, past_byte}
use Rattle.rc_text.proofs.header.header_of.Goals as goal
use Rattle.rc_text.proofs.header.header_of.Goals.{then-here, else-here, then-begins+else-here-2, else-begins}

pub loop-i-preserved : goal.loop-i-preserved
loop-i-preserved c =
    elim c.if-begins.branch [
      | then-begins+else-here-2 w ↦
          let t : nat_eq (get_or c.args.text.now c.loop-i.i 0) 10 ≡ true = grind (arith, nat_tests) in
          let p = past_feed c.args.text.now c.loop-i.i c.loop-i.lines c.loop-i.begins c.loop-i.found c.is_header_line-here.result _ c.loop-i-test.true c.is_header_line-here.ensures c.loop-i.invariant.1 t w.if-here-2.false in
          elim c.if-here.branch [ then-here v ↦ absurd (cc) | else-here v ↦ rw (t, v.found-is, w.if-here-2.false, w.lines-is) (omega (arith, c.loop-i.invariant.0), p) ]
      | else-begins w ↦
          let t : nat_eq (get_or c.args.text.now c.loop-i.i 0) 10 ≡ false = grind (arith, nat_tests) in
          let p = past_byte c.args.text.now c.loop-i.i c.loop-i.lines c.loop-i.begins c.loop-i.found c.is_header_line-here.result _ c.loop-i-test.true c.is_header_line-here.ensures c.loop-i.invariant.1 t in
          elim c.if-here.branch [ then-here v ↦ rw (t, w.lines-is) (omega (arith, c.loop-i.invariant.0), rw (v.found-is, t) (rw v.if-here.true at p)) | else-here v ↦ rw (t, v.found-is, w.lines-is) (omega (arith, c.loop-i.invariant.0), p) ]
    ]
