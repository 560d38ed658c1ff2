use Rattle.std.proofs.Common.{◌≡◌, arith, take, drop, length, ◌-◌, length-drop}
use Rattle.std.proofs.lemmas.List.{take_all}
use Rattle.std.proofs.lemmas.Grind.{common_steps}
use Rattle.rc_instr.proofs.Pieces.{appends_more}
use Rattle.rc_instr.proofs.outlet.Outlet.write_all.Goals as goal

pub loop-sent-preserved : goal.loop-sent-preserved
loop-sent-preserved g c =
    let whole : take (length c.args.text.now - c.loop-sent.sent) (drop c.loop-sent.sent c.args.text.now) ≡ drop c.loop-sent.sent c.args.text.now =
    take_all _ (drop c.loop-sent.sent c.args.text.now) (omega (arith, length-drop c.loop-sent.sent c.args.text.now)) in
    record {
      works = grind (arith, common_steps, c.in_ok-count.ensures.failed);
      flushed = λ some. c.in_ok-count.ensures.flushed c.loop-sent.invariant.works;
      within = omega (arith, c.in_ok-count.ensures.count);
      written = appends_more _ _ _ c.args.text.now c.loop-sent.sent c.in_ok-count.count c.loop-sent.invariant.written (rw whole at c.in_ok-count.ensures.bytes);
    }
