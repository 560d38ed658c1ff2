use Rattle.std.proofs.Common.{◌≡◌, ◌≤◌, length, arith, ap, subst}
use Rattle.std.specs.Prelude.{IfSome}
use Rattle.command_runs.proofs.ReadLimits.{whole_text}
use Rattle.command_runs.proofs.files.reading.read_text.Goals as goal

pub returns-clause-bytes : goal.returns-clause-bytes
returns-clause-bytes g c =
    let remaining = g.R.Read.remaining in
    let text = c.read_to_end.new.buf.items in
    let short : length text ≤ 1073741824 = grind (arith, c.read_to_end.new.buf.ok) in
    let read : IfSome (remaining c.take.result.inner.now) (λ xs. text ≡ xs) =
    whole_text (remaining c.take.result.inner.now) c.take.result.limit 1073741824 c.new-text.result.items text c.take.ensures.limit
    c.new-text.ensures.items c.in_ok-read_to_end.ensures.bytes short in
    subst (λ known. IfSome known (λ xs. text ≡ xs)) (ap (λ r. remaining r.now) c.take.ensures.inner) read
