use Rattle.std.proofs.Common.{◌≡◌, ◌-◌, length, take, drop, ap, sym, ◌∙◌, arith}
use Rattle.std.specs.Prelude.{Some, codes}
use Rattle.std.proofs.Math.Seq.{drop-cons}
use Rattle.std.proofs.lemmas.Slice.{between_to_end}
use Rattle.tune_runs.specs.FightLines.{after_word, parted}
use Rattle.tune_runs.proofs.Parting.{joined, ends_here}
use Rattle.tune_runs.proofs.fight_text.parted.Goals as goal

pub returns-in-Some : goal.returns-in-Some
returns-in-Some c =
    let bytes = c.args.bytes.now in
    let at = c.loop-at.at in
    let whole : take (length bytes - at) (drop at bytes) ≡ drop at bytes = between_to_end bytes at (length bytes) (omega arith) in
    let here : after_word (codes "opponent\n") (drop at bytes) ≡ Some c.in-Some.rest.now = ap (after_word (codes "opponent\n")) (sym whole) ∙ c.in-Some.ensures in
    c.loop-at.invariant
    ∙ ap (λ b. joined (take at bytes) (parted b (drop at bytes))) c.if-begins.true
    ∙ ends_here (take at bytes) (drop at bytes) c.in-Some.rest.now _ _ (drop-cons bytes at 0 c.loop-at-test.true) here
