use Rattle.std.proofs.Common.{◌≡◌, sym, ◌∙◌, ap, subst}
use Rattle.std.specs.Prelude.{not}
use Rattle.rc_expand.specs.declared.read.raw_line.RawLine.{RawLine}
use Rattle.rc_expand.specs.Results.{Returns}
use Rattle.rc_expand.specs.Unroll.{word_check, line_check}
use Rattle.rc_expand.specs.Unroll.Copies.{is_in_block, line_in}
use Rattle.rc_expand.specs.Unroll.Reached.{copies_in}
use Rattle.rc_expand.proofs.Unrolling.Reaching.{checked_in, any_seen, uncounted}
use Rattle.rc_expand.proofs.Unrolling.Short.{short_in}
use Rattle.rc_expand.proofs.unroll.check_copied_line.Goals as goal
use Rattle.rc_expand.proofs.unroll.check_copied_line.Goals.{then-have_no_counter-via-then-have_no_counter, then-have_no_counter-via-else-have_no_counter+then-is_short_line}

pub returns-then-have_no_counter : goal.returns-then-have_no_counter
returns-then-have_no_counter c =
    let s = c.args.context.now.source.now in
    let h = c.args.raw.now in
    let cs = c.args.copies.now in
    let same : (line_in s (copies_in cs) h).spoiled ≡ h.spoiled =
    elim c.then-have_no_counter.branch [
      | then-have_no_counter-via-then-have_no_counter w ↦ ap (λ (x : RawLine). x.spoiled) (uncounted s cs h (sym w.if-have_no_counter.ensures))
      | then-have_no_counter-via-else-have_no_counter+then-is_short_line w ↦ short_in s (copies_in cs) h (sym w.if-is_short_line.ensures)
    ]
    in
    subst (λ r. Returns (λ u. u) c.check_word.result r)
    (ap (λ b. word_check h.number h.word b h.spoiled) (ap not c.is_empty-in_block.ensures ∙ any_seen cs) ∙ checked_in s (copies_in cs) (is_in_block (copies_in cs)) h same) c.check_word.ensures

pub returns : goal.returns
returns c =
    let m = c.in_ok-made.made in
    let cs = c.args.copies.now in
    subst (λ r. Returns (λ u. u) c.check_word-2.result r)
    (ap (λ b. line_check b m) (ap not c.is_empty-in_block.ensures ∙ any_seen cs) ∙ ap (line_check (is_in_block (copies_in cs))) c.in_ok-made.ensures) c.check_word-2.ensures
