use Rattle.std.proofs.Common.{rules, FitsSigned, w64, [], sym, ◌∙◌, ap}
use Rattle.std.specs.Prelude.{Ok, Err}
use Rattle.std.proofs.lemmas.Int.{to_z-of_z}
use Rattle.std.proofs.lemmas.Result.{err_from_is_err_and}
use Rattle.rc_expand.specs.Replace.{replaced_tokens}
use Rattle.rc_expand.specs.Contexts.{seen_context}
use Rattle.rc_expand.specs.Unroll.Openings.{limited_count}
use Rattle.rc_expand.proofs.Unrolling.CountSteps.{count_valued, count_valueless, count_refused}
use Rattle.rc_expand.proofs.unroll.opening.count_of.Goals as goal

pub returns-in_err-tokens : goal.returns-in_err-tokens
returns-in_err-tokens c =
    let s = seen_context c.args.context.now in
    let n = c.args.raw.now.number in
    let same = ap (replaced_tokens s n []) (sym c.as_slice.ensures) ∙ ap (λ f. replaced_tokens s n f c.as_slice.result.now) (sym c.new-front.ensures.items) in
    let p = err_from_is_err_and c.from_residual.result c.from_residual.ensures.1 in
    rw (p.1, p.2) (λ h. count_refused s n c.args.raw.now.rest c.in_err-tokens.field-0.0 (same ∙ c.in_err-tokens.ensures h))

pub returns-in-Some : goal.returns-in-Some
returns-in-Some c =
    let s = seen_context c.args.context.now in
    let n = c.args.raw.now.number in
    let same = ap (replaced_tokens s n []) (sym c.as_slice.ensures) ∙ ap (λ f. replaced_tokens s n f c.as_slice.result.now) (sym c.new-front.ensures.items) in
    let fed = same ∙ (c.in_ok-tokens.ensures ∙ ap Ok (sym c.as_slice-2.ensures)) in
    let f : FitsSigned w64 c.in-Ok.value = search rules in
    count_valued s n c.args.raw.now.rest c.as_slice-2.result.now c.in-Ok.value _ fed (sym c.in-Ok.is ∙ c.eval.ensures) (c.in-Some.ensures ∙ ap limited_count (to_z-of_z w64 c.in-Ok.value f))

pub returns-in-Ok : goal.returns-in-Ok
returns-in-Ok c =
    let s = seen_context c.args.context.now in
    let n = c.args.raw.now.number in
    let same = ap (replaced_tokens s n []) (sym c.as_slice.ensures) ∙ ap (λ f. replaced_tokens s n f c.as_slice.result.now) (sym c.new-front.ensures.items) in
    let fed = same ∙ (c.in_ok-tokens.ensures ∙ ap Ok (sym c.as_slice-2.ensures)) in
    let f : FitsSigned w64 c.in-Ok.value = search rules in
    λ h. count_valued s n c.args.raw.now.rest c.as_slice-2.result.now c.in-Ok.value _ fed (sym c.in-Ok.is ∙ c.eval.ensures) (c.in-None.ensures ∙ ap limited_count (to_z-of_z w64 c.in-Ok.value f)) ∙ ap Err (sym c.at_line.ensures)

pub returns : goal.returns
returns c =
    let s = seen_context c.args.context.now in
    let n = c.args.raw.now.number in
    let same = ap (replaced_tokens s n []) (sym c.as_slice.ensures) ∙ ap (λ f. replaced_tokens s n f c.as_slice.result.now) (sym c.new-front.ensures.items) in
    let fed = same ∙ (c.in_ok-tokens.ensures ∙ ap Ok (sym c.as_slice-2.ensures)) in
    λ h. count_valueless s n c.args.raw.now.rest c.as_slice-2.result.now c.in-Err.field-0 fed (sym c.in-Err.is ∙ c.eval.ensures) ∙ ap Err (sym c.at_line-in-Err.ensures)
