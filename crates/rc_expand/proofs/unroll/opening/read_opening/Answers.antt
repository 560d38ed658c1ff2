use Rattle.std.proofs.Common.{◌∙◌, ap, sym}
use Rattle.std.specs.Prelude.{Err, option_map}
use Rattle.std.proofs.lemmas.Result.{err_from_is_err_and}
use Rattle.rc_instr.specs.Results.{and_then, mapped}
use Rattle.rc_expand.specs.Contexts.{seen_context}
use Rattle.rc_expand.specs.Unroll.Openings.{earlier_of, opening_with_counter, counter_name}
use Rattle.rc_expand.proofs.Unrolling.CountSteps.{opening_spoiled, opening_tested}
use Rattle.rc_expand.proofs.unroll.opening.read_opening.Goals as goal

pub returns-then-raw : goal.returns-then-raw
returns-then-raw c = λ h. opening_spoiled (seen_context c.args.context.now) c.args.raw.now c.if-raw.true ∙ ap Err (sym c.at_line.ensures)

pub returns-in_err-token : goal.returns-in_err-token
returns-in_err-token c =
    let k = seen_context c.args.context.now in
    let f = c.args.raw.now in
    let tested = opening_tested k f c.if-raw.false in
    let p = err_from_is_err_and c.from_residual.result c.from_residual.ensures.1 in
    rw (p.1, p.2) (λ h. tested ∙ ap (λ r. and_then (opening_with_counter k f) (and_then (counter_name k f.number) r)) (c.in_err-token.ensures.token h))

pub returns-in_err-counter : goal.returns-in_err-counter
returns-in_err-counter c =
    let k = seen_context c.args.context.now in
    let f = c.args.raw.now in
    let tested = opening_tested k f c.if-raw.false in
    let p = err_from_is_err_and c.from_residual-in_err-counter.result c.from_residual-in_err-counter.ensures.1 in
    rw (p.1, p.2) (λ h. tested
    ∙ (ap (λ r. and_then (opening_with_counter k f) (and_then (counter_name k f.number) r)) c.in_ok-token.ensures.token
    ∙ ap (and_then (opening_with_counter k f)) (c.in_err-counter.ensures h)))

pub returns-in_err-count : goal.returns-in_err-count
returns-in_err-count c =
    let k = seen_context c.args.context.now in
    let f = c.args.raw.now in
    let tested = opening_tested k f c.if-raw.false in
    let p = err_from_is_err_and c.from_residual-in_err-count.result c.from_residual-in_err-count.ensures.1 in
    rw (p.1, p.2) (λ h. tested
    ∙ (ap (λ r. and_then (opening_with_counter k f) (and_then (counter_name k f.number) r)) c.in_ok-token.ensures.token
    ∙ (ap (and_then (opening_with_counter k f)) c.in_ok-counter.ensures
    ∙ ap (mapped _) (c.in_err-count.ensures h))))

pub returns : goal.returns
returns c =
    let k = seen_context c.args.context.now in
    let f = c.args.raw.now in
    let tested = opening_tested k f c.if-raw.false in
    let name = option_map (λ b. b.now) c.in_ok-counter.counter in
    tested
    ∙ (ap (λ r. and_then (opening_with_counter k f) (and_then (counter_name k f.number) r)) c.in_ok-token.ensures.token
    ∙ (ap (and_then (opening_with_counter k f)) c.in_ok-counter.ensures
    ∙ ap (mapped (λ n. record { counter = name; earlier = earlier_of f.labels; count = n })) c.in_ok-count.ensures))
