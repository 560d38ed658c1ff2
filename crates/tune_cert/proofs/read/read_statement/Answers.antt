use Rattle.std.proofs.Common.{◌∙◌, ap, sym, List, drop}
use Rattle.std.proofs.lemmas.Result.{err_from_is_err_and}
use Rattle.rc_instr.specs.Results.{with_fault}
use Rattle.tables.specs.Records.{Fields}
use Rattle.tune_cert.specs.Spelling.{count_of, first_as}
use Rattle.tune_cert.specs.declared.fault.ReadFault.TheVariants.{Malformed}
use Rattle.tune_cert.proofs.Chains.{count_wrong, answer_wrong, rows_wrong, all_read}
use Rattle.tune_cert.proofs.read.read_statement.Goals as goal

pub returns-in_err-version : goal.returns-in_err-version
returns-in_err-version c =
    let p = err_from_is_err_and c.from_residual.result c.from_residual.ensures.1 in
    let at = sym c.new-records.ensures in
    rw (p.1, p.2) (λ n. count_wrong c.args.floors _ _ (ap (λ (l : List Fields). with_fault Malformed (first_as count_of 0 l)) at ∙ c.in_err-version.ensures.count n))

pub returns-in_err-answer : goal.returns-in_err-answer
returns-in_err-answer c =
    let p = err_from_is_err_and c.from_residual-in_err-answer.result c.from_residual-in_err-answer.ensures.1 in
    let at = sym c.new-records.ensures in
    let count = ap (λ (l : List Fields). with_fault Malformed (first_as count_of 0 l)) at ∙ c.in_ok-version.ensures.count in
    rw (p.1, p.2) (λ n. answer_wrong c.args.floors _ _ _ _ count (ap (drop 1) at ∙ c.in_ok-version.ensures.rest) (c.in_err-answer.ensures.answer n))

pub returns-in_err-rows : goal.returns-in_err-rows
returns-in_err-rows c =
    let p = err_from_is_err_and c.from_residual-in_err-rows.result c.from_residual-in_err-rows.ensures.1 in
    let at = sym c.new-records.ensures in
    let count = ap (λ (l : List Fields). with_fault Malformed (first_as count_of 0 l)) at ∙ c.in_ok-version.ensures.count in
    rw (p.1, p.2) (λ n. rows_wrong c.args.floors _ _ _ _ _ _ count (ap (drop 1) at ∙ c.in_ok-version.ensures.rest) c.in_ok-answer.ensures.answer c.in_ok-answer.ensures.rest (c.in_err-rows.ensures n))

pub returns : goal.returns
returns c =
    let at = sym c.new-records.ensures in
    let count = ap (λ (l : List Fields). with_fault Malformed (first_as count_of 0 l)) at ∙ c.in_ok-version.ensures.count in
    rw c.from_vec.ensures (all_read c.args.floors _ _ _ _ _ _ count (ap (drop 1) at ∙ c.in_ok-version.ensures.rest) c.in_ok-answer.ensures.answer c.in_ok-answer.ensures.rest c.in_ok-rows.ensures)
