use Rattle.std.proofs.Common.{◌∙◌, sym}
use Rattle.std.proofs.lemmas.Result.{err_from_is_err_and}
use Rattle.tune_cert.proofs.Chains.{cert_wrong, cert_made, returned}
use Rattle.tune_cert.proofs.read.read_cert.Goals as goal

pub returns-in_err-statement : goal.returns-in_err-statement
returns-in_err-statement c =
    let p = err_from_is_err_and c.from_residual.result c.from_residual.ensures.1 in
    rw (p.1, p.2) (λ n. cert_wrong _ _ (c.in_err-statement.ensures n))

pub returns : goal.returns
returns c = returned c.cert_by.result _ (cert_made _ c.in_ok-statement.statement c.in_ok-statement.ensures ∙ sym c.cert_by.ensures)
