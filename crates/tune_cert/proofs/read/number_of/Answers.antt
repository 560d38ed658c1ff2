use Rattle.tune_cert.proofs.FieldTexts.{decimal_result}
use Rattle.tune_cert.proofs.read.number_of.Goals as goal

pub returns : goal.returns
returns c = decimal_result c.args.text.now c.decimal_of.result c.decimal_of.ensures.found c.decimal_of.ensures.only
