use Rattle.std.proofs.Common.{◌∙◌, ap}
use Rattle.std.specs.Prelude.{option_map}
use Rattle.rc_text.specs.Symbols.{name_of}
use Rattle.rc_asm.specs.declared.labels.LineAddress.{LineAddress}
use Rattle.rc_asm.proofs.LabelSteps.{address_found}
use Rattle.rc_asm.proofs.labels.Labels.address_of.Goals as goal

pub returns : goal.returns
returns c = address_found (λ a. a.number) c.self.inside.table _ c.args.self.now (name_of c.args.source.now c.args.token.now) c.in_ok-address.ensures c.self.view_is

pub returns-in_err-address : goal.returns-in_err-address
returns-in_err-address c = ap (option_map (λ (a : LineAddress). a.number)) c.from_residual.ensures ∙ address_found (λ a. a.number) c.self.inside.table _ c.args.self.now (name_of c.args.source.now c.args.token.now) c.in_err-address.ensures c.self.view_is
