use Rattle.std.proofs.Common.{◌∙◌, sym}
use Rattle.std.proofs.lemmas.Slice.Eq.{slice_eq-Decides}
use Rattle.std.proofs.lemmas.Bool.Decides.{Decides-eqb}
use Rattle.command_words.proofs.command_word.is_named.Goals as goal

pub returns : goal.returns
returns c = λ is. sym c.command_named.ensures ∙ (slice_eq-Decides Decides-eqb _ _ _ c.eq.ensures).0 is ∙ c.command_word.ensures
