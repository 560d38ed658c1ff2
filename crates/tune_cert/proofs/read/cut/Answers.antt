use Rattle.std.proofs.Common.{◌==◌, ℕ, ◌+◌, length, take, ◌∷◌, List, ap, ◌∙◌, sym, arith}
use Rattle.std.specs.List.{slice_split}
use Rattle.std.proofs.lemmas.Slice.{between_to_end}
use Rattle.tune_cert.proofs.Cuts.{cut_found, cut_none}
use Rattle.tune_cert.proofs.read.cut.Goals as goal

pub returns-in-None-clause-parts : goal.returns-in-None-clause-parts
returns-in-None-clause-parts c = cut_none (λ (b : ℕ). b == c.args.byte) c.args.bytes.now (sym c.index_of.ensures ∙ c.in-None.is)

pub returns-in-Some-clause-parts : goal.returns-in-Some-clause-parts
returns-in-Some-clause-parts c =
    let bytes = c.args.bytes.now in
    let at = c.in-Some.at in
    let found = cut_found (λ (b : ℕ). b == c.args.byte) bytes at (sym c.index_of.ensures ∙ c.in-Some.is) in
    found.1 ∙ ap (λ (rest : List ℕ). take at bytes ∷ slice_split (λ (b : ℕ). b == c.args.byte) rest) (sym (between_to_end bytes (at + 1) (length bytes) (omega arith)))
