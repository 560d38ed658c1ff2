use Rattle.std.proofs.Common.{◌≡◌, arith, [], ◌∷◌, map, IsTrue, string_bytes, ap, sym, subst, ◌∙◌}
use Rattle.std.proofs.lemmas.Slice.Eq.{slice_eq-Decides}
use Rattle.std.proofs.lemmas.Bool.Decides.{Decides-eqb}
use Rattle.command_words.specs.CommandLine.{AsksForFight}
use Rattle.command_words.proofs.CommandWords.{one_item}
use Rattle.command_words.proofs.command_word.asks_for_fight.Goals as goal

pub returns-in-len1 : goal.returns-in-len1
returns-in-len1 c =
    let only = one_item c.args.words.now c.word-item.result (omega (arith, c.in-len1.len_at_least)) c.in-len1.len_below c.word-item.is in
    let texts : map string_bytes c.args.words.now ≡ c.as_str.result.now ∷ [] =
    ap (map string_bytes) only ∙ ap (λ text. text ∷ []) (sym c.as_str.ensures.value) in
    subst (λ words. (IsTrue c.eq.result → AsksForFight words) × (AsksForFight words → IsTrue c.eq.result)) (sym texts)
    (slice_eq-Decides Decides-eqb _ _ _ c.eq.ensures)
