use Rattle.std.proofs.Common.{◌≡◌, ◌≢◌, ◌∙◌, IfErr, inl, inr, map, string_bytes, ap, subst, refl}
use Rattle.command_runs.specs.declared.ending.Ending.TheVariants.{Misused}
use Rattle.command_words.specs.CommandLine.{AsksForFight, command_of, command_word}
use Rattle.command_runs.specs.Commands.{status_of}
use Rattle.command_runs.proofs.Endings.{done_at, refused_at, misused_at, failed_at, at_most, named_at, fight_success, duel_run, asm_run, settings_run, tune_run, check_run, help_run}
use Rattle.command_runs.proofs.program.watched_program.Goals as goal

pub returns-in-Ok-Fight : goal.returns-in-Ok-Fight
returns-in-Ok-Fight g c =
    let words = map string_bytes c.args.words.now in
    let named = named_at (λ r. command_of words ≡ command_word r) _ _ c.in-Ok-Fight.is c.request_of.ensures.named ∙ ap command_word c.in-Ok-Fight.field-0-is in
    record {
      done = λ asked. done_at _ _ c.status_of.ensures c.fight.ensures.ended.0.done;
      refused = λ asked e. let refused = refused_at _ _ c.status_of.ensures e in let (text, fault, is, why) = c.fight.ensures.refused refused in
          (text, fault, is, why, c.fight.ensures.ended.0.refused refused);
      understood = λ asked e. subst (λ r. IfErr r (λ x. x ≢ Misused)) (misused_at _ _ c.status_of.ensures e) c.fight.ensures.ended.1 refl;
      success = λ e. inr (fight_success words _ _ named (inl (done_at _ _ c.status_of.ensures c.fight.ensures.ended.0.done e)));
      misused = λ e. c.fight.ensures.ended.0.kept.misused (misused_at _ _ c.status_of.ensures e);
      unwritten = λ e. inl (c.fight.ensures.ended.0.refused (refused_at _ _ c.status_of.ensures e));
      failed = λ f. c.status_of.ensures ∙ ap status_of (c.fight.ensures.ended.0.kept.failed f);
      lost = λ e. c.fight.ensures.ended.0.kept.lost (failed_at _ _ c.status_of.ensures e);
      status = at_most _ _ c.status_of.ensures;
    }

-- words that ask for a fight give `Request::Fight`, so no other arm is reached by them
pub returns-in-Ok-Duel : goal.returns-in-Ok-Duel
returns-in-Ok-Duel g c =
    let words = map string_bytes c.args.words.now in
    let other : AsksForFight words → ⊥ = λ asked. let fight = c.request_of.ensures.fight asked in let not_fight = c.in-Ok-Duel.is in cc in
    let named = named_at (λ r. command_of words ≡ command_word r) _ _ c.in-Ok-Duel.is c.request_of.ensures.named ∙ ap command_word c.in-Ok-Duel.field-0-is in
    duel_run words _ _ _ _ c.in-Ok-Duel.words.position c.in-Ok-Duel.words.first _ _ c.status_of-in-Ok-Duel.ensures
    other c.duel.ensures.0 named

pub returns-in-Ok-Asm : goal.returns-in-Ok-Asm
returns-in-Ok-Asm g c =
    let words = map string_bytes c.args.words.now in
    let other : AsksForFight words → ⊥ = λ asked. let fight = c.request_of.ensures.fight asked in let not_fight = c.in-Ok-Asm.is in cc in
    let named = named_at (λ r. command_of words ≡ command_word r) _ _ c.in-Ok-Asm.is c.request_of.ensures.named ∙ ap command_word c.in-Ok-Asm.field-0-is in
    asm_run words _ _ _ _ _ _ _ c.status_of-in-Ok-Asm.ensures
    other c.asm.ensures.0 named

pub returns-in-Ok-Settings : goal.returns-in-Ok-Settings
returns-in-Ok-Settings g c =
    let words = map string_bytes c.args.words.now in
    let other : AsksForFight words → ⊥ = λ asked. let fight = c.request_of.ensures.fight asked in let not_fight = c.in-Ok-Settings.is in cc in
    let named = named_at (λ r. command_of words ≡ command_word r) _ _ c.in-Ok-Settings.is c.request_of.ensures.named ∙ ap command_word c.in-Ok-Settings.field-0-is in
    settings_run words _ _ _ _ _ c.status_of-in-Ok-Settings.ensures
    other c.settings.ensures.0 named

pub returns-in-Ok-Tune : goal.returns-in-Ok-Tune
returns-in-Ok-Tune g c =
    let words = map string_bytes c.args.words.now in
    let other : AsksForFight words → ⊥ = λ asked. let fight = c.request_of.ensures.fight asked in let not_fight = c.in-Ok-Tune.is in cc in
    let named = named_at (λ r. command_of words ≡ command_word r) _ _ c.in-Ok-Tune.is c.request_of.ensures.named ∙ ap command_word c.in-Ok-Tune.field-0-is in
    tune_run words _ _ _ _ _ _ _ _ _ c.status_of-in-Ok-Tune.ensures
    other c.tune.ensures.ended named

pub returns-in-Ok-Check : goal.returns-in-Ok-Check
returns-in-Ok-Check g c =
    let words = map string_bytes c.args.words.now in
    let other : AsksForFight words → ⊥ = λ asked. let fight = c.request_of.ensures.fight asked in let not_fight = c.in-Ok-Check.is in cc in
    let named = named_at (λ r. command_of words ≡ command_word r) _ _ c.in-Ok-Check.is c.request_of.ensures.named ∙ ap command_word c.in-Ok-Check.field-0-is in
    check_run words _ _ _ _ _ _ _ _ _ c.status_of-in-Ok-Check.ensures
    other c.check.ensures named

pub returns-in-Err : goal.returns-in-Err
returns-in-Err g c = help_run (map string_bytes c.args.words.now) _ _ _ _ _ c.status_of-in-Err.ensures
    (λ asked. let fight = c.request_of.ensures.fight asked in let other = c.in-Err.is in cc)
    c.show.ensures.ended
