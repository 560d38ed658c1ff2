-- What runs are given, as the definitions see it: texts are lists of bytes.
use Rattle.std.specs.Prelude.{ℕ, List, map}
use Rattle.std.specs.Global.{Vec}
use Rattle.rc_instr.specs.Rules.{RulesView, rules_view}
use Rattle.tune_runs.specs.FightText.{FightWords}
use Rattle.tune_runs.specs.DuelRun.{Duel, duel}
use Rattle.tune_runs.specs.TuneRun.{Texts, part_texts, texts}
use Rattle.tune_runs.specs.declared.fight_text.FightText.{FightText}
use Rattle.rc_instr.specs.declared.rules.RawRules.{RawRules}
use Rattle.tune_runs.specs.declared.given.DuelTexts.{DuelTexts}
use Rattle.tune_runs.specs.declared.given.TuneTexts.{TuneTexts}

-- Raw rules in the form of rules. Their numbers are not checked.
abbrev pub rules_given : RawRules → RulesView
rules_given raw = rules_view raw.core raw.cycles raw.tasks raw.length raw.distance

-- What a fight text says. Its load files are slices of it.
abbrev pub words_said : FightText → FightWords
words_said t = record { rules = rules_given t.rules; position = t.position; first = t.first; candidate = t.candidate.now; opponent = t.opponent.now }

-- What `duel_run` is given.
abbrev pub duel_given : DuelTexts → Duel
duel_given t = duel t.candidate.now t.opponent.now t.rules.now t.position t.first

-- What a tuning or a check is given.
abbrev pub texts_given : TuneTexts → Texts
texts_given t = part_texts t.template.now (map (λ o. o.items) t.opponents.now) t.schedule.now t.rules.now t.part

-- What a tuning or a check of all settings is given.
abbrev pub all_given : (template : List ℕ) → List (Vec ℕ) → (schedule : List ℕ) → RulesView → Texts
all_given template opponents schedule rules = texts template (map (λ o. o.items) opponents) schedule rules
