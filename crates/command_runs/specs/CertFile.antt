-- When a tuning may overwrite CERT: how its text has to begin, and that no other word names it.
use Rattle.std.specs.Prelude.{◌≡◌, ◌||◌, ℕ, Bool, List, take, codes}
use Rattle.std.specs.List.{list_any}
use Rattle.std.specs.Str.{bytes_eq}
use Rattle.command_words.specs.declared.command_line.TuneWords.{TuneWords}

-- A text begins as a certificate does.
abbrev pub BeginsAsCert : List ℕ → Type 0
BeginsAsCert text = take 7 text ≡ codes "cwcert,"

-- CERT is also given as the template, the schedule or an opponent.
abbrev pub names_twice : TuneWords → Bool
names_twice words =
    bytes_eq words.cert.now words.template.now || (bytes_eq words.cert.now words.schedule.now
    || list_any (λ name. bytes_eq name.now words.cert.now) words.opponents.items)
