-- What the request of a command has, by the words that `clap` found for its options and files. The
-- setting of `asm` is left out.
use Rattle.std.specs.Prelude.{◌≡◌, ℕ, List, [], Option, Some, None, map, option_map, unwrap_or, if◌then◌else◌, codes, true, false}
use Rattle.std.specs.Option.{option_map_or}
use Rattle.std.specs.Str.{bytes_eq}
use Rattle.clap.specs.declared.parser.matches.Found.{Found}
use Rattle.clap.specs.Matches.{first_value, matched_of, one_text, raw_values}
use Rattle.mars_core.specs.declared.side.Side.{Side}
use Rattle.mars_core.specs.declared.side.Side.TheVariants.{Candidate, Opponent}
use Rattle.tune_problem.specs.Parts.{part, whole}
use Rattle.tune_problem.specs.declared.part.Part.{Part}
use Rattle.tune_cert.specs.declared.demand.Demand.{Demand}
use Rattle.tune_cert.specs.declared.share.Share.{Share}
use Rattle.command_words.specs.declared.method_options.MethodWords.{MethodWords}
use Rattle.command_words.specs.declared.command_line.TuneWords.{TuneWords}
use Rattle.command_words.specs.declared.command_line.Request.{Request}
use Rattle.command_words.specs.declared.command_line.Request.TheVariants.{Fight, Duel, Asm, Settings, Tune, Check}
use Rattle.command_words.specs.CommandLine.{kept_asked}
use Rattle.command_words.specs.Options.{SaysNumber, SaysPart, IsGiven, IsMeant, AreRules}

-- The numbers of `--keep` and `--floor`. A `--keep` out of its range counts as not given.
pub record IsDemand (found : Found) (demand : Demand) : Type 0 where
  pub keep : (given : Option ℕ) × IsGiven SaysNumber (first_value found (codes "keep")) given × (demand.keep ≡ kept_asked given)
  pub floor : IsGiven SaysNumber (first_value found (codes "floor")) demand.floor

-- `--all`, for which `clap` finds the word `true` or `false`, and the number of `--cache`.
pub record IsMethod (found : Found) (words : MethodWords) : Type 0 where
  pub all : one_text found (codes "all") ≡ Some (codes "true") → words.all ≡ true
  pub dropping : one_text found (codes "all") ≡ Some (codes "false") → words.all ≡ false
  pub cache : IsGiven SaysNumber (first_value found (codes "cache")) words.cache

-- The part of `--part`, or all settings.
abbrev pub IsPart : Found → Part → Type 0
IsPart found p = IsMeant SaysPart whole (first_value found (codes "part")) p

-- The share of `--share`, or none.
abbrev pub IsShare : Found → Option Share → Type 0
IsShare found share = IsGiven SaysPart (first_value found (codes "share")) (option_map (λ s. part s.number s.shares) share)

-- The side of `--first`: the opponent for `o`, else the candidate.
abbrev pub side_meant : Option (List ℕ) → Side
side_meant None = Candidate
side_meant (Some word) = if bytes_eq word (codes "o") then Opponent else Candidate

-- The first word for a file, or the empty one.
abbrev pub file_found : Found → List ℕ → List ℕ
file_found found file = unwrap_or (first_value found file) []

-- The names of a tuning's files, the opponents in the order of the words.
pub record AreFiles (found : Found) (words : TuneWords) : Type 0 where
  pub template : words.template.now ≡ file_found found (codes "TEMPLATE")
  pub schedule : words.schedule.now ≡ file_found found (codes "SCHEDULE")
  pub cert : words.cert.now ≡ file_found found (codes "CERT")
  pub opponents : map (λ file. file.now) words.opponents.items ≡ option_map_or raw_values (matched_of found (codes "OPPONENT")) []

-- A request has what its options and the names of its files say. The fight on standard input has no
-- files.
abbrev pub IsRequest : Found → Request → Type 0
IsRequest found Fight = first_value found (codes "CANDIDATE") ≡ None
IsRequest found (Duel words) =
    AreRules found words.rules × (IsGiven SaysNumber (first_value found (codes "position")) words.position
    × ((first_value found (codes "CANDIDATE") ≡ Some words.candidate.now)
    × ((first_value found (codes "OPPONENT") ≡ Some words.opponent.now)
    × (words.first ≡ side_meant (first_value found (codes "first"))))))
IsRequest found (Asm words) = AreRules found words.rules × (words.file.now ≡ file_found found (codes "FILE"))
IsRequest found (Settings file) = file.now ≡ file_found found (codes "TEMPLATE")
IsRequest found (Tune words method demand) =
    AreRules found words.rules × (IsPart found words.part × (AreFiles found words × (IsMethod found method × IsDemand found demand)))
IsRequest found (Check words share demand) =
    AreRules found words.rules × (IsPart found words.part × (AreFiles found words × (IsShare found share × IsDemand found demand)))
