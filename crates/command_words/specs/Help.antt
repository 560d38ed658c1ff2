-- Whether the words of a command line ask for help, or for the version.
use Rattle.std.specs.Prelude.{if◌then◌else◌, ℕ, ◌||◌, ◌&&◌, Bool, true, false, List, [], ◌∷◌, codes, IsTrue}
use Rattle.std.specs.Str.{bytes_eq}
use Rattle.command_words.specs.CommandLine.{is_command}

-- The first word before `--` that is a command, else the empty word.
abbrev pub command_in : List (List ℕ) → List ℕ
command_in [] = []
command_in (word ∷ words) = if bytes_eq word (codes "--") then [] else (if is_command word then word else command_in words)

-- The options of the rules, which all commands but `settings` have.
abbrev pub is_rule : List ℕ → Bool
is_rule option =
    bytes_eq option (codes "--hill") || (bytes_eq option (codes "--core") || (bytes_eq option (codes "--cycles")
    || (bytes_eq option (codes "--tasks") || (bytes_eq option (codes "--length") || bytes_eq option (codes "--distance")))))

-- The options whose value is the next word.
abbrev pub takes_value : (command option : List ℕ) → Bool
takes_value command option =
    if bytes_eq command (codes "fight") then
    is_rule option || (bytes_eq option (codes "--position") || bytes_eq option (codes "--first"))
    else (if bytes_eq command (codes "asm") then is_rule option || bytes_eq option (codes "--setting")
    else (if bytes_eq command (codes "tune") then
    is_rule option || (bytes_eq option (codes "--part") || (bytes_eq option (codes "--cache")
    || (bytes_eq option (codes "--keep") || bytes_eq option (codes "--floor"))))
    else (if bytes_eq command (codes "check") then
    is_rule option || (bytes_eq option (codes "--part") || (bytes_eq option (codes "--share")
    || (bytes_eq option (codes "--keep") || bytes_eq option (codes "--floor"))))
    else false)))

-- `--help` and `-h`, and with `version` the options that ask for the version too.
abbrev pub is_help_option : (version : Bool) → List ℕ → Bool
is_help_option version word =
    bytes_eq word (codes "--help") || (bytes_eq word (codes "-h")
    || (version && (bytes_eq word (codes "--version") || bytes_eq word (codes "-V"))))

-- A help option is before `--`, and not the value of an option of the command. `is_value` says
-- whether the first word is a value.
abbrev pub has_help_option : (version : Bool) (command : List ℕ) (is_value : Bool) → List (List ℕ) → Bool
has_help_option version command is_value [] = false
has_help_option version command true (word ∷ words) = has_help_option version command false words
has_help_option version command false (word ∷ words) =
    if bytes_eq word (codes "--") then false
    else (if is_help_option version word then true
    else has_help_option version command (takes_value command word) words)

abbrev pub begins_with_help : List (List ℕ) → Bool
begins_with_help [] = false
begins_with_help (word ∷ words) = bytes_eq word (codes "help")

-- The first word is `help`, or an option asks for help or for the version.
abbrev pub MentionsHelp : List (List ℕ) → Type 0
MentionsHelp words = IsTrue (begins_with_help words || has_help_option true (command_in words) false words)
