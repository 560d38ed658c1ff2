-- The rules of hills, by their names.
use Rattle.std.specs.Prelude.{if◌then◌else◌, ℕ, List, codes}
use Rattle.std.specs.Str.{bytes_eq}
use Rattle.rc_instr.specs.declared.rules.RawRules.{RawRules}

abbrev pub raw_rules : (core cycles tasks length distance : ℕ) → RawRules
raw_rules core cycles tasks length distance = record { core = core; cycles = cycles; tasks = tasks; length = length; distance = distance }

-- Any other name has the rules of 94nop, which are the standard ones: `clap` refuses names that are
-- not of a hill.
abbrev pub hill_rules : List ℕ → RawRules
hill_rules name =
    if bytes_eq name (codes "tiny") then raw_rules 800 8000 800 20 20
    else (if bytes_eq name (codes "nano") then raw_rules 80 800 80 5 5
    else (if bytes_eq name (codes "lp") then raw_rules 8000 80000 8 200 200 else raw_rules 8000 80000 8000 100 100))
