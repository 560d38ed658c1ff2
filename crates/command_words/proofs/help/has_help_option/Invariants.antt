use Rattle.std.proofs.Common.{◌≡◌, false, map, string_bytes, length}
use Rattle.command_words.specs.Help.{has_help_option}
use Rattle.command_words.proofs.help.has_help_option.Given as goal

abbrev pub invariant-loop-word : goal.invariant-loop-word
invariant-loop-word l =
    has_help_option l.version l.command false (map string_bytes l.words) ≡ has_help_option l.version l.command l.is_value (map string_bytes l.rest)

abbrev pub decreases-loop-word : goal.decreases-loop-word
decreases-loop-word l = length l.rest
