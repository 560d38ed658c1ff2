use Rattle.std.proofs.Common.{◌≡◌, ◌-◌, ◌<◌, ◌≤◌, length, drop}
use Rattle.rc_expand.specs.Unroll.Numberings.{seen_numbering}
use Rattle.rc_expand.specs.Unroll.Copies.{copied_tokens, copied_from}
use Rattle.rc_expand.proofs.unroll.copy.Numbering.copy_name.Given as goal

-- copying from `at` is copying from `after`, with the name and what is joined to it so far
abbrev pub invariant-loop-after : goal.invariant-loop-after
invariant-loop-after l =
    (copied_tokens (seen_numbering l.self) (drop l.at l.tokens) ≡ copied_from (seen_numbering l.self) l.made l.name (drop l.after l.tokens))
    × (l.at < l.after) × (l.after ≤ length l.tokens)

abbrev pub decreases-loop-after : goal.decreases-loop-after
decreases-loop-after l = length l.tokens - l.after
