use Rattle.std.proofs.Common.{◌≡◌, ◌==◌, ℕ, suc, length}
use Rattle.std.specs.List.{slice_split}
use Rattle.std.specs.Option.{option_map_or}
use Rattle.tune_cert.specs.Spelling.{items_of}
use Rattle.tune_cert.proofs.Cuts.{with_read, others_of}
use Rattle.tune_cert.proofs.read.read_listing.Given as goal

-- the texts that are left give the rest of the fights
abbrev pub invariant-loop-rest : goal.invariant-loop-rest
invariant-loop-rest l = items_of (slice_split (λ (b : ℕ). b == 32) l.fn.bytes) ≡ with_read l.items.items (others_of l.rest)

abbrev pub decreases-loop-rest : goal.decreases-loop-rest
decreases-loop-rest l = option_map_or (λ list. suc (length list.now)) l.rest 0
