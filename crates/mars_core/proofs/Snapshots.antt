-- A snapshot of a fight is an earlier state of it.
use Rattle.std.proofs.Common.{◌≡◌, ℕ, ◌*◌, ◌<◌, ◌≤◌, ◌⊎◌, List, length, arith, sym, ◌∙◌, ap, subst, inl, inr}
use Rattle.std.proofs.lemmas.List.{ext_get_or}
use Rattle.rc_instr.specs.Instruction.{empty_cell}
use Rattle.rc_instr.specs.declared.instruction.Instruction.{Instruction}
use Rattle.mars_core.specs.Core.{cell_at}
use Rattle.mars_core.specs.Queue.{Queue}
use Rattle.mars_core.specs.State.{play_of, seen_from}
use Rattle.mars_core.specs.Fight.{ComesBack}
use Rattle.mars_core.specs.Arena.{SnapshotView, snapshot_view, IsBack}
use Rattle.mars_core.specs.declared.side.Side.{Side}
use Rattle.mars_core.proofs.Returns.{comes_back}
use Rattle.mars_core.proofs.Stretches.{CyclesMade}

-- if one was taken, in a fight that has gone on for c cycles: the state after its cycles, in m cells
pub record IsEarlier (m : ℕ) (core : List Instruction) (mine theirs : Queue) (c : ℕ) (s : SnapshotView) : Type 0 where
  pub state : 0 < s.cycles → (first : Side) →
      seen_from first s.core s.mine s.theirs ≡ play_of mine.capacity (seen_from first core mine.items theirs.items) first (2 * s.cycles)
  pub before : s.cycles ≤ c
  pub size : length s.core ≡ m

-- none was taken
pub none_earlier : (m : ℕ) (core : List Instruction) (mine theirs : Queue) (s : SnapshotView) → s.cycles ≡ 0 → length s.core ≡ m → IsEarlier m core mine theirs 0 s
none_earlier m core mine theirs s e size = record { state = λ l first. absurd (omega arith); before = omega arith; size = size }

-- it stays, or the state is taken now
pub still_earlier : (m : ℕ) (core core' : List Instruction) (mine theirs mine' theirs' : Queue) (d c : ℕ) (old kept new : SnapshotView) →
    IsEarlier m core mine theirs d old → d ≤ c → CyclesMade m core mine theirs c core' mine' theirs' → kept ≡ old →
    (new ≡ kept) ⊎ (new ≡ snapshot_view core' mine'.items theirs'.items c) → IsEarlier m core mine theirs c new
still_earlier m core core' mine theirs mine' theirs' d c old kept new h le made same cases =
    elim cases [
      | inl e ↦ subst (λ (s : SnapshotView). IsEarlier m core mine theirs c s) (sym (e ∙ same)) (record { state = h.state; before = omega (arith, h.before); size = h.size })
      | inr e ↦ subst (λ (s : SnapshotView). IsEarlier m core mine theirs c s) (sym e)
          (record { state = λ l first. (made.going first).state; before = omega arith; size = made.core_holds.size })
    ]

-- a state that is the one taken has come back
pub is_back : (m : ℕ) (core core' : List Instruction) (mine theirs mine' theirs' : Queue) (d c p : ℕ) (kept : SnapshotView) →
    IsEarlier m core mine theirs d kept → CyclesMade m core mine theirs c core' mine' theirs' → d < c → IsBack kept core' mine'.items theirs'.items c p →
    (first : Side) → ComesBack mine.capacity (seen_from first core' mine'.items theirs'.items) first p
is_back m core core' mine theirs mine' theirs' d c p kept earlier made le back first =
    let earlier_is = earlier.state back.taken first in
    let now : seen_from first kept.core kept.mine kept.theirs ≡ seen_from first core' mine'.items theirs'.items =
    ap (λ (s : SnapshotView). seen_from first s.core s.mine s.theirs) back.state in
    comes_back mine.capacity _ first kept.cycles p (2 * c) core' mine'.items theirs'.items (made.going first) (omega (arith, back.period_is, earlier.before))
    (omega (arith, back.period_is)) (sym now ∙ earlier_is)

-- two cores of one size with the same cells
pub same_cells : (xs ys : List Instruction) → length xs ≡ length ys → ((k : ℕ) → k < length xs → cell_at xs k ≡ cell_at ys k) → xs ≡ ys
unfolding cell_at
same_cells xs ys size each = ext_get_or empty_cell xs ys size each
