-- A fight that is played on from the state after whole cycles, a stretch at a time.
use Rattle.std.proofs.lemmas.Bool.{cases_lt}
use Rattle.std.proofs.Common.{◌≡◌, ℕ, zero, suc, ◌+◌, ◌-◌, ◌*◌, ◌<◌, ◌≤◌, List, false, arith, refl, sym, ◌∙◌, ap, subst, inl, inr}
use Rattle.rc_instr.specs.declared.instruction.Instruction.{Instruction}
use Rattle.mars_core.specs.Core.{IsCore, AreTasks}
use Rattle.mars_core.specs.Played.{CanPlay, Plays}
use Rattle.mars_core.specs.Queue.{Queue}
use Rattle.mars_core.specs.State.{State, turn_of, play_of, mover_of, other, seen_from}
use Rattle.mars_core.specs.Fight.{is_over, turns_of}
use Rattle.mars_core.specs.declared.side.Side.{Side}
use Rattle.mars_core.proofs.Going.{IsGoing, mover_even, goes_from_the_start}
use Rattle.mars_core.proofs.Least.{turns_are}
use Rattle.mars_core.proofs.Outcomes.{turns_least}

-- whole cycles more change nothing in who moves
mover_more : (first : Side) (c k : ℕ) → mover_of first (2 * c + k) ≡ mover_of first k
mover_more first c zero =
    let none : 2 * c + zero ≡ 2 * c = omega arith in
    ap (mover_of first) none ∙ mover_even first c
mover_more first c (suc k) =
    let more : 2 * c + suc k ≡ suc (2 * c + k) = omega arith in
    ap (mover_of first) more ∙ ap other (mover_more first c k)

-- k turns from the state after whole cycles are k turns more
pub play_more : (limit : ℕ) (start : State) (first : Side) (c k : ℕ) →
    play_of limit (play_of limit start first (2 * c)) first k ≡ play_of limit start first (2 * c + k)
play_more limit start first c zero =
    let none : 2 * c ≡ 2 * c + zero = omega arith in
    ap (play_of limit start first) none
play_more limit start first c (suc k) =
    let more : suc (2 * c + k) ≡ 2 * c + suc k = omega arith in
    ap (λ s. turn_of limit s (mover_of first k)) (play_more limit start first c k)
    ∙ ap (turn_of limit (play_of limit start first (2 * c + k))) (sym (mover_more first c k))
    ∙ ap (play_of limit start first) more

-- the same, where the state has a name, and so has the number of turns
pub play_on : (limit : ℕ) (start s : State) (first : Side) (c k j : ℕ) → s ≡ play_of limit start first (2 * c) → j ≡ 2 * c + k →
    play_of limit s first k ≡ play_of limit start first j
play_on limit start s first c k j e d =
    ap (λ x. play_of limit x first k) e ∙ play_more limit start first c k ∙ ap (play_of limit start first) (sym d)

-- a fight that has gone on for c cycles, and then for the turns of n more, has not been over
pub not_before : (limit : ℕ) (start s : State) (first : Side) (c n r : ℕ) → s ≡ play_of limit start first (2 * c) →
    ((j : ℕ) → j < 2 * c → is_over (play_of limit start first j) ≡ false) → r ≡ turns_of limit s first n →
    (j : ℕ) → j < 2 * c + r → is_over (play_of limit start first j) ≡ false
not_before limit start s first c n r e before t j l =
    elim (cases_lt j (2 * c)) [
      | inl p ↦ before j p
      | inr p ↦
          let d : j ≡ 2 * c + (j - 2 * c) = omega arith in
          let within : j - 2 * c < turns_of limit s first n = omega arith in
          ap is_over (sym (play_on limit start s first c (j - 2 * c) j e d)) ∙ (turns_least limit s first n).before (j - 2 * c) within
    ]

-- such a fight goes on after these turns
goes_on_for : (limit room : ℕ) (start : State) (first : Side) (c n r k : ℕ) (core core' : List Instruction) (mine mine' theirs theirs' : List ℕ) →
    room ≡ limit → IsGoing limit start first (2 * c) core mine theirs → k ≡ 2 * c + r →
    r ≡ turns_of room (seen_from first core mine theirs) first n →
    seen_from first core' mine' theirs' ≡ play_of room (seen_from first core mine theirs) first r → IsGoing limit start first k core' mine' theirs'
goes_on_for limit room start first c n r k core core' mine mine' theirs theirs' e h d t s =
    let s_is = s ∙ ap (λ m. play_of m (seen_from first core mine theirs) first r) e in
    let t_is = t ∙ ap (λ m. turns_of m (seen_from first core mine theirs) first n) e in
    record {
      state = s_is ∙ play_on limit start (seen_from first core mine theirs) first c r k h.state d;
      goes_on = λ j l. not_before limit start (seen_from first core mine theirs) first c n r h.state h.goes_on t_is j (omega arith);
    }

-- it takes these turns in all, if a side has lost then or all cycles are over
pub ends_after : (limit room : ℕ) (start : State) (first : Side) (cycles c n r : ℕ) (core : List Instruction) (mine theirs : List ℕ) →
    room ≡ limit → IsGoing limit start first (2 * c) core mine theirs → c + n ≤ cycles → (2 * c + r < 2 * cycles → r < 2 * n) →
    r ≡ turns_of room (seen_from first core mine theirs) first n → turns_of limit start first cycles ≡ 2 * c + r
ends_after limit room start first cycles c n r core mine theirs e h le last t =
    let s = seen_from first core mine theirs in
    let t_is = t ∙ ap (λ m. turns_of m s first n) e in
    let least = turns_least limit s first n in
    let within : r ≤ 2 * n = omega (arith, least.within, t_is) in
    turns_are limit start first cycles (2 * c + r) (omega arith)
    (not_before limit start s first c n r h.state h.goes_on t_is)
    (λ l.
    let less : r < 2 * n = last l in
    let here = least.here (omega (arith, t_is)) in
    ap is_over (sym (play_on limit start s first c r (2 * c + r) h.state refl)) ∙ ap (λ k. is_over (play_of limit s first k)) t_is ∙ here)

-- c whole cycles were made, which left a core of m cells, and queues with the room that they had
pub record CyclesMade (m : ℕ) (core : List Instruction) (mine theirs : Queue) (c : ℕ) (core' : List Instruction) (mine' theirs' : Queue) : Type 0 where
  pub going : (first : Side) → IsGoing mine.capacity (seen_from first core mine.items theirs.items) first (2 * c) core' mine'.items theirs'.items
  pub core_holds : IsCore m core'
  pub mine_below : AreTasks m mine'.items
  pub theirs_below : AreTasks m theirs'.items
  pub my_room : mine'.capacity ≡ mine.capacity
  pub their_room : theirs'.capacity ≡ mine.capacity

-- none yet
pub none_made : (m : ℕ) (core : List Instruction) (mine theirs : Queue) (cycles : ℕ) → CanPlay m core mine theirs cycles →
    CyclesMade m core mine theirs 0 core mine theirs
none_made m core mine theirs cycles p = record {
  going = λ first. goes_from_the_start _ first _ _ _;
  core_holds = p.core_holds;
  mine_below = p.mine_below;
  theirs_below = p.theirs_below;
  my_room = refl;
  their_room = p.same_room;
}

-- n more, in which no side has lost
pub more_made : (m : ℕ) (core core' core'' : List Instruction) (mine theirs mine' theirs' mine'' theirs'' : Queue) (c n r : ℕ) →
    CyclesMade m core mine theirs c core' mine' theirs' → Plays m core' mine' theirs' n r core'' mine'' theirs'' → 2 * n ≤ r →
    CyclesMade m core mine theirs (c + n) core'' mine'' theirs''
more_made m core core' core'' mine theirs mine' theirs' mine'' theirs'' c n r h more l =
    let all : 2 * (c + n) ≡ 2 * c + r = omega (arith, more.within) in
    record {
      going = λ first. goes_on_for _ _ _ first c n r (2 * (c + n)) _ _ _ _ _ _ h.my_room (h.going first) all (more.turns_are first) (more.state_is first);
      core_holds = more.core_holds;
      mine_below = more.mine_below;
      theirs_below = more.theirs_below;
      my_room = more.my_room ∙ h.my_room;
      their_room = more.their_room ∙ h.their_room;
    }

-- the same core by another name
pub made_in : (m : ℕ) (core core' core'' : List Instruction) (mine theirs mine' theirs' : Queue) (c : ℕ) → core'' ≡ core' →
    CyclesMade m core mine theirs c core' mine' theirs' → CyclesMade m core mine theirs c core'' mine' theirs'
made_in m core core' core'' mine theirs mine' theirs' c e h = subst (λ (x : List Instruction). CyclesMade m core mine theirs c x mine' theirs') (sym e) h

-- the turns of n more are the last, if a side has lost then or all cycles are over
pub played_after : (m : ℕ) (core core' core'' : List Instruction) (mine theirs mine' theirs' mine'' theirs'' : Queue) (cycles c n r : ℕ) →
    CyclesMade m core mine theirs c core' mine' theirs' → Plays m core' mine' theirs' n r core'' mine'' theirs'' →
    theirs.capacity ≡ mine.capacity → c + n ≤ cycles → (2 * c + r < 2 * cycles → r < 2 * n) → Plays m core mine theirs cycles (2 * c + r) core'' mine'' theirs''
played_after m core core' core'' mine theirs mine' theirs' mine'' theirs'' cycles c n r h more same le last = record {
  turns_are = λ first. sym (ends_after _ _ _ first cycles c n r _ _ _ h.my_room (h.going first) le last (more.turns_are first));
  state_is = λ first. (goes_on_for _ _ _ first c n r (2 * c + r) _ _ _ _ _ _ h.my_room (h.going first) refl (more.turns_are first) (more.state_is first)).state;
  within = omega (arith, more.within);
  core_holds = more.core_holds;
  mine_below = more.mine_below;
  theirs_below = more.theirs_below;
  my_room = more.my_room ∙ h.my_room;
  their_room = more.their_room ∙ h.their_room ∙ sym same;
}
