-- A fight that goes on, turn by turn.
use Rattle.std.specs.Prelude.{Bool, ◌||◌, ◌==◌}
use Rattle.std.proofs.lemmas.Bool.{ne_eqb}
use Rattle.std.proofs.Common.{◌≡◌, ℕ, zero, suc, ◌+◌, ◌*◌, ◌<◌, ◌≤◌, List, length, true, false, arith, refl, sym, ◌∙◌, ap, subst, inl, inr}
use Rattle.rc_instr.specs.declared.instruction.Instruction.{Instruction}
use Rattle.mars_core.specs.State.{State, turn_of, play_of, mover_of, other, seen_from, core_after, tasks_after}
use Rattle.mars_core.specs.Fight.{is_over, turns_of}
use Rattle.mars_core.specs.declared.side.Side.{Side}
use Rattle.mars_core.specs.declared.side.Side.TheVariants.{Candidate, Opponent}
use Rattle.mars_core.proofs.Least.{split, turns_are}

-- k turns were made, after which this is the state, and the fight was not over before
pub record IsGoing (limit : ℕ) (start : State) (first : Side) (k : ℕ) (core : List Instruction) (mine theirs : List ℕ) : Type 0 where
  pub state : seen_from first core mine theirs ≡ play_of limit start first k
  pub goes_on : (j : ℕ) → j < k → is_over (play_of limit start first j) ≡ false

or_true : (b : Bool) → b || true ≡ true
or_true true = refl
or_true false = refl

neither : (m n : ℕ) → (m ≡ 0 → ⊥) → (n ≡ 0 → ⊥) → (m == 0) || (n == 0) ≡ false
neither m n p q = rw (ne_eqb m 0 p, ne_eqb n 0 q) refl

-- a turn of the side that moves first
turn_mine : (limit : ℕ) (first : Side) (core : List Instruction) (mine theirs : List ℕ) →
    turn_of limit (seen_from first core mine theirs) first ≡ seen_from first (core_after core mine) (tasks_after limit core mine) theirs
turn_mine limit Candidate core mine theirs = refl
turn_mine limit Opponent core mine theirs = refl

-- a turn of the other side
turn_theirs : (limit : ℕ) (first : Side) (core : List Instruction) (mine theirs : List ℕ) →
    turn_of limit (seen_from first core mine theirs) (other first) ≡ seen_from first (core_after core theirs) mine (tasks_after limit core theirs)
turn_theirs limit Candidate core mine theirs = refl
turn_theirs limit Opponent core mine theirs = refl

-- the other of the other
other_other : (s : Side) → other (other s) ≡ s
other_other Candidate = refl
other_other Opponent = refl

-- after whole cycles the first side moves
pub mover_even : (first : Side) (c : ℕ) → mover_of first (2 * c) ≡ first
mover_even first zero = refl
mover_even first (suc c) =
    let two : 2 * suc c ≡ suc (suc (2 * c)) = omega arith in
    ap (mover_of first) two ∙ other_other (mover_of first (2 * c)) ∙ mover_even first c

-- not over before k turns, nor after them
goes_on_more : (limit : ℕ) (start : State) (first : Side) (k : ℕ) → ((j : ℕ) → j < k → is_over (play_of limit start first j) ≡ false) →
    is_over (play_of limit start first k) ≡ false → (j : ℕ) → j < suc k → is_over (play_of limit start first j) ≡ false
goes_on_more limit start first k before now j l =
    elim (split (suc j) k (omega arith)) [
      | inl p ↦ before j (omega arith)
      | inr e ↦ let s : j ≡ k = omega arith in subst (λ (x : ℕ). is_over (play_of limit start first x) ≡ false) (sym s) now
    ]

-- the first side moves, after whole cycles
pub mine_moves : (limit : ℕ) (start : State) (first : Side) (c : ℕ) (core : List Instruction) (mine theirs : List ℕ) →
    IsGoing limit start first (2 * c) core mine theirs → is_over (seen_from first core mine theirs) ≡ false →
    IsGoing limit start first (2 * c + 1) (core_after core mine) (tasks_after limit core mine) theirs
mine_moves limit start first c core mine theirs h now =
    let more : 2 * c + 1 ≡ suc (2 * c) = omega arith in
    let here : is_over (play_of limit start first (2 * c)) ≡ false = ap is_over (sym h.state) ∙ now in
    let moved : seen_from first (core_after core mine) (tasks_after limit core mine) theirs ≡ play_of limit start first (suc (2 * c)) =
    sym (turn_mine limit first core mine theirs) ∙ ap (λ s. turn_of limit s first) h.state
    ∙ ap (turn_of limit (play_of limit start first (2 * c))) (sym (mover_even first c)) in
    record {
      state = moved ∙ ap (play_of limit start first) (sym more);
      goes_on = λ j l. goes_on_more limit start first (2 * c) h.goes_on here j (omega arith);
    }

-- the other side moves, and a cycle is whole
pub theirs_move : (limit : ℕ) (start : State) (first : Side) (c : ℕ) (core : List Instruction) (mine theirs : List ℕ) →
    IsGoing limit start first (2 * c + 1) core mine theirs → is_over (seen_from first core mine theirs) ≡ false →
    IsGoing limit start first (2 * (c + 1)) (core_after core theirs) mine (tasks_after limit core theirs)
theirs_move limit start first c core mine theirs h now =
    let odd : 2 * c + 1 ≡ suc (2 * c) = omega arith in
    let even : 2 * (c + 1) ≡ suc (suc (2 * c)) = omega arith in
    let state : seen_from first core mine theirs ≡ play_of limit start first (suc (2 * c)) = h.state ∙ ap (play_of limit start first) odd in
    let here : is_over (play_of limit start first (suc (2 * c))) ≡ false = ap is_over (sym state) ∙ now in
    let before : (j : ℕ) → j < suc (2 * c) → is_over (play_of limit start first j) ≡ false = λ j l. h.goes_on j (omega arith) in
    let moved : seen_from first (core_after core theirs) mine (tasks_after limit core theirs) ≡ play_of limit start first (suc (suc (2 * c))) =
    sym (turn_theirs limit first core mine theirs) ∙ ap (λ s. turn_of limit s (other first)) state
    ∙ ap (λ s. turn_of limit (play_of limit start first (suc (2 * c))) (other s)) (sym (mover_even first c)) in
    record {
      state = moved ∙ ap (play_of limit start first) (sym even);
      goes_on = λ j l. goes_on_more limit start first (suc (2 * c)) before here j (omega arith);
    }

-- a side without tasks, and none
pub over_mine : (first : Side) (core : List Instruction) (mine theirs : List ℕ) → length mine ≡ 0 → is_over (seen_from first core mine theirs) ≡ true
over_mine Candidate core mine theirs e = rw e refl
over_mine Opponent core mine theirs e = rw e (or_true (length theirs == 0))

pub over_theirs : (first : Side) (core : List Instruction) (mine theirs : List ℕ) → length theirs ≡ 0 → is_over (seen_from first core mine theirs) ≡ true
over_theirs Candidate core mine theirs e = rw e (or_true (length mine == 0))
over_theirs Opponent core mine theirs e = rw e refl

pub not_over : (first : Side) (core : List Instruction) (mine theirs : List ℕ) → (length mine ≡ 0 → ⊥) → (length theirs ≡ 0 → ⊥) →
    is_over (seen_from first core mine theirs) ≡ false
not_over Candidate core mine theirs m t = neither (length mine) (length theirs) m t
not_over Opponent core mine theirs m t = neither (length theirs) (length mine) t m

-- the same two, by what a turn is known to leave
pub mine_moved : (limit room : ℕ) (start : State) (first : Side) (c : ℕ) (core core' : List Instruction) (mine mine' theirs : List ℕ) →
    room ≡ limit → core' ≡ core_after core mine → mine' ≡ tasks_after room core mine → (length mine ≡ 0 → ⊥) → (length theirs ≡ 0 → ⊥) →
    IsGoing limit start first (2 * c) core mine theirs → IsGoing limit start first (2 * c + 1) core' mine' theirs
mine_moved limit room start first c core core' mine mine' theirs r e t m n h =
    rw (e, t, r) (mine_moves limit start first c core mine theirs h (not_over first core mine theirs m n))

pub theirs_moved : (limit room : ℕ) (start : State) (first : Side) (c : ℕ) (core core' : List Instruction) (mine theirs theirs' : List ℕ) →
    room ≡ limit → core' ≡ core_after core theirs → theirs' ≡ tasks_after room core theirs → (length mine ≡ 0 → ⊥) → (length theirs ≡ 0 → ⊥) →
    IsGoing limit start first (2 * c + 1) core mine theirs → IsGoing limit start first (2 * (c + 1)) core' mine theirs'
theirs_moved limit room start first c core core' mine theirs theirs' r e t m n h =
    rw (e, t, r) (theirs_move limit start first c core mine theirs h (not_over first core mine theirs m n))

-- a fight that has gone on for k turns and is over takes k turns
pub ends_here : (limit : ℕ) (start : State) (first : Side) (cycles k : ℕ) (core : List Instruction) (mine theirs : List ℕ) → k ≤ 2 * cycles →
    IsGoing limit start first k core mine theirs → is_over (seen_from first core mine theirs) ≡ true → turns_of limit start first cycles ≡ k
ends_here limit start first cycles k core mine theirs le h over =
    turns_are limit start first cycles k le h.goes_on (λ l. ap is_over (sym h.state) ∙ over)

-- one that has gone on for all cycles takes two turns a cycle
pub goes_to_the_end : (limit : ℕ) (start : State) (first : Side) (cycles : ℕ) (core : List Instruction) (mine theirs : List ℕ) →
    IsGoing limit start first (2 * cycles) core mine theirs → turns_of limit start first cycles ≡ 2 * cycles
goes_to_the_end limit start first cycles core mine theirs h =
    turns_are limit start first cycles (2 * cycles) (omega arith) h.goes_on (λ l. absurd (omega arith))

-- no turn was made yet
pub goes_from_the_start : (limit : ℕ) (first : Side) (core : List Instruction) (mine theirs : List ℕ) →
    IsGoing limit (seen_from first core mine theirs) first 0 core mine theirs
goes_from_the_start limit first core mine theirs = record { state = refl; goes_on = λ j l. absurd (omega arith) }
