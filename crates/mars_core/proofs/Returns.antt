-- A state that comes back.
use Rattle.std.proofs.lemmas.Bool.{cases_lt}
use Rattle.std.proofs.Common.{◌≡◌, ℕ, zero, suc, ◌+◌, ◌-◌, ◌*◌, ◌/◌, ◌%◌, ◌<◌, List, false, arith, refl, sym, ◌∙◌, ap, inl, inr}
use Rattle.std.proofs.Math.Nat.{mul-suc}
use Rattle.rc_instr.specs.declared.instruction.Instruction.{Instruction}
use Rattle.mars_core.specs.State.{State, play_of, seen_from}
use Rattle.mars_core.specs.Fight.{is_over, turns_of, ComesBack}
use Rattle.mars_core.specs.declared.side.Side.{Side}
use Rattle.mars_core.proofs.Going.{IsGoing}
use Rattle.mars_core.proofs.Least.{turns_are}
use Rattle.mars_core.proofs.Outcomes.{turns_least}
use Rattle.mars_core.proofs.Stretches.{play_on, ends_after}

-- after whole periods the state is there again
again : (limit : ℕ) (s : State) (first : Side) (p q : ℕ) → ComesBack limit s first p → play_of limit s first (2 * (p * q)) ≡ s
again limit s first p zero h =
    let none : 2 * (p * zero) ≡ zero = omega arith in
    ap (play_of limit s first) none
again limit s first p (suc q) h =
    let more : 2 * (p * suc q) ≡ 2 * (p * q) + 2 * p = omega (arith, mul-suc p q) in
    sym (play_on limit s s first (p * q) (2 * p) (2 * (p * suc q)) (sym (again limit s first p q h)) more) ∙ h.back

-- within whole periods no side loses
not_within : (limit : ℕ) (s : State) (first : Side) (p q : ℕ) → ComesBack limit s first p →
    (j : ℕ) → j < 2 * (p * q) → is_over (play_of limit s first j) ≡ false
not_within limit s first p zero h j l = absurd (omega arith)
not_within limit s first p (suc q) h j l =
    elim (cases_lt j (2 * (p * q))) [
      | inl b ↦ not_within limit s first p q h j b
      | inr b ↦
          let d : j ≡ 2 * (p * q) + (j - 2 * (p * q)) = omega arith in
          let within : j - 2 * (p * q) < turns_of limit s first p = omega (arith, mul-suc p q, h.lasts) in
          ap is_over (sym (play_on limit s s first (p * q) (j - 2 * (p * q)) j (sym (again limit s first p q h)) d))
          ∙ (turns_least limit s first p).before (j - 2 * (p * q)) within
    ]

-- so no side ever loses
pub lasts_for_ever : (limit : ℕ) (s : State) (first : Side) (p n : ℕ) → ComesBack limit s first p → turns_of limit s first n ≡ 2 * n
lasts_for_ever limit s first p n h =
    let some : 0 < p = h.some in
    turns_are limit s first n (2 * n) (omega arith)
    (λ j l. not_within limit s first p (suc (n / p)) h j (omega (arith, mul-suc p (n / p))))
    (λ l. absurd (omega arith))

-- and whole periods may be left out
pub left_out : (limit : ℕ) (s : State) (first : Side) (p n : ℕ) → ComesBack limit s first p →
    play_of limit s first (2 * n) ≡ play_of limit s first (2 * (n % p))
left_out limit s first p n h =
    let some : 0 < p = h.some in
    let d : 2 * n ≡ 2 * (p * (n / p)) + 2 * (n % p) = omega arith in
    sym (play_on limit s s first (p * (n / p)) (2 * (n % p)) (2 * n) (sym (again limit s first p (n / p) h)) d)

-- the state of a fight after some cycles, and after p more
pub comes_back : (limit : ℕ) (start : State) (first : Side) (at p k : ℕ) (core : List Instruction) (mine theirs : List ℕ) →
    IsGoing limit start first k core mine theirs → 0 < p → k ≡ 2 * at + 2 * p →
    seen_from first core mine theirs ≡ play_of limit start first (2 * at) → ComesBack limit (seen_from first core mine theirs) first p
comes_back limit start first at p k core mine theirs h some d e =
    let s = seen_from first core mine theirs in
    record {
      some = some;
      back = play_on limit start s first at (2 * p) k e d ∙ sym h.state;
      lasts = turns_are limit s first p (2 * p) (omega arith)
          (λ j l. ap is_over (play_on limit start s first at j (2 * at + j) e refl) ∙ h.goes_on (2 * at + j) (omega arith))
          (λ l. absurd (omega arith));
    }

-- a fight whose state comes back takes all its turns
pub takes_all : (limit : ℕ) (start : State) (first : Side) (cycles c n p : ℕ) (core : List Instruction) (mine theirs : List ℕ) →
    IsGoing limit start first (2 * c) core mine theirs → ComesBack limit (seen_from first core mine theirs) first p → c + n ≡ cycles →
    turns_of limit start first cycles ≡ 2 * cycles
takes_all limit start first cycles c n p core mine theirs h b d =
    let all : 2 * c + 2 * n ≡ 2 * cycles = omega arith in
    ends_after limit limit start first cycles c n (2 * n) core mine theirs refl h (omega arith) (λ l. absurd (omega arith))
    (sym (lasts_for_ever limit (seen_from first core mine theirs) first p n b)) ∙ all

-- and its last state is the one that the cycles left modulo the period leave
pub leaves_last : (limit room : ℕ) (start : State) (first : Side) (cycles c n p r : ℕ) (core core' : List Instruction) (mine mine' theirs theirs' : List ℕ) →
    room ≡ limit → IsGoing limit start first (2 * c) core mine theirs → ComesBack limit (seen_from first core mine theirs) first p → c + n ≡ cycles →
    r ≡ turns_of room (seen_from first core mine theirs) first (n % p) →
    seen_from first core' mine' theirs' ≡ play_of room (seen_from first core mine theirs) first r →
    seen_from first core' mine' theirs' ≡ play_of limit start first (2 * cycles)
leaves_last limit room start first cycles c n p r core core' mine mine' theirs theirs' e h b d t s =
    let all : 2 * cycles ≡ 2 * c + 2 * n = omega arith in
    let now = seen_from first core mine theirs in
    let t_is = t ∙ ap (λ m. turns_of m now first (n % p)) e ∙ lasts_for_ever limit now first p (n % p) b in
    s ∙ ap (λ m. play_of m now first r) e ∙ ap (play_of limit now first) t_is ∙ sym (left_out limit now first p n b)
    ∙ play_on limit start now first c (2 * n) (2 * cycles) h.state all
