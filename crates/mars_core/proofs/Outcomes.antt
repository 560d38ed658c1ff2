-- The outcome of a fight, from the turns that it took and the state that they left.
use Rattle.std.proofs.Common.{◌≡◌, ℕ, suc, ◌*◌, ◌<◌, true, sym, ◌∙◌, ap, refl, subst, arith, inl, inr}
use Rattle.std.specs.Prelude.{◌↔◌}
use Rattle.mars_core.specs.State.{State, play_of}
use Rattle.mars_core.specs.Fight.{is_over, turns_of, points_in, outcome_of, IsOutcome}
use Rattle.mars_core.proofs.Least.{split, IsLeast, least_is_least, turns_are}
use Rattle.mars_core.specs.declared.side.Side.{Side}
use Rattle.mars_core.specs.declared.arena.Outcome.{Outcome}

-- by its two parts
from_parts : (o : Outcome) (limit : ℕ) (start : State) (first : Side) (cycles : ℕ) → o.turns ≡ turns_of limit start first cycles →
    o.points ≡ points_in (play_of limit start first o.turns) → o ≡ outcome_of limit start first cycles
unfolding outcome_of
from_parts o limit start first cycles t p =
    let made : (points turns : ℕ) → Outcome = λ points turns. record { points = points; turns = turns } in
    ap (λ x. made x o.turns) p ∙ ap (λ k. made (points_in (play_of limit start first k)) k) t

-- where the code has the same limit, start, first mover and cycles by other names
pub outcome_is : (o : Outcome) (limit limit' : ℕ) (start start' left : State) (first first' : Side) (cycles cycles' turns : ℕ) →
    limit' ≡ limit → start' ≡ start → first ≡ first' → cycles' ≡ cycles →
    turns ≡ turns_of limit' start' first' cycles' → left ≡ play_of limit' start' first' turns →
    o.points ≡ points_in left → o.turns ≡ turns → o ≡ outcome_of limit start first cycles
outcome_is o limit limit' start start' left first first' cycles cycles' turns el es ef ec et es' p t =
    let turns_are : o.turns ≡ turns_of limit start first cycles = rw (← el, ← es, ef, ← ec) (t ∙ et) in
    let points_are : o.points ≡ points_in (play_of limit start first o.turns) = rw (← el, ← es, ef, t) (p ∙ ap points_in es') in
    from_parts o limit start first cycles turns_are points_are

-- the same of the state that is left
pub left_is : (limit limit' : ℕ) (start start' left left' : State) (first first' : Side) (turns turns' : ℕ) →
    limit' ≡ limit → start' ≡ start → first ≡ first' → turns' ≡ turns → left' ≡ left →
    left ≡ play_of limit' start' first' turns → left' ≡ play_of limit start first turns'
left_is limit limit' start start' left left' first first' turns turns' el es ef et e h = rw (← el, ← es, ef, et) (e ∙ h)

-- the turns of a fight are the least number after which it is over
pub turns_least : (limit : ℕ) (start : State) (first : Side) (cycles : ℕ) →
    IsLeast (λ k. is_over (play_of limit start first k)) (2 * cycles) (turns_of limit start first cycles)
unfolding turns_of
turns_least limit start first cycles = least_is_least (λ k. is_over (play_of limit start first k)) (2 * cycles)

-- the computed outcome is one
is_outcome : (limit : ℕ) (start : State) (first : Side) (cycles : ℕ) → IsOutcome limit start first cycles (outcome_of limit start first cycles)
unfolding outcome_of
is_outcome limit start first cycles =
    let h = turns_least limit start first cycles in
    record {
      goes_on = h.before;
      within = h.within;
      ends = elim (split (suc (turns_of limit start first cycles)) (2 * cycles) (omega (arith, h.within))) [
        | inl p ↦ inl (h.here (omega arith))
        | inr q ↦ inr (omega arith)
      ];
      points = refl;
    }

-- an outcome is the computed one
no_other : (limit : ℕ) (start : State) (first : Side) (cycles : ℕ) (o : Outcome) → IsOutcome limit start first cycles o → o ≡ outcome_of limit start first cycles
no_other limit start first cycles o h =
    let over : o.turns < 2 * cycles → is_over (play_of limit start first o.turns) ≡ true =
    λ l. elim h.ends [ inl e ↦ e | inr e ↦ absurd (omega arith) ] in
    from_parts o limit start first cycles (sym (turns_are limit start first cycles o.turns h.within h.goes_on over)) h.points

pub one_outcome : (limit : ℕ) (start : State) (first : Side) (cycles : ℕ) (o : Outcome) →
    (IsOutcome limit start first cycles o) ↔ (o ≡ outcome_of limit start first cycles)
one_outcome limit start first cycles o =
    (no_other limit start first cycles o, λ e. subst (λ (x : Outcome). IsOutcome limit start first cycles x) (sym e) (is_outcome limit start first cycles))
