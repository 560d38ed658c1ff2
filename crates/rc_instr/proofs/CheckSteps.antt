-- What passes the checks of rules is within their limits, and what passes those of a warrior fits.
use Rattle.std.proofs.Common.{◌≡◌, ◌≤◌, ◌*◌, ℕ, Bool, true, false, List, [], ◌∷◌, length, refl, arith, Ok, Err, Some, None, inl, inr}
use Rattle.std.specs.Prelude.{◌&&◌, nat_lt, nat_le, All, Result}
use Rattle.std.specs.List.{list_all}
use Rattle.std.specs.Result.{result_err}
use Rattle.std.proofs.lemmas.Bool.{and_parts}
use Rattle.std.proofs.lemmas.Bool.Decides.{leb_tells}
use Rattle.std.proofs.lemmas.List.Elements.{All-nil, All-head, All-tail, All-cons}
use borrow.Author.Tests.{ltb-true, lt-ltb, le-leb}
use Rattle.rc_instr.specs.Results.{and_then, check}
use Rattle.rc_instr.specs.Limits.{LEAST_CORE, MOST_CORE, MOST_CYCLES, MOST_TASKS, MOST_LENGTH}
use Rattle.rc_instr.specs.Rules.{RulesView, IsRules}
use Rattle.rc_instr.specs.Warrior.{WarriorView, IsBelow, IsWarrior, Fits}
use Rattle.rc_instr.specs.Checks.{is_within, rules_of, is_below, warrior_of}
use Rattle.rc_instr.specs.declared.instruction.Instruction.{Instruction}
use Rattle.rc_instr.specs.declared.rules.RulesError.TheVariants.{Core, Cycles, Tasks, Length, Distance}
use Rattle.rc_instr.specs.declared.warrior.WarriorError.{WarriorError}
use Rattle.rc_instr.specs.declared.warrior.WarriorError.TheVariants.{Empty, TooLong, BadStart, NumberTooLarge}

-- a chain that gives a value passed its first check
passed : {A E : Type 0} (b : Bool) (e : E) (rest : Result A E) (x : A) → and_then (λ _. rest) (check b e) ≡ Ok x → (b ≡ true) × (rest ≡ Ok x)
passed true e rest x h = (refl, h)
passed false e rest x h = absurd (cc)

pub at_most : (a b : ℕ) → nat_le a b ≡ true → a ≤ b
at_most a b h = elim (leb_tells a b) [
  | inl p ↦ p.1
  | inr p ↦ let e = p.0 in absurd (cc)
]

both_at_most : (a b c d : ℕ) → nat_le a b && nat_le c d ≡ true → (a ≤ b) × (c ≤ d)
both_at_most a b c d h =
    let p = and_parts (nat_le a b) (nat_le c d) h in
    (at_most a b p.0, at_most c d p.1)

-- what is given as rules is within the limits
pub rules_kept : (r w : RulesView) → rules_of r ≡ Ok w → (w ≡ r) × IsRules r
unfolding rules_of
rules_kept r w h =
    let a = passed (is_within LEAST_CORE MOST_CORE r.core) Core _ w h in
    let b = passed (is_within 1 MOST_CYCLES r.cycles) Cycles _ w a.1 in
    let c = passed (is_within 1 MOST_TASKS r.tasks) Tasks _ w b.1 in
    let d = passed (is_within 1 MOST_LENGTH r.length) Length _ w c.1 in
    let e = passed (nat_le r.length r.distance && nat_le (2 * r.distance) r.core) Distance _ w d.1 in (
      cc,
      record {
        core = both_at_most _ _ _ _ a.0;
        cycles = both_at_most _ _ _ _ b.0;
        tasks = both_at_most _ _ _ _ c.0;
        length = both_at_most _ _ _ _ d.0;
        distance = both_at_most _ _ _ _ e.0;
      },
    )

-- rules within the limits are given
pub rules_pass : (r : RulesView) → IsRules r → rules_of r ≡ Ok r
unfolding rules_of
rules_pass r k = rw (
  le-leb LEAST_CORE r.core k.core.0,
  le-leb r.core MOST_CORE k.core.1,
  le-leb 1 r.cycles k.cycles.0,
  le-leb r.cycles MOST_CYCLES k.cycles.1,
  le-leb 1 r.tasks k.tasks.0,
  le-leb r.tasks MOST_TASKS k.tasks.1,
  le-leb 1 r.length k.length.0,
  le-leb r.length MOST_LENGTH k.length.1,
  le-leb r.length r.distance k.distance.0,
  le-leb (2 * r.distance) r.core k.distance.1,
) refl

below : (m : ℕ) (i : Instruction) → is_below m i ≡ true → IsBelow m i
below m i h =
    let p = and_parts (nat_lt i.a_number m) (nat_lt i.b_number m) h in
    record { a = ltb-true i.a_number m p.0; b = ltb-true i.b_number m p.1 }

pub all_below : (m : ℕ) (code : List Instruction) → list_all (is_below m) code ≡ true → All (IsBelow m) code
all_below m [] h = All-nil (IsBelow m)
all_below m (i ∷ code) h =
    let p = and_parts (is_below m i) (list_all (is_below m) code) h in
    All-cons (IsBelow m) i code (below m i p.0) (all_below m code p.1)

pub below_all : (m : ℕ) (code : List Instruction) → All (IsBelow m) code → list_all (is_below m) code ≡ true
below_all m [] h = refl
below_all m (i ∷ code) h =
    let t = All-head (IsBelow m) i code h in
    rw (lt-ltb i.a_number m t.a, lt-ltb i.b_number m t.b) (below_all m code (All-tail (IsBelow m) i code h))

-- what is given as a warrior fits the rules
pub warrior_fits : (r : RulesView) (p w : WarriorView) → IsRules r → warrior_of r p ≡ Ok w → (w ≡ p) × IsWarrior p × Fits r p
unfolding warrior_of
warrior_fits r p w k h =
    let a = passed (nat_lt 0 (length p.code)) Empty _ w h in
    let b = passed (nat_le (length p.code) r.length) TooLong _ w a.1 in
    let c = passed (nat_lt p.start (length p.code)) BadStart _ w b.1 in
    let d = passed (list_all (is_below r.core) p.code) NumberTooLarge _ w c.1 in
    let short = at_most (length p.code) r.length b.0 in (
      cc,
      record { some = ltb-true 0 (length p.code) a.0; short = omega (arith, short, k.length.1); inside = ltb-true p.start (length p.code) c.0 },
      record { short = short; numbers = all_below r.core p.code d.0 },
    )

-- a warrior that fits the rules is given
pub warrior_passes : (r : RulesView) (p : WarriorView) → IsWarrior p → Fits r p → warrior_of r p ≡ Ok p
unfolding warrior_of
warrior_passes r p w f = rw (
  lt-ltb 0 (length p.code) w.some,
  le-leb (length p.code) r.length f.short,
  lt-ltb p.start (length p.code) w.inside,
  below_all r.core p.code f.numbers,
) refl

-- no reason against a warrior: it fits the rules
pub unrefused : (r : RulesView) (p : WarriorView) → IsRules r → None ≡ result_err (warrior_of r p) → (p ≡ p) × IsWarrior p × Fits r p
unrefused r p k h = by_result (warrior_of r p) refl h where
  by_result : (x : Result WarriorView WarriorError) → warrior_of r p ≡ x → None ≡ result_err x → (p ≡ p) × IsWarrior p × Fits r p
  by_result (Err e) q n = absurd (cc)
  by_result (Ok w) q n = let f = warrior_fits r p w k q in (refl, f.1, f.2)

-- the reason against a warrior
pub refused_for : {A E : Type 0} (x : Result A E) (e : E) → Some e ≡ result_err x → x ≡ Err e
refused_for (Ok w) e h = absurd (cc)
refused_for (Err f) e h = cc
