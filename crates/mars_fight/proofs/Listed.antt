-- The fights of a schedule have opponents, at positions of the rules, and weights.
use Rattle.std.proofs.Common.{◌≡◌, ◌≤◌, ◌<◌, ◌+◌, ℕ, true, false, List, [], ◌∷◌, drop, Some, None, Ok, Err, refl, ap, arith, subst, All}
use Rattle.std.specs.Prelude.{Bool, Option, Result, nat_lt, nat_le, ◌&&◌, if◌then◌else◌, length}
use Rattle.std.proofs.lemmas.Bool.Decides.{nat_tests}
use Rattle.std.proofs.lemmas.List.Elements.{All-cons, All-nil, All-weaker}
use Rattle.rc_instr.specs.Rules.{RulesView}
use Rattle.tables.specs.Records.{Fields, records_of}
use Rattle.rc_instr.proofs.Chains.{went_on}
use Rattle.rc_instr.proofs.CheckSteps.{at_most}
use Rattle.mars_fight.specs.Listed.{IsPosition, IsWeight, IsFight}
use Rattle.rc_instr.specs.Decimal.{padded_decimal}
use Rattle.mars_fight.specs.Limits.{MOST_FIGHTS, MOST_WEIGHT}
use Rattle.mars_fight.specs.Schedule.{opponent_of, position_of, mover_named, weight_of, fight_made, unweighted_fight, weighted_fight, fight_of, fights_from, header_of, scheduled, schedule_of}
use Rattle.mars_fight.specs.Faults.{at_row}
use Rattle.rc_instr.specs.Results.{with_fault, check}
use Rattle.mars_fight.specs.declared.fault.ScheduleFaultKind.TheVariants.{Empty, TooMany}
use Rattle.mars_fight.specs.declared.fight.Fight.{Fight}
use Rattle.mars_fight.specs.declared.record.Columns.{Columns}
use Rattle.mars_fight.specs.declared.record.Columns.TheVariants.{Unweighted, Weighted}
use Rattle.mars_fight.specs.declared.fault.ScheduleFaultKind.{ScheduleFaultKind}

-- a number that passes a test is the result, and passes it
tested : (b : Bool) (number x : ℕ) (kind : ScheduleFaultKind) → ◌≡◌ {A = Result ℕ ScheduleFaultKind} (if b then Ok number else Err kind) (Ok x) → (b ≡ true) × (number ≡ x)
tested true number x kind e = (refl, cc)
tested false number x kind e = absurd (cc)

-- an opponent that is read exists
opponent_below : (n : ℕ) (number : Option ℕ) (x : ℕ) → opponent_of n number ≡ Ok x → x < n
opponent_below n None x e = absurd (cc)
opponent_below n (Some number) x e =
    let t = tested (nat_lt number n) number x _ e in
    let below : number < n = grind (arith, nat_tests, t.0) in
    omega (arith, t.1)

-- what passes two tests passes each
both : (a b : Bool) → a && b ≡ true → (a ≡ true) × (b ≡ true)
both true b e = (refl, e)
both false b e = absurd (cc)

-- a position that is read keeps the distance
position_within : (r : RulesView) (number : Option ℕ) (x : ℕ) → position_of r number ≡ Ok x → IsPosition r x
position_within r None x e = absurd (cc)
position_within r (Some number) x e =
    let t = tested (nat_le r.distance number && nat_le (number + r.distance) r.core) number x _ e in
    let two = both (nat_le r.distance number) (nat_le (number + r.distance) r.core) t.0 in
    let low : r.distance ≤ number = grind (arith, nat_tests, two.0) in
    let high : number + r.distance ≤ r.core = grind (arith, nat_tests, two.1) in
    record { low = omega (arith, t.1); high = omega (arith, t.1) }

-- a weight that is read is from 1 to `MOST_WEIGHT`
weight_within : (number : Option ℕ) (x : ℕ) → weight_of number ≡ Ok x → IsWeight x
weight_within None x e = absurd (cc)
weight_within (Some number) x e =
    let t = tested (nat_le 1 number && nat_le number MOST_WEIGHT) number x _ e in
    let two = both (nat_le 1 number) (nat_le number MOST_WEIGHT) t.0 in
    let low : 1 ≤ number = grind (arith, nat_tests, two.0) in
    let high : number ≤ MOST_WEIGHT = grind (arith, nat_tests, two.1) in
    record { least = omega (arith, t.1); most = omega (arith, t.1) }

-- a fight of fields may be listed
made_fight : (r : RulesView) (n : ℕ) (a b c : List ℕ) (last : Result ℕ ScheduleFaultKind) (fight : Fight)
    → ((x : ℕ) → last ≡ Ok x → IsWeight x) → fight_made r n a b c last ≡ Ok fight → IsFight r n fight
made_fight r n a b c last fight h e =
    let o = went_on (opponent_of n (padded_decimal a)) _ fight e in
    let p = went_on (position_of r (padded_decimal b)) _ fight o.2 in
    let f = went_on (mover_named c) _ fight p.2 in
    let w = went_on last _ fight f.2 in
    let same : record { opponent = o.0; position = p.0; first = f.0; weight = w.0 } ≡ fight = let q = w.2 in cc in
    subst (IsFight r n) same (record { opponent = opponent_below n (padded_decimal a) o.0 o.1; position = position_within r (padded_decimal b) p.0 p.1; weight = h w.0 w.1 })

-- a fight counts once without a weight
one_within : (x : ℕ) → ◌≡◌ {A = Result ℕ ScheduleFaultKind} (Ok 1) (Ok x) → IsWeight x
one_within x e =
    let same : 1 ≡ x = cc in
    record { least = omega (arith, same); most = omega (arith, same) }

-- the fight of three fields may be listed
unweighted_placed : (r : RulesView) (n : ℕ) (fields : Fields) (fight : Fight) → unweighted_fight r n fields ≡ Ok fight → IsFight r n fight
unweighted_placed r n [] fight e = absurd (cc)
unweighted_placed r n (a ∷ []) fight e = absurd (cc)
unweighted_placed r n (a ∷ b ∷ []) fight e = absurd (cc)
unweighted_placed r n (a ∷ b ∷ c ∷ []) fight e = made_fight r n a b c (Ok 1) fight one_within e
unweighted_placed r n (a ∷ b ∷ c ∷ d ∷ more) fight e = absurd (cc)

-- the fight of four fields may be listed
weighted_placed : (r : RulesView) (n : ℕ) (fields : Fields) (fight : Fight) → weighted_fight r n fields ≡ Ok fight → IsFight r n fight
weighted_placed r n [] fight e = absurd (cc)
weighted_placed r n (a ∷ []) fight e = absurd (cc)
weighted_placed r n (a ∷ b ∷ []) fight e = absurd (cc)
weighted_placed r n (a ∷ b ∷ c ∷ []) fight e = absurd (cc)
weighted_placed r n (a ∷ b ∷ c ∷ d ∷ []) fight e =
    made_fight r n a b c (weight_of (padded_decimal d)) fight (weight_within (padded_decimal d)) e
weighted_placed r n (a ∷ b ∷ c ∷ d ∷ g ∷ more) fight e = absurd (cc)

-- the fight of a record may be listed
fight_placed : (r : RulesView) (n : ℕ) (m : Columns) (fields : Fields) (fight : Fight) → fight_of r n m fields ≡ Ok fight → IsFight r n fight
unfolding fight_of
fight_placed r n Unweighted fields fight e = unweighted_placed r n fields fight e
fight_placed r n Weighted fields fight e = weighted_placed r n fields fight e

-- a fault at a row is no fight
fight_at : (row : ℕ) (x : Result Fight ScheduleFaultKind) (fight : Fight) → with_fault (at_row row) x ≡ Ok fight → x ≡ Ok fight
fight_at row (Ok f) fight e = let same : f ≡ fight = cc in ap Ok same
fight_at row (Err k) fight e = absurd (cc)

-- the fights of records may be listed
in_placed : (r : RulesView) (n : ℕ) (m : Columns) (row : ℕ) (rows : List Fields) (fights : List Fight) → fights_from r n m row rows ≡ Ok fights → All (IsFight r n) fights
in_placed r n m row [] fights e = let same : [] ≡ fights = cc in rw (← same) (All-nil (IsFight r n))
in_placed r n m row (fields ∷ rows) fights e =
    let c = went_on (check (nat_le row MOST_FIGHTS) (at_row row TooMany)) _ fights e in
    let f = went_on (with_fault (at_row row) (fight_of r n m fields)) _ fights c.2 in
    let fs = went_on (fights_from r n m (row + 1) rows) _ fights f.2 in
    let same : f.0 ∷ fs.0 ≡ fights = let q = fs.2 in cc in
    subst (All (IsFight r n)) same (All-cons (IsFight r n) f.0 fs.0 (fight_placed r n m fields f.0 (fight_at row (fight_of r n m fields) f.0 f.1)) (in_placed r n m (row + 1) rows fs.0 fs.1))

-- each fight of a schedule may be listed
pub scheduled_fights : (r : RulesView) (n : ℕ) (rows : List Fields) (fights : List Fight) → scheduled r n rows ≡ Ok fights → All (IsFight r n) fights
scheduled_fights r n rows fights e =
    let h = went_on (header_of rows) _ fights e in
    let fs = went_on (fights_from r n h.0 1 (drop 1 rows)) _ fights h.2 in
    let c = went_on (check (nat_lt 0 (length fs.0)) (at_row 0 Empty)) _ fights fs.2 in
    let same : fs.0 ≡ fights = let q = c.2 in cc in
    subst (All (IsFight r n)) same (in_placed r n h.0 1 (drop 1 rows) fs.0 fs.1)

-- there is a fight for each record, and no record after `MOST_FIGHTS`
few_from : (r : RulesView) (n : ℕ) (m : Columns) (row : ℕ) (rows : List Fields) (fights : List Fight) → row ≤ MOST_FIGHTS + 1 → fights_from r n m row rows ≡ Ok fights → row + length fights ≤ MOST_FIGHTS + 1
few_from r n m row [] fights h e = let same : [] ≡ fights = cc in omega (arith, h, ap length same)
few_from r n m row (fields ∷ rows) fights h e =
    let c = went_on (check (nat_le row MOST_FIGHTS) (at_row row TooMany)) _ fights e in
    let f = went_on (with_fault (at_row row) (fight_of r n m fields)) _ fights c.2 in
    let fs = went_on (fights_from r n m (row + 1) rows) _ fights f.2 in
    let same : f.0 ∷ fs.0 ≡ fights = let q = fs.2 in cc in
    let few : row ≤ MOST_FIGHTS = at_most row MOST_FIGHTS (passed (nat_le row MOST_FIGHTS) c.1) in
    let more = few_from r n m (row + 1) rows fs.0 (omega (arith, few)) fs.1 in
    omega (arith, more, ap length same)
  where
    passed : (b : Bool) → check b (at_row row TooMany) ≡ Ok tt → b ≡ true
    passed true q = refl
    passed false q = absurd (cc)

-- the fights of a schedule may be listed, and are at most `MOST_FIGHTS`
pub listed : (r : RulesView) (n : ℕ) (bytes : List ℕ) (fights : List Fight) → schedule_of r n bytes ≡ Ok fights → All (IsFight r n) fights × (length fights ≤ MOST_FIGHTS)
unfolding schedule_of
listed r n bytes fights e =
    let rows = records_of bytes in
    let h = went_on (header_of rows) _ fights e in
    let fs = went_on (fights_from r n h.0 1 (drop 1 rows)) _ fights h.2 in
    let c = went_on (check (nat_lt 0 (length fs.0)) (at_row 0 Empty)) _ fights fs.2 in
    let same : fs.0 ≡ fights = let q = c.2 in cc in
    let few = few_from r n h.0 1 (drop 1 rows) fs.0 (omega arith) fs.1 in
    (scheduled_fights r n rows fights e, omega (arith, few, ap length same))

-- the weights of such fights
pub are_weights : (r : RulesView) (n : ℕ) (fights : List Fight) → All (IsFight r n) fights → All (λ (f : Fight). IsWeight f.weight) fights
are_weights r n fights h = All-weaker (IsFight r n) (λ (f : Fight). IsWeight f.weight) (λ f p. p.weight) fights h
