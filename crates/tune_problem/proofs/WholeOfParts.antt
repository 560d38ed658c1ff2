-- The optimum of the whole is that of the first part with the greatest total.
use Rattle.std.proofs.Common.{◌≡◌, ◌⊎◌, ℕ, zero, suc, ◌+◌, ◌-◌, ◌*◌, ◌/◌, ◌<◌, ◌≤◌, Some, length, slice_get, inl, inr, refl, sym, ◌∙◌, ap, subst, arith}
use Rattle.std.specs.Prelude.{option_and_then}
use Rattle.std.proofs.Math.Nat.{div-mul-le_self, mul-le-mul_right, mul-div_cancel_left, zero-div, eq-or-lt_of_le}
use Rattle.std.proofs.lemmas.Nat.{le-div}
use Rattle.std.proofs.lemmas.Bool.{cases_lt}
use Rattle.rc_instr.specs.Warrior.{WarriorView}
use Rattle.tune_template.specs.Vectors.{vectors_of}
use Rattle.tune_problem.specs.Parts.{part, IsPart, part_end}
use Rattle.tune_problem.specs.Inputs.{InputsView, settings_of, warrior_of}
use Rattle.tune_problem.proofs.PartSteps.{part_inside, part_len, part_get, whole_list}
use Rattle.tune_problem.specs.Problem.{Problem, problem_of}
use Rattle.tune_problem.specs.Optimum.{IsCandidate, total_of, IsBest}
use Rattle.tune_template.specs.Instances.{setting_count}
use Rattle.tune_problem.specs.Below.{AllBelow}
use Rattle.tune_problem.specs.BestPart.{in_part, whole_of, first_setting, in_whole, IsOutcome, StaysBelow, AllStayBelow, IsBestPart}
use Rattle.tune_problem.specs.declared.statement.Answer.{Answer}
use Rattle.tune_problem.specs.declared.statement.Answer.TheVariants.{Best as TheBest, NoneFrom}
use Rattle.tune_problem.specs.declared.watcher.Best.{Best}

-- ---- where the parts are

div_rises : (a b k : ℕ) → 0 < k → a ≤ b → a / k ≤ b / k
div_rises a b k some h = let below : a / k * k ≤ a = div-mul-le_self a k in le-div (a / k) b k some (omega (arith, below, h))

module _ (n k : ℕ) (some : 1 ≤ k) where
  -- a part ends before a later one begins
  ends_before : (i j : ℕ) → 1 ≤ j → i < j → i * n / k ≤ (j - 1) * n / k
  ends_before i j one h = div_rises (i * n) ((j - 1) * n) k (omega (arith, some)) (mul-le-mul_right n (omega (arith, h)))

  -- each setting of the first m parts is in one of them
  among : (m u : ℕ) → u < m * n / k → (i : ℕ) × (1 ≤ i) × (i ≤ m) × ((i - 1) * n / k ≤ u) × (u < i * n / k)
  among zero u h =
      let none : zero * n ≡ 0 = omega arith in
      let end : zero * n / k ≡ 0 = ap (λ x. x / k) none ∙ zero-div k in
      absurd (omega (arith, h, end))
  among (suc m) u h = split (cases_lt u (m * n / k)) (among m u)
    where
      split : (u < m * n / k) ⊎ (m * n / k ≤ u) → (u < m * n / k → (i : ℕ) × (1 ≤ i) × (i ≤ m) × ((i - 1) * n / k ≤ u) × (u < i * n / k))
          → (i : ℕ) × (1 ≤ i) × (i ≤ suc m) × ((i - 1) * n / k ≤ u) × (u < i * n / k)
      split (inl l) earlier = let found = earlier l in let inside = found.2 in (found.0, found.1, omega (arith, inside), found.3, found.4)
      split (inr l) earlier =
          let before : m ≡ suc m - 1 = omega arith in
          (suc m, omega arith, omega arith, subst (λ x. x * n / k ≤ u) before l, h)

  pub in_a_part : (u : ℕ) → u < n → (i : ℕ) × (1 ≤ i) × (i ≤ k) × ((i - 1) * n / k ≤ u) × (u < i * n / k)
  in_a_part u h =
      let end : k * n / k ≡ n = mul-div_cancel_left n (omega (arith, some)) in
      among k u (omega (arith, h, end))

-- ---- a setting of a part is one of the whole

module _ (i : InputsView) (k : ℕ) (some : 1 ≤ k) (few : k ≤ setting_count i.template) where
  abbrev pub Whole : Problem
  Whole = whole_of i

  abbrev pub Piece : ℕ → Problem
  Piece m = problem_of (in_part i m k)

  is_part : (m : ℕ) → 1 ≤ m → m ≤ k → IsPart (part m k) (setting_count i.template)
  is_part m one within = record { some = one; within = within; few = few }

  whole_count : Whole.count ≡ setting_count i.template
  unfolding settings_of
  whole_count = ap length (whole_list (vectors_of i.template.ranges.spans))

  piece_count : (m : ℕ) → 1 ≤ m → m ≤ k → (Piece m).count ≡ part_end (part m k) (setting_count i.template) - first_setting i m k
  unfolding settings_of
  piece_count m one within = part_len (part m k) (vectors_of i.template.ranges.spans) (is_part m one within)

  same_warrior : (m v : ℕ) → 1 ≤ m → m ≤ k → v < (Piece m).count → (Piece m).warrior v ≡ Whole.warrior (first_setting i m k + v)
  unfolding settings_of warrior_of
  same_warrior m v one within inside =
      ap (option_and_then _) (part_get (part m k) (vectors_of i.template.ranges.spans) (is_part m one within) v inside
      ∙ ap (λ xs. slice_get xs (first_setting i m k + v)) (sym (whole_list (vectors_of i.template.ranges.spans))))

  same_total : (m : ℕ) (w : WarriorView) → total_of (Piece m) w ≡ total_of Whole w
  unfolding total_of
  same_total m w = refl

  -- a candidate of the whole in its part
  record InPart (u : ℕ) (other : WarriorView) : Type 0 where
    number : ℕ
    one : 1 ≤ number
    within : number ≤ k
    place : ℕ
    at : first_setting i number k + place ≡ u
    inside : place < (Piece number).count
    candidate : (Piece number).warrior place ≡ Some other

  in_part_of : (u : ℕ) (other : WarriorView) → u < Whole.count → Whole.warrior u ≡ Some other → InPart u other
  in_part_of u other inside c =
      let found = in_a_part (setting_count i.template) k some u (omega (arith, inside, whole_count)) in
      let m = found.0 in
      let low = found.3 in
      let high = found.4 in
      let at : first_setting i m k + (u - first_setting i m k) ≡ u = omega (arith, low) in
      let count = piece_count m found.1 found.2 in
      let here : u - first_setting i m k < (Piece m).count = omega (arith, low, high, count) in
      record {
        number = m;
        one = found.1;
        within = found.2;
        place = u - first_setting i m k;
        at = at;
        inside = here;
        candidate = same_warrior m (u - first_setting i m k) found.1 found.2 here ∙ (ap Whole.warrior at ∙ c);
      }

  -- by its answer no candidate of a part reaches the floor
  part_below : (m floor : ℕ) (answer : Answer) → IsOutcome (Piece m) answer → StaysBelow floor answer → AllBelow (Piece m) floor
  part_below m floor (NoneFrom other) all less v w inside c = let low = all v w inside c in omega (arith, low, less)
  part_below m floor (TheBest best) (opt, (x, x_is, x_total)) less v w inside c =
      let own : Some x ≡ Some opt.warrior = sym x_is ∙ opt.candidate in
      let same : x ≡ opt.warrior = cc in
      let total : total_of (Piece m) opt.warrior ≡ best.total = ap (total_of (Piece m)) (sym same) ∙ x_total in
      let most = opt.greatest v w inside c in
      omega (arith, most, total, less)

  module _ (outcome : ℕ → Answer) (outs : (m : ℕ) → 1 ≤ m → m ≤ k → IsOutcome (Piece m) (outcome m)) where
    below : (floor u : ℕ) (other : WarriorView) (p : InPart u other) → StaysBelow floor (outcome p.number) → total_of Whole other < floor
    below floor u other p less =
        let low = part_below p.number floor (outcome p.number) (outs p.number p.one p.within) less p.place other p.inside p.candidate in
        let moved = same_total p.number other in
        omega (arith, low, moved)

    pub whole_below : (floor : ℕ) → AllStayBelow floor k outcome → AllBelow Whole floor
    whole_below floor each = λ u other inside c. let p = in_part_of u other inside c in below floor u other p (each p.number p.one p.within)

    module _ (j : ℕ) (best : Best) (found : IsBestPart k outcome j best) where
      own : IsBest (Piece j) best
      own = subst (IsOutcome (Piece j)) found.here (outs j found.some found.within)

      own_total : total_of Whole own.0.warrior ≡ best.total
      own_total =
          let x_is = own.1.1 in
          let both : Some own.1.0 ≡ Some own.0.warrior = sym x_is ∙ own.0.candidate in
          let same : own.1.0 ≡ own.0.warrior = cc in
          sym (same_total j own.0.warrior) ∙ (ap (total_of (Piece j)) (sym same) ∙ own.1.2)

      own_candidate : Whole.warrior (first_setting i j k + best.vector) ≡ Some own.0.warrior
      own_candidate = sym (same_warrior j best.vector found.some found.within own.0.inside) ∙ own.0.candidate

      own_inside : first_setting i j k + best.vector < part_end (part j k) (setting_count i.template)
      own_inside =
          let low = own.0.inside in
          let count = piece_count j found.some found.within in
          omega (arith, low, count)

      -- no candidate is ahead of the best
      abbrev NotAhead : ℕ → WarriorView → Type 0
      NotAhead u other = (total_of Whole other ≤ total_of Whole own.0.warrior) × (total_of Whole other ≡ total_of Whole own.0.warrior → first_setting i j k + best.vector ≤ u)

      -- a candidate of an earlier part, of the same part, of a later one
      earlier : (u : ℕ) (other : WarriorView) (p : InPart u other) → p.number < j → NotAhead u other
      earlier u other p l =
          let low = below best.total u other p (found.before p.number p.one l) in
          (omega (arith, low, own_total), λ e. absurd (omega (arith, low, own_total, e)))

      beside : (u place : ℕ) (other : WarriorView) → first_setting i j k + place ≡ u → place < (Piece j).count → (Piece j).warrior place ≡ Some other → NotAhead u other
      beside u place other at inside c =
          let most = own.0.greatest place other inside c in
          let moved = same_total j other in
          let own_moved = same_total j own.0.warrior in
          (omega (arith, most, moved, own_moved), λ e. (let first = own.0.first place other inside c (moved ∙ (e ∙ sym own_moved)) in omega (arith, first, at)))

      later : (u : ℕ) (other : WarriorView) (p : InPart u other) → j < p.number → NotAhead u other
      later u other p l =
          let low = below (best.total + 1) u other p (found.after p.number l p.within) in
          let apart = ends_before (setting_count i.template) k some j p.number p.one l in
          let inside = own_inside in
          let at = p.at in
          (omega (arith, low, own_total), λ e. omega (arith, apart, inside, at))

      not_ahead : (u : ℕ) (other : WarriorView) → u < Whole.count → Whole.warrior u ≡ Some other → NotAhead u other
      not_ahead u other inside c = by_order (cases_lt p.number j)
        where
          p : InPart u other
          p = in_part_of u other inside c

          by_place : (j ≡ p.number) ⊎ (j < p.number) → NotAhead u other
          by_place (inl e) = subst (λ m. first_setting i m k + p.place ≡ u → p.place < (Piece m).count → (Piece m).warrior p.place ≡ Some other → NotAhead u other) e
              (beside u p.place other) p.at p.inside p.candidate
          by_place (inr l) = later u other p l

          by_order : (p.number < j) ⊎ (j ≤ p.number) → NotAhead u other
          by_order (inl l) = earlier u other p l
          by_order (inr h) = by_place (eq-or-lt_of_le h)

      pub whole_best : IsBest Whole (in_whole i j k best)
      whole_best = (
        record {
          warrior = own.0.warrior;
          inside = (let inside = own_inside in let end = part_inside (part j k) (setting_count i.template) (is_part j found.some found.within) in omega (arith, inside, end, whole_count));
          candidate = own_candidate;
          greatest = λ u other inside c. (not_ahead u other inside c).0;
          first = λ u other inside c. (not_ahead u other inside c).1;
        },
        (own.0.warrior, own_candidate, own_total),
      )

-- every candidate reaches the floor 0
pub none_below : (p : Problem) → AllBelow p 0 → (v : ℕ) → v < p.count → IsCandidate p v → ⊥
none_below p all v inside (w, is) = let low = all v w inside is in omega (arith, low)

pub below_none : (p : Problem) → ((v : ℕ) → v < p.count → IsCandidate p v → ⊥) → (floor : ℕ) → AllBelow p floor
below_none p none floor = λ v w inside is. absurd (none v inside (w, is))
