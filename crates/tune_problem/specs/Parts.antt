-- Parts of the settings of a template.
use Rattle.std.specs.Prelude.{ℕ, ◌-◌, ◌*◌, ◌/◌, ◌≤◌, List, length, take, drop}
use Rattle.tune_problem.specs.declared.part.Part.{Part}

-- Part `number` of `parts`.
abbrev pub part : ℕ → ℕ → Part
part number parts = record { number = number; parts = parts }

-- Part 1 of 1 has all settings.
abbrev pub whole : Part
whole = part 1 1

-- Parts are counted from 1, and there are at most as many as settings.
pub record IsPart (p : Part) (count : ℕ) : Type 0 where
  pub some : 1 ≤ p.number
  pub within : p.number ≤ p.parts
  pub few : p.parts ≤ count

-- P holds of each number from 1 to `count`.
abbrev pub ForEach : (count : ℕ) → (ℕ → Type 0) → Type 0
ForEach count P = (n : ℕ) → 1 ≤ n → n ≤ count → P n

-- Part I of K of N settings begins with setting (I - 1) * N / K, by whole division.
abbrev pub part_first : Part → ℕ → ℕ
part_first p count = (p.number - 1) * count / p.parts

-- It ends just before setting I * N / K, with which the next part begins.
abbrev pub part_end : Part → ℕ → ℕ
part_end p count = p.number * count / p.parts

-- The items of a list that a part has: those from index `part_first` to just before `part_end`.
unfoldable pub part_of : {A : Type 0} → Part → List A → List A
part_of p xs = take (part_end p (length xs) - part_first p (length xs)) (drop (part_first p (length xs)) xs)
