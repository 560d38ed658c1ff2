-- Totals, caps, and the optimum.
use Rattle.std.specs.Prelude.{◌≡◌, ℕ, ◌+◌, ◌-◌, ◌*◌, ◌<◌, ◌≤◌, Bool, ◌&&◌, ◌||◌, nat_lt, ◌==◌, List, Some}
use Rattle.std.specs.List.{sum_by, count_by, range_with_len}
use Rattle.std.specs.Option.{is_some}
use Rattle.rc_instr.specs.Warrior.{WarriorView}
use Rattle.tune_problem.specs.Problem.{Problem}
use Rattle.tune_problem.specs.declared.watcher.Best.{Best}

-- A setting is a candidate if it assembles.
abbrev pub IsCandidate : Problem → ℕ → Type 0
IsCandidate p v = (w : WarriorView) × (p.warrior v ≡ Some w)

abbrev pub all_fights : Problem → List ℕ
all_fights p = range_with_len 0 p.fights

-- The score of a warrior in a fight: its points there, times the weight of the fight.
abbrev pub score_of : Problem → WarriorView → ℕ → ℕ
score_of p w = λ k. p.points w k * p.weight k

-- The greatest score that a fight can give: 3 times its weight.
abbrev pub most_of : Problem → ℕ → ℕ
most_of p = λ k. 3 * p.weight k

-- The total of a warrior is the sum of its scores in all fights.
unfoldable pub total_of : Problem → WarriorView → ℕ
total_of p w = sum_by (score_of p w) (all_fights p)

-- The greatest total that a warrior can have.
unfoldable pub greatest_of : Problem → ℕ
greatest_of p = sum_by (most_of p) (all_fights p)

-- A setting has the total of its warrior.
abbrev pub HasTotal : Problem → ℕ → ℕ → Type 0
HasTotal p v t = (w : WarriorView) × (p.warrior v ≡ Some w) × (total_of p w ≡ t)

-- The optimum is a candidate. No candidate has a greater total, and none with the same total comes
-- first.
pub record IsOptimum (p : Problem) (v : ℕ) : Type 0 where
  pub warrior : WarriorView
  pub inside : v < p.count
  pub candidate : p.warrior v ≡ Some warrior
  pub greatest : (u : ℕ) (other : WarriorView) → u < p.count → p.warrior u ≡ Some other → total_of p other ≤ total_of p warrior
  pub first : (u : ℕ) (other : WarriorView) → u < p.count → p.warrior u ≡ Some other → total_of p other ≡ total_of p warrior → v ≤ u

-- The setting is the optimum, and has this total.
abbrev pub IsBest : Problem → Best → Type 0
IsBest p best = IsOptimum p best.vector × HasTotal p best.vector best.total

-- The number of candidates.
unfoldable pub candidates_of : Problem → ℕ
candidates_of p = count_by (λ v. is_some (p.warrior v)) (range_with_len 0 p.count)

-- The most that the fights besides these can give.
unfoldable pub most_besides : Problem → List ℕ → ℕ
most_besides p fights = greatest_of p - sum_by (most_of p) fights

-- The cap of a warrior by some fights: its scores in them, and the most that the others can give.
unfoldable pub cap_of : Problem → WarriorView → List ℕ → ℕ
cap_of p w fights = sum_by (score_of p w) fights + most_besides p fights

-- Cap c of setting v beats total t of setting w if it is greater, or equal while v comes first.
abbrev pub beats : ℕ → ℕ → ℕ → ℕ → Bool
beats c v t w = nat_lt t c || ((c == t) && nat_lt v w)
