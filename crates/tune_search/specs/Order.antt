-- The order in which the fights of a setting are played, and how many of them are.
use Rattle.std.specs.Prelude.{◌≡◌, ℕ, ◌<◌, Bool, true, false, not, ◌==◌, if◌then◌else◌, List, ◌++◌, length, map, take, All, Option, Some, None}
use Rattle.std.specs.List.{filter}
use Rattle.std.specs.List.Sorted.{IsPermutation}
use Rattle.rc_instr.specs.Warrior.{WarriorView}
use Rattle.mars_core.specs.Fight.{least}
use Rattle.tune_problem.specs.Problem.{Problem}
use Rattle.tune_problem.specs.Optimum.{all_fights, cap_of}
use Rattle.tune_problem.specs.Ranking.{contends}
use Rattle.tune_search.specs.Plays.{played}
use Rattle.tune_problem.specs.declared.aim.Aim.{Aim}
use Rattle.tune_search.specs.declared.method.Method.{Method}
use Rattle.tune_search.specs.declared.method.Method.TheVariants.{Dropping, PlayingAll}
use Rattle.tune_problem.specs.declared.watcher.Best.{Best}

-- The fights that gave these points, in their order.
abbrev pub with_points : (points : ℕ) → (fights : List (ℕ × ℕ)) → List ℕ
with_points x fights = map (λ e. e.0) (filter (λ e. e.1 == x) fights)

-- The fights by rising points. Fights with equal points keep their order.
abbrev pub by_points : List (ℕ × ℕ) → List ℕ
by_points fights = with_points 0 fights ++ with_points 1 fights ++ with_points 3 fights

-- The order of a setting's fights, given whether it is the start setting, and the warrior of the
-- start setting.
abbrev pub order_after : Problem → (is_start : Bool) → (start : Option WarriorView) → List ℕ
order_after p true start = all_fights p
order_after p false None = all_fights p
order_after p false (Some w) = by_points (played p w (all_fights p))

-- The order of setting v's fights: by the points of the start setting in them, then by index. By
-- index alone for the start setting itself, and for all if the start setting does not assemble.
unfoldable pub fight_order : Problem → ℕ → List ℕ
fight_order p v = order_after p (v == p.start) (p.warrior p.start)

-- An order of fights has each fight of the schedule once.
pub record IsFightOrder (p : Problem) (order : List ℕ) : Type 0 where
  pub all : length order ≡ p.fights
  pub once : IsPermutation (all_fights p) order
  pub below : All (λ k. k < p.fights) order

-- The aim that decides when setting v is dropped. The start setting has no floor, so that it plays
-- all its fights.
abbrev pub aim_at : Problem → Aim → (v : ℕ) → Aim
aim_at p aim v = record { keep = aim.keep; floor = if v == p.start then 0 else aim.floor }

-- Setting v is dropped at this cap if the method drops settings, and the cap does not contend.
abbrev pub drops : Method → Aim → (cap v : ℕ) → (ranking : List Best) → Bool
drops (Dropping capacity) aim cap v ranking = not (contends aim cap v ranking)
drops PlayingAll aim cap v ranking = false

-- How many fights of an order are played: the least number after which setting v, with warrior w,
-- is dropped, or all of them. It may be 0.
unfoldable pub enough : Problem → Method → Aim → WarriorView → (order : List ℕ) → (v : ℕ) → (ranking : List Best) → ℕ
enough p method aim w order v ranking = least (λ k. drops method aim (cap_of p w (take k order)) v ranking) p.fights

-- The fights of an order that setting v plays before it is dropped: its first `enough`.
abbrev pub enough_fights : Problem → Method → Aim → WarriorView → (order : List ℕ) → (v : ℕ) → (ranking : List Best) → List ℕ
enough_fights p method aim w order v ranking = take (enough p method aim w order v ranking) order
