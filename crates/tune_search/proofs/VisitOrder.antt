-- The order of the visits.
use Rattle.std.proofs.Common.{◌≡◌, ℕ, suc, ◌<◌, ◌≤◌, arith, sym, ◌∙◌, ap}
use Rattle.std.proofs.lemmas.Bool.Decides.{nat_tests}
use Rattle.tune_search.specs.Visits.{setting_visited, visits_before}

pub before_visited : (s k : ℕ) → visits_before s (setting_visited s k) ≡ k
before_visited s k = grind (arith, nat_tests)

pub visited_before : (s v : ℕ) → setting_visited s (visits_before s v) ≡ v
visited_before s v = grind (arith, nat_tests)

pub visited_below : (s n k : ℕ) → s < n → k < n → setting_visited s k < n
visited_below s n k a b = grind (arith, nat_tests)

pub before_below : (s n v : ℕ) → s < n → v < n → visits_before s v < n
before_below s n v a b = grind (arith, nat_tests)

pub none_before : (s v : ℕ) → visits_before s v ≡ 0 → v ≡ s
none_before s v h = grind (arith, nat_tests)

pub before_start : (s : ℕ) → visits_before s s ≡ 0
before_start s = grind (arith, nat_tests)

-- before a setting other than the start setting, that one and lesser ones are visited
pub lesser : (s u v : ℕ) → visits_before s u < visits_before s v → (u ≡ s → u < v) → u < v
lesser s u v h other = grind (arith, nat_tests)

pub is_visited : (s v k : ℕ) → visits_before s v ≡ k → v ≡ setting_visited s k
is_visited s v k h = sym (visited_before s v) ∙ ap (setting_visited s) h

pub visited_early : (s k : ℕ) → suc k ≤ s → setting_visited s (suc k) ≡ k
visited_early s k l = grind (arith, nat_tests)

pub visited_late : (s k : ℕ) → s < k → setting_visited s k ≡ k
visited_late s k l = grind (arith, nat_tests)
