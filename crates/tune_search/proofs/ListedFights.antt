-- Lists of fights, by index.
use Rattle.std.proofs.Common.{◌≡◌, ◌≢◌, ℕ, suc, ◌+◌, ◌<◌, ◌≤◌, arith, false, List, [], ◌∷◌, All, length, take, get_or, nat_eq, refl, ◌∙◌, ap, subst}
use Rattle.std.specs.List.{sum_by, range_with_len, IsDistinct, AllByRecursion}
use Rattle.std.specs.List.Sorted.{IsPermutation, IsStrictlyIncreasing, IsSorted}
use Rattle.std.specs.Ordering.{is_lt}
use Rattle.std.proofs.lemmas.List.{length-map, length-take, get_or-take, get_or-map}
use Rattle.std.proofs.lemmas.Bool.Decides.{nat_tests}
use Rattle.std.proofs.lemmas.List.Elements.{recursion_from_All, All-from_recursion}
use Rattle.std.proofs.lemmas.List.Sorted.{sum_by-IsPermutation, length_permutation, All-permutation, IsPermutation-map}
use Rattle.std.proofs.lemmas.List.FromFn.{length-range_with_len, get_or-range_with_len}
use Rattle.std.proofs.lemmas.Map.Keys.{IsDistinct-IsPermutation, IsDistinct-from_apart, apart_from_distinct}
use Rattle.rc_instr.specs.Warrior.{WarriorView}
use Rattle.tune_problem.specs.Problem.{Problem}
use Rattle.tune_problem.specs.Optimum.{cap_of, all_fights, score_of, most_of}
use Rattle.tune_problem.proofs.CapRows.{cap_is}
use Rattle.tune_search.specs.Plays.{played}
use Rattle.tune_search.specs.Visits.{IsListed}
use Rattle.tune_search.specs.State.{by_index}
use Rattle.tune_problem.specs.Valid.{listed_indices, IsCapRow}

apart_tests : (a b : ℕ) → nat_eq a b ≡ false → a ≢ b
apart_tests a b h e = grind (arith, nat_tests)

test_apart : (a b : ℕ) → a ≢ b → nat_eq a b ≡ false
test_apart a b h = grind (arith, nat_tests)

flips : (a b : ℕ) → nat_eq a b ≡ nat_eq b a
flips a b = grind (arith, nat_tests)

-- every index once
pub range_distinct : (n : ℕ) → IsDistinct nat_eq (range_with_len 0 n)
range_distinct n = IsDistinct-from_apart nat_eq (range_with_len 0 n) (λ i j d l m.
    let len : length (range_with_len 0 n) ≡ n = length-range_with_len 0 n in
    let a : get_or (range_with_len 0 n) i d ≡ 0 + i = get_or-range_with_len 0 n i d (omega arith) in
    let b : get_or (range_with_len 0 n) j d ≡ 0 + j = get_or-range_with_len 0 n j d (omega arith) in
    test_apart _ _ (λ e. omega arith))

pub prefix_distinct : (n j : ℕ) (order : List ℕ) → IsPermutation (range_with_len 0 n) order → IsDistinct nat_eq (take j order)
prefix_distinct n j order h =
    let all : IsDistinct nat_eq order = IsDistinct-IsPermutation nat_eq flips _ order h (range_distinct n) in
    IsDistinct-from_apart nat_eq (take j order) (λ a b d l m.
    let few : b < j = omega (arith, length-take j order) in
    let inside : b < length order = omega (arith, length-take j order) in
    let x : get_or (take j order) a d ≡ get_or order a d = get_or-take j order a d (omega arith) in
    let y : get_or (take j order) b d ≡ get_or order b d = get_or-take j order b d few in
    ap (λ k. nat_eq k (get_or (take j order) b d)) x ∙ ap (λ k. nat_eq (get_or order a d) k) y ∙ apart_from_distinct nat_eq order a b d all l inside)

in_order : (x y : ℕ × ℕ) → is_lt (by_index y x) ≡ false → x.0 ≤ y.0
in_order x y h = grind (arith, nat_tests)

-- what is sorted and has no index twice is rising
pub rising : (row : List (ℕ × ℕ)) → IsSorted by_index row → IsDistinct nat_eq (listed_indices row) → IsStrictlyIncreasing (listed_indices row)
rising row sorted distinct = λ k l.
    let n : length (listed_indices row) ≡ length row = length-map row (λ e. e.0) in
    let x : get_or (listed_indices row) k 0 ≡ (get_or row k (0, 0)).0 = get_or-map (λ e. e.0) row k (0, 0) 0 (omega arith) in
    let y : get_or (listed_indices row) (k + 1) 0 ≡ (get_or row (k + 1) (0, 0)).0 = get_or-map (λ e. e.0) row (k + 1) (0, 0) 0 (omega arith) in
    let le : (get_or row k (0, 0)).0 ≤ (get_or row (k + 1) (0, 0)).0 = in_order (get_or row k (0, 0)) (get_or row (k + 1) (0, 0)) (sorted k (0, 0) (omega arith) (omega arith)) in
    let ne : get_or (listed_indices row) k 0 ≢ get_or (listed_indices row) (k + 1) 0 = apart_tests _ _ (apart_from_distinct nat_eq (listed_indices row) k (k + 1) 0 distinct (omega arith) (omega arith)) in
    omega arith

pub played_numbers : (p : Problem) (w : WarriorView) (ks : List ℕ) → listed_indices (played p w ks) ≡ ks
played_numbers p w [] = refl
played_numbers p w (k ∷ ks) = ap (λ l. k ∷ l) (played_numbers p w ks)

pub sorted_is_listed : (p : Problem) (w : WarriorView) (ks : List ℕ) (row : List (ℕ × ℕ)) → IsDistinct nat_eq ks → IsPermutation (played p w ks) row → IsSorted by_index row → IsListed p w ks row
sorted_is_listed p w ks row distinct same sorted =
    let ns : IsPermutation (listed_indices (played p w ks)) (listed_indices row) = IsPermutation-map (λ e. e.0) (played p w ks) row same in
    let ns' : IsPermutation ks (listed_indices row) = subst (λ (l : List ℕ). IsPermutation l (listed_indices row)) (played_numbers p w ks) ns in
    record { same = same; rising = rising row sorted (IsDistinct-IsPermutation nat_eq flips ks (listed_indices row) ns' distinct) }

pub listed_numbers : (p : Problem) (w : WarriorView) (ks : List ℕ) (row : List (ℕ × ℕ)) → IsListed p w ks row → IsPermutation ks (listed_indices row)
listed_numbers p w ks row h = subst (λ (l : List ℕ). IsPermutation l (listed_indices row)) (played_numbers p w ks) (IsPermutation-map (λ e. e.0) (played p w ks) row h.same)

-- the caps are the same
pub listed_cap : (p : Problem) (w : WarriorView) (ks : List ℕ) (row : List (ℕ × ℕ)) → IsListed p w ks row → cap_of p w (listed_indices row) ≡ cap_of p w ks
listed_cap p w ks row h =
    let ns : IsPermutation ks (listed_indices row) = listed_numbers p w ks row h in
    let a : sum_by (score_of p w) (listed_indices row) ≡ sum_by (score_of p w) ks = sum_by-IsPermutation (score_of p w) ks (listed_indices row) ns in
    let b : sum_by (most_of p) (listed_indices row) ≡ sum_by (most_of p) ks = sum_by-IsPermutation (most_of p) ks (listed_indices row) ns in
    omega (arith, cap_is p w (listed_indices row), cap_is p w ks)

pub listed_length : (p : Problem) (w : WarriorView) (ks : List ℕ) (row : List (ℕ × ℕ)) → IsListed p w ks row → length row ≡ length ks
listed_length p w ks row h = length_permutation (played p w ks) row h.same ∙ length-map ks (λ k. (k, p.points w k))

abbrev IsEntry : Problem → WarriorView → ℕ × ℕ → Type 0
IsEntry p w e = (e.0 < p.fights) × (e.1 ≡ p.points w e.0)

entries_of : (p : Problem) (w : WarriorView) (ks : List ℕ) → AllByRecursion (λ k. k < p.fights) ks → AllByRecursion (IsEntry p w) (played p w ks)
entries_of p w [] h = h
entries_of p w (k ∷ ks) h = ((h.0, refl), entries_of p w ks h.1)

rises_on : (a : ℕ) (ks : List ℕ) → IsStrictlyIncreasing (a ∷ ks) → (0 < length ks → a < get_or ks 0 0) × IsStrictlyIncreasing ks
rises_on a ks h = (
  λ l. h 0 (omega arith),
  λ k l.
      let m : suc k + 1 < length (a ∷ ks) = omega arith in
      let e : suc k + 1 ≡ suc (k + 1) = omega arith in
      let s : get_or ks k 0 < get_or (a ∷ ks) (suc k + 1) 0 = h (suc k) m in
      let t : get_or (a ∷ ks) (suc k + 1) 0 ≡ get_or ks (k + 1) 0 = ap (λ n. get_or (a ∷ ks) n 0) e in
      omega arith,
)

cap_row : (p : Problem) (w : WarriorView) (a : ℕ) (row : List (ℕ × ℕ)) → (0 < length row → a ≤ get_or (listed_indices row) 0 0) → IsStrictlyIncreasing (listed_indices row) → AllByRecursion (IsEntry p w) row → IsCapRow p w a row
cap_row p w a [] first up all = tt
cap_row p w a (e ∷ row) first up all =
    let on = rises_on e.0 (listed_indices row) up in
    (first (omega arith), all.0.0, all.0.1, cap_row p w (e.0 + 1) row (λ l. let m : 0 < length (listed_indices row) = omega (arith, length-map row (λ e. e.0)) in omega (arith, on.0 m)) on.1 all.1)

pub listed_is_row : (p : Problem) (w : WarriorView) (ks : List ℕ) (row : List (ℕ × ℕ)) → All (λ k. k < p.fights) ks → IsListed p w ks row → IsCapRow p w 0 row
listed_is_row p w ks row below h =
    let those : All (IsEntry p w) (played p w ks) = All-from_recursion (IsEntry p w) _ (entries_of p w ks (recursion_from_All (λ k. k < p.fights) ks below)) in
    let these : AllByRecursion (IsEntry p w) row = recursion_from_All (IsEntry p w) row (All-permutation (IsEntry p w) _ row h.same those) in
    cap_row p w 0 row (λ l. omega arith) h.rising these

pub order_below : (p : Problem) (order : List ℕ) → IsPermutation (all_fights p) order → All (λ k. k < p.fights) order
order_below p order h = All-permutation (λ k. k < p.fights) _ order h (λ k d l.
    let len : length (all_fights p) ≡ p.fights = length-range_with_len 0 p.fights in
    let at : get_or (all_fights p) k d ≡ 0 + k = get_or-range_with_len 0 p.fights k d (omega arith) in
    omega arith)

pub All-take : (n j : ℕ) (ks : List ℕ) → All (λ k. k < n) ks → All (λ k. k < n) (take j ks)
All-take n j ks h = λ k d l.
    let at : get_or (take j ks) k d ≡ get_or ks k d = get_or-take j ks k d (omega (arith, length-take j ks)) in
    let below : get_or ks k d < n = h k d (omega (arith, length-take j ks)) in
    omega arith
