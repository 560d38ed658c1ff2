-- What the tests of a row say.
use Rattle.std.proofs.Common.{◌≡◌, ℕ, zero, suc, ◌+◌, arith, true, List, [], ◌∷◌, length, map, refl, sym, ◌∙◌, ap}
use Rattle.std.specs.List.{range_with_len}
use Rattle.std.proofs.lemmas.Bool.{and_from, and_parts, leb-true, le-leb, ltb-true, lt-ltb, eqb-true, eq-eqb}
use Rattle.std.proofs.lemmas.List.{length-map}
use Rattle.std.proofs.lemmas.List.FromFn.{length-range_with_len}
use Rattle.rc_instr.specs.Warrior.{WarriorView}
use Rattle.tune_problem.specs.Problem.{Problem}
use Rattle.tune_problem.specs.Optimum.{all_fights}
use Rattle.tune_problem.specs.Valid.{listed_indices, IsCapRow}
use Rattle.tune_problem.specs.Exact.{lists_all}
use Rattle.tune_problem.proofs.ListedRanks.{up_to, lists_range}
use Rattle.tune_cert.specs.Checks.{rises, are_fights, have_points}

-- ---- a cap row rises and has its points

pub cap_row_of : (p : Problem) (w : WarriorView) (a : ℕ) (row : List (ℕ × ℕ)) → rises a row ≡ true → have_points p w row ≡ true → IsCapRow p w a row
cap_row_of p w a [] r h = tt
cap_row_of p w a (e ∷ row) r h =
    let up = and_parts _ _ r in
    let points = and_parts _ _ h in
    let here = and_parts _ _ points.0 in
    (leb-true a e.0 up.0, ltb-true e.0 p.fights here.0, eqb-true e.1 (p.points w e.0) here.1, cap_row_of p w (e.0 + 1) row up.1 points.1)

pub cap_row_rises : (p : Problem) (w : WarriorView) (a : ℕ) (row : List (ℕ × ℕ)) → IsCapRow p w a row → rises a row ≡ true
cap_row_rises p w a [] h = refl
cap_row_rises p w a (e ∷ row) h = and_from _ _ (le-leb a e.0 h.0) (cap_row_rises p w (e.0 + 1) row h.3)

pub cap_row_points : (p : Problem) (w : WarriorView) (a : ℕ) (row : List (ℕ × ℕ)) → IsCapRow p w a row → have_points p w row ≡ true
cap_row_points p w a [] h = refl
cap_row_points p w a (e ∷ row) h =
    and_from _ _ (and_from _ _ (lt-ltb e.0 p.fights h.1) (eq-eqb e.1 (p.points w e.0) h.2)) (cap_row_points p w (e.0 + 1) row h.3)

pub points_fights : (p : Problem) (w : WarriorView) (row : List (ℕ × ℕ)) → have_points p w row ≡ true → are_fights p row ≡ true
points_fights p w [] h = refl
points_fights p w (e ∷ row) h =
    let points = and_parts _ _ h in
    and_from _ _ (and_parts _ _ points.0).0 (points_fights p w row points.1)

-- ---- fights that rise, whatever points are listed

-- the same fights, with the points of a warrior
abbrev pub played : Problem → WarriorView → List (ℕ × ℕ) → List (ℕ × ℕ)
played p w row = map (λ e. (e.0, p.points w e.0)) row

pub played_row : (p : Problem) (w : WarriorView) (a : ℕ) (row : List (ℕ × ℕ)) → rises a row ≡ true → are_fights p row ≡ true → IsCapRow p w a (played p w row)
played_row p w a [] r f = tt
played_row p w a (e ∷ row) r f =
    let up = and_parts _ _ r in
    let here = and_parts _ _ f in
    (leb-true a e.0 up.0, ltb-true e.0 p.fights here.0, refl, played_row p w (e.0 + 1) row up.1 here.1)

pub played_indices : (p : Problem) (w : WarriorView) (row : List (ℕ × ℕ)) → listed_indices (played p w row) ≡ listed_indices row
played_indices p w [] = refl
played_indices p w (e ∷ row) = ap (λ ks. e.0 ∷ ks) (played_indices p w row)

-- ---- all fights by index

indices_are : (n a m : ℕ) (row : List (ℕ × ℕ)) → n ≡ a + m → lists_all n a row ≡ true → listed_indices row ≡ range_with_len a m
indices_are n a zero [] is h = refl
indices_are n a zero (e ∷ row) is h = absurd (omega (arith, up_to n a (e ∷ row) h, is))
indices_are n a (suc m) [] is h = absurd (omega (arith, up_to n a [] h, is))
indices_are n a (suc m) (e ∷ row) is h =
    let parts = and_parts _ _ h in
    ap (λ k. k ∷ listed_indices row) (eqb-true e.0 a parts.0) ∙ ap (λ ks. a ∷ ks) (indices_are n (a + 1) m row (omega arith) parts.1)

pub all_indices : (p : Problem) (row : List (ℕ × ℕ)) → lists_all p.fights 0 row ≡ true → listed_indices row ≡ all_fights p
all_indices p row h = indices_are p.fights 0 p.fights row (omega arith) h

pub indices_all : (p : Problem) (row : List (ℕ × ℕ)) → listed_indices row ≡ all_fights p → lists_all p.fights 0 row ≡ true
indices_all p row h = lists_range p.fights 0 p.fights row (omega arith) h

pub all_listed : (p : Problem) (row : List (ℕ × ℕ)) → listed_indices row ≡ all_fights p → length row ≡ p.fights
all_listed p row h = sym (length-map row (λ e. e.0)) ∙ (ap length h ∙ length-range_with_len 0 p.fights)
