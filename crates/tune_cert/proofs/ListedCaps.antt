-- The cap of a row, by what it lists.
use Rattle.std.proofs.Common.{◌≡◌, ℕ, ◌-◌, ◌*◌, ◌≤◌, arith, true, List, [], ◌∷◌, length, refl, sym, ap}
use Rattle.std.specs.List.{sum_by}
use Rattle.std.proofs.lemmas.List.{length-map}
use Rattle.std.proofs.lemmas.List.Sums.{sum_by-cons}
use Rattle.rc_instr.specs.Warrior.{WarriorView}
use Rattle.tune_problem.specs.Problem.{Problem, IsProblem}
use Rattle.tune_problem.specs.Optimum.{most_of, greatest_of, most_besides}
use Rattle.tune_problem.specs.Valid.{listed_indices}
use Rattle.tune_problem.proofs.CapRows.{cons_most, capped, row_few}
use Rattle.tune_cert.specs.Checks.{rises, are_fights}
use Rattle.tune_cert.specs.Steps.{listed_most}
use Rattle.tune_cert.proofs.RowChecks.{played_row, played_indices}

-- what a row's fights can give, by the row
most_row : (p : Problem) (row : List (ℕ × ℕ)) → listed_most p row ≡ sum_by (most_of p) (listed_indices row)
most_row p [] = refl
most_row p (e ∷ row) = omega (arith, sum_by-cons (λ (x : ℕ × ℕ). 3 * p.weight x.0) e row, cons_most p e.0 (listed_indices row), most_row p row)

-- the most that the fights besides a row's can give, by the row
pub besides_row : (p : Problem) (row : List (ℕ × ℕ)) → most_besides p (listed_indices row) ≡ greatest_of p - listed_most p row
unfolding most_besides
besides_row p row = ap (λ n. greatest_of p - n) (sym (most_row p row))

module _ (p : Problem) (laws : IsProblem p) (row : List (ℕ × ℕ)) (up : rises 0 row ≡ true) (there : are_fights p row ≡ true) where
  -- any warrior shows it
  someone : WarriorView
  someone = record { code = []; start = 0 }

  -- the fights of a row cannot give more than all fights
  pub row_most : listed_most p row ≤ greatest_of p
  unfolding greatest_of
  row_most =
      let same = ap (sum_by (most_of p)) (played_indices p someone row) in
      omega (arith, most_row p row, same, (capped p laws someone p.fights 0 _ (omega arith) (played_row p someone 0 row up there)).most)

  -- a row has at most as many fights as there are
  pub few_rise : length row ≤ p.fights
  few_rise =
      let few = row_few p laws someone _ (played_row p someone 0 row up there) in
      omega (arith, few, length-map {B = ℕ × ℕ} row (λ (e : ℕ × ℕ). (e.0, p.points someone e.0)))
