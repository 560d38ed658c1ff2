-- Going through the records of a schedule.
use Rattle.std.proofs.Common.{◌≡◌, ◌<◌, ◌≤◌, ◌+◌, ℕ, false, List, [], ◌∷◌, ◌++◌, Ok, Err, refl, sym, ◌∙◌, ap, arith, append_assoc, length, length-append}
use Rattle.std.specs.Prelude.{Result, nat_le}
use Rattle.std.proofs.lemmas.Bool.Decides.{nat_tests}
use borrow.Author.Tests.{le-leb}
use Rattle.rc_instr.specs.Results.{mapped, and_then}
use Rattle.rc_instr.specs.Rules.{RulesView}
use Rattle.tables.specs.Records.{Fields}
use Rattle.mars_fight.specs.Limits.{MOST_FIGHTS}
use Rattle.mars_fight.specs.Faults.{at_row}
use Rattle.mars_fight.specs.Schedule.{fight_of, fights_from}
use Rattle.mars_fight.specs.declared.fight.Fight.{Fight}
use Rattle.mars_fight.specs.declared.record.Columns.{Columns}
use Rattle.mars_fight.specs.declared.fault.ScheduleFault.{ScheduleFault}
use Rattle.mars_fight.specs.declared.fault.ScheduleFaultKind.{ScheduleFaultKind}
use Rattle.mars_fight.specs.declared.fault.ScheduleFaultKind.TheVariants.{TooMany}

-- nothing was read yet
pub begun : (all : Result (List Fight) ScheduleFault) → all ≡ mapped (λ fights. [] ++ fights) all
begun (Ok fights) = refl
begun (Err e) = refl

-- one more fight was read
pub pushed : (read : List Fight) (fight : Fight) (more all : Result (List Fight) ScheduleFault) → all ≡ and_then (λ fights. Ok (fight ∷ fights)) more
    → mapped (λ fights. read ++ fights) all ≡ mapped (λ fights. (read ++ fight ∷ []) ++ fights) more
pushed read fight (Ok fights) all e = ap (mapped (λ xs. read ++ xs)) e ∙ ap Ok (sym (append_assoc read (fight ∷ []) fights))
pushed read fight (Err f) all e = ap (mapped (λ xs. read ++ xs)) e

module _ (r : RulesView) (n : ℕ) (m : Columns) (row : ℕ) (fields : Fields) (rest : List Fields) where
  -- a record that is a fight, and those after it
  pub one_read : (fight : Fight) → row ≤ MOST_FIGHTS → fight_of r n m fields ≡ Ok fight → fights_from r n m row (fields ∷ rest) ≡ and_then (λ fights. Ok (fight ∷ fights)) (fights_from r n m (row + 1) rest)
  one_read fight few e = rw (le-leb row MOST_FIGHTS few, e) refl

  -- a record that is no fight
  pub wrong_at : (kind : ScheduleFaultKind) → row ≤ MOST_FIGHTS → fight_of r n m fields ≡ Err kind → fights_from r n m row (fields ∷ rest) ≡ Err (at_row row kind)
  wrong_at kind few e = rw (le-leb row MOST_FIGHTS few, e) refl

  -- a record after `MOST_FIGHTS` fights
  pub one_too_many : MOST_FIGHTS < row → fights_from r n m row (fields ∷ rest) ≡ Err (at_row row TooMany)
  one_too_many many =
      let no : nat_le row MOST_FIGHTS ≡ false = grind (arith, nat_tests, many) in
      rw no refl

-- one more record is read
pub one_more : (r : RulesView) (n : ℕ) (m : Columns) (read : List Fight) (fields : Fields) (rest : List Fields) (fight : Fight) (all : Result (List Fight) ScheduleFault)
    → all ≡ mapped (λ more. read ++ more) (fights_from r n m (length read + 1) (fields ∷ rest)) → length read < MOST_FIGHTS → fight_of r n m fields ≡ Ok fight
    → all ≡ mapped (λ more. (read ++ fight ∷ []) ++ more) (fights_from r n m (length (read ++ fight ∷ []) + 1) rest)
one_more r n m read fields rest fight all so_far few e =
    let k : length (read ++ fight ∷ []) ≡ length read + 1 = length-append read (fight ∷ []) in
    rw k (so_far ∙ pushed read fight _ _ (one_read r n m (length read + 1) fields rest fight (omega (arith, few)) e))
