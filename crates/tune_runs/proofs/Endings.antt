-- How runs of tunings end.
use Rattle.std.proofs.Common.{◌≡◌, ◌≢◌, ◌⊎◌, Bool, false, inl, inr, refl, sym, Result, Ok, Err, IfErr, IsErrAnd, IsErrOf, IsTrue, ◌∙◌}
use Rattle.std.proofs.lemmas.Result.{err_from_is_err_and}
use Rattle.rc_instr.specs.Outlet.{OutletView}
use Rattle.tune_problem.specs.Inputs.{InputsView}
use Rattle.tune_problem.specs.Problem.{Problem, problem_of}
use Rattle.tune_search.specs.Found.{NoneAssembles}
use Rattle.tune_search.specs.declared.fault.SearchFault.{SearchFault}
use Rattle.tune_search.specs.declared.fault.SearchFault.TheVariants.{NoCandidate as NoneFound, OutOfMemory as SearchMemory}
use Rattle.tune_runs.specs.Runs.{IsOutOfMemory, Writer}
use Rattle.tune_runs.specs.TuneRun.{Texts, fault_of, meaning_of, HasNoCandidate, IsTuneRun}
use Rattle.tune_runs.specs.declared.fault.RunFault.{RunFault}
use Rattle.tune_runs.specs.declared.fault.RunFault.TheVariants.{NoCandidate, Write, OutOfMemory}

not_failed : (b : Bool) → b ≡ false → IsTrue b → ⊥
not_failed b is failed = cc

other_fault : (X : Type 0) (e : RunFault) (r : Result X RunFault) → r ≡ Err e → e ≢ Write → IsErrOf r Write → ⊥
other_fault X e r is other same = other (search (sym is ∙ same))

-- a tuning that returns a fault before it writes has written nothing
pub refused_tuning : (X : Type 0) (r : Result X RunFault) (e : RunFault) (t : Texts) (Wrote : (report cert : Writer) → Type 0) (report cert : OutletView)
    → r ≡ Err e → report.failed ≡ false → cert.failed ≡ false → e ≢ Write
    → ((¬ IsOutOfMemory e) → (meaning_of t ≡ Err e) ⊎ ((e ≡ NoCandidate) × HasNoCandidate t)) → IsTuneRun t Wrote r report report cert cert
refused_tuning X r e t Wrote report cert is whole_report whole_cert other says = record {
  done = rw is tt;
  stopped = λ same. absurd (other_fault X e r is other same);
  write = (
    λ same. absurd (other_fault X e r is other same),
    λ failed. absurd (elim failed [ inl f ↦ not_failed report.failed whole_report f | inr f ↦ not_failed cert.failed whole_cert f ]),
  );
  unwritten = rw is (λ o. (refl, refl));
  refused = rw is (λ o. says);
  order = λ f. refl;
  before = inl refl;
  flushed = rw is tt;
}

-- a search that ends without a result
ended_by : {A : Type 0} (r : Result A RunFault) (p : Problem) (e : RunFault) (s : SearchFault) → r ≡ Err e → e ≡ fault_of s
    → (s ≡ NoneFound → NoneAssembles p) → IfErr r (λ e. (e ≡ OutOfMemory) ⊎ ((e ≡ NoCandidate) × NoneAssembles p))
ended_by r p e NoneFound is of none = rw is (inr (of, none refl))
ended_by r p e SearchMemory is of none = rw is (inl of)

pub search_ended : {A : Type 0} (r : Result A RunFault) (p : Problem) (s : SearchFault) → IsErrAnd r (λ e. e ≡ fault_of s)
    → (s ≡ NoneFound → NoneAssembles p) → IfErr r (λ e. (e ≡ OutOfMemory) ⊎ ((e ≡ NoCandidate) × NoneAssembles p))
search_ended r p s is none = let q = err_from_is_err_and r is in ended_by r p q.0 s q.1 q.2 none

-- what a search without a result says of the texts
pub search_other : (e : RunFault) (P : Type 0) → (e ≡ OutOfMemory) ⊎ ((e ≡ NoCandidate) × P) → e ≢ Write
search_other e P (inl memory) = λ w. let q : OutOfMemory ≡ Write = sym memory ∙ w in cc
search_other e P (inr none) = λ w. let q : NoCandidate ≡ Write = sym none.0 ∙ w in cc

pub search_refused : (e : RunFault) (t : Texts) (i : InputsView) → meaning_of t ≡ Ok i → (e ≡ OutOfMemory) ⊎ ((e ≡ NoCandidate) × NoneAssembles (problem_of i))
    → (¬ IsOutOfMemory e) → (meaning_of t ≡ Err e) ⊎ ((e ≡ NoCandidate) × HasNoCandidate t)
search_refused e t i means (inl memory) known = absurd (known memory)
search_refused e t i means (inr none) known = inr (none.0, (i, means, none.1))
