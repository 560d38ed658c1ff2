-- What a floor does to what is found.
use Rattle.std.proofs.Common.{◌≡◌, ℕ, ◌<◌, ◌≤◌, arith, Bool, true, false, Option, Some, None, refl}
use Rattle.std.specs.Prelude.{nat_le, if◌then◌else◌}
use Rattle.std.proofs.lemmas.Bool.Decides.{nat_tests}
use Rattle.std.specs.Option.{option_map}
use Rattle.tune_problem.specs.Problem.{Problem}
use Rattle.tune_problem.specs.Optimum.{HasTotal, IsOptimum, total_of}
use Rattle.tune_problem.specs.declared.watcher.Best.{Best}
use Rattle.tune_problem.proofs.Certificates.{optimum_one, some_is, total_one}
use Rattle.tune_search.specs.Findings.{IsBestFrom}

-- the optimum is kept if it reaches the floor, and otherwise hidden
module _ (p : Problem) (floor v t : ℕ) (optimum : IsOptimum p v) (total : HasTotal p v t) where
  pub kept : (best : Option Best) → IsBestFrom p floor best → floor ≤ t → best ≡ Some (record { vector = v; total = t })
  kept None h le = absurd (let short : total_of p total.0 < floor = h v total.0 optimum.inside total.1 in omega (arith, short, le, total.2))
  kept (Some b) h le =
      let same : b.vector ≡ v = optimum_one p b.vector v h.0.0 optimum in
      let even : b.total ≡ t = total_one p b.vector v b.total t same h.0.1 total in
      λ i. Some (record { vector = same i; total = even i })

  pub hidden : (best : Option Best) → IsBestFrom p floor best → t < floor → best ≡ None
  hidden None h short = refl
  hidden (Some b) h short =
      let same : b.vector ≡ v = optimum_one p b.vector v h.0.0 optimum in
      let even : b.total ≡ t = total_one p b.vector v b.total t same h.0.1 total in
      absurd (omega (arith, even, short, h.1))

  -- so the total says which
  pub by_total : (best : Option Best) → IsBestFrom p floor best → best ≡ (if nat_le floor t then Some (record { vector = v; total = t }) else None)
  by_total best h = by_test (nat_le floor t) refl
    where
      by_test : (b : Bool) → nat_le floor t ≡ b → best ≡ (if b then Some (record { vector = v; total = t }) else None)
      by_test true e = kept best h (grind (arith, nat_tests))
      by_test false e = hidden best h (grind (arith, nat_tests))

pub unmapped : {X Y : Type 0} (f : X → Y) (o : Option X) → None ≡ option_map f o → o ≡ None
unmapped f None h = refl
unmapped f (Some x) h = absurd (cc)

pub mapped_some : {X Y : Type 0} (f : X → Y) (o : Option X) (y : Y) → Some y ≡ option_map f o → (x : X) × (o ≡ Some x) × (y ≡ f x)
mapped_some f None y h = absurd (cc)
mapped_some f (Some x) y h = (x, refl, some_is y (f x) h)
