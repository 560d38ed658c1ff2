-- What it says that a row is copied, or not.
use Rattle.std.proofs.Common.{◌≡◌, ℕ, ◌<◌, ◌≤◌, arith, true, false, ◌==◌, Option, Some, None, inl, inr}
use Rattle.std.proofs.lemmas.Bool.Decides.{nat_tests}
use Rattle.tune_problem.specs.Optimum.{beats}
use Rattle.tune_problem.proofs.Certificates.{Trails, not_beats, same_number, trails}
use Rattle.tune_search.specs.Visits.{visits_before}
use Rattle.tune_search.specs.Sharing.{copies, leads}
use Rattle.tune_problem.specs.declared.watcher.Best.{Best}
use Rattle.tune_search.proofs.Leads.{not_copied}
use Rattle.tune_search.proofs.VisitOrder.{lesser}

pub by_start : (s u v : ℕ) (l : Option Best) → copies s u v l ≡ true → u ≡ s
by_start s u v None h = absurd (grind (arith, nat_tests))
by_start s u v (Some l) h = grind (arith, nat_tests)

pub by_none : (s u v : ℕ) → copies s u v None ≡ true → ⊥
by_none s u v h = grind (arith, nat_tests)

pub by_lead : (s u v : ℕ) (l : Option Best) → copies s u v l ≡ true → leads u l ≡ true
by_lead s u v None h = absurd (grind (arith, nat_tests))
by_lead s u v (Some l) h = grind (arith, nat_tests)

pub by_vector : (s u v : ℕ) (l : Best) → copies s u v (Some l) ≡ true → l.vector ≡ u
by_vector s u v l h = grind (arith, nat_tests)

pub by_total : (s u v : ℕ) (l : Best) → copies s u v (Some l) ≡ true → beats l.total v l.total l.vector ≡ true
by_total s u v l h = grind (arith, nat_tests)

-- if v does not copy, its total does not beat the lead, as that of u does not
pub shares_trails : (s u v t z c : ℕ) → visits_before s u < visits_before s v → visits_before s z < visits_before s v → copies s u v (Some (record { total = t; vector = z })) ≡ false → beats c u t z ≡ false → beats c v t z ≡ false
shares_trails s u v t z c bu bz apart no_more =
    let behind : Trails c u t z = trails c u t z no_more in
    not_beats c v t z (record {
      no_more = behind.no_more;
      later = λ e. let zu : z ≤ u = behind.later e in
          elim (same_number u s) [
            | inl us ↦ elim (same_number z u) [
              | inl zs ↦ let uv : u ≤ v = not_copied s u v z apart us zs in omega arith
              | inr zs ↦ let zv : z < v = lesser s z v bz (λ f. absurd (omega arith)) in omega arith
            ]
            | inr us ↦ let uv : u < v = lesser s u v bu (λ f. absurd (us f)) in omega arith
          ];
    })

pub by_other : (s u v : ℕ) (l : Option Best) → copies s u v l ≡ true → (v == s) ≡ false
by_other s u v None h = absurd (by_none s u v h)
by_other s u v (Some l) h = grind (arith, nat_tests)
