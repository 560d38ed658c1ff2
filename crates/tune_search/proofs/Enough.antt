-- When a setting has fought enough.
use Rattle.std.proofs.Common.{◌≡◌, ℕ, ◌<◌, ◌≤◌, arith, Bool, true, false, List, take, ◌⊎◌, inl, inr, refl}
use Rattle.rc_instr.specs.Warrior.{WarriorView}
use Rattle.tune_problem.specs.Problem.{Problem}
use Rattle.tune_problem.specs.Optimum.{cap_of}
use Rattle.tune_search.specs.Order.{drops, enough}
use Rattle.tune_problem.specs.declared.watcher.Best.{Best}
use Rattle.mars_core.proofs.Least.{least_is, least_is_least}
use Rattle.mars_core.specs.Fight.{least}
use Rattle.std.proofs.lemmas.Bool.Decides.{leb_tells}
use Rattle.tune_problem.specs.declared.aim.Aim.{Aim}
use Rattle.tune_search.specs.declared.method.Method.{Method}
use Rattle.tune_search.specs.declared.method.Method.TheVariants.{PlayingAll}

-- k fights are enough if at no cap before the setting is dropped, and then it is, or all are played
pub enough_is : (p : Problem) (method : Method) (aim : Aim) (w : WarriorView) (order : List ℕ) (v : ℕ) (ranking : List Best) (k : ℕ) → k ≤ p.fights →
    ((j : ℕ) → j < k → drops method aim (cap_of p w (take j order)) v ranking ≡ false) → (k < p.fights → drops method aim (cap_of p w (take k order)) v ranking ≡ true) →
    enough p method aim w order v ranking ≡ k
unfolding enough
enough_is p method aim w order v ranking k le before here =
    least_is (λ j. drops method aim (cap_of p w (take j order)) v ranking) p.fights k le before here

-- all fights, if none is dropped
pub all_enough : (p : Problem) (aim : Aim) (w : WarriorView) (order : List ℕ) (v : ℕ) (ranking : List Best) → enough p PlayingAll aim w order v ranking ≡ p.fights
all_enough p aim w order v ranking = enough_is p PlayingAll aim w order v ranking p.fights (omega arith) (λ j l. refl) (λ l. absurd (omega arith))

-- what is least is the bound, or the test holds there
pub least_cases : (test : ℕ → Bool) (n : ℕ) → (least test n ≡ n) ⊎ (test (least test n) ≡ true)
least_cases test n =
    let h = least_is_least test n in
    let within : least test n ≤ n = h.within in
    elim (leb_tells n (least test n)) [ inl p ↦ inl (omega arith) | inr p ↦ inr (h.here (omega arith)) ]
