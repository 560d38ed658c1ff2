-- The count of an arena goes on fight by fight.
use Rattle.std.proofs.Common.{◌≡◌, ℕ, ◌+◌, ◌*◌, ◌<◌, ◌≤◌, ◌∙◌, arith, ap, sym, List, [], ◌∷◌, ◌++◌, length, length-append, add-zero}
use Rattle.std.specs.Prelude.{◌^◌}
use Rattle.mars_core.specs.Arena.{fights_after}
use Rattle.mars_fight.specs.Limits.{MOST_FIGHTS}
use Rattle.tune_template.specs.Limits.{MOST_SETTINGS}

pub none_counted : {X : Type 0} (fights : ℕ) (list : List X) → list ≡ [] → fights ≡ fights + length list
none_counted fights list e = sym (ap (λ l. fights + length l) e ∙ add-zero fights)

pub one_counted : {X : Type 0} (first now next : ℕ) (list more : List X) (x : X) → more ≡ list ++ x ∷ [] → next ≡ fights_after now 1
    → (first + length list < 2 ^ 64 → now ≡ first + length list) → first + length more < 2 ^ 64 → next ≡ first + length more
one_counted first now next list more x e n h small =
    let long : length more ≡ length list + 1 = ap length e ∙ length-append list (x ∷ []) in
    let before : now ≡ first + length list = h (omega arith) in
    omega arith

-- no search plays more fights than the count can hold
pub small_count : (fights visits more count : ℕ) → fights ≤ MOST_FIGHTS * visits → visits < count → count ≤ MOST_SETTINGS → more ≤ MOST_FIGHTS → fights + more < 2 ^ 64
small_count fights visits more count room inside few less = omega arith
