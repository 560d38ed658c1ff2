-- Outlets.
use Rattle.std.specs.Prelude.{ℕ, Bool, List, Option}

-- The bytes that the writer holds, if they are known; whether a write or a flush has failed; and
-- whether the last call of the writer itself was a flush that succeeded.
pub record OutletView : Type 0 where
  pub bytes : Option (List ℕ)
  pub failed : Bool
  pub flushed : Bool
