-- Appending to a text.
use Rattle.std.specs.Prelude.{◌≡◌, ℕ, List, ◌++◌, Result, OnOk}

-- The new text begins with the old one.
pub record IsFront (old new : List ℕ) : Type 0 where
  pub rest : List ℕ
  pub appended : new ≡ old ++ rest

-- A call appends `text`. If memory runs out, what was there is still at the front.
abbrev pub AppendsText : {A E : Type 0} → Result A E → (old new text : List ℕ) → Type 0
AppendsText result old new text = OnOk result (new ≡ old ++ text) × IsFront old new
