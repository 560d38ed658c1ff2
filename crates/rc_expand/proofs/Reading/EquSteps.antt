-- The search for an EQU name.
use Rattle.std.proofs.Common.{◌≡◌, ℕ, false, List, Option, Some, None, refl, sym, ◌∙◌, ap}
use Rattle.std.specs.Prelude.{is_some, option_map}
use Rattle.rc_expand.specs.Names.{entry_of}
use Rattle.rc_expand.specs.Equs.{EquView, Equs}

still_some : (o : Option EquView) → is_some (option_map (λ (e : EquView). e.line) o) ≡ is_some o
still_some None = refl
still_some (Some e) = refl

-- a name whose line is not found is not found by its bytes either
pub not_found : (equs : Equs) (bytes name : List ℕ) (line : Option ℕ) → bytes ≡ name → line ≡ option_map (λ e. e.line) (entry_of equs name) → is_some line ≡ false → is_some (entry_of equs bytes) ≡ false
not_found equs bytes name line e l h = ap (λ n. is_some (entry_of equs n)) e ∙ (sym (still_some (entry_of equs name)) ∙ (ap is_some (sym l) ∙ h))
