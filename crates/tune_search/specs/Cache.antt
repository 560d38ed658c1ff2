-- What contracts see of a cache of load files.
use Rattle.std.specs.Prelude.{ℕ, Bool, List, nat_eq}
use Rattle.tune_search.specs.declared.fought.Fought.{Fought}
use Rattle.std.specs.Cmp.Lexicographic.{pointwise}

-- Load files of warriors, each with the fought setting that makes it, the last used first; and how
-- many there may be.
pub record CacheView : Type 0 where
  pub known : List (List ℕ × Fought)
  pub capacity : ℕ

abbrev pub cache_view : List (List ℕ × Fought) → ℕ → CacheView
cache_view known capacity = record { known = known; capacity = capacity }

abbrev pub same_text : List ℕ → List ℕ → Bool
same_text a b = pointwise nat_eq a b
