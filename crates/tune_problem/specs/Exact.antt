-- The ranking that the rows of a certificate list, and rows that show that it is the first of the
-- ranking of all settings.
use Rattle.std.specs.Prelude.{◌≡◌, ℕ, zero, suc, ◌+◌, Bool, false, ◌&&◌, ◌==◌, if◌then◌else◌, List, [], ◌∷◌, length, slice_get, Option, Some, None, option_and_then}
use Rattle.tune_problem.specs.Problem.{Problem}
use Rattle.tune_problem.specs.Optimum.{most_besides}
use Rattle.tune_problem.specs.Valid.{listed_indices, listed_total}
use Rattle.tune_problem.specs.Ranking.{contends, next_ranking}
use Rattle.tune_problem.specs.declared.aim.Aim.{Aim}
use Rattle.tune_problem.specs.declared.cert.Row.{Row}
use Rattle.tune_problem.specs.declared.cert.Row.TheVariants.{Refused, Same, Cap}
use Rattle.tune_problem.specs.declared.watcher.Best.{Best}

-- ---- what a row lists

-- A cap row lists the fights from a to n - 1, in order.
abbrev pub lists_all : ℕ → ℕ → List (ℕ × ℕ) → Bool
lists_all n a [] = a == n
lists_all n a (e ∷ row) = (e.0 == a) && lists_all n (a + 1) row

-- The cap of a row: the scores that it lists, and the most that the other fights can give.
abbrev pub listed_cap : Problem → List (ℕ × ℕ) → ℕ
listed_cap p row = listed_total p row + most_besides p (listed_indices row)

-- The fights of a cap row. Other rows list none.
abbrev pub fights_of : Row → Option (List (ℕ × ℕ))
fights_of Refused = None
fights_of (Same u) = None
fights_of (Cap row) = Some row

-- The fights that are listed for the setting of a row: those of its cap row, or those of the cap
-- row to which it refers.
abbrev pub listed_for : List Row → Row → Option (List (ℕ × ℕ))
listed_for rows Refused = None
listed_for rows (Same u) = option_and_then fights_of (slice_get rows u)
listed_for rows (Cap row) = Some row

-- The fights that are listed for setting v.
abbrev pub listed_at : List Row → ℕ → Option (List (ℕ × ℕ))
listed_at rows v = option_and_then (listed_for rows) (slice_get rows v)

-- The total that fights show: the sum of their scores if they are all fights, in order.
abbrev pub shown_total : Problem → List (ℕ × ℕ) → Option ℕ
shown_total p row = if lists_all p.fights 0 row then Some (listed_total p row) else None

-- The total that the rows show of setting v.
abbrev pub total_at : Problem → List Row → ℕ → Option ℕ
total_at p rows v = option_and_then (shown_total p) (listed_at rows v)

-- ---- the ranking of these totals

-- The ranking after setting v, if the total of v is shown; else as it was.
abbrev pub ranking_shown : Aim → ℕ → Option ℕ → List Best → List Best
ranking_shown aim v None ranking = ranking
ranking_shown aim v (Some total) ranking = next_ranking aim total v ranking

-- The first K of the ranking of the settings below k whose totals are shown.
unfoldable pub ranking_below : Problem → Aim → List Row → ℕ → List Best
ranking_below p aim rows zero = []
ranking_below p aim rows (suc k) = ranking_shown aim k (total_at p rows k) (ranking_below p aim rows k)

-- The first K of the ranking that the rows list: of all settings whose totals they show.
abbrev pub listed_ranking : Problem → Aim → List Row → List Best
listed_ranking p aim rows = ranking_below p aim rows (length rows)

-- ---- exact rows

-- Rows are exact for an aim if no setting with a fight that is not listed contends, by the cap of
-- its listed fights, with the ranking that the rows list.
abbrev pub IsExact : Problem → Aim → List Row → Type 0
IsExact p aim rows =
    (v : ℕ) (fights : List (ℕ × ℕ)) → listed_at rows v ≡ Some fights → lists_all p.fights 0 fights ≡ false
    → contends aim (listed_cap p fights) v (listed_ranking p aim rows) ≡ false
