-- The line that says how a fight ended, from the candidate's side.
use Rattle.std.specs.Prelude.{ℕ, ◌==◌, if◌then◌else◌, List, ◌++◌, codes}
use Rattle.std.specs.Fmt.{decimal}
use Rattle.mars_core.specs.declared.arena.Outcome.{Outcome}

-- `win 3`, `tie 1` or `loss 0`.
abbrev pub points_text : ℕ → List ℕ
points_text points = if points == 3 then codes "win 3" else if points == 1 then codes "tie 1" else codes "loss 0"

-- For example `tie 1 turns 40`, and a line feed.
unfoldable pub result_line : Outcome → List ℕ
result_line o = points_text o.points ++ codes " turns " ++ decimal o.turns ++ codes "\n"
