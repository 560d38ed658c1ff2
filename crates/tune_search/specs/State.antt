-- A search under way, as the contracts of private functions see it.
use Rattle.std.specs.Prelude.{◌≡◌, ℕ, ◌+◌, ◌*◌, ◌<◌, ◌≤◌, Bool, true, false, ◌==◌, List, length, map, slice_get, Option, Some, None}
use Rattle.std.specs.List.{AllByRecursion, count_by}
use Rattle.std.specs.Ordering.{nat_cmp, ordering_then}
use Rattle.std.specs.declared.cmp.Ordering.{Ordering}
use Rattle.rc_instr.specs.Rules.{RulesView, IsRules}
use Rattle.rc_instr.specs.Warrior.{WarriorView, IsWarrior, Fits}
use Rattle.rc_instr.specs.LoadText.{load_text}
use Rattle.mars_core.specs.Arena.{IsBlank}
use Rattle.mars_fight.specs.Limits.{MOST_FIGHTS}
use Rattle.tune_problem.specs.Inputs.{InputsView}
use Rattle.tune_problem.specs.Problem.{Problem, problem_of}
use Rattle.tune_problem.specs.Optimum.{cap_of}
use Rattle.tune_problem.specs.Valid.{IsOwnVersion, listed_fights, listed_indices}
use Rattle.tune_problem.specs.declared.cert.Row.{Row}
use Rattle.tune_problem.specs.declared.cert.Row.TheVariants.{Refused, Same, Cap}
use Rattle.tune_search.specs.Plays.{played}
use Rattle.tune_search.specs.Order.{order_after, enough_fights}
use Rattle.tune_search.specs.Visits.{visits_before, ranking_after, IsFought}
use Rattle.tune_search.specs.Recent.{IsRecent}
use Rattle.tune_search.specs.Sharing.{leads, IsExplained}
use Rattle.tune_search.specs.Found.{copied_fights}
use Rattle.tune_search.specs.Findings.{IsFull}
use Rattle.tune_search.specs.Method.{capacity_of}
use Rattle.tune_problem.specs.declared.watcher.Best.{Best}
use Rattle.tune_search.specs.declared.candidate.Candidate.{Candidate}
use Rattle.tune_search.specs.declared.fights.Challenge.{Challenge}
use Rattle.tune_problem.specs.declared.aim.Aim.{Aim}
use Rattle.tune_search.specs.declared.fought.Fought.{Fought}
use Rattle.tune_search.specs.declared.findings.Findings.{Findings}
use Rattle.tune_search.specs.declared.method.Method.{Method}
use Rattle.tune_search.specs.declared.state.State.{State}
use Rattle.tune_problem.specs.Ranking.{first_of, IsAim}

-- A candidate: setting v with its warrior, and the warrior's load file.
pub record IsCandidateAt (i : InputsView) (v : ℕ) (c : Candidate) : Type 0 where
  pub vector_is : c.vector ≡ v
  pub rules_hold : IsRules i.rules
  pub warrior_is : (problem_of i).warrior v ≡ Some c.warrior
  pub is_warrior : IsWarrior c.warrior
  pub fits : Fits i.rules c.warrior
  pub text_is : c.text.items ≡ load_text i.rules.core c.warrior

-- The fights of a challenge that are played.
abbrev pub fights_of_challenge : Problem → Challenge → List ℕ
fights_of_challenge p c = enough_fights p c.method c.aim c.entrant.now.warrior c.order.now c.entrant.now.vector c.ranking.now

-- The fights of a challenge that are played, each with its points.
abbrev pub listing_of_challenge : Problem → Challenge → List (ℕ × ℕ)
listing_of_challenge p c = played p c.entrant.now.warrior (fights_of_challenge p c)

-- The cap of the warrior of a challenge by these fights.
abbrev pub cap_of_challenge : Problem → Challenge → ℕ
cap_of_challenge p c = cap_of p c.entrant.now.warrior (fights_of_challenge p c)

-- Compares fights with points by the index of the fight, and then by the points.
abbrev pub by_index : ℕ × ℕ → ℕ × ℕ → Ordering
by_index x y = ordering_then (nat_cmp x.0 y.0) (nat_cmp x.1 y.1)

-- The lead has a cap row, and that lists every fight.
abbrev pub IsWhole : Problem → List Row → (lead : Option Best) → Type 0
IsWhole p rows None = Unit {0}
IsWhole p rows (Some lead) = (row : List (ℕ × ℕ)) × (slice_get rows lead.vector ≡ Some (Cap row)) × (length row ≡ p.fights)

-- The setting with the copied row was visited, and the start setting leads no more.
abbrev pub HasCopied : Problem → (k : ℕ) → (lead : Option Best) → (copied : Option ℕ) → Type 0
HasCopied p k lead None = Unit {0}
HasCopied p k lead (Some v) = (v < p.count) × (visits_before p.start v < k) × (leads p.start lead ≡ false)

-- An entry of the cache after k visits: a setting that was fought, under its load file, with its
-- cap by the fights that its row lists.
pub record IsKnown (p : Problem) (rules : RulesView) (aim : Aim) (method : Method) (rows : List Row) (k : ℕ) (e : List ℕ × Fought) : Type 0 where
  pub warrior : WarriorView
  pub inside : e.1.vector < p.count
  pub before : visits_before p.start e.1.vector < k
  pub candidate : p.warrior e.1.vector ≡ Some warrior
  pub is_warrior : IsWarrior warrior
  pub fits : Fits rules warrior
  pub text : e.0 ≡ load_text rules.core warrior
  pub fought : IsFought p aim method rows e.1.vector warrior
  pub cap : e.1.cap ≡ cap_of p warrior (listed_indices fought.row)

-- A row other than `Refused`: its setting was visited, and assembles.
abbrev pub is_filled : Row → Bool
is_filled Refused = false
is_filled (Same u) = true
is_filled (Cap row) = true

-- A search after k visits: what it has found, the fights of the next visit in their order, and the
-- cache, the last used first.
pub record IsUnderWay (p : Problem) (rules : RulesView) (aim : Aim) (method : Method) (k : ℕ) (f : Findings) (order : List ℕ) (known : List (List ℕ × Fought)) : Type 0 where
  -- the version is 1 exactly if every fight counts once
  pub version_is : IsOwnVersion p f.version
  pub rows_are : length f.rows ≡ p.count
  -- the ranking is that of the settings visited; each has a row with every fight, or one that
  -- refers to such a row, and the lead has a cap row with every fight
  pub ranking_is : f.ranking ≡ ranking_after p aim k
  pub whole : IsWhole p f.rows (first_of f.ranking)
  pub full : AllByRecursion (IsFull p f.rows) f.ranking
  -- the row of each setting visited is what its visit makes, and any other row is `Refused`
  pub explained : (v : ℕ) → v < p.count → visits_before p.start v < k → IsExplained p aim method f.rows f.copied v (p.warrior v)
  pub unvisited : (v : ℕ) → v < p.count → k ≤ visits_before p.start v → slice_get f.rows v ≡ Some Refused
  -- the next visit plays its fights by index if it is the first, else in the learned order
  pub order_is : order ≡ order_after p (k == 0) (p.warrior p.start)
  -- the cache has the recent settings
  pub recent : IsRecent p (capacity_of method) k (map (λ e. e.1.vector) known)
  pub all_known : AllByRecursion (IsKnown p rules aim method f.rows k) known
  pub copied_is : HasCopied p k (first_of f.ranking) f.copied
  -- every listed fight was played once, except those of the copied row
  pub fights : f.fights + copied_fights f.rows f.copied ≡ listed_fights f.rows
  pub count : f.candidates ≡ count_by is_filled f.rows
  -- a bound, so that the count of fights does not wrap around
  pub room : f.fights ≤ MOST_FIGHTS * k

-- The findings of a state, with the arena's count of fights.
abbrev pub findings_of : State → Findings
findings_of s = record s.found { fights = s.arena.fights }

-- The state of a search of these inputs after k visits.
pub record IsState (i : InputsView) (aim : Aim) (method : Method) (k : ℕ) (s : State) : Type 0 where
  pub start_is : s.start ≡ (problem_of i).start
  pub start_inside : (problem_of i).start < (problem_of i).count
  pub method_is : s.method ≡ method
  pub aim_is : s.aim ≡ aim
  pub is_aim : IsAim aim
  pub capacity_is : s.cache.capacity ≡ capacity_of method
  pub blank : IsBlank i.rules s.arena
  pub going : IsUnderWay (problem_of i) i.rules aim method k (findings_of s) s.order.items s.cache.known
