-- The expansion as a whole: its passes, one after the other.
use Rattle.std.specs.Prelude.{◌≡◌, ℕ, List, Result, Ok, All}
use Rattle.rc_text.specs.Symbols.{LiesIn}
use Rattle.rc_instr.specs.Rules.{RulesView}
use Rattle.rc_expand.specs.declared.fault.ExpandFault.{ExpandFault}
use Rattle.rc_expand.specs.declared.line.Line.{Line}
use Rattle.rc_instr.specs.Results.{◌>>=◌}
use Rattle.rc_expand.specs.Names.{Table, GivenNamesView}
use Rattle.rc_expand.specs.Contexts.{ContextView}
use Rattle.rc_expand.specs.Unroll.{unrolled}
use Rattle.rc_expand.specs.Read.{FirstPass, first_pass}
use Rattle.rc_expand.specs.Replace.Lines.{replaced}

-- The spans of the tokens of a line lie in the source.
pub record LineLies (source : List ℕ) (l : Line) : Type 0 where
  pub labels : All (LiesIn source) l.labels
  pub tokens : All (LiesIn source) l.tokens

module _ (source : List ℕ) (constants : Table) (rules : RulesView) where
  abbrev pub names_given : GivenNamesView
  names_given = record { constants = constants; rules = rules }

  abbrev pub context_of : FirstPass → ContextView
  context_of r = record { source = source; given = names_given; equs = r.equs }

  abbrev pub expansion_by : FirstPass → Result (List Line) ExpandFault
  expansion_by r = unrolled (context_of r) r.blocks >>= replaced (context_of r)

  -- The lines of the expansion; or the fault that the passes meet first, at its line.
  unfoldable pub expansion_of : Result (List Line) ExpandFault
  expansion_of = first_pass source names_given >>= expansion_by

-- The text expands to these lines.
abbrev pub IsExpansion : List ℕ → Table → RulesView → List Line → Type 0
IsExpansion source constants rules lines = expansion_of source constants rules ≡ Ok lines
