-- What the second and the third pass share, and how contracts see it.
use Rattle.std.specs.Prelude.{ℕ, List}
use Rattle.rc_expand.specs.declared.names.GivenNames.{GivenNames}
use Rattle.rc_expand.specs.declared.context.Context.{Context}
use Rattle.rc_expand.specs.Names.{GivenNamesView, table_in}
use Rattle.rc_expand.specs.Equs.{Equs}

-- The text, the names given from outside of it, and its own EQU names.
pub record ContextView : Type 0 where
  pub source : List ℕ
  pub given : GivenNamesView
  pub equs : Equs

abbrev pub seen_given_names : GivenNames → GivenNamesView
seen_given_names given = record { constants = table_in given.constants.now; rules = given.rules.now }

abbrev pub seen_context : Context → ContextView
seen_context context = record { source = context.source.now; given = seen_given_names context.given.now; equs = context.equs.now }
