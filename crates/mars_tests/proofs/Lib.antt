pub mod RulesMade
