-- The instance of a setting.
use Rattle.std.proofs.Common.{◌≡◌, ℕ, List, [], ◌∷◌, map, Some, refl, sym, ◌∙◌, ap}
use Rattle.std.specs.Prelude.{ℤ, slice_get}
use Rattle.std.specs.Option.{unwrap_or}
use Rattle.std.specs.Global.{Vec}
use Rattle.rc_instr.specs.Rules.{RulesView}
use Rattle.rc_expand.specs.Names.{table_of}
use Rattle.rc_asm.specs.Assembly.{outcome_of}
use Rattle.tune_template.specs.Vectors.{vectors_of}
use Rattle.tune_template.specs.Instances.{TemplateView, constants_of, instance_of}

-- names in `Vec`s are names in lists
same_table : (ns : List (Vec ℕ)) (vs : List ℤ) → table_of ns vs ≡ constants_of (map (λ n. n.items) ns) vs
same_table [] vs = refl
same_table (n ∷ ns) [] = refl
same_table (n ∷ ns) (v ∷ vs) = ap (λ t. (n.items, v) ∷ t) (same_table ns vs)

-- a text that is assembled with the values of a setting gives its instance
pub instance_is : (t : TemplateView) (rules : RulesView) (v : ℕ) (text : List ℕ) (names : List (Vec ℕ)) (values x : List ℤ)
    → text ≡ t.text → map (λ n. n.items) names ≡ t.ranges.names → values ≡ x → slice_get (vectors_of t.ranges.spans) v ≡ Some x → outcome_of text (table_of names values) rules ≡ instance_of t rules v
unfolding instance_of
instance_is t rules v text names values x same_text same_names same_values at =
    ap (λ s. outcome_of s (table_of names values) rules) same_text
    ∙ ap (λ k. outcome_of t.text k rules)
    (same_table names values ∙ (ap (λ ns. constants_of ns values) same_names ∙ ap (constants_of t.ranges.names) (same_values ∙ sym (ap (λ o. unwrap_or o []) at))))
