-- No two trees of the grammar have the same symbols.
use Rattle.std.proofs.Common.{◌≡◌, ℕ, ◌+◌, ◌≤◌, [], refl, sym, ◌∙◌, ap, arith}
use Rattle.std.proofs.lemmas.List.{append-nil}
use Rattle.std.specs.Prelude.{Ok}
use Rattle.rc_text.specs.Grammar.{Tree, Literal, Named, Group, Prefix, Infix, spelling_of, IsGrammatical, depth_of}
use Rattle.rc_text.specs.Reading.{Algebra, before_operand, after_operand}
use Rattle.rc_text.proofs.ReadTrees.{meaning_in, reads}

-- parts that mean their trees
abbrev pub trees : ℕ → Algebra Tree
trees limit = record {
  limit = limit;
  literal = λ n. Literal n;
  named = λ name. Named name;
  group = λ t. Group t;
  prefix = λ s t. Prefix s t;
  infix' = λ l s r. Infix l s r;
}

-- then a tree means itself
meaning_in-trees : (n : ℕ) (t : Tree) → meaning_in (trees n) t ≡ t
meaning_in-trees n (Literal v) = refl
meaning_in-trees n (Named name) = refl
meaning_in-trees n (Group t) = ap (λ u. Group u) (meaning_in-trees n t)
meaning_in-trees n (Prefix s t) = ap (λ u. Prefix s u) (meaning_in-trees n t)
meaning_in-trees n (Infix l s r) = ap (λ u. Infix u s (meaning_in (trees n) r)) (meaning_in-trees n l) ∙ ap (λ u. Infix l s u) (meaning_in-trees n r)

-- a whole tree is read as what it means
pub reads_whole : {A : Type 0} (m : Algebra A) (t : Tree) → IsGrammatical t → depth_of t ≤ m.limit → before_operand m (spelling_of t) [] ≡ Ok (meaning_in m t)
unfolding after_operand before_operand
reads_whole m t g d = ap (λ w. before_operand m w []) (sym (append-nil (spelling_of t))) ∙ reads m t [] [] g tt tt (omega arith)

-- trees with the same symbols are read as the same
pub one_tree : (t u : Tree) → IsGrammatical t → IsGrammatical u → spelling_of t ≡ spelling_of u → t ≡ u
one_tree t u g h e =
    let m = trees (depth_of t + depth_of u) in
    let left : before_operand m (spelling_of t) [] ≡ Ok t = reads_whole m t g (omega arith) ∙ ap Ok (meaning_in-trees (depth_of t + depth_of u) t) in
    let right : before_operand m (spelling_of u) [] ≡ Ok u = reads_whole m u h (omega arith) ∙ ap Ok (meaning_in-trees (depth_of t + depth_of u) u) in
    let same : before_operand m (spelling_of t) [] ≡ before_operand m (spelling_of u) [] = ap (λ w. before_operand m w []) e in
    cc
