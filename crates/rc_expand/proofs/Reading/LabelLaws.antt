-- The labels of a line and the tokens after them are the line.
use Rattle.std.proofs.Common.{◌≡◌, ℕ, Bool, true, false, ◌&&◌, List, [], ◌∷◌, ◌++◌, refl, ◌∙◌, ap}
use Rattle.std.specs.Prelude.{flat_map}
use Rattle.rc_text.specs.declared.token.Token.{Token}
use Rattle.rc_expand.specs.Read.Lines.{LabelSplit, label_split, no_labels, begin_label, into_label, into_first, choose, is_unreserved_name, is_ampersand, is_colon}

-- all tokens, in order
abbrev all_tokens : LabelSplit → List Token
all_tokens l = flat_map (λ x. x) l.labels ++ l.after

into_front : (t : Token) (labels : List (List Token)) (after : List Token) → flat_map (λ x. x) (into_first t labels) ++ after ≡ t ∷ (flat_map (λ x. x) labels ++ after)
into_front t [] after = refl
into_front t (l ∷ ls) after = refl

module _ (source : List ℕ) where
  pub labels_and_rest : (ts : List Token) → flat_map (λ x. x) (label_split source ts).labels ++ (label_split source ts).after ≡ ts
  labels_and_rest [] = refl
  labels_and_rest (t ∷ []) = by_free (is_unreserved_name source t) where
    by_free : (b : Bool) → all_tokens (choose b (λ i. begin_label t (no_labels [])) (λ i. no_labels (t ∷ []))) ≡ t ∷ []
    by_free true = refl
    by_free false = refl
  labels_and_rest (t ∷ u ∷ []) = by_free (is_unreserved_name source t) (is_colon u) (labels_and_rest (u ∷ [])) where
    by_free : (b c : Bool) → all_tokens (label_split source (u ∷ [])) ≡ u ∷ []
        → all_tokens (choose b (λ i. choose c (λ j. into_label t (begin_label u (no_labels []))) (λ j. begin_label t (label_split source (u ∷ [])))) (λ i. no_labels (t ∷ u ∷ []))) ≡ t ∷ u ∷ []
    by_free true true e = refl
    by_free true false e = ap (λ l. t ∷ l) e
    by_free false c e = refl
  labels_and_rest (t ∷ u ∷ v ∷ ts) = by_free (is_unreserved_name source t) (is_ampersand u && is_unreserved_name source v) (is_colon u) (labels_and_rest (v ∷ ts)) (labels_and_rest (u ∷ v ∷ ts)) where
    by_free : (b a c : Bool) → all_tokens (label_split source (v ∷ ts)) ≡ v ∷ ts → all_tokens (label_split source (u ∷ v ∷ ts)) ≡ u ∷ v ∷ ts
        → all_tokens (choose b
        (λ i. choose a (λ j. into_label t (into_label u (label_split source (v ∷ ts))))
        (λ j. choose c (λ k. into_label t (begin_label u (label_split source (v ∷ ts)))) (λ k. begin_label t (label_split source (u ∷ v ∷ ts)))))
        (λ i. no_labels (t ∷ u ∷ v ∷ ts))) ≡ t ∷ u ∷ v ∷ ts
    by_free true true c d e =
        let l = label_split source (v ∷ ts) in
        into_front t (into_label u l).labels l.after ∙ ap (λ r. t ∷ r) (into_front u l.labels l.after ∙ ap (λ r. u ∷ r) d)
    by_free true false true d e =
        let l = label_split source (v ∷ ts) in
        into_front t (begin_label u l).labels l.after ∙ ap (λ r. t ∷ u ∷ r) d
    by_free true false false d e = ap (λ r. t ∷ r) e
    by_free false a c d e = refl
