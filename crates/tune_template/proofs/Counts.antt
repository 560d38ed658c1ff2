-- How many settings there are.
use Rattle.std.proofs.Common.{◌≡◌, ℕ, ◌<◌, ◌≤◌, ◌*◌, ◌+◌, List, [], ◌∷◌, ◌++◌, length, map, sym, ◌∙◌, ap, arith, length-append}
use Rattle.std.proofs.lemmas.List.{length-map}
use Rattle.std.proofs.Math.Nat.{mul_assoc}
use Rattle.std.specs.Global.{Vec}
use Rattle.std.proofs.lemmas.List.Elements.{All-push}
use Rattle.tune_template.specs.declared.span.Span.{Span}
use Rattle.tune_template.specs.Limits.{MOST_CONSTANTS, MOST_SETTINGS}
use Rattle.tune_template.specs.Ranges.{Ranges, ranges, vector_count}
use Rattle.tune_template.specs.Steps.{HasValues, AreCounted}

pub count_push : (ss : List Span) (s : Span) → vector_count (ss ++ (s ∷ [])) ≡ vector_count ss * s.count
count_push [] s = omega arith
count_push (x ∷ ss) s = ap (λ n. x.count * n) (count_push ss s) ∙ sym (mul_assoc x.count (vector_count ss) s.count)

-- one more range is counted
pub counted_more : (old : Ranges) (count : ℕ) (names : List (Vec ℕ)) (before : List (Vec ℕ)) (n : Vec ℕ) (spans : List Span) (s : Span) (k : ℕ)
    → names ≡ before ++ (n ∷ []) → spans ≡ old.spans ++ (s ∷ []) → old.names ≡ map (λ v. v.items) before → AreCounted old count → length before < MOST_CONSTANTS → HasValues s → k ≡ count * s.count → k ≤ MOST_SETTINGS
    → AreCounted (ranges (map (λ v. v.items) names) spans) k
counted_more old count names before n spans s k en es eo c room values ek small =
    let ln : length names ≡ length before + 1 = ap length en ∙ length-append before (n ∷ []) in
    let ls : length spans ≡ length old.spans + 1 = ap length es ∙ length-append old.spans (s ∷ []) in
    let lm : length (map (λ v. v.items) names) ≡ length names = length-map names (λ v. v.items) in
    let lo : length old.names ≡ length before = ap length eo ∙ length-map before (λ v. v.items) in
    let eq : length old.names ≡ length old.spans = c.equal in
    record {
      equal = omega (arith, ln, ls, lm, lo, eq);
      few = omega (arith, ln, lm, room);
      vectors = ap vector_count es ∙ (count_push old.spans s ∙ (ap (λ m. m * s.count) c.vectors ∙ sym ek));
      small = small;
      values = rw es (All-push HasValues old.spans s c.values values);
    }
