use Rattle.std.proofs.Common.{◌≡◌, sym, ◌∙◌, ap, Option, Some, List, drop, take, arith, length, ◌≤◌, ◌++◌, ◌-◌}
use Rattle.std.specs.Prelude.{option_map}
use Rattle.std.proofs.lemmas.Slice.{between_to_end}
use Rattle.rc_text.specs.declared.token.Token.{Token}
use Rattle.rc_expand.specs.Unroll.Numberings.{seen_numbering}
use Rattle.rc_expand.specs.Unroll.Copies.{copied_tokens}
use Rattle.rc_expand.proofs.Unrolling.Copies.{code_kept}
use Rattle.rc_expand.proofs.unroll.copy.Numbering.copy_code.Goals as goal

pub returns-in_ok-with_front-in-Some : goal.returns-in_ok-with_front-in-Some
returns-in_ok-with_front-in-Some c =
    let f : List Token → Option (List Token) = copied_tokens (seen_numbering c.args.self.now) in
    let h : 3 ≤ length c.args.tokens.now = omega arith in
    let tail : take (length c.args.tokens.now - 3) (drop 3 c.args.tokens.now) ≡ drop 3 c.args.tokens.now = between_to_end c.args.tokens.now 3 (length c.args.tokens.now) (omega arith) in
    let made : Some c.in-Some.copied ≡ f (drop 3 c.args.tokens.now) = sym c.in-Some.is ∙ (c.in_ok-copy_tokens.ensures ∙ ap f tail) in
    ap Some c.in_ok-with_front-in-Some.ensures
    ∙ (ap (option_map (λ r. take 3 c.args.tokens.now ++ r)) made
    ∙ sym (code_kept (seen_numbering c.args.self.now) c.args.tokens.now c.index-tokens-0.result c.index-tokens-1.result c.index-tokens-2.result h c.index-tokens-0.is c.index-tokens-1.is c.index-tokens-2.is c.if-not-has_modifier.ensures))
