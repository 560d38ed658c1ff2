use Rattle.std.proofs.Common.{◌≡◌, sym, ◌∙◌, ap, ◌+◌, ◌++◌, ◌∷◌, drop, List, ℕ, Option, get_or}
use Rattle.std.specs.Prelude.{option_map, option_and_then}
use Rattle.rc_text.specs.declared.token.Token.{Token}
use Rattle.rc_expand.specs.Read.Lines.{is_name_token}
use Rattle.rc_expand.specs.Unroll.Numberings.{seen_numbering}
use Rattle.rc_expand.specs.Unroll.Copies.{copied_tokens}
use Rattle.rc_expand.proofs.Each.{more}
use Rattle.rc_expand.proofs.Unrolling.Copies.{kept_at, same_read}
use Rattle.rc_expand.proofs.unroll.copy.Numbering.copy_tokens.Goals as goal

pub loop-at-preserved-in-Some : goal.loop-at-preserved-in-Some
loop-at-preserved-in-Some c =
    let f : List Token → Option (List Token) = copied_tokens (seen_numbering c.args.self.now) in
    let made = c.in_ok-copy_name.ensures.copied ∙ ap (option_and_then (λ (p : Token × ℕ). option_map (λ r. p.0 ∷ r) (f (drop p.1 c.args.tokens.now)))) c.in-Some.is in
    rw c.in_ok-push-in-Some.ensures.items (c.loop-at.invariant
    ∙ (ap (option_map (λ r. c.loop-at.copied.items ++ r)) made
    ∙ more c.loop-at.copied.items c.in-Some.name (f (drop c.in-Some.after c.args.tokens.now))))

pub loop-at-preserved : goal.loop-at-preserved
loop-at-preserved c =
    let ts = c.args.tokens.now in
    let t = c.in_ok-clone_token.field-0 in
    let is : t ≡ get_or ts c.loop-at.at t = same_read ts c.loop-at.at t c.index-tokens-at.result c.in_ok-clone_token.ensures c.index-tokens-at.is in
    let made = kept_at (seen_numbering c.args.self.now) ts c.loop-at.at t c.loop-at-test.true is (ap is_name_token c.in_ok-clone_token.ensures ∙ sym c.if-is_name_token.ensures) in
    rw c.in_ok-push.ensures.items (c.loop-at.invariant
    ∙ (ap (option_map (λ r. c.loop-at.copied.items ++ r)) made
    ∙ more c.loop-at.copied.items t (copied_tokens (seen_numbering c.args.self.now) (drop (c.loop-at.at + 1) ts))))
