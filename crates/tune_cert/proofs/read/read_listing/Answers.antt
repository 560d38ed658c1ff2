use Rattle.std.proofs.Common.{◌≡◌, ◌∙◌, ap, sym, ◌∷◌, ◌++◌, [], Option, Bor, List, ℕ}
use Rattle.std.specs.Str.{bytes_eq}
use Rattle.tune_cert.proofs.Cuts.{with_read, others_of, begun, ended, one_more, not_one, shorter, dash_listed, texts_listed}
use Rattle.tune_cert.proofs.read.read_listing.Goals as goal

pub returns-then-eq : goal.returns-then-eq
returns-then-eq c =
    let dash = sym (ap (bytes_eq c.args.bytes.now) c.as_slice.ensures) ∙ sym c.eq.ensures ∙ c.if-eq.true in
    rw c.new-items.ensures.items (sym (dash_listed c.args.bytes.now dash))

pub loop-rest-init : goal.loop-rest-init
loop-rest-init c = rw c.new-items.ensures.items (begun _)

pub loop-rest-preserved : goal.loop-rest-preserved
loop-rest-preserved c =
    let items : c.push.new.self.items ≡ c.loop-rest.items.items ++ c.in-Some-item_of.item ∷ [] = c.in_ok-push-in-Some-item_of.ensures.items in
    rw items (one_more c.loop-rest.items.items c.in-Some-item_of.item c.in-Some.list.now c.cut.result.0.now c.cut.result.1 _ (rw c.in-Some.is at c.loop-rest.invariant) c.cut.ensures.parts (sym c.item_of.ensures ∙ c.in-Some-item_of.is))

pub loop-rest-smaller : goal.loop-rest-smaller
loop-rest-smaller c = shorter c.in-Some.list c.loop-rest.rest c.cut.result.1 c.in-Some.is c.cut.ensures.shorter

pub returns-in-None : goal.returns-in-None
returns-in-None c =
    let dash = sym (ap (bytes_eq c.args.bytes.now) c.as_slice.ensures) ∙ sym c.eq.ensures ∙ c.if-eq.false in
    sym (texts_listed c.args.bytes.now dash ∙ not_one c.loop-rest.items.items c.in-Some.list.now c.cut.result.0.now c.cut.result.1 _ (rw c.in-Some.is at c.loop-rest.invariant) c.cut.ensures.parts (sym c.item_of.ensures ∙ c.in-None.is))

pub returns : goal.returns
returns c =
    let dash = sym (ap (bytes_eq c.args.bytes.now) c.as_slice.ensures) ∙ sym c.eq.ensures ∙ c.if-eq.false in
    sym (texts_listed c.args.bytes.now dash ∙ ended c.loop-rest.items.items _ (c.loop-rest.invariant ∙ ap (λ (rest : Option (Bor (List ℕ))). with_read c.loop-rest.items.items (others_of rest)) c.in_default.is))
