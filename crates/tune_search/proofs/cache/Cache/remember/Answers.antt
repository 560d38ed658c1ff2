use Rattle.std.proofs.Common.{arith, ◌≡◌, ◌∙◌, ℕ, List, ap, sym, refl, take, ◌∷◌, map, None}
use Rattle.std.specs.Map.{lookup}
use Rattle.tune_search.specs.Cache.{cache_view, same_text}
use Rattle.tune_search.specs.declared.fought.Fought.{Fought}
use Rattle.tune_search.proofs.Cached.{as_room, put_seen, without_room}
use Rattle.tune_search.proofs.cache.Cache.remember.Goals as goal

pub returns-then-self-eq0 : goal.returns-then-self-eq0
returns-then-self-eq0 c =
    let capacity = c.self.inside.capacity in
    let known = map (λ e. (e.0.items, e.1)) c.self.inside.settings.entries in
    let entry : List ℕ × Fought = (c.args.text.items, c.args.setting) in
    let none : capacity ≡ 0 = omega (arith, c.if-self-eq0.true) in
    sym c.self.view_is ∙ ap (λ es. cache_view (map (λ e. (e.0.items, e.1)) es) capacity) (without_room capacity c.self.inside.settings.cap _ c.self.invariant none)
    ∙ ap (λ n. cache_view (take n (entry ∷ known)) capacity) (sym none)
    ∙ ap (λ m. cache_view (take m.capacity (entry ∷ m.known)) m.capacity) c.self.view_is

pub returns : goal.returns
returns c =
    let cache = c.self.inside.settings in
    let capacity = c.self.inside.capacity in
    let test = same_text c.args.text.items in
    let none : lookup test (map (λ e. (e.0.items, e.1)) cache.entries) ≡ None = ap (λ m. lookup test m.known) c.self.view_is ∙ c.requires in
    let room : capacity ≡ cache.cap = as_room capacity cache.cap _ c.self.invariant (λ e. absurd (omega (arith, e, c.if-self-eq0.false))) in
    ap (λ k. cache_view (map (λ e. (e.0.items, e.1)) k.entries) capacity) c.in_ok-put.ensures.entries
    ∙ ap (λ l. cache_view l capacity) (put_seen (λ k. k.items) (λ x y. same_text x.items y.items) cache c.args.text c.args.setting test (λ k. refl) none c.self.invariant.0)
    ∙ ap (λ n. cache_view (take n ((c.args.text.items, c.args.setting) ∷ map (λ e. (e.0.items, e.1)) cache.entries)) capacity) (sym room)
    ∙ ap (λ m. cache_view (take m.capacity ((c.args.text.items, c.args.setting) ∷ m.known)) m.capacity) c.self.view_is
