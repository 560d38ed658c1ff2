use Rattle.std.proofs.Common.{◌∙◌, ap, sym, refl, map}
use Rattle.std.specs.Map.{lookup}
use Rattle.std.specs.Option.{option_map}
use Rattle.std.specs.List.{slice_get}
use Rattle.lru.specs.LruCache.{promoted}
use Rattle.tune_search.specs.Cache.{CacheView, cache_view, same_text}
use Rattle.tune_search.proofs.Cached.{lookup_seen, promoted_seen, promoted_first, none_is}
use Rattle.tune_search.proofs.cache.Cache.recall.Goals as goal

pub returns-then-not-promote-clause-value : goal.returns-then-not-promote-clause-value
returns-then-not-promote-clause-value c =
    let test = same_text c.args.text.now in
    sym (none_is _ (sym c.if-not-promote.ensures.value)) ∙ lookup_seen (λ k. k.items) _ test (λ k. refl) c.self.inside.settings.entries
    ∙ ap (λ (m : CacheView). lookup test m.known) c.self.view_is

pub returns-then-not-promote-clause-known : goal.returns-then-not-promote-clause-known
returns-then-not-promote-clause-known c =
    let test = same_text c.args.text.now in
    let entries = c.self.inside.settings.entries in
    ap (λ k. cache_view (map (λ e. (e.0.items, e.1)) k.entries) c.self.inside.capacity) c.promote.ensures.entries
    ∙ ap (λ l. cache_view l c.self.inside.capacity) (promoted_seen (λ k. k.items) _ test (λ k. refl) entries)
    ∙ ap (λ (m : CacheView). cache_view (promoted test m.known) m.capacity) c.self.view_is

pub returns-in_default-clause-value : goal.returns-in_default-clause-value
returns-in_default-clause-value c =
    let test = same_text c.args.text.now in
    let entries = c.self.inside.settings.entries in
    ap (option_map (λ e. e.1)) c.in_default.ensures
    ∙ ap (λ k. option_map (λ e. e.1) (slice_get k.entries 0)) c.promote.ensures.entries
    ∙ promoted_first _ entries (sym c.if-not-promote.ensures.value)
    ∙ lookup_seen (λ k. k.items) _ test (λ k. refl) entries
    ∙ ap (λ (m : CacheView). lookup test m.known) c.self.view_is

pub returns-in_default-clause-known : goal.returns-in_default-clause-known
returns-in_default-clause-known c =
    let test = same_text c.args.text.now in
    let entries = c.self.inside.settings.entries in
    ap (λ k. cache_view (map (λ e. (e.0.items, e.1)) k.entries) c.self.inside.capacity) c.promote.ensures.entries
    ∙ ap (λ l. cache_view l c.self.inside.capacity) (promoted_seen (λ k. k.items) _ test (λ k. refl) entries)
    ∙ ap (λ (m : CacheView). cache_view (promoted test m.known) m.capacity) c.self.view_is

pub returns-clause-known : goal.returns-clause-known
returns-clause-known c =
    let test = same_text c.args.text.now in
    let entries = c.self.inside.settings.entries in
    ap (λ k. cache_view (map (λ e. (e.0.items, e.1)) k.entries) c.self.inside.capacity) c.promote.ensures.entries
    ∙ ap (λ l. cache_view l c.self.inside.capacity) (promoted_seen (λ k. k.items) _ test (λ k. refl) entries)
    ∙ ap (λ (m : CacheView). cache_view (promoted test m.known) m.capacity) c.self.view_is

pub returns-clause-value : goal.returns-clause-value
returns-clause-value c =
    let test = same_text c.args.text.now in
    let entries = c.self.inside.settings.entries in
    ap (option_map (λ e. e.1)) c.in-Some.ensures
    ∙ ap (λ k. option_map (λ e. e.1) (slice_get k.entries 0)) c.promote.ensures.entries
    ∙ promoted_first _ entries (sym c.if-not-promote.ensures.value)
    ∙ lookup_seen (λ k. k.items) _ test (λ k. refl) entries
    ∙ ap (λ (m : CacheView). lookup test m.known) c.self.view_is
