use Rattle.std.proofs.Common.{◌≡◌, ◌+◌, ◌==◌, ◌<◌, arith, ◌∙◌, ◌∷◌, if◌then◌else◌, ap, sym, refl, subst, length, List, ℕ, take}
use Rattle.std.specs.List.{slice_set}
use Rattle.std.specs.List.Sorted.{IsPermutation}
use Rattle.tune_problem.specs.Problem.{problem_of}
use Rattle.tune_problem.specs.Optimum.{all_fights, cap_of}
use Rattle.tune_problem.specs.declared.watcher.Best.{Best}
use Rattle.tune_problem.specs.declared.cert.Row.TheVariants.{Cap}
use Rattle.tune_problem.proofs.Scores.{inputs_problem}
use Rattle.tune_search.specs.Plays.{played}
use Rattle.tune_search.specs.Order.{IsFightOrder, aim_at, by_points, enough}
use Rattle.tune_search.specs.Visits.{setting_visited}
use Rattle.tune_search.specs.Cache.{CacheView}
use Rattle.tune_search.specs.Method.{capacity_of}
use Rattle.tune_search.proofs.VisitOrder.{visited_below}
use Rattle.tune_search.proofs.Totals.{order_length}
use Rattle.tune_search.proofs.ListedFights.{order_below}
use Rattle.tune_search.proofs.Counted.{small_count}
use Rattle.tune_search.specs.State.{findings_of}
use Rattle.tune_search.proofs.Visiting.{first_visit, permutes, under_way_along}
use Rattle.tune_search.proofs.FoughtVisits.{fought_visit}
use Rattle.tune_search.proofs.state.State.fight.Goals as goal
use Rattle.tune_problem.specs.Ranking.{next_ranking}

pub play_enough-requires-clause-order : goal.play_enough-requires-clause-order
play_enough-requires-clause-order g c =
    let i = c.args.inputs.now in
    let p = problem_of i in
    let s = c.args.self.now in
    let k = c.args.visits in
    let v = setting_visited p.start k in
    let inside : v < p.count = visited_below p.start p.count k c.requires.state.start_inside c.requires.visits in
    let once : IsPermutation (all_fights p) s.order.items = permutes p (inputs_problem i) c.requires.state.start_inside i.rules s.aim c.requires.state.is_aim c.args.self.now.method k v refl inside
    (findings_of s) s.order.items s.cache.known c.requires.state.going in
    subst (λ (l : List ℕ). IsFightOrder p l) (sym c.deref.ensures.value) (record {
      all = order_length p s.order.items once;
      once = once;
      below = order_below p s.order.items once;
    })

pub returns : goal.returns
returns g c =
    let i = c.args.inputs.now in
    let p = problem_of i in
    let s = c.args.self.now in
    let k = c.args.visits in
    let v = setting_visited p.start k in
    let e = c.args.entrant in
    let is = c.requires.candidate in
    let inside : v < p.count = visited_below p.start p.count k c.requires.state.start_inside c.requires.visits in
    let bout = c.in_ok-bout.bout in
    let in_order = c.deref.ensures.value in
    let listed = c.deref-2.ensures.value in
    let own : e.vector ≡ v = is.vector_is in
    let aim_is : c.aim_at.result ≡ aim_at p s.aim v =
    c.aim_at.ensures ∙ ap (λ b. record { keep = s.aim.keep; floor = if b then 0 else s.aim.floor }) (sym (first_visit p.start k v refl)) in
    let in_ranking = c.as_slice.ensures in
    record {
      start_is = c.requires.state.start_is;
      start_inside = c.requires.state.start_inside;
      method_is = refl;
      aim_is = refl;
      is_aim = c.requires.state.is_aim;
      capacity_is = ap (λ (m : CacheView). m.capacity) c.in_ok-remember.ensures ∙ c.requires.state.capacity_is;
      blank = c.in_ok-bout.ensures.blank;
      going = under_way_along p i.rules s.aim c.args.self.now.method (k + 1) _ _ _ _ _ _ _ _
          (fought_visit p (inputs_problem i) c.requires.state.start_inside i.rules s.aim c.requires.state.is_aim c.args.self.now.method k v refl inside
          (findings_of s) s.order.items s.cache.known c.requires.state.going
          e.warrior is.warrior_is bout.listing.items bout.cap c.sort_by_index.result.items
          (c.in_ok-bout.ensures.listing ∙ ap (λ l. played p e.warrior (take (enough p s.method c.aim_at.result e.warrior l e.vector c.as_slice.result.now) l)) in_order
          ∙ ap (λ n. played p e.warrior (take (enough p s.method c.aim_at.result e.warrior s.order.items n c.as_slice.result.now) s.order.items)) own
          ∙ ap (λ n. played p e.warrior (take (enough p s.method n e.warrior s.order.items v c.as_slice.result.now) s.order.items)) aim_is
          ∙ ap (λ (r : List Best). played p e.warrior (take (enough p s.method (aim_at p s.aim v) e.warrior s.order.items v r) s.order.items)) in_ranking)
          (c.in_ok-bout.ensures.cap ∙ ap (λ l. cap_of p e.warrior (take (enough p s.method c.aim_at.result e.warrior l e.vector c.as_slice.result.now) l)) in_order
          ∙ ap (λ n. cap_of p e.warrior (take (enough p s.method c.aim_at.result e.warrior s.order.items n c.as_slice.result.now) s.order.items)) own
          ∙ ap (λ n. cap_of p e.warrior (take (enough p s.method n e.warrior s.order.items v c.as_slice.result.now) s.order.items)) aim_is
          ∙ ap (λ (r : List Best). cap_of p e.warrior (take (enough p s.method (aim_at p s.aim v) e.warrior s.order.items v r) s.order.items)) in_ranking)
          c.in_ok-bout.ensures.few c.sort_by_index.ensures.same c.sort_by_index.ensures.sorted
          e.text.items is.text_is is.rules_hold is.is_warrior is.fits c.requires.unknown)
          (ap (λ n. slice_set s.found.rows n (Cap c.sort_by_index.result.items)) (sym own) ∙ ap (λ (l : List (ℕ × ℕ)). slice_set s.found.rows e.vector (Cap l)) (sym c.from_vec.ensures) ∙ sym c.set.ensures)
          (ap (λ n. next_ranking s.aim bout.cap n s.found.ranking) (sym own) ∙ sym c.in_ok-rank.ensures.ranked)
          (sym (c.in_ok-learn_order.ensures ∙ ap (λ l. if k == 0 then by_points l else s.order.items) listed))
          (sym (c.in_ok-bout.ensures.fights (small_count s.arena.fights k (length bout.listing.items) p.count c.requires.state.going.room c.requires.visits (omega (arith, c.count.ensures.count, c.count.ensures.few)) c.in_ok-bout.ensures.few)))
          (ap (λ n. take (capacity_of c.args.self.now.method) ((e.text.items, record { vector = n; cap = bout.cap }) ∷ s.cache.known)) (sym own)
          ∙ ap (λ n. take n ((e.text.items, record { vector = e.vector; cap = bout.cap }) ∷ s.cache.known)) (sym c.requires.state.capacity_is)
          ∙ sym (ap (λ (m : CacheView). m.known) c.in_ok-remember.ensures));
    }
