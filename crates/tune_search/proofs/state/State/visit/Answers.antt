use Rattle.std.proofs.Common.{◌≡◌, ◌+◌, ◌∙◌, ◌<◌, ap, sym, refl, subst, ℕ, List, Option, None, Some, true, false, get_or}
use Rattle.std.specs.Map.{lookup}
use Rattle.std.specs.Prelude.{IfSome, IfNone}
use Rattle.lru.specs.LruCache.{promoted}
use Rattle.rc_instr.specs.LoadText.{load_text}
use Rattle.tune_problem.specs.Problem.{problem_of}
use Rattle.tune_problem.specs.declared.cert.Row.{Row}
use Rattle.tune_problem.proofs.Scores.{inputs_problem}
use Rattle.tune_search.specs.Cache.{CacheView, cache_view, same_text}
use Rattle.tune_search.specs.Visits.{setting_visited}
use Rattle.tune_search.specs.Sharing.{copies}
use Rattle.tune_search.specs.State.{IsCandidateAt, IsUnderWay, findings_of}
use Rattle.tune_search.specs.declared.candidate.Candidate.{Candidate}
use Rattle.tune_search.proofs.Cached.{promoted_none}
use Rattle.tune_search.proofs.VisitOrder.{visited_below}
use Rattle.tune_search.proofs.Visiting.{refused_visit, under_way_along}
use Rattle.tune_search.proofs.SharedVisits.{shared_visit, copied_visit}
use Rattle.tune_search.proofs.state.State.visit.Goals as goal
use Rattle.tune_problem.specs.Ranking.{first_of}

pub returns-in_default : goal.returns-in_default
returns-in_default g c =
    let i = c.args.inputs.now in
    let p = problem_of i in
    let s = c.args.self.now in
    let k = c.args.visits in
    let v = c.setting_visited-vector.result in
    let at : v ≡ setting_visited p.start k = c.setting_visited-vector.ensures ∙ ap (λ n. setting_visited n k) c.requires.state.start_is in
    let inside : v < p.count = subst (λ (n : ℕ). n < p.count) (sym at) (visited_below p.start p.count k c.requires.state.start_inside c.requires.visits) in
    record {
      start_is = c.requires.state.start_is;
      start_inside = c.requires.state.start_inside;
      method_is = refl;
      aim_is = refl;
      is_aim = c.requires.state.is_aim;
      capacity_is = c.requires.state.capacity_is;
      blank = c.requires.state.blank;
      going = refused_visit p (inputs_problem i) c.requires.state.start_inside i.rules s.aim c.requires.state.is_aim c.args.self.now.method k v at inside
          (findings_of s) s.order.items s.cache.known c.requires.state.going
          (subst (λ (o : Option Candidate). IfNone o (p.warrior v ≡ None)) c.in_default.is c.in_ok-entrant.ensures.none);
    }

pub fight-requires-clause-unknown : goal.fight-requires-clause-unknown
fight-requires-clause-unknown g c =
    let t = c.deref.result.now in
    let known = c.args.self.now.cache.known in
    let none : lookup (same_text t) known ≡ None = sym c.in_default-recall.ensures.value in
    ap (λ l. lookup (same_text l) c.recall.new.self.known) (sym c.deref.ensures.value)
    ∙ ap (λ (m : CacheView). lookup (same_text t) m.known) c.in_default-recall.ensures.known
    ∙ ap (lookup (same_text t)) (promoted_none (same_text t) known none) ∙ none

pub fight-requires-clause-state : goal.fight-requires-clause-state
fight-requires-clause-state g c =
    let i = c.args.inputs.now in
    let p = problem_of i in
    let s = c.args.self.now in
    let t = c.deref.result.now in
    let none : lookup (same_text t) s.cache.known ≡ None = sym c.in_default-recall.ensures.value in
    let same : c.recall.new.self ≡ s.cache =
    c.in_default-recall.ensures.known ∙ ap (λ l. cache_view l s.cache.capacity) (promoted_none (same_text t) s.cache.known none) in
    record {
      start_is = c.requires.state.start_is;
      start_inside = c.requires.state.start_inside;
      method_is = refl;
      aim_is = refl;
      is_aim = c.requires.state.is_aim;
      capacity_is = ap (λ (m : CacheView). m.capacity) same ∙ c.requires.state.capacity_is;
      blank = c.requires.state.blank;
      going = subst (λ (m : CacheView). IsUnderWay p i.rules s.aim s.method c.args.visits (findings_of s) s.order.items m.known) (sym same) c.requires.state.going;
    }

pub returns-then-copied : goal.returns-then-copied
returns-then-copied g c =
    let i = c.args.inputs.now in
    let p = problem_of i in
    let s = c.args.self.now in
    let k = c.args.visits in
    let v = c.setting_visited-vector.result in
    let u = c.in-Some-recall.other in
    let e = c.in-Some.entrant in
    let is : IsCandidateAt i c.setting_visited-vector.result e = subst (λ (o : Option Candidate). IfSome o (IsCandidateAt i c.setting_visited-vector.result)) c.in-Some.is c.in_ok-entrant.ensures.some in
    let at : v ≡ setting_visited p.start k = c.setting_visited-vector.ensures ∙ ap (λ n. setting_visited n k) c.requires.state.start_is in
    let inside : v < p.count = subst (λ (n : ℕ). n < p.count) (sym at) (visited_below p.start p.count k c.requires.state.start_inside c.requires.visits) in
    let text : c.deref.result.now ≡ load_text i.rules.core e.warrior = c.deref.ensures.value ∙ is.text_is in
    let look : lookup (same_text (load_text i.rules.core e.warrior)) s.cache.known ≡ Some u = ap (λ t. lookup (same_text t) s.cache.known) (sym text) ∙ sym c.in-Some-recall.ensures.value in
    let row = c.in_ok-row.row in
    let row_of : row ≡ get_or s.found.rows u.vector row = c.in_ok-row.ensures ∙ c.index-as_slice-other.is ∙ ap (λ (xs : List Row). get_or xs u.vector c.index-as_slice-other.result) c.as_slice.ensures ∙ ap (λ d. get_or s.found.rows u.vector d) (sym c.in_ok-row.ensures) in
    let apart : copies p.start u.vector v (first_of s.found.ranking) ≡ true = ap (λ n. copies n u.vector v (first_of s.found.ranking)) (sym c.requires.state.start_is) ∙ ap (copies s.start u.vector v) (sym c.first.ensures) ∙ sym c.copies-copied.ensures ∙ c.if-copied.true in
    record {
      start_is = c.requires.state.start_is;
      start_inside = c.requires.state.start_inside;
      method_is = refl;
      aim_is = refl;
      is_aim = c.requires.state.is_aim;
      capacity_is = ap (λ (m : CacheView). m.capacity) c.in-Some-recall.ensures.known ∙ c.requires.state.capacity_is;
      blank = c.requires.state.blank;
      going = under_way_along p i.rules s.aim c.args.self.now.method (k + 1) _ _ _ _ _ _ _ _
          (copied_visit p (inputs_problem i) c.requires.state.start_inside i.rules s.aim c.requires.state.is_aim c.args.self.now.method k v at inside
          (findings_of s) s.order.items s.cache.known c.requires.state.going
          e.warrior is.warrior_is is.rules_hold is.is_warrior is.fits u look row row_of apart)
          (sym c.set.ensures)
          (sym c.in_ok-rank.ensures.ranked)
          refl
          refl
          (ap (λ t. promoted (same_text t) s.cache.known) (sym text) ∙ sym (ap (λ (m : CacheView). m.known) c.in-Some-recall.ensures.known));
    }

pub returns : goal.returns
returns g c =
    let i = c.args.inputs.now in
    let p = problem_of i in
    let s = c.args.self.now in
    let k = c.args.visits in
    let v = c.setting_visited-vector.result in
    let u = c.in-Some-recall.other in
    let e = c.in-Some.entrant in
    let is : IsCandidateAt i c.setting_visited-vector.result e = subst (λ (o : Option Candidate). IfSome o (IsCandidateAt i c.setting_visited-vector.result)) c.in-Some.is c.in_ok-entrant.ensures.some in
    let at : v ≡ setting_visited p.start k = c.setting_visited-vector.ensures ∙ ap (λ n. setting_visited n k) c.requires.state.start_is in
    let inside : v < p.count = subst (λ (n : ℕ). n < p.count) (sym at) (visited_below p.start p.count k c.requires.state.start_inside c.requires.visits) in
    let text : c.deref.result.now ≡ load_text i.rules.core e.warrior = c.deref.ensures.value ∙ is.text_is in
    let look : lookup (same_text (load_text i.rules.core e.warrior)) s.cache.known ≡ Some u = ap (λ t. lookup (same_text t) s.cache.known) (sym text) ∙ sym c.in-Some-recall.ensures.value in
    let apart : copies p.start u.vector v (first_of s.found.ranking) ≡ false = ap (λ n. copies n u.vector v (first_of s.found.ranking)) (sym c.requires.state.start_is) ∙ ap (copies s.start u.vector v) (sym c.first.ensures) ∙ sym c.copies-copied.ensures ∙ c.if-copied.false in
    record {
      start_is = c.requires.state.start_is;
      start_inside = c.requires.state.start_inside;
      method_is = refl;
      aim_is = refl;
      is_aim = c.requires.state.is_aim;
      capacity_is = ap (λ (m : CacheView). m.capacity) c.in-Some-recall.ensures.known ∙ c.requires.state.capacity_is;
      blank = c.requires.state.blank;
      going = under_way_along p i.rules s.aim c.args.self.now.method (k + 1) _ _ _ _ _ _ _ _
          (shared_visit p (inputs_problem i) c.requires.state.start_inside i.rules s.aim c.requires.state.is_aim c.args.self.now.method k v at inside
          (findings_of s) s.order.items s.cache.known c.requires.state.going
          e.warrior is.warrior_is is.rules_hold is.is_warrior is.fits u look apart)
          (sym c.set-2.ensures)
          (sym c.in_ok-rank.ensures.ranked)
          refl
          refl
          (ap (λ t. promoted (same_text t) s.cache.known) (sym text) ∙ sym (ap (λ (m : CacheView). m.known) c.in-Some-recall.ensures.known));
    }
