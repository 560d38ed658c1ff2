use Rattle.std.proofs.Common.{arith, ◌≡◌, ◌+◌, sym, subst, ℕ, ◌<◌, ◌≤◌}
use Rattle.tune_template.specs.Limits.{MOST_SETTINGS}
use Rattle.tune_problem.specs.Problem.{problem_of}
use Rattle.tune_problem.proofs.Scores.{inputs_problem}
use Rattle.tune_search.specs.Findings.{IsSearchFor}
use Rattle.tune_search.specs.State.{IsState, findings_of}
use Rattle.tune_problem.specs.declared.aim.Aim.{Aim}
use Rattle.tune_search.specs.declared.findings.Findings.{Findings}
use Rattle.tune_search.specs.declared.method.Method.{Method}
use Rattle.tune_search.proofs.Finish.{finds, finds_none}
use Rattle.tune_search.proofs.tuning.search_for.Goals as goal

pub visit-requires-clause-state : goal.visit-requires-clause-state
visit-requires-clause-state g c =
    let i = c.args.inputs.now in
    let s = c.loop-visits.state in
    let k = c.loop-visits.visits in
    let state = c.loop-visits.invariant.state in
    subst (λ (n : Aim). IsState i n s.method k s) (sym state.aim_is) (subst (λ (n : Method). IsState i c.args.aim n k s) (sym state.method_is) state)

pub loop-visits-preserved : goal.loop-visits-preserved
loop-visits-preserved g c =
    let i = c.args.inputs.now in
    let s = c.loop-visits.state in
    let k = c.loop-visits.visits in
    let old = c.loop-visits.invariant.state in
    record {
      state = subst (λ (n : Method). IsState i c.args.aim n (k + 1) c.visit.new.self) old.method_is
          (subst (λ (n : Aim). IsState i n s.method (k + 1) c.visit.new.self) old.aim_is c.in_ok-visit.ensures);
    }

pub returns-then-none_assembles : goal.returns-then-none_assembles
returns-then-none_assembles g c =
    let i = c.args.inputs.now in
    let p = problem_of i in
    let s = c.loop-visits.state in
    let e : c.loop-visits.visits ≡ p.count = omega (arith, c.loop-visits-test.false, c.loop-visits.auto.visits-end, c.count-visits-end.ensures.count) in
    let state : IsState i c.args.aim c.args.method p.count s = subst (λ (k : ℕ). IsState i c.args.aim c.args.method k s) e c.loop-visits.invariant.state in
    let none : s.found.candidates ≡ 0 = omega (arith, c.if-none_assembles.true) in
    λ same. finds_none p (inputs_problem i) state.start_inside i.rules c.args.aim c.requires.aim c.args.method (findings_of s) s.order.items s.cache.known state.going none

pub returns : goal.returns
returns g c =
    let i = c.args.inputs.now in
    let p = problem_of i in
    let s = c.loop-visits.state in
    let e : c.loop-visits.visits ≡ p.count = omega (arith, c.loop-visits-test.false, c.loop-visits.auto.visits-end, c.count-visits-end.ensures.count) in
    let state : IsState i c.args.aim c.args.method p.count s = subst (λ (k : ℕ). IsState i c.args.aim c.args.method k s) e c.loop-visits.invariant.state in
    let few : p.count ≤ MOST_SETTINGS = omega (arith, c.count-visits-end.ensures.count, c.count-visits-end.ensures.few) in
    let found = finds p (inputs_problem i) state.start_inside i.rules c.args.aim c.requires.aim c.args.method (findings_of s) s.order.items s.cache.known state.going few in
    let some : 0 < s.found.candidates = omega (arith, c.if-none_assembles.false) in
    subst (λ (f : Findings). IsSearchFor p c.args.aim c.args.method f × (0 < f.candidates)) (sym c.into_findings.ensures) (found, some)
