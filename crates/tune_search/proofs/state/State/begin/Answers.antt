use Rattle.std.proofs.Common.{◌<◌, ◌∙◌, ap, sym, refl, subst, replicate, ℕ}
use Rattle.std.specs.List.{range_with_len}
use Rattle.rc_instr.specs.Rules.{RulesView}
use Rattle.mars_core.specs.Arena.{IsBlank}
use Rattle.tune_problem.specs.Problem.{problem_of}
use Rattle.tune_problem.specs.declared.cert.Row.TheVariants.{Refused}
use Rattle.tune_search.specs.Cache.{CacheView}
use Rattle.tune_search.proofs.Visiting.{under_way_along}
use Rattle.tune_search.proofs.Finish.{starts}
use Rattle.tune_search.proofs.state.State.begin.Goals as goal

pub returns : goal.returns
returns c =
    let i = c.args.inputs.now in
    let p = problem_of i in
    record {
      start_is = c.start_number.ensures.index;
      start_inside = subst (λ (n : ℕ). n < p.count) c.start_number.ensures.index c.start_number.ensures.inside;
      method_is = refl;
      aim_is = refl;
      is_aim = c.requires.aim;
      capacity_is = ap (λ (m : CacheView). m.capacity) c.in_ok-cache.ensures ∙ c.capacity_of.ensures;
      blank = subst (λ (r : RulesView). IsBlank r c.in_ok-arena.arena) c.rules.ensures c.in_ok-arena.ensures.blank;
      going = under_way_along p i.rules c.args.aim c.args.method 0 _ _ _ _ _ _ _ _ (starts p i.rules c.args.aim c.args.method _ c.cert_version.ensures)
          (sym (c.from_vec.ensures ∙ c.in_ok-rows.ensures ∙ ap (λ n. replicate n Refused) c.count.ensures.count)) (sym c.new.ensures)
          (sym (c.in_ok-order.ensures ∙ ap (range_with_len 0) c.fight_count.ensures.count)) (sym c.in_ok-arena.ensures.fights)
          (sym (ap (λ (m : CacheView). m.known) c.in_ok-cache.ensures));
    }
