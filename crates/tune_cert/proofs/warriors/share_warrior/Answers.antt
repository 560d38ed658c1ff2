use Rattle.std.proofs.Common.{◌≡◌, ◌∙◌, sym, arith, Some, None}
use Rattle.std.proofs.lemmas.Option.{get_or_from_slice_get}
use Rattle.tune_problem.specs.Problem.{problem_of}
use Rattle.tune_cert.proofs.EqualWarriors.{share_test, none_shared, shared_none}
use Rattle.tune_cert.proofs.warriors.share_warrior.Goals as goal

pub returns-in_default-clause-shared : goal.returns-in_default-clause-shared
returns-in_default-clause-shared c =
    let p = problem_of c.args.inputs.now in
    sym (none_shared (p.warrior c.args.vector) (p.warrior c.args.other) (sym c.in_ok-own.ensures.warrior ∙ c.in_default.is))

pub index-requires : goal.index-requires
index-requires c = omega (arith, c.requires.other, c.in_ok-assemble_once.ensures.assembled.as_many)

pub returns-in-Some-index-clause-shared : goal.returns-in-Some-index-clause-shared
returns-in-Some-index-clause-shared c =
    let p = problem_of c.args.inputs.now in
    let theirs : p.warrior c.args.other ≡ Some c.in-Some-index.theirs =
    sym (get_or_from_slice_get c.assemble_once.new.warriors.items c.args.other (p.warrior c.args.other) c.index.result.now c.in_ok-assemble_once.ensures.warrior)
    ∙ sym c.index.ensures ∙ c.in-Some-index.is in
    let own : p.warrior c.args.vector ≡ Some c.in-Some.own = sym c.in_ok-own.ensures.warrior ∙ c.in-Some.is in
    sym (share_test _ _ c.in-Some.own c.in-Some-index.theirs c.is_same_warrior.result own theirs c.is_same_warrior.ensures.0 c.is_same_warrior.ensures.1)

pub returns-clause-shared : goal.returns-clause-shared
returns-clause-shared c =
    let p = problem_of c.args.inputs.now in
    let theirs : p.warrior c.args.other ≡ None =
    sym (get_or_from_slice_get c.assemble_once.new.warriors.items c.args.other (p.warrior c.args.other) c.index.result.now c.in_ok-assemble_once.ensures.warrior)
    ∙ sym c.index.ensures ∙ c.in-None.is in
    sym (shared_none (p.warrior c.args.vector) (p.warrior c.args.other) theirs)
