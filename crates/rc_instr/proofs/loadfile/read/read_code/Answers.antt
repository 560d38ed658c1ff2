use Rattle.std.proofs.Common.{◌≡◌, ◌∙◌, ap, Err, arith, length-append, length, [], ◌∷◌, ◌+◌, ◌++◌, append-nil, refl}
use Rattle.std.proofs.lemmas.Grind.{common_steps}
use Rattle.rc_instr.specs.LoadMeaning.{lines_at}
use Rattle.rc_instr.specs.declared.loadfile.fault.LoadFault.TheVariants.{Malformed}
use Rattle.rc_instr.proofs.Loads.{after_code, shorter, advanced, stopped, pushed, ended, told}
use Rattle.rc_instr.proofs.loadfile.read.read_code.Goals as goal

pub loop-rest-init : goal.loop-rest-init
loop-rest-init c = record {
  so_far = rw c.new-code.ensures.items refl;
  number = rw c.new-code.ensures.items (omega arith);
  room = rw c.new-code.ensures.items (omega arith);
}

pub loop-rest-smaller : goal.loop-rest-smaller
loop-rest-smaller c = shorter _ _ _ _ c.requires c.in-Some.ensures

pub loop-rest-preserved : goal.loop-rest-preserved
loop-rest-preserved c =
    let items : c.push.new.self.items ≡ c.loop-rest.code.items ++ c.in-Some.instruction ∷ [] = c.in_ok-push-in-Some.ensures.items in
    let less = shorter _ _ _ _ c.requires c.in-Some.ensures in
    record {
      so_far = rw items (c.loop-rest.invariant.so_far ∙ pushed _ _ _ _ (advanced _ _ _ _ c.requires c.in-Some.ensures));
      number = rw (items, length-append) (omega arith);
      room = rw (items, length-append) (omega (arith, less));
    }

pub returns-in-None : goal.returns-in-None
returns-in-None c = λ _.
    let read : lines_at c.args.core c.args.bytes.now ≡ (c.loop-rest.code.items, c.loop-rest.rest.now) =
    c.loop-rest.invariant.so_far ∙ ap (after_code c.loop-rest.code.items) (stopped _ _ c.in-None.ensures) ∙ ap (λ code. (code, c.loop-rest.rest.now)) (append-nil c.loop-rest.code.items) in
    let number = c.loop-rest.invariant.number in
    let line : length c.loop-rest.code.items + 2 ≡ c.loop-rest.line = omega (arith, number) in
    told _ _ _ _ read (λ empty. grind (arith, common_steps)) ∙ ap (λ n. Err (Malformed n)) line

pub returns : goal.returns
unfolding lines_at
returns c =
    let none : c.loop-rest.rest.now ≡ [] = grind (arith, common_steps) in
    ended _ _ _ (c.loop-rest.invariant.so_far
    ∙ ap (λ rest. after_code c.loop-rest.code.items (lines_at c.args.core rest)) none
    ∙ ap (λ code. (code, [])) (append-nil c.loop-rest.code.items))
