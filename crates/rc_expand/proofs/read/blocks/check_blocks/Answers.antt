use Rattle.std.proofs.Common.{◌≡◌, ◌<◌, ◌+◌, ◌-◌, length, drop, [], ◌∷◌, ◌++◌, set, refl, sym, subst, ◌∙◌, ap, arith, length-append, length-set, deque_len}
use Rattle.std.proofs.lemmas.Bool.{eqb-true, eqb-false}
use Rattle.std.specs.Prelude.{Err}
use Rattle.std.specs.List.{AllByRecursion}
use Rattle.std.proofs.lemmas.List.{drop_all}
use Rattle.rc_expand.proofs.Each.{split_at}
use Rattle.rc_expand.proofs.Reading.NestingSteps.{opened_line}
use Rattle.rc_expand.proofs.Reading.BlockSteps.{SoFar, at_other, at_opening, at_closing, too_deep, rof_alone, all_closed, left_open, still_below, is_outermost, is_inner, is_neither, start}
use Rattle.rc_expand.proofs.read.blocks.check_blocks.Goals as goal
use Rattle.rc_expand.proofs.read.blocks.check_blocks.Goals.{in-For+else-len-eq-DEEPEST_BLOCK+in_ok-push_front-in-For, then-is_empty, else-is_empty, in-Rof+in-Some, in_default}

pub loop-i-init : goal.loop-i-init
loop-i-init c = rw (c.in_ok-distances.ensures.items, c.new-open.ensures.items) (refl, omega arith, tt, start c.args.lines.now)

pub returns-then-len-eq-DEEPEST_BLOCK : goal.returns-then-len-eq-DEEPEST_BLOCK
returns-then-len-eq-DEEPEST_BLOCK c =
    let hs = drop (c.loop-i.i + 1) c.args.lines.now in
    let h = c.index-lines-i.result in
    let lines = split_at c.args.lines.now c.loop-i.i h c.loop-i-test.true c.index-lines-i.is in
    λ k. too_deep c.args.lines.now c.loop-i.open.items c.loop-i.distances.items c.loop-i.outermost _ h hs lines c.loop-i.invariant.3 c.in-For.is (omega (arith, c.if-len-eq-DEEPEST_BLOCK.true, c.len.ensures)) ∙ ap Err (sym c.at_line.ensures)

pub returns-in-None : goal.returns-in-None
returns-in-None c =
    let hs = drop (c.loop-i.i + 1) c.args.lines.now in
    let h = c.index-lines-i.result in
    let lines = split_at c.args.lines.now c.loop-i.i h c.loop-i-test.true c.index-lines-i.is in
    λ k. rof_alone c.args.lines.now c.loop-i.open.items c.loop-i.distances.items c.loop-i.outermost _ h hs lines c.loop-i.invariant.3 c.in-Rof.is (omega (arith, c.in-None.ensures.cases.0)) ∙ ap Err (sym c.at_line-in-None.ensures)

pub loop-i-preserved : goal.loop-i-preserved
loop-i-preserved c =
    let i = c.loop-i.i in
    let xs = c.loop-i.open.items in
    let ds = c.loop-i.distances.items in
    let hs = drop (i + 1) c.args.lines.now in
    let h = c.index-lines-i.result in
    let lines = split_at c.args.lines.now i h c.loop-i-test.true c.index-lines-i.is in
    let so_far = c.loop-i.invariant in
    elim c.match-raw.branch [
      | in-For+else-len-eq-DEEPEST_BLOCK+in_ok-push_front-in-For w ↦
          let opened : c.match-raw.open.items ≡ i ∷ xs = ap (λ v. v.items) w.open-is ∙ w.in_ok-push_front-in-For.ensures.items in
          let longer : c.push.new.self.items ≡ ds ++ (0 ∷ []) = c.in_ok-push.ensures.items ∙ ap (λ v. v.items ++ (0 ∷ [])) w.distances-is in
          let outermost : c.match-raw.outermost ≡ opened_line h (length xs) c.loop-i.outermost =
          elim w.if-is_empty.branch [
            | then-is_empty v ↦ is_outermost h (length xs) c.loop-i.outermost c.match-raw.outermost (omega (arith, eqb-true (deque_len c.loop-i.open) 0 (sym v.if-is_empty.ensures), c.loop-i.open.ok)) (w.outermost-is ∙ v.outermost-is)
            | else-is_empty v ↦ is_inner h (length xs) c.loop-i.outermost c.match-raw.outermost (omega (arith, eqb-false (deque_len c.loop-i.open) 0 (sym v.if-is_empty.ensures), c.loop-i.open.ok)) (w.outermost-is ∙ v.outermost-is)
          ]
          in
          rw longer (
            omega (arith, so_far.0, length-append ds (0 ∷ [])),
            omega (arith, ap length opened, so_far.1, w.if-len-eq-DEEPEST_BLOCK.false, w.len.ensures),
            subst (AllByRecursion (λ start. start < i + 1)) (sym opened) (omega arith, still_below xs i so_far.2),
            at_opening c.args.lines.now xs ds c.loop-i.outermost _ h hs lines so_far.3 c.match-raw.open.items c.match-raw.outermost (opened ∙ ap (λ n. n ∷ xs) (sym so_far.0)) outermost w.in-For.is (omega (arith, so_far.1, w.if-len-eq-DEEPEST_BLOCK.false, w.len.ensures)),
          )
      | in-Rof+in-Some w ↦
          let closed : xs ≡ w.in-Some.start ∷ c.match-raw.open.items = w.in-Some.ensures.items ∙ ap (λ v. w.in-Some.start ∷ v.items) (sym w.open-is) in
          let below = subst (AllByRecursion (λ start. start < i)) closed so_far.2 in
          let longer : c.push.new.self.items ≡ set ds w.in-Some.start (length ds - w.in-Some.start) ++ (0 ∷ []) =
          c.in_ok-push.ensures.items ∙ (ap (λ v. v.items ++ (0 ∷ [])) w.distances-is ∙ ap (λ n. set ds w.in-Some.start (n - w.in-Some.start) ++ (0 ∷ [])) (sym so_far.0)) in
          rw (longer, w.outermost-is) (
            omega (arith, so_far.0, length-append (set ds w.in-Some.start (length ds - w.in-Some.start)) (0 ∷ []), length-set ds w.in-Some.start (length ds - w.in-Some.start)),
            omega (arith, ap length closed, so_far.1),
            still_below c.match-raw.open.items i below.1,
            at_closing c.args.lines.now xs ds c.loop-i.outermost _ h hs lines so_far.3 w.in-Some.start c.match-raw.open.items closed w.in-Rof.is,
          )
      | in_default w ↦
          let longer : c.push.new.self.items ≡ ds ++ (0 ∷ []) = c.in_ok-push.ensures.items ∙ ap (λ v. v.items ++ (0 ∷ [])) w.distances-is in
          rw (longer, w.open-is, w.outermost-is) (
            omega (arith, so_far.0, length-append ds (0 ∷ [])),
            so_far.1,
            still_below xs i so_far.2,
            at_other c.args.lines.now xs ds c.loop-i.outermost _ h hs lines so_far.3 (is_neither h.word w.in_default.not-For w.in_default.not-Rof),
          )
    ]

pub returns-then-not-is_empty : goal.returns-then-not-is_empty
returns-then-not-is_empty c =
    let none = drop_all c.loop-i.i c.args.lines.now (omega (arith, c.loop-i-test.false)) in
    let end = subst (SoFar c.args.lines.now c.loop-i.open.items c.loop-i.distances.items c.loop-i.outermost) none c.loop-i.invariant.3 in
    λ k. left_open c.args.lines.now c.loop-i.distances.items c.loop-i.outermost c.loop-i.open.items (λ e. omega (arith, e, eqb-false (deque_len c.loop-i.open) 0 (sym c.if-not-is_empty.ensures), c.loop-i.open.ok)) end ∙ ap Err (sym c.at_line-then-not-is_empty.ensures)

pub returns : goal.returns
returns c =
    let none = drop_all c.loop-i.i c.args.lines.now (omega (arith, c.loop-i-test.false)) in
    let end = subst (SoFar c.args.lines.now c.loop-i.open.items c.loop-i.distances.items c.loop-i.outermost) none c.loop-i.invariant.3 in
    all_closed c.args.lines.now c.loop-i.distances.items c.loop-i.outermost c.loop-i.open.items (omega (arith, eqb-true (deque_len c.loop-i.open) 0 (sym c.if-not-is_empty.ensures), c.loop-i.open.ok)) end
