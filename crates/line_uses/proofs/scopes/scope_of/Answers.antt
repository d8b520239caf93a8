use Rattle.std.proofs.Common.{rules, ◌≡◌, ◌≤◌, ◌+◌, ◌/◌, true, false, ap, ◌∙◌, arith}
use Rattle.line_uses.specs.PointMaps.{depth_of, block_of, loop_at}
use Rattle.line_uses.proofs.DepthLemmas.{few_in_loop, in_loop, many_before, many_in_loop, middle_high, middle_low, none_at_all}
use Rattle.line_uses.proofs.scopes.scope_of.Goals as goal

pub returns-then-not-some-clause-scope : goal.returns-then-not-some-clause-scope
returns-then-not-some-clause-scope c = λ maps.
    let none : c.in_ok-some.some ≡ false = search rules in
    let size = c.depth_at-depth.ensures.exact maps in
    let here = in_loop c.args.tables.now c.args.point c.depth_at-depth.result c.loop_at.result c.loop_at.ensures maps c.requires.inside
    (omega (arith, size)) in
    none_at_all c.args.sets c.args.ways c.args.tables.now c.args.point maps
    (many_in_loop c.args.sets c.args.ways c.args.tables.now c.args.point (depth_of c.args.tables.now c.args.point) c.loop_at.result
    (c.loop_at.ensures ∙ ap (loop_at c.args.tables.now (block_of c.args.tables.now c.args.point)) size)
    (c.in_ok-some.ensures.many maps here none))

pub loop-low-init : goal.loop-low-init
loop-low-init c =
    let some : c.in_ok-some.some ≡ true = search rules in
    record {
      order = omega arith;
      small = c.depth_at-depth.ensures.low;
      between = λ maps.
          let size = c.depth_at-depth.ensures.exact maps in
          let here = in_loop c.args.tables.now c.args.point c.depth_at-depth.result c.loop_at.result c.loop_at.ensures maps
          c.requires.inside
          (omega (arith, size)) in
          record {
            most = omega (arith, size);
            few = few_in_loop c.args.sets c.args.ways c.args.tables.now c.args.point c.depth_at-depth.result c.loop_at.result
                c.loop_at.ensures
                (c.in_ok-some.ensures.fewer maps here some);
            many = λ e lt. absurd (omega (arith, lt));
          };
      back = search rules;
      forward = search rules;
    }

pub loop-low-preserved-then-few : goal.loop-low-preserved-then-few
loop-low-preserved-then-few c =
    let high = middle_high c.loop-low.low c.loop-low.high c.loop-low-test.true in
    let small = c.loop-low.invariant.small in
    record {
      order = middle_low c.loop-low.low c.loop-low.high c.loop-low-test.true;
      small = omega (arith, high, small);
      between = λ maps.
          let old = c.loop-low.invariant.between maps in
          let most = old.most in
          let here = in_loop c.args.tables.now c.args.point ((c.loop-low.low + c.loop-low.high) / 2) c.loop_at-in-loop-low.result
          c.loop_at-in-loop-low.ensures maps c.requires.inside (omega (arith, high, most)) in
          record {
            most = omega (arith, high, most);
            few = few_in_loop c.args.sets c.args.ways c.args.tables.now c.args.point ((c.loop-low.low + c.loop-low.high) / 2)
                c.loop_at-in-loop-low.result c.loop_at-in-loop-low.ensures (c.in_ok-few.ensures.fewer maps here c.if-few.true);
            many = old.many;
          };
      back = search rules;
      forward = search rules;
    }

pub loop-low-preserved : goal.loop-low-preserved
loop-low-preserved c =
    let high = middle_high c.loop-low.low c.loop-low.high c.loop-low-test.true in
    record {
      order = omega (arith, high);
      small = c.loop-low.invariant.small;
      between = λ maps.
          let old = c.loop-low.invariant.between maps in
          let most = old.most in
          let here = in_loop c.args.tables.now c.args.point ((c.loop-low.low + c.loop-low.high) / 2) c.loop_at-in-loop-low.result
          c.loop_at-in-loop-low.ensures maps c.requires.inside (omega (arith, high, most)) in
          record {
            most = most;
            few = old.few;
            many = many_before c.args.sets c.args.ways c.args.tables.now c.args.point ((c.loop-low.low + c.loop-low.high) / 2) maps
                (omega (arith, high, most))
                (many_in_loop c.args.sets c.args.ways c.args.tables.now c.args.point ((c.loop-low.low + c.loop-low.high) / 2)
                c.loop_at-in-loop-low.result c.loop_at-in-loop-low.ensures (c.in_ok-few.ensures.many maps here c.if-few.false));
          };
      back = search rules;
      forward = search rules;
    }

pub returns-clause-scope : goal.returns-clause-scope
returns-clause-scope c = λ maps.
    let old = c.loop-low.invariant.between maps in
    let test : c.loop-low.high ≤ c.loop-low.low = search rules in
    (old.most, old.few, (λ e lt. old.many e (omega (arith, lt, test))))
