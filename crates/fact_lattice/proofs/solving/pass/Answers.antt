use Rattle.std.proofs.Common.{rules}
use Rattle.std.specs.Ordering.{nat_cmp}
use Rattle.std.specs.BTreeSet as tree
use Rattle.fact_lattice.proofs.SearchLemmas.{merge_passes, lost_after}
use Rattle.fact_lattice.proofs.solving.pass.Goals as goal

pub returns-then-not-is_placed-clause-stop : goal.returns-then-not-is_placed-clause-stop
returns-then-not-is_placed-clause-stop g c =
    let M = g.M.Merging in
    lost_after (M.flow c.args.states.now) (M.flow c.loop-way.states) c.loop-way.invariant.same c.args.point c.loop-way.way
    (M.map c.args.states.now) (M.map c.loop-way.states) (tree.contains nat_cmp c.args.waiting.now)
    (tree.contains nat_cmp c.loop-way.waiting)
    c.loop-way.invariant.passed c.requires.visited c.is_placed.result c.is_placed.ensures (search rules)

pub loop-way-preserved : goal.loop-way-preserved
loop-way-preserved g c =
    let M = g.M.Merging in
    record {
      sound = search rules;
      same = search rules;
      within = search rules;
      passed =
          merge_passes (M.flow c.args.states.now) c.args.point c.loop-way.way (M.map c.args.states.now) (M.map c.loop-way.states)
          (tree.contains nat_cmp c.args.waiting.now) (tree.contains nat_cmp c.loop-way.waiting)
          (M.flow c.loop-way.states) c.loop-way.invariant.same (M.map c.merge.new.self)
          (tree.contains nat_cmp c.put.new.waiting) c.in_ok-changed.changed c.is_placed.result
          c.loop-way.invariant.passed c.requires.visited c.is_placed.ensures (search rules) (search rules) (search rules) (search rules);
      less = search rules;
    }

pub returns-then-not-is_placed-2-clause-stop : goal.returns-then-not-is_placed-2-clause-stop
returns-then-not-is_placed-2-clause-stop g c =
    let M = g.M.Merging in
    lost_after (M.flow c.args.states.now) (M.flow c.loop-way.states) c.loop-way.invariant.same c.args.point c.loop-way.way
    (M.map c.args.states.now) (M.map c.loop-way.states) (tree.contains nat_cmp c.args.waiting.now)
    (tree.contains nat_cmp c.loop-way.waiting)
    c.loop-way.invariant.passed c.requires.visited c.is_placed-2.result c.is_placed-2.ensures (search rules)
