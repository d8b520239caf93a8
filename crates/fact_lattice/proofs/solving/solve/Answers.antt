use Rattle.std.proofs.Common.{rules, ◌∙◌}
use Rattle.std.specs.Ordering.{nat_cmp}
use Rattle.std.specs.BTreeSet as tree
use Rattle.fact_lattice.proofs.SearchLemmas.{solving_begins, solving_passes}
use Rattle.fact_lattice.proofs.solving.solve.Goals as goal

pub loop-point-init : goal.loop-point-init
loop-point-init g c =
    let M = g.M.Merging in
    record {
      sound = search rules;
      same = search rules;
      solving = solving_begins (M.flow c.args.states.now) c.requires.regular c.args.start (M.map c.args.states.now)
          (tree.contains nat_cmp c.new-waiting.result) (tree.contains nat_cmp c.put.new.waiting) c.requires.begins c.requires.first
          (search rules) (search rules);
    }

pub loop-point-preserved : goal.loop-point-preserved
loop-point-preserved g c =
    let M = g.M.Merging in
    record {
      sound = search rules;
      same = c.in_ok-pass.ensures.same ∙ c.loop-point.invariant.same;
      solving =
          solving_passes (M.flow c.args.states.now) (M.flow c.loop-point.states) c.loop-point.invariant.same c.in-Some.point
          (M.map c.loop-point.states) (M.map c.pass.new.states)
          (tree.contains nat_cmp c.loop-point.waiting) (tree.contains nat_cmp c.take.new.waiting) (tree.contains nat_cmp c.pass.new.waiting)
          c.loop-point.invariant.solving c.in-Some.ensures.taken c.in_ok-pass.ensures.went c.in_ok-pass.ensures.placed;
    }
