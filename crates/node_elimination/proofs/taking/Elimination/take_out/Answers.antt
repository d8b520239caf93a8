use Rattle.std.proofs.Common.{◌∙◌, ap, subst, ℕ, List, length}
use Rattle.node_elimination.specs.declared.cells.Cell.{Cell}
use Rattle.node_elimination.specs.Cells.{firsts}
use Rattle.node_elimination.specs.LevelStates.{cell_at}
use Rattle.elimination_plans.specs.AddedWays.{listed}
use Rattle.node_elimination.proofs.TakenNodeLemmas.{AddsAll, table_step, plan_added}
use Rattle.node_elimination.proofs.taking.Elimination.take_out.Goals as goal

pub returns-clause-table : goal.returns-clause-table
returns-clause-table c =
    table_step c.args.node c.node-cell.result (cell_at c.args.self.now.nodes.items c.args.node) c.node-cell.ensures c.in_ok-ins.ins.items
    c.in_ok-outs.outs.items c.args.self.now.table c.pull_in.new.self c.pull_out.new.self c.add_rows.new.self
    c.in_ok-ins.ensures.keeps c.in_ok-outs.ensures.keeps
    (subst (λ (xs : List (ℕ × Cell)). AddsAll c.pull_out.new.self c.add_rows.new.self xs c.node-cell.result c.in_ok-outs.outs.items)
    c.as_slice.ensures.value
    (subst (λ (ys : List (ℕ × Cell)). AddsAll c.pull_out.new.self c.add_rows.new.self c.as_slice.result.now c.node-cell.result ys)
    c.as_slice-2.ensures.value c.in_ok-add_rows.ensures.keeps))

pub returns-clause-plan : goal.returns-clause-plan
returns-clause-plan c =
    plan_added c.args.node c.in_ok-entry.entry (length c.args.self.now.plan.order) c.in_ok-entry.ensures c.in_ok-ins.ins.items
    c.in_ok-outs.outs.items c.args.self.now.table c.pull_in.new.self c.pull_out.new.self
    c.in_ok-ins.ensures.keeps c.in_ok-outs.ensures.keeps c.as_slice-5.result.now c.as_slice-6.result.now
    (c.as_slice-5.ensures.value ∙ c.in_ok-sources.ensures ∙ ap firsts c.as_slice-3.ensures.value)
    (c.as_slice-6.ensures.value ∙ c.in_ok-targets.ensures ∙ ap firsts c.as_slice-4.ensures.value)
    (listed c.args.self.now.plan.ways) (listed c.add_all.new.ways) c.in_ok-add_all.ensures

pub returns-clause-gains : goal.returns-clause-gains
returns-clause-gains c live g = c.in_ok-add_rows.ensures.gains live (c.in_ok-outs.ensures.gains live (c.in_ok-ins.ensures.gains live g))
