use Rattle.std.proofs.Common.{List, subst}
use Rattle.std.proofs.lemmas.Result.{err_from_is_err_and}
use Rattle.wsym_terms.specs.declared.trees.BlockUses.{BlockUses}
use Rattle.level_tables.specs.FlowLevels.{IsLevelsOf}
use Rattle.flow_graph.specs.Flow.{flow_in}
use Rattle.node_elimination.specs.declared.taking.TreeRefusal.TheVariants as tree
use Rattle.wcet_core.proofs.ReportLemmas.{same_error}
use Rattle.wcet_core.proofs.reports.report_of.Goals as goal

pub tree-requires-clause-bounded : goal.tree-requires-clause-bounded
tree-requires-clause-bounded c = (let w = c.requires.graph in c.graphs_are_flows.ensures.bounded w.0 w.1 c.args.graph.now w.2)

pub tree-requires-clause-reached : goal.tree-requires-clause-reached
tree-requires-clause-reached c = (let w = c.requires.graph in c.graphs_are_flows.ensures.reached w.0 w.1 c.args.graph.now w.2)

pub returns-in_err-tree-clause-large : goal.returns-in_err-tree-clause-large
returns-in_err-tree-clause-large c =
    let p = err_from_is_err_and c.from_residual.result c.from_residual.ensures.1 in
    rw (p.1, p.2)
    (λ is. let found = c.in_err-tree.ensures.large (same_error c.in_err-tree.field-0.0 tree.TooLarge is) in (
      c.in-Ok.uses,
      c.in-Ok.ensures.uses,
      (
        found.0,
        subst (λ (bs : List BlockUses). IsLevelsOf (flow_in c.args.graph.now) c.args.nest.now bs found.0) c.as_slice.ensures found.1,
        found.2,
      ),
    ))
