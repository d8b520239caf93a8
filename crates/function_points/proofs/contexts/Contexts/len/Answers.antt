use Rattle.std.specs.BTreeMap as tree
use Rattle.function_points.specs.Contexts.{pair_cmp}
use Rattle.function_points.proofs.ContextLemmas.{root_seen, distinct_seen, rows_seen}
use Rattle.function_points.proofs.contexts.Contexts.len.Goals as goal

pub returns-clause-root : goal.returns-clause-root
returns-clause-root c = root_seen c.self.inside.rows.items c.args.self.now
    (λ row. tree.get pair_cmp c.self.inside.children row) c.self.invariant c.self.view_is

pub returns-clause-distinct : goal.returns-clause-distinct
returns-clause-distinct c = distinct_seen c.self.inside.rows.items c.args.self.now
    (λ row. tree.get pair_cmp c.self.inside.children row) c.self.invariant c.self.view_is

pub returns-clause-rows : goal.returns-clause-rows
returns-clause-rows c = rows_seen c.self.inside.rows.items c.args.self.now
    (λ row. tree.get pair_cmp c.self.inside.children row) c.self.invariant c.self.view_is
