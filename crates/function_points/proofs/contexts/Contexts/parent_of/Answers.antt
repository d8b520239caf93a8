use Rattle.std.proofs.Common.{rules}
use Rattle.std.specs.BTreeMap as tree
use Rattle.function_points.specs.Contexts.{pair_cmp}
use Rattle.function_points.proofs.ContextLemmas.{parent_at}
use Rattle.function_points.proofs.contexts.Contexts.parent_of.Goals as goal

pub returns-else-number-eq0-clause-some : goal.returns-else-number-eq0-clause-some
returns-else-number-eq0-clause-some c =
    parent_at c.self.inside.rows.items c.args.self.now
    (λ row. tree.get pair_cmp c.self.inside.children row) c.self.invariant c.self.view_is c.args.number c.index.result.now
    c.index.result.now (search rules) c.requires c.index.ensures
