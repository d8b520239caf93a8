use Rattle.std.proofs.Common.{◌≡◌, subst, ℕ, Bool}
use Rattle.std.specs.Prelude.{Option}
use Rattle.elimination_plans.specs.AddedWays.{listed}
use Rattle.elimination_plans.specs.PlanSteps.{edge_plan}
use Rattle.node_elimination.specs.declared.cells.Cell.{Cell}
use Rattle.node_elimination.specs.GivenLevels.{plain_of}
use Rattle.node_elimination.specs.Tables.{Keeps}
use Rattle.node_elimination.proofs.LevelStartLemmas.{was_there, was_none, edge_added, way_put}
use Rattle.node_elimination.proofs.taking.Elimination.put_edge.Goals as goal

pub returns-in-Some-clause-keeps : goal.returns-in-Some-clause-keeps
returns-in-Some-clause-keeps c all edge k op oq =
    subst (λ (e : ℕ → ℕ → Bool). Keeps all (plain_of e) c.args.self.now.table)
    (was_there c.args.from c.args.to all edge c.args.self.now.table c.in-Some.field-0 c.cell.result c.cell.ensures c.in-Some.is k) k

pub returns-in-Some-clause-ways : goal.returns-in-Some-clause-ways
returns-in-Some-clause-ways c all edge k w =
    subst (λ (e : ℕ → ℕ → Bool). (x y : ℕ) → listed c.args.self.now.plan.ways x y ≡ edge_plan e x y)
    (was_there c.args.from c.args.to all edge c.args.self.now.table c.in-Some.field-0 c.cell.result c.cell.ensures c.in-Some.is k) w

pub returns-in_ok-add_way-in-None-clause-keeps : goal.returns-in_ok-add_way-in-None-clause-keeps
returns-in_ok-add_way-in-None-clause-keeps c all edge k op oq =
    subst (λ (F : ℕ → ℕ → Option Cell). Keeps all F c.add.new.self) (edge_added c.args.from c.args.to edge
    (was_none c.args.from c.args.to all edge c.args.self.now.table c.cell.result c.cell.ensures c.in-None.is k))
    (c.in_ok-add-in-None.ensures.keeps all (plain_of edge) k op oq)

pub returns-in_ok-add_way-in-None-clause-ways : goal.returns-in_ok-add_way-in-None-clause-ways
returns-in_ok-add_way-in-None-clause-ways c all edge k w =
    way_put c.args.from c.args.to edge (listed c.args.self.now.plan.ways) (listed c.add_way.new.ways)
    (was_none c.args.from c.args.to all edge c.args.self.now.table c.cell.result c.cell.ensures c.in-None.is k) w
    c.in_ok-add_way-in-None.ensures
