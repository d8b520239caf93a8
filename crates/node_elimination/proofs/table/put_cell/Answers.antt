use Rattle.std.specs.Prelude.{Some, None}
use Rattle.node_elimination.proofs.CellChangeLemmas.{cell_put}
use Rattle.node_elimination.proofs.table.put_cell.Goals as goal

pub returns-in_ok-insert-in-Some : goal.returns-in_ok-insert-in-Some
returns-in_ok-insert-in-Some c x y =
    cell_put c.args.from c.args.to c.args.after (Some c.in-Some.cell) c.in-Some.is c.args.cells.now c.insert.new.self
    c.in_ok-insert-in-Some.ensures.updates.0 x y

pub returns-in-None : goal.returns-in-None
returns-in-None c x y = cell_put c.args.from c.args.to c.args.after None c.in-None.is c.args.cells.now c.remove.new.self
    c.remove.ensures.updates.0 x y
