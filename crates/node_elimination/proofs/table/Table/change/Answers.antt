use Rattle.std.proofs.Common.{rules}
use Rattle.node_elimination.proofs.CellChangeLemmas.{changed}
use Rattle.node_elimination.proofs.table.Table.change.Goals as goal

pub returns-clause-keeps : goal.returns-clause-keeps
returns-clause-keeps c =
    changed c.args.from c.args.to c.args.before c.args.after c.args.self.now
    (record { tally = c.shift_out.new.tally; cells = c.put_cell.new.cells; links = c.link.new.links; total = c.in_ok-self.field-0 })
    c.shift_in.new.tally.sums.items c.is_some.result c.is_some.ensures c.in_ok-shift_in.ensures.sums c.in_ok-shift_out.ensures.sums
    (search rules) c.in_ok-put_cell.ensures c.in_ok-link.ensures.links
