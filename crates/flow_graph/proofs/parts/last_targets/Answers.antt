use Rattle.std.proofs.Common.{refl, get_or}
use Rattle.std.specs.Prelude.{None}
use Rattle.flow_graph.specs.Parts.{last_number}
use Rattle.flow_graph.proofs.PartLemmas.{last_number_in, step_at}
use Rattle.flow_graph.proofs.parts.last_targets.Goals as goal

pub bounds-table-chain : goal.bounds-table-chain
bounds-table-chain c = c.requires.under (last_number c.args.chain.now) (last_number_in c.args.chain.now c.requires.some)

pub returns : goal.returns
returns c =
    step_at c.args.table.now (last_number c.args.chain.now)
    (get_or c.args.table.now (last_number c.args.chain.now) (record { done = None; skipped = None }))
    (record { done = None; skipped = None })
    (c.requires.under (last_number c.args.chain.now) (last_number_in c.args.chain.now c.requires.some)) refl
