use Rattle.std.proofs.Common.{◌∙◌, sym}
use Rattle.std.proofs.lemmas.Bool.{and_parts}
use Rattle.copy_facts.proofs.JoinedLemmas.{beq_true, same_cell_true, same_entry}
use Rattle.copy_facts.proofs.joining.is_same_entry.Goals as goal

pub returns-clause-same : goal.returns-clause-same
returns-clause-same c e =
    let p = and_parts c.is_same.result _ e in
    same_entry c.args.left c.args.right c.requires (same_cell_true c.args.left.cell c.args.right.cell (sym c.is_same.ensures ∙ p.0))
    (beq_true c.args.left.kept c.args.right.kept p.1)
