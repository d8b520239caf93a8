use Rattle.std.proofs.Common.{rules, ◌≡◌, sym, subst, List}
use Rattle.linear_rows.specs.declared.rows.RowTerm.{RowTerm}
use Rattle.linear_rows.specs.Terms.{IsCollected}
use Rattle.linear_rows.specs.Forms.{weighted_terms}
use Rattle.linear_rows.specs.Steps.{signed}
use Rattle.linear_rows.proofs.Combining.{weighted_collected}
use Rattle.linear_rows.proofs.weighing.weigh.Goals as goal

pub returns-clause-collected : goal.returns-clause-collected
returns-clause-collected c =
    let out : c.loop-first.out ≡ weighted_terms (signed c.args.a.is_negative c.args.a.magnitude) c.args.xs.now (signed c.args.b.is_negative c.args.b.magnitude) c.args.ys.now = search rules in
    subst (λ (ts : List RowTerm). IsCollected ts) (sym out)
    (weighted_collected (signed c.args.a.is_negative c.args.a.magnitude) c.args.xs.now (signed c.args.b.is_negative c.args.b.magnitude) c.args.ys.now c.requires.second)
