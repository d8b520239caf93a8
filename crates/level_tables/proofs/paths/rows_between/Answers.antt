use Rattle.std.proofs.Common.{◌∙◌, sym}
use Rattle.level_tables.proofs.BetweenLemmas.{are_paths, inside_same}
use Rattle.level_tables.proofs.paths.rows_between.Goals as goal

pub returns : goal.returns
returns c =
    are_paths c.args.edges.now c.args.ahead.now c.args.back.now c.args.header c.args.end c.requires.ahead c.requires.back _
    c.in_ok-kept.ensures
    (λ u. inside_same c.args.header c.args.end u c.as_slice.result.now c.in_ok-kept.kept c.as_slice.ensures
    ∙ (sym (c.in_ok-targets.ensures u) ∙ c.in_ok-nodes.ensures.exact u)) c.in_ok-nodes.ensures.rising
