use Rattle.std.proofs.Common.{arith}
use Rattle.std.proofs.lemmas.Result.{err_from_is_err_and}
use Rattle.wcet_core.proofs.analysis.analyse_function.Goals as goal

pub returns-in_err-structure-clause-refused : goal.returns-in_err-structure-clause-refused
returns-in_err-structure-clause-refused c =
    let p = err_from_is_err_and c.from_residual.result c.from_residual.ensures.1 in
    rw (p.1, p.2) (c.in_err-structure.ensures.refused c.args.timing.now c.args.stack)

pub returns-in_err-check_frames-clause-refused : goal.returns-in_err-check_frames-clause-refused
returns-in_err-check_frames-clause-refused c =
    let p = err_from_is_err_and c.from_residual-in_err-check_frames.result c.from_residual-in_err-check_frames.ensures.1 in
    rw (p.1, p.2) (c.in_err-check_frames.ensures.refused c.args.timing.now)

pub returns-clause-analysed : goal.returns-clause-analysed
returns-clause-analysed c =
    let s = c.in_ok-structure.structure in
    let is = c.in_ok-structure.ensures.structure in
    let made = c.in_ok-report.ensures.made in
    record {
      graph = s.function.graph;
      nest = s.nest;
      is_graph = is.function.graph;
      is_nest = is.nest;
      framed = c.in_ok-check_frames.ensures.framed;
      made = made;
      kept =
          c.graph_reports_are_kept.ensures c.args.image.now c.args.timing.now c.args.entry c.args.stack s.function.graph s.nest
          made.uses.points made.uses.uses made.tree.0 c.args.params c.in_ok-report.report (omega (arith, c.ranges.entry.fits))
          c.requires.small c.requires.limits is.function.graph is.nest c.in_ok-check_frames.ensures.followed made.are_uses.points
          made.are_uses.uses made.tree.1 made.parts made.tree.2 made.formula;
    }

pub returns-clause-kept : goal.returns-clause-kept
returns-clause-kept c =
    let s = c.in_ok-structure.structure in
    let is = c.in_ok-structure.ensures.structure in
    let made = c.in_ok-report.ensures.made in
    c.graph_reports_are_kept.ensures c.args.image.now c.args.timing.now c.args.entry c.args.stack s.function.graph s.nest
    made.uses.points made.uses.uses made.tree.0 c.args.params c.in_ok-report.report (omega (arith, c.ranges.entry.fits))
    c.requires.small c.requires.limits is.function.graph is.nest c.in_ok-check_frames.ensures.followed made.are_uses.points
    made.are_uses.uses made.tree.1 made.parts made.tree.2 made.formula
