use Rattle.report_rules.proofs.LoopLaws.{header_kept}
use Rattle.report_rules.proofs.read_loops.ReadLoops.with_atom.Goals as goal

pub invariant_of-result : goal.invariant_of-result
invariant_of-result c =
    header_kept c.self.inside.headers c.self.inside.loops c.in_ok-loops.loops c.args.atom c.in_ok-loops.ensures c.self.invariant
