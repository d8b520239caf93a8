use Rattle.std.proofs.Common.{rules, ◌≡◌, ◌++◌, ◌∷◌, []}
use Rattle.report_rules.specs.Headers.{new_loop}
use Rattle.report_rules.proofs.LoopLaws.{header_added}
use Rattle.report_rules.proofs.read_loops.ReadLoops.with_loop.Goals as goal

pub invariant_of-result : goal.invariant_of-result
invariant_of-result c =
    let more : c.push.new.self ≡ c.self.inside.loops ++ new_loop c.args.header c.args.depth ∷ [] = search rules in
    header_added c.self.inside.headers c.insert.new.self c.self.inside.loops c.push.new.self c.args.header c.args.depth more c.self.invariant c.in_ok-insert.ensures.updates.0
