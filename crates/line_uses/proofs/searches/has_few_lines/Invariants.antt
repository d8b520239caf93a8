use Rattle.std.proofs.Common.{◌<◌, drop, length}
use Rattle.line_uses.proofs.FewLemmas.{AreNoted}
use Rattle.line_uses.proofs.searches.has_few_lines.Given as goal

abbrev pub invariant-loop-point : goal.invariant-loop-point
invariant-loop-point l =
    record {
      noted : AreNoted l.tables l.number l.line (drop l.point-index l.peers) l.found l.peers;
      few : length l.found < l.ways;
    }
