use Rattle.std.proofs.Common.{◌≡◌, ◌++◌, string_bytes, codes, ◌+◌, drop}
use Rattle.report_elements.specs.Elements.{spaced}
use Rattle.report_elements.specs.NodeTexts.{node_text}
use Rattle.wsym_formula.specs.Tables.{AllBelow}
use Rattle.report_elements.proofs.shared_formulas.+nodes.Given as goal

abbrev pub decreases-push_node : goal.decreases-push_node
decreases-push_node l = l.at + l.at + 1

abbrev pub decreases-push_nodes : goal.decreases-push_nodes
decreases-push_nodes l = l.before + l.before

abbrev pub decreases-push_once : goal.decreases-push_once
decreases-push_once l = l.before + l.before

abbrev pub decreases-push_turns : goal.decreases-push_turns
decreases-push_turns l = l.before + l.before

abbrev pub invariant-push_nodes-loop-member : goal.invariant-push_nodes-loop-member
invariant-push_nodes-loop-member l = record {
  below : AllBelow l.before (drop l.member-index l.members);
  left : string_bytes l.out ++ (spaced (node_text l.table) (drop l.member-index l.members) ++ codes ")") ≡ string_bytes l.fn.out ++ (l.word ++ (spaced (node_text l.table) l.members ++ codes ")"));
}
