use Rattle.std.proofs.Common.{rules, ◌≡◌, ◌++◌, OnOk, string_bytes, ℕ, List, sym, ap, ◌∙◌, subst, arith}
use Rattle.wsym_formula.specs.Tables.{AllBelow}
use Rattle.report_elements.proofs.NodeLaws.{sum_below, alt_below, power_below, once_below, scaled_below, once_text}
use Rattle.report_elements.proofs.shared_formulas.+nodes.Goals as goal

pub push_node-push_nodes-requires : goal.push_node-push_nodes-requires
push_node-push_nodes-requires t c =
    (omega arith, (c.requires, subst (λ (ms : List ℕ). AllBelow c.args.at ms) (sym c.as_slice.ensures) (sum_below c.args.table.now c.args.at c.node.result.now c.in-Sum.members c.node.ensures.closed c.node.ensures.node c.in-Sum.is)))

pub push_node-push_nodes-requires-in-Alt : goal.push_node-push_nodes-requires-in-Alt
push_node-push_nodes-requires-in-Alt t c =
    (omega arith, (c.requires, subst (λ (ms : List ℕ). AllBelow c.args.at ms) (sym c.as_slice-in-Alt.ensures) (alt_below c.args.table.now c.args.at c.node.result.now c.in-Alt.choices c.node.ensures.closed c.node.ensures.node c.in-Alt.is)))

pub push_node-push_turns-requires : goal.push_node-push_turns-requires
push_node-push_turns-requires t c =
    (omega arith, (c.requires, power_below c.args.table.now c.args.at c.node.result.now c.in-Power.id c.in-Power.body c.node.ensures.closed c.node.ensures.node c.in-Power.is))

pub push_node-push_turns-requires-in-Scaled : goal.push_node-push_turns-requires-in-Scaled
push_node-push_turns-requires-in-Scaled t c =
    (omega arith, (c.requires, scaled_below c.args.table.now c.args.at c.node.result.now c.in-Scaled.id c.in-Scaled.body c.node.ensures.closed c.node.ensures.node c.in-Scaled.is))

pub push_node-push_once-requires : goal.push_node-push_once-requires
push_node-push_once-requires t c =
    (omega arith, (c.requires, once_below c.args.table.now c.args.at c.node.result.now c.in-Once.body c.node.ensures.closed c.node.ensures.node c.in-Once.is))

pub push_node-returns-in-Once : goal.push_node-returns-in-Once
push_node-returns-in-Once t c =
    let same = once_text c.args.table.now c.args.at c.node.result.now c.in-Once.body c.node.ensures.closed c.node.ensures.node c.in-Once.is in
    rw (same) c.push_once.ensures
