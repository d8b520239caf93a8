use Rattle.std.proofs.Common.{◌≡◌, ◌++◌, string_bytes, drop}
use Rattle.report_elements.specs.Elements.{spaced, use_text}
use Rattle.report_elements.proofs.tree_text.push_uses.Given as goal

abbrev pub invariant-loop-used : goal.invariant-loop-used
invariant-loop-used l = string_bytes l.out ++ spaced use_text (drop l.used-index l.uses) ≡ string_bytes l.fn.out ++ spaced use_text l.uses
