use Rattle.std.proofs.Common.{◌≡◌, drop, max}
use Rattle.wsym_terms.specs.Trees.{greatest_scope}
use Rattle.wsym_formula.proofs.trees.scope_of.Given as goal

abbrev pub invariant-loop-line : goal.invariant-loop-line
invariant-loop-line l = max l.scope (greatest_scope (drop l.line-index l.uses)) ≡ greatest_scope l.uses
