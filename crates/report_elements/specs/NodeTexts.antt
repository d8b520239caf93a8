-- The text of the formula that a node of a table means.
use Rattle.std.specs.Prelude.{ℕ, List}
use Rattle.wsym_formula.specs.declared.nodes.Node.{Node}
use Rattle.wsym_formula.specs.Tables.{meaning_at}
use Rattle.report_elements.specs.Elements.{term_text}

abbrev pub node_text : List Node → ℕ → List ℕ
node_text nodes k = term_text (meaning_at nodes k)
