-- How large terms are.
use Rattle.std.specs.Prelude.{ℕ, suc}
use Rattle.wsym_terms.specs.TreeNesting.{most}
use Rattle.wsym_formula.specs.declared.terms.Term.{Term, fold-Term}
use Rattle.wsym_formula.specs.declared.terms.Term.TheOpen.{Term-F}
use Rattle.wsym_formula.specs.declared.terms.Term.TheOpen.Term-F.{Const, Sum, Alt, Power, Once, Scaled}
use Rattle.wsym_formula.specs.Values.{total}

-- the nodes of a term, equal ones as often as they stand in it
abbrev pub level_nodes : Term-F ℕ → ℕ
level_nodes (Const costs) = 1
level_nodes (Sum members) = suc (total members)
level_nodes (Alt choices) = suc (total choices)
level_nodes (Power id body) = suc body
level_nodes (Once body) = suc body
level_nodes (Scaled id body) = suc body

abbrev pub nodes_of : Term → ℕ
nodes_of = fold-Term ℕ level_nodes

-- how deep a term nests; a constant has 1
abbrev pub level_nesting : Term-F ℕ → ℕ
level_nesting (Const costs) = 1
level_nesting (Sum members) = suc (most members)
level_nesting (Alt choices) = suc (most choices)
level_nesting (Power id body) = suc body
level_nesting (Once body) = suc body
level_nesting (Scaled id body) = suc body

abbrev pub nesting_of : Term → ℕ
nesting_of = fold-Term ℕ level_nesting
