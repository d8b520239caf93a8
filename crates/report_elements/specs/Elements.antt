-- How the parts of a line are written. Numbers are decimal without leading zeros, with `-` before a negative one;
-- fields are apart by one space.
use Rattle.std.specs.Prelude.{ℕ, ◌^◌, ◌-◌, ◌==◌, if◌then◌else◌, List, [], ◌∷◌, ◌++◌, Option, Some, None, false, slice_get, codes}
use Rattle.std.specs.Fmt.{decimal, signed_decimal, digits, padded_integral, format_spec}
use Rattle.wsym_terms.specs.declared.costs.Cost.{Cost}
use Rattle.wsym_terms.specs.declared.costs.Cost.TheVariants.{Fin, Beyond, Unbounded}
use Rattle.wsym_terms.specs.declared.trees.Use.{Use}
use Rattle.wsym_terms.specs.declared.trees.Tree.{Tree, fold-Tree}
use Rattle.wsym_terms.specs.declared.trees.Tree.TheOpen.{Tree-F}
use Rattle.wsym_terms.specs.declared.bounds.ParamRange.{ParamRange}
use Rattle.wsym_terms.specs.declared.bounds.Coef.{Coef}
use Rattle.cost_multiset.specs.declared.costs.Run.{Run}
use Rattle.cost_multiset.specs.CostLists.{CostList}
use Rattle.wsym_formula.specs.declared.terms.Term.{Term, fold-Term}
use Rattle.wsym_formula.specs.declared.terms.Term.TheOpen.{Term-F}
use Rattle.linear_rows.specs.declared.rows.Var.{Var}
use Rattle.linear_rows.specs.declared.rows.Var.TheVariants as var
use Rattle.linear_rows.specs.declared.rows.RowTerm.{RowTerm}

-- a space before each
abbrev pub spaced : {A : Type 0} → (A → List ℕ) → List A → List ℕ
spaced text [] = []
spaced text (x ∷ xs) = 32 ∷ (text x ++ spaced text xs)

-- the members of a bracket, a space before each
abbrev pub in_brackets : List (List ℕ) → List ℕ
in_brackets [] = []
in_brackets (text ∷ texts) = 32 ∷ (text ++ in_brackets texts)

-- `0x` and eight lower-case hexadecimal digits
abbrev pub address_text : ℕ → List ℕ
address_text a = codes "0x" ++ padded_integral (format_spec 32 0 4 8 (2 ^ 64 - 1)) false [] (digits 16 false a)

-- a parameter's name by its place; a place without one has no name
abbrev pub name_of : Option ParamRange → List ℕ
name_of None = []
name_of (Some p) = p.name

abbrev pub name_at : List ParamRange → ℕ → List ℕ
name_at params place = name_of (slice_get params place)

-- LINE@SCOPE
abbrev pub use_text : Use → List ℕ
use_text u = decimal u.line ++ codes "@" ++ decimal u.scope

-- (leaf BLOCK BASE USE*)
abbrev pub leaf_text : ℕ → ℕ → List Use → List ℕ
leaf_text block base uses =
    codes "(leaf " ++ decimal block ++ codes " " ++ decimal base ++ spaced use_text uses ++ codes ")"

-- (leaf ..), (seq TREE*), (alt TREE*), (loop I TREE TREE)
abbrev pub tree_level : Tree-F (List ℕ) → List ℕ
tree_level (Tree-F.Leaf block base uses) = leaf_text block base uses
tree_level (Tree-F.Seq members) = codes "(seq" ++ in_brackets members ++ codes ")"
tree_level (Tree-F.Alt choices) = codes "(alt" ++ in_brackets choices ++ codes ")"
tree_level (Tree-F.Loop id body exit) =
    codes "(loop " ++ decimal id ++ codes " " ++ body ++ codes " " ++ exit ++ codes ")"

abbrev pub tree_text : Tree → List ℕ
tree_text = fold-Tree (List ℕ) tree_level

-- the numbers of a formula's constants are finite; the other two words never come
abbrev pub cost_text : Cost → List ℕ
cost_text (Fin n) = decimal n
cost_text Beyond = codes "beyond"
cost_text Unbounded = codes "unbounded"

-- VALUE, or VALUE*COUNT for a count of at least 2
abbrev pub run_text : Run → List ℕ
run_text r = cost_text r.value ++ (if r.count == 1 then [] else codes "*" ++ decimal r.count)

-- a comma before each
abbrev pub further_runs : List Run → List ℕ
further_runs [] = []
further_runs (r ∷ runs) = codes "," ++ run_text r ++ further_runs runs

abbrev pub runs_text : List Run → List ℕ
runs_text [] = []
runs_text (r ∷ runs) = run_text r ++ further_runs runs

-- {RUNS|TAIL}
abbrev pub costs_text : CostList → List ℕ
costs_text costs = codes "{" ++ runs_text costs.runs ++ codes "|" ++ cost_text costs.tail ++ codes "}"

-- {RUNS|TAIL}, (sum TERM*), (alt TERM*), (power I TERM), (once TERM), (scaled I TERM)
abbrev pub term_level : Term-F (List ℕ) → List ℕ
term_level (Term-F.Const costs) = costs_text costs
term_level (Term-F.Sum members) = codes "(sum" ++ in_brackets members ++ codes ")"
term_level (Term-F.Alt choices) = codes "(alt" ++ in_brackets choices ++ codes ")"
term_level (Term-F.Power id body) = codes "(power " ++ decimal id ++ codes " " ++ body ++ codes ")"
term_level (Term-F.Once body) = codes "(once " ++ body ++ codes ")"
term_level (Term-F.Scaled id body) = codes "(scaled " ++ decimal id ++ codes " " ++ body ++ codes ")"

abbrev pub term_text : Term → List ℕ
term_text = fold-Term (List ℕ) term_level

-- FACTOR*NAME
abbrev pub coef_text : List ParamRange → Coef → List ℕ
coef_text params c = signed_decimal c.factor ++ codes "*" ++ name_at params c.param

-- %rK, [OFFSET], NAME, %sp, #LOOP
abbrev pub var_text : List ParamRange → Var → List ℕ
var_text params (var.Register register) = codes "%r" ++ decimal register
var_text params (var.Word offset) = codes "[" ++ signed_decimal offset ++ codes "]"
var_text params (var.Param place) = name_at params place
var_text params var.StartSp = codes "%sp"
var_text params (var.Count id) = codes "#" ++ decimal id

-- FACTOR*VAR
abbrev pub row_term_text : List ParamRange → RowTerm → List ℕ
row_term_text params t = signed_decimal t.factor ++ codes "*" ++ var_text params t.var
