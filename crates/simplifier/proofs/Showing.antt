-- What nodes show of their meanings.
use Rattle.std.proofs.Common.{◌≡◌, ℕ, Bool, true, false, if◌then◌else◌, List, [], map, slice_get, Option, Some, None, refl, sym, ap, ◌∙◌}
use Rattle.wsym_terms.specs.declared.costs.Cost.TheVariants.{Fin}
use Rattle.cost_multiset.specs.CostLists.{CostList}
use Rattle.cost_multiset.specs.Gathered.{all_counted, list_groups}
use Rattle.wsym_formula.specs.Tables.{term_at, opened, meanings, meaning_at, IsClosed}
use Rattle.simplifier.specs.Normal.{constant, constant_in, constant_of, kept_if, power_if, power_of, counted_groups}
use Rattle.wsym_formula.specs.declared.nodes.Node.{Node}
use Rattle.wsym_formula.specs.declared.nodes.Node.TheVariants as n
use Rattle.wsym_formula.specs.declared.terms.Term.{Term}
use Rattle.wsym_formula.specs.declared.terms.Term.TheVariants as t
use Rattle.wsym_formula.proofs.Tabling.{opens_itself}

pub constant_opens : (ts : List Term) (node : Node) → constant (opened ts node) ≡ constant_in node
constant_opens ts (n.Const c) = ap constant_of (t.outs-Const c)
constant_opens ts (n.Sum ms) = ap constant_of (t.outs-Sum (map (term_at ts) ms))
constant_opens ts (n.Alt ms) = ap constant_of (t.outs-Alt (map (term_at ts) ms))
constant_opens ts (n.Power id b) = ap constant_of (t.outs-Power id (term_at ts b))
constant_opens ts (n.Once b) = ap constant_of (t.outs-Once (term_at ts b))
constant_opens ts (n.Scaled id b) = ap constant_of (t.outs-Scaled id (term_at ts b))

pub constant_shows : (ns : List Node) (k : ℕ) (node : Node) → IsClosed ns → slice_get ns k ≡ Some node → constant_in node ≡ constant (meaning_at ns k)
constant_shows ns k node closed at = sym (ap constant (opens_itself [] ns k node closed at) ∙ constant_opens (meanings ns) node)

pub power_counted : (id m : ℕ) (u : Term) (c : Option CostList) → power_if id u (counted_groups m c) ≡ power_of id u (Some m) c
power_counted id m u None = refl
power_counted id m u (Some c) = by (all_counted (list_groups (Fin m) c))
  where
    by : (x : Bool) → power_if id u (if x then Some (list_groups (Fin m) c) else None) ≡ kept_if x (list_groups (Fin m) c) (t.Power id u)
    by true = refl
    by false = refl
