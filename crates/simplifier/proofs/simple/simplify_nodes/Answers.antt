use Rattle.std.proofs.Common.{length, map, sym, ap, ◌∙◌}
use Rattle.simplifier.proofs.Simplifying.{root_means, root_within}
use Rattle.wsym_formula.specs.Tables.{meaning_at, meanings}
use Rattle.simplifier.specs.Normal.{normal}
use Rattle.simplifier.specs.Simplified.{known_of}
use Rattle.simplifier.proofs.simple.simplify_nodes.Goals as goal

pub returns-in-Some-clause-within : goal.returns-in-Some-clause-within
returns-in-Some-clause-within c = root_within (known_of c.args.bounds.now) (length c.simplify_all.new.table) c.pop.new.self c.in_ok-numbers.numbers c.in-Some.root c.in-Some.ensures c.in_ok-numbers.ensures.below

pub returns-in-Some-clause-exact : goal.returns-in-Some-clause-exact
returns-in-Some-clause-exact c =
    root_means (known_of c.args.bounds.now) c.simplify_all.new.table c.args.formula.now c.pop.new.self c.in-Some.root
    (ap (map (meaning_at c.simplify_all.new.table)) (sym c.in-Some.ensures) ∙ c.in_ok-numbers.ensures.means ∙ ap (λ ns. map (normal (known_of c.args.bounds.now)) (meanings ns)) c.as_slice.ensures.nodes)
