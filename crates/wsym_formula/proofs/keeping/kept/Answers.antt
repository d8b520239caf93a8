use Rattle.std.proofs.Common.{◌≡◌, ◌<◌, ℕ, List, Option, None, length, get_or, sym, ap, subst, ◌∙◌}
use Rattle.wsym_formula.specs.Reaching.{AreUsed}
use Rattle.wsym_formula.specs.Tables.{IsClosed, meanings}
use Rattle.wsym_formula.specs.declared.nodes.Node.{Node}
use Rattle.wsym_formula.specs.Keeping.{AllKept}
use Rattle.wsym_formula.proofs.KeepingLaws.{kept_root, root_there}
use Rattle.wsym_formula.proofs.keeping.kept.Goals as goal

pub bounds : goal.bounds
bounds c =
    subst (λ (os : List (Option ℕ)). c.args.root < length os) (sym c.as_slice-4.ensures)
    (root_there c.keep_marked.new.table c.args.formula.now c.in_ok-numbers.numbers c.args.root
    (subst (λ (ns : List Node). AllKept c.keep_marked.new.table c.in_ok-numbers.numbers (meanings ns)) c.as_slice-2.ensures.nodes c.in_ok-numbers.ensures) c.requires)

pub returns-then-branch : goal.returns-then-branch
returns-then-branch c =
    let nodes : c.as_slice-in-Some.result.now ≡ c.keep_marked.new.table = c.as_slice-in-Some.ensures.nodes in
    kept_root c.keep_marked.new.table c.args.formula.now c.in_ok-numbers.numbers c.args.root c.in-Some.last
    (subst (λ (ns : List Node). IsClosed ns) nodes c.as_slice-in-Some.ensures.closed)
    (subst (λ (ns : List Node). AllKept c.keep_marked.new.table c.in_ok-numbers.numbers (meanings ns)) c.as_slice-2.ensures.nodes c.in_ok-numbers.ensures)
    c.requires
    (ap (λ (os : List (Option ℕ)). get_or os c.args.root None) (sym c.as_slice-4.ensures) ∙ c.in-Some.is)
    (subst (λ (ns : List Node). AreUsed ns c.in-Some.last) nodes (c.in_ok-are_used-in-Some.ensures c.if-branch.true))
