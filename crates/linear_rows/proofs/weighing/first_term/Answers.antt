use Rattle.std.proofs.Common.{rules, sym, ◌∙◌}
use Rattle.linear_rows.specs.Steps.{signed}
use Rattle.linear_rows.proofs.SmallSums.{none_of, first_alone, first_less, first_greater, first_equal}
use Rattle.linear_rows.proofs.weighing.first_term.Goals as goal

pub returns-in-Some-None-clause-some : goal.returns-in-Some-None-clause-some
returns-in-Some-None-clause-some c =
    first_alone (signed c.args.a.is_negative c.args.a.magnitude) (signed c.args.b.is_negative c.args.b.magnitude) c.in-Some-None.x.now c.in-Some-None.left.now
    c.args.xs.now c.args.ys.now c.weigh_number-in-Some-None.result c.in-Some-None.ensures.cases.0 (none_of c.args.ys.now c.in-Some-None.ensures'.cases) c.requires.first (search rules)

pub returns-in-Less-clause-some : goal.returns-in-Less-clause-some
returns-in-Less-clause-some c =
    first_less (signed c.args.a.is_negative c.args.a.magnitude) (signed c.args.b.is_negative c.args.b.magnitude) c.in-Some-Some.x.now c.in-Some-Some.y.now
    c.in-Some-Some.left.now c.in-Some-Some.right.now c.args.xs.now c.args.ys.now c.weigh_number-in-Less.result
    c.in-Some-Some.ensures.cases.0 c.in-Some-Some.ensures'.cases.0 c.requires.first c.requires.second (sym c.order.ensures ∙ c.in-Less.is) (search rules)

pub returns-in-Greater-clause-some : goal.returns-in-Greater-clause-some
returns-in-Greater-clause-some c =
    first_greater (signed c.args.a.is_negative c.args.a.magnitude) (signed c.args.b.is_negative c.args.b.magnitude) c.in-Some-Some.x.now c.in-Some-Some.y.now
    c.in-Some-Some.left.now c.in-Some-Some.right.now c.args.xs.now c.args.ys.now c.weigh_number-in-Greater.result
    c.in-Some-Some.ensures.cases.0 c.in-Some-Some.ensures'.cases.0 c.requires.first c.requires.second (sym c.order.ensures ∙ c.in-Greater.is) (search rules)

pub returns-in-Equal-clause-some : goal.returns-in-Equal-clause-some
returns-in-Equal-clause-some c =
    first_equal (signed c.args.a.is_negative c.args.a.magnitude) (signed c.args.b.is_negative c.args.b.magnitude) c.in-Some-Some.x.now c.in-Some-Some.y.now
    c.in-Some-Some.left.now c.in-Some-Some.right.now c.args.xs.now c.args.ys.now c.weigh_constants.result
    c.in-Some-Some.ensures.cases.0 c.in-Some-Some.ensures'.cases.0 c.requires.first c.requires.second (sym c.order.ensures ∙ c.in-Equal.is) (search rules)
