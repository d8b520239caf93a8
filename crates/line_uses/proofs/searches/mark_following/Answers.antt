use Rattle.std.proofs.Common.{rules, ◌≡◌, ℕ, sym, subst}
use Rattle.persistence.specs.Searches.{TestsFollowing}
use Rattle.line_uses.specs.PointMaps.{code_of, inside}
use Rattle.line_uses.specs.SearchSteps.{picks}
use Rattle.line_uses.proofs.FewLemmas.{loop_follows}
use Rattle.line_uses.proofs.searches.mark_following.Goals as goal

pub returns-in_ok-mark_line-clause-exact : goal.returns-in_ok-mark_line-clause-exact
returns-in_ok-mark_line-clause-exact c = λ maps p here is_line.
    let zero_is : c.args.number ≡ 0 = search rules in
    subst (λ (d : ℕ). TestsFollowing (code_of c.args.tables.now) (inside c.args.tables.now d) c.args.line
    (picks c.args.tables.now d c.args.line c.mark_line.new.forward.marks.nodes)) (sym zero_is)
    (c.in_ok-mark_line.ensures.forward.known maps c.args.line c.in_ok-mark_line.ensures.line)

pub returns-else-number-eq0-clause-exact : goal.returns-else-number-eq0-clause-exact
returns-else-number-eq0-clause-exact c = λ maps p here is_line.
    loop_follows c.args.tables.now c.args.number c.args.line p c.args.forward.now.marks.nodes maps (search rules) here is_line
