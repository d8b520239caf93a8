use Rattle.std.proofs.Common.{rules, ℕ, List, sym, subst}
use Rattle.persistence.specs.Collected.{IsMet}
use Rattle.persistence.specs.PointRows.{line_at}
use Rattle.persistence.specs.Younger.{AtLeast}
use Rattle.line_uses.specs.PointMaps.{HasSet}
use Rattle.line_uses.specs.SearchSteps.{backward_step}
use Rattle.line_uses.proofs.FewLemmas.{few_met, many_met, set_has_line}
use Rattle.line_uses.proofs.searches.is_few.Goals as goal

pub returns-clause-fewer : goal.returns-clause-fewer
returns-clause-fewer c = λ maps here e.
    few_met c.args.sets c.args.ways c.args.tables.now c.args.number c.line-line.result c.args.point c.mark_following.new.forward.marks.nodes
    maps
    (c.in_ok-mark_following.ensures.exact maps c.args.point here (sym c.line-line.ensures)) here
    (sym c.line-line.ensures)
    (subst (λ (ls : List ℕ). AtLeast c.args.ways (IsMet (backward_step c.args.tables.now c.args.number c.line-line.result
    c.mark_following.new.forward.marks.nodes) (line_at ls) c.args.point c.line-line.result c.args.sets) → ⊥) c.lines.ensures
    (c.in_ok-few.ensures.fewer e))

pub returns-clause-many : goal.returns-clause-many
returns-clause-many c = λ maps here e.
    many_met c.args.sets c.args.ways c.args.tables.now c.args.number c.line-line.result c.args.point
    c.mark_following.new.forward.marks.nodes
    maps
    (c.in_ok-mark_following.ensures.exact maps c.args.point here (sym c.line-line.ensures)) here
    (sym c.line-line.ensures)
    (subst (λ (ls : List ℕ). AtLeast c.args.ways (IsMet (backward_step c.args.tables.now c.args.number c.line-line.result
    c.mark_following.new.forward.marks.nodes) (line_at ls) c.args.point c.line-line.result c.args.sets)) c.lines.ensures
    (c.in_ok-few.ensures.many e))

pub mark_following-requires-clause-all : goal.mark_following-requires-clause-all
mark_following-requires-clause-all c =
    set_has_line c.args.sets c.args.tables.now c.args.point c.line-line.result c.args.peers.now c.line-line.ensures c.requires.all

pub returns-then-fits-clause-fewer : goal.returns-then-fits-clause-fewer
returns-then-fits-clause-fewer c = λ maps here e.
    c.in_ok-fits.ensures c.args.sets c.args.point (sym c.line-line.ensures)
    (subst (λ (l : ℕ). HasSet c.args.sets c.args.tables.now l c.args.peers.now) (sym c.line-line.ensures) c.requires.all) (search rules)
