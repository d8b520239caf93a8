use Rattle.std.proofs.Common.{rules, true, false, subst}
use Rattle.copy_facts.specs.Searching.{IsMet}
use Rattle.copy_facts.specs.Tables.{state_of_point}
use Rattle.copy_facts.proofs.MergeLemmas.{met_less, met_points, next_formed, went_met}
use Rattle.copy_facts.proofs.points.PointTableMerging.merge.Goals as goal

pub returns-then-changed-clause-sound : goal.returns-then-changed-clause-sound
returns-then-changed-clause-sound c =
    let s = c.args.self.now in
    met_points s.stack s.sites.now s.facts.items c.meet.new.facts.items c.way-done.result.1
    (state_of_point c.in_ok-next.next) c.in_ok-changed.changed c.requires.sound
    (search rules)
    (next_formed s.stack s.start s.sites.now s.facts.items c.args.point c.args.way c.way-done.result.0 c.way-done.result.1
    c.requires.visited c.way-done.ensures.way
    (state_of_point c.in_ok-next.next) c.requires.sound c.in_ok-next.ensures.stepped)
    c.in_ok-changed.ensures

pub returns-then-changed-clause-went : goal.returns-then-changed-clause-went
returns-then-changed-clause-went c =
    let s = c.args.self.now in
    went_met s.stack s.start s.sites.now s.facts.items c.args.point c.args.way c.way-done.result.0 c.way-done.result.1 c.requires.visited
    c.way-done.ensures.way
    c.meet.new.facts.items (state_of_point c.in_ok-next.next) true (search rules) (search rules) c.in_ok-next.ensures.stepped
    (subst (IsMet s.stack s.facts.items c.way-done.result.1
    (state_of_point c.in_ok-next.next) c.meet.new.facts.items) c.if-changed.true c.in_ok-changed.ensures)

pub returns-then-changed-clause-less : goal.returns-then-changed-clause-less
returns-then-changed-clause-less c =
    let s = c.args.self.now in
    met_less s.stack s.sites.now s.facts.items c.meet.new.facts.items c.way-done.result.1
    (state_of_point c.in_ok-next.next) true c.requires.sound (search rules)
    (subst (IsMet s.stack s.facts.items c.way-done.result.1
    (state_of_point c.in_ok-next.next) c.meet.new.facts.items) c.if-changed.true c.in_ok-changed.ensures)

pub returns-else-changed-clause-went : goal.returns-else-changed-clause-went
returns-else-changed-clause-went c =
    let s = c.args.self.now in
    went_met s.stack s.start s.sites.now s.facts.items c.args.point c.args.way c.way-done.result.0 c.way-done.result.1 c.requires.visited
    c.way-done.ensures.way
    c.meet.new.facts.items (state_of_point c.in_ok-next.next) false (search rules) (search rules) c.in_ok-next.ensures.stepped
    (subst (IsMet s.stack s.facts.items c.way-done.result.1
    (state_of_point c.in_ok-next.next) c.meet.new.facts.items) c.if-changed.false c.in_ok-changed.ensures)
