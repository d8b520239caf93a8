use Rattle.std.proofs.Common.{rules}
use Rattle.control_flow.specs.Points.{entry_point}
use Rattle.function_points.specs.PointLists.{points_at}
use Rattle.function_points.proofs.PointLemmas.{used_first}
use Rattle.function_points.proofs.GatherLemmas.{next_gathered, longer_gathered, too_many_gathered, exactly_gathered, not_more_gathered}
use Rattle.function_points.proofs.StepLemmas.{collected_reached, reached_collected, more_collected, more_reached, step}
use Rattle.function_points.proofs.collect.collect_points.Goals as goal

pub returns-in_err-expand-clause-many : goal.returns-in_err-expand-clause-many
returns-in_err-expand-clause-many c h =
    more_collected c.args.image.now c.args.entry c.args.most
    (too_many_gathered (step c.args.image.now c.args.entry)
    (entry_point c.args.entry) c.loop-at.contexts c.expand.new.contexts c.loop-at.found c.expand.new.found c.loop-at.at (search rules)
    c.args.most c.loop-at.invariant.searched (c.in_err-expand.ensures.many (search rules)))

pub loop-at-preserved : goal.loop-at-preserved
loop-at-preserved c =
    record {
      held = c.in_ok-expand.ensures.held;
      searched =
          next_gathered (step c.args.image.now c.args.entry)
          (entry_point c.args.entry) c.loop-at.contexts c.expand.new.contexts c.loop-at.found c.expand.new.found c.loop-at.at
          (search rules)
          c.loop-at.invariant.searched c.in_ok-expand.ensures.ok;
      used = c.in_ok-expand.ensures.used c.loop-at.invariant.used;
      within =
          longer_gathered (step c.args.image.now c.args.entry)
          (entry_point c.args.entry) c.loop-at.contexts c.expand.new.contexts c.loop-at.found c.expand.new.found c.loop-at.at
          (search rules)
          c.in_ok-expand.ensures.ok;
      few = c.in_ok-expand.ensures.few;
    }

pub returns-clause-exact : goal.returns-clause-exact
returns-clause-exact c p =
    let found = exactly_gathered (step c.args.image.now c.args.entry)
    (entry_point c.args.entry) c.loop-at.contexts c.loop-at.found c.loop-at.at c.loop-at.invariant.searched (search rules) p in (
      (λ h. reached_collected c.args.image.now c.args.entry p (found.0 h)),
      (λ r. found.1 (collected_reached c.args.image.now c.args.entry p r)),
    )

pub returns-clause-few : goal.returns-clause-few
returns-clause-few c more =
    not_more_gathered (step c.args.image.now c.args.entry)
    (entry_point c.args.entry) c.loop-at.contexts c.loop-at.found c.loop-at.at c.loop-at.invariant.searched
    (search rules) c.args.most c.loop-at.invariant.few
    (more_reached c.args.image.now c.args.entry c.args.most more)

pub loop-at-init : goal.loop-at-init
loop-at-init c =
    record {
      held = search rules;
      searched = search rules;
      used = used_first c.new-contexts.result (points_at c.new-contexts.result c.new-found.result)
          (points_at c.new-contexts.result c.visit.new.found) c.args.entry (search rules) (search rules);
      within = search rules;
      few = search rules;
    }
