use Rattle.std.proofs.Common.{rules}
use Rattle.copy_facts.proofs.StartLemmas.{first_is, first_points}
use Rattle.copy_facts.proofs.start.start_table.Goals as goal

pub returns-clause-points : goal.returns-clause-points
returns-clause-points c =
    first_points c.args.stack c.args.start c.args.sites.now c.in_ok-facts.facts.items c.start_point.result
    (search rules) c.requires.starts c.in_ok-facts.ensures.none c.start_point.ensures.table
    c.start_point.ensures.state c.requires.small c.requires.few c.requires.inside

pub returns-clause-first : goal.returns-clause-first
returns-clause-first c =
    first_is c.args.stack c.args.start c.args.sites.now c.in_ok-facts.facts.items c.start_point.result
    (search rules) c.requires.starts c.in_ok-facts.ensures.none c.start_point.ensures.table
    c.start_point.ensures.state
