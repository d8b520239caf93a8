use Rattle.std.proofs.Common.{rules, subst, refl, None}
use Rattle.copy_facts.specs.Searching.{Replaces, Stays}
use Rattle.copy_facts.specs.Tables.{state_of_point}
use Rattle.copy_facts.proofs.MergeLemmas.{same_got}
use Rattle.copy_facts.proofs.merging.meet.Goals as goal

pub returns-in-Some : goal.returns-in-Some
returns-in-Some c = (
  c.in-Some.table,
  subst (λ o. Replaces c.args.stack o (state_of_point c.args.next) c.in-Some.table)
      (same_got c.args.facts.now.items c.args.target c.index.result.now None c.requires.there c.index.ensures)
      (search rules),
  refl,
)

pub returns-in-None : goal.returns-in-None
returns-in-None c = (
  subst (λ o. Stays c.args.stack o (state_of_point c.args.next))
      (same_got c.args.facts.now.items c.args.target c.index.result.now None c.requires.there c.index.ensures) (search rules),
  refl,
)
