use Rattle.wsym_terms.proofs.SmallTreeLemmas.{choices_share, exit_is_paid, once_a_run, once_an_entry, once_an_outer_entry}
use Rattle.wsym_terms.proofs.laws.small_trees_have_their_values.Goals as goal

pub returns-clause-exit : goal.returns-clause-exit
returns-clause-exit c = exit_is_paid

pub returns-clause-run : goal.returns-clause-run
returns-clause-run c = once_a_run

pub returns-clause-entry : goal.returns-clause-entry
returns-clause-entry c = once_an_entry

pub returns-clause-outer : goal.returns-clause-outer
returns-clause-outer c = once_an_outer_entry

pub returns-clause-choices : goal.returns-clause-choices
returns-clause-choices c = choices_share
