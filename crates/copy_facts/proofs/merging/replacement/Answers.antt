use Rattle.std.proofs.Common.{rules}
use Rattle.std.specs.Prelude.{◌≡◌, ◌≢◌}
use Rattle.fact_lattice.specs.Cells.{joined}
use Rattle.fact_lattice.proofs.SolvedLemmas.{if_some}
use Rattle.copy_facts.specs.Tables.{state_of_point}
use Rattle.copy_facts.proofs.MergeLemmas.{if_none, replaces_by, stays_by}
use Rattle.copy_facts.proofs.merging.replacement.Goals as goal

pub returns-in-Some-2-clause-replaces : goal.returns-in-Some-2-clause-replaces
returns-in-Some-2-clause-replaces c =
    replaces_by c.args.stack c.args.old.now c.in-Some.old (state_of_point c.args.next) c.in-Some-2.table c.in-Some.is (search rules)
    (search rules)
    (if_some c.in_ok-table-in-Some.field-0
    (λ t. joined c.args.stack (state_of_point c.in-Some.old)
    (state_of_point c.args.next) ≢ state_of_point c.in-Some.old) c.in-Some-2.table c.in-Some-2.is c.in_ok-table-in-Some.ensures.differs)

pub returns-clause-stays : goal.returns-clause-stays
returns-clause-stays c =
    stays_by c.args.stack c.args.old.now c.in-Some.old (state_of_point c.args.next) c.in-Some.is
    (if_none c.in_ok-table-in-Some.field-0
    (joined c.args.stack (state_of_point c.in-Some.old) (state_of_point c.args.next)
    ≡ state_of_point c.in-Some.old) c.in-None-2.is c.in_ok-table-in-Some.ensures.same)
