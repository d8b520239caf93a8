use Rattle.std.proofs.Common.{subst, sym, [], ℕ}
use Rattle.std.specs.Prelude.{Contains, Option}
use Rattle.function_points.proofs.MemberLemmas.{here}
use Rattle.point_tables.specs.Numbers.{AreLed}
use Rattle.point_tables.specs.Targets.{numbers_in}
use Rattle.point_tables.proofs.SourceLemmas.{one_led, none_led}
use Rattle.point_tables.proofs.liveness.lead.Goals as goal

pub add_to_row-requires : goal.add_to_row-requires
add_to_row-requires c =
    c.requires c.in-Some.number
    (subst (λ (o : Option ℕ). Contains (numbers_in o) c.in-Some.number) (sym c.in-Some.is) (here c.in-Some.number []))

pub returns-in_ok-add_to_row-in-Some : goal.returns-in_ok-add_to_row-in-Some
returns-in_ok-add_to_row-in-Some c =
    subst (λ (o : Option ℕ). AreLed c.args.rows.now.items (numbers_in o) c.args.from c.add_to_row.new.rows.items) (sym c.in-Some.is)
    (one_led c.args.rows.now.items c.add_to_row.new.rows.items c.in-Some.number c.args.from c.in_ok-add_to_row-in-Some.ensures)

pub returns-in-None : goal.returns-in-None
returns-in-None c =
    subst (λ (o : Option ℕ). AreLed c.args.rows.now.items (numbers_in o) c.args.from c.args.rows.now.items) (sym c.in-None.is)
    (none_led c.args.rows.now.items c.args.from)
