use Rattle.std.proofs.Common.{subst, sym, ◌≡◌, ◌∙◌, ◌++◌, ◌∷◌, [], List, ℕ, get_or, slice_set}
use Rattle.point_order.proofs.FamilyLemmas.{one_row, no_row}
use Rattle.point_order.proofs.families.adopt.Goals as goal

pub returns-in_ok-append-in-Some : goal.returns-in_ok-append-in-Some
returns-in_ok-append-in-Some c p a row =
    subst (λ (z : ℕ). c.append.new.rows.items ≡ slice_set c.args.children.now.items z
    (get_or c.args.children.now.items z [] ++ c.args.number ∷ []))
    (one_row c.args.contexts.now c.requires.distinct c.args.number c.in-Some.row.0 c.in-Some.row.1 p a
    (c.requires.known, c.in-Some.ensures.some.0, c.in-Some.ensures.some.1) row).0 c.in_ok-append-in-Some.ensures

pub returns-in-None : goal.returns-in-None
returns-in-None c p a row = absurd (no_row c.args.contexts.now c.requires.distinct c.args.number p a c.in-None.ensures.none row)
