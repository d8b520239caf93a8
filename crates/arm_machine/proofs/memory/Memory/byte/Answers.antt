use Rattle.std.proofs.Common.{ℕ, Option, sym, ap, ◌∙◌}
use Rattle.std.specs.Ordering.{nat_cmp}
use Rattle.std.specs.FinMap.{find, get}
use Rattle.arm_machine.specs.Memories.{Held, if_loaded, start_entries}
use Rattle.arm_machine.proofs.Lookups.{find_start, get_held}
use Rattle.arm_machine.proofs.memory.Memory.byte.Goals as goal

pub returns-in-Some : goal.returns-in-Some
returns-in-Some c =
    let start = start_entries c.self.inside.image.now c.self.inside.bottom c.self.inside.room in
    ap (λ (o : Option ℕ). if_loaded o (find nat_cmp c.args.address start)) c.in-Some.ensures.value
    ∙ sym (get_held c.self.inside.written.entries start c.args.address)
    ∙ ap (λ (h : Held). get h.bytes c.args.address) c.self.view_is

pub returns-in-None : goal.returns-in-None
returns-in-None c =
    let start = start_entries c.self.inside.image.now c.self.inside.bottom c.self.inside.room in
    c.start_byte.ensures
    ∙ sym (find_start c.self.inside.image.now c.self.inside.bottom c.self.inside.room c.args.address c.ranges.address.fits c.self.invariant.0 c.self.invariant.1)
    ∙ ap (λ (o : Option ℕ). if_loaded o (find nat_cmp c.args.address start)) c.in-None.ensures.value
    ∙ sym (get_held c.self.inside.written.entries start c.args.address)
    ∙ ap (λ (h : Held). get h.bytes c.args.address) c.self.view_is
