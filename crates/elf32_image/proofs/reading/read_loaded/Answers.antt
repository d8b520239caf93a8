use Rattle.std.proofs.Common.{◌∙◌, ◌++◌, sym, ap, arith, rules}
use Rattle.elf32_image.proofs.Steps.{loaded_next, loaded_over, moved, room_left}
use Rattle.elf32_image.proofs.reading.read_loaded.Goals as goal
use Rattle.elf32_image.proofs.reading.read_loaded.Goals.{then-is_loaded+in_ok-push, else-is_loaded}

pub loop-left-preserved : goal.loop-left-preserved
loop-left-preserved c = record {
  room = room_left 32 c.loop-left.left c.loop-left.rest.now _ c.from_offset-rest.ensures (omega arith) c.loop-left.invariant.room;
  same = elim c.if-is_loaded.branch [
    | then-is_loaded+in_ok-push w ↦
        moved _ _ _ _ c.read-header.result
        (loaded_next c.loop-left.left c.loop-left.rest.now _ c.read-header.result c.from_offset-rest.ensures c.read-header.ensures (omega arith) (sym c.is_loaded.ensures ∙ w.if-is_loaded.true))
        (search rules)
        ∙ c.loop-left.invariant.same
    | else-is_loaded w ↦
        rw w.loaded-is
        (ap (λ l. c.loop-left.loaded.items ++ l) (sym (loaded_over c.loop-left.left c.loop-left.rest.now _ c.read-header.result c.from_offset-rest.ensures c.read-header.ensures (omega arith) (sym c.is_loaded.ensures ∙ w.if-is_loaded.false)))
        ∙ c.loop-left.invariant.same)
  ];
}
