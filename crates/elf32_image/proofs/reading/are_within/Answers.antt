use Rattle.std.proofs.Common.{◌∙◌, sym, ap, arith}
use Rattle.std.specs.List.{list_all}
use Rattle.elf32_image.specs.Segments.{is_within}
use Rattle.elf32_image.proofs.Steps.{loaded_over, room_left, within_next, within_ends}
use Rattle.elf32_image.proofs.reading.are_within.Goals as goal
use Rattle.elf32_image.proofs.reading.are_within.Goals.{else-is_loaded-via-then-is_loaded+else-not-is_segment_within, else-is_loaded-via-else-is_loaded}

pub returns-then-not-is_segment_within : goal.returns-then-not-is_segment_within
returns-then-not-is_segment_within c =
    sym (within_ends (is_within c.args.file_size) c.loop-left.left c.loop-left.rest.now c.read-header.result c.read-header.ensures (omega arith) (sym c.is_loaded.ensures ∙ c.if-is_loaded.true) (sym c.is_segment_within.ensures ∙ c.if-not-is_segment_within.true))
    ∙ c.loop-left.invariant.same

pub loop-left-preserved : goal.loop-left-preserved
loop-left-preserved c = record {
  room = room_left 32 c.loop-left.left c.loop-left.rest.now _ c.from_offset-rest.ensures (omega arith) c.loop-left.invariant.room;
  same = elim c.else-is_loaded.branch [
    | else-is_loaded-via-then-is_loaded+else-not-is_segment_within w ↦
        sym (within_next (is_within c.args.file_size) c.loop-left.left c.loop-left.rest.now _ c.read-header.result c.from_offset-rest.ensures c.read-header.ensures (omega arith) (sym c.is_loaded.ensures ∙ w.if-is_loaded.true) (sym w.is_segment_within.ensures ∙ w.if-not-is_segment_within.false))
        ∙ c.loop-left.invariant.same
    | else-is_loaded-via-else-is_loaded w ↦
        sym (ap (list_all (is_within c.args.file_size)) (loaded_over c.loop-left.left c.loop-left.rest.now _ c.read-header.result c.from_offset-rest.ensures c.read-header.ensures (omega arith) (sym c.is_loaded.ensures ∙ w.if-is_loaded.false)))
        ∙ c.loop-left.invariant.same
  ];
}
