use Rattle.std.proofs.Common.{◌∙◌, sym, arith}
use Rattle.elf32_image.specs.Sections.{is_whole, section_headers}
use Rattle.elf32_image.proofs.Steps.{all_next, all_ends, room_left}
use Rattle.elf32_image.proofs.linking.are_whole.Goals as goal

pub returns-then-not-is_section_whole : goal.returns-then-not-is_section_whole
returns-then-not-is_section_whole c =
    sym (all_ends (is_whole c.args.file_size (section_headers c.args.count c.args.table.now)) c.loop-left.left c.loop-left.rest.now c.read.result c.read.ensures (omega arith) (sym c.is_section_whole.ensures ∙ c.if-not-is_section_whole.true))
    ∙ c.loop-left.invariant.same

pub loop-left-preserved : goal.loop-left-preserved
loop-left-preserved c = record {
  room = room_left 40 c.loop-left.left c.loop-left.rest.now _ c.from_offset-rest.ensures (omega arith) c.loop-left.invariant.room;
  same =
      sym (all_next (is_whole c.args.file_size (section_headers c.args.count c.args.table.now)) c.loop-left.left c.loop-left.rest.now _ c.read.result c.from_offset-rest.ensures c.read.ensures (omega arith) (sym c.is_section_whole.ensures ∙ c.if-not-is_section_whole.false))
      ∙ c.loop-left.invariant.same;
}
