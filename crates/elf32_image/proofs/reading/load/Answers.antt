use Rattle.std.proofs.Common.{rules, ◌≡◌, ◌∙◌, sym, ap, subst, refl, true, false, filter}
use Rattle.elf32_image.specs.Index.{ascend, IsIndex}
use Rattle.elf32_image.specs.Segments.{is_loaded, loaded_headers, program_headers}
use Rattle.elf32_image.proofs.Overlaps.{image_of_copy, no_overlap, programs_within, some_overlap, is_index}
use Rattle.elf32_image.proofs.Steps.{table_room}
use Rattle.elf32_image.proofs.reading.load.Goals as goal

pub overflow_cast-header : goal.overflow_cast-header
overflow_cast-header c = search rules

pub read_loaded-requires : goal.read_loaded-requires
read_loaded-requires c =
    table_room 32 c.args.header.program_offset c.args.header.program_count c.args.bytes.now c.from_offset-table.result.now c.from_offset-table.ensures
    (programs_within c.args.bytes.now c.args.header c.requires)

pub returns-in_default-clause-overlap : goal.returns-in_default-clause-overlap
returns-in_default-clause-overlap c = λ other. absurd (other refl)

pub returns-then-not-do_ascend-clause-overlap : goal.returns-then-not-do_ascend-clause-overlap
returns-then-not-do_ascend-clause-overlap c =
    let read : c.in-Ok.read.items ≡ loaded_headers c.args.bytes.now c.args.header = c.in-Ok.ensures ∙ ap (λ l. filter is_loaded (program_headers c.args.header.program_count l)) c.from_offset-table.ensures in
    let crossed : ascend 0 c.by_address-loaded.result.items ≡ false = ap (ascend 0) (sym c.as_slice.ensures.value) ∙ sym c.do_ascend.ensures ∙ c.if-not-do_ascend.true in
    λ other. (refl, some_overlap c.args.bytes.now c.args.header c.in-Ok.read.items c.by_address-loaded.result.items read c.by_address-loaded.ensures.permutation c.by_address-loaded.ensures.rises crossed)

pub returns-in_default-from_slice-clause-overlap : goal.returns-in_default-from_slice-clause-overlap
returns-in_default-from_slice-clause-overlap c = λ other. absurd (other refl)

pub returns-clause-ok : goal.returns-clause-ok
returns-clause-ok c =
    let read : c.in-Ok.read.items ≡ loaded_headers c.args.bytes.now c.args.header = c.in-Ok.ensures ∙ ap (λ l. filter is_loaded (program_headers c.args.header.program_count l)) c.from_offset-table.ensures in
    let up : ascend 0 c.by_address-loaded.result.items ≡ true = ap (ascend 0) (sym c.as_slice.ensures.value) ∙ sym c.do_ascend.ensures ∙ c.if-not-do_ascend.false in (
      image_of_copy c.from_parts.result c.args.bytes.now c.in-Ok-from_slice.file.items c.args.header c.from_parts.ensures c.in-Ok-from_slice.ensures.items,
      no_overlap c.args.bytes.now c.args.header c.in-Ok.read.items c.by_address-loaded.result.items read c.by_address-loaded.ensures.permutation up,
    )

pub from_parts-requires : goal.from_parts-requires
from_parts-requires c =
    let read : c.in-Ok.read.items ≡ loaded_headers c.args.bytes.now c.args.header = c.in-Ok.ensures ∙ ap (λ l. filter is_loaded (program_headers c.args.header.program_count l)) c.from_offset-table.ensures in
    let up : ascend 0 c.by_address-loaded.result.items ≡ true = ap (ascend 0) (sym c.as_slice.ensures.value) ∙ sym c.do_ascend.ensures ∙ c.if-not-do_ascend.false in
    subst (λ l. IsIndex l c.args.header c.by_address-loaded.result.items) (sym c.in-Ok-from_slice.ensures.items)
    (is_index c.args.bytes.now c.args.header c.in-Ok.read.items c.by_address-loaded.result.items read c.by_address-loaded.ensures.permutation c.requires up)
