use Rattle.std.proofs.Common.{◌∙◌, refl, sym, ap, arith, length}
use Rattle.std.proofs.lemmas.Result.{err_from_is_err_and}
use Rattle.elf32_image.specs.Names.{agreed}
use Rattle.elf32_image.specs.Sections.{section_headers}
use Rattle.elf32_image.proofs.Finding.{agreed_stops, agreed_table, other_section, symbols_fit, table_first, whole_behind, whole_first}
use Rattle.elf32_image.proofs.Steps.{room_left}
use Rattle.elf32_image.proofs.naming.find_in_sections.Goals as goal
use Rattle.elf32_image.proofs.naming.find_in_sections.Goals.{then-is_symbol_table+in_ok-found, else-is_symbol_table}

pub find_in_table-requires : goal.find_in_table-requires
find_in_table-requires c =
    symbols_fit c.args.file.now c.from_offset-symbols.result.now (section_headers c.args.count c.args.table.now) c.symbol_count.result c.read-section.result
    (sym c.is_symbol_table.ensures ∙ c.if-is_symbol_table.true)
    (whole_first (length c.args.file.now) (section_headers c.args.count c.args.table.now) c.loop-left.left c.loop-left.rest.now c.read-section.result c.read-section.ensures (omega arith) c.loop-left.invariant.whole)
    c.from_offset-symbols.ensures c.symbol_count.ensures

pub returns-in_err-found : goal.returns-in_err-found
returns-in_err-found c =
    let exit = err_from_is_err_and c.from_residual.result c.from_residual.ensures.1 in
    rw (exit.1, exit.2)
    (agreed_stops c.loop-left.found c.in_err-found.field-0.0 _ _ c.in_err-found.ensures
    ∙ ap (agreed c.loop-left.found) (sym (table_first c.args.name.now c.args.file.now c.loop-left.rest.now _ c.linked_bytes-names.result.now c.from_offset-symbols.result.now (section_headers c.args.count c.args.table.now) c.loop-left.left c.symbol_count.result c.read-section.result
    refl c.read-section.ensures (omega arith) (sym c.is_symbol_table.ensures ∙ c.if-is_symbol_table.true) c.linked_bytes-names.ensures c.from_offset-symbols.ensures c.symbol_count.ensures))
    ∙ c.loop-left.invariant.same)

pub loop-left-preserved : goal.loop-left-preserved
loop-left-preserved c = record {
  room = room_left 40 c.loop-left.left c.loop-left.rest.now _ c.from_offset-rest.ensures (omega arith) c.loop-left.invariant.room;
  whole = whole_behind (length c.args.file.now) (section_headers c.args.count c.args.table.now) c.loop-left.left c.loop-left.rest.now _ c.from_offset-rest.ensures (omega arith) c.loop-left.invariant.whole;
  same = elim c.if-is_symbol_table.branch [
    | then-is_symbol_table+in_ok-found w ↦
        rw w.found-is
        (agreed_table c.loop-left.found w.in_ok-found.found _ _ w.in_ok-found.ensures
        ∙ ap (agreed c.loop-left.found) (sym (table_first c.args.name.now c.args.file.now c.loop-left.rest.now _ w.linked_bytes-names.result.now w.from_offset-symbols.result.now (section_headers c.args.count c.args.table.now) c.loop-left.left w.symbol_count.result c.read-section.result
        c.from_offset-rest.ensures c.read-section.ensures (omega arith) (sym c.is_symbol_table.ensures ∙ w.if-is_symbol_table.true) w.linked_bytes-names.ensures w.from_offset-symbols.ensures w.symbol_count.ensures))
        ∙ c.loop-left.invariant.same)
    | else-is_symbol_table w ↦
        rw w.found-is
        (ap (agreed c.loop-left.found) (sym (other_section c.args.name.now c.args.file.now c.loop-left.rest.now _ (section_headers c.args.count c.args.table.now) c.loop-left.left c.read-section.result c.from_offset-rest.ensures c.read-section.ensures (omega arith) (sym c.is_symbol_table.ensures ∙ w.if-is_symbol_table.false)))
        ∙ c.loop-left.invariant.same)
  ];
}
