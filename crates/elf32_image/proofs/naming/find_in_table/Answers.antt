use Rattle.std.proofs.Common.{◌∙◌, sym, ap, arith}
use Rattle.std.specs.Str.{bytes_eq}
use Rattle.elf32_image.specs.Names.{agreed}
use Rattle.elf32_image.specs.Sections.{until_zero}
use Rattle.elf32_image.proofs.Finding.{agreed_next, other_kind, other_name, same_name}
use Rattle.elf32_image.proofs.Steps.{room_left}
use Rattle.elf32_image.proofs.naming.find_in_table.Goals as goal
use Rattle.elf32_image.proofs.naming.find_in_table.Goals.{then-is_function+then-is_name+in_ok-found, else-is_function, else-is_function-via-then-is_function+else-is_name, else-is_function-via-else-is_function}

pub loop-left-preserved : goal.loop-left-preserved
loop-left-preserved c = record {
  room = room_left 16 c.loop-left.left c.loop-left.rest.now _ c.from_offset-rest.ensures (omega arith) c.loop-left.invariant.room;
  same = elim c.if-is_function.branch [
    | then-is_function+then-is_name+in_ok-found w ↦
        rw w.found-is
        (agreed_next c.loop-left.found w.in_ok-found.found c.read-symbol.result.st_value _ w.in_ok-found.ensures
        ∙ ap (agreed c.loop-left.found) (sym (same_name c.args.name.now c.args.names.now c.loop-left.rest.now _ c.loop-left.left c.read-symbol.result c.from_offset-rest.ensures c.read-symbol.ensures (omega arith) (sym c.is_function.ensures ∙ w.if-is_function.true)
        (ap (λ l. bytes_eq (until_zero l) c.args.name.now) (sym w.from_offset.ensures) ∙ sym w.is_name.ensures ∙ w.if-is_name.true)))
        ∙ c.loop-left.invariant.same)
    | else-is_function w ↦
        rw w.found-is
        (elim w.else-is_function.branch [
          | else-is_function-via-then-is_function+else-is_name v ↦
              ap (agreed c.loop-left.found) (sym (other_name c.args.name.now c.args.names.now c.loop-left.rest.now _ c.loop-left.left c.read-symbol.result c.from_offset-rest.ensures c.read-symbol.ensures (omega arith) (sym c.is_function.ensures ∙ v.if-is_function.true)
              (ap (λ l. bytes_eq (until_zero l) c.args.name.now) (sym v.from_offset.ensures) ∙ sym v.is_name.ensures ∙ v.if-is_name.false)))
              ∙ c.loop-left.invariant.same
          | else-is_function-via-else-is_function v ↦
              ap (agreed c.loop-left.found) (sym (other_kind c.args.name.now c.args.names.now c.loop-left.rest.now _ c.loop-left.left c.read-symbol.result c.from_offset-rest.ensures c.read-symbol.ensures (omega arith) (sym c.is_function.ensures ∙ v.if-is_function.false)))
              ∙ c.loop-left.invariant.same
        ])
  ];
}
