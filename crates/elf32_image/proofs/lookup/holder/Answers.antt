use Rattle.std.proofs.Common.{◌/◌, length, length-take, length-drop, arith, ◌∙◌}
use Rattle.std.proofs.lemmas.List.{take_rest}
use Rattle.elf32_image.proofs.Ascent.{rise_drop, rise_take, find_before, find_behind}
use Rattle.elf32_image.proofs.lookup.holder.Goals as goal

pub loop-left-preserved-then-left-middle : goal.loop-left-preserved-then-left-middle
loop-left-preserved-then-left-middle c =
    rw take_rest (record {
      within = simp length-drop (omega arith);
      apart = rise_drop 0 (length c.loop-left.left.now / 2) c.loop-left.left.now c.loop-left.invariant.apart;
      same = find_behind c.args.address 0 (length c.loop-left.left.now / 2) c.loop-left.left.now _ c.loop-left.invariant.apart (omega arith) c.if-left-middle.true ∙ c.loop-left.invariant.same;
    })

pub loop-left-preserved : goal.loop-left-preserved
loop-left-preserved c = record {
  within = simp length-take (omega arith);
  apart = rise_take 0 (length c.loop-left.left.now / 2) c.loop-left.left.now c.loop-left.invariant.apart;
  same = find_before c.args.address 0 (length c.loop-left.left.now / 2) c.loop-left.left.now _ c.loop-left.invariant.apart (omega arith) c.if-left-middle.false ∙ c.loop-left.invariant.same;
}
