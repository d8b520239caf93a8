use Rattle.std.proofs.Common.{◌∙◌, sym, arith}
use Rattle.arm_machine.specs.Blocks.{is_push_block, registers_of, stored_block}
use Rattle.arm_machine.specs.Machines.{state_of}
use Rattle.arm_machine.proofs.Listing.{aligned_later, aligned_parts, stored_goes_on, stored_skips}
use Rattle.arm_machine.proofs.blocks.put_block.Goals as goal
use Rattle.arm_machine.proofs.blocks.put_block.Goals.{then-is_listed, else-is_listed}

pub loop-register-preserved : goal.loop-register-preserved
loop-register-preserved c =
    let old = c.args.state.now in
    let block = c.args.block in
    let r = c.loop-register.register in
    let all = stored_block old.cpu (state_of old) block.rn c.args.lowest (is_push_block block) (registers_of block.list) in
    let kept = c.loop-register.invariant in
    elim c.if-is_listed.branch [
      | then-is_listed w ↦
          let p = rw (w.read.ensures, w.is_marked.ensures) at w.put.ensures.state in
          let parts = aligned_parts c.loop-register.address block.list r c.loop-register-test.true (sym w.if-is_listed.ensures) kept.aligned in
          rw (w.state-is, w.address-is) (record {
            state = stored_goes_on old.cpu (state_of c.loop-register.state) (state_of w.put.new.self) block.rn c.loop-register.address block.list r c.is_push_block-saves.result all c.loop-register-test.true (sym w.if-is_listed.ensures) p kept.state;
            cache = w.put.ensures.cache ∙ kept.cache;
            aligned = parts.1;
            marks = omega (arith, kept.marks, w.put.ensures.marks, w.put.ensures.capacity);
            bytes = omega (arith, kept.bytes, w.put.ensures.room);
          })
      | else-is_listed w ↦
          rw (w.state-is, w.address-is) (record {
            state = stored_skips old.cpu (state_of c.loop-register.state) block.rn c.loop-register.address block.list r c.is_push_block-saves.result all c.loop-register-test.true (sym w.if-is_listed.ensures) kept.state;
            cache = kept.cache;
            aligned = aligned_later c.loop-register.address block.list r c.loop-register-test.true (sym w.if-is_listed.ensures) kept.aligned;
            marks = omega (arith, kept.marks);
            bytes = omega (arith, kept.bytes);
          })
    ]
