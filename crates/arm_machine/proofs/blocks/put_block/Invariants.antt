use Rattle.std.proofs.Common.{◌≡◌, ◌+◌, ◌-◌, ◌*◌, ◌≤◌, vec_len, vec_capacity}
use Rattle.arm_machine.specs.Blocks.{AreAligned, is_push_block, registers_of, stored_block}
use Rattle.arm_machine.specs.Machines.{state_of}
use Rattle.arm_machine.proofs.Listing.{rest_of}
use Rattle.arm_machine.proofs.blocks.put_block.Given as goal

-- the registers that are left, stored after those so far, give what all give; and there is room for them
abbrev pub invariant-loop-register : goal.invariant-loop-register
invariant-loop-register l = record {
  state : stored_block l.cpu (state_of l.state) l.block.rn l.address l.saves (rest_of l.block.list l.register) ≡ stored_block l.fn.state.cpu (state_of l.fn.state) l.block.rn l.lowest (is_push_block l.block) (registers_of l.block.list);
  cache : l.state.cache ≡ l.fn.state.cache;
  aligned : AreAligned l.address (rest_of l.block.list l.register);
  marks : vec_len l.state.kept + (16 - l.register) ≤ vec_capacity l.state.kept;
  bytes : 4 * (16 - l.register) ≤ l.state.memory.room;
}
