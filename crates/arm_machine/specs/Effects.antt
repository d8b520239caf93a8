-- What a done instruction does to the state.
use Rattle.std.specs.Prelude.{if◌then◌else◌, Result, Ok}
use Rattle.elf32_image.specs.Parts.{ImageValue}
use Rattle.arm_isa.specs.declared.instruction.Op.{Op}
use Rattle.arm_isa.specs.declared.instruction.Op.TheVariants as op
use Rattle.arm_isa.specs.declared.instruction.Branch.{Branch}
use Rattle.control_flow.specs.Points.{target}
use Rattle.arm_cpu.specs.declared.cpu.Cpu.{Cpu}
use Rattle.arm_cpu.specs.declared.stops.Stop.{Stop}
use Rattle.arm_cpu.specs.Registers.{jumped, next_pc, read, with_register}
use Rattle.arm_machine.specs.States.{State}
use Rattle.arm_cpu.specs.Sums.{computes}
use Rattle.arm_cpu.specs.Products.{multiplies, multiplies_long}
use Rattle.arm_machine.specs.Transfers.{half_transfer, transfers, with_cpu, word_transfer}
use Rattle.arm_machine.specs.Blocks.{transfers_many}

-- B, and BL, which leaves the address of the next instruction in register 14 (A4.1.5)
abbrev pub branches : Cpu → Branch → Cpu
branches cpu this = record (if this.link then with_register cpu 14 (next_pc cpu) else cpu) { pc = target cpu.pc this.words }

abbrev pub effect : ImageValue → State → Op → Result State Stop
effect image s (op.Compute this) = with_cpu s (computes s.cpu this)
effect image s (op.Multiply this) = Ok (record s { cpu = multiplies s.cpu this })
effect image s (op.MultiplyLong this) = Ok (record s { cpu = multiplies_long s.cpu this })
effect image s (op.Word this) = transfers image s (word_transfer this)
effect image s (op.Half this) = transfers image s (half_transfer this)
effect image s (op.Block this) = transfers_many image s this
effect image s (op.Branch this) = Ok (record s { cpu = branches s.cpu this })
effect image s (op.Exchange this) = with_cpu s (jumped s.cpu (read s.cpu this.rm))
