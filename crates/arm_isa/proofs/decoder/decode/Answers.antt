-- What the table gives lies in its ranges, and is none of what it refuses.
use Rattle.std.proofs.Common.{sym, subst, Option, IfSome}
use Rattle.arm_isa.specs.Guarantees.{IsGuarded}
use Rattle.arm_isa.specs.Ranges.{IsInsn}
use Rattle.arm_isa.specs.declared.instruction.Insn.{Insn}
use Rattle.arm_isa.proofs.GuardLemmas.{table_guard}
use Rattle.arm_isa.proofs.RangeLemmas.{table_range}
use Rattle.arm_isa.proofs.decoder.decode.Goals as goal

pub returns-clause-ranges : goal.returns-clause-ranges
returns-clause-ranges c = subst (λ (o : Option Insn). IfSome o IsInsn) (sym c.by_class.ensures) (table_range c.args.word)

pub returns-clause-guarded : goal.returns-clause-guarded
returns-clause-guarded c = subst (λ (o : Option Insn). IfSome o (λ insn. IsGuarded insn.op)) (sym c.by_class.ensures) (table_guard c.args.word)
