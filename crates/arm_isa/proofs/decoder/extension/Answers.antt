-- Each arm goes to the line of the table that its tests pick.
use Rattle.std.proofs.Common.{sym, ◌∙◌, arith}
use Rattle.arm_isa.proofs.TableLemmas.{to_half, to_multiply, to_long, to_undefined}
use Rattle.arm_isa.proofs.decoder.extension.Goals as goal

pub returns-then-word-gt0 : goal.returns-then-word-gt0
returns-then-word-gt0 c = c.decode_half.ensures ∙ sym (to_half c.args.word c.requires.class c.requires.upper c.requires.lower (omega arith))

pub returns-then-word-eq1 : goal.returns-then-word-eq1
returns-then-word-eq1 c = c.decode_long.ensures ∙ sym (to_long c.args.word c.requires.class c.requires.upper c.requires.lower (omega arith) (omega arith))

pub returns-then-word-eq0 : goal.returns-then-word-eq0
returns-then-word-eq0 c = c.decode_multiply.ensures ∙ sym (to_multiply c.args.word c.requires.class c.requires.upper c.requires.lower (omega arith) (omega arith))

pub returns-else-word-eq0 : goal.returns-else-word-eq0
returns-else-word-eq0 c = sym (to_undefined c.args.word c.requires.class c.requires.upper c.requires.lower (omega arith) (omega arith) c.if-word-eq1.false)
