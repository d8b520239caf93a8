-- The instructions of an image.
use Rattle.std.specs.Prelude.{ℕ, if◌then◌else◌, Option, None, Some, Result, Ok, Err, option_and_then}
use Rattle.elf32_image.specs.Parts.{ImageValue}
use Rattle.elf32_image.specs.Bytes.{is_code, word_at}
use Rattle.arm_isa.specs.declared.instruction.Insn.{Insn}
use Rattle.arm_isa.specs.Decoding.{decoding}
use Rattle.control_flow.specs.declared.instructions.FetchFault.{FetchFault}
use Rattle.control_flow.specs.declared.instructions.FetchFault.TheVariants.{NoCode, BadWord}

-- the instruction at an address that is code, where its word decodes
abbrev pub instruction_at : ImageValue → ℕ → Option Insn
instruction_at image a = if is_code image a then option_and_then decoding (word_at image a) else None

-- of an address that is code
abbrev pub decoded : Option Insn → Result Insn FetchFault
decoded None = Err BadWord
decoded (Some insn) = Ok insn

-- what is taken from an address: there must be code, and a word that decodes
abbrev pub fetched : ImageValue → ℕ → Result Insn FetchFault
fetched image a = if is_code image a then decoded (instruction_at image a) else Err NoCode
