-- The operations of data processing (ARM Architecture Reference Manual, chapter A3, "Data-processing instructions").
use Rattle.std.specs.Prelude.{ℕ, ◌==◌, Bool, true, false, if◌then◌else◌}
use Rattle.arm_isa.specs.declared.opcodes.Opcode.{Opcode}
use Rattle.arm_isa.specs.declared.opcodes.Opcode.TheVariants.{And, Eor, Sub, Rsb, Add, Adc, Sbc, Rsc, Tst, Teq, Cmp, Cmn, Orr, Mov, Bic, Mvn}

-- what an opcode field stands for
abbrev pub opcode_numbered : ℕ → Opcode
opcode_numbered number =
    if number == 0 then And
    else if number == 1 then Eor
    else if number == 2 then Sub
    else if number == 3 then Rsb
    else if number == 4 then Add
    else if number == 5 then Adc
    else if number == 6 then Sbc
    else if number == 7 then Rsc
    else if number == 8 then Tst
    else if number == 9 then Teq
    else if number == 10 then Cmp
    else if number == 11 then Cmn
    else if number == 12 then Orr
    else if number == 13 then Mov
    else if number == 14 then Bic
    else Mvn

-- what sets flags alone, and writes no register
abbrev pub is_test : Opcode → Bool
is_test Tst = true
is_test Teq = true
is_test Cmp = true
is_test Cmn = true
is_test _ = false

-- what reads no Rn
abbrev pub is_move : Opcode → Bool
is_move Mov = true
is_move Mvn = true
is_move _ = false

-- MOV alone, which gives its second operand as it is
abbrev pub is_plain_move : Opcode → Bool
is_plain_move Mov = true
is_plain_move _ = false
