-- Loads and stores of several registers (ARM Architecture Reference Manual, A5.4, and LDM and STM in A4.1): the lowest register
-- goes with the lowest address.
use Rattle.std.specs.Prelude.{◌≡◌, ℕ, zero, suc, ◌+◌, ◌-◌, ◌*◌, ◌%◌, ◌^◌, ◌==◌, ◌&&◌, not, Bool, if◌then◌else◌, count_ones, Option, Some, None, Result, Ok, Err, List, [], ◌∷◌}
use Rattle.elf32_image.specs.Parts.{ImageValue}
use Rattle.arm_isa.specs.declared.instruction.BlockTransfer.{BlockTransfer}
use Rattle.arm_isa.specs.Writes.{is_listed}
use Rattle.arm_cpu.specs.declared.cpu.Cpu.{Cpu}
use Rattle.arm_machine.specs.declared.access.Size.TheVariants as size
use Rattle.arm_cpu.specs.declared.stops.Stop.{Stop}
use Rattle.arm_cpu.specs.declared.stops.Stop.TheVariants as stop
use Rattle.arm_cpu.specs.Registers.{advanced, and_then, read, with_register}
use Rattle.arm_machine.specs.States.{Bytes, State}
use Rattle.arm_machine.specs.Access.{is_saved, loaded, store_stop, stored}
use Rattle.arm_machine.specs.Transfers.{unless_stopped, with_cpu}

-- of n registers from this one on those that stand in the list, in ascending order
abbrev pub listed_from : ℕ → ℕ → ℕ → List ℕ
listed_from list r zero = []
listed_from list r (suc n) = if is_listed list r then r ∷ listed_from list (r + 1) n else listed_from list (r + 1) n

unfoldable pub registers_of : ℕ → List ℕ
registers_of list = listed_from list 0 16

-- the lowest address: upward from the base on or from the word after it, downward so that the block ends there
abbrev pub lowest : Cpu → BlockTransfer → ℕ
lowest cpu this =
    if this.up
    then (read cpu this.rn + (if this.before then 4 else 0)) % 2 ^ 32
    else (read cpu this.rn + 2 ^ 32 - 4 * count_ones this.list + (if this.before then 0 else 4)) % 2 ^ 32

-- the base after the block
abbrev pub block_base : Cpu → BlockTransfer → ℕ
block_base cpu this =
    if this.up
    then (read cpu this.rn + 4 * count_ones this.list) % 2 ^ 32
    else (read cpu this.rn + 2 ^ 32 - 4 * count_ones this.list) % 2 ^ 32

abbrev pub rebased_block : Cpu → BlockTransfer → Cpu
rebased_block cpu this = if this.write_back then with_register cpu this.rn (block_base cpu this) else cpu

abbrev pub next_word : ℕ → ℕ
next_word a = (a + 4) % 2 ^ 32

-- a register gets a loaded word; register 15 is pc
abbrev pub placed : Cpu → ℕ → ℕ → Cpu
placed cpu r value = if r == 15 then record cpu { pc = value } else with_register cpu r value

-- the words from an address on go to these registers, one after another
abbrev pub load_block : Bytes → ℕ → List ℕ → Cpu → Result Cpu Stop
load_block memory a [] cpu = Ok cpu
load_block memory a (r ∷ rs) cpu = and_then (λ value. load_block memory (next_word a) rs (placed cpu r value)) (loaded memory size.Word a)

-- what went to pc must be a multiple of 4
abbrev pub landed : ℕ → Cpu → Result Cpu Stop
landed list cpu = if is_listed list 15 && not (cpu.pc % 4 == 0) then Err stop.Leaves else Ok cpu

abbrev pub loads_many : Cpu → Bytes → BlockTransfer → Result Cpu Stop
loads_many cpu memory this =
    and_then (landed this.list) (load_block memory (lowest cpu this) (registers_of this.list) (advanced (rebased_block cpu this)))

abbrev pub first_of : Option Stop → Option Stop → Option Stop
first_of None later = later
first_of (Some stop) later = Some stop

-- the first store of a block that stops
abbrev pub block_stop : ImageValue → Bytes → List ℕ → ℕ → ℕ → List ℕ → Option Stop
block_stop image memory kept base a [] = None
block_stop image memory kept base a (r ∷ rs) = first_of (store_stop image memory kept base size.Word a) (block_stop image memory kept base (next_word a) rs)

-- each word of a block stands at a multiple of 4
abbrev pub AreAligned : ℕ → List ℕ → Type 0
AreAligned a [] = Unit {0}
AreAligned a (r ∷ rs) = (a % 4 ≡ 0) × AreAligned (next_word a) rs

-- these registers of a state go to the words from an address on, one after another
abbrev pub stored_block : Cpu → State → ℕ → ℕ → Bool → List ℕ → State
stored_block cpu s base a saves [] = s
stored_block cpu s base a saves (r ∷ rs) =
    stored_block cpu (stored s base size.Word a (read cpu r) (saves && is_saved r)) base (next_word a) saves rs

-- STMDB r13!
abbrev pub is_push_block : BlockTransfer → Bool
is_push_block this = this.before && not this.up && this.write_back && (this.rn == 13)

abbrev pub stores_many : ImageValue → State → BlockTransfer → Result State Stop
stores_many image s this =
    let a = lowest s.cpu this in
    unless_stopped (block_stop image s.memory s.kept this.rn a (registers_of this.list))
    (record (stored_block s.cpu s this.rn a (is_push_block this) (registers_of this.list)) { cpu = advanced (rebased_block s.cpu this) })

abbrev pub transfers_many : ImageValue → State → BlockTransfer → Result State Stop
transfers_many image s this = if this.load then with_cpu s (loads_many s.cpu s.memory this) else stores_many image s this
