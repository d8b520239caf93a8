-- Accesses to the memory. Numbers stand in it with the least significant byte first (ARM Architecture Reference Manual, A2.7).
use Rattle.std.specs.Prelude.{ℕ, ◌+◌, ◌-◌, ◌*◌, ◌/◌, ◌%◌, ◌==◌, ◌&&◌, ◌||◌, not, nat_le, Bool, true, if◌then◌else◌, is_some, filter, Option, Some, None, Result, Ok, Err, List, [], ◌∷◌, ◌++◌}
use Rattle.std.specs.FinMap as map
use Rattle.std.specs.List.{list_any}
use Rattle.elf32_image.specs.Parts.{ImageValue}
use Rattle.elf32_image.specs.Bytes.{constant_byte_at, word_of}
use Rattle.arm_machine.specs.declared.access.Size.{Size}
use Rattle.arm_machine.specs.declared.access.Size.TheVariants as size
use Rattle.arm_cpu.specs.declared.stops.Stop.{Stop}
use Rattle.arm_cpu.specs.declared.stops.Stop.TheVariants as stop
use Rattle.arm_machine.specs.States.{Bytes, State}

-- a multiple of the size
abbrev pub is_aligned : Size → ℕ → Bool
is_aligned size.Byte a = true
is_aligned size.Half a = a % 2 == 0
is_aligned size.Word a = a % 4 == 0

abbrev pub half_of : Option ℕ → Option ℕ → Option ℕ
half_of (Some low) (Some high) = Some (low + 256 * high)
half_of (Some low) None = None
half_of None high = None

-- the number at an address, where each of its bytes is mapped
abbrev pub number_at : Bytes → Size → ℕ → Option ℕ
number_at memory size.Byte a = map.get memory a
number_at memory size.Half a = half_of (map.get memory a) (map.get memory (a + 1))
number_at memory size.Word a = word_of (map.get memory a) (map.get memory (a + 1)) (map.get memory (a + 2)) (map.get memory (a + 3))

abbrev pub if_mapped : Option ℕ → Result ℕ Stop
if_mapped None = Err stop.Unmapped
if_mapped (Some value) = Ok value

-- what a load gives, or why it stops
abbrev pub loaded : Bytes → Size → ℕ → Result ℕ Stop
loaded memory size a = if is_aligned size a then if_mapped (number_at memory size a) else Err stop.Unaligned

-- the addresses of the bytes that an access touches
abbrev pub touched : Size → ℕ → List ℕ
touched size.Byte a = a ∷ []
touched size.Half a = a ∷ (a + 1) ∷ []
touched size.Word a = a ∷ (a + 1) ∷ (a + 2) ∷ (a + 3) ∷ []

-- a byte of the access is loaded where no program can write it
abbrev pub is_read_only : ImageValue → Size → ℕ → Bool
is_read_only image size a = list_any (λ byte. is_some (constant_byte_at image byte)) (touched size a)

-- the word that holds an address
abbrev pub word_holding : ℕ → ℕ
word_holding a = a - a % 4

abbrev pub is_kept : List ℕ → ℕ → Bool
is_kept kept a = list_any (λ word. word == word_holding a) kept

-- Why a store by a base register stops, if it does. Only stores by r13 may touch kept words.
abbrev pub store_stop : ImageValue → Bytes → List ℕ → ℕ → Size → ℕ → Option Stop
store_stop image memory kept base size a =
    if not (is_aligned size a) then Some stop.Unaligned
    else if not (is_some (number_at memory size a)) then Some stop.Unmapped
    else if is_read_only image size a then Some stop.ReadOnly
    else if not (base == 13) && is_kept kept a then Some stop.Trespass
    else None

-- the low bytes of a value
abbrev pub bytes_of : Size → ℕ → List ℕ
bytes_of size.Byte value = value % 256 ∷ []
bytes_of size.Half value = value % 256 ∷ value / 256 % 256 ∷ []
bytes_of size.Word value = value % 256 ∷ value / 256 % 256 ∷ value / 65536 % 256 ∷ value / 16777216 % 256 ∷ []

-- the memory with these bytes from an address on
abbrev pub with_bytes : Bytes → ℕ → List ℕ → Bytes
with_bytes memory a [] = memory
with_bytes memory a (b ∷ bs) = with_bytes (map.insert memory a b) (a + 1) bs

abbrev pub without_mark : ℕ → List ℕ → List ℕ
without_mark a kept = filter (λ word. not (word == word_holding a)) kept

-- A store by r13 takes the mark from the word that it touches, and marks it where it saves a register.
abbrev pub marked : ℕ → ℕ → Bool → List ℕ → List ℕ
marked base a saves kept = if base == 13 then without_mark a kept ++ (if saves then a ∷ [] else []) else kept

-- the state after a store
abbrev pub stored : State → ℕ → Size → ℕ → ℕ → Bool → State
stored s base size a value saves =
    record s { memory = with_bytes s.memory a (bytes_of size value); kept = marked base a saves s.kept }

-- the registers that calls save: r4 to r11 and r14
abbrev pub is_saved : ℕ → Bool
is_saved r = (nat_le 4 r && nat_le r 11) || (r == 14)
