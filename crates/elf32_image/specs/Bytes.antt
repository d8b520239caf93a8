-- What an image holds at an address.
-- System V ABI, chapter 5, 'Program Header': the bytes of a segment beyond the file's are zeros, and
-- PF_X and PF_W allow to execute and to write it. Words are of four bytes, least significant first.
use Rattle.std.specs.Prelude.{◌≡◌, ℕ, ◌^◌, ◌<◌, ◌+◌, ◌*◌, ◌-◌, ◌/◌, ◌%◌, ◌==◌, ◌&&◌, Bool, false, if◌then◌else◌, nat_le, nat_lt, slice_get, get_or, unwrap_or, List, Option, Some, None}
use Rattle.std.specs.List.{find}
use Rattle.elf32_image.specs.Parts.{Segment, ImageValue}
use Rattle.elf32_image.specs.declared.image.Loaded.{Loaded}
use Rattle.elf32_image.specs.declared.image.Loaded.TheVariants.{No, ReadOnly, Writable}

-- bit 0 of the flags, PF_X, is set
abbrev pub is_executable : Segment → Bool
is_executable segment = segment.flags % 2 == 1

-- bit 1 of the flags, PF_W, is set
abbrev pub is_writable : Segment → Bool
is_writable segment = segment.flags / 2 % 2 == 1

-- the address is one of the segment's
abbrev pub covers : ℕ → Segment → Bool
covers address segment = nat_le segment.address address && nat_lt address (segment.address + segment.size)

-- the segment that holds the address
abbrev pub holder : ImageValue → ℕ → Option Segment
holder image address = find (covers address) image.segments

-- the byte that a segment holds at one of its addresses: the file's, and 0 after those
abbrev pub byte_of : Segment → ℕ → ℕ
byte_of segment address = unwrap_or (slice_get segment.bytes (address - segment.address)) 0

-- what stands at an address that this segment holds, or none
abbrev pub loaded_in : Option Segment → ℕ → Loaded
loaded_in None address = No
loaded_in (Some segment) address =
    if is_writable segment then Writable (byte_of segment address) else ReadOnly (byte_of segment address)

-- what the image holds at the address
abbrev pub loaded : ImageValue → ℕ → Loaded
loaded image address = loaded_in (holder image address) address

-- the byte of an answer
abbrev pub loaded_byte : Loaded → Option ℕ
loaded_byte No = None
loaded_byte (ReadOnly byte) = Some byte
loaded_byte (Writable byte) = Some byte

-- the byte of an answer that no program can write
abbrev pub constant_byte : Loaded → Option ℕ
constant_byte No = None
constant_byte (ReadOnly byte) = Some byte
constant_byte (Writable byte) = None

-- the byte at the address
abbrev pub byte_at : ImageValue → ℕ → Option ℕ
byte_at image address = loaded_byte (loaded image address)

-- each byte that the image holds is a number of eight bits
abbrev pub HoldsBytes : ImageValue → Type 0
HoldsBytes image = (address byte : ℕ) → byte_at image address ≡ Some byte → byte < 2 ^ 8

-- the byte at the address, where no program can write it
abbrev pub constant_byte_at : ImageValue → ℕ → Option ℕ
constant_byte_at image address = constant_byte (loaded image address)

-- the word of four bytes, where each is there
abbrev pub word_of : Option ℕ → Option ℕ → Option ℕ → Option ℕ → Option ℕ
word_of (Some b0) (Some b1) (Some b2) (Some b3) = Some (b0 + 256 * b1 + 65536 * b2 + 16777216 * b3)
word_of _ _ _ _ = None

-- the word at an address that is a multiple of 4, of bytes that `byte` gives
abbrev pub word_by : (ℕ → Option ℕ) → ℕ → Option ℕ
word_by byte address =
    if address % 4 == 0
    then word_of (byte address) (byte (address + 1)) (byte (address + 2)) (byte (address + 3))
    else None

-- the word that is loaded at the address
abbrev pub word_at : ImageValue → ℕ → Option ℕ
word_at image address = word_by (byte_at image) address

-- the word that is loaded at the address and that no program can write
abbrev pub constant_at : ImageValue → ℕ → Option ℕ
constant_at image address = word_by (constant_byte_at image) address

-- whether there is such a segment and it may be executed
abbrev pub executable_in : Option Segment → Bool
executable_in None = false
executable_in (Some segment) = is_executable segment

-- the byte at the address is loaded and may be executed
abbrev pub is_executable_at : ImageValue → ℕ → Bool
is_executable_at image address = executable_in (holder image address)

-- the four bytes of an instruction stand at the address
abbrev pub is_code : ImageValue → ℕ → Bool
is_code image address =
    address % 4 == 0
    && is_executable_at image address && is_executable_at image (address + 1)
    && is_executable_at image (address + 2) && is_executable_at image (address + 3)

-- the word at an address that is code
abbrev pub code_at : ImageValue → ℕ → Option ℕ
code_at image address = if is_code image address then word_at image address else None

-- the numbers of a list are of eight bits, place by place, with 0 past the end
abbrev pub AreBytes : List ℕ → Type 0
AreBytes numbers = (place : ℕ) → get_or numbers place 0 < 2 ^ 8
