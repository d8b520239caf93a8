-- The memory in which a run starts, and the memory as the machine keeps it.
use Rattle.std.specs.Prelude.{ℕ, zero, suc, ◌+◌, ◌-◌, ◌%◌, ◌^◌, nat_lt, if◌then◌else◌, Option, Some, None, List, [], ◌∷◌, ◌++◌, refl}
use Rattle.std.specs.FinMap as map
use Rattle.std.specs.List.{flat_map}
use Rattle.std.specs.Coded.{Coded, code_by, coded×, coded_ℕ}
use Rattle.elf32_image.specs.Parts.{ImageValue, Segment}
use Rattle.elf32_image.specs.Bytes.{byte_at, byte_of}
use Rattle.arm_machine.specs.States.{Bytes}

-- the first n bytes of a segment from an address on
abbrev pub entries_from : Segment → ℕ → ℕ → List (ℕ × ℕ)
entries_from segment a zero = []
entries_from segment a (suc n) = (a, byte_of segment a) ∷ entries_from segment (a + 1) n

unfoldable pub segment_entries : Segment → List (ℕ × ℕ)
segment_entries segment = entries_from segment segment.address segment.size

-- n zeros from an address on, which go on at 0 after the last address
abbrev pub zeros_from : ℕ → ℕ → List (ℕ × ℕ)
zeros_from a zero = []
zeros_from a (suc n) = (a, 0) ∷ zeros_from ((a + 1) % 2 ^ 32) n

-- The bytes with which a run starts, where the first entry of an address counts: those of the loaded segments, and zeros in the
-- stack beneath the stack pointer and in the 64 bytes from it on.
unfoldable pub start_entries : ImageValue → ℕ → ℕ → List (ℕ × ℕ)
start_entries image bottom room = flat_map segment_entries image.segments ++ zeros_from bottom room

abbrev pub start_memory : ImageValue → ℕ → ℕ → Bytes
start_memory image sp stack = map.from_entries (start_entries image ((sp + 2 ^ 32 - stack) % 2 ^ 32) (stack + 64))

-- the byte at an address when a run starts: that of the image, or a zero of the stack
abbrev pub if_loaded : Option ℕ → Option ℕ → Option ℕ
if_loaded (Some byte) other = Some byte
if_loaded None other = other

abbrev pub start_byte : ImageValue → ℕ → ℕ → ℕ → Option ℕ
start_byte image bottom room a = if_loaded (byte_at image a) (if nat_lt ((a + 2 ^ 32 - bottom) % 2 ^ 32) room then Some 0 else None)

-- What the machine keeps: the bytes, and how many more it can write without taking memory.
pub record Held : Type 0 where
  pub bytes : Bytes
  pub room : ℕ

abbrev pub held_code : Coded Held
held_code =
    code_by (Bytes × ℕ) (coded× (map.code coded_ℕ coded_ℕ) coded_ℕ) (λ h. (h.bytes, h.room)) (λ p. record { bytes = p.0; room = p.1 }) (λ _. refl)
