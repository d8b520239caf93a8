-- Facts along a path: "this location holds that origin plus a constant", modulo 2^32.
use Rattle.std.specs.Prelude.{◌≡◌, ℕ, ℤ, pos, neg_ℤ, ◌+ℤ◌, ◌+◌, ◌-◌, ◌*◌, ◌%◌, ◌^◌, ◌==◌, ◌&&◌, int_le, int_lt}
use Rattle.std.specs.Prelude.{Bool, true, if◌then◌else◌, Option, Some, None, IsSomeAnd, List, slice_index}
use Rattle.std.specs.Int.{int_wrap, w32}
use Rattle.arm_cpu.specs.Registers.{signed_of}
use Rattle.arm_machine.specs.declared.access.Size.TheVariants as size
use Rattle.arm_machine.specs.Access.{number_at}
use Rattle.arm_machine.specs.States.{State}
use Rattle.path_facts.specs.declared.origin.Origin.{Origin}
use Rattle.path_facts.specs.declared.origin.Origin.TheVariants.{Zero, AtStart}

-- a register, or the word 4 × k bytes below where r13 pointed at the start
pub data Location : Type 0 where
  Register : (r : ℕ) → Location
  StackWord : (k : ℕ) → Location

-- a location holds the origin plus the constant
pub record Fact : Type 0 where
  pub origin : Origin
  pub constant : ℤ

-- what is known of each location, and which stack words are marked: that only stores by r13 change them
pub record Facts : Type 0 where
  pub fact : Location → Option Fact
  pub marked : ℕ → Bool

-- What a location's value after a done instruction is, in terms of the state before it: nothing is said of it; a
-- constant; a register plus a constant; what a location held; what a stack word held, where it is marked.
pub data Source : Type 0 where
  Nothing : Source
  Constant : (c : ℤ) → Source
  Sum : (r : ℕ) (by : ℤ) → Source
  Copy : (location : Location) → Source
  IfMarked : (k : ℕ) → Source

-- constants are signed numbers of 32 bits
abbrev pub is_signed_word : ℤ → Bool
is_signed_word z = int_le (neg_ℤ (pos (2 ^ 31))) z && int_lt z (pos (2 ^ 31))

-- a fact whose constant leaves 32 bits is lost
abbrev pub fact_of : Origin → ℤ → Option Fact
fact_of origin c = if is_signed_word c then Some (record { origin = origin; constant = c }) else None

-- the fact of a value that is greater by a constant
abbrev pub plus : ℤ → Option Fact → Option Fact
plus by None = None
plus by (Some f) = fact_of f.origin (f.constant +ℤ by)

-- the fact of a location that has this source, by the facts before
abbrev pub fact_from : Facts → Source → Option Fact
fact_from f Nothing = None
fact_from f (Constant c) = fact_of Zero c
fact_from f (Sum r by) = plus by (f.fact (Register r))
fact_from f (Copy location) = f.fact location
fact_from f (IfMarked k) = if f.marked k then f.fact (StackWord k) else None

-- the address of a stack word, by what r13 held at the start
abbrev pub word_address : ℕ → ℕ → ℕ
word_address sp k = (sp + 2 ^ 32 - 4 * k) % 2 ^ 32

-- what a location holds; a stack word has a value where all its bytes are mapped
abbrev pub value_in : ℕ → State → Location → Option ℕ
value_in sp s (Register r) = Some (slice_index s.cpu.registers r)
value_in sp s (StackWord k) = number_at s.memory size.Word (word_address sp k)

-- an origin by the registers of the start
abbrev pub origin_value : List ℕ → Origin → ℤ
origin_value start Zero = pos 0
origin_value start (AtStart r) = signed_of (slice_index start r)

-- the word is congruent to this number modulo 2^32
abbrev pub IsCongruent : ℤ → ℕ → Type 0
IsCongruent z n = signed_of n ≡ int_wrap w32 z

-- the fact is true of this value
abbrev pub IsTrueOf : List ℕ → Option Fact → Option ℕ → Type 0
IsTrueOf start None v = Unit {0}
IsTrueOf start (Some f) v = IsSomeAnd v (IsCongruent (origin_value start f.origin +ℤ f.constant))

-- the value is what the source says, by the state before
abbrev pub Says : ℕ → State → (ℕ → Bool) → Source → Option ℕ → Type 0
Says sp s marked Nothing v = Unit {0}
Says sp s marked (Constant c) v = IsSomeAnd v (IsCongruent c)
Says sp s marked (Sum r by) v = IsSomeAnd v (IsCongruent (signed_of (slice_index s.cpu.registers r) +ℤ by))
Says sp s marked (Copy location) v = v ≡ value_in sp s location
Says sp s marked (IfMarked k) v = marked k ≡ true → v ≡ value_in sp s (StackWord k)

abbrev pub offset_from : Origin → ℤ → Option ℤ
offset_from Zero c = None
offset_from (AtStart r) c = if r == 13 then Some c else None

abbrev pub offset_in : Option Fact → Option ℤ
offset_in None = None
offset_in (Some f) = offset_from f.origin f.constant

-- how far r13 is from where it pointed at the start, where that is known
abbrev pub offset_of : Facts → Option ℤ
offset_of f = offset_in (f.fact (Register 13))
