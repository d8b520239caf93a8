-- Facts along a history of a function, when they hold in a state, and what a return must bring.
use Rattle.std.specs.Prelude.{◌≡◌, ℕ, ℤ, pos, neg_ℤ, ◌-ℤ◌, ◌≤ℤ◌, ◌+◌, ◌-◌, ◌*◌, ◌%◌, ◌^◌, ◌<◌, ◌==◌, ◌&&◌, int_le}
use Rattle.std.specs.Prelude.{nat_le, nat_lt}
use Rattle.std.specs.Prelude.{Bool, true, false, if◌then◌else◌, Option, Some, None, List, [], ◌∷◌, option_and_then}
use Rattle.std.specs.Prelude.{slice_index}
use Rattle.elf32_image.specs.Parts.{ImageValue}
use Rattle.elf32_image.specs.Bytes.{constant_at}
use Rattle.arm_isa.specs.declared.instruction.Insn.{Insn}
use Rattle.arm_isa.specs.declared.instruction.Op.{Op}
use Rattle.arm_isa.specs.declared.instruction.Op.TheVariants as op
use Rattle.arm_isa.specs.Writes.{is_return_form}
use Rattle.control_flow.specs.Instructions.{instruction_at}
use Rattle.control_flow.specs.Points.{Point, entry_point, last_return}
use Rattle.control_flow.specs.Routes.{IsHistory, Taken}
use Rattle.control_flow.specs.Ways.{IsCollected, fault_at, ways_from}
use Rattle.arm_cpu.specs.Registers.{signed_of}
use Rattle.arm_machine.specs.Laws.{Holds}
use Rattle.arm_machine.specs.Orderly.{HasConstants, IsOrderly}
use Rattle.arm_machine.specs.States.{State}
use Rattle.path_facts.specs.Facts.{Fact, Facts, IsTrueOf, Location, fact_from, offset_of, value_in, word_address}
use Rattle.path_facts.specs.Facts.Location.{Register, StackWord}
use Rattle.path_facts.specs.declared.origin.Origin.TheVariants.{Zero, AtStart}
use Rattle.path_facts.specs.Sources.{indexed, mark_of, return_source, source_of}

-- the word of the image, which no program can write, that an instruction at an address loads by r15 and a constant
abbrev pub literal_of : ImageValue → ℕ → Op → Option ℕ
literal_of image a (op.Word this) =
    if this.rn == 15
    then option_and_then (constant_at image) (indexed this.index this.up ((a + 8) % 2 ^ 32) this.offset)
    else None
literal_of image a _ = None

-- a stack word isn't below r13, whose offset lies in the stack or at most 64 bytes above it
abbrev pub is_above : ℕ → Option ℤ → ℕ → Bool
is_above stack None k = false
is_above stack (Some o) k =
    int_le (neg_ℤ (pos stack)) o && int_le o (pos 64) && nat_le (4 * k) stack && int_le o (neg_ℤ (pos (4 * k)))

-- words below r13 lose their marks, and all do where r13 isn't known
abbrev pub without_marks_below : ℕ → Facts → Facts
without_marks_below stack f = record f { marked = λ k. is_above stack (offset_of f) k && f.marked k }

-- the facts after a done instruction, by the table
abbrev pub facts_done : ℕ → ℕ → Option ℕ → Op → Facts → Facts
facts_done stack a literal o f = record {
  fact = λ location. fact_from f (source_of stack a literal (offset_of f) o location);
  marked = λ k. mark_of stack (offset_of f) o k (f.marked k);
}

-- the facts after an instruction at an address; one that is skipped changes no location
abbrev pub facts_after : ImageValue → ℕ → ℕ → Op → Bool → Facts → Facts
facts_after image stack a o done f =
    without_marks_below stack (if done then facts_done stack a (literal_of image a o) o f else f)

-- where nothing decodes nothing changes
abbrev pub facts_through : ImageValue → ℕ → ℕ → Option Insn → Bool → Facts → Facts
facts_through image stack a None done f = f
facts_through image stack a (Some insn) done f = facts_after image stack a insn.op done f

-- at the start each register is its own origin, and no stack word has a fact
abbrev pub start_fact : Location → Option Fact
start_fact (Register r) = if nat_lt r 15 then Some (record { origin = AtStart r; constant = pos 0 }) else None
start_fact (StackWord k) = None

-- nor a mark
abbrev pub start_facts : Facts
start_facts = record { fact = start_fact; marked = λ _. false }

-- the facts after a history, by the number of bytes of the stack
abbrev pub facts_of : ImageValue → ℕ → List (Taken Point) → Facts
facts_of image stack [] = start_facts
facts_of image stack (x ∷ h) =
    facts_through image stack x.point.address (instruction_at image x.point.address) x.done (facts_of image stack h)

-- a history of a function
abbrev pub IsHistoryOf : ImageValue → ℕ → List (Taken Point) → Point → Type 0
IsHistoryOf image entry h p = IsHistory (ways_from image entry) (entry_point entry) h p

-- each fact is true of what its location holds, by the registers of the start
abbrev pub AreTrue : List ℕ → Facts → State → Type 0
AreTrue start f s = (location : Location) → IsTrueOf start (f.fact location)
    (value_in (slice_index start 13) s location)

-- The facts hold in a state: they are true, each marked word is kept by the machine, and words are words and bytes
-- bytes.
pub record FactsHold (start : List ℕ) (f : Facts) (s : State) : Type 0 where
  pub values : AreTrue start f s
  pub marks : (k : ℕ) → f.marked k ≡ true → Holds (word_address (slice_index start 13) k) s.kept
  pub orderly : IsOrderly s

-- what start states say of r13: a multiple of 4, with the stack below it and 64 bytes above it
pub record HasStack (start : List ℕ) (stack : ℕ) : Type 0 where
  pub word : slice_index start 13 < 2 ^ 32
  pub aligned : slice_index start 13 % 4 ≡ 0
  pub below : (pos stack -ℤ pos (2 ^ 31)) ≤ℤ signed_of (slice_index start 13)
  pub above : signed_of (slice_index start 13) ≤ℤ pos (2 ^ 31 - 65)
  pub small : stack < 2 ^ 31

-- what holds at a point after a history: control stands there, and the facts of the history hold
pub record HoldsAt (image : ImageValue) (stack : ℕ) (start : List ℕ) (h : List (Taken Point)) (p : Point)
    (s : State) : Type 0 where
  pub at_point : s.cpu.pc ≡ p.address
  pub facts : FactsHold start (facts_of image stack h) s
  pub constants : HasConstants image s.memory

-- a return brings its own return address: that of the last open call, or what r14 held at the start
abbrev pub wanted_fact : Option ℕ → Fact
wanted_fact None = record { origin = AtStart 14; constant = pos 0 }
wanted_fact (Some r) = record { origin = Zero; constant = signed_of r }

-- the fact of what an instruction that returns brings to pc, after a history
abbrev pub returned_fact : Facts → Op → Option Fact
returned_fact f o = fact_from f (return_source (offset_of f) o)

-- No point that control reaches has a fault, and after each history of a return the facts say that it brings its own
-- return address.
pub record IsFollowed (image : ImageValue) (entry stack : ℕ) : Type 0 where
  pub no_fault : (p : Point) → IsCollected image entry p → fault_at image entry p ≡ None
  pub returns : (h : List (Taken Point)) (p : Point) (insn : Insn) → IsHistoryOf image entry h p
      → instruction_at image p.address ≡ Some insn → is_return_form insn ≡ true
      → returned_fact (facts_of image stack h) insn.op ≡ Some (wanted_fact (last_return p.returns))
