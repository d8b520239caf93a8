-- The points of a function: where control stands, and which calls are open there.
use Rattle.std.specs.Prelude.{ℕ, ℤ, ◌+◌, ◌-◌, ◌*◌, ◌%◌, ◌^◌, ◌==◌, ◌&&◌, ◌||◌, Bool, false, if◌then◌else◌}
use Rattle.std.specs.Prelude.{Option, Some, None, List, [], ◌∷◌}
use Rattle.std.specs.List.{list_any}
use Rattle.std.specs.Int.{cast_unsigned, w32}
use Rattle.elf32_image.specs.Parts.{ImageValue}
use Rattle.arm_isa.specs.declared.instruction.Insn.{Insn}
use Rattle.arm_isa.specs.declared.instruction.Op.{Op}
use Rattle.arm_isa.specs.declared.instruction.Op.TheVariants as op
use Rattle.control_flow.specs.Instructions.{instruction_at}

-- an address, and the return addresses of the calls that are open there, the oldest first
pub record Point : Type 0 where
  pub returns : List ℕ
  pub address : ℕ

-- where a function starts
abbrev pub entry_point : ℕ → Point
entry_point entry = record { returns = []; address = entry }

abbrev pub next_address : ℕ → ℕ
next_address a = (a + 4) % 2 ^ 32

-- where a branch at an address goes to: address + 8 + 4 × words (A4.1.5, B, BL)
abbrev pub target : ℕ → ℤ → ℕ
target a words = (a + 8 + 4 * cast_unsigned w32 words) % 2 ^ 32

abbrev pub last_return : List ℕ → Option ℕ
last_return [] = None
last_return (r ∷ []) = Some r
last_return (r ∷ s ∷ returns) = last_return (s ∷ returns)

abbrev pub without_last : List ℕ → List ℕ
without_last [] = []
without_last (r ∷ []) = []
without_last (r ∷ s ∷ returns) = r ∷ without_last (s ∷ returns)

-- a branch: whether it links, and how many words it goes
pub record Jump : Type 0 where
  pub link : Bool
  pub words : ℤ

abbrev pub jump_of : Op → Option Jump
jump_of (op.Branch this) = Some (record { link = this.link; words = this.words })
jump_of _ = None

abbrev pub call_target : ℕ → Option Jump → Option ℕ
call_target a None = None
call_target a (Some jump) = if jump.link then Some (target a jump.words) else None

-- where a branch with link at an address goes to
abbrev pub called_by : ℕ → Option Insn → Option ℕ
called_by a None = None
called_by a (Some insn) = call_target a (jump_of insn.op)

-- where the call with this return address goes to
abbrev pub callee : ImageValue → ℕ → Option ℕ
callee image r = let a = (r + (2 ^ 32 - 4)) % 2 ^ 32 in called_by a (instruction_at image a)

abbrev pub is_address : Option ℕ → ℕ → Bool
is_address None a = false
is_address (Some b) a = a == b

-- the address is the entry's, or one to which a call that is open goes
abbrev pub is_open : (ℕ → ℕ → Bool) → ℕ → List ℕ → ℕ → Bool
is_open goes entry returns a = (a == entry) || list_any (λ r. goes r a) returns

-- a call of the function itself, or of one that is open
abbrev pub is_recursion : ImageValue → ℕ → List ℕ → ℕ → Bool
is_recursion image entry returns a = is_open (λ r b. is_address (callee image r) b) entry returns a

abbrev pub is_recursive_call : ImageValue → ℕ → Point → Jump → Bool
is_recursive_call image entry p jump = jump.link && is_recursion image entry p.returns (target p.address jump.words)
