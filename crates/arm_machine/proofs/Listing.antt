-- The registers of a list, one after another.
use Rattle.std.proofs.Common.{◌≡◌, ℕ, suc, ◌+◌, ◌-◌, ◌%◌, ◌<◌, ◌&&◌, Bool, true, false, cond, Option, Some, None, Result, Ok, Err, List, [], ◌∷◌, ◌≤◌, refl, sym, ap, ◌∙◌, subst, arith}
use Rattle.elf32_image.specs.Parts.{ImageValue}
use Rattle.arm_isa.specs.Writes.{is_listed}
use Rattle.arm_machine.specs.declared.access.Size.TheVariants as size
use Rattle.arm_cpu.specs.declared.cpu.Cpu.{Cpu}
use Rattle.arm_cpu.specs.declared.stops.Stop.{Stop}
use Rattle.arm_cpu.specs.Registers.{and_then, read}
use Rattle.arm_machine.specs.States.{Bytes, State}
use Rattle.arm_machine.specs.Access.{is_saved, loaded, store_stop, stored}
use Rattle.arm_machine.specs.Blocks.{AreAligned, block_stop, first_of, listed_from, load_block, next_word, placed, registers_of, stored_block}

-- those from a register on: the register itself, if it is listed, and those after it
unfoldable pub rest_of : ℕ → ℕ → List ℕ
rest_of list r = listed_from list r (16 - r)

pub whole_list : (list : ℕ) → rest_of list 0 ≡ registers_of list
unfolding registers_of rest_of
whole_list list = refl

pub no_more : (list r : ℕ) → 16 ≤ r → rest_of list r ≡ []
unfolding rest_of
no_more list r over = let none : 16 - r ≡ 0 = omega arith in ap (listed_from list r) none

next_of : (list r : ℕ) → r < 16 → rest_of list r ≡ cond (is_listed list r) (r ∷ rest_of list (r + 1)) (rest_of list (r + 1))
unfolding rest_of
next_of list r small = let one : 16 - r ≡ suc (16 - (r + 1)) = omega arith in ap (listed_from list r) one

pub listed : (list r : ℕ) → r < 16 → is_listed list r ≡ true → rest_of list r ≡ r ∷ rest_of list (r + 1)
listed list r small on = next_of list r small ∙ ap (λ (b : Bool). cond b (r ∷ rest_of list (r + 1)) (rest_of list (r + 1))) on

pub unlisted : (list r : ℕ) → r < 16 → is_listed list r ≡ false → rest_of list r ≡ rest_of list (r + 1)
unlisted list r small off = next_of list r small ∙ ap (λ (b : Bool). cond b (r ∷ rest_of list (r + 1)) (rest_of list (r + 1))) off

-- what is left of a load of several registers
pub load_goes_on : (m : Bytes) (a list r v : ℕ) (cpu : Cpu) (all : Result Cpu Stop) → r < 16 → is_listed list r ≡ true → loaded m size.Word a ≡ Ok v → load_block m a (rest_of list r) cpu ≡ all → load_block m (next_word a) (rest_of list (r + 1)) (placed cpu r v) ≡ all
load_goes_on m a list r v cpu all small on given is =
    sym (ap (λ (rs : List ℕ). load_block m a rs cpu) (listed list r small on)
    ∙ ap (and_then (λ value. load_block m (next_word a) (rest_of list (r + 1)) (placed cpu r value))) given)
    ∙ is

pub load_stops : (m : Bytes) (a list r : ℕ) (cpu : Cpu) (stop : Stop) (all : Result Cpu Stop) → r < 16 → is_listed list r ≡ true → loaded m size.Word a ≡ Err stop → load_block m a (rest_of list r) cpu ≡ all → all ≡ Err stop
load_stops m a list r cpu stop all small on given is =
    sym is
    ∙ ap (λ (rs : List ℕ). load_block m a rs cpu) (listed list r small on)
    ∙ ap (and_then (λ value. load_block m (next_word a) (rest_of list (r + 1)) (placed cpu r value))) given

pub load_skips : (m : Bytes) (a list r : ℕ) (cpu : Cpu) (all : Result Cpu Stop) → r < 16 → is_listed list r ≡ false → load_block m a (rest_of list r) cpu ≡ all → load_block m a (rest_of list (r + 1)) cpu ≡ all
load_skips m a list r cpu all small off is = ap (λ (rs : List ℕ). load_block m a rs cpu) (sym (unlisted list r small off)) ∙ is

-- what is left of the tests of a store of several registers
pub stop_goes_on : (image : ImageValue) (m : Bytes) (kept : List ℕ) (base a list r : ℕ) (all : Option Stop) → r < 16 → is_listed list r ≡ true → store_stop image m kept base size.Word a ≡ None → block_stop image m kept base a (rest_of list r) ≡ all → block_stop image m kept base (next_word a) (rest_of list (r + 1)) ≡ all
stop_goes_on image m kept base a list r all small on none is =
    sym (ap (block_stop image m kept base a) (listed list r small on)
    ∙ ap (λ (o : Option Stop). first_of o (block_stop image m kept base (next_word a) (rest_of list (r + 1)))) none)
    ∙ is

pub stop_found : (image : ImageValue) (m : Bytes) (kept : List ℕ) (base a list r : ℕ) (stop : Stop) (all : Option Stop) → r < 16 → is_listed list r ≡ true → store_stop image m kept base size.Word a ≡ Some stop → block_stop image m kept base a (rest_of list r) ≡ all → all ≡ Some stop
stop_found image m kept base a list r stop all small on found is =
    sym is
    ∙ ap (block_stop image m kept base a) (listed list r small on)
    ∙ ap (λ (o : Option Stop). first_of o (block_stop image m kept base (next_word a) (rest_of list (r + 1)))) found

pub stop_skips : (image : ImageValue) (m : Bytes) (kept : List ℕ) (base a list r : ℕ) (all : Option Stop) → r < 16 → is_listed list r ≡ false → block_stop image m kept base a (rest_of list r) ≡ all → block_stop image m kept base a (rest_of list (r + 1)) ≡ all
stop_skips image m kept base a list r all small off is = ap (block_stop image m kept base a) (sym (unlisted list r small off)) ∙ is

-- words that follow aligned ones
pub aligned_more : (a list r : ℕ) → r < 16 → is_listed list r ≡ true → a % 4 ≡ 0 → AreAligned (next_word a) (rest_of list (r + 1)) → AreAligned a (rest_of list r)
aligned_more a list r small on here rest = subst (AreAligned a) (sym (listed list r small on)) (here, rest)

pub aligned_skips : (a list r : ℕ) → r < 16 → is_listed list r ≡ false → AreAligned a (rest_of list (r + 1)) → AreAligned a (rest_of list r)
aligned_skips a list r small off rest = subst (AreAligned a) (sym (unlisted list r small off)) rest

pub aligned_parts : (a list r : ℕ) → r < 16 → is_listed list r ≡ true → AreAligned a (rest_of list r) → (a % 4 ≡ 0) × AreAligned (next_word a) (rest_of list (r + 1))
aligned_parts a list r small on all = subst (AreAligned a) (listed list r small on) all

pub aligned_later : (a list r : ℕ) → r < 16 → is_listed list r ≡ false → AreAligned a (rest_of list r) → AreAligned a (rest_of list (r + 1))
aligned_later a list r small off all = subst (AreAligned a) (unlisted list r small off) all

-- what is left of a store of several registers
pub stored_goes_on : (cpu : Cpu) (s next : State) (base a list r : ℕ) (saves : Bool) (all : State) → r < 16 → is_listed list r ≡ true → next ≡ stored s base size.Word a (read cpu r) (saves && is_saved r) → stored_block cpu s base a saves (rest_of list r) ≡ all → stored_block cpu next base (next_word a) saves (rest_of list (r + 1)) ≡ all
stored_goes_on cpu s next base a list r saves all small on put is =
    ap (λ (t : State). stored_block cpu t base (next_word a) saves (rest_of list (r + 1))) put
    ∙ sym (ap (stored_block cpu s base a saves) (listed list r small on))
    ∙ is

pub stored_skips : (cpu : Cpu) (s : State) (base a list r : ℕ) (saves : Bool) (all : State) → r < 16 → is_listed list r ≡ false → stored_block cpu s base a saves (rest_of list r) ≡ all → stored_block cpu s base a saves (rest_of list (r + 1)) ≡ all
stored_skips cpu s base a list r saves all small off is = ap (stored_block cpu s base a saves) (sym (unlisted list r small off)) ∙ is
