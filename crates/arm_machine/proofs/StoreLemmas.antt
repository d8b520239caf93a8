-- What a store leaves in the memory, word by word, and why a store that goes through was allowed.
use Rattle.std.proofs.Common.{◌≡◌, ◌≢◌, ℕ, ◌+◌, ◌*◌, ◌-◌, ◌/◌, ◌%◌, ◌^◌, ◌<◌, ◌≤◌, ◌⊎◌, ◌&&◌, not, Bool, true, false, cond, Option, Some}
use Rattle.std.proofs.Common.{None, Result, Ok, Err}
use Rattle.std.proofs.Common.{List, [], ◌∷◌, length, eqb, inl, inr, refl, sym, ap, ◌∙◌, subst, arith}
use Rattle.std.specs.Prelude.{is_some}
use Rattle.std.specs.List.{list_any}
use Rattle.std.proofs.lemmas.Bool.{eqb-true, false≢true, eq-eqb, ne_eqb}
use Rattle.elf32_image.specs.Parts.{ImageValue}
use Rattle.arm_isa.specs.declared.instruction.BlockTransfer.{BlockTransfer}
use Rattle.arm_isa.specs.declared.instruction.Op.{Op}
use Rattle.arm_isa.specs.declared.instruction.Op.TheVariants as op
use Rattle.arm_cpu.specs.declared.cpu.Cpu.{Cpu}
use Rattle.arm_cpu.specs.declared.stops.Stop.{Stop}
use Rattle.arm_cpu.specs.declared.stops.Stop.TheVariants as stop
use Rattle.arm_cpu.specs.Registers.{advanced, jumped, read}
use Rattle.arm_cpu.specs.Sums.{computes}
use Rattle.arm_machine.specs.declared.access.Size.{Size}
use Rattle.std.proofs.lemmas.Bool.Decides.{nat_tests}
use Rattle.std.specs.Cmp.{nat_cmp_total, unsigned_tied}
use Rattle.std.specs.FinMap.{get, insert, get-insert}
use Rattle.elf32_image.specs.Bytes.{word_of}
use Rattle.arm_machine.specs.declared.access.Size.TheVariants as size
use Rattle.arm_machine.specs.States.{Bytes, State}
use Rattle.arm_machine.specs.Access.{bytes_of, is_aligned, is_kept, is_read_only, is_saved, number_at, store_stop, stored, with_bytes}
use Rattle.arm_machine.specs.Access.{word_holding}
use Rattle.arm_machine.specs.declared.transfers.Transfer.{Transfer}
use Rattle.arm_machine.specs.Transfers.{accessed, half_transfer, is_push, loads, rebased, stores, transfers, unless_stopped, with_cpu}
use Rattle.arm_machine.specs.Transfers.{word_transfer}
use Rattle.arm_machine.specs.Blocks.{block_stop, first_of, is_push_block, loads_many, lowest, next_word, rebased_block, registers_of}
use Rattle.arm_machine.specs.Blocks.{stored_block, stores_many, transfers_many}
use Rattle.arm_machine.specs.Effects.{effect}
use Rattle.arm_machine.specs.Laws.{Holds, IfDone, IsAllowed, store_base}

-- one byte that is written
pub byte_after : (m : Bytes) (a b q : ℕ) → get (insert m a b) q ≡ cond (eqb q a) (Some b) (get m q)
byte_after m a b q = get-insert nat_cmp_total m a b q ∙ ap (λ (t : Bool). cond t (Some b) (get m q)) (unsigned_tied q a)

pub same_byte : (m : Bytes) (a b q : ℕ) → q ≢ a → get (insert m a b) q ≡ get m q
same_byte m a b q apart = byte_after m a b q ∙ ap (λ (t : Bool). cond t (Some b) (get m q)) (ne_eqb q a apart)

here_byte : (m : Bytes) (a b q : ℕ) → q ≡ a → get (insert m a b) q ≡ Some b
here_byte m a b q here = byte_after m a b q ∙ ap (λ (t : Bool). cond t (Some b) (get m q)) (eq-eqb q a here)

-- a byte outside of those that are written
pub elsewhere : (bs : List ℕ) (m : Bytes) (a q : ℕ) → (q < a) ⊎ (a + length bs ≤ q) → get (with_bytes m a bs) q ≡ get m q
elsewhere [] m a q outside = refl
elsewhere (b ∷ bs) m a q (inl below) = elsewhere bs (insert m a b) (a + 1) q (inl (omega (arith, below))) ∙ same_byte m a b q
    (λ e. omega (arith, below, e))
elsewhere (b ∷ bs) m a q (inr above) = elsewhere bs (insert m a b) (a + 1) q (inr (omega (arith, above))) ∙ same_byte m a b q
    (λ e. omega (arith, above, e))

of_bytes : (p q r s p' q' r' s' : Option ℕ) → p ≡ p' → q ≡ q' → r ≡ r' → s ≡ s' → word_of p q r s ≡ word_of p' q' r' s'
of_bytes p q r s p' q' r' s' one two three four = cc

-- a word of which no byte is written
pub word_elsewhere : (m : Bytes) (a : ℕ) (bs : List ℕ) (q : ℕ) → (q + 4 ≤ a) ⊎ (a + length bs ≤ q) → number_at
    (with_bytes m a bs) size.Word q ≡ number_at m size.Word q
word_elsewhere m a bs q outside =
    of_bytes _ _ _ _ _ _ _ _ (elsewhere bs m a q (at q (omega arith) (omega arith)))
    (elsewhere bs m a (q + 1) (at (q + 1) (omega arith) (omega arith)))
    (elsewhere bs m a (q + 2) (at (q + 2) (omega arith) (omega arith)))
    (elsewhere bs m a (q + 3) (at (q + 3) (omega arith) (omega arith)))
  where
    at : (r : ℕ) → q ≤ r → r < q + 4 → (r < a) ⊎ (a + length bs ≤ r)
    at r low high = elim outside [ inl below ↦ inl (omega (arith, below, high)) | inr above ↦ inr (omega (arith, above, low)) ]

abbrev four : ℕ → ℕ → ℕ → ℕ → List ℕ
four x y z w = x ∷ y ∷ z ∷ w ∷ []

four_there : (m : Bytes) (a x y z w : ℕ) → number_at (with_bytes m a (four x y z w)) size.Word a ≡ Some
    (x + 256 * y + 65536 * z + 16777216 * w)
four_there m a x y z w =
    of_bytes _ _ _ _ (Some x) (Some y) (Some z) (Some w)
    (elsewhere (y ∷ z ∷ w ∷ []) (insert m a x) (a + 1) a (inl (omega arith)) ∙ here_byte m a x a refl)
    (elsewhere (z ∷ w ∷ []) (insert (insert m a x) (a + 1) y) (a + 1 + 1) (a + 1) (inl (omega arith)) ∙ here_byte _ (a + 1) y (a + 1) refl)
    (elsewhere (w ∷ []) (insert (insert (insert m a x) (a + 1) y) (a + 1 + 1) z) (a + 1 + 1 + 1) (a + 2) (inl (omega arith)) ∙ here_byte _
    (a + 1 + 1) z (a + 2) (omega arith))
    (here_byte _ (a + 1 + 1 + 1) w (a + 3) (omega arith))

four_bytes : (v : ℕ) → v < 2 ^ 32 → v % 256 + 256 * (v / 256 % 256) + 65536 * (v / 65536 % 256) + 16777216 * (v / 16777216 % 256) ≡ v
four_bytes v small = omega arith

-- the word that is stored
pub word_there : (m : Bytes) (a v : ℕ) → v < 2 ^ 32 → number_at (with_bytes m a (bytes_of size.Word v)) size.Word a ≡ Some v
word_there m a v small = four_there m a _ _ _ _ ∙ ap (λ (n : ℕ). Some n) (four_bytes v small)

-- another aligned word
pub word_beside : (m : Bytes) (a v q : ℕ) → a % 4 ≡ 0 → q % 4 ≡ 0 → q ≢ a → number_at (with_bytes m a (bytes_of size.Word v)) size.Word q
    ≡ number_at m size.Word q
word_beside m a v q aligned aligned_too apart = word_elsewhere m a (bytes_of size.Word v) q (sides q a apart aligned aligned_too)
  where
    sides : (q a : ℕ) → q ≢ a → a % 4 ≡ 0 → q % 4 ≡ 0 → (q + 4 ≤ a) ⊎ (a + 4 ≤ q)
    sides q a apart x y = grind (arith, nat_tests, apart)

-- why a store doesn't stop
passed : (b : Bool) (why : Stop) (rest : Option Stop) → cond b (Some why) rest ≡ None → (b ≡ false) × (rest ≡ None)
passed true why rest none = absurd (some_none why none)
  where
    some_none : (why : Stop) → ◌≡◌ {A = Option Stop} (Some why) None → ⊥
    some_none why h = cc
passed false why rest none = (refl, none)

pub not_false : (b : Bool) → not b ≡ false → b ≡ true
not_false true h = refl
not_false false h = absurd (false≢true (sym h))

pub allowed : (image : ImageValue) (m : Bytes) (kept : List ℕ) (base : ℕ) (width : Size) (a : ℕ) → store_stop image m kept base width a
    ≡ None → IsAllowed image kept base width a
allowed image m kept base width a none =
    let one = passed (not (is_aligned width a)) stop.Unaligned _ none in
    let two = passed (not (is_some (number_at m width a))) stop.Unmapped _ one.1 in
    let three = passed (is_read_only image width a) stop.ReadOnly _ two.1 in
    let four = passed (not (eqb base 13) && is_kept kept a) stop.Trespass None three.1 in
    record { aligned = not_false (is_aligned width a) one.0; writable = three.0; free = four.0 }

-- a store to another word
apart_byte : (a q : ℕ) → q % 4 ≡ 0 → q ≢ a - a % 4 → (q + 4 ≤ a) ⊎ (a + 1 ≤ q)
apart_byte a q x other = grind (arith, nat_tests, other)

apart_half : (a q : ℕ) → a % 2 ≡ 0 → q % 4 ≡ 0 → q ≢ a - a % 4 → (q + 4 ≤ a) ⊎ (a + 2 ≤ q)
apart_half a q y x other = grind (arith, nat_tests, other)

apart_word : (a q : ℕ) → a % 4 ≡ 0 → q % 4 ≡ 0 → q ≢ a - a % 4 → (q + 4 ≤ a) ⊎ (a + 4 ≤ q)
apart_word a q y x other = grind (arith, nat_tests, other)

pub other_word : (m : Bytes) (width : Size) (a v q : ℕ) → is_aligned width a ≡ true → q % 4 ≡ 0 → q ≢ word_holding a → number_at
    (with_bytes m a (bytes_of width v)) size.Word q ≡ number_at m size.Word q
other_word m size.Byte a v q aligned x other = word_elsewhere m a (bytes_of size.Byte v) q (apart_byte a q x other)
other_word m size.Half a v q aligned x other = word_elsewhere m a (bytes_of size.Half v) q
    (apart_half a q (eqb-true (a % 2) 0 aligned) x other)
other_word m size.Word a v q aligned x other = word_elsewhere m a (bytes_of size.Word v) q
    (apart_word a q (eqb-true (a % 4) 0 aligned) x other)

-- a kept word isn't that of a store with another base
kept_apart : (kept : List ℕ) (a q : ℕ) → is_kept kept a ≡ false → Holds q kept → q ≢ word_holding a
kept_apart kept a q free holds e = false≢true (sym free ∙ ap (λ (k : ℕ). list_any (λ word. eqb word k) kept) (sym e) ∙ holds)

free_by : (base : ℕ) (b : Bool) → eqb base 13 ≡ false → not (eqb base 13) && b ≡ false → b ≡ false
free_by base b other free = subst (λ (t : Bool). not t && b ≡ false) other free

-- a kept word stays, whatever other base stores
pub kept_stays : (image : ImageValue) (s : State) (width : Size) (base a v : ℕ) (saves : Bool) (q : ℕ) → eqb base 13 ≡ false
    → store_stop image s.memory s.kept base width a ≡ None → q % 4 ≡ 0 → Holds q s.kept → number_at
    (stored s base width a v saves).memory size.Word q ≡ number_at s.memory size.Word q
kept_stays image s width base a v saves q other none x holds =
    let may = allowed image s.memory s.kept base width a none in
    other_word s.memory width a v q may.aligned x (kept_apart s.kept a q (free_by base _ other may.free) holds)

pub both_none : (o p : Option Stop) → first_of o p ≡ None → (o ≡ None) × (p ≡ None)
both_none None p h = (refl, h)
both_none (Some why) p h = absurd (some_none why h)
  where
    some_none : (why : Stop) → ◌≡◌ {A = Option Stop} (Some why) None → ⊥
    some_none why h = cc

-- STM by another base
pub block_kept : (image : ImageValue) (cpu : Cpu) (m : Bytes) (kept : List ℕ) (base q : ℕ) (saves : Bool) → eqb base 13 ≡ false → q % 4 ≡ 0
    → Holds q kept → (rs : List ℕ) (t : State) (a : ℕ) → block_stop image m kept base a rs ≡ None → number_at
    (stored_block cpu t base a saves rs).memory size.Word q ≡ number_at t.memory size.Word q
block_kept image cpu m kept base q saves other x holds [] t a none = refl
block_kept image cpu m kept base q saves other x holds (r ∷ rs) t a none =
    let parts = both_none (store_stop image m kept base size.Word a) (block_stop image m kept base (next_word a) rs) none in
    let may = allowed image m kept base size.Word a parts.0 in
    block_kept image cpu m kept base q saves other x holds rs (stored t base size.Word a (read cpu r) (saves && is_saved r))
    (next_word a) parts.1
    ∙ other_word t.memory size.Word a (read cpu r) q may.aligned x (kept_apart kept a q (free_by base _ other may.free) holds)

-- what a done instruction does whole
unless_kept : (s next : State) (o : Option Stop) (q : ℕ) → (o ≡ None → number_at next.memory size.Word q ≡ number_at s.memory size.Word q)
    → IfDone (unless_stopped o next) (λ t. number_at t.memory size.Word q ≡ number_at s.memory size.Word q)
unless_kept s next None q h = h refl
unless_kept s next (Some why) q h = tt

with_cpu_kept : (s : State) (outcome : Result Cpu Stop) (q : ℕ)
    → IfDone (with_cpu s outcome) (λ t. number_at t.memory size.Word q ≡ number_at s.memory size.Word q)
with_cpu_kept s (Ok cpu) q = refl
with_cpu_kept s (Err why) q = tt

other_base : (load : Bool) (rn : ℕ) → load ≡ false → cond load None (Some rn) ≢ Some 13 → eqb rn 13 ≡ false
other_base true rn off other = absurd (false≢true (sym off))
other_base false rn off other = ne_eqb rn 13 (λ e. other (ap (λ (n : ℕ). Some n) e))

transfer_kept : (image : ImageValue) (s : State) (this : Transfer) (q : ℕ) → cond this.load None (Some this.rn) ≢ Some 13 → q % 4 ≡ 0
    → Holds q s.kept → IfDone (transfers image s this) (λ t. number_at t.memory size.Word q ≡ number_at s.memory size.Word q)
transfer_kept image s this q other x holds = by_load this.load refl
  where
    by_load : (load : Bool) → this.load ≡ load → IfDone (cond load (with_cpu s (loads s.cpu s.memory this)) (stores image s this))
        (λ t. number_at t.memory size.Word q ≡ number_at s.memory size.Word q)
    by_load true is = with_cpu_kept s (loads s.cpu s.memory this) q
    by_load false is =
        let a = accessed s.cpu this in
        unless_kept s (record (stored s this.rn this.size a (read s.cpu this.rd) (is_push this)) { cpu = advanced (rebased s.cpu this) })
        (store_stop image s.memory s.kept this.rn this.size a) q (λ none.
        kept_stays image s this.size this.rn a (read s.cpu this.rd) (is_push this) q (other_base this.load this.rn is other) none x holds)

many_kept : (image : ImageValue) (s : State) (this : BlockTransfer) (q : ℕ) → cond this.load None (Some this.rn) ≢ Some 13 → q % 4 ≡ 0
    → Holds q s.kept → IfDone (transfers_many image s this) (λ t. number_at t.memory size.Word q ≡ number_at s.memory size.Word q)
many_kept image s this q other x holds = by_load this.load refl
  where
    by_load : (load : Bool) → this.load ≡ load → IfDone (cond load (with_cpu s (loads_many s.cpu s.memory this)) (stores_many image s this))
        (λ t. number_at t.memory size.Word q ≡ number_at s.memory size.Word q)
    by_load true is = with_cpu_kept s (loads_many s.cpu s.memory this) q
    by_load false is =
        let a = lowest s.cpu this in
        unless_kept s
        (record (stored_block s.cpu s this.rn a (is_push_block this) (registers_of this.list)) { cpu = advanced (rebased_block s.cpu this) })
        (block_stop image s.memory s.kept this.rn a (registers_of this.list)) q (λ none.
        block_kept image s.cpu s.memory s.kept this.rn q (is_push_block this) (other_base this.load this.rn is other) x holds
        (registers_of this.list) s a none)

pub effect_kept : (image : ImageValue) (s : State) (o : Op) (q : ℕ) → store_base o ≢ Some 13 → q % 4 ≡ 0 → Holds q s.kept
    → IfDone (effect image s o) (λ t. number_at t.memory size.Word q ≡ number_at s.memory size.Word q)
effect_kept image s (op.Compute this) q other x holds = with_cpu_kept s (computes s.cpu this) q
effect_kept image s (op.Multiply this) q other x holds = refl
effect_kept image s (op.MultiplyLong this) q other x holds = refl
effect_kept image s (op.Word this) q other x holds = transfer_kept image s (word_transfer this) q other x holds
effect_kept image s (op.Half this) q other x holds = transfer_kept image s (half_transfer this) q other x holds
effect_kept image s (op.Block this) q other x holds = many_kept image s this q other x holds
effect_kept image s (op.Branch this) q other x holds = refl
effect_kept image s (op.Exchange this) q other x holds = with_cpu_kept s (jumped s.cpu (read s.cpu this.rm)) q
