-- A done instruction keeps words words and bytes bytes: loads, stores and all forms together.
use Rattle.std.proofs.Common.{◌≡◌, ℕ, ◌+◌, ◌*◌, ◌%◌, ◌^◌, ◌<◌, ◌&&◌, not, Bool, true, false, cond, Option, Some, None, Result, Ok, Err}
use Rattle.std.proofs.Common.{List, [], ◌∷◌, eqb, leb, refl, sym, ◌∙◌, subst, arith}
use Rattle.std.specs.List.{AllByRecursion}
use Rattle.std.specs.FinMap.{get, insert}
use Rattle.elf32_image.specs.Parts.{ImageValue}
use Rattle.elf32_image.specs.Bytes.{word_of}
use Rattle.arm_isa.specs.declared.instruction.Op.{Op}
use Rattle.arm_isa.specs.declared.instruction.Op.TheVariants as op
use Rattle.arm_isa.specs.declared.instruction.BlockTransfer.{BlockTransfer}
use Rattle.arm_isa.specs.declared.instruction.HalfKind.{HalfKind}
use Rattle.arm_isa.specs.declared.instruction.HalfKind.TheVariants as kind
use Rattle.arm_isa.specs.Ranges.{IsOp}
use Rattle.arm_isa.specs.Writes.{is_listed, keeps_address}
use Rattle.arm_cpu.specs.declared.cpu.Cpu.{Cpu}
use Rattle.arm_cpu.specs.declared.stops.Stop.{Stop}
use Rattle.arm_cpu.specs.declared.stops.Stop.TheVariants as stop
use Rattle.arm_cpu.specs.Registers.{advanced, next_pc, read, with_register}
use Rattle.arm_machine.specs.declared.access.Size.{Size}
use Rattle.arm_machine.specs.declared.access.Size.TheVariants as size
use Rattle.arm_machine.specs.declared.transfers.Transfer.{Transfer}
use Rattle.arm_machine.specs.States.{Bytes, State}
use Rattle.arm_machine.specs.Access.{bytes_of, half_of, if_mapped, is_aligned, is_saved, loaded, number_at, store_stop, stored, with_bytes}
use Rattle.arm_machine.specs.Transfers.{accessed, changed_base, extended, half_transfer, loads, rebased, stores, transfers, with_cpu}
use Rattle.arm_machine.specs.Transfers.{word_transfer}
use Rattle.arm_machine.specs.Blocks.{block_base, block_stop, is_push_block, landed, load_block, loads_many, lowest, next_word, placed}
use Rattle.arm_machine.specs.Blocks.{rebased_block}
use Rattle.arm_machine.specs.Blocks.{registers_of, stored_block, stores_many, transfers_many}
use Rattle.arm_machine.specs.Effects.{effect}
use Rattle.arm_machine.specs.Laws.{IfDone}
use Rattle.arm_machine.specs.Orderly.{AreBytes, AreWords, IsOrderly}
use Rattle.control_flow.specs.Points.{target}
use Rattle.arm_machine.proofs.PcLemmas.{stopped}
use Rattle.arm_machine.proofs.StayLemmas.{if_test, if_then, if_weaker}
use Rattle.arm_machine.proofs.StoreLemmas.{byte_after}
use Rattle.arm_machine.proofs.WordLemmas.{advanced_words, below, computes_words, jumped_words, read_small, with_word, written_words}

abbrev IsByte : Option ℕ → Type 0
IsByte o = (b : ℕ) → o ≡ Some b → b < 256

half_small : (o p : Option ℕ) (v : ℕ) → IsByte o → IsByte p → half_of o p ≡ Some v → v < 2 ^ 32
half_small (Some low) (Some high) v x y e = let a = x low refl in let b = y high refl in subst (λ (n : ℕ). n < 2 ^ 32) (of_some e)
    (omega (arith, a, b))
  where
    of_some : ◌≡◌ {A = Option ℕ} (Some (low + 256 * high)) (Some v) → low + 256 * high ≡ v
    of_some h = cc
half_small (Some low) None v x y e = absurd (cc)
half_small None p v x y e = absurd (cc)

some_is : (m v : ℕ) → ◌≡◌ {A = Option ℕ} (Some m) (Some v) → m ≡ v
some_is m v h = cc

none_isnt : (v : ℕ) → ◌≡◌ {A = Option ℕ} None (Some v) → ⊥
none_isnt v h = cc

word_small : (o p q r : Option ℕ) (v : ℕ) → IsByte o → IsByte p → IsByte q → IsByte r → word_of o p q r ≡ Some v → v < 2 ^ 32
word_small (Some a) (Some b) (Some c) (Some d) v x y z w e =
    let i = x a refl in let j = y b refl in let k = z c refl in let l = w d refl in
    subst (λ (n : ℕ). n < 2 ^ 32) (some_is _ v e) (omega (arith, i, j, k, l))
word_small (Some a) (Some b) (Some c) None v x y z w e = absurd (none_isnt v e)
word_small (Some a) (Some b) None r v x y z w e = absurd (none_isnt v e)
word_small (Some a) None q r v x y z w e = absurd (none_isnt v e)
word_small None p q r v x y z w e = absurd (none_isnt v e)

pub number_small : (m : Bytes) (width : Size) (a v : ℕ) → AreBytes m → number_at m width a ≡ Some v → v < 2 ^ 32
number_small m size.Byte a v bytes e = let small = bytes a v e in omega (arith, small)
number_small m size.Half a v bytes e = half_small _ _ v (bytes a) (bytes (a + 1)) e
number_small m size.Word a v bytes e = word_small _ _ _ _ v (bytes a) (bytes (a + 1)) (bytes (a + 2)) (bytes (a + 3)) e

-- a load that is done gives the number that is there
pub loaded_is : (m : Bytes) (size : Size) (a : ℕ) → IfDone (loaded m size a) (λ v. number_at m size a ≡ Some v)
loaded_is m size a = if_test (is_aligned size a) (if_mapped (number_at m size a)) (Err stop.Unaligned) _ (there (number_at m size a)) tt
  where
    there : (o : Option ℕ) → IfDone (if_mapped o) (λ v. o ≡ Some v)
    there None = tt
    there (Some v) = refl

loaded_small : (m : Bytes) (width : Size) (a : ℕ) → AreBytes m → IfDone (loaded m width a) (λ v. v < 2 ^ 32)
loaded_small m width a bytes = if_weaker (loaded m width a) _ _ (λ v there. number_small m width a v bytes there) (loaded_is m width a)

extended_small : (kind : HalfKind) (v : ℕ) → v < 2 ^ 32 → extended kind v < 2 ^ 32
extended_small kind.Half v small = small
extended_small kind.SignedByte v small = below (leb (2 ^ 7) v) _ v (omega arith) small
extended_small kind.SignedHalf v small = below (leb (2 ^ 15) v) _ v (omega arith) small

based_words : (back : Bool) (cpu : Cpu) (rn v : ℕ) → AreWords cpu → v < 2 ^ 32 → AreWords (cond back (with_register cpu rn v) cpu)
based_words true cpu rn v words small = with_word cpu rn v words small
based_words false cpu rn v words small = words

base_small : (cpu : Cpu) (this : Transfer) → changed_base cpu this < 2 ^ 32
base_small cpu this = below this.up _ _ (omega arith) (omega arith)

block_base_small : (cpu : Cpu) (this : BlockTransfer) → block_base cpu this < 2 ^ 32
block_base_small cpu this = below this.up _ _ (omega arith) (omega arith)

rebased_words : (cpu : Cpu) (this : Transfer) → AreWords cpu → AreWords (rebased cpu this)
rebased_words cpu this words = based_words (keeps_address this.index) cpu this.rn (changed_base cpu this) words (base_small cpu this)

loads_words : (cpu : Cpu) (m : Bytes) (this : Transfer) → AreWords cpu → AreBytes m → IfDone (loads cpu m this) AreWords
loads_words cpu m this words bytes =
    if_then _ (loaded m this.size (accessed cpu this)) _ _ (loaded_small m this.size (accessed cpu this) bytes)
    (λ v small. written_words (rebased cpu this) this.rd (extended this.kind v) (rebased_words cpu this words)
    (extended_small this.kind v small))

-- memory
inserted : (m : Bytes) (a b : ℕ) → AreBytes m → b < 256 → AreBytes (insert m a b)
inserted m a b bytes small q v e = at (eqb q a) (sym (byte_after m a b q) ∙ e)
  where
    at : (t : Bool) → cond t (Some b) (get m q) ≡ Some v → v < 256
    at true h = subst (λ (n : ℕ). n < 256) (some_is b v h) small
    at false h = bytes q v h

with_bytes_bytes : (bs : List ℕ) (m : Bytes) (a : ℕ) → AllByRecursion (λ b. b < 256) bs → AreBytes m → AreBytes (with_bytes m a bs)
with_bytes_bytes [] m a all bytes = bytes
with_bytes_bytes (b ∷ bs) m a all bytes = with_bytes_bytes bs (insert m a b) (a + 1) all.1 (inserted m a b bytes all.0)

bytes_of_small : (width : Size) (v : ℕ) → AllByRecursion (λ b. b < 256) (bytes_of width v)
bytes_of_small size.Byte v = (omega arith, tt)
bytes_of_small size.Half v = (omega arith, (omega arith, tt))
bytes_of_small size.Word v = (omega arith, (omega arith, (omega arith, (omega arith, tt))))

block_bytes : (cpu : Cpu) (base : ℕ) (saves : Bool) (rs : List ℕ) (t : State) (a : ℕ) → AreBytes t.memory → AreBytes
    (stored_block cpu t base a saves rs).memory
block_bytes cpu base saves [] t a bytes = bytes
block_bytes cpu base saves (r ∷ rs) t a bytes =
    block_bytes cpu base saves rs (stored t base size.Word a (read cpu r) (saves && is_saved r)) (next_word a)
    (with_bytes_bytes (bytes_of size.Word (read cpu r)) t.memory a (bytes_of_small size.Word (read cpu r)) bytes)

placed_words : (cpu : Cpu) (q v : ℕ) → AreWords cpu → v < 2 ^ 32 → AreWords (placed cpu q v)
placed_words cpu q v words small = at (eqb q 15)
  where
    at : (b : Bool) → AreWords (cond b (record cpu { pc = v }) (with_register cpu q v))
    at true = record { each = words.each; all = words.all; pc = small }
    at false = with_word cpu q v words small

block_words : (m : Bytes) (rs : List ℕ) (a : ℕ) (cpu : Cpu) → AreBytes m → AreWords cpu → IfDone (load_block m a rs cpu) AreWords
block_words m [] a cpu bytes words = words
block_words m (q ∷ rs) a cpu bytes words =
    if_then _ (loaded m size.Word a) _ _ (loaded_small m size.Word a bytes)
    (λ v small. block_words m rs (next_word a) (placed cpu q v) bytes (placed_words cpu q v words small))

loads_many_words : (cpu : Cpu) (m : Bytes) (this : BlockTransfer) → AreWords cpu → AreBytes m → IfDone (loads_many cpu m this) AreWords
loads_many_words cpu m this words bytes =
    let based = advanced (rebased_block cpu this) in
    if_then (landed this.list) (load_block m (lowest cpu this) (registers_of this.list) based) AreWords _
    (block_words m (registers_of this.list) (lowest cpu this) based bytes
    (advanced_words (rebased_block cpu this) (based_words this.write_back cpu this.rn (block_base cpu this) words
    (block_base_small cpu this))))
    (λ next good. if_test (is_listed this.list 15 && not (eqb (next.pc % 4) 0)) (Err stop.Leaves) (Ok next) _ tt good)

by_words : (s : State) (outcome : Result Cpu Stop) → AreBytes s.memory → IfDone outcome AreWords → IfDone (with_cpu s outcome) IsOrderly
by_words s (Ok cpu) bytes words = record { words = words; bytes = bytes }
by_words s (Err why) bytes words = tt

module _ (image : ImageValue) (s : State) (good : IsOrderly s) where
  one_orderly : (this : Transfer) → IfDone (transfers image s this) IsOrderly
  one_orderly this = by_load this.load
    where
      by_load : (load : Bool) → IfDone (cond load (with_cpu s (loads s.cpu s.memory this)) (stores image s this)) IsOrderly
      by_load true = by_words s _ good.bytes (loads_words s.cpu s.memory this good.words good.bytes)
      by_load false =
          stopped (store_stop image s.memory s.kept this.rn this.size (accessed s.cpu this)) _ IsOrderly (λ none. record {
            words = advanced_words (rebased s.cpu this) (rebased_words s.cpu this good.words);
            bytes =
                with_bytes_bytes (bytes_of this.size (read s.cpu this.rd)) s.memory (accessed s.cpu this)
                (bytes_of_small this.size (read s.cpu this.rd)) good.bytes;
          })

  many_orderly : (this : BlockTransfer) → IfDone (transfers_many image s this) IsOrderly
  many_orderly this = by_load this.load
    where
      by_load : (load : Bool) → IfDone (cond load (with_cpu s (loads_many s.cpu s.memory this)) (stores_many image s this)) IsOrderly
      by_load true = by_words s _ good.bytes (loads_many_words s.cpu s.memory this good.words good.bytes)
      by_load false =
          stopped (block_stop image s.memory s.kept this.rn (lowest s.cpu this) (registers_of this.list)) _ IsOrderly (λ none. record {
            words =
                advanced_words (rebased_block s.cpu this)
                (based_words this.write_back s.cpu this.rn (block_base s.cpu this) good.words (block_base_small s.cpu this));
            bytes = block_bytes s.cpu this.rn (is_push_block this) (registers_of this.list) s (lowest s.cpu this) good.bytes;
          })

  -- a done instruction keeps words words and bytes bytes
  pub stays_orderly : (o : Op) → IsOp o → IfDone (effect image s o) IsOrderly
  stays_orderly (op.Compute this) fits = by_words s _ good.bytes (computes_words s.cpu this fits good.words)
  stays_orderly (op.Multiply this) fits = record {
    words =
        advanced_words (with_register _ this.rd _)
        (with_word _ this.rd _ (record { each = good.words.each; all = good.words.all; pc = good.words.pc }) (omega arith));
    bytes = good.bytes;
  }
  stays_orderly (op.MultiplyLong this) fits = record {
    words =
        advanced_words (with_register (with_register _ this.rd_hi _) this.rd_lo _)
        (with_word (with_register _ this.rd_hi _) this.rd_lo _
        (with_word _ this.rd_hi _ (record { each = good.words.each; all = good.words.all; pc = good.words.pc }) (omega arith))
        (omega arith));
    bytes = good.bytes;
  }
  stays_orderly (op.Word this) fits = one_orderly (word_transfer this)
  stays_orderly (op.Half this) fits = one_orderly (half_transfer this)
  stays_orderly (op.Block this) fits = many_orderly this
  stays_orderly (op.Branch this) fits = record { words = linked this.link; bytes = good.bytes }
    where
      linked : (link : Bool) → AreWords (record (cond link (with_register s.cpu 14
          (next_pc s.cpu)) s.cpu) { pc = target s.cpu.pc this.words })
      linked true =
          let w = with_word s.cpu 14 (next_pc s.cpu) good.words (omega arith) in
          record { each = w.each; all = w.all; pc = omega arith }
      linked false = record { each = good.words.each; all = good.words.all; pc = omega arith }
  stays_orderly (op.Exchange this) fits =
      by_words s _ good.bytes (jumped_words s.cpu (read s.cpu this.rm) good.words (read_small s.cpu this.rm good.words))
