-- No store changes a byte that the image holds where no program can write it.
use Rattle.std.proofs.Common.{◌≡◌, ◌≢◌, ℕ, ◌+◌, ◌%◌, ◌&&◌, ◌||◌, not, Bool, true, false, cond, Option, Some, None, Result, Ok, Err, List}
use Rattle.std.proofs.Common.{[], ◌∷◌, refl, sym, ap}
use Rattle.std.proofs.Common.{◌∙◌, subst, arith}
use Rattle.std.specs.Prelude.{is_some}
use Rattle.std.proofs.lemmas.Bool.{false≢true}
use Rattle.std.specs.FinMap.{get}
use Rattle.elf32_image.specs.Parts.{ImageValue}
use Rattle.elf32_image.specs.Bytes.{constant_byte_at}
use Rattle.arm_isa.specs.declared.instruction.Op.{Op}
use Rattle.arm_isa.specs.declared.instruction.Op.TheVariants as op
use Rattle.arm_isa.specs.declared.instruction.BlockTransfer.{BlockTransfer}
use Rattle.arm_cpu.specs.declared.cpu.Cpu.{Cpu}
use Rattle.arm_cpu.specs.declared.stops.Stop.{Stop}
use Rattle.arm_cpu.specs.Registers.{read}
use Rattle.arm_machine.specs.declared.access.Size.{Size}
use Rattle.arm_machine.specs.declared.access.Size.TheVariants as size
use Rattle.arm_machine.specs.declared.transfers.Transfer.{Transfer}
use Rattle.arm_machine.specs.States.{Bytes, State}
use Rattle.arm_machine.specs.Access.{bytes_of, is_read_only, is_saved, store_stop, stored, with_bytes}
use Rattle.arm_machine.specs.Blocks.{block_stop, is_push_block, loads_many, lowest, next_word, registers_of, stored_block, stores_many}
use Rattle.arm_machine.specs.Blocks.{transfers_many}
use Rattle.arm_machine.specs.Transfers.{accessed, half_transfer, loads, stores, transfers, with_cpu, word_transfer}
use Rattle.arm_machine.specs.Effects.{effect}
use Rattle.arm_machine.specs.Laws.{IfDone, Stays, is_store}
use Rattle.arm_machine.specs.Orderly.{HasConstants}
use Rattle.arm_machine.proofs.PcLemmas.{stopped}
use Rattle.arm_machine.proofs.StayLemmas.{if_weaker, neither, stays}
use Rattle.arm_machine.proofs.StoreLemmas.{allowed, both_none, same_byte}

module _ (image : ImageValue) where
  abbrev fixed : ℕ → Bool
  fixed a = is_some (constant_byte_at image a)

  apart : (q x b : ℕ) → constant_byte_at image q ≡ Some b → fixed x ≡ false → q ≢ x
  apart q x b is off same = false≢true (sym off ∙ ap fixed (sym same) ∙ ap (λ (o : Option ℕ). is_some o) is)

  untouched : (m : Bytes) (width : Size) (a v q b : ℕ) → is_read_only image width a ≡ false → constant_byte_at image q ≡ Some b → get
      (with_bytes m a (bytes_of width v)) q ≡ get m q
  untouched m size.Byte a v q b off is = same_byte m a (v % 256) q (apart q a b is (neither (fixed a) false off).0)
  untouched m size.Half a v q b off is =
      let one = neither (fixed a) (fixed (a + 1) || false) off in
      let two = neither (fixed (a + 1)) false one.1 in
      same_byte _ (a + 1) _ q (apart q (a + 1) b is two.0) ∙ same_byte m a _ q (apart q a b is one.0)
  untouched m size.Word a v q b off is =
      let one = neither (fixed a) (fixed (a + 1) || (fixed (a + 2) || (fixed (a + 3) || false))) off in
      let two = neither (fixed (a + 1)) (fixed (a + 2) || (fixed (a + 3) || false)) one.1 in
      let three = neither (fixed (a + 2)) (fixed (a + 3) || false) two.1 in
      let four = neither (fixed (a + 3)) false three.1 in
      same_byte _ (a + 1 + 1 + 1) _ q (λ e. apart q (a + 3) b is four.0 (omega (arith, e)))
      ∙ same_byte _ (a + 1 + 1) _ q (λ e. apart q (a + 2) b is three.0 (omega (arith, e)))
      ∙ same_byte _ (a + 1) _ q (apart q (a + 1) b is two.0)
      ∙ same_byte m a _ q (apart q a b is one.0)

  stored_constants : (m : Bytes) (kept : List ℕ) (base : ℕ) (width : Size) (a v : ℕ) (old : Bytes) → store_stop image m kept base width a
      ≡ None → HasConstants image old → HasConstants image (with_bytes old a (bytes_of width v))
  stored_constants m kept base width a v old none has q b is = untouched old width a v q b
      (allowed image m kept base width a none).writable is ∙ has q b is

  block_constants : (m : Bytes) (kept : List ℕ) (base : ℕ) (cpu : Cpu) (saves : Bool) (rs : List ℕ) (t : State) (a : ℕ)
      → block_stop image m kept base a rs ≡ None → HasConstants image t.memory → HasConstants image
      (stored_block cpu t base a saves rs).memory
  block_constants m kept base cpu saves [] t a none has = has
  block_constants m kept base cpu saves (r ∷ rs) t a none has =
      let parts = both_none (store_stop image m kept base size.Word a) (block_stop image m kept base (next_word a) rs) none in
      block_constants m kept base cpu saves rs (stored t base size.Word a (read cpu r) (saves && is_saved r)) (next_word a) parts.1
      (stored_constants m kept base size.Word a (read cpu r) t.memory parts.0 has)

  calm : (s : State) (o : Op) → is_store o ≡ false → HasConstants image s.memory → IfDone (effect image s o)
      (λ next. HasConstants image next.memory)
  calm s o quiet has =
      if_weaker (effect image s o) (Stays o s) _ (λ next st. subst (HasConstants image) (sym (st.memory quiet)) has) (stays image s o)

  -- only registers change
  by_cpu : (s : State) (outcome : Result Cpu Stop) → HasConstants image s.memory → IfDone (with_cpu s outcome)
      (λ next. HasConstants image next.memory)
  by_cpu s (Ok cpu) has = has
  by_cpu s (Err why) has = tt

  one_constants : (s : State) (this : Transfer) → HasConstants image s.memory → IfDone (transfers image s this)
      (λ next. HasConstants image next.memory)
  one_constants s this has = by_load this.load
    where
      by_load : (load : Bool)
          → IfDone (cond load (with_cpu s (loads s.cpu s.memory this)) (stores image s this)) (λ next. HasConstants image next.memory)
      by_load true = by_cpu s (loads s.cpu s.memory this) has
      by_load false =
          stopped (store_stop image s.memory s.kept this.rn this.size (accessed s.cpu this)) _ (λ next. HasConstants image next.memory)
          (λ none. stored_constants s.memory s.kept this.rn this.size (accessed s.cpu this) (read s.cpu this.rd) s.memory none has)

  many_constants : (s : State) (this : BlockTransfer) → HasConstants image s.memory
      → IfDone (transfers_many image s this) (λ next. HasConstants image next.memory)
  many_constants s this has = by_load this.load
    where
      by_load : (load : Bool)
          → IfDone (cond load (with_cpu s (loads_many s.cpu s.memory this)) (stores_many image s this))
          (λ next. HasConstants image next.memory)
      by_load true = by_cpu s (loads_many s.cpu s.memory this) has
      by_load false =
          stopped (block_stop image s.memory s.kept this.rn (lowest s.cpu this) (registers_of this.list)) _
          (λ next. HasConstants image next.memory)
          (λ none. block_constants s.memory s.kept this.rn s.cpu (is_push_block this) (registers_of this.list) s
          (lowest s.cpu this) none has)

  pub constants_stay : (s : State) (o : Op) → HasConstants image s.memory → IfDone (effect image s o)
      (λ next. HasConstants image next.memory)
  constants_stay s (op.Compute this) has = calm s (op.Compute this) refl has
  constants_stay s (op.Multiply this) has = calm s (op.Multiply this) refl has
  constants_stay s (op.MultiplyLong this) has = calm s (op.MultiplyLong this) refl has
  constants_stay s (op.Word this) has = one_constants s (word_transfer this) has
  constants_stay s (op.Half this) has = one_constants s (half_transfer this) has
  constants_stay s (op.Block this) has = many_constants s this has
  constants_stay s (op.Branch this) has = calm s (op.Branch this) refl has
  constants_stay s (op.Exchange this) has = calm s (op.Exchange this) refl has
