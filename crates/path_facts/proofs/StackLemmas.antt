-- The sources of stack words are right; STM by r13 stands in BlockLemmas.
use Rattle.std.proofs.Common.{◌≡◌, ℕ, ℤ, ◌+◌, ◌-◌, ◌*◌, ◌%◌, ◌^◌, ◌<◌, ◌≤◌, not, Bool, true, false, cond, Option, Some, None, IfSome, eqb}
use Rattle.std.proofs.Common.{Result, Ok, Err, slice_index, refl, sym, ap, ◌∙◌, subst, arith}
use Rattle.std.proofs.lemmas.Bool.{eqb-true, eq-eqb, false≢true}
use Rattle.elf32_image.specs.Parts.{ImageValue}
use Rattle.arm_isa.specs.declared.instruction.BlockTransfer.{BlockTransfer}
use Rattle.arm_isa.specs.declared.instruction.Op.{Op}
use Rattle.arm_isa.specs.declared.instruction.Op.TheVariants as op
use Rattle.arm_isa.specs.Guarantees.{IsGuarded}
use Rattle.arm_isa.specs.Ranges.{IsOffset, IsOp}
use Rattle.arm_cpu.specs.declared.cpu.Cpu.{Cpu}
use Rattle.arm_cpu.specs.declared.stops.Stop.{Stop}
use Rattle.arm_cpu.specs.Registers.{read}
use Rattle.arm_machine.specs.declared.access.Size.{Size}
use Rattle.arm_machine.specs.declared.access.Size.TheVariants as size
use Rattle.arm_machine.specs.declared.transfers.Transfer.{Transfer}
use Rattle.arm_machine.specs.States.{Bytes, State}
use Rattle.arm_machine.specs.Access.{bytes_of, is_aligned, number_at, store_stop, with_bytes}
use Rattle.arm_machine.specs.Blocks.{block_stop, is_push_block, loads_many, lowest, registers_of, stored_block, stores_many}
use Rattle.arm_machine.specs.Transfers.{accessed, half_transfer, is_push, loads, stores, with_cpu, word_size, word_transfer}
use Rattle.arm_machine.specs.Effects.{effect}
use Rattle.arm_machine.specs.Laws.{Holds, IfDone, Stays, is_store}
use Rattle.arm_machine.specs.Orderly.{AreWords}
use Rattle.arm_machine.proofs.PcLemmas.{stopped}
use Rattle.arm_machine.proofs.StayLemmas.{if_weaker, stays}
use Rattle.arm_machine.proofs.StoreLemmas.{allowed, block_kept, kept_stays, not_false, other_word, word_there}
use Rattle.arm_machine.proofs.WordLemmas.{read_small}
use Rattle.path_facts.specs.Facts.{Says, Source, value_in, word_address}
use Rattle.path_facts.specs.Facts.Location.{Register, StackWord}
use Rattle.path_facts.specs.Facts.Source.{Nothing, Copy, IfMarked}
use Rattle.path_facts.specs.Sources.{access_offset, block_offset, bytes_store_source, is_at_word, stack_source, stores_source, touches}
use Rattle.path_facts.specs.Sources.{word_store_source}
use Rattle.path_facts.proofs.NumberLemmas.{apart, word_is}
use Rattle.path_facts.proofs.RegisterLemmas.{IsOffsetOfSp, access_is, read_at}

pub not_true : (b : Bool) → not b ≡ true → b ≡ false
not_true true h = absurd (false≢true h)
not_true false h = refl

pub address_aligned : (sp k : ℕ) → sp % 4 ≡ 0 → 4 * k ≤ 2 ^ 32 → (sp + 2 ^ 32 - 4 * k) % 2 ^ 32 % 4 ≡ 0
address_aligned sp k aligned small = omega (arith, aligned, small)

-- only registers change
by_registers : (sp : ℕ) (s : State) (k : ℕ) (outcome : Result Cpu Stop)
    → IfDone (with_cpu s outcome) (λ next. value_in sp next (StackWord k) ≡ value_in sp s (StackWord k))
by_registers sp s k (Ok cpu) = refl
by_registers sp s k (Err why) = tt

module _ (sp : ℕ) (s : State) (marked : ℕ → Bool) (words : AreWords s.cpu) (sp_aligned : sp % 4 ≡ 0) (k : ℕ) (small : 4 * k ≤ 2 ^ 32) where
  abbrev Gives : Source → Option ℕ → Type 0
  Gives source v = Says sp s marked source v

  gives_if : (b : Bool) (x y : Source) (v : Option ℕ) → (b ≡ true → Gives x v) → (b ≡ false → Gives y v) → Gives (cond b x y) v
  gives_if true x y v h g = h refl
  gives_if false x y v h g = g refl

  -- a word that is stored, or another one beside it
  pub word_stored : (m : Bytes) (a q : ℕ) (at : Option ℕ) (old : Source) → a % 4 ≡ 0 → q < 15 → IfSome at (λ e. a ≡ (sp + e) % 2 ^ 32)
      → Gives old (number_at m size.Word (word_address sp k))
      → Gives (word_store_source at q k old) (number_at (with_bytes m a (bytes_of size.Word (read s.cpu q))) size.Word (word_address sp k))
  word_stored m a q None old aligned plain at h = tt
  word_stored m a q (Some e) old aligned plain at h =
      gives_if (is_at_word e k) (Copy (Register q)) (cond (touches e 4 k) Nothing old) _
      (λ on. subst (λ (x : ℕ). number_at (with_bytes m a (bytes_of size.Word (read s.cpu q))) size.Word x
      ≡ Some (slice_index s.cpu.registers q)) (at ∙ word_is sp e k small (eqb-true _ 0 on))
      (word_there m a (read s.cpu q) (read_small s.cpu q words) ∙ ap (λ (n : ℕ). Some n) (read_at s q plain)))
      (λ off. gives_if (touches e 4 k) Nothing old _ (λ _. tt) (λ away. subst (Gives old) (sym (other_word m size.Word a (read s.cpu q)
      (word_address sp k) (eq-eqb (a % 4) 0 aligned) (address_aligned sp k sp_aligned small) (apart sp e k 4 a small away at))) h))

  -- bytes that lie in other words
  bytes_stored : (width : Size) (bytes a v : ℕ) (at : Option ℕ) → is_aligned width a ≡ true → IfSome at (λ e. a ≡ (sp + e) % 2 ^ 32)
      → Gives (bytes_store_source at bytes k) (number_at (with_bytes s.memory a (bytes_of width v)) size.Word (word_address sp k))
  bytes_stored width bytes a v None aligned at = tt
  bytes_stored width bytes a v (Some e) aligned at =
      gives_if (touches e bytes k) Nothing (Copy (StackWord k)) _ (λ _. tt)
      (λ away. other_word s.memory width a v (word_address sp k) aligned (address_aligned sp k sp_aligned small)
      (apart sp e k bytes a small away at))

  module _ (sp_word : sp < 2 ^ 32) (offset : Option ℤ) (known : IsOffsetOfSp sp s marked words offset)
      (marks : marked k ≡ true → Holds (word_address sp k) s.kept) where
    at_sp : (this : Transfer) → eqb this.rn 13 ≡ true → IsOffset this.offset
        → IfSome (access_offset offset this) (λ e. accessed s.cpu this ≡ (sp + e) % 2 ^ 32)
    at_sp this base fits = access_is sp s marked words sp_word offset this (eqb-true this.rn 13 base) fits known

    same_row : (image : ImageValue) (o : Op) → is_store o ≡ false
        → IfDone (effect image s o) (λ next. Gives (Copy (StackWord k)) (value_in sp next (StackWord k)))
    same_row image o calm =
        if_weaker (effect image s o) (Stays o s) _ (λ next st. ap (λ (m : Bytes). number_at m size.Word (word_address sp k))
        (st.memory calm))
        (stays image s o)

    -- a load, or a store by r13 or by another base
    transfer_row : (image : ImageValue) (this : Transfer) (by_sp : Source)
        → (eqb this.rn 13 ≡ true → is_aligned this.size (accessed s.cpu this) ≡ true
        → Gives by_sp (number_at (with_bytes s.memory (accessed s.cpu this) (bytes_of this.size (read s.cpu this.rd))) size.Word
        (word_address sp k)))
        → IfDone (stores image s this) (λ next. Gives (cond (not (eqb this.rn 13)) (IfMarked k) by_sp) (value_in sp next (StackWord k)))
    transfer_row image this by_sp row =
        let a = accessed s.cpu this in
        stopped (store_stop image s.memory s.kept this.rn this.size a) _
        (λ next. Gives (cond (not (eqb this.rn 13)) (IfMarked k) by_sp) (value_in sp next (StackWord k)))
        (λ none. gives_if (not (eqb this.rn 13)) (IfMarked k) by_sp
        (number_at (with_bytes s.memory a (bytes_of this.size (read s.cpu this.rd))) size.Word (word_address sp k))
        (λ other on. kept_stays image s this.size this.rn a (read s.cpu this.rd) (is_push this) (word_address sp k) (not_true _ other) none
        (address_aligned sp k sp_aligned small) (marks on))
        (λ base. row (not_false _ base) (allowed image s.memory s.kept this.rn this.size a none).aligned))

    by_byte : (byte : Bool) (a rd : ℕ) (at : Option ℕ) → rd < 15 → is_aligned (word_size byte) a ≡ true
        → IfSome at (λ e. a ≡ (sp + e) % 2 ^ 32)
        → Gives (cond byte (bytes_store_source at 1 k) (word_store_source at rd k (Copy (StackWord k))))
        (number_at (with_bytes s.memory a (bytes_of (word_size byte) (read s.cpu rd))) size.Word (word_address sp k))
    by_byte true a rd at plain aligned there = bytes_stored size.Byte 1 a (read s.cpu rd) at aligned there
    by_byte false a rd at plain aligned there =
        word_stored s.memory a rd at (Copy (StackWord k)) (eqb-true _ 0 aligned) plain there refl

    -- STM by r13
    abbrev pub BlockStored : ImageValue → Type 0
    BlockStored image = (this : BlockTransfer) → this.load ≡ false → IsOp (op.Block this) → IsGuarded (op.Block this) → eqb this.rn 13
        ≡ true
        → block_stop image s.memory s.kept this.rn (lowest s.cpu this) (registers_of this.list) ≡ None
        → Gives (stores_source (block_offset offset this) (registers_of this.list) k (Copy (StackWord k)))
        (number_at (stored_block s.cpu s this.rn (lowest s.cpu this) (is_push_block this) (registers_of this.list)).memory size.Word
        (word_address sp k))

    -- each stack word after an instruction
    pub stack_row : (image : ImageValue) → BlockStored image → (o : Op) → IsOp o → IsGuarded o
        → IfDone (effect image s o) (λ next. Gives (stack_source offset o k) (value_in sp next (StackWord k)))
    stack_row image blocks (op.Compute this) fits guarded = same_row image (op.Compute this) refl
    stack_row image blocks (op.Multiply this) fits guarded = same_row image (op.Multiply this) refl
    stack_row image blocks (op.MultiplyLong this) fits guarded = same_row image (op.MultiplyLong this) refl
    stack_row image blocks (op.Word this) fits guarded = by_load this.load refl
      where
        by_load : (load : Bool) → this.load ≡ load
            → IfDone (cond load (with_cpu s (loads s.cpu s.memory (word_transfer this))) (stores image s (word_transfer this)))
            (λ next. Gives (cond load (Copy (StackWord k)) (cond (not (eqb this.rn 13)) (IfMarked k)
            (cond this.byte (bytes_store_source (access_offset offset (word_transfer this)) 1 k)
            (word_store_source (access_offset offset (word_transfer this)) this.rd k (Copy (StackWord k))))))
            (value_in sp next (StackWord k)))
        by_load true on = by_registers sp s k (loads s.cpu s.memory (word_transfer this))
        by_load false off =
            transfer_row image (word_transfer this) _ (λ base aligned.
            by_byte this.byte (accessed s.cpu (word_transfer this)) this.rd (access_offset offset (word_transfer this)) (guarded.1 off)
            aligned (at_sp (word_transfer this) base fits.2))
    stack_row image blocks (op.Half this) fits guarded = by_load this.load
      where
        by_load : (load : Bool)
            → IfDone (cond load (with_cpu s (loads s.cpu s.memory (half_transfer this))) (stores image s (half_transfer this)))
            (λ next. Gives (cond load (Copy (StackWord k)) (cond (not (eqb this.rn 13)) (IfMarked k)
            (bytes_store_source (access_offset offset (half_transfer this)) 2 k))) (value_in sp next (StackWord k)))
        by_load true = by_registers sp s k (loads s.cpu s.memory (half_transfer this))
        by_load false =
            transfer_row image (half_transfer this) _ (λ base aligned.
            bytes_stored (half_transfer this).size 2 (accessed s.cpu (half_transfer this)) (read s.cpu this.rd)
            (access_offset offset (half_transfer this)) aligned (at_sp (half_transfer this) base fits.2))
    stack_row image blocks (op.Block this) fits guarded = by_load this.load refl
      where
        by_load : (load : Bool) → this.load ≡ load
            → IfDone (cond load (with_cpu s (loads_many s.cpu s.memory this)) (stores_many image s this))
            (λ next. Gives (cond load (Copy (StackWord k)) (cond (not (eqb this.rn 13)) (IfMarked k)
            (stores_source (block_offset offset this) (registers_of this.list) k (Copy (StackWord k))))) (value_in sp next (StackWord k)))
        by_load true on = by_registers sp s k (loads_many s.cpu s.memory this)
        by_load false off =
            stopped (block_stop image s.memory s.kept this.rn (lowest s.cpu this) (registers_of this.list)) _
            (λ next. Gives (cond (not (eqb this.rn 13)) (IfMarked k)
            (stores_source (block_offset offset this) (registers_of this.list) k (Copy (StackWord k)))) (value_in sp next (StackWord k)))
            (λ none. gives_if (not (eqb this.rn 13)) (IfMarked k)
            (stores_source (block_offset offset this) (registers_of this.list) k (Copy (StackWord k)))
            (number_at (stored_block s.cpu s this.rn (lowest s.cpu this) (is_push_block this) (registers_of this.list)).memory size.Word
            (word_address sp k))
            (λ other on. block_kept image s.cpu s.memory s.kept this.rn (word_address sp k) (is_push_block this) (not_true _ other)
            (address_aligned sp k sp_aligned small) (marks on) (registers_of this.list) s (lowest s.cpu this) none)
            (λ base. blocks this off fits guarded (not_false _ base) none))
    stack_row image blocks (op.Branch this) fits guarded = same_row image (op.Branch this) refl
    stack_row image blocks (op.Exchange this) fits guarded = same_row image (op.Exchange this) refl
