-- The sources and marks that LDM and STM leave are right.
use Rattle.std.proofs.Common.{◌≡◌, ℕ, ℤ, pos, neg_ℤ, ◌+◌, ◌-◌, ◌*◌, ◌%◌, ◌^◌, ◌<◌, ◌≤◌, ◌&&◌, not, Bool, true, false, cond, Option, Some}
use Rattle.std.proofs.Common.{None}
use Rattle.std.proofs.Common.{IfSome, Ok, Err, List, [], ◌∷◌, length, eqb, slice_index, slice_set, refl, sym, ap, ◌∙◌, subst, arith}
use Rattle.std.specs.Prelude.{count_ones}
use Rattle.std.specs.List.{AllByRecursion}
use Rattle.std.proofs.lemmas.Bool.{eqb-true, eqb-false, ne_eqb}
use Rattle.std.proofs.lemmas.List.{get_or-set_other, get_or-set_same, length-set}
use Rattle.elf32_image.specs.Parts.{ImageValue}
use Rattle.arm_isa.specs.declared.instruction.BlockTransfer.{BlockTransfer}
use Rattle.arm_isa.specs.Writes.{is_listed}
use Rattle.arm_cpu.specs.declared.cpu.Cpu.{Cpu}
use Rattle.arm_cpu.specs.declared.stops.Stop.TheVariants as stop
use Rattle.arm_cpu.specs.Registers.{advanced, read, with_register}
use Rattle.arm_machine.specs.declared.access.Size.TheVariants as size
use Rattle.arm_machine.specs.States.{Bytes, State}
use Rattle.arm_machine.specs.Access.{is_saved, loaded, number_at, store_stop, stored}
use Rattle.arm_machine.specs.Blocks.{block_base, block_stop, is_push_block, landed, load_block, loads_many, lowest, next_word, placed}
use Rattle.arm_machine.specs.Blocks.{rebased_block, registers_of, stored_block, stores_many}
use Rattle.arm_machine.specs.Transfers.{with_cpu}
use Rattle.arm_machine.specs.Laws.{Holds, IfDone}
use Rattle.arm_machine.specs.Orderly.{AreWords}
use Rattle.arm_machine.proofs.OrderLemmas.{loaded_is}
use Rattle.arm_machine.proofs.PcLemmas.{stopped}
use Rattle.arm_machine.proofs.StayLemmas.{AreListed, back_keeps, if_test, if_then, registers_listed}
use Rattle.arm_machine.proofs.StoreLemmas.{allowed, both_none}
use Rattle.path_facts.specs.Facts.{Says, Source, word_address}
use Rattle.path_facts.specs.Facts.Location.{Register, StackWord}
use Rattle.path_facts.specs.Facts.Source.{Sum, Copy}
use Rattle.path_facts.specs.Sources.{based_offset, block_base_source, block_offset, load_source, loads_source, mark_after_store}
use Rattle.path_facts.specs.Sources.{mark_after_stores, next_offset, residue, stores_source, word_store_source}
use Rattle.path_facts.proofs.MarkLemmas.{BlockMarked, Mark, mark_stored}
use Rattle.path_facts.proofs.NumberLemmas.{base_difference, base_sum, moved_up}
use Rattle.path_facts.proofs.RegisterLemmas.{BlockRow, IsOffsetOfSp, back_gives, back_length, load_gives, read_at, sp_at, through}
use Rattle.path_facts.proofs.StackLemmas.{BlockStored, word_stored}

-- the address of the next word
pub next_at : (sp a : ℕ) (at : Option ℕ) → IfSome at (λ e. a ≡ (sp + e) % 2 ^ 32)
    → IfSome (next_offset at) (λ e. next_word a ≡ (sp + e) % 2 ^ 32)
next_at sp a None at = tt
next_at sp a (Some e) at = ap (λ (b : ℕ). (b + 4) % 2 ^ 32) at ∙ moved_up sp e 4

-- the lowest word, by the base, the number of registers, and whether it is left out
lowest_up : (first : Bool) (sp x n : ℕ) → n ≡ (sp + x) % 2 ^ 32
    → (n + cond first 4 0) % 2 ^ 32 ≡ (sp + (x + cond first 4 0) % 2 ^ 32) % 2 ^ 32
lowest_up true sp x n e = omega (arith, e)
lowest_up false sp x n e = omega (arith, e)

lowest_down : (first : Bool) (sp x n c : ℕ) → n ≡ (sp + x) % 2 ^ 32 → c ≤ 16
    → (n + 2 ^ 32 - 4 * c + cond first 0 4) % 2 ^ 32 ≡ (sp + (x + 2 ^ 32 - 4 * c + cond first 0 4) % 2 ^ 32) % 2 ^ 32
lowest_down true sp x n c e small = omega (arith, e, small)
lowest_down false sp x n c e small = omega (arith, e, small)

none_is_pc : (list : ℕ) → is_listed list 15 ≡ false → (rs : List ℕ) → AreListed list rs → AllByRecursion (λ q. q < 15) rs
none_is_pc list off [] all = tt
none_is_pc list off (q ∷ rs) all = (below_pc q (is_listed list q) refl all.0, none_is_pc list off rs all.1)
  where
    below_pc : (q : ℕ) (b : Bool) → is_listed list q ≡ b → b ≡ true → q < 15
    below_pc q b is on = grind (arith, off, is, on)

placed_length : (cpu : Cpu) (q v : ℕ) → length (placed cpu q v).registers ≡ length cpu.registers
placed_length cpu q v = at (eqb q 15)
  where
    at : (b : Bool) → length (cond b (record cpu { pc = v }) (with_register cpu q v)).registers ≡ length cpu.registers
    at true = refl
    at false = length-set cpu.registers q v

module _ (sp : ℕ) (s : State) (before : ℕ → Bool) (words : AreWords s.cpu) (sp_word : sp < 2 ^ 32) where
  abbrev Gives : Source → Option ℕ → Type 0
  Gives source v = Says sp s before source v

  -- LDM: one register of the list
  placed_gives : (cpu : Cpu) (q v r : ℕ) (a : ℕ) (at : Option ℕ) (old : Source) → r < 15 → length cpu.registers ≡ 15
      → IfSome at (λ e. a ≡ (sp + e) % 2 ^ 32) → number_at s.memory size.Word a ≡ Some v → Gives old (Some (slice_index cpu.registers r))
      → Gives (cond (eqb r q) (load_source at) old) (Some (slice_index (placed cpu q v).registers r))
  placed_gives cpu q v r a at old small all there is h = by_same (eqb r q) refl
    where
      by_same : (b : Bool) → eqb r q ≡ b → Gives (cond b (load_source at) old) (Some (slice_index (placed cpu q v).registers r))
      by_same true same =
          subst (λ (n : ℕ). Gives (load_source at) (Some n)) (sym got) (load_gives sp s before words sp_word at a v there is)
        where
          got : slice_index (placed cpu q v).registers r ≡ v
          got = subst (λ (b : Bool). slice_index (cond b (record cpu { pc = v }) (with_register cpu q v)).registers r ≡ v)
              (sym (ne_eqb q 15 (λ e. omega (arith, small, e, eqb-true r q same))))
              (subst (λ (k : ℕ). slice_index (slice_set cpu.registers k v) r ≡ v) (eqb-true r q same)
              (get_or-set_same cpu.registers r v 0 (omega (arith, all, small))))
      by_same false isnt = subst (λ (n : ℕ). Gives old (Some n)) (sym (kept (eqb q 15))) h
        where
          kept : (b : Bool) → slice_index (cond b (record cpu { pc = v }) (with_register cpu q v)).registers r ≡ slice_index cpu.registers r
          kept true = refl
          kept false = get_or-set_other cpu.registers q r v 0 (eqb-false r q isnt)

  loads_give : (rs : List ℕ) (a : ℕ) (cpu : Cpu) (r : ℕ) (at : Option ℕ) (old : Source) → r < 15 → length cpu.registers ≡ 15
      → IfSome at (λ e. a ≡ (sp + e) % 2 ^ 32) → Gives old (Some (slice_index cpu.registers r))
      → IfDone (load_block s.memory a rs cpu) (λ next. Gives (loads_source at rs r old) (Some (slice_index next.registers r)))
  loads_give [] a cpu r at old small all there h = h
  loads_give (q ∷ rs) a cpu r at old small all there h =
      if_then _ (loaded s.memory size.Word a) _ _ (loaded_is s.memory size.Word a) (λ v is.
      loads_give rs (next_word a) (placed cpu q v) r (next_offset at) (cond (eqb r q) (load_source at) old) small
      (placed_length cpu q v ∙ all) (next_at sp a at there) (placed_gives cpu q v r a at old small all there is h))

  -- STM: the words that the registers go to
  module _ (sp_aligned : sp % 4 ≡ 0) (k : ℕ) (few : 4 * k ≤ 2 ^ 32) where
    stores_give : (image : ImageValue) (kept : List ℕ) (base : ℕ) (saves : Bool) (rs : List ℕ) (t : State) (a : ℕ) (at : Option ℕ)
        (old : Source) → AllByRecursion (λ q. q < 15) rs → block_stop image s.memory kept base a rs ≡ None
        → IfSome at (λ e. a ≡ (sp + e) % 2 ^ 32) → Gives old (number_at t.memory size.Word (word_address sp k))
        → Gives (stores_source at rs k old) (number_at (stored_block s.cpu t base a saves rs).memory size.Word (word_address sp k))
    stores_give image kept base saves [] t a at old plain none there h = h
    stores_give image kept base saves (q ∷ rs) t a at old plain none there h =
        let parts = both_none (store_stop image s.memory kept base size.Word a)
        (block_stop image s.memory kept base (next_word a) rs) none in
        stores_give image kept base saves rs (stored t base size.Word a (read s.cpu q) (saves && is_saved q)) (next_word a)
        (next_offset at) (word_store_source at q k old) plain.1 parts.1 (next_at sp a at there)
        (word_stored sp s before words sp_aligned k few t.memory a q at old
        (eqb-true _ 0 (allowed image s.memory kept base size.Word a parts.0).aligned) plain.0 there h)

  -- the lowest word's address
  pub lowest_is : (offset : Option ℤ) (this : BlockTransfer) → this.rn ≡ 13 → count_ones this.list ≤ 16
      → IsOffsetOfSp sp s before words offset → IfSome (block_offset offset this) (λ e. lowest s.cpu this ≡ (sp + e) % 2 ^ 32)
  lowest_is None this base few is = tt
  lowest_is (Some o) this base few is =
      by_up this.up this.before (read s.cpu this.rn) (count_ones this.list)
      (ap (read s.cpu) base ∙ sp_at sp s before words sp_word o is) few
    where
      by_up : (up first : Bool) (n c : ℕ) → n ≡ (sp + residue o) % 2 ^ 32 → c ≤ 16
          → cond up ((n + cond first 4 0) % 2 ^ 32) ((n + 2 ^ 32 - 4 * c + cond first 0 4) % 2 ^ 32)
          ≡ (sp + cond up ((residue o + cond first 4 0) % 2 ^ 32) ((residue o + 2 ^ 32 - 4 * c + cond first 0 4) % 2 ^ 32)) % 2 ^ 32
      by_up true first n c e small = lowest_up first sp (residue o) n e
      by_up false first n c e small = lowest_down first sp (residue o) n c e small

  module _ (offset : Option ℤ) (known : IsOffsetOfSp sp s before words offset) where
    at_base : (this : BlockTransfer) → count_ones this.list ≤ 16
        → IfSome (based_offset offset this) (λ e. lowest s.cpu this ≡ (sp + e) % 2 ^ 32)
    at_base this few = by_base (eqb this.rn 13) refl
      where
        by_base : (b : Bool) → eqb this.rn 13 ≡ b
            → IfSome (cond b (block_offset offset this) None) (λ e. lowest s.cpu this ≡ (sp + e) % 2 ^ 32)
        by_base true is = lowest_is offset this (eqb-true this.rn 13 is) few known
        by_base false is = tt

    -- the base, where it is written back
    abbrev change_of : Bool → ℕ → ℤ
    change_of up c = cond up (pos (4 * c)) (neg_ℤ (pos (4 * c)))

    moved_base : (up : Bool) (rn c n : ℕ) → n ≡ slice_index s.cpu.registers rn → c ≤ 16
        → Gives (Sum rn (change_of up c)) (Some (cond up ((n + 4 * c) % 2 ^ 32) ((n + 2 ^ 32 - 4 * c) % 2 ^ 32)))
    moved_base true rn c n is few =
        subst (λ (m : ℕ). Gives (Sum rn (pos (4 * c))) (Some ((m + 4 * c) % 2 ^ 32))) (sym is)
        (base_sum (slice_index s.cpu.registers rn) (4 * c) (words.each rn) (omega (arith, few)))
    moved_base false rn c n is few =
        subst (λ (m : ℕ). Gives (Sum rn (neg_ℤ (pos (4 * c)))) (Some ((m + 2 ^ 32 - 4 * c) % 2 ^ 32))) (sym is)
        (base_difference (slice_index s.cpu.registers rn) (4 * c) (words.each rn) (omega (arith, few)))

    base_gives : (this : BlockTransfer) (r : ℕ) → r < 15 → this.rn < 15 → count_ones this.list ≤ 16
        → Gives (block_base_source this r) (Some (slice_index (rebased_block s.cpu this).registers r))
    base_gives this r small small_base few = by_back (this.write_back && eqb r this.rn) refl
      where
        by_back : (b : Bool) → this.write_back && eqb r this.rn ≡ b
            → Gives (cond b (Sum this.rn (change_of this.up (count_ones this.list))) (Copy (Register r)))
            (Some (slice_index (rebased_block s.cpu this).registers r))
        by_back true is =
            subst (λ (n : ℕ). Gives (Sum this.rn (change_of this.up (count_ones this.list))) (Some n))
            (sym (back_gives s.cpu this.write_back this.rn (block_base s.cpu this) r is small words.all))
            (moved_base this.up this.rn (count_ones this.list) (read s.cpu this.rn) (read_at s this.rn small_base) few)
        by_back false is = ap (λ (n : ℕ). Some n) (back_keeps this.write_back s.cpu this.rn (block_base s.cpu this) r is)

    pub block_row : (image : ImageValue) → BlockRow sp s before words sp_word offset known image
    block_row image this r small fits guarded = by_load this.load
      where
        by_load : (load : Bool)
            → IfDone (cond load (with_cpu s (loads_many s.cpu s.memory this)) (stores_many image s this))
            (λ next. Gives (cond load (loads_source (based_offset offset this) (registers_of this.list) r (block_base_source this r))
            (block_base_source this r)) (Some (slice_index next.cpu.registers r)))
        by_load true =
            through s (loads_many s.cpu s.memory this)
            (λ n. Gives (loads_source (based_offset offset this) (registers_of this.list) r (block_base_source this r)) (Some n)) r
            (if_then (landed this.list) (load_block s.memory (lowest s.cpu this) (registers_of this.list)
            (advanced (rebased_block s.cpu this)))
            (λ next. Gives (loads_source (based_offset offset this) (registers_of this.list) r (block_base_source this r))
            (Some (slice_index next.registers r))) _
            (loads_give (registers_of this.list) (lowest s.cpu this) (advanced (rebased_block s.cpu this)) r (based_offset offset this)
            (block_base_source this r) small (back_length this.write_back s.cpu this.rn (block_base s.cpu this) ∙ words.all)
            (at_base this guarded.2) (base_gives this r small fits.0 guarded.2))
            (λ next h. if_test (is_listed this.list 15 && not (eqb (next.pc % 4) 0)) (Err stop.Leaves) (Ok next) _ tt h))
        by_load false =
            stopped (block_stop image s.memory s.kept this.rn (lowest s.cpu this) (registers_of this.list)) _
            (λ next. Gives (block_base_source this r) (Some (slice_index next.cpu.registers r)))
            (λ none. base_gives this r small fits.0 guarded.2)

    module _ (sp_aligned : sp % 4 ≡ 0) (k : ℕ) (few_words : 4 * k ≤ 2 ^ 32)
        (marks : before k ≡ true → Holds (word_address sp k) s.kept) where
      pub block_stored : (image : ImageValue) → BlockStored sp s before words sp_aligned k few_words sp_word offset known marks image
      block_stored image this off fits guarded base none =
          stores_give sp_aligned k few_words image s.kept this.rn (is_push_block this) (registers_of this.list) s (lowest s.cpu this)
          (block_offset offset this) (Copy (StackWord k)) (none_is_pc this.list (guarded.0 off) (registers_of this.list)
          (registers_listed this.list)) none (lowest_is offset this (eqb-true this.rn 13 base) guarded.2 known) refl

-- the marks that STM by r13 leaves
stores_mark : (sp k : ℕ) (few : 4 * k ≤ 2 ^ 32) (image : ImageValue) (m : Bytes) (cpu : Cpu) (all : List ℕ) (base : ℕ) (saves : Bool)
    → eqb base 13 ≡ true → (rs : List ℕ) (t : State) (a : ℕ) (at : Option ℕ) (old : Bool) → block_stop image m all base a rs ≡ None
    → IfSome at (λ e. a ≡ (sp + e) % 2 ^ 32) → Mark sp k few old t.kept
    → Mark sp k few (mark_after_stores at rs k saves old) (stored_block cpu t base a saves rs).kept
stores_mark sp k few image m cpu all base saves is [] t a at old none there h = h
stores_mark sp k few image m cpu all base saves is (q ∷ rs) t a at old none there h =
    let parts = both_none (store_stop image m all base size.Word a) (block_stop image m all base (next_word a) rs) none in
    stores_mark sp k few image m cpu all base saves is rs (stored t base size.Word a (read cpu q) (saves && is_saved q)) (next_word a)
    (next_offset at) (mark_after_store at 4 k (saves && is_saved q) old) parts.1 (next_at sp a at there)
    (mark_stored sp k few base a 4 (saves && is_saved q) (saves && is_saved q) old at t.kept (λ on. on) is there h)

module _ (sp k : ℕ) (few : 4 * k ≤ 2 ^ 32) (s : State) (before : ℕ → Bool) (words : AreWords s.cpu) (sp_word : sp < 2 ^ 32)
    (offset : Option ℤ) (known : IsOffsetOfSp sp s before words offset) (marks : before k ≡ true → Holds (word_address sp k) s.kept) where
  pub block_marked : (image : ImageValue) → BlockMarked sp k few s before words sp_word offset known marks image
  block_marked image this guarded base none =
      stores_mark sp k few image s.memory s.cpu s.kept this.rn (is_push_block this) base (registers_of this.list) s (lowest s.cpu this)
      (block_offset offset this) (before k) none
      (lowest_is sp s before words sp_word offset this (eqb-true this.rn 13 base) guarded.2 known) marks
