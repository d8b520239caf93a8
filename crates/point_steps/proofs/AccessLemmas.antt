-- r13's offset matters only to accesses by r13, and marks rise.
use Rattle.std.proofs.Common.{◌≡◌, ℕ, ℤ, Bool, true, false, cond, not, ◌&&◌, ◌==◌, Option, Some, None, List, [], ◌∷◌, refl, ap}
use Rattle.std.specs.Prelude.{nat_lt}
use Rattle.arm_isa.specs.declared.instruction.Op.{Op}
use Rattle.arm_isa.specs.declared.instruction.Op.TheVariants as op
use Rattle.arm_isa.specs.Writes.{op_writes}
use Rattle.arm_machine.specs.Access.{is_saved}
use Rattle.arm_machine.specs.Blocks.{is_push_block, registers_of}
use Rattle.arm_machine.specs.Transfers.{half_transfer, is_push, word_transfer}
use Rattle.path_facts.specs.Facts.{Location, Source}
use Rattle.path_facts.specs.Facts.Location.{Register, StackWord}
use Rattle.path_facts.specs.Facts.Source.{Nothing, Copy, IfMarked}
use Rattle.path_facts.specs.Sources.{access_offset, base_source, block_base_source, block_offset, is_at_word}
use Rattle.path_facts.specs.Sources.{is_tracked, literal_source, load_source, loaded_source, loads_source, mark_after, mark_after_store}
use Rattle.path_facts.specs.Sources.{mark_after_stores, mark_of, next_offset, source_of, stack_source, touches, written_source}
use Rattle.path_facts.specs.StackUse.{accesses_by_sp}

-- ---- offsets

-- what stands where the base is r13 doesn't count
by_other : {A : Type 0} (load sp : Bool) (c m x y : A) → sp ≡ false
    → cond load c (cond (not sp) m x) ≡ cond load c (cond (not sp) m y)
by_other true sp c m x y off = refl
by_other false true c m x y off = cc
by_other false false c m x y off = refl

one_of : {A : Type 0} (sp : Bool) (n x y : A) → sp ≡ false → cond sp x n ≡ cond sp y n
one_of true n x y off = cc
one_of false n x y off = refl

stack_even : (one other : Option ℤ) (o : Op) (k : ℕ) → accesses_by_sp o ≡ false → stack_source one o k ≡ stack_source other o k
stack_even one other (op.Word this) k off = by_other this.load (this.rn == 13) (Copy (StackWord k)) (IfMarked k) _ _ off
stack_even one other (op.Half this) k off = by_other this.load (this.rn == 13) (Copy (StackWord k)) (IfMarked k) _ _ off
stack_even one other (op.Block this) k off = by_other this.load (this.rn == 13) (Copy (StackWord k)) (IfMarked k) _ _ off
stack_even one other (op.Compute this) k off = refl
stack_even one other (op.Multiply this) k off = refl
stack_even one other (op.MultiplyLong this) k off = refl
stack_even one other (op.Branch this) k off = refl
stack_even one other (op.Exchange this) k off = refl

loaded_even : (literal one other : Option ℕ) (byte : Bool) (rn : ℕ) → (rn == 13) ≡ false
    → loaded_source literal one byte rn ≡ loaded_source literal other byte rn
loaded_even literal one other byte rn off =
    ap (λ (s : Source). cond byte Nothing (cond (rn == 15) (literal_source literal) s))
    (one_of (rn == 13) Nothing (load_source one) (load_source other) off)

written_even : (a : ℕ) (literal : Option ℕ) (one other : Option ℤ) (o : Op) (r : ℕ) → accesses_by_sp o ≡ false
    → written_source a literal one o r ≡ written_source a literal other o r
written_even a literal one other (op.Word this) r off =
    ap (λ (s : Source). cond (this.load && (r == this.rd)) s (base_source this.up this.rn this.offset))
    (loaded_even literal (access_offset one (word_transfer this)) (access_offset other (word_transfer this)) this.byte
    this.rn off)
written_even a literal one other (op.Half this) r off = refl
written_even a literal one other (op.Block this) r off =
    ap (λ (at : Option ℕ). cond this.load (loads_source at (registers_of this.list) r (block_base_source this r))
    (block_base_source this r))
    (one_of (this.rn == 13) None (block_offset one this) (block_offset other this) off)
written_even a literal one other (op.Compute this) r off = refl
written_even a literal one other (op.Multiply this) r off = refl
written_even a literal one other (op.MultiplyLong this) r off = refl
written_even a literal one other (op.Branch this) r off = refl
written_even a literal one other (op.Exchange this) r off = refl

pub sources_even : (stack a : ℕ) (literal : Option ℕ) (one other : Option ℤ) (o : Op) (location : Location)
    → accesses_by_sp o ≡ false → source_of stack a literal one o location ≡ source_of stack a literal other o location
sources_even stack a literal one other o (Register r) off =
    ap (λ (s : Source). cond (nat_lt r 15) (cond (op_writes o r) s (Copy (Register r))) Nothing)
    (written_even a literal one other o r off)
sources_even stack a literal one other o (StackWord k) off =
    ap (λ (s : Source). cond (is_tracked stack k) s Nothing) (stack_even one other o k off)

mark_even : (one other : Option ℤ) (o : Op) (k : ℕ) (before : Bool) → accesses_by_sp o ≡ false
    → mark_after one o k before ≡ mark_after other o k before
mark_even one other (op.Word this) k before off = by_other this.load (this.rn == 13) before before _ _ off
mark_even one other (op.Half this) k before off = by_other this.load (this.rn == 13) before before _ _ off
mark_even one other (op.Block this) k before off = by_other this.load (this.rn == 13) before before _ _ off
mark_even one other (op.Compute this) k before off = refl
mark_even one other (op.Multiply this) k before off = refl
mark_even one other (op.MultiplyLong this) k before off = refl
mark_even one other (op.Branch this) k before off = refl
mark_even one other (op.Exchange this) k before off = refl

pub marks_even : (stack : ℕ) (one other : Option ℤ) (o : Op) (k : ℕ) (before : Bool) → accesses_by_sp o ≡ false
    → mark_of stack one o k before ≡ mark_of stack other o k before
marks_even stack one other o k before off =
    ap (λ (b : Bool). cond (is_tracked stack k) b false) (mark_even one other o k before off)

-- ---- marks

-- the second is marked where the first is
abbrev Rises : Bool → Bool → Type 0
Rises b c = b ≡ true → c ≡ true

under_tests : (x y b c : Bool) → Rises b c → Rises (cond x true (cond y false b)) (cond x true (cond y false c))
under_tests true y b c h on = refl
under_tests false true b c h on = on
under_tests false false b c h on = h on

under_cond : (x b c d e : Bool) → Rises b d → Rises c e → Rises (cond x b c) (cond x d e)
under_cond true b c d e first second on = first on
under_cond false b c d e first second on = second on

store_rises : (at : Option ℕ) (bytes k : ℕ) (saves b c : Bool) → Rises b c
    → Rises (mark_after_store at bytes k saves b) (mark_after_store at bytes k saves c)
store_rises None bytes k saves b c h on = on
store_rises (Some e) bytes k saves b c h on = under_tests (is_at_word e k && saves) (touches e bytes k) b c h on

stores_rise : (at : Option ℕ) (rs : List ℕ) (k : ℕ) (saves b c : Bool) → Rises b c
    → Rises (mark_after_stores at rs k saves b) (mark_after_stores at rs k saves c)
stores_rise at [] k saves b c h on = h on
stores_rise at (q ∷ rs) k saves b c h on =
    stores_rise (next_offset at) rs k saves (mark_after_store at 4 k (saves && is_saved q) b)
    (mark_after_store at 4 k (saves && is_saved q) c) (store_rises at 4 k (saves && is_saved q) b c h) on

by_form : (load other b c d e : Bool) → Rises b c → Rises d e
    → Rises (cond load b (cond other b d)) (cond load c (cond other c e))
by_form load other b c d e h g =
    under_cond load b (cond other b d) c (cond other c e) h (under_cond other b d c e h g)

mark_rises : (offset : Option ℤ) (o : Op) (k : ℕ) (b c : Bool) → Rises b c → Rises (mark_after offset o k b) (mark_after offset o k c)
mark_rises offset (op.Word this) k b c h =
    by_form this.load (not (this.rn == 13)) b c _ _ h
    (under_cond this.byte _ _ _ _ (store_rises (access_offset offset (word_transfer this)) 1 k false b c h)
    (store_rises (access_offset offset (word_transfer this)) 4 k (is_push (word_transfer this)) b c h))
mark_rises offset (op.Half this) k b c h =
    by_form this.load (not (this.rn == 13)) b c _ _ h
    (store_rises (access_offset offset (half_transfer this)) 2 k false b c h)
mark_rises offset (op.Block this) k b c h =
    by_form this.load (not (this.rn == 13)) b c _ _ h
    (stores_rise (block_offset offset this) (registers_of this.list) k (is_push_block this) b c h)
mark_rises offset (op.Compute this) k b c h = h
mark_rises offset (op.Multiply this) k b c h = h
mark_rises offset (op.MultiplyLong this) k b c h = h
mark_rises offset (op.Branch this) k b c h = h
mark_rises offset (op.Exchange this) k b c h = h

pub marks_rise : (stack : ℕ) (offset : Option ℤ) (o : Op) (k : ℕ) → mark_of stack offset o k false ≡ true
    → mark_of stack offset o k true ≡ true
marks_rise stack offset o k =
    under_cond (is_tracked stack k) _ false _ false (mark_rises offset o k false true (λ is. refl)) (λ is. is)
