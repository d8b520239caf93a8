-- The word that a load by r15 reads is the image's.
use Rattle.std.proofs.Common.{◌≡◌, ℕ, ◌+◌, ◌-◌, ◌%◌, ◌^◌, ◌<◌, Bool, true, false, cond, eqb, Option, Some, None, IfSome, option_and_then}
use Rattle.std.proofs.Common.{refl, ap, ◌∙◌}
use Rattle.std.proofs.lemmas.Bool.{eqb-true}
use Rattle.std.specs.FinMap.{get}
use Rattle.elf32_image.specs.Parts.{ImageValue}
use Rattle.elf32_image.specs.Bytes.{constant_at, constant_byte_at, word_of}
use Rattle.arm_isa.specs.declared.instruction.Op.{Op}
use Rattle.arm_isa.specs.declared.instruction.Op.TheVariants as op
use Rattle.arm_isa.specs.declared.instruction.Offset.{Offset}
use Rattle.arm_isa.specs.declared.instruction.Offset.TheVariants as by
use Rattle.arm_isa.specs.declared.instruction.WordTransfer.{WordTransfer}
use Rattle.arm_isa.specs.Writes.{is_after}
use Rattle.arm_cpu.specs.Registers.{read}
use Rattle.arm_machine.specs.declared.access.Size.TheVariants as size
use Rattle.arm_machine.specs.States.{Bytes, State}
use Rattle.arm_machine.specs.Access.{number_at}
use Rattle.arm_machine.specs.Transfers.{accessed, offset_value, word_transfer}
use Rattle.arm_machine.specs.Orderly.{AreBytes, HasConstants}
use Rattle.arm_machine.proofs.OrderLemmas.{number_small}
use Rattle.path_facts.specs.Sources.{indexed, moved}
use Rattle.path_facts.specs.Histories.{literal_of}
use Rattle.path_facts.proofs.RegisterLemmas.{IsRead}

none_isnt : (w : ℕ) → ◌≡◌ {A = Option ℕ} None (Some w) → ⊥
none_isnt w e = cc

word_from : (p q r t p' q' r' t' : Option ℕ) (w : ℕ) → ((b : ℕ) → p ≡ Some b → p' ≡ Some b) → ((b : ℕ) → q ≡ Some b → q' ≡ Some b) →
    ((b : ℕ) → r ≡ Some b → r' ≡ Some b) → ((b : ℕ) → t ≡ Some b → t' ≡ Some b) → word_of p q r t ≡ Some w → word_of p' q' r' t' ≡ Some w
word_from (Some b0) (Some b1) (Some b2) (Some b3) p' q' r' t' w f g h k e = same p' q' r' t' (f b0 refl) (g b1 refl) (h b2 refl) (k b3 refl)
  where
    same : (p' q' r' t' : Option ℕ) → p' ≡ Some b0 → q' ≡ Some b1 → r' ≡ Some b2 → t' ≡ Some b3 → word_of p' q' r' t' ≡ Some w
    same p' q' r' t' one two three four = ap (λ (o : Option ℕ). word_of o q' r' t') one ∙ ap
        (λ (o : Option ℕ). word_of (Some b0) o r' t') two ∙ ap (λ (o : Option ℕ). word_of (Some b0) (Some b1) o t') three ∙ ap
        (λ (o : Option ℕ). word_of (Some b0) (Some b1) (Some b2) o) four ∙ e
word_from None q r t p' q' r' t' w f g h k e = absurd (none_isnt w e)
word_from (Some b0) None r t p' q' r' t' w f g h k e = absurd (none_isnt w e)
word_from (Some b0) (Some b1) None t p' q' r' t' w f g h k e = absurd (none_isnt w e)
word_from (Some b0) (Some b1) (Some b2) None p' q' r' t' w f g h k e = absurd (none_isnt w e)

pub constant_there : (image : ImageValue) (m : Bytes) (a w : ℕ) → HasConstants image m → constant_at image a ≡ Some w
    → number_at m size.Word a ≡ Some w
constant_there image m a w has = pick (eqb (a % 4) 0)
  where
    pick : (b : Bool) → cond b (word_of (constant_byte_at image a) (constant_byte_at image (a + 1)) (constant_byte_at image (a + 2))
        (constant_byte_at image (a + 3))) None ≡ Some w → number_at m size.Word a ≡ Some w
    pick true e = word_from _ _ _ _ (get m a) (get m (a + 1)) (get m (a + 2)) (get m (a + 3)) w (has a) (has (a + 1)) (has (a + 2))
        (has (a + 3)) e
    pick false e = absurd (none_isnt w e)

module _ (image : ImageValue) (s : State) (constants : HasConstants image s.memory) (bytes : AreBytes s.memory) where
  abbrev Loads : ℕ → ℕ → Type 0
  Loads a w = (number_at s.memory size.Word a ≡ Some w) × (w < 2 ^ 32)

  word_true : (a b : ℕ) (o : Option ℕ) → constant_at image b ≡ o → a ≡ b → IfSome o (Loads a)
  word_true a b None e is = tt
  word_true a b (Some w) e is =
      let there = ap (number_at s.memory size.Word) is ∙ constant_there image s.memory b w constants e in
      (there, number_small s.memory size.Word a w bytes there)

  at_address : (a : ℕ) (o : Option ℕ) → IfSome o (λ b. a ≡ b) → IfSome (option_and_then (constant_at image) o) (Loads a)
  at_address a None is = tt
  at_address a (Some b) is = word_true a b (constant_at image b) refl is

  -- an access by r15 and a constant
  address_is : (this : WordTransfer) → this.rn ≡ 15 → IfSome (indexed this.index this.up ((s.cpu.pc + 8) % 2 ^ 32) this.offset)
      (λ a. accessed s.cpu (word_transfer this) ≡ a)
  address_is this base = by_offset this.offset
    where
      by_offset : (offset : Offset) → IfSome (indexed this.index this.up ((s.cpu.pc + 8) % 2 ^ 32) offset)
          (λ a. cond (is_after this.index) (read s.cpu this.rn) (cond this.up ((read s.cpu this.rn + offset_value s.cpu offset) % 2 ^ 32)
          ((read s.cpu this.rn + 2 ^ 32 - offset_value s.cpu offset) % 2 ^ 32)) ≡ a)
      by_offset (by.Shifted rm kind) = tt
      by_offset (by.Value c) = ap (λ (n : ℕ). cond (is_after this.index) n (moved this.up n c)) (ap (read s.cpu) base)

  pub literal_read : (o : Op) → IfSome (literal_of image s.cpu.pc o) (IsRead s o)
  literal_read (op.Word this) = by_base (eqb this.rn 15) refl
    where
      by_base : (b : Bool) → eqb this.rn 15 ≡ b → IfSome (cond b (option_and_then (constant_at image)
          (indexed this.index this.up ((s.cpu.pc + 8) % 2 ^ 32) this.offset)) None) (Loads (accessed s.cpu (word_transfer this)))
      by_base true is =
          at_address (accessed s.cpu (word_transfer this)) (indexed this.index this.up ((s.cpu.pc + 8) % 2 ^ 32) this.offset)
          (address_is this (eqb-true this.rn 15 is))
      by_base false is = tt
  literal_read _ = tt
