-- Where facts are true before an instruction and a source says what a value is after it, the source's fact is true of the value.
use Rattle.std.proofs.Common.{◌≡◌, ℕ, ℤ, ◌+ℤ◌, Bool, true, false, cond, IsSomeAnd, Option, Some, None, List, slice_index, refl, sym, ap}
use Rattle.std.proofs.Common.{◌∙◌, subst}
use Rattle.std.proofs.lemmas.Int.{int_wrap-add_left}
use Rattle.std.proofs.Math.IntN.{+ℤ_assoc, +ℤ_idl}
use Rattle.std.specs.Int.{int_wrap, w32}
use Rattle.arm_cpu.specs.Registers.{signed_of}
use Rattle.arm_machine.specs.States.{State}
use Rattle.path_facts.specs.Facts.{Fact, Facts, IsCongruent, IsTrueOf, Location, Says, Source, fact_from, is_signed_word, origin_value}
use Rattle.path_facts.specs.Facts.{plus, value_in}
use Rattle.path_facts.specs.declared.origin.Origin.TheVariants.{Zero}
use Rattle.path_facts.specs.Facts.Location.{Register, StackWord}
use Rattle.path_facts.specs.Facts.Source.{Nothing, Constant, Sum, Copy, IfMarked}

if_some : (v : Option ℕ) (P Q : ℕ → Type 0) → ((n : ℕ) → P n → Q n) → IsSomeAnd v P → IsSomeAnd v Q
if_some None P Q turn h = h
if_some (Some n) P Q turn h = turn n h

-- an equation with a constant added
congruent_more : (o c by : ℤ) (m n : ℕ) → IsCongruent (o +ℤ c) m → IsCongruent (signed_of m +ℤ by) n → IsCongruent (o +ℤ (c +ℤ by)) n
congruent_more o c by m n before after =
    after ∙ ap (λ (z : ℤ). int_wrap w32 (z +ℤ by)) before ∙ int_wrap-add_left w32 (o +ℤ c) by ∙ ap (int_wrap w32) (+ℤ_assoc o c by)

module _ (start : List ℕ) (sp : ℕ) (s : State) where
  of_kept : (fits : Bool) (f : Fact) (v : Option ℕ) → IsSomeAnd v (IsCongruent (origin_value start f.origin +ℤ f.constant)) → IsTrueOf start
      (cond fits (Some f) None) v
  of_kept true f v h = h
  of_kept false f v h = tt

  of_sum : (o : Option Fact) (r : ℕ) (by : ℤ) (v : Option ℕ) → IsTrueOf start o (Some (slice_index s.cpu.registers r)) → IsSomeAnd v
      (IsCongruent (signed_of (slice_index s.cpu.registers r) +ℤ by)) → IsTrueOf start (plus by o) v
  of_sum None r by v before after = tt
  of_sum (Some f) r by v before after =
      of_kept (is_signed_word (f.constant +ℤ by)) (record { origin = f.origin; constant = f.constant +ℤ by }) v
      (if_some v _ _ (λ n. congruent_more (origin_value start f.origin) f.constant by (slice_index s.cpu.registers r) n before) after)

  of_marked : (marked : Bool) (o : Option Fact) (v w : Option ℕ) → IsTrueOf start o v → (marked ≡ true → w ≡ v) → IsTrueOf start
      (cond marked o None) w
  of_marked true o v w before same = subst (IsTrueOf start o) (sym (same refl)) before
  of_marked false o v w before same = tt

  pub says_true : (f : Facts) (source : Source) (v : Option ℕ) → ((q : Location) → IsTrueOf start (f.fact q) (value_in sp s q))
      → Says sp s f.marked source v → IsTrueOf start (fact_from f source) v
  says_true f Nothing v before after = tt
  says_true f (Constant c) v before after =
      of_kept (is_signed_word c) (record { origin = Zero; constant = c }) v
      (subst (λ (z : ℤ). IsSomeAnd v (IsCongruent z)) (sym (+ℤ_idl c)) after)
  says_true f (Sum r by) v before after = of_sum (f.fact (Register r)) r by v (before (Register r)) after
  says_true f (Copy q) v before after = subst (IsTrueOf start (f.fact q)) (sym after) (before q)
  says_true f (IfMarked k) v before after = of_marked (f.marked k) (f.fact (StackWord k)) (value_in sp s (StackWord k)) v
      (before (StackWord k)) after
