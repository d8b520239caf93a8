-- Where the facts hold before a step that doesn't stop, they hold after it, done or skipped.
use Rattle.std.proofs.Common.{◌≡◌, ℕ, ℤ, pos, neg_ℤ, ◌+ℤ◌, ◌≤ℤ◌, ◌*◌, ◌^◌, ◌<◌, ◌≤◌, ◌&&◌, Bool, true, false, cond, Option, Some, None}
use Rattle.std.proofs.Common.{IfSome, option_and_then, Result, Ok, Err, List, eqb, leb, ltb, slice_index, refl, sym, ap, subst, arith}
use Rattle.std.proofs.lemmas.Bool.{eqb-true, ltb-true, leb-true, false≢true}
use Rattle.std.proofs.lemmas.Int.{ints}
use Rattle.std.specs.Prelude.{int_lt, int_le}
use Rattle.elf32_image.specs.Parts.{ImageValue}
use Rattle.elf32_image.specs.Bytes.{is_code, word_at}
use Rattle.arm_isa.specs.declared.instruction.Insn.{Insn}
use Rattle.arm_isa.specs.declared.instruction.Op.{Op}
use Rattle.arm_isa.specs.Conditions.{condition_passes}
use Rattle.arm_isa.specs.Decoding.{decoding, first_fit, table}
use Rattle.arm_isa.specs.Fields.{field}
use Rattle.arm_isa.specs.Guarantees.{IsGuarded}
use Rattle.arm_isa.specs.Ranges.{IsOp}
use Rattle.arm_isa.specs.Writes.{op_writes}
use Rattle.arm_isa.proofs.GuardLemmas.{table_guard}
use Rattle.arm_isa.proofs.RangeLemmas.{table_range}
use Rattle.fetch_timing.specs.declared.timing.Timing.{Timing}
use Rattle.control_flow.specs.Instructions.{instruction_at}
use Rattle.arm_cpu.specs.declared.stops.Stop.{Stop}
use Rattle.arm_cpu.specs.Registers.{advanced, signed_of}
use Rattle.arm_machine.specs.declared.events.Event.{Event}
use Rattle.arm_machine.specs.States.{State}
use Rattle.arm_machine.specs.Effects.{effect}
use Rattle.arm_machine.specs.Laws.{Holds, IfDone, IfStep, Stays}
use Rattle.arm_machine.specs.Orderly.{AreWords, HasConstants, IsOrderly}
use Rattle.arm_machine.specs.Steps.{Outcome, charge, event_at, outcome_of, settle, step}
use Rattle.arm_machine.proofs.OrderLemmas.{stays_orderly}
use Rattle.arm_machine.proofs.StayLemmas.{if_any, if_weaker, stays}
use Rattle.arm_machine.proofs.StepLemmas.{charged, if_step, step_at}
use Rattle.arm_machine.proofs.WordLemmas.{advanced_words}
use Rattle.path_facts.specs.Facts.{Fact, Facts, IsCongruent, IsTrueOf, Location, Says, Source, fact_from, offset_from, offset_in}
use Rattle.path_facts.specs.declared.origin.Origin.{Origin}
use Rattle.path_facts.specs.Facts.{offset_of, origin_value, value_in, word_address}
use Rattle.path_facts.specs.Facts.Location.{Register, StackWord}
use Rattle.path_facts.specs.declared.origin.Origin.TheVariants.{Zero, AtStart}
use Rattle.path_facts.specs.Histories.{AreTrue, FactsHold, HasStack, facts_after, facts_done, is_above, literal_of, without_marks_below}
use Rattle.path_facts.specs.Sources.{is_tracked, source_of}
use Rattle.path_facts.proofs.BlockLemmas.{block_marked, block_row, block_stored}
use Rattle.path_facts.proofs.FactLemmas.{says_true}
use Rattle.path_facts.proofs.LiteralLemmas.{literal_read}
use Rattle.path_facts.proofs.MarkLemmas.{mark_row, not_below, stays_kept}
use Rattle.arm_machine.proofs.ReturnLemmas.{both}
use Rattle.path_facts.proofs.RegisterLemmas.{IsRead, written_row}
use Rattle.path_facts.proofs.StackLemmas.{stack_row}

-- what decoding guarantees of the instructions of an image
abbrev IsDecoded : Insn → Type 0
IsDecoded insn = IsOp insn.op × IsGuarded insn.op

decoded_word : (w : ℕ) → IfSome (decoding w) IsDecoded
decoded_word w = by_test (eqb (field w 28 4) 15)
  where
    two : (o : Option Insn) → IfSome o (λ insn. IsOp insn.op) → IfSome o (λ insn. IsGuarded insn.op) → IfSome o IsDecoded
    two None h g = tt
    two (Some insn) h g = (h, g)

    by_test : (b : Bool) → IfSome (cond b None (first_fit table w)) IsDecoded
    by_test true = tt
    by_test false = two (first_fit table w) (table_range w) (table_guard w)

pub decoded : (image : ImageValue) (a : ℕ) (insn : Insn) → instruction_at image a ≡ Some insn → IsOp insn.op × IsGuarded insn.op
decoded image a insn found = by_code (is_code image a) (word_at image a) found
  where
    some_is : (o : Option Insn) → IfSome o IsDecoded → o ≡ Some insn → IsDecoded insn
    some_is o h is = subst (λ (p : Option Insn). IfSome p IsDecoded) is h

    none_isnt : ◌≡◌ {A = Option Insn} None (Some insn) → ⊥
    none_isnt e = cc

    by_code : (code : Bool) (word : Option ℕ) → cond code (option_and_then decoding word) None ≡ Some insn → IsDecoded insn
    by_code true (Some w) e = some_is (decoding w) (decoded_word w) e
    by_code true None e = absurd (none_isnt e)
    by_code false word e = absurd (none_isnt e)

if_all : {A B : Type 0} (o : Result A Stop) (P : B → A → Type 0) → ((b : B) → IfDone o (P b)) → IfDone o (λ a. (b : B) → P b a)
if_all (Ok a) P all = all
if_all (Err stop) P all = tt

pub both_done : {A : Type 0} (o : Result A Stop) (P Q : A → Type 0) → IfDone o P → IfDone o Q → IfDone o (λ a. P a × Q a)
both_done (Ok a) P Q h g = (h, g)
both_done (Err why) P Q h g = tt

-- what a fact of r13 says of it
pub offset_is : (start : List ℕ) (o : Option Fact) (n : ℕ) → IsTrueOf start o (Some n)
    → IfSome (offset_in o) (λ c. IsCongruent (signed_of (slice_index start 13) +ℤ c) n)
offset_is start None n is = tt
offset_is start (Some f) n is = by_origin f.origin is
  where
    by_origin : (origin : Origin) → IsCongruent (origin_value start origin +ℤ f.constant) n
        → IfSome (offset_from origin f.constant) (λ c. IsCongruent (signed_of (slice_index start 13) +ℤ c) n)
    by_origin Zero h = tt
    by_origin (AtStart r) h = by_register (eqb r 13) refl h
      where
        by_register : (b : Bool) → eqb r 13 ≡ b → IsCongruent (signed_of (slice_index start r) +ℤ f.constant) n
            → IfSome (cond b (Some f.constant) None) (λ c. IsCongruent (signed_of (slice_index start 13) +ℤ c) n)
        by_register true e h = subst (λ (q : ℕ). IsCongruent (signed_of (slice_index start q) +ℤ f.constant) n) (eqb-true r 13 e) h
        by_register false e h = tt

pub tracked_small : (stack k : ℕ) → stack < 2 ^ 31 → is_tracked stack k ≡ true → 4 * k ≤ 2 ^ 32
tracked_small stack k few on =
    let below = leb-true (4 * k) stack (both (ltb 0 k) (leb (4 * k) stack) on).1 in
    omega (arith, few, below)

-- a done instruction
module _ (start : List ℕ) (stack : ℕ) (has : HasStack start stack) (f : Facts) (s : State) (words : AreWords s.cpu)
    (all : AreTrue start f s) (marks : (k : ℕ) → f.marked k ≡ true → Holds (word_address (slice_index start 13) k) s.kept) where
  abbrev pub sp : ℕ
  sp = slice_index start 13

  known : IfSome (offset_of f) (λ c. IsCongruent (signed_of sp +ℤ c) (slice_index s.cpu.registers 13))
  known = offset_is start (f.fact (Register 13)) (slice_index s.cpu.registers 13) (all (Register 13))

  module _ (image : ImageValue) (o : Op) (fits : IsOp o) (guarded : IsGuarded o) where
    -- each location has the value that its source says
    module _ (literal : Option ℕ) (read_it : IfSome literal (IsRead s o)) where
      abbrev Row : Location → Source → Type 0
      Row location source = IfDone (effect image s o) (λ next. Says sp s f.marked source (value_in sp next location))

      row_if : (location : Location) (b : Bool) (x y : Source) → (b ≡ true → Row location x) → (b ≡ false → Row location y)
          → Row location (cond b x y)
      row_if location true x y h g = h refl
      row_if location false x y h g = g refl

      pub source_row : (location : Location) → Row location (source_of stack s.cpu.pc literal (offset_of f) o location)
      source_row (Register r) =
          row_if (Register r) (ltb r 15) _ _ (λ small.
          row_if (Register r) (op_writes o r) _ _ (λ writes.
          if_weaker (effect image s o) _ _ (λ next h. h)
          (written_row sp s f.marked words has.word (offset_of f) known image
          (block_row sp s f.marked words has.word (offset_of f) known image) literal o r read_it (ltb-true r 15 small) fits guarded writes))
          (λ off. if_weaker (effect image s o) (Stays o s) _ (λ next st. ap (λ (n : ℕ). Some n) (st.registers r off)) (stays image s o)))
          (λ _. if_any (effect image s o) _ (λ _. tt))
      source_row (StackWord k) =
          row_if (StackWord k) (is_tracked stack k) _ _ (λ small.
          let few = tracked_small stack k has.small small in
          stack_row sp s f.marked words has.aligned k few has.word (offset_of f) known (marks k) image
          (block_stored sp s f.marked words has.word (offset_of f) known has.aligned k few (marks k) image) o fits guarded)
          (λ _. if_any (effect image s o) _ (λ _. tt))

      pub facts_follow : IfDone (effect image s o)
          (λ next. (location : Location) → IsTrueOf start (fact_from f (source_of stack s.cpu.pc literal (offset_of f) o location))
          (value_in sp next location))
      facts_follow =
          if_all (effect image s o)
          (λ location next. IsTrueOf start (fact_from f (source_of stack s.cpu.pc literal (offset_of f) o location))
          (value_in sp next location)) (λ location.
          if_weaker (effect image s o) _ _ (λ next h.
          says_true start sp s f (source_of stack s.cpu.pc literal (offset_of f) o location) (value_in sp next location) all h)
          (source_row location))

    guarded_mark : (b x : Bool) (P : Type 0) → (x ≡ true → P) → cond b x false ≡ true → P
    guarded_mark true x P h on = h on
    guarded_mark false x P h on = absurd (false≢true on)

    -- and each mark is a kept word
    pub marks_follow : (literal : Option ℕ) (k : ℕ) → 4 * k ≤ 2 ^ 32
        → IfDone (effect image s o) (λ next. (facts_done stack s.cpu.pc literal o f).marked k ≡ true → Holds (word_address sp k) next.kept)
    marks_follow literal k few =
        if_weaker (effect image s o) _ _ (λ next. guarded_mark (is_tracked stack k) _ _)
        (mark_row sp k few s f.marked words has.word (offset_of f) known (marks k) image
        (block_marked sp k few s f.marked words has.word (offset_of f) known (marks k) image) o fits guarded)

four : (a b c d : Bool) → a && b && c && d ≡ true → (a ≡ true) × (b ≡ true) × (c ≡ true) × (d ≡ true)
four a b c d on =
    let x = both (a && b && c) d on in
    let y = both (a && b) c x.0 in
    let z = both a b y.0 in
    (z.0, z.1, y.1, x.1)

ordered : (a b : ℤ) → int_le a b ≡ true → a ≤ℤ b
ordered a b h = grind (arith, ints, h)

module _ (start : List ℕ) (stack : ℕ) (has : HasStack start stack) where
  -- a word that isn't below r13 keeps its mark
  above_row : (at : Option ℤ) (k n : ℕ) → is_above stack at k ≡ true
      → IfSome at (λ o. IsCongruent (signed_of (slice_index start 13) +ℤ o) n)
      → int_lt (signed_of (word_address (slice_index start 13) k)) (signed_of n) ≡ false
  above_row None k n on is = absurd (false≢true on)
  above_row (Some o) k n on is =
      let parts = four (int_le (neg_ℤ (pos stack)) o) (int_le o (pos 64)) (leb (4 * k) stack) (int_le o (neg_ℤ (pos (4 * k)))) on in
      not_below (slice_index start 13) stack n k o has.word has.below has.above is
      (ordered (neg_ℤ (pos stack)) o parts.0) (ordered o (pos 64) parts.1) (leb-true (4 * k) stack parts.2) has.small
      (ordered o (neg_ℤ (pos (4 * k))) parts.3)

  small_word : (at : Option ℤ) (k : ℕ) → is_above stack at k ≡ true → 4 * k ≤ 2 ^ 32
  small_word None k on = absurd (false≢true on)
  small_word (Some o) k on =
      let inside = leb-true (4 * k) stack (four (int_le (neg_ℤ (pos stack)) o) (int_le o (pos 64)) (leb (4 * k) stack)
      (int_le o (neg_ℤ (pos (4 * k)))) on).2 in
      omega (arith, inside, has.small)

  -- after the instruction, before marks below r13 are taken
  pub record HoldInBetween (f : Facts) (mid : State) : Type 0 where
    pub values : AreTrue start f mid
    pub marks : (k : ℕ) → 4 * k ≤ 2 ^ 32 → f.marked k ≡ true → Holds (word_address (slice_index start 13) k) mid.kept
    pub orderly : IsOrderly mid

  settled_holds : (t : Timing) (f : Facts) (pc : ℕ) (mid : State) → HoldInBetween f mid
      → FactsHold start (without_marks_below stack f) (settle t pc mid)
  settled_holds t f pc mid m = record {
    values = of_location;
    marks = λ k on. let parts = both (is_above stack (offset_of f) k) (f.marked k) on in
        stays_kept mid (word_address (slice_index start 13) k)
        (above_row (offset_of f) k (slice_index mid.cpu.registers 13) parts.0
        (offset_is start (f.fact (Register 13)) (slice_index mid.cpu.registers 13) (m.values (Register 13))))
        (m.marks k (small_word (offset_of f) k parts.0) parts.1);
    orderly = record {
      words = record { each = m.orderly.words.each; all = m.orderly.words.all; pc = m.orderly.words.pc };
      bytes = m.orderly.bytes;
    };
  }
    where
      of_location : AreTrue start (without_marks_below stack f) (settle t pc mid)
      of_location (Register r) = m.values (Register r)
      of_location (StackWord k) = m.values (StackWord k)

  all_marks : (o : Result State Stop) (P : ℕ → State → Type 0) → ((k : ℕ) → 4 * k ≤ 2 ^ 32 → IfDone o (P k))
      → IfDone o (λ a. (k : ℕ) → 4 * k ≤ 2 ^ 32 → P k a)
  all_marks (Ok a) P all = all
  all_marks (Err why) P all = tt

  module _ (image : ImageValue) where
    abbrev done_facts : State → Op → Facts → Facts
    done_facts s o f = facts_done stack s.cpu.pc (literal_of image s.cpu.pc o) o f

    done_holds : (f : Facts) (s : State) (o : Op) → IsOp o → IsGuarded o → HasConstants image s.memory → FactsHold start f s
        → IfDone (effect image s o) (HoldInBetween (done_facts s o f))
    done_holds f s o fits guarded constants h =
        if_weaker (effect image s o) _ _ (λ mid parts. record { values = parts.0.0; marks = parts.0.1; orderly = parts.1 })
        (both_done (effect image s o) _ IsOrderly
        (both_done (effect image s o) _ _
        (facts_follow start stack has f s h.orderly.words h.values h.marks image o fits guarded (literal_of image s.cpu.pc o)
        (literal_read image s constants h.orderly.bytes o))
        (all_marks (effect image s o)
        (λ k mid. (done_facts s o f).marked k ≡ true → Holds (word_address (slice_index start 13) k) mid.kept)
        (marks_follow start stack has f s h.orderly.words h.values h.marks image o fits guarded (literal_of image s.cpu.pc o))))
        (stays_orderly image s h.orderly o fits))

    skipped_holds : (f : Facts) (s : State) → FactsHold start f s → HoldInBetween f (record s { cpu = advanced s.cpu })
    skipped_holds f s h = record {
      values = of_location;
      marks = λ k small. h.marks k;
      orderly = record { words = advanced_words s.cpu h.orderly.words; bytes = h.orderly.bytes };
    }
      where
        of_location : AreTrue start f (record s { cpu = advanced s.cpu })
        of_location (Register r) = h.values (Register r)
        of_location (StackWord k) = h.values (StackWord k)

    outcome_holds : (done : Bool) (f : Facts) (s : State) (insn : Insn) → IsOp insn.op → IsGuarded insn.op → HasConstants image s.memory
        → FactsHold start f s → IfDone (outcome_of image s insn done) (HoldInBetween (cond done (done_facts s insn.op f) f))
    outcome_holds true f s insn fits guarded constants h = done_holds f s insn.op fits guarded constants h
    outcome_holds false f s insn fits guarded constants h = skipped_holds f s h

    -- the facts after a step
    pub step_holds : (t : Timing) (f : Facts) (s : State) (insn : Insn) → instruction_at image s.cpu.pc ≡ Some insn
        → HasConstants image s.memory → FactsHold start f s
        → IfStep (step image t s) (λ next event. FactsHold start (facts_after image stack s.cpu.pc insn.op event.done f) next)
    step_holds t f s insn found constants h =
        let done = condition_passes insn.condition s.cpu.flags in
        let sure = decoded image s.cpu.pc insn found in
        subst (λ (o : Outcome). IfStep o (λ next event. FactsHold start (facts_after image stack s.cpu.pc insn.op event.done f) next))
        (sym (step_at image t s insn done found refl))
        (if_step (charge t s insn done (outcome_of image s insn done)) _ _ (λ next event m. after next event m.0 m.1 m.2 m.3)
        (charged t s insn done (outcome_of image s insn done) (HoldInBetween (cond done (done_facts s insn.op f) f))
        (outcome_holds done f s insn sure.0 sure.1 constants h)))
      where
        after : (next : State) (event : Event) (mid : State)
            → HoldInBetween (cond (condition_passes insn.condition s.cpu.flags) (done_facts s insn.op f) f) mid
            → next ≡ settle t s.cpu.pc mid → event ≡ event_at t s.sets s.cpu.pc insn (condition_passes insn.condition s.cpu.flags)
            → FactsHold start (facts_after image stack s.cpu.pc insn.op event.done f) next
        after next event mid m is seen =
            subst (FactsHold start (facts_after image stack s.cpu.pc insn.op event.done f)) (sym is)
            (subst (λ (b : Bool). FactsHold start (facts_after image stack s.cpu.pc insn.op b f) (settle t s.cpu.pc mid))
            (sym (ap (λ (e : Event). e.done) seen))
            (settled_holds t (cond (condition_passes insn.condition s.cpu.flags) (done_facts s insn.op f) f) s.cpu.pc mid m))
