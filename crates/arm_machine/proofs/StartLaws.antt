-- The state with which a machine starts is a start state.
use Rattle.std.proofs.Common.{◌≡◌, ◌≢◌, ℕ, zero, suc, pos, ◌+◌, ◌-◌, ◌%◌, ◌^◌, ◌<◌, ◌≤◌, ◌-ℤ◌, ◌≤ℤ◌, ◌==◌, true, false, None, List, [], ◌∷◌, length, replicate, slice_index, slice_set, lit<, refl, sym, ap, ◌∙◌, subst, arith}
use Rattle.std.proofs.lemmas.Bool.{eq-eqb, false≢true}
use Rattle.std.proofs.lemmas.List.{get_or-set_other, get_or-set_same, length-set}
use Rattle.std.specs.List.{AllByRecursion}
use Rattle.std.specs.Int.{cast_unsigned, w32}
use Rattle.elf32_image.specs.Parts.{ImageValue}
use Rattle.elf32_image.specs.Bytes.{HoldsBytes, byte_at, is_code}
use Rattle.fetch_timing.specs.declared.timing.Timing.{Timing}
use Rattle.fetch_timing.specs.Caches.{IsCache}
use Rattle.control_flow.specs.Ways.{IsInCode}
use Rattle.arm_machine.specs.declared.start.RegisterValue.{RegisterValue}
use Rattle.arm_machine.specs.Starting.{AreParameters, ComesBack, bad_start, home, start_registers, start_state, with_values}
use Rattle.arm_machine.specs.Starts.{HasNumbers, IsStart}
use Rattle.arm_machine.proofs.StartCauses.{bytes_there, constants_there, home_outside, is_good, room_above, room_below, stack_apart}
use Rattle.arm_cpu.specs.Registers.{signed_of}

-- each register holds a word
abbrev AreWords : List ℕ → Type 0
AreWords registers = (r : ℕ) → slice_index registers r < 2 ^ 32

set_word : (registers : List ℕ) (k w : ℕ) → AreWords registers → w < 2 ^ 32 → AreWords (slice_set registers k w)
set_word [] k w words small r = words r
set_word (x ∷ xs) zero w words small zero = small
set_word (x ∷ xs) zero w words small (suc r) = words (suc r)
set_word (x ∷ xs) (suc k) w words small zero = words zero
set_word (x ∷ xs) (suc k) w words small (suc r) = set_word xs k w (λ q. words (suc q)) small r

zero_words : (n : ℕ) → AreWords (replicate n 0)
zero_words zero r = lit< tt
zero_words (suc n) zero = lit< tt
zero_words (suc n) (suc r) = zero_words n r

-- the words of the values
abbrev AreSmall : List RegisterValue → Type 0
AreSmall values = AllByRecursion (λ p. cast_unsigned w32 p.value < 2 ^ 32) values

values_words : (registers : List ℕ) (values : List RegisterValue) → AreWords registers → AllByRecursion ComesBack values → AreWords (with_values registers values)
values_words registers [] words back = words
values_words registers (p ∷ values) words back = values_words (slice_set registers p.register (cast_unsigned w32 p.value)) values (set_word registers p.register (cast_unsigned w32 p.value) words back.0.word) back.1

pub start_words : (sp : ℕ) (values : List RegisterValue) → sp < 2 ^ 32 → AllByRecursion ComesBack values → (r : ℕ) → slice_index (start_registers sp values) r < 2 ^ 32
start_words sp values small back =
    set_word _ 14 home (set_word _ 13 sp (values_words (replicate 15 0) values (zero_words 15) back) small) (lit< tt)

-- how many registers there are
values_length : (registers : List ℕ) (values : List RegisterValue) → length (with_values registers values) ≡ length registers
values_length registers [] = refl
values_length registers (p ∷ values) = values_length (slice_set registers p.register (cast_unsigned w32 p.value)) values ∙ length-set registers p.register (cast_unsigned w32 p.value)

front_length : (values : List RegisterValue) → length (with_values (replicate 15 0) values) ≡ 15
front_length values = values_length (replicate 15 0) values

pub start_length : (sp : ℕ) (values : List RegisterValue) → length (start_registers sp values) ≡ 15
start_length sp values =
    length-set (slice_set (with_values (replicate 15 0) values) 13 sp) 14 home ∙ length-set (with_values (replicate 15 0) values) 13 sp ∙ front_length values

-- the stack pointer and the return address
pub start_sp : (sp : ℕ) (values : List RegisterValue) → slice_index (start_registers sp values) 13 ≡ sp
start_sp sp values =
    get_or-set_other (slice_set (with_values (replicate 15 0) values) 13 sp) 14 13 home 0 (omega arith)
    ∙ get_or-set_same (with_values (replicate 15 0) values) 13 sp 0 (omega (arith, front_length values))

pub start_home : (sp : ℕ) (values : List RegisterValue) → slice_index (start_registers sp values) 14 ≡ home
start_home sp values =
    get_or-set_same (slice_set (with_values (replicate 15 0) values) 13 sp) 14 home 0 (omega (arith, length-set (with_values (replicate 15 0) values) 13 sp, front_length values))

apart : (a b : ℕ) → (a == b) ≡ false → b ≢ a
apart a b differ same = absurd (false≢true (sym differ ∙ eq-eqb a b (sym same)))

-- a register that no value names keeps its word
untouched : (registers : List ℕ) (values : List RegisterValue) (k : ℕ) → AllByRecursion (λ q. (q.register == k) ≡ false) values → slice_index (with_values registers values) k ≡ slice_index registers k
untouched registers [] k none = refl
untouched registers (p ∷ values) k none =
    untouched (slice_set registers p.register (cast_unsigned w32 p.value)) values k none.1
    ∙ get_or-set_other registers p.register k (cast_unsigned w32 p.value) 0 (apart p.register k none.0)

-- each named register holds its number
numbers : (registers : List ℕ) (values : List RegisterValue) → length registers ≡ 15 → AreParameters values → AllByRecursion ComesBack values → HasNumbers (with_values registers values) values
numbers registers [] all named back = tt
numbers registers (p ∷ values) all named back =
    let word = cast_unsigned w32 p.value in
    let here : slice_index (with_values (slice_set registers p.register word) values) p.register ≡ word =
    untouched (slice_set registers p.register word) values p.register named.1
    ∙ get_or-set_same registers p.register word 0 (omega (arith, all, named.0)) in (
      ap signed_of here ∙ back.0.back,
      numbers (slice_set registers p.register word) values (length-set registers p.register word ∙ all) named.2 back.1,
    )

kept_numbers : (registers : List ℕ) (k w : ℕ) (values : List RegisterValue) → 13 ≤ k → AreParameters values → HasNumbers registers values → HasNumbers (slice_set registers k w) values
kept_numbers registers k w [] above named has = tt
kept_numbers registers k w (p ∷ values) above named has = (
  ap signed_of (get_or-set_other registers k p.register w 0 (omega (arith, named.0))) ∙ has.0,
  kept_numbers registers k w values above named.2 has.1,
)

pub start_numbers : (sp : ℕ) (values : List RegisterValue) → AreParameters values → AllByRecursion ComesBack values → HasNumbers (start_registers sp values) values
start_numbers sp values named back =
    kept_numbers _ 14 home values (omega arith) named
    (kept_numbers _ 13 sp values (omega arith) named (numbers (replicate 15 0) values refl named back))

same_or_not : (image : ImageValue) (a : ℕ) → is_code image home ≡ false → is_code image a ≡ true → a ≢ home
same_or_not image a outside inside is = absurd (false≢true (sym outside ∙ ap (is_code image) (sym is) ∙ inside))

-- The state with which a machine starts is a start state, where control stays in code.
pub starts : (image : ImageValue) (t : Timing) (entry sp stack : ℕ) (values : List RegisterValue) → sp < 2 ^ 32 → stack ≤ 1048576 → AreParameters values → AllByRecursion ComesBack values → IsCache t (replicate t.sets []) → bad_start image sp stack ≡ None → HoldsBytes image → IsInCode image entry → IsStart image t entry stack values (start_state image t entry sp stack values)
starts image t entry sp stack values small few named back cache none bytes inside =
    let good = is_good image sp stack none in
    let at_sp : slice_index (start_registers sp values) 13 ≡ sp = start_sp sp values in
    let at_home : slice_index (start_registers sp values) 14 ≡ home = start_home sp values in
    record {
      at_entry = refl;
      all_registers = start_length sp values;
      words = start_words sp values small back;
      params = start_numbers sp values named back;
      aligned = ap (λ (w : ℕ). w % 4) at_sp ∙ good.aligned;
      room_below = subst (λ (w : ℕ). (pos stack -ℤ pos (2 ^ 31)) ≤ℤ signed_of w) (sym at_sp) (room_below sp stack good.in_range);
      room_above = subst (λ (w : ℕ). signed_of w ≤ℤ pos (2 ^ 31 - 65)) (sym at_sp) (room_above sp stack good.in_range);
      apart = λ below some within. ap (λ (w : ℕ). byte_at image ((w + 2 ^ 32 - below) % 2 ^ 32)) at_sp ∙ stack_apart image sp stack below small few good.stack_free some within;
      home = ap (λ (w : ℕ). w % 4) at_home;
      away = λ p collected. subst (λ (w : ℕ). p.address ≢ w) (sym at_home) (same_or_not image p.address (home_outside image good.home_free) (inside p collected));
      bytes = bytes_there image sp stack bytes;
      constants = constants_there image sp stack;
      none_kept = refl;
      cache = cache;
    }
