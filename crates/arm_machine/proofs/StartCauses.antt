-- What is known where no cause stands against a start.
use Rattle.std.proofs.Common.{◌≡◌, ℕ, zero, suc, ℤ, pos, ◌+◌, ◌-◌, ◌%◌, ◌^◌, ◌<◌, ◌≤◌, ◌-ℤ◌, ◌≤ℤ◌, ◌==◌, ◌&&◌, ◌||◌, not, Bool, true, false, cond, is_some, Option, Some, None, refl, sym, ap, ◌∙◌, subst, arith}
use Rattle.std.proofs.lemmas.Bool.{eqb-true, false≢true}
use Rattle.std.specs.List.{flat_map}
use Rattle.std.specs.Prelude.{int_le, T}
use Rattle.std.specs.Ordering.{nat_cmp, eq_by_cmp}
use Rattle.std.specs.Cmp.{nat_cmp_total}
use Rattle.std.specs.FinMap.{find, get, get-from_entries}
use lib.Signed.{le_z_yes}
use Rattle.elf32_image.specs.Parts.{ImageValue, Segment}
use Rattle.elf32_image.specs.Bytes.{HoldsBytes, byte_at, constant_byte, constant_byte_at, executable_in, holder, is_code, is_executable_at, is_writable, loaded_byte, loaded_in}
use Rattle.elf32_image.specs.declared.image.Loaded.TheVariants.{ReadOnly, Writable}
use Rattle.arm_machine.specs.declared.start.StartRefusal.{StartRefusal}
use Rattle.arm_machine.specs.declared.start.StartRefusal.TheVariants as refusal
use Rattle.arm_machine.specs.Memories.{if_loaded, segment_entries, start_entries, start_memory, zeros_from}
use Rattle.arm_machine.specs.Orderly.{AreBytes}
use Rattle.arm_machine.specs.Starting.{bad_start, home, is_any_loaded, is_home_loaded, is_in_range}
use Rattle.arm_machine.proofs.Lookups.{find_in_segments, find_split}
use Rattle.arm_cpu.specs.Registers.{signed_of}

not_first : (test : Bool) (why : StartRefusal) (others : Option StartRefusal) → cond test (Some why) others ≡ None → test ≡ false
not_first true why others none = cc
not_first false why others none = refl

not_later : (test : Bool) (why : StartRefusal) (others : Option StartRefusal) → cond test (Some why) others ≡ None → others ≡ None
not_later true why others none = cc
not_later false why others none = none

is_true : (b : Bool) → not b ≡ false → b ≡ true
is_true true h = refl
is_true false h = sym h

-- what no cause against a start says
pub record IsGood (image : ImageValue) (sp stack : ℕ) : Type 0 where
  pub aligned : sp % 4 ≡ 0
  pub in_range : is_in_range sp stack ≡ true
  pub stack_free : is_any_loaded image ((sp + 2 ^ 32 - stack) % 2 ^ 32) stack ≡ false
  pub home_free : is_home_loaded image ≡ false

pub is_good : (image : ImageValue) (sp stack : ℕ) → bad_start image sp stack ≡ None → IsGood image sp stack
is_good image sp stack none =
    let second = not_later (not (sp % 4 == 0)) refusal.SpUnaligned _ none in
    let third = not_later (not (is_in_range sp stack)) refusal.SpRange _ second in
    let fourth = not_later (is_any_loaded image ((sp + 2 ^ 32 - stack) % 2 ^ 32) stack) refusal.StackLoaded _ third in
    record {
      aligned = eqb-true (sp % 4) 0 (is_true (sp % 4 == 0) (not_first (not (sp % 4 == 0)) refusal.SpUnaligned _ none));
      in_range = is_true (is_in_range sp stack) (not_first (not (is_in_range sp stack)) refusal.SpRange _ second);
      stack_free = not_first (is_any_loaded image ((sp + 2 ^ 32 - stack) % 2 ^ 32) stack) refusal.StackLoaded _ third;
      home_free = not_first (is_home_loaded image) refusal.ReturnLoaded _ fourth;
    }

first_of_both : (x y : Bool) → x && y ≡ true → x ≡ true
first_of_both true y h = refl
first_of_both false y h = h

second_of_both : (x y : Bool) → x && y ≡ true → y ≡ true
second_of_both true y h = h
second_of_both false y h = absurd (false≢true h)

first_off : (x y : Bool) → x || y ≡ false → x ≡ false
first_off true y h = h
first_off false y h = refl

second_off : (x y : Bool) → x || y ≡ false → y ≡ false
second_off true y h = absurd (false≢true (sym h))
second_off false y h = h

ordered : (a b : ℤ) → int_le a b ≡ true → a ≤ℤ b
ordered a b holds = le_z_yes (subst T (sym holds) tt)

-- the stack pointer leaves room on both sides
pub room_below : (sp stack : ℕ) → is_in_range sp stack ≡ true → (pos stack -ℤ pos (2 ^ 31)) ≤ℤ signed_of sp
room_below sp stack good = ordered (pos stack -ℤ pos (2 ^ 31)) (signed_of sp) (first_of_both (int_le (pos stack -ℤ pos (2 ^ 31)) (signed_of sp)) (int_le (signed_of sp) (pos (2 ^ 31 - 65))) good)

pub room_above : (sp stack : ℕ) → is_in_range sp stack ≡ true → signed_of sp ≤ℤ pos (2 ^ 31 - 65)
room_above sp stack good = ordered (signed_of sp) (pos (2 ^ 31 - 65)) (second_of_both (int_le (pos stack -ℤ pos (2 ^ 31)) (signed_of sp)) (int_le (signed_of sp) (pos (2 ^ 31 - 65))) good)

none_there : (o : Option ℕ) → is_some o ≡ false → o ≡ None
none_there None off = refl
none_there (Some b) off = absurd (false≢true (sym off))

-- none of some bytes in a row is loaded
free_at : (image : ImageValue) (a n i : ℕ) → is_any_loaded image a n ≡ false → i < n → a < 2 ^ 32 → byte_at image ((a + i) % 2 ^ 32) ≡ None
free_at image a zero i free within small = absurd (omega arith)
free_at image a (suc n) zero free within small =
    let here : (a + 0) % 2 ^ 32 ≡ a = omega arith in
    ap (byte_at image) here ∙ none_there (byte_at image a) (first_off (is_some (byte_at image a)) (is_any_loaded image ((a + 1) % 2 ^ 32) n) free)
free_at image a (suc n) (suc i) free within small =
    let next : (a + suc i) % 2 ^ 32 ≡ ((a + 1) % 2 ^ 32 + i) % 2 ^ 32 = omega arith in
    ap (byte_at image) next
    ∙ free_at image ((a + 1) % 2 ^ 32) n i (second_off (is_some (byte_at image a)) (is_any_loaded image ((a + 1) % 2 ^ 32) n) free) (omega (arith, within)) (omega arith)

-- no byte of the stack is loaded
pub stack_apart : (image : ImageValue) (sp stack below : ℕ) → sp < 2 ^ 32 → stack ≤ 1048576 → is_any_loaded image ((sp + 2 ^ 32 - stack) % 2 ^ 32) stack ≡ false → 1 ≤ below → below ≤ stack → byte_at image ((sp + 2 ^ 32 - below) % 2 ^ 32) ≡ None
stack_apart image sp stack below small few free some within =
    let place : (sp + 2 ^ 32 - below) % 2 ^ 32 ≡ ((sp + 2 ^ 32 - stack) % 2 ^ 32 + (stack - below)) % 2 ^ 32 = omega arith in
    ap (byte_at image) place ∙ free_at image ((sp + 2 ^ 32 - stack) % 2 ^ 32) stack (stack - below) free (omega arith) (omega arith)

no_byte : (o : Option Segment) (a : ℕ) → is_some (loaded_byte (loaded_in o a)) ≡ false → executable_in o ≡ false
no_byte None a off = refl
no_byte (Some segment) a off =
    absurd (false≢true (sym off ∙ held (is_writable segment) _ _))
  where
    held : (b : Bool) (x y : ℕ) → is_some (loaded_byte (cond b (Writable x) (ReadOnly y))) ≡ true
    held true x y = refl
    held false x y = refl

off_code : (aligned first others : Bool) → first ≡ false → aligned && first && others ≡ false
off_code true first others off = ap (λ (b : Bool). b && others) off
off_code false first others off = refl

-- there is no code at the return address
pub home_outside : (image : ImageValue) → is_home_loaded image ≡ false → is_code image home ≡ false
home_outside image free =
    let first = first_off (is_some (byte_at image home)) _ (first_off _ _ (first_off _ _ free)) in
    ap (λ (b : Bool). b && is_executable_at image (home + 1) && is_executable_at image (home + 2) && is_executable_at image (home + 3))
    (no_byte (holder image home) home first)

-- what no program can write stands in the memory at the start
byte_of_constant : (o : Option Segment) (a b : ℕ) → constant_byte (loaded_in o a) ≡ Some b → loaded_byte (loaded_in o a) ≡ Some b
byte_of_constant None a b is = cc
byte_of_constant (Some segment) a b is = same (is_writable segment) _ _ b is
  where
    same : (w : Bool) (x y b : ℕ) → constant_byte (cond w (Writable x) (ReadOnly y)) ≡ Some b → loaded_byte (cond w (Writable x) (ReadOnly y)) ≡ Some b
    same true x y b is = cc
    same false x y b is = is

pub constants_there : (image : ImageValue) (sp stack a b : ℕ) → constant_byte_at image a ≡ Some b → get (start_memory image sp stack) a ≡ Some b
unfolding start_entries
constants_there image sp stack a b is =
    let bottom = (sp + 2 ^ 32 - stack) % 2 ^ 32 in
    get-from_entries nat_cmp_total (start_entries image bottom (stack + 64)) a
    ∙ find_split (flat_map segment_entries image.segments) (zeros_from bottom (stack + 64)) a
    ∙ ap (λ (o : Option ℕ). if_loaded o (find nat_cmp a (zeros_from bottom (stack + 64)))) (find_in_segments image.segments a ∙ byte_of_constant (holder image a) a b is)

-- a byte that is there when a run starts is one of the image's or a zero
zero_there : (a n q b : ℕ) → find nat_cmp q (zeros_from a n) ≡ Some b → b ≡ 0
zero_there a zero q b is = absurd (cc)
zero_there a (suc n) q b is = first (eq_by_cmp nat_cmp q a) (find nat_cmp q (zeros_from ((a + 1) % 2 ^ 32) n)) (zero_there ((a + 1) % 2 ^ 32) n q b) is
  where
    first : (t : Bool) (rest : Option ℕ) → (rest ≡ Some b → b ≡ 0) → cond t (Some 0) rest ≡ Some b → b ≡ 0
    first true rest later is = cc
    first false rest later is = later is

small_there : (x y : Option ℕ) (b : ℕ) → ((v : ℕ) → x ≡ Some v → v < 2 ^ 8) → ((v : ℕ) → y ≡ Some v → v ≡ 0) → if_loaded x y ≡ Some b → b < 2 ^ 8
small_there None y b first second is = let e : b ≡ 0 = second b is in omega (arith, e)
small_there (Some v) y b first second is = first b is

pub bytes_there : (image : ImageValue) (sp stack : ℕ) → HoldsBytes image → AreBytes (start_memory image sp stack)
unfolding start_entries
bytes_there image sp stack bytes a b is =
    let bottom = (sp + 2 ^ 32 - stack) % 2 ^ 32 in
    small_there (byte_at image a) (find nat_cmp a (zeros_from bottom (stack + 64))) b (bytes a) (zero_there bottom (stack + 64) a)
    (sym (ap (λ (o : Option ℕ). if_loaded o (find nat_cmp a (zeros_from bottom (stack + 64)))) (find_in_segments image.segments a))
    ∙ sym (find_split (flat_map segment_entries image.segments) (zeros_from bottom (stack + 64)) a)
    ∙ sym (get-from_entries nat_cmp_total (start_entries image bottom (stack + 64)) a) ∙ is)
