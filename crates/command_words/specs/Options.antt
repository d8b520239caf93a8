-- The words after the places of a run: the registers' values, the stack and the number of steps.
use Rattle.std.specs.Prelude.{◌≡◌, ℕ, ◌≤◌, ◌==◌, ◌%◌, ◌||◌, if◌then◌else◌, IfSome, is_some, unwrap_or}
use Rattle.std.specs.Prelude.{Option, Some, None, option_map, option_and_then, List, [], ◌∷◌, ◌++◌, codes}
use Rattle.std.specs.Str.{bytes_eq}
use Rattle.std.specs.List.{list_any}
use Rattle.arm_machine.specs.declared.start.RegisterValue.{RegisterValue}
use Rattle.arm_machine.specs.Starting.{AreParameters}
use Rattle.command_words.specs.Numerals.{address_of, number_within, signed_number}
use Rattle.command_words.specs.Parts.{has_equals_sign, is_name, key_of, register_of, stack_of, text_of}
use Rattle.command_words.specs.declared.options.Given.{Given}
use Rattle.command_words.specs.declared.options.Setup.{Setup}

abbrev pub value_in : List ℕ → ℕ → Option RegisterValue
value_in text k = option_map (λ v. record { register = k; value = v }) (signed_number text)

-- rK=VALUE
abbrev pub register_value_of : List ℕ → Option RegisterValue
register_value_of text =
    if has_equals_sign text then option_and_then (value_in (text_of text)) (register_of (key_of text)) else None

abbrev pub nothing_given : Given
nothing_given = record { names = []; values = []; sp = None; stack = None; steps = None }

-- a parameter's value, for a name and a register that have none yet
abbrev pub given_value : Given → List ℕ → RegisterValue → Option Given
given_value given name p =
    if list_any (λ other. bytes_eq other name) given.names || list_any (λ q. q.register == p.register) given.values
    then None
    else Some (record given { names = given.names ++ name ∷ []; values = given.values ++ p ∷ [] })

abbrev pub after_value : Given → List ℕ → List ℕ → Option Given
after_value given name text =
    if is_name name then option_and_then (given_value given name) (register_value_of text) else None

-- the stack pointer, the stack's size and the number of steps are given once each
abbrev pub after_sp : Given → List ℕ → Option Given
after_sp given text =
    if is_some given.sp then None else option_map (λ a. record given { sp = Some a }) (address_of text)

abbrev pub after_stack : Given → List ℕ → Option Given
after_stack given text =
    if is_some given.stack then None else option_map (λ n. record given { stack = Some n }) (stack_of text)

abbrev pub after_steps : Given → List ℕ → Option Given
after_steps given text =
    if is_some given.steps then None
    else option_map (λ n. record given { steps = Some n }) (number_within 1 1000000000000 text)

-- the three options come before the names of parameters
abbrev pub after_key : Given → List ℕ → List ℕ → Option Given
after_key given key text =
    if bytes_eq key (codes "sp") then after_sp given text
    else if bytes_eq key (codes "stack") then after_stack given text
    else if bytes_eq key (codes "steps") then after_steps given text
    else after_value given key text

abbrev pub after_word : Given → List ℕ → Option Given
after_word given word = if has_equals_sign word then after_key given (key_of word) (text_of word) else None

abbrev pub after_words : Given → List (List ℕ) → Option Given
after_words given [] = Some given
after_words given (word ∷ words) = option_and_then (λ next. after_words next words) (after_word given word)

-- what isn't given has its default
abbrev pub setup_with : Given → Setup
setup_with given = record {
  values = given.values;
  sp = unwrap_or given.sp 0x20000000;
  stack = unwrap_or given.stack 4096;
  steps = unwrap_or given.steps 1000000;
}

abbrev pub setup_of : List (List ℕ) → Option Setup
setup_of words = option_map setup_with (after_words nothing_given words)

-- what the machine and its runs want of a setup
pub record IsSetup (setup : Setup) : Type 0 where
  pub values : AreParameters setup.values
  pub stack : setup.stack ≤ 1048576
  pub whole : setup.stack % 4 ≡ 0
  pub least : 1 ≤ setup.steps
  pub most : setup.steps ≤ 1000000000000

-- the same of what the words gave so far
pub record IsGiven (given : Given) : Type 0 where
  pub values : AreParameters given.values
  pub stack : IfSome given.stack (λ n. (n ≤ 1048576) × (n % 4 ≡ 0))
  pub steps : IfSome given.steps (λ n. (1 ≤ n) × (n ≤ 1000000000000))
