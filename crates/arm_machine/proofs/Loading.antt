-- Bytes one after another of which none is loaded.
use Rattle.std.proofs.Common.{◌≡◌, ℕ, suc, ◌+◌, ◌-◌, ◌%◌, ◌^◌, ◌<◌, ◌||◌, Bool, false, is_some, sym, ap, ◌∙◌, arith}
use Rattle.elf32_image.specs.Parts.{ImageValue}
use Rattle.elf32_image.specs.Bytes.{byte_at}
use Rattle.arm_machine.specs.Starting.{is_any_loaded}

-- the bytes that are left after one that isn't loaded
pub not_loaded : (image : ImageValue) (a i count : ℕ) (all : Bool) → i < count → is_some (byte_at image a) ≡ false → is_any_loaded image a (count - i) ≡ all → is_any_loaded image ((a + 1) % 2 ^ 32) (count - (i + 1)) ≡ all
not_loaded image a i count all more none is =
    let one : count - i ≡ suc (count - (i + 1)) = omega arith in
    sym (ap (is_any_loaded image a) one ∙ ap (λ (b : Bool). b || is_any_loaded image ((a + 1) % 2 ^ 32) (count - (i + 1))) none) ∙ is
