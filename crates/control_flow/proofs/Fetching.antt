-- What is fetched where the image has a word of code.
use Rattle.std.proofs.Common.{◌≡◌, ℕ, Bool, true, false, cond, Option, Some, None, Err, option_and_then, ap}
use Rattle.std.proofs.lemmas.Option.{none-some}
use Rattle.elf32_image.specs.Parts.{ImageValue}
use Rattle.elf32_image.specs.Bytes.{code_at, is_code, word_at}
use Rattle.arm_isa.specs.Decoding.{decoding}
use Rattle.control_flow.specs.declared.instructions.FetchFault.TheVariants.{NoCode}
use Rattle.control_flow.specs.Instructions.{decoded, fetched}

with_word : (code : Bool) (loaded : Option ℕ) (word : ℕ) → cond code loaded None ≡ Some word → cond code (decoded (cond code (option_and_then decoding loaded) None)) (Err NoCode) ≡ decoded (decoding word)
with_word true loaded word found = ap (λ (o : Option ℕ). decoded (option_and_then decoding o)) found
with_word false loaded word found = absurd (none-some word found)

pub fetched_word : (image : ImageValue) (a word : ℕ) → code_at image a ≡ Some word → fetched image a ≡ decoded (decoding word)
fetched_word image a word found = with_word (is_code image a) (word_at image a) word found
