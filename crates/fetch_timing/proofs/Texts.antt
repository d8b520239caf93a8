-- What is UTF-8 text, as a fact and as a test.
use Rattle.std.proofs.Common.{◌≡◌, ℕ, List, true}
use Rattle.std.proofs.lemmas.Str.{IsUtf8-from_is_utf8, is_utf8-from_IsUtf8}
use Rattle.std.specs.Str.{IsUtf8, is_utf8}

pub text_tested : (bs : List ℕ) → IsUtf8 bs → is_utf8 bs ≡ true
text_tested = is_utf8-from_IsUtf8

pub tested_text : (bs : List ℕ) → is_utf8 bs ≡ true → IsUtf8 bs
tested_text = IsUtf8-from_is_utf8
