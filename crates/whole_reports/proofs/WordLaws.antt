-- Words that spaces set apart are read as those words; what words write is read back.
use Rattle.std.proofs.Common.{ℕ, ℤ, pos, negsuc, zero, suc, ◌^◌, ◌<◌, ◌≡◌, ◌≢◌, ◌||◌, ◌==◌, Bool, true, false, List, [], ◌∷◌, ◌++◌, Option, Some, refl, sym, ap, ◌∙◌, subst, append_assoc, append-nil, map, nat_lt, unsigned_abs, codes, replicate, if◌then◌else◌, option_and_then, arith}
use Rattle.std.proofs.lemmas.Bool.Decides.{nat_tests}
use Rattle.std.specs.Fmt.{decimal, signed_decimal, digits, padded_integral, char_count}
use Rattle.std.specs.Char.{digit_value}
use Rattle.std.specs.Int.{IsInRange}
use Rattle.std.specs.Str.Parse.{AllDigits}
use Rattle.std.proofs.lemmas.Str.Parse.{digit_from_value}
use Rattle.std.proofs.lemmas.Fmt.{digits_is_IsNumeral}
use Rattle.report_elements.specs.Elements.{address_text, in_brackets}
use Rattle.report_elements.proofs.DigitLaws.{digits_decimal}
use Rattle.report_elements.proofs.AddressLaws.{address_read}
use Rattle.report_elements.specs.Words.{address_of, all_on, before, from, words, words_on}
use Rattle.whole_reports.proofs.WalkLaws.{NoFeed, no_feed_both}

-- no space and no line feed
abbrev pub Plain : List ℕ → Type 0
Plain [] = Unit {0}
Plain (b ∷ bs) = (b ≢ 32) × (b ≢ 10) × Plain bs

abbrev pub AllPlain : List (List ℕ) → Type 0
AllPlain [] = Unit {0}
AllPlain (w ∷ ws) = Plain w × AllPlain ws

pub plain_both : (xs ys : List ℕ) → Plain xs → Plain ys → Plain (xs ++ ys)
plain_both [] ys x y = y
plain_both (b ∷ xs) ys x y = (x.0, x.1, plain_both xs ys x.2 y)

pub all_plain_both : (xs ys : List (List ℕ)) → AllPlain xs → AllPlain ys → AllPlain (xs ++ ys)
all_plain_both [] ys x y = y
all_plain_both (b ∷ xs) ys x y = (x.0, all_plain_both xs ys x.1 y)

space_step : (w : List ℕ) (b : ℕ) (bs : List ℕ) → b ≢ 32 → words_on w (b ∷ bs) ≡ words_on (w ++ b ∷ []) bs
space_step w b bs other = grind (arith, nat_tests)

word_on : (w ds rest : List ℕ) → Plain ds → words_on w (ds ++ rest) ≡ words_on (w ++ ds) rest
word_on w [] rest d = ap (λ (v : List ℕ). words_on v rest) (sym (append-nil w))
word_on w (c ∷ cs) rest d =
    space_step w c (cs ++ rest) d.0 ∙ word_on (w ++ c ∷ []) cs rest d.2 ∙ ap (λ (v : List ℕ). words_on v rest) (append_assoc w (c ∷ []) cs)

pending : (w : List ℕ) (ws : List (List ℕ)) → words_on w (in_brackets ws) ≡ w ∷ words (in_brackets ws)
pending w [] = refl
pending w (v ∷ ws) = refl

pub words_read : (ws : List (List ℕ)) → AllPlain ws → words (in_brackets ws) ≡ ws
words_read [] p = refl
words_read (w ∷ ws) p = word_on [] w (in_brackets ws) p.0 ∙ pending w ws ∙ ap (λ (vs : List (List ℕ)). w ∷ vs) (words_read ws p.1)

plain_clean : (bs : List ℕ) → Plain bs → NoFeed bs
plain_clean [] p = tt
plain_clean (b ∷ bs) p = (p.1, plain_clean bs p.2)

space_clean : ◌≢◌ {A = ℕ} 32 10
space_clean e = absurd (omega (arith, e))

words_clean : (ws : List (List ℕ)) → AllPlain ws → NoFeed (in_brackets ws)
words_clean [] p = tt
words_clean (w ∷ ws) p = (space_clean, no_feed_both w (in_brackets ws) (plain_clean w p.0) (words_clean ws p.1))

pub joined_clean : (key : List ℕ) (ws : List (List ℕ)) → Plain key → AllPlain ws → NoFeed (key ++ in_brackets ws)
joined_clean key ws k p = no_feed_both key (in_brackets ws) (plain_clean key k) (words_clean ws p)

-- fixed words
abbrev pub is_plain : List ℕ → Bool
is_plain [] = true
is_plain (b ∷ bs) = if b == 32 then false else if b == 10 then false else is_plain bs

fixed_step : (b : ℕ) (bs : List ℕ) → is_plain (b ∷ bs) ≡ true → (b ≢ 32) × (b ≢ 10) × (is_plain bs ≡ true)
fixed_step b bs e = grind (arith, nat_tests)

pub plain_fixed : (bs : List ℕ) → is_plain bs ≡ true → Plain bs
plain_fixed [] e = tt
plain_fixed (b ∷ bs) e = let parts = fixed_step b bs e in (parts.0, parts.1, plain_fixed bs parts.2)

-- numbers
pub plain_digits : (ds : List ℕ) → AllDigits 10 ds → Plain ds
plain_digits [] d = tt
plain_digits (c ∷ cs) d = ((λ e. absurd (omega (arith, digit_from_value c d.0, e))), (λ e. absurd (omega (arith, digit_from_value c d.0, e))), plain_digits cs d.1)

pub plain_decimal : (n : ℕ) → n < 2 ^ 127 → Plain (decimal n)
plain_decimal n small = plain_digits (decimal n) (digits_decimal n small)

pub plain_signed : (z : ℤ) → unsigned_abs z < 2 ^ 127 → Plain (signed_decimal z)
plain_signed (pos n) small = plain_decimal n small
plain_signed (negsuc n) small = ((λ e. absurd (omega (arith, e))), (λ e. absurd (omega (arith, e))), plain_decimal (suc n) small)

hex_not : (c : ℕ) → digit_value c < 16 → (c ≢ 32) × (c ≢ 10)
hex_not c d = ((λ e. absurd (high 32 (subst (λ (x : ℕ). digit_value x < 16) e d) refl)), (λ e. absurd (high 10 (subst (λ (x : ℕ). digit_value x < 16) e d) refl)))
  where
    high : (x : ℕ) → digit_value x < 16 → nat_lt (digit_value x) 16 ≡ false → ⊥
    high x low is = absurd (grind (arith, nat_tests, low, is))

plain_hex : (ds : List ℕ) → AllDigits 16 ds → Plain ds
plain_hex [] d = tt
plain_hex (c ∷ cs) d = let other = hex_not c d.0 in (other.0, other.1, plain_hex cs d.1)

plain_zeros : (k : ℕ) → Plain (replicate k 48)
plain_zeros zero = tt
plain_zeros (suc k) = ((λ e. absurd (omega (arith, e))), (λ e. absurd (omega (arith, e))), plain_zeros k)

address_is : (a : ℕ) → (k : ℕ) × (address_text a ≡ codes "0x" ++ (replicate k 48 ++ (digits 16 false a ++ [])))
unfolding padded_integral char_count
address_is a = (_, refl)

pub plain_address : (a : ℕ) → a < 2 ^ 32 → Plain (address_text a)
plain_address a small =
    let text = address_is a in
    let is = digits_is_IsNumeral 16 false (omega arith) (omega arith) a (omega arith) in
    let hex = plain_both (replicate text.0 48) (digits 16 false a ++ []) (plain_zeros text.0) (plain_both (digits 16 false a) [] (plain_hex (digits 16 false a) is.0.1) tt) in
    subst Plain (sym text.1) (plain_both (codes "0x") (replicate text.0 48 ++ (digits 16 false a ++ [])) (plain_fixed (codes "0x") refl) hex)

pub address_back : (a : ℕ) → a < 2 ^ 32 → address_of (address_text a) ≡ Some a
address_back a small = let r = address_read a small in ap address_of r.1 ∙ r.2

-- words of two parts
abbrev pub NoMark : ℕ → List ℕ → Type 0
NoMark mark [] = Unit {0}
NoMark mark (b ∷ bs) = (b ≢ mark) × NoMark mark bs

mark_step : (mark b : ℕ) (bs : List ℕ) → b ≢ mark → (before mark (b ∷ bs) ≡ b ∷ before mark bs) × (from mark (b ∷ bs) ≡ from mark bs)
mark_step mark b bs other = (grind (arith, nat_tests), grind (arith, nat_tests))

pub before_mark : (mark : ℕ) (ds rest : List ℕ) → NoMark mark ds → before mark (ds ++ (mark ∷ rest)) ≡ ds
before_mark mark [] rest d = grind (arith, nat_tests)
before_mark mark (c ∷ cs) rest d = (mark_step mark c (cs ++ (mark ∷ rest)) d.0).0 ∙ ap (λ (xs : List ℕ). c ∷ xs) (before_mark mark cs rest d.1)

pub from_mark : (mark : ℕ) (ds rest : List ℕ) → NoMark mark ds → from mark (ds ++ (mark ∷ rest)) ≡ mark ∷ rest
from_mark mark [] rest d = grind (arith, nat_tests)
from_mark mark (c ∷ cs) rest d = (mark_step mark c (cs ++ (mark ∷ rest)) d.0).1 ∙ from_mark mark cs rest d.1

digits_mark : (mark : ℕ) (ds : List ℕ) → AllDigits 10 ds → nat_lt mark 48 || nat_lt 57 mark ≡ true → NoMark mark ds
digits_mark mark [] d out = tt
digits_mark mark (c ∷ cs) d out = ((λ e. absurd (apart c mark (digit_from_value c d.0) e out)), digits_mark mark cs d.1 out)
  where
    apart : (c mark : ℕ) → IsInRange 48 57 c → c ≡ mark → nat_lt mark 48 || nat_lt 57 mark ≡ true → ⊥
    apart c mark range e out = absurd (grind (arith, nat_tests, range, e, out))

pub decimal_mark : (mark n : ℕ) → n < 2 ^ 127 → nat_lt mark 48 || nat_lt 57 mark ≡ true → NoMark mark (decimal n)
decimal_mark mark n small out = digits_mark mark (decimal n) (digits_decimal n small) out

pub signed_mark : (z : ℤ) → unsigned_abs z < 2 ^ 127 → NoMark 42 (signed_decimal z)
signed_mark (pos n) small = decimal_mark 42 n small refl
signed_mark (negsuc n) small = ((λ e. absurd (omega (arith, e))), decimal_mark 42 (suc n) small refl)

pub bracket_mark : (z : ℤ) → unsigned_abs z < 2 ^ 127 → NoMark 93 (signed_decimal z)
bracket_mark (pos n) small = decimal_mark 93 n small refl
bracket_mark (negsuc n) small = ((λ e. absurd (omega (arith, e))), decimal_mark 93 (suc n) small refl)

-- lists of words
abbrev pub EachReads : {A : Type 0} → (List ℕ → Option A) → (A → List ℕ) → List A → Type 0
EachReads read text [] = Unit {0}
EachReads read text (x ∷ xs) = (read (text x) ≡ Some x) × EachReads read text xs

pub all_read : {A : Type 0} (read : List ℕ → Option A) (text : A → List ℕ) (xs done : List A) → EachReads read text xs → all_on read done (map text xs) ≡ Some (done ++ xs)
all_read read text [] done each = ap Some (sym (append-nil done))
all_read {A} read text (x ∷ xs) done each =
    ap (option_and_then (λ (a : A). all_on read (done ++ a ∷ []) (map text xs))) each.0
    ∙ all_read read text xs (done ++ x ∷ []) each.1
    ∙ ap Some (append_assoc done (x ∷ []) xs)
