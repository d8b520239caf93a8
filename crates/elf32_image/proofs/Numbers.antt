-- What an image holds are bytes and words where its file holds bytes.
use Rattle.std.proofs.Common.{◌≡◌, ℕ, zero, suc, ◌+◌, ◌-◌, ◌*◌, ◌^◌, ◌<◌, Bool, true, false, if◌then◌else◌, List, [], ◌∷◌, map, take, drop, Option, Some, None, find, refl, sym, subst, arith, get_or-drop}
use Rattle.std.proofs.lemmas.Option.{unwrap_or-slice_get}
use Rattle.elf32_image.specs.Bytes.{AreBytes, HoldsBytes, byte_at, byte_of, constant_at, constant_byte, constant_byte_at, covers, is_writable, loaded, loaded_byte, loaded_in, word_at, word_by, word_of}
use Rattle.elf32_image.specs.Parts.{Segment, ImageValue}
use Rattle.elf32_image.specs.Segments.{image_with, loaded_headers, segment_of}
use Rattle.elf32_image.specs.declared.format.FileHeader.{FileHeader}
use Rattle.elf32_image.specs.declared.format.ProgramHeader.{ProgramHeader}
use Rattle.elf32_image.specs.declared.image.Loaded.{Loaded}
use Rattle.elf32_image.specs.declared.image.Loaded.TheVariants.{No, ReadOnly, Writable}

bytes_of_front : (n : ℕ) (xs : List ℕ) → AreBytes xs → AreBytes (take n xs)
bytes_of_front zero xs h i = omega arith
bytes_of_front (suc n) [] h i = omega arith
bytes_of_front (suc n) (x ∷ xs) h zero = h 0
bytes_of_front (suc n) (x ∷ xs) h (suc i) = bytes_of_front n xs (λ j. h (suc j)) i

bytes_of_rest : (n : ℕ) (xs : List ℕ) → AreBytes xs → AreBytes (drop n xs)
bytes_of_rest n xs h i = subst (λ (b : ℕ). b < 2 ^ 8) (sym (get_or-drop n xs i 0)) (h (n + i))

byte_of_segment : (file : List ℕ) (h : ProgramHeader) (a : ℕ) → AreBytes file → byte_of (segment_of file h) a < 2 ^ 8
byte_of_segment file h a bytes =
    subst (λ (b : ℕ). b < 2 ^ 8) (sym (unwrap_or-slice_get (take h.p_filesz (drop h.p_offset file)) (a - h.p_vaddr) 0))
    (bytes_of_front h.p_filesz (drop h.p_offset file) (bytes_of_rest h.p_offset file bytes) (a - h.p_vaddr))

-- what one of the segments holds at an address
abbrev IsSmallAt : ℕ → Option Segment → Type 0
IsSmallAt a o = (byte : ℕ) → loaded_byte (loaded_in o a) ≡ Some byte → byte < 2 ^ 8

small_by_flag : (b : Bool) (n byte : ℕ) → n < 2 ^ 8 → loaded_byte (if b then Writable n else ReadOnly n) ≡ Some byte → byte < 2 ^ 8
small_by_flag true n byte lt e = let same : n ≡ byte = cc in subst (λ (m : ℕ). m < 2 ^ 8) same lt
small_by_flag false n byte lt e = let same : n ≡ byte = cc in subst (λ (m : ℕ). m < 2 ^ 8) same lt

small_if : (a : ℕ) (b : Bool) (s : Segment) (o : Option Segment) → byte_of s a < 2 ^ 8 → IsSmallAt a o
    → IsSmallAt a (if b then Some s else o)
small_if a true s o lt rest = λ byte e. small_by_flag (is_writable s) (byte_of s a) byte lt e
small_if a false s o lt rest = rest

small_among : (file : List ℕ) (a : ℕ) (hs : List ProgramHeader) → AreBytes file → IsSmallAt a (find (covers a) (map (segment_of file) hs))
small_among file a [] bytes = λ byte e. absurd (cc)
small_among file a (h ∷ hs) bytes =
    small_if a (covers a (segment_of file h)) (segment_of file h) (find (covers a) (map (segment_of file) hs)) (byte_of_segment file h a bytes) (small_among file a hs bytes)

pub holds_bytes : (file : List ℕ) (header : FileHeader) → AreBytes file → HoldsBytes (image_with file header)
unfolding image_with
holds_bytes file header bytes = λ a. small_among file a (loaded_headers file header) bytes

-- words of bytes
small_word : (o0 o1 o2 o3 : Option ℕ) (w : ℕ) → ((b : ℕ) → o0 ≡ Some b → b < 2 ^ 8) → ((b : ℕ) → o1 ≡ Some b → b < 2 ^ 8) → ((b : ℕ)
    → o2 ≡ Some b → b < 2 ^ 8)
    → ((b : ℕ) → o3 ≡ Some b → b < 2 ^ 8) → word_of o0 o1 o2 o3 ≡ Some w → w < 2 ^ 32
small_word (Some b0) (Some b1) (Some b2) (Some b3) w h0 h1 h2 h3 e =
    let s0 = h0 b0 refl in
    let s1 = h1 b1 refl in
    let s2 = h2 b2 refl in
    let s3 = h3 b3 refl in
    let same : b0 + 256 * b1 + 65536 * b2 + 16777216 * b3 ≡ w = cc in
    omega (arith, s0, s1, s2, s3, same)
small_word None o1 o2 o3 w h0 h1 h2 h3 e = absurd (cc)
small_word (Some b0) None o2 o3 w h0 h1 h2 h3 e = absurd (cc)
small_word (Some b0) (Some b1) None o3 w h0 h1 h2 h3 e = absurd (cc)
small_word (Some b0) (Some b1) (Some b2) None w h0 h1 h2 h3 e = absurd (cc)

small_if_aligned : (b : Bool) (o : Option ℕ) (w : ℕ) → (o ≡ Some w → w < 2 ^ 32) → (if b then o else None) ≡ Some w → w < 2 ^ 32
small_if_aligned true o w h e = h e
small_if_aligned false o w h e = absurd (cc)

small_word_by : (byte : ℕ → Option ℕ) (a w : ℕ) → ((at b : ℕ) → byte at ≡ Some b → b < 2 ^ 8) → word_by byte a ≡ Some w → w < 2 ^ 32
small_word_by byte a w h e =
    small_if_aligned _ (word_of (byte a) (byte (a + 1)) (byte (a + 2)) (byte (a + 3))) w
    (λ given. small_word (byte a) (byte (a + 1)) (byte (a + 2)) (byte (a + 3)) w (h a) (h (a + 1)) (h (a + 2)) (h (a + 3)) given) e

pub words_of_bytes : (image : ImageValue) → HoldsBytes image → (a w : ℕ) → word_at image a ≡ Some w → w < 2 ^ 32
words_of_bytes image h a w e = small_word_by (byte_at image) a w h e

-- a constant byte is a byte
loaded_constant : (l : Loaded) (b : ℕ) → constant_byte l ≡ Some b → loaded_byte l ≡ Some b
loaded_constant No b e = absurd (cc)
loaded_constant (ReadOnly n) b e = e
loaded_constant (Writable n) b e = absurd (cc)

pub constants_of_bytes : (image : ImageValue) → HoldsBytes image → (a w : ℕ) → constant_at image a ≡ Some w → w < 2 ^ 32
constants_of_bytes image h a w e =
    small_word_by (constant_byte_at image) a w (λ at b given. h at b (loaded_constant (loaded image at) b given)) e
