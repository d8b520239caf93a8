-- The bytes and words of a segment, in the file and in the image.
use Rattle.std.proofs.Common.{◌≡◌, ℕ, ◌+◌, ◌-◌, ◌*◌, ◌<◌, ◌≤◌, List, get_or, take, drop, refl, sym, ap, ◌∙◌, arith, get_or-take, get_or-drop}
use Rattle.std.proofs.lemmas.Option.{unwrap_or-slice_get}
use Rattle.elf32_image.specs.Bytes.{byte_of}
use Rattle.elf32_image.specs.Index.{word_in}
use Rattle.elf32_image.specs.Segments.{segment_of}
use Rattle.elf32_image.specs.declared.format.ProgramHeader.{ProgramHeader}

-- a byte that the file has of a segment
pub byte_in_file : (file : List ℕ) (h : ProgramHeader) (a i : ℕ) → i ≡ h.p_offset + (a - h.p_vaddr) → a - h.p_vaddr < h.p_filesz → byte_of (segment_of file h) a ≡ get_or file i 0
byte_in_file file h a i at inside =
    unwrap_or-slice_get (take h.p_filesz (drop h.p_offset file)) (a - h.p_vaddr) 0
    ∙ get_or-take h.p_filesz (drop h.p_offset file) (a - h.p_vaddr) 0 inside
    ∙ get_or-drop h.p_offset file (a - h.p_vaddr) 0
    ∙ ap (λ j. get_or file j 0) (sym at)

-- a word that the file has of a segment
pub word_in_file : (file : List ℕ) (h : ProgramHeader) (a s : ℕ) → s ≡ h.p_offset + (a - h.p_vaddr) → h.p_vaddr ≤ a → a - h.p_vaddr + 4 ≤ h.p_filesz → get_or file s 0 + 256 * get_or file (s + 1) 0 + 65536 * get_or file (s + 2) 0 + 16777216 * get_or file (s + 3) 0 ≡ word_in (segment_of file h) a
word_in_file file h a s at start inside =
    let first : byte_of (segment_of file h) a ≡ get_or file s 0 = byte_in_file file h a s at (omega arith) in
    let second : byte_of (segment_of file h) (a + 1) ≡ get_or file (s + 1) 0 = byte_in_file file h (a + 1) (s + 1) (omega arith) (omega arith) in
    let third : byte_of (segment_of file h) (a + 2) ≡ get_or file (s + 2) 0 = byte_in_file file h (a + 2) (s + 2) (omega arith) (omega arith) in
    let fourth : byte_of (segment_of file h) (a + 3) ≡ get_or file (s + 3) 0 = byte_in_file file h (a + 3) (s + 3) (omega arith) (omega arith) in
    rw (← first, ← second, ← third, ← fourth) refl
