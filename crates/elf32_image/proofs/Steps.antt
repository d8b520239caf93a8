-- Tables of entries, one after the other: the first entry, those after it, and the entry at a place.
use Rattle.std.proofs.Common.{◌≡◌, ℕ, ◌+◌, ◌-◌, ◌*◌, ◌<◌, ◌≤◌, zero, suc, Bool, true, false, ◌&&◌, cond, List, [], ◌∷◌, ◌++◌, append_assoc, length, drop, Some, None, refl, sym, ap, ◌∙◌, arith, length-drop, drop-drop, filter, slice_get, ⊎_elim}
use Rattle.std.specs.List.{list_all}
use Rattle.std.proofs.lemmas.Bool.{and_left, eqb-true, leb-true, or_cases}
use Rattle.elf32_image.specs.Sections.{section_header, section_headers, symbol_at, symbols}
use Rattle.elf32_image.specs.Segments.{is_loaded, program_header, program_headers, table_is_within}
use Rattle.elf32_image.specs.declared.format.ProgramHeader.{ProgramHeader}
use Rattle.elf32_image.specs.declared.format.SectionHeader.{SectionHeader}

-- what is left of a table still has room for the entries that are left
pub room_left : (size n : ℕ) (rest next : List ℕ) → next ≡ drop size rest → 0 < n → size * n ≤ length rest → size * (n - 1) ≤ length next
room_left size zero rest next is some room = grind arith
room_left size (suc n) rest next is some room =
    let e : length next ≡ length rest - size = ap length is ∙ length-drop size rest in
    let less : suc n - 1 ≡ n = omega arith in
    let more : size * suc n ≡ size * n + size = omega arith in
    rw less (omega arith)

-- a table with entries has its first one, and those after it
pub next_program : (n : ℕ) (rest : List ℕ) → 0 < n → program_headers n rest ≡ program_header rest ∷ program_headers (n - 1) (drop 32 rest)
next_program zero rest some = grind arith
next_program (suc n) rest some = let less : suc n - 1 ≡ n = omega arith in rw less

pub next_section : (n : ℕ) (rest : List ℕ) → 0 < n → section_headers n rest ≡ section_header rest ∷ section_headers (n - 1) (drop 40 rest)
next_section zero rest some = grind arith
next_section (suc n) rest some = let less : suc n - 1 ≡ n = omega arith in rw less

pub next_symbol : (n : ℕ) (rest : List ℕ) → 0 < n → symbols n rest ≡ symbol_at rest ∷ symbols (n - 1) (drop 16 rest)
next_symbol zero rest some = grind arith
next_symbol (suc n) rest some = let less : suc n - 1 ≡ n = omega arith in rw less

-- the section header at a place of the table
pub section_at : (n k : ℕ) (table : List ℕ) → k < n → slice_get (section_headers n table) k ≡ Some (section_header (drop (40 * k) table))
section_at zero k table below = grind arith
section_at (suc n) zero table below = refl
section_at (suc n) (suc k) table below =
    let more : 40 * suc k ≡ 40 + 40 * k = omega arith in
    section_at n k (drop 40 table) (omega arith) ∙ ap (λ l. Some (section_header l)) (drop-drop (40 * k) 40 table ∙ ap (λ m. drop m table) (sym more))

pub section_past : (n k : ℕ) (table : List ℕ) → n ≤ k → slice_get (section_headers n table) k ≡ None
section_past zero k table past = refl
section_past (suc n) zero table past = grind arith
section_past (suc n) (suc k) table past = section_past n k (drop 40 table) (omega arith)

-- a test of all sections: the first passes, or fails
pub all_next : (p : SectionHeader → Bool) (n : ℕ) (rest next : List ℕ) (s : SectionHeader) → next ≡ drop 40 rest → s ≡ section_header rest → 0 < n → p s ≡ true → list_all p (section_headers n rest) ≡ list_all p (section_headers (n - 1) next)
all_next p n rest next s is read some passes =
    ap (list_all p) (next_section n rest some)
    ∙ ap (λ b. b && list_all p (section_headers (n - 1) (drop 40 rest))) (ap p (sym read) ∙ passes)
    ∙ ap (λ l. list_all p (section_headers (n - 1) l)) (sym is)

pub all_ends : (p : SectionHeader → Bool) (n : ℕ) (rest : List ℕ) (s : SectionHeader) → s ≡ section_header rest → 0 < n → p s ≡ false → list_all p (section_headers n rest) ≡ false
all_ends p n rest s read some fails = ap (list_all p) (next_section n rest some) ∙ and_left _ _ (ap p (sym read) ∙ fails)

-- the loaded headers: the first is one, or is not
pub loaded_next : (n : ℕ) (rest next : List ℕ) (h : ProgramHeader) → next ≡ drop 32 rest → h ≡ program_header rest → 0 < n → is_loaded h ≡ true → filter is_loaded (program_headers n rest) ≡ h ∷ filter is_loaded (program_headers (n - 1) next)
loaded_next n rest next h is read some test =
    ap (filter is_loaded) (next_program n rest some)
    ∙ ap (λ x. cond (is_loaded x) (x ∷ filter is_loaded (program_headers (n - 1) (drop 32 rest))) (filter is_loaded (program_headers (n - 1) (drop 32 rest)))) (sym read)
    ∙ ap (λ b. cond b (h ∷ filter is_loaded (program_headers (n - 1) (drop 32 rest))) (filter is_loaded (program_headers (n - 1) (drop 32 rest)))) test
    ∙ ap (λ l. h ∷ filter is_loaded (program_headers (n - 1) l)) (sym is)

pub loaded_over : (n : ℕ) (rest next : List ℕ) (h : ProgramHeader) → next ≡ drop 32 rest → h ≡ program_header rest → 0 < n → is_loaded h ≡ false → filter is_loaded (program_headers n rest) ≡ filter is_loaded (program_headers (n - 1) next)
loaded_over n rest next h is read some test =
    ap (filter is_loaded) (next_program n rest some)
    ∙ ap (λ x. cond (is_loaded x) (x ∷ filter is_loaded (program_headers (n - 1) (drop 32 rest))) (filter is_loaded (program_headers (n - 1) (drop 32 rest)))) (sym read)
    ∙ ap (λ b. cond b (h ∷ filter is_loaded (program_headers (n - 1) (drop 32 rest))) (filter is_loaded (program_headers (n - 1) (drop 32 rest)))) test
    ∙ ap (λ l. filter is_loaded (program_headers (n - 1) l)) (sym is)

-- a test of the loaded headers: the first, which loads something, passes or fails
pub within_next : (p : ProgramHeader → Bool) (n : ℕ) (rest next : List ℕ) (h : ProgramHeader) → next ≡ drop 32 rest → h ≡ program_header rest → 0 < n → is_loaded h ≡ true → p h ≡ true → list_all p (filter is_loaded (program_headers n rest)) ≡ list_all p (filter is_loaded (program_headers (n - 1) next))
within_next p n rest next h is read some test passes =
    ap (list_all p) (loaded_next n rest next h is read some test) ∙ ap (λ b. b && list_all p (filter is_loaded (program_headers (n - 1) next))) passes

pub within_ends : (p : ProgramHeader → Bool) (n : ℕ) (rest : List ℕ) (h : ProgramHeader) → h ≡ program_header rest → 0 < n → is_loaded h ≡ true → p h ≡ false → list_all p (filter is_loaded (program_headers n rest)) ≡ false
within_ends p n rest h read some test fails = ap (list_all p) (loaded_next n rest (drop 32 rest) h refl read some test) ∙ and_left _ _ fails

-- what is done and what is left, where the first of what is left is moved
pub moved : {X : Type 0} (done more left next : List X) (x : X) → left ≡ x ∷ next → more ≡ done ++ x ∷ [] → more ++ next ≡ done ++ left
moved done more left next x first put = ap (λ l. l ++ next) put ∙ append_assoc done (x ∷ []) next ∙ ap (λ l. done ++ l) (sym first)

-- a table that ends within the file has room for its entries
pub table_room : (size offset count : ℕ) (file table : List ℕ) → table ≡ drop offset file → table_is_within (length file) size offset count ≡ true → size * count ≤ length table
table_room size offset count file table is within =
    let long : length table ≡ length file - offset = ap length is ∙ length-drop offset file in
    ⊎_elim
    (λ none. let empty : count ≡ 0 = eqb-true _ _ none in rw empty (omega arith))
    (λ ends. let fits = leb-true _ _ ends in omega arith)
    (or_cases _ _ within)
