-- The one value of a name: symbol by symbol, table by table.
use Rattle.std.proofs.Common.{◌≡◌, ℕ, ◌-◌, ◌*◌, ◌/◌, ◌==◌, ◌<◌, ◌≤◌, true, false, ◌&&◌, ◌||◌, not, eqb, cond, List, [], ◌∷◌, ◌++◌, length, drop, map, filter, Option, Some, None, Result, Ok, Err, slice_get, refl, sym, ap, ◌∙◌, arith, length-drop, ⊎_elim, if◌then◌else◌}
use Rattle.std.specs.List.{list_all, flat_map}
use Rattle.std.specs.Str.{bytes_eq}
use Rattle.std.proofs.lemmas.Bool.{and_parts, or_cases, eqb-true, leb-true}
use Rattle.elf32_image.specs.Names.{agreed, settled, even_value, one_value, values_of}
use Rattle.elf32_image.specs.Parts.{FunctionSymbol}
use Rattle.elf32_image.specs.Sections.{bytes_of, ends_within, functions_among, functions_in, is_function, is_symbol_table, is_there, is_whole, named_in, section_header, section_headers, symbol_at, symbol_count, symbols, until_zero}
use Rattle.elf32_image.specs.declared.format.SectionHeader.{SectionHeader}
use Rattle.elf32_image.specs.declared.format.Symbol.{Symbol}
use Rattle.elf32_image.specs.declared.refusal.NameRefusal.{NameRefusal}
use Rattle.elf32_image.specs.declared.refusal.NameRefusal.TheVariants.{TwoSymbols}
use Rattle.elf32_image.proofs.Steps.{next_section, next_symbol}

-- what further values make of those before
abbrev pub continued : Result (Option ℕ) NameRefusal → List ℕ → Result (Option ℕ) NameRefusal
continued (Ok before) values = agreed before values
continued (Err why) values = Err why

pub agreed_append : (before : Option ℕ) (xs ys : List ℕ) → agreed before (xs ++ ys) ≡ continued (agreed before xs) ys
agreed_append before [] ys = refl
agreed_append None (x ∷ xs) ys = agreed_append (Some x) xs ys
agreed_append (Some v) (x ∷ xs) ys =
    elim (eqb v x) as (λ b. cond b (agreed (Some v) (xs ++ ys)) (Err TwoSymbols) ≡ continued (cond b (agreed (Some v) xs) (Err TwoSymbols)) ys) [ true ↦ agreed_append (Some v) xs ys | false ↦ refl ]

-- values agree with one exactly where all are it
agreed_all : (v : ℕ) (xs : List ℕ) → agreed (Some v) xs ≡ (if list_all (λ x. v == x) xs then Ok (Some v) else Err TwoSymbols)
agreed_all v [] = refl
agreed_all v (x ∷ xs) =
    elim (eqb v x) as (λ b. cond b (agreed (Some v) xs) (Err TwoSymbols) ≡ cond (b && list_all (λ y. v == y) xs) (Ok (Some v)) (Err TwoSymbols)) [ true ↦ agreed_all v xs | false ↦ refl ]

-- the answer after all values
abbrev pub answered : Result (Option ℕ) NameRefusal → Result ℕ NameRefusal
answered (Ok found) = settled found
answered (Err why) = Err why

pub answered_one : (values : List ℕ) → answered (agreed None values) ≡ one_value values
answered_one [] = refl
answered_one (v ∷ vs) =
    ap answered (agreed_all v vs)
    ∙ elim (list_all (λ x. v == x) vs) as (λ b. answered (cond b (Ok (Some v)) (Err TwoSymbols)) ≡ cond b (even_value v) (Err TwoSymbols)) [ true ↦ refl | false ↦ refl ]

-- the values of the symbols of two lists
pub values_append : (name : List ℕ) (fs gs : List FunctionSymbol) → values_of name (fs ++ gs) ≡ values_of name fs ++ values_of name gs
values_append name [] gs = refl
values_append name (f ∷ fs) gs =
    elim (bytes_eq f.name name) as
    (λ b. map (λ (g : FunctionSymbol). g.value) (cond b (f ∷ filter (λ g. bytes_eq g.name name) (fs ++ gs)) (filter (λ g. bytes_eq g.name name) (fs ++ gs)))
    ≡ map (λ (g : FunctionSymbol). g.value) (cond b (f ∷ filter (λ g. bytes_eq g.name name) fs) (filter (λ g. bytes_eq g.name name) fs)) ++ values_of name gs)
    [ true ↦ ap (λ l. f.value ∷ l) (values_append name fs gs) | false ↦ values_append name fs gs ]

-- the values of the symbols that are left
abbrev pub values_left : List ℕ → List ℕ → ℕ → List ℕ → List ℕ
values_left name strings n rest = values_of name (functions_among strings n rest)

-- a symbol that is no function, or has another name, is passed over
pub other_kind : (name strings rest next : List ℕ) (n : ℕ) (s : Symbol) → next ≡ drop 16 rest → s ≡ symbol_at rest → 0 < n → is_function s ≡ false → values_left name strings n rest ≡ values_left name strings (n - 1) next
other_kind name strings rest next n s is read some test =
    ap (λ l. values_of name (map (named_in strings) (filter is_function l))) (next_symbol n rest some)
    ∙ ap (λ b. values_of name (map (named_in strings) (cond b (symbol_at rest ∷ filter is_function (symbols (n - 1) (drop 16 rest))) (filter is_function (symbols (n - 1) (drop 16 rest)))))) (ap is_function (sym read) ∙ test)
    ∙ ap (λ l. values_left name strings (n - 1) l) (sym is)

function_first : (name strings rest next : List ℕ) (n : ℕ) (s : Symbol) → next ≡ drop 16 rest → s ≡ symbol_at rest → 0 < n → is_function s ≡ true → values_left name strings n rest ≡ values_of name (named_in strings s ∷ functions_among strings (n - 1) next)
function_first name strings rest next n s is read some test =
    ap (λ l. values_of name (map (named_in strings) (filter is_function l))) (next_symbol n rest some)
    ∙ ap (λ b. values_of name (map (named_in strings) (cond b (symbol_at rest ∷ filter is_function (symbols (n - 1) (drop 16 rest))) (filter is_function (symbols (n - 1) (drop 16 rest)))))) (ap is_function (sym read) ∙ test)
    ∙ ap (λ x. values_of name (named_in strings x ∷ functions_among strings (n - 1) (drop 16 rest))) (sym read)
    ∙ ap (λ l. values_of name (named_in strings s ∷ functions_among strings (n - 1) l)) (sym is)

pub other_name : (name strings rest next : List ℕ) (n : ℕ) (s : Symbol) → next ≡ drop 16 rest → s ≡ symbol_at rest → 0 < n → is_function s ≡ true → bytes_eq (until_zero (drop s.st_name strings)) name ≡ false → values_left name strings n rest ≡ values_left name strings (n - 1) next
other_name name strings rest next n s is read some test name_test =
    function_first name strings rest next n s is read some test
    ∙ ap (λ b. map (λ (g : FunctionSymbol). g.value) (cond b (named_in strings s ∷ filter (λ g. bytes_eq g.name name) (functions_among strings (n - 1) next)) (filter (λ g. bytes_eq g.name name) (functions_among strings (n - 1) next)))) name_test

-- the value of a function symbol with the name comes first
pub same_name : (name strings rest next : List ℕ) (n : ℕ) (s : Symbol) → next ≡ drop 16 rest → s ≡ symbol_at rest → 0 < n → is_function s ≡ true → bytes_eq (until_zero (drop s.st_name strings)) name ≡ true → values_left name strings n rest ≡ s.st_value ∷ values_left name strings (n - 1) next
same_name name strings rest next n s is read some test name_test =
    function_first name strings rest next n s is read some test
    ∙ ap (λ b. map (λ (g : FunctionSymbol). g.value) (cond b (named_in strings s ∷ filter (λ g. bytes_eq g.name name) (functions_among strings (n - 1) next)) (filter (λ g. bytes_eq g.name name) (functions_among strings (n - 1) next)))) name_test

-- one value more
pub agreed_next : (before found : Option ℕ) (value : ℕ) (values : List ℕ) → Ok found ≡ agreed before (value ∷ []) → agreed found values ≡ agreed before (value ∷ values)
agreed_next before found value values one =
    ap (λ r. continued r values) one ∙ sym (agreed_append before (value ∷ []) values)

pub agreed_ends : (before : Option ℕ) (why : NameRefusal) (value : ℕ) (values : List ℕ) → Err why ≡ agreed before (value ∷ []) → Err why ≡ agreed before (value ∷ values)
agreed_ends before why value values one =
    ap (λ r. continued r values) one ∙ sym (agreed_append before (value ∷ []) values)

-- the values of the symbols of the sections that are left
abbrev pub section_values : List ℕ → List ℕ → List SectionHeader → ℕ → List ℕ → List ℕ
section_values name file all n rest = values_of name (flat_map (functions_in file all) (section_headers n rest))

section_first : (name file rest next : List ℕ) (all : List SectionHeader) (n : ℕ) (s : SectionHeader) → next ≡ drop 40 rest → s ≡ section_header rest → 0 < n → section_values name file all n rest ≡ values_of name (functions_in file all s) ++ section_values name file all (n - 1) next
section_first name file rest next all n s is read some =
    ap (λ l. values_of name (flat_map (functions_in file all) l)) (next_section n rest some)
    ∙ values_append name (functions_in file all (section_header rest)) (flat_map (functions_in file all) (section_headers (n - 1) (drop 40 rest)))
    ∙ ap (λ x. values_of name (functions_in file all x) ++ section_values name file all (n - 1) (drop 40 rest)) (sym read)
    ∙ ap (λ l. values_of name (functions_in file all s) ++ section_values name file all (n - 1) l) (sym is)

-- a section that is no symbol table is passed over
pub other_section : (name file rest next : List ℕ) (all : List SectionHeader) (n : ℕ) (s : SectionHeader) → next ≡ drop 40 rest → s ≡ section_header rest → 0 < n → is_symbol_table s ≡ false → section_values name file all n rest ≡ section_values name file all (n - 1) next
other_section name file rest next all n s is read some test =
    section_first name file rest next all n s is read some
    ∙ ap (λ b. values_of name (cond b (functions_among (bytes_of file (slice_get all s.sh_link)) (symbol_count s) (drop s.sh_offset file)) []) ++ section_values name file all (n - 1) next) test

-- the symbols of a symbol table come first
pub table_first : (name file rest next strings table : List ℕ) (all : List SectionHeader) (n count : ℕ) (s : SectionHeader) → next ≡ drop 40 rest → s ≡ section_header rest → 0 < n → is_symbol_table s ≡ true → strings ≡ bytes_of file (slice_get all s.sh_link) → table ≡ drop s.sh_offset file → count ≡ symbol_count s → section_values name file all n rest ≡ values_left name strings count table ++ section_values name file all (n - 1) next
table_first name file rest next strings table all n count s is read some test linked from counted =
    section_first name file rest next all n s is read some
    ∙ ap (λ b. values_of name (cond b (functions_among (bytes_of file (slice_get all s.sh_link)) (symbol_count s) (drop s.sh_offset file)) []) ++ section_values name file all (n - 1) next) test
    ∙ ap (λ l. values_left name l (symbol_count s) (drop s.sh_offset file) ++ section_values name file all (n - 1) next) (sym linked)
    ∙ ap (λ l. values_left name strings (symbol_count s) l ++ section_values name file all (n - 1) next) (sym from)
    ∙ ap (λ m. values_left name strings m table ++ section_values name file all (n - 1) next) (sym counted)

-- the values of a table more
pub agreed_table : (before found : Option ℕ) (xs ys : List ℕ) → Ok found ≡ agreed before xs → agreed found ys ≡ agreed before (xs ++ ys)
agreed_table before found xs ys one = ap (λ r. continued r ys) one ∙ sym (agreed_append before xs ys)

pub agreed_stops : (before : Option ℕ) (why : NameRefusal) (xs ys : List ℕ) → Err why ≡ agreed before xs → Err why ≡ agreed before (xs ++ ys)
agreed_stops before why xs ys one = ap (λ r. continued r ys) one ∙ sym (agreed_append before xs ys)

-- a whole symbol table has its symbols in the file
pub symbols_fit : (file table : List ℕ) (all : List SectionHeader) (count : ℕ) (s : SectionHeader) → is_symbol_table s ≡ true → is_whole (length file) all s ≡ true → table ≡ drop s.sh_offset file → count ≡ symbol_count s → 16 * count ≤ length table
symbols_fit file table all count s test whole from counted =
    let long : length table ≡ length file - s.sh_offset = ap length from ∙ length-drop s.sh_offset file in
    let ends = and_parts _ _ (ap (λ b. not b || (ends_within (length file) (symbol_count s) s && is_there (length file) (slice_get all s.sh_link))) (sym test) ∙ whole) in
    ⊎_elim
    (λ none. let zero_of : s.sh_size / 16 ≡ 0 = eqb-true _ _ none in omega arith)
    (λ within. let fits = leb-true _ _ within in omega arith)
    (or_cases _ _ ends.0)

-- the sections after a whole one are whole, and it is
pub whole_first : (size : ℕ) (all : List SectionHeader) (n : ℕ) (rest : List ℕ) (s : SectionHeader) → s ≡ section_header rest → 0 < n → list_all (is_whole size all) (section_headers n rest) ≡ true → is_whole size all s ≡ true
whole_first size all n rest s read some test =
    ap (is_whole size all) read ∙ (and_parts _ _ (ap (list_all (is_whole size all)) (sym (next_section n rest some)) ∙ test)).0

pub whole_behind : (size : ℕ) (all : List SectionHeader) (n : ℕ) (rest next : List ℕ) → next ≡ drop 40 rest → 0 < n → list_all (is_whole size all) (section_headers n rest) ≡ true → list_all (is_whole size all) (section_headers (n - 1) next) ≡ true
whole_behind size all n rest next is some test =
    ap (λ l. list_all (is_whole size all) (section_headers (n - 1) l)) is
    ∙ (and_parts _ _ (ap (list_all (is_whole size all)) (sym (next_section n rest some)) ∙ test)).1
