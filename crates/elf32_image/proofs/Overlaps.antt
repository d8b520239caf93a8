-- Whether two segments share an address, in the order of the program headers and in that of the addresses.
use Rattle.std.proofs.Common.{◌≡◌, ℕ, ◌+◌, ◌*◌, ◌<◌, ◌≤◌, zero, suc, Bool, true, false, ◌&&◌, ◌||◌, not, eqb, ltb, leb, cond, min, max, drop, List, [], ◌∷◌, length, get_or, map, filter, Option, Some, None, refl, sym, ap, subst, ◌∙◌, arith, zero-add, ⊎_elim}
use Rattle.std.specs.List.{Contains, count_by, find, list_all, list_any, sum_by}
use Rattle.std.specs.List.Sorted.{IsPermutation, IsNonDecreasingBy}
use Rattle.std.specs.Option.{option_map}
use Rattle.std.proofs.lemmas.Bool.{and_parts, cases_Bool, cases_lt, leb-true, ltb-true, le-leb, lt-ltb, le-ltb}
use Rattle.std.proofs.lemmas.List.Sums.{sum_by-cons}
use Rattle.std.proofs.lemmas.List.Sorted.{sum_by-IsPermutation, list_any-IsPermutation, Contains-permutation}
use Rattle.elf32_image.specs.Bytes.{covers}
use Rattle.elf32_image.specs.Index.{ascend, has_address, IsIndex}
use Rattle.elf32_image.specs.Parts.{ImageValue}
use Rattle.elf32_image.specs.Segments.{has_overlap, image_with, is_complete, is_loaded, is_within, loaded_headers, overlaps, program_headers, sections_of, segment_of, table_is_within}
use Rattle.elf32_image.specs.Sections.{functions_of, is_whole}
use Rattle.elf32_image.specs.declared.format.FileHeader.{FileHeader}
use Rattle.elf32_image.specs.declared.format.ProgramHeader.{ProgramHeader}
use Rattle.elf32_image.proofs.Ascent.{above_floor, ends_before, first_rise, found, found_passes, later_rise, passes}

-- Pairs of elements that a test holds of, each with one after it. Twice their number is the same in each order.
module _ {X : Type 0} (R : X → X → Bool) where
  abbrev pub any_pair : List X → Bool
  any_pair [] = false
  any_pair (x ∷ xs) = list_any (R x) xs || any_pair xs

  abbrev pub pairs : List X → ℕ
  pairs [] = 0
  pairs (x ∷ xs) = count_by (R x) xs + pairs xs

-- sums of plain numbers
one_more : (n : ℕ) → 0 < 1 + n
one_more n = omega arith

joined : (fg f g both fs gs x y : ℕ) → both ≡ (f + g) + fg → fg ≡ fs + gs → x ≡ f + fs → y ≡ g + gs → both ≡ x + y
joined fg f g both fs gs x y a b c d = omega arith

doubled : (all head spread one count rest own after pairs : ℕ) → all ≡ head + spread → head ≡ one + count → spread ≡ count + rest → rest ≡ after + 2 * pairs → own ≡ one + after → all ≡ own + 2 * (count + pairs)
doubled all head spread one count rest own after pairs a b c d e = omega arith

halved : (all again own too pairs others : ℕ) → all ≡ own + 2 * pairs → again ≡ too + 2 * others → again ≡ all → too ≡ own → pairs ≡ others
halved all again own too pairs others a b c d = omega arith

count_cons : {X : Type 0} (p : X → Bool) (x : X) (xs : List X) → count_by p (x ∷ xs) ≡ cond (p x) 1 0 + count_by p xs
count_cons p x xs = sum_by-cons (λ y. cond (p y) 1 0) x xs

any_by_count : {X : Type 0} (p : X → Bool) (xs : List X) → list_any p xs ≡ ltb 0 (count_by p xs)
any_by_count p [] = refl
any_by_count p (x ∷ xs) =
    elim (p x) as (λ b. (b || list_any p xs) ≡ ltb 0 (cond b 1 0 + count_by p xs)) [
      | true ↦ sym (lt-ltb 0 (1 + count_by p xs) (one_more (count_by p xs)))
      | false ↦ any_by_count p xs ∙ ap (ltb 0) (sym (zero-add (count_by p xs)))
    ]
    ∙ ap (ltb 0) (sym (count_cons p x xs))

or_positive : (a b : ℕ) → (ltb 0 a || ltb 0 b) ≡ ltb 0 (a + b)
or_positive zero b = ap (ltb 0) (sym (zero-add b))
or_positive (suc a) b = ap (λ c. c || ltb 0 b) (lt-ltb 0 (suc a) (omega arith)) ∙ sym (lt-ltb 0 (suc a + b) (omega arith))

any_by_pairs : {X : Type 0} (R : X → X → Bool) (xs : List X) → any_pair R xs ≡ ltb 0 (pairs R xs)
any_by_pairs R [] = refl
any_by_pairs R (x ∷ xs) =
    ap (λ b. b || any_pair R xs) (any_by_count (R x) xs) ∙ ap (λ b. ltb 0 (count_by (R x) xs) || b) (any_by_pairs R xs) ∙ or_positive (count_by (R x) xs) (pairs R xs)

-- the pairs of an element and any element, counted over all
abbrev all_pairs : {X : Type 0} (R : X → X → Bool) → List X → ℕ
all_pairs R xs = sum_by (λ x. count_by (R x) xs) xs

sum_same : {X : Type 0} (f g : X → ℕ) → ((x : X) → f x ≡ g x) → (xs : List X) → sum_by f xs ≡ sum_by g xs
sum_same f g same [] = refl
sum_same f g same (x ∷ xs) = sum_by-cons f x xs ∙ ap (λ n. n + sum_by f xs) (same x) ∙ ap (λ n. g x + n) (sum_same f g same xs) ∙ sym (sum_by-cons g x xs)

sum_both : {X : Type 0} (f g : X → ℕ) (xs : List X) → sum_by (λ x. f x + g x) xs ≡ sum_by f xs + sum_by g xs
sum_both f g [] = refl
sum_both f g (x ∷ xs) =
    joined (sum_by (λ y. f y + g y) xs) (f x) (g x) _ (sum_by f xs) (sum_by g xs) _ _
    (sum_by-cons (λ y. f y + g y) x xs) (sum_both f g xs) (sum_by-cons f x xs) (sum_by-cons g x xs)

twice : {X : Type 0} (R : X → X → Bool) → ((x y : X) → R x y ≡ R y x) → (xs : List X) → all_pairs R xs ≡ count_by (λ x. R x x) xs + 2 * pairs R xs
twice R symmetric [] = refl
twice R symmetric (x ∷ xs) =
    doubled _ _ _ (cond (R x x) 1 0) (count_by (R x) xs) (all_pairs R xs) _ (count_by (λ y. R y y) xs) (pairs R xs)
    (sum_by-cons (λ y. count_by (R y) (x ∷ xs)) x xs)
    (count_cons (R x) x xs)
    (sum_same (λ y. count_by (R y) (x ∷ xs)) (λ y. cond (R y x) 1 0 + count_by (R y) xs) (λ y. count_cons (R y) x xs) xs
    ∙ sum_both (λ y. cond (R y x) 1 0) (λ y. count_by (R y) xs) xs
    ∙ ap (λ n. n + all_pairs R xs) (sum_same (λ y. cond (R y x) 1 0) (λ y. cond (R x y) 1 0) (λ y. ap (λ b. cond b 1 0) (symmetric y x)) xs))
    (twice R symmetric xs)
    (count_cons (λ y. R y y) x xs)

-- a list and its permutation have such a pair alike
pub any_pair_permuted : {X : Type 0} (R : X → X → Bool) → ((x y : X) → R x y ≡ R y x) → (xs ys : List X) → IsPermutation xs ys → any_pair R xs ≡ any_pair R ys
any_pair_permuted R symmetric xs ys same =
    any_by_pairs R xs
    ∙ ap (ltb 0) (halved (all_pairs R xs) (all_pairs R ys) (count_by (λ x. R x x) xs) (count_by (λ x. R x x) ys) (pairs R xs) (pairs R ys)
    (twice R symmetric xs) (twice R symmetric ys)
    (sum_same (λ x. count_by (R x) ys) (λ x. count_by (R x) xs) (λ x. sum_by-IsPermutation (λ y. cond (R x y) 1 0) xs ys same) ys
    ∙ sum_by-IsPermutation (λ x. count_by (R x) xs) xs ys same)
    (sum_by-IsPermutation (λ x. cond (R x x) 1 0) xs ys same))
    ∙ sym (any_by_pairs R ys)

-- the segments of two headers share an address
abbrev meet : List ℕ → ProgramHeader → ProgramHeader → Bool
meet file g h = overlaps (segment_of file g) (segment_of file h)

least_turned : (a b c d : ℕ) → ltb (max a b) (min c d) ≡ ltb (max b a) (min d c)
least_turned a b c d =
    let greater : max a b ≡ max b a = omega arith in
    let lesser : min c d ≡ min d c = omega arith in
    rw (greater, lesser) refl

meet_turned : (file : List ℕ) (g h : ProgramHeader) → meet file g h ≡ meet file h g
meet_turned file g h = least_turned g.p_vaddr h.p_vaddr (g.p_vaddr + g.p_memsz) (h.p_vaddr + h.p_memsz)

any_mapped : {X Y : Type 0} (f : X → Y) (p : Y → Bool) (xs : List X) → list_any p (map f xs) ≡ list_any (λ x. p (f x)) xs
any_mapped f p [] = refl
any_mapped f p (x ∷ xs) = ap (λ b. p (f x) || b) (any_mapped f p xs)

overlap_by_pairs : (file : List ℕ) (hs : List ProgramHeader) → has_overlap (map (segment_of file) hs) ≡ any_pair (meet file) hs
overlap_by_pairs file [] = refl
overlap_by_pairs file (h ∷ hs) =
    ap (λ b. b || has_overlap (map (segment_of file) hs)) (any_mapped (segment_of file) (overlaps (segment_of file h)) hs)
    ∙ ap (λ b. list_any (meet file h) hs || b) (overlap_by_pairs file hs)

-- a segment after the end of another shares no address with it
apart : (a b c d : ℕ) → b ≤ c → ltb (max a c) (min b d) ≡ false
apart a b c d after = le-ltb (max a c) (min b d) (omega arith)

none_behind : (file : List ℕ) (h : ProgramHeader) (floor : ℕ) (hs : List ProgramHeader) → h.p_vaddr + h.p_memsz ≤ floor → ascend floor hs ≡ true → list_any (meet file h) hs ≡ false
none_behind file h floor [] below up = refl
none_behind file h floor (g ∷ gs) below up =
    let start : h.p_vaddr + h.p_memsz ≤ g.p_vaddr = omega (arith, first_rise floor g gs up, below) in
    ap (λ b. b || list_any (meet file h) gs) (apart h.p_vaddr (h.p_vaddr + h.p_memsz) g.p_vaddr (g.p_vaddr + g.p_memsz) start)
    ∙ none_behind file h (g.p_vaddr + g.p_memsz) gs (omega arith) (later_rise floor g gs up)

-- segments that ascend don't overlap
ascent_apart : (file : List ℕ) (floor : ℕ) (hs : List ProgramHeader) → ascend floor hs ≡ true → any_pair (meet file) hs ≡ false
ascent_apart file floor [] up = refl
ascent_apart file floor (h ∷ hs) up =
    ap (λ b. b || any_pair (meet file) hs) (none_behind file h (h.p_vaddr + h.p_memsz) hs (omega arith) (later_rise floor h hs up))
    ∙ ascent_apart file (h.p_vaddr + h.p_memsz) hs (later_rise floor h hs up)

-- segments in the order of their addresses that don't ascend overlap
crossing : (a b c d : ℕ) → a ≤ c → c < b → c < d → ltb (max a c) (min b d) ≡ true
crossing a b c d first inside some = lt-ltb (max a c) (min b d) (omega arith)

or_true : (b : Bool) → (b || true) ≡ true
or_true true = refl
or_true false = refl

size_positive : (h : ProgramHeader) → is_loaded h ≡ true → 0 < h.p_memsz
size_positive h test = ltb-true 0 h.p_memsz (and_parts (eqb h.p_type 1) (ltb 0 h.p_memsz) test).1

abbrev Rises : List ProgramHeader → Type 0
Rises hs = IsNonDecreasingBy (λ (h : ProgramHeader). h.p_vaddr) hs

rises_behind : (h : ProgramHeader) (hs : List ProgramHeader) → Rises (h ∷ hs) → Rises hs
rises_behind h hs up = λ i j d below inside. up (suc i) (suc j) d (omega arith) (omega arith)

descent_meets : (file : List ℕ) (floor : ℕ) (h : ProgramHeader) (hs : List ProgramHeader) → Rises (h ∷ hs) → list_all is_loaded (h ∷ hs) ≡ true → floor ≤ h.p_vaddr → ascend floor (h ∷ hs) ≡ false → any_pair (meet file) (h ∷ hs) ≡ true
descent_meets file floor h [] up sized start not_up = absurd (differ (sym (le-leb floor h.p_vaddr start) ∙ plain (leb floor h.p_vaddr) not_up))
  where
    plain : (b : Bool) → (b && true) ≡ false → b ≡ false
    plain true e = e
    plain false e = refl

    differ : true ≡ false → ⊥
    differ e = cc
descent_meets file floor h (g ∷ gs) up sized start not_up =
    ⊎_elim
    (λ inside.
    let order : h.p_vaddr ≤ g.p_vaddr = up 0 1 h (omega arith) (omega arith) in
    let some : 0 < g.p_memsz = size_positive g (and_parts _ _ (and_parts (is_loaded h) (list_all is_loaded (g ∷ gs)) sized).1).0 in
    ap (λ b. (b || list_any (meet file h) gs) || any_pair (meet file) (g ∷ gs)) (crossing h.p_vaddr (h.p_vaddr + h.p_memsz) g.p_vaddr (g.p_vaddr + g.p_memsz) order inside (omega arith)))
    (λ after.
    let not_behind : ascend (h.p_vaddr + h.p_memsz) (g ∷ gs) ≡ false = ap (λ b. b && ascend (h.p_vaddr + h.p_memsz) (g ∷ gs)) (sym (le-leb floor h.p_vaddr start)) ∙ not_up in
    ap (λ b. list_any (meet file h) (g ∷ gs) || b) (descent_meets file (h.p_vaddr + h.p_memsz) g gs (rises_behind h (g ∷ gs) up) (and_parts (is_loaded h) (list_all is_loaded (g ∷ gs)) sized).1 after not_behind)
    ∙ or_true (list_any (meet file h) (g ∷ gs)))
    (cases_lt g.p_vaddr (h.p_vaddr + h.p_memsz))

-- a test of all elements is one of all in another order
all_by_any : {X : Type 0} (p : X → Bool) (xs : List X) → list_all p xs ≡ not (list_any (λ x. not (p x)) xs)
all_by_any p [] = refl
all_by_any p (x ∷ xs) = elim (p x) as (λ b. (b && list_all p xs) ≡ not (not b || list_any (λ y. not (p y)) xs)) [ true ↦ all_by_any p xs | false ↦ refl ]

all_permuted : {X : Type 0} (p : X → Bool) (xs ys : List X) → IsPermutation xs ys → list_all p xs ≡ list_all p ys
all_permuted p xs ys same = all_by_any p xs ∙ ap not (list_any-IsPermutation (λ x. not (p x)) xs ys same) ∙ sym (all_by_any p ys)

all_kept : {X : Type 0} (p : X → Bool) (xs : List X) → list_all p (filter p xs) ≡ true
all_kept p [] = refl
all_kept p (x ∷ xs) = ⊎_elim
    (λ t. ap (λ b. list_all p (cond b (x ∷ filter p xs) (filter p xs))) t ∙ ap (λ b. b && list_all p (filter p xs)) t ∙ all_kept p xs)
    (λ f. ap (λ b. list_all p (cond b (x ∷ filter p xs) (filter p xs))) f ∙ all_kept p xs)
    (cases_Bool (p x))

-- an element that is found is in the list, and none is found where none passes
found_in : {X : Type 0} (p : X → Bool) (x : X) (xs : List X) → find p xs ≡ Some x → Contains xs x
found_in p x [] e = absurd (cc)
found_in p x (y ∷ ys) e =
    ⊎_elim
    (λ t. let both : Some y ≡ Some x = sym (found p y ys t) ∙ e in let same : y ≡ x = cc in (0, omega arith, same))
    (λ f. let later : Contains ys x = found_in p x ys (sym (passes p y ys f) ∙ e) in (suc later.0, further later.0 (length ys) later.1, later.2))
    (cases_Bool (p y))
  where
    further : (k n : ℕ) → k < n → suc k < suc n
    further k n below = omega arith

none_found : {X : Type 0} (p : X → Bool) (xs : List X) → list_any p xs ≡ false → find p xs ≡ None
none_found p [] e = refl
none_found p (x ∷ xs) e = elim (p x) as (λ b. (b || list_any p xs) ≡ false → cond b (Some x) (find p xs) ≡ None) [ true ↦ λ h. absurd (clash h) | false ↦ λ h. none_found p xs h ] e
  where
    clash : true ≡ false → ⊥
    clash h = cc

any_found : {X : Type 0} (p : X → Bool) (xs : List X) → find p xs ≡ None → list_any p xs ≡ false
any_found p [] e = refl
any_found p (x ∷ xs) e = elim (p x) as (λ b. cond b (Some x) (find p xs) ≡ None → (b || list_any p xs) ≡ false) [ true ↦ λ h. absurd (clash h) | false ↦ λ h. any_found p xs h ] e
  where
    clash : Some x ≡ None → ⊥
    clash h = cc

-- in an ascent the one segment with an address is found
one_found : (a floor k : ℕ) (h : ProgramHeader) (hs : List ProgramHeader) → ascend floor hs ≡ true → k < length hs → get_or hs k h ≡ h → has_address a h ≡ true → find (has_address a) hs ≡ Some h
one_found a floor k h [] up below here has = grind arith
one_found a floor zero h (g ∷ gs) up below here has = found (has_address a) g gs (ap (has_address a) here ∙ has) ∙ ap (λ (x : ProgramHeader). Some x) here
one_found a floor (suc k) h (g ∷ gs) up below here has =
    let start : h.p_vaddr ≤ a = leb-true _ _ (and_parts (leb h.p_vaddr a) (ltb a (h.p_vaddr + h.p_memsz)) has).0 in
    let after : g.p_vaddr + g.p_memsz ≤ (get_or gs k h).p_vaddr = above_floor (g.p_vaddr + g.p_memsz) k gs h (later_rise floor g gs up) (omega arith) in
    let read : (get_or gs k h).p_vaddr ≡ h.p_vaddr = ap (λ (x : ProgramHeader). x.p_vaddr) here in
    let end : g.p_vaddr + g.p_memsz ≤ a = omega (arith, after, read, start) in
    passes (has_address a) g gs (ends_before a g end) ∙ one_found a (g.p_vaddr + g.p_memsz) k h gs (later_rise floor g gs up) (omega arith) here has

-- a look-up in the order of the addresses finds what one in the order of the headers does
find_permuted : (a : ℕ) (xs ys : List ProgramHeader) → IsPermutation xs ys → ascend 0 ys ≡ true → find (has_address a) xs ≡ find (has_address a) ys
find_permuted a xs ys same up = by_answer (find (has_address a) xs) refl
  where
    by_answer : (o : Option ProgramHeader) → find (has_address a) xs ≡ o → o ≡ find (has_address a) ys
    by_answer None e = sym (none_found (has_address a) ys (sym (list_any-IsPermutation (has_address a) xs ys same) ∙ any_found (has_address a) xs e))
    by_answer (Some h) e =
        let there : Contains ys h = Contains-permutation xs ys h same (found_in (has_address a) h xs e) in
        sym (one_found a 0 there.0 h ys up there.1 there.2 (found_passes (has_address a) h xs e))

find_mapped : (file : List ℕ) (a : ℕ) (hs : List ProgramHeader) → find (covers a) (map (segment_of file) hs) ≡ option_map (segment_of file) (find (has_address a) hs)
find_mapped file a [] = refl
find_mapped file a (h ∷ hs) =
    elim (has_address a h) as (λ b. cond b (Some (segment_of file h)) (find (covers a) (map (segment_of file) hs)) ≡ option_map (segment_of file) (cond b (Some h) (find (has_address a) hs))) [ true ↦ refl | false ↦ find_mapped file a hs ]

-- What reading finds: the loaded headers, and the same in the order of their addresses.
module _ (file : List ℕ) (header : FileHeader) (read sorted : List ProgramHeader) (is : read ≡ loaded_headers file header) (same : IsPermutation read sorted) where
  overlap_as : has_overlap (map (segment_of file) (loaded_headers file header)) ≡ any_pair (meet file) sorted
  overlap_as = ap (λ l. has_overlap (map (segment_of file) l)) (sym is) ∙ overlap_by_pairs file read ∙ any_pair_permuted (meet file) (meet_turned file) read sorted same

  pub no_overlap : ascend 0 sorted ≡ true → has_overlap (image_with file header).segments ≡ false
  unfolding image_with
  no_overlap up = overlap_as ∙ ascent_apart file 0 sorted up

  pub some_overlap : IsNonDecreasingBy (λ (h : ProgramHeader). h.p_vaddr) sorted → ascend 0 sorted ≡ false → has_overlap (image_with file header).segments ≡ true
  unfolding image_with
  some_overlap rises not_up = overlap_as ∙ by_list sorted rises sized not_up
    where
      sized : list_all is_loaded sorted ≡ true
      sized = sym (all_permuted is_loaded read sorted same) ∙ ap (list_all is_loaded) is ∙ all_kept is_loaded (program_headers header.program_count (drop header.program_offset file))

      by_list : (hs : List ProgramHeader) → Rises hs → list_all is_loaded hs ≡ true → ascend 0 hs ≡ false → any_pair (meet file) hs ≡ true
      by_list [] rises_there sized_there e = absurd (clash e)
        where
          clash : true ≡ false → ⊥
          clash h = cc
      by_list (h ∷ hs) rises_there sized_there e = descent_meets file 0 h hs rises_there sized_there (omega arith) e

  pub is_index : is_complete file header ≡ true → ascend 0 sorted ≡ true → IsIndex file header sorted
  unfolding image_with is_complete
  is_index whole up = record {
    complete = whole;
    within = sym (all_permuted (is_within (length file)) read sorted same) ∙ ap (list_all (is_within (length file))) is ∙ (and_parts _ _ (and_parts _ _ whole).0).1;
    apart = up;
    held = λ a. ap (λ l. find (covers a) (map (segment_of file) l)) (sym is) ∙ find_mapped file a read ∙ ap (option_map (segment_of file)) (find_permuted a read sorted same up);
  }

-- an image of equal bytes
pub image_of_copy : (image : ImageValue) (file copy : List ℕ) (header : FileHeader) → image ≡ image_with copy header → copy ≡ file → image ≡ image_with file header
image_of_copy image file copy header is same = subst (λ (l : List ℕ). image ≡ image_with l header) same is

-- the parts of a file that is complete
pub programs_within : (file : List ℕ) (header : FileHeader) → is_complete file header ≡ true → table_is_within (length file) 32 header.program_offset header.program_count ≡ true
unfolding is_complete
programs_within file header whole = (and_parts _ _ (and_parts _ _ (and_parts _ _ whole).0).0).0

pub sections_within : (file : List ℕ) (header : FileHeader) → is_complete file header ≡ true → table_is_within (length file) 40 header.section_offset header.section_count ≡ true
unfolding is_complete
sections_within file header whole = (and_parts _ _ (and_parts _ _ (and_parts _ _ whole).0).0).1

pub sections_whole : (file : List ℕ) (header : FileHeader) → is_complete file header ≡ true → list_all (is_whole (length file) (sections_of file header)) (sections_of file header) ≡ true
unfolding is_complete
sections_whole file header whole = (and_parts _ _ whole).1

-- the parts of an image
pub functions_are : (file : List ℕ) (header : FileHeader) → (image_with file header).functions ≡ functions_of file (sections_of file header)
unfolding image_with
functions_are file header = refl
