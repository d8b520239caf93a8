-- What stands at an address of the memory: the byte that was written there, or else the byte with which the run starts.
use Rattle.std.proofs.Common.{◌≡◌, ℕ, zero, suc, ◌+◌, ◌-◌, ◌%◌, ◌^◌, ◌<◌, ◌&&◌, Bool, true, false, cond, Option, Some, None, List, [], ◌∷◌, ◌++◌, eqb, leb, ltb, refl, sym, ap, ◌∙◌, arith}
use Rattle.std.proofs.lemmas.Bool.Decides.{nat_tests}
use Rattle.std.proofs.lemmas.Map.Lookups.{exact_unsigned}
use Rattle.std.specs.Ordering.{nat_cmp, eq_by_cmp}
use Rattle.std.specs.Cmp.{nat_cmp_total, unsigned_tied}
use Rattle.std.specs.Map.{lookup}
use Rattle.std.specs.List as list
use Rattle.std.specs.List.{flat_map}
use Rattle.std.specs.FinMap.{find, from_entries, get, insert, get-insert, get-from_entries, same_map}
use Rattle.elf32_image.specs.Parts.{ImageValue, Segment}
use Rattle.elf32_image.specs.Bytes.{byte_at, byte_of, covers, is_writable, loaded_byte, loaded_in}
use Rattle.elf32_image.specs.declared.image.Loaded.TheVariants.{ReadOnly, Writable}
use Rattle.arm_machine.specs.Memories.{entries_from, if_loaded, segment_entries, start_byte, start_entries, zeros_from}

-- a hash map's look-up is the finite map's
pub find_lookup : (es : List (ℕ × ℕ)) (q : ℕ) → find nat_cmp q es ≡ lookup (eqb q) es
find_lookup [] q = refl
find_lookup (e ∷ es) q =
    ap (λ (b : Bool). cond b (Some e.1) (find nat_cmp q es)) (unsigned_tied q e.0) ∙ ap (cond (eqb q e.0) (Some e.1)) (find_lookup es q)

in_front : (b : Bool) (v : ℕ) (x y : Option ℕ) → cond b (Some v) (if_loaded x y) ≡ if_loaded (cond b (Some v) x) y
in_front true v x y = refl
in_front false v x y = refl

-- of two lists of entries the first that has the address counts
pub find_split : (es fs : List (ℕ × ℕ)) (q : ℕ) → find nat_cmp q (es ++ fs) ≡ if_loaded (find nat_cmp q es) (find nat_cmp q fs)
find_split [] fs q = refl
find_split (e ∷ es) fs q =
    ap (cond (eq_by_cmp nat_cmp q e.0) (Some e.1)) (find_split es fs q)
    ∙ in_front (eq_by_cmp nat_cmp q e.0) e.1 (find nat_cmp q es) (find nat_cmp q fs)

-- one more address in front of a range of them
range_more : (q a n : ℕ) (x y : Option ℕ) → (q ≡ a → x ≡ y) → cond (eqb q a) x (cond (leb (a + 1) q && ltb q (a + 1 + n)) y None) ≡ cond (leb a q && ltb q (a + suc n)) y None
range_more q a n x y same = grind (arith, nat_tests, same)

no_range : (q a : ℕ) (y : Option ℕ) → cond (leb a q && ltb q (a + 0)) y None ≡ None
no_range q a y = grind (arith, nat_tests)

find_in_segment : (segment : Segment) (a n q : ℕ) → find nat_cmp q (entries_from segment a n) ≡ cond (leb a q && ltb q (a + n)) (Some (byte_of segment q)) None
find_in_segment segment a zero q = sym (no_range q a (Some (byte_of segment q)))
find_in_segment segment a (suc n) q =
    ap (λ (b : Bool). cond b (Some (byte_of segment a)) (find nat_cmp q (entries_from segment (a + 1) n))) (unsigned_tied q a)
    ∙ ap (cond (eqb q a) (Some (byte_of segment a))) (find_in_segment segment (a + 1) n q)
    ∙ range_more q a n (Some (byte_of segment a)) (Some (byte_of segment q)) (λ e. ap (λ (p : ℕ). Some (byte_of segment p)) (sym e))

byte_in : (segment : Segment) (q : ℕ) → loaded_byte (loaded_in (Some segment) q) ≡ Some (byte_of segment q)
byte_in segment q =
    elim (is_writable segment) as (λ (b : Bool). loaded_byte (cond b (Writable (byte_of segment q)) (ReadOnly (byte_of segment q))) ≡ Some (byte_of segment q)) [ true ↦ refl | false ↦ refl ]

one_segment : (b : Bool) (segment : Segment) (q : ℕ) (others : Option Segment) → if_loaded (cond b (Some (byte_of segment q)) None) (loaded_byte (loaded_in others q)) ≡ loaded_byte (loaded_in (cond b (Some segment) others) q)
one_segment true segment q others = sym (byte_in segment q)
one_segment false segment q others = refl

pub find_in_segments : (segments : List Segment) (q : ℕ) → find nat_cmp q (flat_map segment_entries segments) ≡ loaded_byte (loaded_in (list.find (covers q) segments) q)
unfolding segment_entries
find_in_segments [] q = refl
find_in_segments (segment ∷ segments) q =
    find_split (entries_from segment segment.address segment.size) (flat_map segment_entries segments) q
    ∙ ap (λ (o : Option ℕ). if_loaded o (find nat_cmp q (flat_map segment_entries segments))) (find_in_segment segment segment.address segment.size q)
    ∙ ap (if_loaded (cond (covers q segment) (Some (byte_of segment q)) None)) (find_in_segments segments q)
    ∙ one_segment (covers q segment) segment q (list.find (covers q) segments)

abbrev a_zero : Option ℕ
a_zero = Some 0

-- one more zero in front of others
zero_more : (q a n : ℕ) → q < 2 ^ 32 → a < 2 ^ 32 → n < 2 ^ 32 → cond (eqb q a) a_zero (cond (ltb ((q + 2 ^ 32 - (a + 1) % 2 ^ 32) % 2 ^ 32) n) a_zero None) ≡ cond (ltb ((q + 2 ^ 32 - a) % 2 ^ 32) (suc n)) a_zero None
zero_more q a n small start few = grind (arith, nat_tests)

find_zero : (a n q : ℕ) → q < 2 ^ 32 → a < 2 ^ 32 → n < 2 ^ 32 → find nat_cmp q (zeros_from a n) ≡ cond (ltb ((q + 2 ^ 32 - a) % 2 ^ 32) n) a_zero None
find_zero a zero q small start few = grind (arith, nat_tests)
find_zero a (suc n) q small start few =
    ap (λ (b : Bool). cond b a_zero (find nat_cmp q (zeros_from ((a + 1) % 2 ^ 32) n))) (unsigned_tied q a)
    ∙ ap (cond (eqb q a) a_zero) (find_zero ((a + 1) % 2 ^ 32) n q small (omega arith) (omega arith))
    ∙ zero_more q a n small start (omega arith)

-- the byte at an address when a run starts
pub find_start : (image : ImageValue) (bottom room q : ℕ) → q < 2 ^ 32 → bottom < 2 ^ 32 → room < 2 ^ 32 → find nat_cmp q (start_entries image bottom room) ≡ start_byte image bottom room q
unfolding start_entries
find_start image bottom room q small start few =
    find_split (flat_map segment_entries image.segments) (zeros_from bottom room) q
    ∙ ap (λ (o : Option ℕ). if_loaded o (find nat_cmp q (zeros_from bottom room))) (find_in_segments image.segments q)
    ∙ ap (if_loaded (byte_at image q)) (find_zero bottom room q small start few)

-- the byte at an address, by what was written and what was there at the start
pub get_held : (es fs : List (ℕ × ℕ)) (q : ℕ) → get (from_entries {R = nat_cmp} (es ++ fs)) q ≡ if_loaded (lookup (eqb q) es) (find nat_cmp q fs)
get_held es fs q =
    get-from_entries nat_cmp_total (es ++ fs) q ∙ find_split es fs q ∙ ap (λ (o : Option ℕ). if_loaded o (find nat_cmp q fs)) (find_lookup es q)

-- writes at other places change nothing, in whatever order a hash map keeps them
pub same_held : (es es' fs : List (ℕ × ℕ)) → ((q : ℕ) → lookup (eqb q) es' ≡ lookup (eqb q) es) → from_entries {R = nat_cmp} (es' ++ fs) ≡ from_entries (es ++ fs)
same_held es es' fs same =
    same_map nat_cmp_total exact_unsigned _ _ (λ q. get_held es' fs q ∙ ap (λ (o : Option ℕ). if_loaded o (find nat_cmp q fs)) (same q) ∙ sym (get_held es fs q))

-- a byte that is written
pub insert_held : (es es' fs : List (ℕ × ℕ)) (a b : ℕ) → ((q : ℕ) → lookup (eqb q) es' ≡ cond (eqb a q) (Some b) (lookup (eqb q) es)) → from_entries {R = nat_cmp} (es' ++ fs) ≡ insert (from_entries (es ++ fs)) a b
insert_held es es' fs a b writes =
    same_map nat_cmp_total exact_unsigned _ _ (λ q.
    get_held es' fs q ∙ ap (λ (o : Option ℕ). if_loaded o (find nat_cmp q fs)) (writes q)
    ∙ sym (in_front (eqb a q) b (lookup (eqb q) es) (find nat_cmp q fs))
    ∙ ap (cond (eqb a q) (Some b)) (sym (get_held es fs q))
    ∙ ap (λ (t : Bool). cond t (Some b) (get (from_entries {R = nat_cmp} (es ++ fs)) q)) (sym (unsigned_tied q a ∙ eqb_sym q a))
    ∙ sym (get-insert nat_cmp_total (from_entries (es ++ fs)) a b q))
  where
    eqb_sym : (x y : ℕ) → eqb x y ≡ eqb y x
    eqb_sym x y = grind (arith, nat_tests)
