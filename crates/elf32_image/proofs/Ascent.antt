-- Program headers in the order of their addresses: which of them has an address.
use Rattle.std.proofs.Common.{◌≡◌, ℕ, ◌+◌, ◌<◌, ◌≤◌, zero, suc, Bool, true, false, cond, List, [], ◌∷◌, length, get_or, take, drop, ltb, leb, Some, None, refl, sym, ap, ◌∙◌, arith, ⊎_elim}
use Rattle.std.specs.List.{find, list_all}
use Rattle.std.proofs.lemmas.Bool.{and_parts, and_from, and_left, and_right, cases_Bool, leb-true, ltb-true, le-leb, lt-ltb, lt-leb, le-ltb, cases_lt}
use Rattle.elf32_image.specs.Index.{ascend, has_address, HasWord}
use Rattle.elf32_image.specs.declared.format.ProgramHeader.{ProgramHeader}

-- the two parts of an ascent
pub first_rise : (floor : ℕ) (h : ProgramHeader) (hs : List ProgramHeader) → ascend floor (h ∷ hs) ≡ true → floor ≤ h.p_vaddr
first_rise floor h hs up = leb-true _ _ (and_parts _ (ascend (h.p_vaddr + h.p_memsz) hs) up).0

pub later_rise : (floor : ℕ) (h : ProgramHeader) (hs : List ProgramHeader) → ascend floor (h ∷ hs) ≡ true → ascend (h.p_vaddr + h.p_memsz) hs ≡ true
later_rise floor h hs up = (and_parts _ (ascend (h.p_vaddr + h.p_memsz) hs) up).1

-- an ascent from a floor is one from each lower floor
pub lower_floor : (low high : ℕ) (hs : List ProgramHeader) → low ≤ high → ascend high hs ≡ true → ascend low hs ≡ true
lower_floor low high [] below up = refl
lower_floor low high (h ∷ hs) below up =
    let rise : low ≤ h.p_vaddr = omega (arith, first_rise high h hs up) in
    and_from _ _ (le-leb _ _ rise) (later_rise high h hs up)

-- each segment begins at the floor or after it
pub above_floor : (floor i : ℕ) (hs : List ProgramHeader) (d : ProgramHeader) → ascend floor hs ≡ true → i < length hs → floor ≤ (get_or hs i d).p_vaddr
above_floor floor i [] d up inside = grind arith
above_floor floor zero (h ∷ hs) d up inside = first_rise floor h hs up
above_floor floor (suc i) (h ∷ hs) d up inside =
    omega (arith, first_rise floor h hs up, above_floor (h.p_vaddr + h.p_memsz) i hs d (later_rise floor h hs up) (omega arith))

pub rise_drop : (floor i : ℕ) (hs : List ProgramHeader) → ascend floor hs ≡ true → ascend floor (drop i hs) ≡ true
rise_drop floor zero hs up = up
rise_drop floor (suc i) [] up = refl
rise_drop floor (suc i) (h ∷ hs) up =
    rise_drop floor i hs (lower_floor floor (h.p_vaddr + h.p_memsz) hs (omega (arith, first_rise floor h hs up)) (later_rise floor h hs up))

pub rise_take : (floor i : ℕ) (hs : List ProgramHeader) → ascend floor hs ≡ true → ascend floor (take i hs) ≡ true
rise_take floor zero hs up = refl
rise_take floor (suc i) [] up = refl
rise_take floor (suc i) (h ∷ hs) up =
    and_from _ _ (le-leb _ _ (first_rise floor h hs up)) (rise_take (h.p_vaddr + h.p_memsz) i hs (later_rise floor h hs up))

-- what passes no address: an end at or before it, a beginning after it
pub ends_before : (a : ℕ) (h : ProgramHeader) → h.p_vaddr + h.p_memsz ≤ a → has_address a h ≡ false
ends_before a h end = and_right _ _ (le-ltb _ _ end)

pub begins_behind : (a : ℕ) (h : ProgramHeader) → a < h.p_vaddr → has_address a h ≡ false
begins_behind a h start = and_left _ _ (lt-leb _ _ start)

-- a header that fails is passed over, and one that passes is found
pub passes : {X : Type 0} (p : X → Bool) (x : X) (xs : List X) → p x ≡ false → find p (x ∷ xs) ≡ find p xs
passes p x xs e = ap (λ b. cond b (Some x) (find p xs)) e

pub found : {X : Type 0} (p : X → Bool) (x : X) (xs : List X) → p x ≡ true → find p (x ∷ xs) ≡ Some x
found p x xs e = ap (λ b. cond b (Some x) (find p xs)) e

-- no segment above a floor has an address below it
pub none_below : (a floor : ℕ) (hs : List ProgramHeader) → ascend floor hs ≡ true → a < floor → find (has_address a) hs ≡ None
none_below a floor [] up below = refl
none_below a floor (h ∷ hs) up below =
    let start : a < h.p_vaddr = omega (arith, first_rise floor h hs up) in
    passes (has_address a) h hs (begins_behind a h start)
    ∙ none_below a (h.p_vaddr + h.p_memsz) hs (later_rise floor h hs up) (omega arith)

-- the segment with an address is not before one that begins at the address or before it
pub find_behind : (a floor i : ℕ) (hs : List ProgramHeader) (d : ProgramHeader) → ascend floor hs ≡ true → i < length hs → (get_or hs i d).p_vaddr ≤ a → find (has_address a) (drop i hs) ≡ find (has_address a) hs
find_behind a floor i [] d up inside start = grind arith
find_behind a floor zero (h ∷ hs) d up inside start = refl
find_behind a floor (suc i) (h ∷ hs) d up inside start =
    let up_behind = later_rise floor h hs up in
    let inside_behind : i < length hs = omega arith in
    let end : h.p_vaddr + h.p_memsz ≤ a = omega (arith, above_floor (h.p_vaddr + h.p_memsz) i hs d up_behind inside_behind, start) in
    find_behind a (h.p_vaddr + h.p_memsz) i hs d up_behind inside_behind start
    ∙ sym (passes (has_address a) h hs (ends_before a h end))

-- nor is it at or after one that begins after the address
pub find_before : (a floor i : ℕ) (hs : List ProgramHeader) (d : ProgramHeader) → ascend floor hs ≡ true → i < length hs → a < (get_or hs i d).p_vaddr → find (has_address a) (take i hs) ≡ find (has_address a) hs
find_before a floor i [] d up inside start = grind arith
find_before a floor zero (h ∷ hs) d up inside start =
    sym (none_below a h.p_vaddr (h ∷ hs) (and_from _ _ (le-leb _ _ (omega arith)) (later_rise floor h hs up)) start)
find_before a floor (suc i) (h ∷ hs) d up inside start =
    ap (λ o. cond (has_address a h) (Some h) o) (find_before a (h.p_vaddr + h.p_memsz) i hs d (later_rise floor h hs up) (omega arith) start)

-- what is found is of the list and has the address
pub found_passes : {X : Type 0} (p : X → Bool) (x : X) (xs : List X) → find p xs ≡ Some x → p x ≡ true
found_passes p x [] e = absurd (cc)
found_passes p x (y ∷ ys) e =
    ⊎_elim
    (λ yes. let both : Some y ≡ Some x = sym (found p y ys yes) ∙ e in let same : y ≡ x = cc in ap p (sym same) ∙ yes)
    (λ no. found_passes p x ys (sym (passes p y ys no) ∙ e))
    (cases_Bool (p y))

pub found_all : {X : Type 0} (p q : X → Bool) (x : X) (xs : List X) → find p xs ≡ Some x → list_all q xs ≡ true → q x ≡ true
found_all p q x [] e all = absurd (cc)
found_all p q x (y ∷ ys) e all =
    ⊎_elim
    (λ yes. let both : Some y ≡ Some x = sym (found p y ys yes) ∙ e in let same : y ≡ x = cc in ap q (sym same) ∙ (and_parts (q y) (list_all q ys) all).0)
    (λ no. found_all p q x ys (sym (passes p y ys no) ∙ e) (and_parts (q y) (list_all q ys) all).1)
    (cases_Bool (p y))

-- a look-up that finds a segment is of an address at the floor or after it
pub found_above : (a floor : ℕ) (h : ProgramHeader) (hs : List ProgramHeader) → ascend floor hs ≡ true → find (has_address a) hs ≡ Some h → floor ≤ a
found_above a floor h hs up e =
    ⊎_elim (λ below. absurd (clash (none_below a floor hs up below) e)) (λ above. above) (cases_lt a floor)
  where
    clash : find (has_address a) hs ≡ None → find (has_address a) hs ≡ Some h → ⊥
    clash n s = cc

-- the segment of an address has each later address that is its own
pub found_too : (a b floor : ℕ) (h : ProgramHeader) (hs : List ProgramHeader) → ascend floor hs ≡ true → find (has_address a) hs ≡ Some h → a ≤ b → has_address b h ≡ true → find (has_address b) hs ≡ Some h
found_too a b floor h [] up e later has = absurd (cc)
found_too a b floor h (g ∷ gs) up e later has =
    ⊎_elim
    (λ yes.
    let both : Some g ≡ Some h = sym (found (has_address a) g gs yes) ∙ e in
    let same : g ≡ h = cc in
    found (has_address b) g gs (ap (has_address b) same ∙ has) ∙ ap (λ (x : ProgramHeader). Some x) same)
    (λ no.
    let e_behind : find (has_address a) gs ≡ Some h = sym (passes (has_address a) g gs no) ∙ e in
    let up_behind = later_rise floor g gs up in
    let end : g.p_vaddr + g.p_memsz ≤ a = found_above a (g.p_vaddr + g.p_memsz) h gs up_behind e_behind in
    passes (has_address b) g gs (ends_before b g (omega arith)) ∙ found_too a b (g.p_vaddr + g.p_memsz) h gs up_behind e_behind later has)
    (cases_Bool (has_address a g))

-- the four bytes at an address are in the segment of the first and the last
pub has_word : (a : ℕ) (h : ProgramHeader) (hs : List ProgramHeader) → ascend 0 hs ≡ true → find (has_address a) hs ≡ Some h → has_address (a + 3) h ≡ true → HasWord hs a h
has_word a h hs up e last = record {
  first = e;
  second = found_too a (a + 1) 0 h hs up e (omega arith) (between (a + 1) (omega arith) (omega arith));
  third = found_too a (a + 2) 0 h hs up e (omega arith) (between (a + 2) (omega arith) (omega arith));
  fourth = found_too a (a + 3) 0 h hs up e (omega arith) last;
}
  where
    between : (b : ℕ) → a ≤ b → b ≤ a + 3 → has_address b h ≡ true
    between b low high =
        let start : h.p_vaddr ≤ a = leb-true _ _ (and_parts _ (ltb a (h.p_vaddr + h.p_memsz)) (found_passes (has_address a) h hs e)).0 in
        let end : a + 3 < h.p_vaddr + h.p_memsz = ltb-true _ _ (and_parts (leb h.p_vaddr (a + 3)) _ last).1 in
        and_from _ _ (le-leb h.p_vaddr b (omega arith)) (lt-ltb b (h.p_vaddr + h.p_memsz) (omega arith))
