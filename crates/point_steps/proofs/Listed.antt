-- The registers of a list, one after another.
use Rattle.std.proofs.Common.{◌≡◌, ℕ, ◌+◌, ◌-◌, ◌<◌, ◌≤◌, ◌==◌, ◌&&◌, Bool, true, false, cond, if◌then◌else◌}
use Rattle.std.proofs.Common.{Option, List, [], ◌∷◌, length, refl, sym, ap, ◌∙◌, zero, suc, arith}
use Rattle.arm_isa.specs.Writes.{is_listed}
use Rattle.arm_machine.specs.Access.{is_saved}
use Rattle.arm_machine.specs.Blocks.{listed_from, registers_of}
use Rattle.path_facts.specs.Facts.{Source}
use Rattle.path_facts.specs.Sources.{load_source, loads_source, mark_after_store, mark_after_stores, next_offset}
use Rattle.path_facts.specs.Sources.{stores_source, word_store_source}

-- those from a register on
unfoldable pub rest_of : ℕ → ℕ → List ℕ
rest_of list r = listed_from list r (16 - r)

pub whole : (list : ℕ) → rest_of list 0 ≡ registers_of list
unfolding registers_of rest_of
whole list = refl

pub at_end : (list r : ℕ) → 16 ≤ r → rest_of list r ≡ []
unfolding rest_of
at_end list r over = let none : 16 - r ≡ 0 = omega arith in ap (listed_from list r) none

next_of : (list r : ℕ) → r < 16 → rest_of list r ≡ cond (is_listed list r) (r ∷ rest_of list (r + 1)) (rest_of list (r + 1))
unfolding rest_of
next_of list r small = let one : 16 - r ≡ suc (16 - (r + 1)) = omega arith in ap (listed_from list r) one

pub listed : (list r : ℕ) → r < 16 → is_listed list r ≡ true → rest_of list r ≡ r ∷ rest_of list (r + 1)
listed list r small on =
    next_of list r small ∙ ap (λ (b : Bool). cond b (r ∷ rest_of list (r + 1)) (rest_of list (r + 1))) on

pub unlisted : (list r : ℕ) → r < 16 → is_listed list r ≡ false → rest_of list r ≡ rest_of list (r + 1)
unlisted list r small off =
    next_of list r small ∙ ap (λ (b : Bool). cond b (r ∷ rest_of list (r + 1)) (rest_of list (r + 1))) off

-- what is left of a load of several registers
pub loads_on : (at next : Option ℕ) (list r register : ℕ) (before after all : Source) → r < 16 → is_listed list r ≡ true
    → after ≡ (if register == r then load_source at else before) → next ≡ next_offset at
    → loads_source at (rest_of list r) register before ≡ all
    → loads_source next (rest_of list (r + 1)) register after ≡ all
loads_on at next list r register before after all small on is goes so =
    ap (λ (o : Option ℕ). loads_source o (rest_of list (r + 1)) register after) goes
    ∙ ap (loads_source (next_offset at) (rest_of list (r + 1)) register) is
    ∙ sym (ap (λ rs. loads_source at rs register before) (listed list r small on))
    ∙ so

pub loads_skip : (at : Option ℕ) (list r register : ℕ) (before all : Source) → r < 16 → is_listed list r ≡ false
    → loads_source at (rest_of list r) register before ≡ all → loads_source at (rest_of list (r + 1)) register before ≡ all
loads_skip at list r register before all small off so =
    sym (ap (λ rs. loads_source at rs register before) (unlisted list r small off)) ∙ so

-- what is left of a store of several registers
pub stores_on : (at next : Option ℕ) (list r word : ℕ) (before after all : Source) → r < 16 → is_listed list r ≡ true
    → after ≡ word_store_source at r word before → next ≡ next_offset at
    → stores_source at (rest_of list r) word before ≡ all
    → stores_source next (rest_of list (r + 1)) word after ≡ all
stores_on at next list r word before after all small on is goes so =
    ap (λ (o : Option ℕ). stores_source o (rest_of list (r + 1)) word after) goes
    ∙ ap (stores_source (next_offset at) (rest_of list (r + 1)) word) is
    ∙ sym (ap (λ rs. stores_source at rs word before) (listed list r small on))
    ∙ so

pub stores_skip : (at : Option ℕ) (list r word : ℕ) (before all : Source) → r < 16 → is_listed list r ≡ false
    → stores_source at (rest_of list r) word before ≡ all → stores_source at (rest_of list (r + 1)) word before ≡ all
stores_skip at list r word before all small off so =
    sym (ap (λ rs. stores_source at rs word before) (unlisted list r small off)) ∙ so

-- and of its marks
pub marks_on : (at next : Option ℕ) (list r word : ℕ) (saves before after all : Bool) → r < 16 → is_listed list r ≡ true
    → after ≡ mark_after_store at 4 word (saves && is_saved r) before → next ≡ next_offset at
    → mark_after_stores at (rest_of list r) word saves before ≡ all
    → mark_after_stores next (rest_of list (r + 1)) word saves after ≡ all
marks_on at next list r word saves before after all small on is goes so =
    ap (λ (o : Option ℕ). mark_after_stores o (rest_of list (r + 1)) word saves after) goes
    ∙ ap (mark_after_stores (next_offset at) (rest_of list (r + 1)) word saves) is
    ∙ sym (ap (λ rs. mark_after_stores at rs word saves before) (listed list r small on))
    ∙ so

pub marks_skip : (at : Option ℕ) (list r word : ℕ) (saves before all : Bool) → r < 16 → is_listed list r ≡ false
    → mark_after_stores at (rest_of list r) word saves before ≡ all
    → mark_after_stores at (rest_of list (r + 1)) word saves before ≡ all
marks_skip at list r word saves before all small off so =
    sym (ap (λ rs. mark_after_stores at rs word saves before) (unlisted list r small off)) ∙ so

-- the number of registers that are left
pub count_on : (list r n all : ℕ) → r < 16 → is_listed list r ≡ true → n + length (rest_of list r) ≡ all
    → n + 1 + length (rest_of list (r + 1)) ≡ all
count_on list r n all small on so =
    let more : length (rest_of list r) ≡ suc (length (rest_of list (r + 1))) = ap length (listed list r small on) in
    omega (arith, more, so)

pub count_skip : (list r n all : ℕ) → r < 16 → is_listed list r ≡ false → n + length (rest_of list r) ≡ all
    → n + length (rest_of list (r + 1)) ≡ all
count_skip list r n all small off so = ap (λ rs. n + length rs) (sym (unlisted list r small off)) ∙ so

-- there are at most sixteen
pub few_from : (list n r : ℕ) → length (listed_from list r n) ≤ n
few_from list zero r = omega arith
few_from list (suc n) r = by_test (is_listed list r) (few_from list n (r + 1))
  where
    by_test : (b : Bool) → length (listed_from list (r + 1) n) ≤ n
        → length (cond b (r ∷ listed_from list (r + 1) n) (listed_from list (r + 1) n)) ≤ suc n
    by_test true few = omega (arith, few)
    by_test false few = omega (arith, few)

pub few_registers : (list : ℕ) → length (registers_of list) ≤ 16
unfolding registers_of
few_registers list = few_from list 16 0
