-- The text of a constant is read as the constant.
use Rattle.std.proofs.Common.{ℕ, ◌+◌, ◌^◌, ◌<◌, ◌≤◌, ◌≡◌, ◌≢◌, ◌&&◌, ◌==◌, ◌||◌, Bool, true, false, List, [], ◌∷◌, ◌++◌, Option, Some, None, refl, sym, ap, ◌∙◌, append_assoc, append-nil, subst, length, nat_lt, codes, if◌then◌else◌, option_map, option_and_then, arith}
use Rattle.std.proofs.lemmas.Bool.{eqb-true}
use Rattle.std.proofs.lemmas.Bool.Decides.{nat_tests}
use Rattle.std.specs.Fmt.{decimal}
use Rattle.std.specs.Int.{IsInRange}
use Rattle.std.specs.Str.Parse.{AllDigits}
use Rattle.std.proofs.lemmas.Str.Parse.{digit_from_value}
use Rattle.std.proofs.lemmas.Fmt.{decimal_is_IsNumeral_wide}
use Rattle.wsym_terms.specs.declared.costs.Cost.{Cost}
use Rattle.wsym_terms.specs.declared.costs.Cost.TheVariants.{Fin, Beyond, Unbounded}
use Rattle.cost_multiset.specs.declared.costs.Run.{Run}
use Rattle.cost_multiset.specs.CostLists.{CostList}
use Rattle.report_elements.specs.Elements.{cost_text, run_text, further_runs, runs_text, costs_text}
use Rattle.report_elements.specs.Numbers.{number_below}
use Rattle.report_elements.proofs.DigitLaws.{number_decimal, digits_decimal}
use Rattle.report_elements.specs.ConstantReading.{cost_number, run_of, with_tail, last_run, runs_on, costs_of, cost_fits, run_fits, runs_fit, costs_fit}
use Rattle.report_elements.proofs.BracketLaws.{Plain}

both : (a b : Bool) → (a && b) ≡ true → (a ≡ true) × (b ≡ true)
both true true e = (refl, refl)
both true false e = absurd (cc)
both false b e = absurd (cc)

some_digits : (n : ℕ) → n < 2 ^ 127 → 0 < length (decimal n)
some_digits n small = (decimal_is_IsNumeral_wide n (omega arith)).0.0

digit_on : (runs : List Run) (value : Option ℕ) (w : List ℕ) (c : ℕ) (bs : List ℕ) → IsInRange 48 57 c → runs_on runs value w (c ∷ bs) ≡ runs_on runs value (w ++ c ∷ []) bs
digit_on runs value w c bs range = grind (arith, nat_tests)

digits_on : (runs : List Run) (value : Option ℕ) (w ds rest : List ℕ) → AllDigits 10 ds → runs_on runs value w (ds ++ rest) ≡ runs_on runs value (w ++ ds) rest
digits_on runs value w [] rest d = ap (λ (v : List ℕ). runs_on runs value v rest) (sym (append-nil w))
digits_on runs value w (c ∷ cs) rest d =
    digit_on runs value w c (cs ++ rest) (digit_from_value c d.0)
    ∙ digits_on runs value (w ++ c ∷ []) cs rest d.1
    ∙ ap (λ (v : List ℕ). runs_on runs value v rest) (append_assoc w (c ∷ []) cs)

tail_digit : (runs : List Run) (w : List ℕ) (c : ℕ) (bs : List ℕ) → IsInRange 48 57 c → with_tail runs w (c ∷ bs) ≡ with_tail runs (w ++ c ∷ []) bs
tail_digit runs w c bs range = grind (arith, nat_tests)

tail_digits : (runs : List Run) (w ds rest : List ℕ) → AllDigits 10 ds → with_tail runs w (ds ++ rest) ≡ with_tail runs (w ++ ds) rest
tail_digits runs w [] rest d = ap (λ (v : List ℕ). with_tail runs v rest) (sym (append-nil w))
tail_digits runs w (c ∷ cs) rest d =
    tail_digit runs w c (cs ++ rest) (digit_from_value c d.0)
    ∙ tail_digits runs (w ++ c ∷ []) cs rest d.1
    ∙ ap (λ (v : List ℕ). with_tail runs v rest) (append_assoc w (c ∷ []) cs)

last_is : (runs : List Run) (value : Option ℕ) (digits bs : List ℕ) → 0 < length digits → last_run runs value digits bs ≡ option_and_then (λ (r : Run). with_tail (runs ++ r ∷ []) [] bs) (run_of value digits)
last_is runs None [] bs some = absurd (omega arith)
last_is runs None (d ∷ ds) bs some = refl
last_is runs (Some v) digits bs some = refl

finite : (c : Cost) → cost_fits c ≡ true → (n : ℕ) × (c ≡ Fin n) × (n < 2 ^ 127)
finite (Fin n) e = (n, refl, grind (arith, nat_tests))
finite Beyond e = absurd (cc)
finite Unbounded e = absurd (cc)

-- a run that was read up to its last digit
abbrev Pending : List Run → Run → List ℕ → Type 0
Pending runs r rest = (value : Option ℕ) × (digits : List ℕ) × (run_of value digits ≡ Some r) × (0 < length digits) × (runs_on runs None [] (run_text r ++ rest) ≡ runs_on runs value digits rest)

one_place : (runs : List Run) (r : Run) (n : ℕ) (rest : List ℕ) → r.value ≡ Fin n → n < 2 ^ 127 → r.count ≡ 1 → Pending runs r rest
one_place runs r n rest is small one =
    let text : run_text r ++ rest ≡ decimal n ++ rest =
    (λ i. (cost_text (is i) ++ (if one i == 1 then [] else codes "*" ++ decimal r.count)) ++ rest) ∙ ap (λ (bs : List ℕ). bs ++ rest) (append-nil (decimal n)) in (
      None,
      decimal n,
      ap (option_map (λ n. record { value = Fin n; count = 1 })) (number_decimal (2 ^ 127) n small (omega arith)) ∙ (λ i. Some (record { value = sym is i; count = sym one i })),
      some_digits n small,
      ap (runs_on runs None []) text ∙ digits_on runs None [] (decimal n) rest (digits_decimal n small),
    )

places : (runs : List Run) (r : Run) (n : ℕ) (rest : List ℕ) → r.value ≡ Fin n → n < 2 ^ 127 → r.count < 2 ^ 63 → (r.count == 1) ≡ false → Pending runs r rest
places runs r n rest is small few many =
    let later = decimal r.count ++ rest in
    let text : run_text r ++ rest ≡ decimal n ++ (42 ∷ later) =
    (λ i. (cost_text (is i) ++ (if many i then [] else codes "*" ++ decimal r.count)) ++ rest) ∙ append_assoc (decimal n) (codes "*" ++ decimal r.count) rest in (
      Some n,
      decimal r.count,
      ap (option_map (λ c. record { value = Fin n; count = c })) (number_decimal (2 ^ 63) r.count few (omega arith)) ∙ (λ i. Some (record { value = sym is i; count = r.count })),
      some_digits r.count (omega arith),
      ap (runs_on runs None []) text
          ∙ digits_on runs None [] (decimal n) (42 ∷ later) (digits_decimal n small)
          ∙ ap (option_and_then (λ (v : ℕ). runs_on runs (Some v) [] later)) (number_decimal (2 ^ 127) n small (omega arith))
          ∙ digits_on runs (Some n) [] (decimal r.count) rest (digits_decimal r.count (omega arith)),
    )

by_count : (runs : List Run) (r : Run) (rest : List ℕ) (b : Bool) → run_fits r ≡ true → (r.count == 1) ≡ b → Pending runs r rest
by_count runs r rest true fit is =
    let fits2 = both (cost_fits r.value) (nat_lt r.count (2 ^ 63)) fit in
    let v = finite r.value fits2.0 in
    one_place runs r v.0 rest v.1 v.2 (eqb-true r.count 1 is)
by_count runs r rest false fit is =
    let fits2 = both (cost_fits r.value) (nat_lt r.count (2 ^ 63)) fit in
    let v = finite r.value fits2.0 in
    let few : r.count < 2 ^ 63 = grind (arith, nat_tests, fits2.1) in
    places runs r v.0 rest v.1 v.2 few is

further_read : (rs : List Run) (runs : List Run) (r : Run) (value : Option ℕ) (digits rest : List ℕ) → runs_fit rs ≡ true → run_of value digits ≡ Some r → 0 < length digits → runs_on runs value digits (further_runs rs ++ (124 ∷ rest)) ≡ with_tail (runs ++ r ∷ rs) [] rest
further_read [] runs r value digits rest fit is some = last_is runs value digits rest some ∙ ap (option_and_then (λ (x : Run). with_tail (runs ++ x ∷ []) [] rest)) is
further_read (q ∷ rs) runs r value digits rest fit is some =
    let fits2 = both (run_fits q) (runs_fit rs) fit in
    let tail = further_runs rs ++ (124 ∷ rest) in
    let p = by_count (runs ++ r ∷ []) q tail (q.count == 1) fits2.0 refl in
    ap (option_and_then (λ (x : Run). runs_on (runs ++ x ∷ []) None [] ((run_text q ++ further_runs rs) ++ (124 ∷ rest)))) is
    ∙ ap (runs_on (runs ++ r ∷ []) None []) (append_assoc (run_text q) (further_runs rs) (124 ∷ rest))
    ∙ p.4
    ∙ further_read rs (runs ++ r ∷ []) q p.0 p.1 rest fits2.1 p.2 p.3
    ∙ ap (λ (xs : List Run). with_tail xs [] rest) (append_assoc runs (r ∷ []) (q ∷ rs))

runs_read : (rs : List Run) (rest : List ℕ) → runs_fit rs ≡ true → runs_on [] None [] (runs_text rs ++ (124 ∷ rest)) ≡ with_tail rs [] rest
runs_read [] rest fit = refl
runs_read (r ∷ rs) rest fit =
    let fits2 = both (run_fits r) (runs_fit rs) fit in
    let p = by_count [] r (further_runs rs ++ (124 ∷ rest)) (r.count == 1) fits2.0 refl in
    ap (runs_on [] None []) (append_assoc (run_text r) (further_runs rs) (124 ∷ rest))
    ∙ p.4
    ∙ further_read rs [] r p.0 p.1 rest fits2.1 p.2 p.3

tail_read : (runs : List Run) (c : Cost) → cost_fits c ≡ true → with_tail runs [] (cost_text c ++ codes "}") ≡ Some (record { runs = runs; tail = c })
tail_read runs c fit =
    let v = finite c fit in
    (λ i. with_tail runs [] (cost_text (v.1 i) ++ codes "}"))
    ∙ tail_digits runs [] (decimal v.0) (codes "}") (digits_decimal v.0 v.2)
    ∙ ap (option_map (λ n. record { runs = runs; tail = Fin n })) (number_decimal (2 ^ 127) v.0 v.2 (omega arith))
    ∙ (λ i. Some (record { runs = runs; tail = sym v.1 i }))

pub costs_read : (c : CostList) → costs_fit c ≡ true → costs_of (costs_text c) ≡ Some c
costs_read c fit =
    let fits2 = both (runs_fit c.runs) (cost_fits c.tail) fit in
    let grouped : costs_text c ≡ codes "{" ++ (runs_text c.runs ++ (124 ∷ (cost_text c.tail ++ codes "}"))) = simp (append_assoc) in
    ap costs_of grouped
    ∙ runs_read c.runs (cost_text c.tail ++ codes "}") fits2.0
    ∙ tail_read c.runs c.tail fits2.1

-- no space and no closing bracket
plain_both : (xs ys : List ℕ) → Plain xs → Plain ys → Plain (xs ++ ys)
plain_both [] ys x y = y
plain_both (b ∷ xs) ys x y = (x.0, plain_both xs ys x.1 y)

digit_plain : (c : ℕ) → IsInRange 48 57 c → (c == 32 || c == 41) ≡ false
digit_plain c range = grind (arith, nat_tests)

digits_plain : (ds : List ℕ) → AllDigits 10 ds → Plain ds
digits_plain [] d = tt
digits_plain (c ∷ cs) d = (digit_plain c (digit_from_value c d.0), digits_plain cs d.1)

cost_plain : (c : Cost) → cost_fits c ≡ true → Plain (cost_text c)
cost_plain c fit = let v = finite c fit in subst (λ (d : Cost). Plain (cost_text d)) (sym v.1) (digits_plain (decimal v.0) (digits_decimal v.0 v.2))

count_plain : (b : Bool) (n : ℕ) → n < 2 ^ 63 → Plain (if b then [] else codes "*" ++ decimal n)
count_plain true n few = tt
count_plain false n few = (refl, digits_plain (decimal n) (digits_decimal n (omega arith)))

run_plain : (r : Run) → run_fits r ≡ true → Plain (run_text r)
run_plain r fit =
    let fits2 = both (cost_fits r.value) (nat_lt r.count (2 ^ 63)) fit in
    let few : r.count < 2 ^ 63 = grind (arith, nat_tests, fits2.1) in
    plain_both (cost_text r.value) (if r.count == 1 then [] else codes "*" ++ decimal r.count) (cost_plain r.value fits2.0) (count_plain (r.count == 1) r.count few)

further_plain : (rs : List Run) → runs_fit rs ≡ true → Plain (further_runs rs)
further_plain [] fit = tt
further_plain (r ∷ rs) fit = let fits2 = both (run_fits r) (runs_fit rs) fit in (refl, plain_both (run_text r) (further_runs rs) (run_plain r fits2.0) (further_plain rs fits2.1))

runs_plain : (rs : List Run) → runs_fit rs ≡ true → Plain (runs_text rs)
runs_plain [] fit = tt
runs_plain (r ∷ rs) fit = let fits2 = both (run_fits r) (runs_fit rs) fit in plain_both (run_text r) (further_runs rs) (run_plain r fits2.0) (further_plain rs fits2.1)

pub costs_plain : (c : CostList) → costs_fit c ≡ true → Plain (costs_text c)
costs_plain c fit =
    let fits2 = both (runs_fit c.runs) (cost_fits c.tail) fit in
    let front = plain_both (codes "{" ++ runs_text c.runs) (codes "|") (plain_both (codes "{") (runs_text c.runs) (refl, tt) (runs_plain c.runs fits2.0)) (refl, tt) in
    plain_both (codes "{" ++ runs_text c.runs ++ codes "|" ++ cost_text c.tail) (codes "}") (plain_both (codes "{" ++ runs_text c.runs ++ codes "|") (cost_text c.tail) front (cost_plain c.tail fits2.1)) (refl, tt)
