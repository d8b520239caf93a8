-- A row that the rows have is proved by one of them alone.
use Rattle.std.proofs.Common.{◌≡◌, refl, sym, ap, ◌∙◌, subst, ℕ, zero, suc, ◌+◌, ◌<◌, ℤ, pos, ◌≤ℤ◌, ◌<ℤ◌, List, [], ◌∷◌, length, ◌⊎◌, inl, inr, ⊎_elim, Bool, true, false, Option, Some, None, arith}
use Rattle.std.specs.Prelude.{if◌then◌else◌, ◌&&◌, ◌||◌, int_lt, int_le, option_map}
use Rattle.std.proofs.lemmas.Int.{ints}
use Rattle.std.specs.Cmp.{signed_Decides}
use Rattle.std.specs.Ordering.{is_eq, int_eq}
use Rattle.linear_rows.specs.declared.rows.RowTerm.{RowTerm}
use Rattle.linear_rows.specs.declared.rows.Var.{Var}
use Rattle.linear_rows.specs.Variables.{var_cmp}
use Rattle.linear_rows.specs.Rows.{Inequality, sum_at}
use Rattle.linear_rows.specs.Terms.{IsCollected, scaled_terms}
use Rattle.linear_rows.proofs.VariableOrder.{equal_itself}
use Rattle.linear_rows.proofs.Values.{sum_at-scaled}
use Rattle.linear_rows.proofs.TermLists.{IsAscending-scaled}
use Rattle.farkas.specs.declared.answers.Answer.{Answer}
use Rattle.farkas.specs.declared.answers.Answer.TheVariants.{Proved, Refuted, Beyond}
use Rattle.farkas.specs.declared.answers.Emptiness.{Emptiness}
use Rattle.farkas.specs.declared.answers.Emptiness.TheVariants as emptiness
use Rattle.farkas.specs.Evidence.{row_at, combined_terms, combined_constant, IsProof, IsEmptyProof}
use Rattle.farkas.specs.Answers.{CarriesEvidence, CarriesEmptiness, Decides, DecidesEmptiness, IsProved, IsEmptyAnswer, IsPlain, IsAbsurd, Gives, Have, HaveAbsurd}
use Rattle.row_elimination.specs.Derivations.{Derivation, EachCollected, given_from}
use Rattle.row_elimination.specs.Steps.{are_same, has_no_terms}
use Rattle.farkas.specs.Deciding.{gives, giver_place, alone, had_answer, absurd_place, had_emptiness, start_of, answer_of_run, emptiness_of_run}
use Rattle.farkas.proofs.Soundness.{one-mul, proof_entails, refutation_refutes, empty_proof_empties, witness_inhabits}
use Rattle.farkas.proofs.Concluding.{run_carries, emptiness_carries}
use Rattle.farkas.proofs.Deriving.{side_at, constant_of}
use Rattle.farkas.proofs.Proving.{both_true, lt_of, bare, same_terms, combined_side, combined_number, combined_is_collected, HasNoZero-scaled}
use Rattle.farkas.proofs.Following.{Each}
use Rattle.farkas.proofs.Meeting.{same_list, le_of, either_true}

pub each_collected : (rs : List Derivation) → EachCollected rs → Each (λ r. IsCollected r.terms) rs
each_collected [] h = tt
each_collected (r ∷ rs) h = (h.0, each_collected rs h.1)

-- ---- the tests

le_true : (a b : ℤ) → a ≤ℤ b → int_le a b ≡ true
le_true a b h = grind (arith, ints)

lt_true : (a b : ℤ) → a <ℤ b → int_lt a b ≡ true
lt_true a b h = grind (arith, ints)

and_true : (a b : Bool) → a ≡ true → b ≡ true → (a && b) ≡ true
and_true true true e f = refl
and_true true false e f = absurd (cc)
and_true false b e f = absurd (cc)

or_left : (a b : Bool) → a ≡ true → (a || b) ≡ true
or_left true b e = refl
or_left false b e = absurd (cc)

or_right : (a b : Bool) → b ≡ true → (a || b) ≡ true
or_right true b e = refl
or_right false b e = e

same_itself : (ts : List RowTerm) → are_same ts ts ≡ true
same_itself [] = refl
same_itself (t ∷ ts) =
    and_true (is_eq (var_cmp t.var t.var) && int_eq t.factor t.factor) (are_same ts ts)
    (and_true (is_eq (var_cmp t.var t.var)) (int_eq t.factor t.factor) (ap is_eq (equal_itself t.var)) ((signed_Decides t.factor t.factor).1 refl)) (same_itself ts)

same_of : (ts us : List RowTerm) → ts ≡ us → are_same ts us ≡ true
same_of ts us e = subst (λ (xs : List RowTerm). are_same ts xs ≡ true) e (same_itself ts)

bare_test : (ts : List RowTerm) → ts ≡ [] → has_no_terms ts ≡ true
bare_test ts e = ap has_no_terms e

absurd_test : (row : Inequality) → IsAbsurd row → (has_no_terms row.terms && int_lt row.constant (pos 0)) ≡ true
absurd_test row h = and_true (has_no_terms row.terms) (int_lt row.constant (pos 0)) (bare_test row.terms h.0) (lt_true row.constant (pos 0) h.1)

gives_test : (other row : Inequality) → Gives other row → gives other row ≡ true
gives_test other row (inl h) =
    or_left (are_same other.terms row.terms && int_le other.constant row.constant) (has_no_terms other.terms && int_lt other.constant (pos 0))
    (and_true (are_same other.terms row.terms) (int_le other.constant row.constant) (same_of other.terms row.terms h.0) (le_true other.constant row.constant h.1))
gives_test other row (inr h) =
    or_right (are_same other.terms row.terms && int_le other.constant row.constant) (has_no_terms other.terms && int_lt other.constant (pos 0)) (absurd_test other h)

absurd_told : (row : Inequality) → (has_no_terms row.terms && int_lt row.constant (pos 0)) ≡ true → IsAbsurd row
absurd_told row e = let p = both_true (has_no_terms row.terms) (int_lt row.constant (pos 0)) e in (bare row.terms p.0, lt_of row.constant (pos 0) p.1)

gives_told : (other row : Inequality) → gives other row ≡ true → Gives other row
gives_told other row e =
    ⊎_elim
    (λ f. let p = both_true (are_same other.terms row.terms) (int_le other.constant row.constant) f in inl (same_list other.terms row.terms p.0, le_of other.constant row.constant p.1))
    (λ f. inr (absurd_told other f))
    (either_true (are_same other.terms row.terms && int_le other.constant row.constant) (has_no_terms other.terms && int_lt other.constant (pos 0)) e)

-- ---- the first place at which a test passes

abbrev first_place : (Inequality → Bool) → List Inequality → Option ℕ
first_place f [] = None
first_place f (r ∷ rs) = if f r then Some 0 else option_map (λ k. k + 1) (first_place f rs)

giver_first : (rows : List Inequality) (row : Inequality) → giver_place rows row ≡ first_place (λ r. gives r row) rows
giver_first [] row = refl
giver_first (r ∷ rs) row = ap (λ (o : Option ℕ). if gives r row then Some 0 else option_map (λ k. k + 1) o) (giver_first rs row)

absurd_first : (rows : List Inequality) → absurd_place rows ≡ first_place (λ r. has_no_terms r.terms && int_lt r.constant (pos 0)) rows
absurd_first [] = refl
absurd_first (r ∷ rs) = ap (λ (o : Option ℕ). if has_no_terms r.terms && int_lt r.constant (pos 0) then Some 0 else option_map (λ k. k + 1) o) (absurd_first rs)

record Passes (f : Inequality → Bool) (rows : List Inequality) (place : ℕ) : Type 0 where
  within : place < length rows
  test : f (row_at rows place) ≡ true

next_place : (o : Option ℕ) (m : ℕ) → option_map (λ k. k + 1) o ≡ Some m → (n : ℕ) × (o ≡ Some n) × (m ≡ suc n)
next_place None m f = absurd (cc)
next_place (Some n) m f = (n, refl, let g : n + 1 ≡ m = cc in omega arith)

passes_here : (f : Inequality → Bool) (r : Inequality) (rs : List Inequality) (b : Bool) → f r ≡ b → (place : ℕ) → ((n : ℕ) → first_place f rs ≡ Some n → Passes f rs n) →
    (if b then Some 0 else option_map (λ k. k + 1) (first_place f rs)) ≡ Some place → Passes f (r ∷ rs) place
passes_here f r rs true e place rec g =
    let h : 0 ≡ place = cc in
    subst (λ (n : ℕ). Passes f (r ∷ rs) n) h (record { within = omega arith; test = e })
passes_here f r rs false e place rec g =
    let m = next_place (first_place f rs) place g in
    let p = rec m.0 m.1 in
    subst (λ (n : ℕ). Passes f (r ∷ rs) n) (sym m.2) (record { within = (let w = p.within in omega arith); test = p.test })

passes : (f : Inequality → Bool) (rows : List Inequality) (place : ℕ) → first_place f rows ≡ Some place → Passes f rows place
passes f [] place e = absurd (cc)
passes f (r ∷ rs) place e = passes_here f r rs (f r) refl place (λ n g. passes f rs n g) e

some_here : (b : Bool) (o : Option ℕ) → (b ≡ true) ⊎ ((n : ℕ) × (o ≡ Some n)) → (m : ℕ) × ((if b then Some 0 else option_map (λ k. k + 1) o) ≡ Some m)
some_here true o h = (0, refl)
some_here false o (inl e) = absurd (cc)
some_here false o (inr h) = (h.0 + 1, ap (option_map (λ k. k + 1)) h.1)

some_place : (f : Inequality → Bool) (rows : List Inequality) (place : ℕ) → place < length rows → f (row_at rows place) ≡ true → (m : ℕ) × (first_place f rows ≡ Some m)
some_place f [] place h e = absurd (omega arith)
some_place f (r ∷ rs) zero h e = some_here (f r) (first_place f rs) (inl e)
some_place f (r ∷ rs) (suc place) h e = some_here (f r) (first_place f rs) (inr (some_place f rs place (omega arith) e))

-- ---- one row alone

alone_side : (rows : List Inequality) (place : ℕ) → (v : Var → ℤ) → sum_at v (combined_terms rows (alone place)) ≡ sum_at v (row_at rows place).terms
alone_side rows place v =
    let e = combined_side v rows (alone place) in let f = one-mul (side_at v (row_at rows place)) in omega (arith, ints)

alone_constant : (rows : List Inequality) (place : ℕ) → combined_constant rows (alone place) ≡ (row_at rows place).constant
alone_constant rows place = let e = combined_number rows (alone place) in let f = one-mul (constant_of (row_at rows place)) in omega (arith, ints)

alone_empties : (rows : List Inequality) (place : ℕ) → place < length rows → IsAbsurd (row_at rows place) → IsEmptyProof rows (alone place)
alone_empties rows place h a =
    let sum = combined_is_collected rows (alone place) in
    record {
      named = (h, tt);
      shown = (
        same_terms (combined_terms rows (alone place)) [] sum.ascending sum.nonzero tt tt (λ v. alone_side rows place v ∙ ap (sum_at v) a.0),
        (let e = alone_constant rows place in let f = a.1 in omega (arith, ints)),
      );
    }

alone_proves : (rows : List Inequality) (row : Inequality) (place : ℕ) → IsCollected row.terms → place < length rows → Gives (row_at rows place) row → IsProof rows row (alone place) 1
alone_proves rows row place c h (inl g) =
    let sum = combined_is_collected rows (alone place) in
    record {
      positive = omega arith;
      named = (h, tt);
      shown = inl (
        same_terms (combined_terms rows (alone place)) (scaled_terms (pos 1) row.terms) sum.ascending sum.nonzero
            (IsAscending-scaled (pos 1) row.terms c.ascending) (HasNoZero-scaled 1 row.terms (omega arith) c.nonzero)
            (λ v. alone_side rows place v ∙ ap (sum_at v) g.0 ∙ sym (one-mul (sum_at v row.terms)) ∙ sym (sum_at-scaled v (pos 1) row.terms)),
        (let e = alone_constant rows place in let f = g.1 in let k = one-mul row.constant in omega (arith, ints)),
      );
    }
alone_proves rows row place c h (inr g) =
    let p = alone_empties rows place h g in record { positive = omega arith; named = p.named; shown = inr p.shown }

plain_proves : (rows : List Inequality) (row : Inequality) → IsPlain row → IsProof rows row [] 1
plain_proves rows row h = record {
  positive = omega arith;
  named = tt;
  shown = inl (sym (ap (scaled_terms (pos 1)) h.0), (let e = one-mul row.constant in let f = h.1 in omega (arith, ints)));
}

-- ---- the answers

mapped_some : {A B : Type 0} (f : A → B) (o : Option A) (b : B) → option_map f o ≡ Some b → (a : A) × (o ≡ Some a) × (b ≡ f a)
mapped_some {A} {B} f None b e = absurd (let g : ◌≡◌ {A = Option B} None (Some b) = e in cc)
mapped_some {A} {B} f (Some a) b e = (a, refl, let g : ◌≡◌ {A = Option B} (Some (f a)) (Some b) = e in cc)

had_by : (rows : List Inequality) (row : Inequality) (a : Answer) → IsCollected row.terms → (b : Bool) → (has_no_terms row.terms && int_le (pos 0) row.constant) ≡ b →
    ◌≡◌ {A = Option Answer} (if b then Some (Proved [] 1) else option_map (λ place. Proved (alone place) 1) (giver_place rows row)) (Some a) → CarriesEvidence rows row a
had_by rows row a c true e f =
    let p = both_true (has_no_terms row.terms) (int_le (pos 0) row.constant) e in
    let g : Proved [] 1 ≡ a = cc in
    subst (λ (x : Answer). CarriesEvidence rows row x) g (plain_proves rows row (bare row.terms p.0, le_of (pos 0) row.constant p.1))
had_by rows row a c false e f =
    let m = mapped_some (λ (place : ℕ). Proved (alone place) 1) (giver_place rows row) a f in
    let p = passes (λ r. gives r row) rows m.0 (sym (giver_first rows row) ∙ m.1) in
    subst (λ (x : Answer). CarriesEvidence rows row x) (sym m.2) (alone_proves rows row m.0 c p.within (gives_told (row_at rows m.0) row p.test))

pub had_carries : (rows : List Inequality) (row : Inequality) (a : Answer) → IsCollected row.terms → had_answer rows row ≡ Some a → CarriesEvidence rows row a
had_carries rows row a c e = had_by rows row a c (has_no_terms row.terms && int_le (pos 0) row.constant) refl e

pub had_proved : (rows : List Inequality) (row : Inequality) (a : Answer) → had_answer rows row ≡ Some a → IsProved a
had_proved rows row a e = cases (has_no_terms row.terms && int_le (pos 0) row.constant) e
  where
    cases : (b : Bool) → ◌≡◌ {A = Option Answer} (if b then Some (Proved [] 1) else option_map (λ place. Proved (alone place) 1) (giver_place rows row)) (Some a) → IsProved a
    cases true f = let g : Proved [] 1 ≡ a = cc in subst (λ (x : Answer). IsProved x) g tt
    cases false f = let m = mapped_some (λ (place : ℕ). Proved (alone place) 1) (giver_place rows row) a f in subst (λ (x : Answer). IsProved x) (sym m.2) tt

never : (n : ℕ) (b : Bool) → ◌≡◌ {A = Option Answer} (if b then Some (Proved [] 1) else Some (Proved (alone n) 1)) None → ⊥
never n true g = cc
never n false g = cc

-- a row that the rows have is found
pub had_found : (rows : List Inequality) (row : Inequality) → Have rows row → had_answer rows row ≡ None → ⊥
had_found rows row (inl h) e =
    let t = and_true (has_no_terms row.terms) (int_le (pos 0) row.constant) (bare_test row.terms h.0) (le_true (pos 0) row.constant h.1) in
    let f : ◌≡◌ {A = Option Answer} (Some (Proved [] 1)) None = sym (ap (λ (b : Bool). if b then Some (Proved [] 1) else option_map (λ place. Proved (alone place) 1) (giver_place rows row)) t) ∙ e in cc
had_found rows row (inr h) e =
    let m = some_place (λ r. gives r row) rows h.0 h.1 (gives_test (row_at rows h.0) row h.2) in
    let f : giver_place rows row ≡ Some m.0 = giver_first rows row ∙ m.1 in
    never m.0 (has_no_terms row.terms && int_le (pos 0) row.constant)
    (sym (ap (λ (o : Option ℕ). if has_no_terms row.terms && int_le (pos 0) row.constant then Some (Proved [] 1) else option_map (λ place. Proved (alone place) 1) o) f) ∙ e)

pub had_empties : (rows : List Inequality) (a : Emptiness) → had_emptiness rows ≡ Some a → CarriesEmptiness rows a × IsEmptyAnswer a
had_empties rows a e =
    let m = mapped_some (λ (place : ℕ). emptiness.Empty (alone place)) (absurd_place rows) a e in
    let p = passes (λ r. has_no_terms r.terms && int_lt r.constant (pos 0)) rows m.0 (sym (absurd_first rows) ∙ m.1) in
    subst (λ (x : Emptiness). CarriesEmptiness rows x × IsEmptyAnswer x) (sym m.2) (alone_empties rows m.0 p.within (absurd_told (row_at rows m.0) p.test), tt)

pub absurd_found : (rows : List Inequality) → HaveAbsurd rows → had_emptiness rows ≡ None → ⊥
absurd_found rows h e =
    let m = some_place (λ r. has_no_terms r.terms && int_lt r.constant (pos 0)) rows h.0 h.1 (absurd_test (row_at rows h.0) h.2) in
    let f : absurd_place rows ≡ Some m.0 = absurd_first rows ∙ m.1 in
    let g : ◌≡◌ {A = Option Emptiness} (Some (emptiness.Empty (alone m.0))) None = sym (ap (option_map (λ place. emptiness.Empty (alone place))) f) ∙ e in cc

-- what carries its evidence is true
pub decides : (rows : List Inequality) (row : Inequality) (a : Answer) → CarriesEvidence rows row a → Decides rows row a
decides rows row (Proved ms d) h = proof_entails rows row ms d h
decides rows row (Refuted p) h = refutation_refutes rows row p h
decides rows row Beyond h = tt

pub decides_emptiness : (rows : List Inequality) (a : Emptiness) → CarriesEmptiness rows a → DecidesEmptiness rows a
decides_emptiness rows (emptiness.Empty ms) h = empty_proof_empties rows ms h
decides_emptiness rows (emptiness.Inhabited p) h = witness_inhabits rows p h
decides_emptiness rows emptiness.Beyond h = tt

-- the answer by one row alone, and the answer of a run
pub by_had : (rows : List Inequality) (row : Inequality) (a : Answer) (o : Option Answer) → IsCollected row.terms → o ≡ had_answer rows row → o ≡ Some a → CarriesEvidence rows row a
by_had rows row a o c e f = had_carries rows row a c (sym e ∙ f)

pub by_run : (rows : List Inequality) (row : Inequality) (a : Answer) → IsCollected row.terms → EachCollected (start_of rows row) → a ≡ answer_of_run rows row → CarriesEvidence rows row a
by_run rows row a c h e = subst (λ (x : Answer). CarriesEvidence rows row x) (sym e) (run_carries rows row c (each_collected (start_of rows row) h))

pub not_had : (rows : List Inequality) (row : Inequality) (o : Option Answer) → o ≡ had_answer rows row → o ≡ None → Have rows row → ⊥
not_had rows row o e f h = had_found rows row h (sym e ∙ f)

pub had_is_proved : (rows : List Inequality) (row : Inequality) (a : Answer) (o : Option Answer) → o ≡ had_answer rows row → o ≡ Some a → IsProved a
had_is_proved rows row a o e f = had_proved rows row a (sym e ∙ f)

pub by_empty : (rows : List Inequality) (a : Emptiness) (o : Option Emptiness) → o ≡ had_emptiness rows → o ≡ Some a → CarriesEmptiness rows a × IsEmptyAnswer a
by_empty rows a o e f = had_empties rows a (sym e ∙ f)

pub by_empty_run : (rows : List Inequality) (a : Emptiness) → EachCollected (given_from 0 rows) → a ≡ emptiness_of_run rows → CarriesEmptiness rows a
by_empty_run rows a h e = subst (λ (x : Emptiness). CarriesEmptiness rows x) (sym e) (emptiness_carries rows (each_collected (given_from 0 rows) h))

pub not_absurd : (rows : List Inequality) (o : Option Emptiness) → o ≡ had_emptiness rows → o ≡ None → HaveAbsurd rows → ⊥
not_absurd rows o e f h = absurd_found rows h (sym e ∙ f)
