-- Tables of a point that are joined entry by entry.
use Rattle.std.proofs.Common.{◌≡◌, refl, sym, ap, ◌∙◌, subst, ℕ, zero, suc, ◌+◌, ◌<◌, ◌≤◌, ◌-◌, ◌⊎◌, inl, inr, Bool, true, false, List, []}
use Rattle.std.proofs.Common.{◌∷◌, length, set, get_or, drop, arith}
use Rattle.std.specs.Prelude.{◌≢◌, ◌&&◌, ◌||◌, ◌^◌, not, Option, Some, None}
use Rattle.std.specs.Ordering.{int_eq}
use Rattle.std.proofs.lemmas.Bool.{and_parts, cases_eq, false≢true, or_parts, or_cases, not-true, not-false}
use Rattle.std.proofs.Math.Bool.{beq}
use Rattle.std.proofs.Math.Numerals.{add-one}
use Rattle.std.proofs.Math.Seq.{drop-cons}
use Rattle.std.proofs.lemmas.List.{get_or-set_same, get_or-set_other}
use Rattle.path_facts.specs.Facts.{Location}
use Rattle.path_facts.specs.Facts.Location.{Register, StackWord}
use Rattle.fact_lattice.specs.declared.cells.Range.{Range}
use Rattle.fact_lattice.specs.Cells.{AbstractState, joined, joined_cell, same_cell, same_origin}
use Rattle.fact_lattice.proofs.NumberLemmas.{eq_true, same_itself, same_true, true_eq}
use Rattle.copy_facts.specs.declared.tables.WordFacts.{WordFacts}
use Rattle.copy_facts.specs.Tables.{AreEntriesTo, RisesTo, entry_in, joined_entry, nothing_of, state_in, with_entry}
use Rattle.copy_facts.proofs.EntryLemmas.{head_found, head_passed, none_above, none_below, wider, written}

-- ---- cells

same_range : (r q : Range) → r.origin ≡ q.origin → r.low ≡ q.low → r.high ≡ q.high → r ≡ q
same_range r q o l h = λ j. record { origin = o j; low = l j; high = h j }

pub same_cell_true : (c d : Option Range) → same_cell c d ≡ true → c ≡ d
same_cell_true None None e = refl
same_cell_true None (Some q) e = absurd (false≢true e)
same_cell_true (Some r) None e = absurd (false≢true e)
same_cell_true (Some r) (Some q) e =
    let a = and_parts (same_origin r.origin q.origin && int_eq r.low q.low) (int_eq r.high q.high) e in
    let b = and_parts (same_origin r.origin q.origin) (int_eq r.low q.low) a.0 in
    ap Some (same_range r q (same_true r.origin q.origin b.0) (eq_true r.low q.low b.1) (eq_true r.high q.high a.1))

three_true : (p q r : Bool) → p ≡ true → q ≡ true → r ≡ true → (p && q && r) ≡ true
three_true p q r e f g = cc

same_cell_itself : (c : Option Range) → same_cell c c ≡ true
same_cell_itself None = refl
same_cell_itself (Some r) =
    three_true (same_origin r.origin r.origin) (int_eq r.low r.low) (int_eq r.high r.high) (same_itself r.origin) (true_eq r.low r.low refl)
    (true_eq r.high r.high refl)

pub same_cell_false : (c d : Option Range) → same_cell c d ≡ false → c ≢ d
same_cell_false c d e h = false≢true (sym e ∙ subst (λ x. same_cell c x ≡ true) h (same_cell_itself c))

pub same_entry : (v w : WordFacts) → v.word ≡ w.word → v.cell ≡ w.cell → v.kept ≡ w.kept → v ≡ w
same_entry v w a b c = λ j. record { word = a j; cell = b j; kept = c j }

-- ---- words

-- the words of the first places of the left list are joined
pub record PartlyJoined (stack : ℕ) (ls rs : List WordFacts) (i : ℕ) (out : List WordFacts) (changed : Bool) : Type 0 where
  pub bound : ℕ
  pub entries : AreEntriesTo (λ k. joined_entry stack (entry_in ls k) (entry_in rs k)) bound out
  pub rest : RisesTo bound (2 ^ 32 - 1) (drop i ls)
  pub left_at : (k : ℕ) → bound ≤ k → entry_in ls k ≡ entry_in (drop i ls) k
  pub same : changed ≡ false → (k : ℕ) → k < bound → joined_entry stack (entry_in ls k) (entry_in rs k) ≡ entry_in ls k
  pub differs : changed ≡ true → (k : ℕ) × (joined_entry stack (entry_in ls k) (entry_in rs k) ≢ entry_in ls k)

pub joining_begins : (stack : ℕ) (ls rs out : List WordFacts) → RisesTo 0 (2 ^ 32 - 1) ls → out ≡ [] → PartlyJoined stack ls rs 0 out false
joining_begins stack ls rs out r e = record {
  bound = 0;
  entries =
      subst (AreEntriesTo (λ k. joined_entry stack (entry_in ls k) (entry_in rs k)) 0) (sym e)
      (record { rises = omega arith; entries = λ k l. absurd (omega (arith, l)) });
  rest = r;
  left_at = λ k l. refl;
  same = λ e k l. absurd (omega (arith, l));
  differs = λ e. absurd (false≢true e);
}

-- between the words of the first places and the next one there is none
between : (stack : ℕ) (ls : List WordFacts) (i b : ℕ) (w : WordFacts) → drop i ls ≡ w ∷ drop (i + 1) ls → RisesTo b (2 ^ 32 - 1)
    (w ∷ drop (i + 1) ls)
    → ((k : ℕ) → b ≤ k → entry_in ls k ≡ entry_in (drop i ls) k) → (k : ℕ) → b ≤ k → k < w.word → entry_in ls k ≡ nothing_of k
between stack ls i b w d r left_at k from below =
    left_at k from ∙ (ap (λ ws. entry_in ws k) d ∙ none_below w.word (2 ^ 32 - 1) (w ∷ drop (i + 1) ls) k (omega arith, r.1) below)

pub joining_goes_on : (stack : ℕ) (ls rs : List WordFacts) (i : ℕ) (out : List WordFacts) (changed : Bool) (w n : WordFacts) (same : Bool)
    (next : List WordFacts)
    → PartlyJoined stack ls rs i out changed → drop i ls ≡ w ∷ drop (i + 1) ls → n ≡ joined_entry stack w (entry_in rs w.word)
    → (same ≡ true → n ≡ w) → (same ≡ false → n ≢ w) → next ≡ with_entry out n
    → PartlyJoined stack ls rs (i + 1) next (changed || not same)
joining_goes_on stack ls rs i out changed w n same next s d is yes' no' put =
    let f = λ (k : ℕ). joined_entry stack (entry_in ls k) (entry_in rs k) in
    let r : RisesTo s.bound (2 ^ 32 - 1) (w ∷ drop (i + 1) ls) = subst (RisesTo s.bound (2 ^ 32 - 1)) d s.rest in
    let there : entry_in ls w.word ≡ w = s.left_at w.word r.0 ∙
    (ap (λ ws. entry_in ws w.word) d ∙ head_found w (drop (i + 1) ls) w.word refl) in
    let named : n.word ≡ w.word = ap (λ x. x.word) is in
    let given : n ≡ f n.word = is ∙ (sym (ap (λ x. joined_entry stack x (entry_in rs w.word)) there) ∙ ap f (sym named)) in
    let gap = between stack ls i s.bound w d r s.left_at in
    record {
      bound = suc w.word;
      entries =
          subst (AreEntriesTo f (suc w.word)) (sym put)
          (subst (λ b. AreEntriesTo f (suc b) (with_entry out n)) named
          (written f s.bound out n s.entries (subst (λ b. s.bound ≤ b) (sym named) r.0)
          (λ k from below. ap (λ x. joined_entry stack x (entry_in rs k)) (gap k from (subst (λ b. k < b) named below))) given));
      rest = r.1;
      left_at = λ k from.
          let r0 = r.0 in
          s.left_at k (omega (arith, r0, from)) ∙
          (ap (λ ws. entry_in ws k) d ∙ head_passed w (drop (i + 1) ls) k (λ e. omega (arith, e, from)));
      same = λ e k below.
          let p = or_parts changed (not same) e in
          let one : n ≡ w = yes' (not-false same p.1) in
          elim (three k s.bound w.word below) as (λ _. f k ≡ entry_in ls k) [
            | inl l ↦ s.same p.0 k l
            | inr (inl m) ↦
                ap (λ x. joined_entry stack x (entry_in rs k)) (gap k m.0 m.1) ∙ sym (gap k m.0 m.1)
            | inr (inr t) ↦
                ap f t ∙ (ap f (sym named) ∙ (sym given ∙ (one ∙ (sym there ∙ ap (entry_in ls) (sym t)))))
          ];
      differs = λ e.
          elim (or_cases changed (not same) e) as (λ _. (k : ℕ) × (f k ≢ entry_in ls k)) [
            | inl t ↦ s.differs t
            | inr u ↦ (w.word, λ h. no' (not-true same u) (given ∙ (ap f named ∙ (h ∙ there))))
          ];
    } where
      three : (k b n : ℕ) → k < suc n → (k < b) ⊎ (((b ≤ k) × (k < n)) ⊎ (k ≡ n))
      three k b n l = grind arith

-- all of them are joined
module _ (stack : ℕ) (ls rs : List WordFacts) (i : ℕ) (out : List WordFacts) (changed : Bool) (s : PartlyJoined stack ls rs i out changed)
    (e : drop i ls ≡ []) where
  past : (k : ℕ) → s.bound ≤ k → entry_in ls k ≡ nothing_of k
  past k from = s.left_at k from ∙ ap (λ ws. entry_in ws k) e

  cases_le : (k b : ℕ) → (k < b) ⊎ (b ≤ k)
  cases_le k b = grind arith

  pub joined_rises : RisesTo 0 (2 ^ 32 - 1) out
  joined_rises =
      let f = λ (k : ℕ). joined_entry stack (entry_in ls k) (entry_in rs k) in
      let b : s.bound ≤ 2 ^ 32 - 1 = subst (RisesTo s.bound (2 ^ 32 - 1)) e s.rest in
      (wider f s.bound (2 ^ 32 - 1) out s.entries b (λ k from below. ap (λ x. joined_entry stack x (entry_in rs k)) (past k from))).rises

  pub joined_entries : (k : ℕ) → entry_in out k ≡ joined_entry stack (entry_in ls k) (entry_in rs k)
  joined_entries k =
      elim (cases_le k s.bound) as (λ _. entry_in out k ≡ joined_entry stack (entry_in ls k) (entry_in rs k)) [
        | inl l ↦ s.entries.entries k l
        | inr g ↦ none_above 0 s.bound out k s.entries.rises g ∙ sym (ap (λ x. joined_entry stack x (entry_in rs k)) (past k g))
      ]

  pub joined_same : changed ≡ false → (k : ℕ) → joined_entry stack (entry_in ls k) (entry_in rs k) ≡ entry_in ls k
  joined_same u k =
      elim (cases_le k s.bound) as (λ _. joined_entry stack (entry_in ls k) (entry_in rs k) ≡ entry_in ls k) [
        | inl l ↦ s.same u k l
        | inr g ↦ ap (λ x. joined_entry stack x (entry_in rs k)) (past k g) ∙ sym (past k g)
      ]

-- ---- registers

pub record PartlyJoinedCells (stack : ℕ) (old other : List (Option Range)) (at : ℕ) (now : List (Option Range))
    (changed : Bool) : Type 0 where
  pub within : at ≤ 15
  pub long : length now ≡ 15
  pub done : (r : ℕ) → r < at → get_or now r None ≡ joined_cell stack (get_or old r None) (get_or other r None)
  pub rest : (r : ℕ) → at ≤ r → get_or now r None ≡ get_or old r None
  pub same : changed ≡ false → (r : ℕ) → r < at → get_or now r None ≡ get_or old r None
  pub differs : changed ≡ true → (r : ℕ) × (r < at) × (get_or now r None ≢ get_or old r None)

pub cells_begin : (stack : ℕ) (old other : List (Option Range)) → length old ≡ 15 → PartlyJoinedCells stack old other 0 old false
cells_begin stack old other e = record {
  within = omega arith;
  long = e;
  done = λ r l. absurd (omega (arith, l));
  rest = λ r l. refl;
  same = λ e r l. refl;
  differs = λ e. absurd (false≢true e);
}

pub cells_go_on : (stack : ℕ) (old other : List (Option Range)) (at : ℕ) (now : List (Option Range)) (changed : Bool) (c : Option Range)
    (same : Bool)
    → PartlyJoinedCells stack old other at now changed → at < 15 → c ≡ joined_cell stack (get_or now at None) (get_or other at None)
    → same ≡ same_cell c (get_or now at None) → PartlyJoinedCells stack old other (at + 1) (set now at c) (changed || not same)
cells_go_on stack old other at now changed c same s l is test =
    let here : get_or (set now at c) at None ≡ c = get_or-set_same now at c None (let g = s.long in omega (arith, g, l)) in
    let other_cells = λ (r : ℕ) (n : r ≢ at). get_or-set_other now at r c None n in
    record {
      within = omega (arith, l);
      long = set_long now at c ∙ s.long;
      done = λ r below.
          elim (cases_eq r at) as (λ _. get_or (set now at c) r None ≡ joined_cell stack (get_or old r None) (get_or other r None)) [
            | inl e ↦
                subst (λ x. get_or (set now at c) x None ≡ joined_cell stack (get_or old x None) (get_or other x None)) (sym e)
                (here ∙ (is ∙ ap (λ x. joined_cell stack x (get_or other at None)) (s.rest at (omega arith))))
            | inr n ↦ other_cells r n ∙ s.done r (omega (arith, below, n))
          ];
      rest = λ r from. other_cells r (λ e. omega (arith, e, from)) ∙ s.rest r (omega (arith, from));
      same = λ e r below.
          let p = or_parts changed (not same) e in
          elim (cases_eq r at) as (λ _. get_or (set now at c) r None ≡ get_or old r None) [
            | inl x ↦
                subst (λ x. get_or (set now at c) x None ≡ get_or old x None) (sym x)
                (here ∙ (same_cell_true c (get_or now at None) (sym test ∙ not-false same p.1) ∙ s.rest at (omega arith)))
            | inr n ↦ other_cells r n ∙ s.same p.0 r (omega (arith, below, n))
          ];
      differs = λ e.
          elim (or_cases changed (not same) e) as (λ _. (r : ℕ) × (r < at + 1) × (get_or (set now at c) r None ≢ get_or old r None)) [
            | inl t ↦
                let x = s.differs t in
                let b = x.1 in
                (x.0, omega (arith, b), λ h. x.2 (sym (other_cells x.0 (λ e. omega (arith, e, b))) ∙ h))
            | inr u ↦ (
              at,
              omega arith,
              λ h. same_cell_false c (get_or now at None) (sym test ∙ not-true same u) (sym here ∙ (h ∙ sym (s.rest at (omega arith)))),
            )
          ];
    } where
      set_long : {A : Type 0} (xs : List A) (i : ℕ) (x : A) → length (set xs i x) ≡ length xs
      set_long [] i x = refl
      set_long (y ∷ xs) zero x = refl
      set_long (y ∷ xs) (suc i) x = ap suc (set_long xs i x)

no_more : {A : Type 0} (xs : List (Option A)) (r : ℕ) → length xs ≤ r → get_or xs r None ≡ None
no_more [] r l = refl
no_more (x ∷ xs) zero l = absurd (omega (arith, l))
no_more (x ∷ xs) (suc r) l = no_more xs r (omega (arith, l))

module _ (stack : ℕ) (old other : List (Option Range)) (at : ℕ) (now : List (Option Range)) (changed : Bool)
    (s : PartlyJoinedCells stack old other at now changed) (e : 15 ≤ at) where
  cases_15 : (r : ℕ) → (r < at) ⊎ (15 ≤ r)
  cases_15 r = grind arith

  away : (r : ℕ) → 15 ≤ r → get_or old r None ≡ None
  away r g = let w = s.within in let l = s.long in sym (s.rest r (omega (arith, w, g))) ∙ no_more now r (omega (arith, l, g))

  pub cells_joined : (r : ℕ) → get_or now r None ≡ joined_cell stack (get_or old r None) (get_or other r None)
  cells_joined r =
      elim (cases_15 r) as (λ _. get_or now r None ≡ joined_cell stack (get_or old r None) (get_or other r None)) [
        | inl l ↦ s.done r l
        | inr g ↦ let l = s.long in no_more now r (omega (arith, l, g)) ∙ sym
            (ap (λ c. joined_cell stack c (get_or other r None)) (away r g))
      ]

  pub cells_same : changed ≡ false → (r : ℕ) → get_or now r None ≡ get_or old r None
  cells_same u r =
      elim (cases_15 r) as (λ _. get_or now r None ≡ get_or old r None) [
        | inl l ↦ s.same u r l
        | inr g ↦ let l = s.long in no_more now r (omega (arith, l, g)) ∙ sym (away r g)
      ]

  pub cells_differ : changed ≡ true → (r : ℕ) × (get_or now r None ≢ get_or old r None)
  cells_differ u = let x = s.differs u in (x.0, x.2)

-- ---- whole tables

same_state : (m n : AbstractState) → ((p : Location) → m.cell p ≡ n.cell p) → ((k : ℕ) → m.marked k ≡ n.marked k) → m ≡ n
same_state m n c k = λ j. record { cell = λ p. c p j; marked = λ x. k x j }

module _ (stack : ℕ) (rs qs ns : List (Option Range)) (ws vs us : List WordFacts)
    (cells : (r : ℕ) → get_or ns r None ≡ joined_cell stack (get_or rs r None) (get_or qs r None))
    (entries : (k : ℕ) → entry_in us k ≡ joined_entry stack (entry_in ws k) (entry_in vs k)) where
  pub state_joined : state_in ns us ≡ joined stack (state_in rs ws) (state_in qs vs)
  state_joined = same_state (state_in ns us) (joined stack (state_in rs ws) (state_in qs vs)) each (λ k. ap (λ x. x.kept) (entries k)) where
    each : (p : Location) → (state_in ns us).cell p ≡ (joined stack (state_in rs ws) (state_in qs vs)).cell p
    each (Register r) = cells r
    each (StackWord k) = ap (λ x. x.cell) (entries k)

  pub state_same : ((r : ℕ) → get_or ns r None ≡ get_or rs r None) →
      ((k : ℕ) → joined_entry stack (entry_in ws k) (entry_in vs k) ≡ entry_in ws k)
      → joined stack (state_in rs ws) (state_in qs vs) ≡ state_in rs ws
  state_same a b = same_state (joined stack (state_in rs ws) (state_in qs vs)) (state_in rs ws) each (λ k. ap (λ x. x.kept) (b k)) where
    each : (p : Location) → (joined stack (state_in rs ws) (state_in qs vs)).cell p ≡ (state_in rs ws).cell p
    each (Register r) = sym (cells r) ∙ a r
    each (StackWord k) = ap (λ x. x.cell) (b k)

  pub state_differs_by_register : (r : ℕ) × (get_or ns r None ≢ get_or rs r None) → joined stack (state_in rs ws)
      (state_in qs vs) ≢ state_in rs ws
  state_differs_by_register d h = d.1 (cells d.0 ∙ ap (λ m. m.cell (Register d.0)) h)

  pub state_differs_by_word : (k : ℕ) × (joined_entry stack (entry_in ws k) (entry_in vs k) ≢ entry_in ws k)
      → joined stack (state_in rs ws) (state_in qs vs) ≢ state_in rs ws
  state_differs_by_word d h =
      d.1 (same_entry (joined_entry stack (entry_in ws d.0) (entry_in vs d.0)) (entry_in ws d.0) refl (ap (λ m. m.cell (StackWord d.0)) h)
      (ap (λ m. m.marked d.0) h))

pub drop_all : {A : Type 0} (xs : List A) (i : ℕ) → length xs ≤ i → drop i xs ≡ []
drop_all [] zero l = refl
drop_all [] (suc i) l = refl
drop_all (x ∷ xs) zero l = absurd (omega (arith, l))
drop_all (x ∷ xs) (suc i) l = drop_all xs i (omega (arith, l))

pub drop_next : {A : Type 0} (xs : List A) (i : ℕ) (d : A) → i < length xs → drop i xs ≡ get_or xs i d ∷ drop (i + 1) xs
drop_next xs i d l = subst (λ n. drop i xs ≡ get_or xs i d ∷ drop n xs) (sym (add-one i)) (drop-cons xs i d l)

pub beq_true : (a b : Bool) → beq a b ≡ true → a ≡ b
beq_true true true e = refl
beq_true true false e = absurd (false≢true e)
beq_true false true e = absurd (false≢true e)
beq_true false false e = refl

pub drop_got : {A : Type 0} (xs : List A) (i : ℕ) (x : A) → i < length xs → x ≡ get_or xs i x → drop i xs ≡ x ∷ drop (i + 1) xs
drop_got xs i x l e = drop_next xs i x l ∙ ap (λ y. y ∷ drop (i + 1) xs) (sym e)
