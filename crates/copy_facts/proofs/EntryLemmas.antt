-- Words in ascending lists: what is found there, and what writing one down at the end changes.
use Rattle.std.proofs.Common.{◌≡◌, refl, sym, ap, ◌∙◌, subst, ℕ, zero, suc, ◌+◌, ◌<◌, ◌≤◌, ◌-◌, ◌/◌, ◌⊎◌, inl, inr, false, List, [], ◌∷◌}
use Rattle.std.proofs.Common.{◌++◌, length, get_or, arith}
use Rattle.std.specs.Prelude.{◌≢◌, ◌==◌, ◌||◌, Option, Some, None, is_some, slice_get}
use Rattle.std.proofs.lemmas.Bool.{cases_eq, cases_Bool, or_parts, cond-true, cond-false, eq-eqb, ne_eqb, true≢false}
use Rattle.std.proofs.lemmas.Option.{same_Some, none-some, slice_get-get_or}
use Rattle.fact_lattice.specs.declared.cells.Range.{Range}
use Rattle.copy_facts.specs.declared.tables.WordFacts.{WordFacts}
use Rattle.copy_facts.specs.Tables.{AreEntriesTo, RisesTo, entry_in, nothing_of, with_entry}

-- ---- looking up

pub head_found : (w : WordFacts) (ws : List WordFacts) (k : ℕ) → w.word ≡ k → entry_in (w ∷ ws) k ≡ w
head_found w ws k e = cond-true (w.word == k) w (entry_in ws k) (eq-eqb w.word k e)

pub head_passed : (w : WordFacts) (ws : List WordFacts) (k : ℕ) → w.word ≢ k → entry_in (w ∷ ws) k ≡ entry_in ws k
head_passed w ws k n = cond-false (w.word == k) w (entry_in ws k) (ne_eqb w.word k n)

pub entry_word : (ws : List WordFacts) (k : ℕ) → (entry_in ws k).word ≡ k
entry_word [] k = refl
entry_word (w ∷ ws) k =
    elim (cases_eq w.word k) as (λ _. (entry_in (w ∷ ws) k).word ≡ k) [
      | inl e ↦ ap (λ x. x.word) (head_found w ws k e) ∙ e
      | inr n ↦ ap (λ x. x.word) (head_passed w ws k n) ∙ entry_word ws k
    ]

-- nothing is said of words below the first
pub none_below : (a b : ℕ) (ws : List WordFacts) (k : ℕ) → RisesTo a b ws → k < a → entry_in ws k ≡ nothing_of k
none_below a b [] k r l = refl
none_below a b (w ∷ ws) k r l =
    let h = r.0 in
    head_passed w ws k (λ e. omega (arith, e, l, h)) ∙ none_below (suc w.word) b ws k r.1 (omega (arith, l, h))

-- nor of words past the last
pub none_above : (a b : ℕ) (ws : List WordFacts) (k : ℕ) → RisesTo a b ws → b ≤ k → entry_in ws k ≡ nothing_of k
none_above a b [] k r l = refl
none_above a b (w ∷ ws) k r l =
    let h = rises_le (suc w.word) b ws r.1 in
    head_passed w ws k (λ e. omega (arith, e, l, h)) ∙ none_above (suc w.word) b ws k r.1 l where
      rises_le : (a b : ℕ) (ws : List WordFacts) → RisesTo a b ws → a ≤ b
      rises_le a b [] r = r
      rises_le a b (w ∷ ws) r = let x = r.0 in let y = rises_le (suc w.word) b ws r.1 in omega (arith, x, y)

-- the words of a list ascend by their places
pub least_first : (a b : ℕ) (ws : List WordFacts) → RisesTo a b ws → (i : ℕ) (w : WordFacts) → slice_get ws i ≡ Some w → a ≤ w.word
least_first a b [] r i w e = absurd (none-some w e)
least_first a b (v ∷ ws) r zero w e = let h = r.0 in let s : v.word ≡ w.word = ap (λ x. x.word) (same_Some v w e) in omega (arith, h, s)
least_first a b (v ∷ ws) r (suc i) w e = let h = r.0 in let g = least_first (suc v.word) b ws r.1 i w e in omega (arith, h, g)

pub ascends : (a b : ℕ) (ws : List WordFacts) → RisesTo a b ws → (i j : ℕ) (v w : WordFacts) → i < j → slice_get ws i ≡ Some v
    → slice_get ws j ≡ Some w
    → v.word < w.word
ascends a b [] r i j v w l e f = absurd (none-some v e)
ascends a b (u ∷ ws) r i zero v w l e f = absurd (omega (arith, l))
ascends a b (u ∷ ws) r zero (suc j) v w l e f =
    let s : u.word ≡ v.word = ap (λ x. x.word) (same_Some u v e) in let g = least_first (suc u.word) b ws r.1 j w f in omega (arith, s, g)
ascends a b (u ∷ ws) r (suc i) (suc j) v w l e f = ascends (suc u.word) b ws r.1 i j v w (omega (arith, l)) e f

-- what stands first at its place is found
pub found_at : (ws : List WordFacts) (i : ℕ) (w : WordFacts) → slice_get ws i ≡ Some w
    → ((j : ℕ) (v : WordFacts) → j < i → slice_get ws j ≡ Some v → v.word < w.word) → entry_in ws w.word ≡ w
found_at [] i w e h = absurd (none-some w e)
found_at (v ∷ ws) zero w e h = let s = same_Some v w e in head_found v ws w.word (ap (λ x. x.word) s) ∙ s
found_at (v ∷ ws) (suc i) w e h =
    let l = h 0 v (omega arith) refl in
    head_passed v ws w.word (λ s. omega (arith, s, l)) ∙ found_at ws i w e (λ j u m f. h (suc j) u (omega (arith, m)) f)

pub got : {A : Type 0} (xs : List A) (i : ℕ) (x : A) → i < length xs → x ≡ get_or xs i x → slice_get xs i ≡ Some x
got xs i x l e = slice_get-get_or xs i x l ∙ ap Some (sym e)

pub got_none : {A : Type 0} (xs : List A) (i : ℕ) → length xs ≤ i → slice_get xs i ≡ None
got_none [] i l = refl
got_none (x ∷ xs) zero l = absurd (omega (arith, l))
got_none (x ∷ xs) (suc i) l = got_none xs i (omega (arith, l))

-- a word that stands nowhere isn't found
pub not_found : (ws : List WordFacts) (k : ℕ) → ((j : ℕ) (v : WordFacts) → slice_get ws j ≡ Some v → v.word ≢ k) → entry_in ws k
    ≡ nothing_of k
not_found [] k h = refl
not_found (v ∷ ws) k h = head_passed v ws k (h 0 v refl) ∙ not_found ws k (λ j u f. h (suc j) u f)

-- ---- bisection

pub middle_below : (low high : ℕ) → low < high → low + (high - low) / 2 < high
middle_below low high l = grind arith

pub smaller_before : (b : ℕ) (ws : List WordFacts) (m k : ℕ) → RisesTo 0 b ws → m < length ws → (get_or ws m (nothing_of 0)).word < k
    → (i : ℕ) (w : WordFacts) → i < m + 1 → slice_get ws i ≡ Some w → w.word < k
smaller_before b ws m k r l s i w before e =
    let g = slice_get-get_or ws m (nothing_of 0) l in
    elim (cases_eq i m) as (λ _. w.word < k) [
      | inl same ↦
          let one : w.word ≡ (get_or ws m (nothing_of 0)).word = ap (λ x. x.word)
          (same_Some w (get_or ws m (nothing_of 0)) (sym e ∙ (ap (slice_get ws) same ∙ g))) in
          omega (arith, one, s)
      | inr other ↦
          let less = ascends 0 b ws r i m w (get_or ws m (nothing_of 0)) (omega (arith, before, other)) e g in omega (arith, less, s)
    ]

pub greater_after : (b : ℕ) (ws : List WordFacts) (m k : ℕ) → RisesTo 0 b ws → m < length ws → k ≤ (get_or ws m (nothing_of 0)).word
    → (i : ℕ) (w : WordFacts) → m ≤ i → slice_get ws i ≡ Some w → k ≤ w.word
greater_after b ws m k r l s' i w after e =
    let g = slice_get-get_or ws m (nothing_of 0) l in
    elim (cases_eq i m) as (λ _. k ≤ w.word) [
      | inl same ↦
          let one : w.word ≡ (get_or ws m (nothing_of 0)).word = ap (λ x. x.word)
          (same_Some w (get_or ws m (nothing_of 0)) (sym e ∙ (ap (slice_get ws) same ∙ g))) in
          omega (arith, one, s')
      | inr other ↦
          let less = ascends 0 b ws r m i (get_or ws m (nothing_of 0)) w (apart m i after other) g e in omega (arith, less, s')
    ] where
      apart : (m i : ℕ) → m ≤ i → i ≢ m → m < i
      apart m i l n = grind arith

-- the entry at the place is the word's, or there is none
pub found_here : (ws : List WordFacts) (at k : ℕ) (w : WordFacts) →
    ((i : ℕ) (v : WordFacts) → i < at → slice_get ws i ≡ Some v → v.word < k)
    → slice_get ws at ≡ Some w → w.word ≡ k → w ≡ entry_in ws k
found_here ws at k w before e same =
    sym (ap (entry_in ws) (sym same) ∙ found_at ws at w e (λ j v l f. let h = before j v l f in omega (arith, h, same)))

pub missing_here : (b : ℕ) (ws : List WordFacts) (at k : ℕ) (w : WordFacts) → RisesTo 0 b ws →
    ((i : ℕ) (v : WordFacts) → i < at → slice_get ws i ≡ Some v → v.word < k)
    → ((i : ℕ) (v : WordFacts) → at ≤ i → slice_get ws i ≡ Some v → k ≤ v.word) → slice_get ws at ≡ Some w → w.word ≢ k → nothing_of k
    ≡ entry_in ws k
missing_here b ws at k w r before after e other =
    sym (not_found ws k (λ j v f same.
    let here = after at w (omega arith) e in
    elim (cases_lt j at) as (λ _. ⊥) [
      | inl l ↦ let h = before j v l f in omega (arith, h, same)
      | inr g ↦
          elim (cases_eq j at) as (λ _. ⊥) [
            | inl is ↦ other (ap (λ x. x.word) (same_Some w v (sym e ∙ (ap (slice_get ws) (sym is) ∙ f))) ∙ same)
            | inr n ↦ let h = ascends 0 b ws r at j w v (past j at g n) e f in omega (arith, h, here, same)
          ]
    ])) where
      cases_lt : (j at : ℕ) → (j < at) ⊎ (at ≤ j)
      cases_lt j at = grind arith

      past : (j at : ℕ) → at ≤ j → j ≢ at → at < j
      past j at l n = grind arith

pub missing_all : (ws : List WordFacts) (at k : ℕ) → ((i : ℕ) (v : WordFacts) → i < at → slice_get ws i ≡ Some v → v.word < k)
    → slice_get ws at ≡ None
    → nothing_of k ≡ entry_in ws k
missing_all ws at k before e =
    sym (not_found ws k (λ j v f same.
    elim (cases_lt j at) as (λ _. ⊥) [
      | inl l ↦ let h = before j v l f in omega (arith, h, same)
      | inr g ↦ none-some v (sym (none_past ws at j e g) ∙ f)
    ])) where
      cases_lt : (j at : ℕ) → (j < at) ⊎ (at ≤ j)
      cases_lt j at = grind arith

      none_past : {A : Type 0} (xs : List A) (i j : ℕ) → slice_get xs i ≡ None → i ≤ j → slice_get xs j ≡ None
      none_past [] i j e l = refl
      none_past (x ∷ xs) zero j e l = absurd (none-some x (sym e))
      none_past (x ∷ xs) (suc i) zero e l = absurd (omega (arith, l))
      none_past (x ∷ xs) (suc i) (suc j) e l = none_past xs i j e (omega (arith, l))

-- ---- writing down at the end

rises_to : (a b : ℕ) (ws : List WordFacts) → RisesTo a b ws → a ≤ b
rises_to a b [] r = r
rises_to a b (w ∷ ws) r = let x = r.0 in let y = rises_to (suc w.word) b ws r.1 in omega (arith, x, y)

pub rises_wider : (a b c : ℕ) (ws : List WordFacts) → RisesTo a b ws → b ≤ c → RisesTo a c ws
rises_wider a b c [] r l = omega (arith, r, l)
rises_wider a b c (w ∷ ws) r l = (r.0, rises_wider (suc w.word) b c ws r.1 l)

rises_on : (a b : ℕ) (ws : List WordFacts) (e : WordFacts) → RisesTo a b ws → b ≤ e.word → RisesTo a (suc e.word) (ws ++ e ∷ [])
rises_on a b [] e r l = (omega (arith, r, l), omega arith)
rises_on a b (w ∷ ws) e r l = (r.0, rises_on (suc w.word) b ws e r.1 l)

last_found : (a b : ℕ) (ws : List WordFacts) (e : WordFacts) → RisesTo a b ws → b ≤ e.word → entry_in (ws ++ e ∷ []) e.word ≡ e
last_found a b [] e r l = head_found e [] e.word refl
last_found a b (w ∷ ws) e r l =
    let h = rises_to (suc w.word) b ws r.1 in
    head_passed w (ws ++ e ∷ []) e.word (λ s. omega (arith, s, h, l)) ∙ last_found (suc w.word) b ws e r.1 l

last_passed : (ws : List WordFacts) (e : WordFacts) (k : ℕ) → e.word ≢ k → entry_in (ws ++ e ∷ []) k ≡ entry_in ws k
last_passed [] e k n = head_passed e [] k n
last_passed (w ∷ ws) e k n =
    elim (cases_eq w.word k) as (λ _. entry_in ((w ∷ ws) ++ e ∷ []) k ≡ entry_in (w ∷ ws) k) [
      | inl s ↦ head_found w (ws ++ e ∷ []) k s ∙ sym (head_found w ws k s)
      | inr o ↦ head_passed w (ws ++ e ∷ []) k o ∙ (last_passed ws e k n ∙ sym (head_passed w ws k o))
    ]

empty_entry : (e : WordFacts) → (is_some e.cell || e.kept) ≡ false → e ≡ nothing_of e.word
empty_entry e h = same_entry e (or_parts (is_some e.cell) e.kept h).0 (or_parts (is_some e.cell) e.kept h).1 where
  none_of : (c : Option Range) → is_some c ≡ false → c ≡ None
  none_of None h = refl
  none_of (Some r) h = absurd (true≢false h)

  same_entry : (e : WordFacts) → is_some e.cell ≡ false → e.kept ≡ false → e ≡ nothing_of e.word
  same_entry e a b = λ j. record { word = e.word; cell = none_of e.cell a j; kept = b j }

-- what says nothing may be left out
pub wider : (f : ℕ → WordFacts) (b c : ℕ) (ws : List WordFacts) → AreEntriesTo f b ws → b ≤ c →
    ((k : ℕ) → b ≤ k → k < c → f k ≡ nothing_of k)
    → AreEntriesTo f c ws
wider f b c ws t l none = record {
  rises = rises_wider 0 b c ws t.rises l;
  entries = λ k below.
      elim (cases_le k b) as (λ _. entry_in ws k ≡ f k) [
        | inl x ↦ t.entries k x
        | inr y ↦ none_above 0 b ws k t.rises y ∙ sym (none k y below)
      ];
} where
  cases_le : (k b : ℕ) → (suc k ≤ b) ⊎ (b ≤ k)
  cases_le k b = grind arith

-- the entry of a word that isn't below those before it is written down
pub written : (f : ℕ → WordFacts) (b : ℕ) (ws : List WordFacts) (e : WordFacts) → AreEntriesTo f b ws → b ≤ e.word
    → ((k : ℕ) → b ≤ k → k < e.word → f k ≡ nothing_of k) → e ≡ f e.word → AreEntriesTo f (suc e.word) (with_entry ws e)
written f b ws e t l none is =
    elim (cases_Bool (is_some e.cell || e.kept)) as (λ _. AreEntriesTo f (suc e.word) (with_entry ws e)) [
      | inl there ↦
          subst (AreEntriesTo f (suc e.word)) (sym (cond-true (is_some e.cell || e.kept) (ws ++ e ∷ []) ws there)) (record {
            rises = rises_on 0 b ws e t.rises l;
            entries = λ k below.
                elim (cases_eq e.word k) as (λ _. entry_in (ws ++ e ∷ []) k ≡ f k) [
                  | inl s ↦ ap (entry_in (ws ++ e ∷ [])) (sym s) ∙ (last_found 0 b ws e t.rises l ∙ (is ∙ ap f s))
                  | inr n ↦ last_passed ws e k n ∙ (wider f b e.word ws t l none).entries k (less k e.word below n)
                ];
          })
      | inr away ↦
          subst (AreEntriesTo f (suc e.word)) (sym (cond-false (is_some e.cell || e.kept) (ws ++ e ∷ []) ws away))
          (wider f b (suc e.word) ws t (omega (arith, l)) (λ k from below.
          elim (cases_eq e.word k) as (λ _. f k ≡ nothing_of k) [
            | inl s ↦ ap f (sym s) ∙ (sym is ∙ (empty_entry e away ∙ ap nothing_of s))
            | inr n ↦ none k from (less k e.word below n)
          ]))
    ] where
      less : (k n : ℕ) → k < suc n → n ≢ k → k < n
      less k n l o = grind arith
