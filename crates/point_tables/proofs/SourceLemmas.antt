-- Numbers are put into the rows of those to which they lead.
use Rattle.std.proofs.Common.{◌≡◌, refl, sym, ap, ◌∙◌, subst, ℕ, ◌+◌, ◌<◌, ◌≤◌, ◌⊎◌, inl, inr, Bool, true, false, List, [], ◌∷◌, ◌++◌}
use Rattle.std.proofs.Common.{length, get_or, take, arith}
use Rattle.std.specs.Prelude.{◌↔◌, ◌==◌, ◌||◌, Contains, Some, slice_get, nat_eq}
use Rattle.std.proofs.lemmas.Bool.{cases_eq, eq-eqb, cond-true, cond-false, ne_eqb}
use Rattle.std.proofs.lemmas.Option.{slice_get-get_or}
use Rattle.std.proofs.lemmas.List.Elements.{Contains-append_left, Contains-append_right, Contains-append_cases, Contains-push}
use Rattle.std.proofs.lemmas.List.Elements.{Contains-push_cases}
use Rattle.std.proofs.Math.Numerals.{add-one}
use Rattle.graph_search.specs.Rows.{RowMore}
use Rattle.graph_search.specs.NodeLists.{holds}
use Rattle.graph_search.proofs.SearchLemmas.{take_next}
use Rattle.basic_blocks.specs.Chains.{is_flagged}
use Rattle.basic_blocks.specs.LivePoints.{before}
use Rattle.function_points.proofs.MemberLemmas.{here, in_none}
use Rattle.point_tables.specs.declared.targets.Targets.{Targets}
use Rattle.point_tables.specs.Numbers.{AreSources, AreLed, AreFlagged}
use Rattle.point_tables.specs.Targets.{numbers_in, target_numbers, targets_of, step_in}
use Rattle.point_tables.proofs.TableLemmas.{in_one}
use Rattle.point_tables.proofs.LinkLemmas.{get_beyond}

pub none_led : (rows : List (List ℕ)) (i : ℕ) → AreLed rows [] i rows
none_led rows i = (
  refl,
  λ x j. (
    (λ c. inl c),
    (λ s.
        elim s as (λ _. Contains (get_or rows j []) x) [
          | inl c ↦ c
          | inr e ↦ absurd (in_none j e.1)
        ]),
  ),
)

pub one_led : (rows new : List (List ℕ)) (k i : ℕ) → RowMore rows new k i → AreLed rows (k ∷ []) i new
one_led rows new k i is = (
  is.0,
  λ x j.
      elim (cases_eq j k) as (λ _. Contains (get_or new j []) x ↔ (Contains (get_or rows j []) x ⊎ ((x ≡ i) × Contains (k ∷ []) j))) [
        | inl s ↦
            let row : get_or new j [] ≡ get_or rows j [] ++ i ∷ [] = is.1 j
            ∙ cond-true (nat_eq j k) (get_or rows j [] ++ i ∷ []) (get_or rows j []) (eq-eqb j k s) in (
              (λ c.
                  elim (Contains-push_cases (get_or rows j []) i x (subst (λ zs. Contains zs x) row c)) as
                  (λ _. Contains (get_or rows j []) x ⊎ ((x ≡ i) × Contains (k ∷ []) j)) [
                    | inl m ↦ inl m
                    | inr e ↦ inr (sym e, subst (λ z. Contains (k ∷ []) z) (sym s) (here k []))
                  ]),
              (λ c.
                  subst (λ zs. Contains zs x) (sym row)
                  (elim c as (λ _. Contains (get_or rows j [] ++ i ∷ []) x) [
                    | inl m ↦ Contains-append_left (get_or rows j []) (i ∷ []) x m
                    | inr e ↦ subst (λ z. Contains (get_or rows j [] ++ i ∷ []) z) (sym e.0) (Contains-push (get_or rows j []) i)
                  ])),
            )
        | inr ne ↦
            let row : get_or new j [] ≡ get_or rows j [] = is.1 j ∙ cond-false (nat_eq j k) (get_or rows j [] ++ i ∷ []) (get_or rows j [])
            (ne_eqb j k ne) in (
              (λ c. inl (subst (λ zs. Contains zs x) row c)),
              (λ c.
                  subst (λ zs. Contains zs x) (sym row)
                  (elim c as (λ _. Contains (get_or rows j []) x) [
                    | inl m ↦ m
                    | inr e ↦ absurd (ne (sym (in_one k j e.1)))
                  ])),
            )
      ],
)

-- the rows of the first numbers
pub record AreBacked (table : List Targets) (at : ℕ) (rows : List (List ℕ)) : Type 0 where
  pub long : length rows ≡ length table + 1
  pub back : (i j : ℕ) → Contains (before rows j) i ↔ ((i < at) × Contains (step_in table i) j)

pub none_backed : (table : List Targets) (rows : List (List ℕ)) → length rows ≡ length table + 1 → ((k : ℕ) → get_or rows k [] ≡ [])
    → AreBacked table 0 rows
none_backed table rows long empty =
    record {
      long = long;
      back = λ i j. ((λ c. absurd (in_none i (subst (λ zs. Contains zs i) (empty j) c))), (λ c. let l = c.0 in absurd (omega (arith, l))));
    }

module _ (table : List Targets) (at : ℕ) (l : at < length table) (d a : Targets) (is : a ≡ get_or table at d) where
  row_is : step_in table at ≡ target_numbers a
  row_is = ap targets_of (slice_get-get_or table at d l ∙ ap Some (sym is))

  under : (i : ℕ) → i < at + 1 → (i ≡ at) ⊎ (i < at)
  under i m = at_or_under i at m
    where
      at_or_under : (p at : ℕ) → p < at + 1 → (p ≡ at) ⊎ (p < at)
      at_or_under p at l = grind arith

  pub done_inside : (rows : List (List ℕ)) → AreBacked table at rows → ((i j : ℕ) → Contains (step_in table i) j → j ≤ length table)
      → (j : ℕ) → Contains (numbers_in a.done) j → j < length rows
  done_inside rows w inside j c =
      let le = inside at j (subst (λ zs. Contains zs j) (sym row_is) (Contains-append_left (numbers_in a.done) (numbers_in a.skipped) j c))
      in
      let long = w.long in
      omega (arith, le, long)

  pub skipped_inside : (rows more : List (List ℕ)) → AreBacked table at rows → length more ≡ length rows
      → ((i j : ℕ) → Contains (step_in table i) j → j ≤ length table) → (j : ℕ) → Contains (numbers_in a.skipped) j → j < length more
  skipped_inside rows more w same inside j c =
      let le = inside at j (subst (λ zs. Contains zs j) (sym row_is)
      (Contains-append_right (numbers_in a.done) (numbers_in a.skipped) j c)) in
      let long = w.long in
      omega (arith, le, long, same)

  pub more_backed : (rows more new : List (List ℕ)) → AreBacked table at rows → AreLed rows (numbers_in a.done) at more
      → AreLed more (numbers_in a.skipped) at new → AreBacked table (at + 1) new
  more_backed rows more new w f g =
      record {
        long = g.0 ∙ f.0 ∙ w.long;
        back = λ i j. (
          (λ c.
              elim ((g.1 i j).0 c) as (λ _. (i < at + 1) × Contains (step_in table i) j) [
                | inr e ↦ this i j e.0 (Contains-append_right (numbers_in a.done) (numbers_in a.skipped) j e.1)
                | inl c2 ↦
                    elim ((f.1 i j).0 c2) as (λ _. (i < at + 1) × Contains (step_in table i) j) [
                      | inr e ↦ this i j e.0 (Contains-append_left (numbers_in a.done) (numbers_in a.skipped) j e.1)
                      | inl c3 ↦ let o = (w.back i j).0 c3 in let m = o.0 in (omega (arith, m), o.1)
                    ]
              ]),
          (λ c.
              elim (under i c.0) as (λ _. Contains (before new j) i) [
                | inr m ↦ (g.1 i j).1 (inl ((f.1 i j).1 (inl ((w.back i j).1 (m, c.1)))))
                | inl e ↦
                    elim (Contains-append_cases (numbers_in a.done) (numbers_in a.skipped) j
                    (subst (λ zs. Contains zs j) row_is (subst (λ z. Contains (step_in table z) j) e c.1))) as
                    (λ _. Contains (before new j) i) [
                      | inl m ↦ (g.1 i j).1 (inl ((f.1 i j).1 (inr (e, m))))
                      | inr m ↦ (g.1 i j).1 (inr (e, m))
                    ]
              ]),
        );
      }
    where
      this : (i j : ℕ) → i ≡ at → Contains (target_numbers a) j → (i < at + 1) × Contains (step_in table i) j
      this i j e c = (omega (arith, e), subst (λ z. Contains (step_in table z) j) (sym e) (subst (λ zs. Contains zs j) (sym row_is) c))

pub all_backed : (table : List Targets) (at : ℕ) (rows : List (List ℕ)) → AreBacked table at rows → length table ≤ at
    → AreSources (step_in table) (before rows)
all_backed table at rows w le i j = (
  (λ c. ((w.back i j).0 c).1),
  (λ c. (w.back i j).1 (far i j c, c)),
)
  where
    far : (i j : ℕ) → Contains (step_in table i) j → i < at
    far i j c =
        elim (split_le i (length table)) as (λ _. i < at) [
          | inl l ↦ omega (arith, l, le)
          | inr g ↦ absurd (in_none j (subst (λ o. Contains (targets_of o) j) (get_beyond table i g) c))
        ]
      where
        split_le : (i n : ℕ) → (i < n) ⊎ (n ≤ i)
        split_le i n = grind arith

-- flags

pub none_flagged : (n : ℕ) (flags : List Bool) → length flags ≡ n → ((i : ℕ) → i < n → get_or flags i false ≡ false) → AreFlagged n [] flags
none_flagged n flags long none = record { long = long; flag = none }

or_assoc : (a b c : Bool) → (a || (b || c)) ≡ (b || (a || c))
or_assoc true true c = refl
or_assoc true false c = refl
or_assoc false b c = refl

held_push : (i x : ℕ) (xs : List ℕ) → holds nat_eq i (xs ++ x ∷ []) ≡ (nat_eq i x || holds nat_eq i xs)
held_push i x [] = refl
held_push i x (y ∷ xs) = ap (λ b. nat_eq i y || b) (held_push i x xs) ∙ or_assoc (nat_eq i y) (nat_eq i x) (holds nat_eq i xs)

pub one_flagged : (n : ℕ) (found more : List ℕ) (flags new : List Bool) (x : ℕ) → more ≡ found ++ x ∷ [] → AreFlagged n found flags
    → (length new ≡ length flags) × ((i : ℕ) → i < length flags → is_flagged new i ≡ (i == x || is_flagged flags i)) → AreFlagged n more new
one_flagged n found more flags new x is w s =
    record {
      long = s.0 ∙ w.long;
      flag = λ i l. s.1 i (subst (λ m. i < m) (sym w.long) l) ∙ ap (λ b. (i == x) || b) (w.flag i l) ∙ sym (held_push i x found)
          ∙ ap (holds nat_eq i) (sym is);
    }

pub flags_reach : (n last : ℕ) (found : List ℕ) (flags : List Bool) (R : ℕ → Type 0) → n ≡ last + 1 → AreFlagged n found flags
    → ((i : ℕ) → holds nat_eq i found ≡ true → R i) → ((i : ℕ) → R i → holds nat_eq i found ≡ true) → (i : ℕ) → i ≤ last
    → (is_flagged flags i ≡ true) ↔ R i
flags_reach n last found flags R e w f g i l =
    let is = w.flag i (omega (arith, l, e)) in
    ((λ t. f i (sym is ∙ t)), (λ r. is ∙ g i r))

pub take_more : (xs : List ℕ) (at x : ℕ) → slice_get xs at ≡ Some x → take (at + 1) xs ≡ take at xs ++ x ∷ []
take_more xs at x e = ap (λ n. take n xs) (add-one at) ∙ take_next xs at x e
