-- The stack of numbers writes lists out in order.
use Rattle.std.proofs.Common.{◌≡◌, refl, sym, ap, ◌∙◌, subst, ℕ, ◌-◌, ◌<◌, ◌⊎◌, inl, inr, true, false, List, [], ◌∷◌, ◌++◌, length, get_or}
use Rattle.std.proofs.Common.{map, arith}
use Rattle.std.specs.Prelude.{Contains, nat_eq}
use Rattle.std.proofs.lemmas.Bool.{cases_Bool, or_cases, false≢true}
use Rattle.std.specs.Ordering.{nat_cmp, ordering_reverse}
use Rattle.std.specs.declared.cmp.Ordering.{Ordering}
use Rattle.std.specs.declared.cmp.Ordering.TheVariants.{Less}
use Rattle.std.specs.Cmp.Lexicographic.{slice_cmp}
use Rattle.std.proofs.lemmas.Cmp.{nat_list_cmp_total}
use Rattle.std.proofs.lemmas.List.{map-append, length-append, get_or_default}
use Rattle.std.proofs.lemmas.List.Elements.{Contains-append_left, Contains-append_cases, Contains-push, Contains-push_cases}
use Rattle.graph_search.specs.NodeLists.{holds, Distinct}
use Rattle.graph_search.proofs.ListLemmas.{nat_equality}
use Rattle.basic_blocks.specs.Blocks.{Ascending}
use Rattle.point_order.specs.Families.{Lower, Begun, list_at, IsChild, AreFamilies, IsOrder}
use Rattle.function_points.proofs.MemberLemmas.{here, there, first_or_rest, in_none}
use Rattle.basic_blocks.proofs.ChainLemmas.{no_more_below}
use Rattle.basic_blocks.proofs.NumberLemmas.{map_in, from_map, ascending_map}
use Rattle.point_order.proofs.OrderLemmas.{After, Ordered, AreChildren, one_out, all_out, root_first, begun_self, begun_none, child_under}
use Rattle.point_order.proofs.OrderLemmas.{child_before, self_or_child}

abbrev pub Under_way : List (List ℕ) → List (List ℕ) → List (List ℕ) → Type 0
Under_way ls out stack = Ordered Lower Begun begun_self (λ l. Contains ls l) out stack

pub record Walked (ls : List (List ℕ)) (order stack : List ℕ) : Type 0 where
  pub ordered : Under_way ls (map (list_at ls) order) (map (list_at ls) stack)
  pub numbers : (c : ℕ) → Contains order c → c < length ls
  pub waiting : (c : ℕ) → Contains stack c → c < length ls

pub not_lower : (o r : Ordering) → o ≡ ordering_reverse r → o ≡ Less → r ≡ Less → ⊥
not_lower o r e a b = cc

-- a number that is held stands in the list
pub held_in : (x : ℕ) (xs : List ℕ) → holds nat_eq x xs ≡ true → Contains xs x
held_in x [] h = absurd (false≢true h)
held_in x (y ∷ xs) h =
    elim (or_cases (nat_eq x y) (holds nat_eq x xs) h) as (λ _. Contains (y ∷ xs) x) [
      | inl e ↦ subst (λ z. Contains (y ∷ xs) z) (sym (nat_equality.exact x y e)) (here y xs)
      | inr i ↦ there y x xs (held_in x xs i)
    ]

pub in_lists : (ls : List (List ℕ)) (c : ℕ) → c < length ls → Contains ls (list_at ls c)
in_lists ls c l = (c, l, get_or_default ls c (list_at ls c) [] l)

-- what ascends by its lists is distinct
distinct_order : (ls : List (List ℕ)) (order : List ℕ) → Ascending Lower (map (list_at ls) order) → Distinct nat_eq order
distinct_order ls [] a = tt
distinct_order ls (x ∷ xs) a = (
  elim (cases_Bool (holds nat_eq x xs)) as (λ _. holds nat_eq x xs ≡ false) [
    | inl t ↦
        let l = a.0 (list_at ls x) (map_in (list_at ls) xs x (held_in x xs t)) in
        let o = slice_cmp nat_cmp (list_at ls x) (list_at ls x) in
        absurd (not_lower o o (nat_list_cmp_total.antisymm (list_at ls x) (list_at ls x)) l l)
    | inr f ↦ f
  ],
  distinct_order ls xs a.1,
)

module _ (ls children : List (List ℕ)) (are : AreFamilies ls children) where
  abbrev at : ℕ → List ℕ
  at k = list_at ls k

  families_children : (k : ℕ) → k < length ls → AreChildren Lower Begun begun_self (λ l. Contains ls l) (at k)
      (map at (get_or children k []))
  families_children k lk =
      record {
        falling =
            ascending_map at (λ c d. (r q : ℕ) → IsChild ls k c r → IsChild ls k d q → q < r)
            (After Lower Begun begun_self (λ l. Contains ls l)) (λ c. (r : ℕ) × IsChild ls k c r)
            (λ c d x y f l m u v. child_before (at k) m l y.0 x.0 (f x.0 y.0 x.1 y.1) (subst (λ z. Begun z m) y.1 v)
            (subst (λ z. Begun z l) x.1 u)) (get_or children k []) (λ c i. (are.child k c i).1) (are.falling k);
        under = λ c l i u.
            let d = from_map at (get_or children k []) c i in
            let r = (are.child k d.0 d.1).1 in
            child_under (at k) l r.0 (subst (λ z. Begun z l) (sym d.2 ∙ r.1) u);
        whole = λ l a u.
            elim (self_or_child (at k) l u) as (λ _. (l ≡ at k) ⊎ ((c : List ℕ) × Contains (map at (get_or children k [])) c × Begun c l)) [
              | inl e ↦ inl e
              | inr (r, v) ↦
                  let c = are.whole k r l lk a v in
                  inr (at c.0, map_in at (get_or children k []) c.0 c.1, subst (λ z. Begun z l) (sym c.2) v)
            ];
        known = λ c i.
            let d = from_map at (get_or children k []) c i in
            subst (λ z. Contains ls z) d.2 (in_lists ls d.0 (are.child k d.0 d.1).0);
      }

  pub first_walked : (order stack : List ℕ) → order ≡ [] → stack ≡ 0 ∷ [] → Walked ls order stack
  first_walked order stack e f =
      subst (λ os. Walked ls os stack) (sym e) (subst (λ ss. Walked ls [] ss) (sym f) (record {
        ordered = root_first Lower Begun begun_self (λ l. Contains ls l) (at 0) (in_lists ls 0 are.some)
            (λ l i. subst (λ z. Begun z l) (sym are.root) (begun_none l));
        numbers = λ c i. absurd (in_none c i);
        waiting = λ c i.
            elim (first_or_rest 0 c [] i) as (λ _. c < length ls) [
              | inl s ↦ subst (λ z. z < length ls) s are.some
              | inr n ↦ absurd (in_none c n)
            ];
      }))

  pub next_walked : (order stack rest more new : List ℕ) (k : ℕ) → Walked ls order stack → stack ≡ rest ++ k ∷ [] → more ≡ order ++ k ∷ []
      → new ≡ rest ++ get_or children k [] → Walked ls more new
  next_walked order stack rest more new k w e f g =
      let before : Under_way ls (map at order) (map at rest ++ at k ∷ []) =
      subst (λ ss. Under_way ls (map at order) ss) (ap (map at) e ∙ map-append at rest (k ∷ [])) w.ordered in
      let after = one_out Lower Begun begun_self (λ l. Contains ls l) (map at order) (map at rest) (map at (get_or children k []))
      (at k) before (families_children k (w.waiting k (subst (λ zs. Contains zs k) (sym e) (Contains-push rest k)))) in
      record {
        ordered =
            subst (λ os. Under_way ls os (map at new)) (sym (ap (map at) f ∙ map-append at order (k ∷ [])))
            (subst (λ ss. Under_way ls (map at order ++ at k ∷ []) ss)
            (sym (ap (map at) g ∙ map-append at rest (get_or children k []))) after);
        numbers = λ c i.
            elim (Contains-push_cases order k c (subst (λ zs. Contains zs c) f i)) as (λ _. c < length ls) [
              | inl old ↦ w.numbers c old
              | inr s ↦ subst (λ z. z < length ls) s (w.waiting k (subst (λ zs. Contains zs k) (sym e) (Contains-push rest k)))
            ];
        waiting = λ c i.
            elim (Contains-append_cases rest (get_or children k []) c (subst (λ zs. Contains zs c) g i)) as (λ _. c < length ls) [
              | inl old ↦ w.waiting c (subst (λ zs. Contains zs c) (sym e) (Contains-append_left rest (k ∷ []) c old))
              | inr n ↦ (are.child k c n).0
            ];
      }

  pub popped_under : (order stack rest : List ℕ) (k : ℕ) → Walked ls order stack → stack ≡ rest ++ k ∷ [] → k < length children
  popped_under order stack rest k w e = subst (λ n. k < n) (sym are.long)
      (w.waiting k (subst (λ zs. Contains zs k) (sym e) (Contains-push rest k)))

  pub walked_smaller : (order stack rest more new : List ℕ) (k : ℕ) → Walked ls order stack → stack ≡ rest ++ k ∷ [] → more ≡ order
      ++ k ∷ [] → new ≡ rest ++ get_or children k [] → length children - length more < length children - length order
  walked_smaller order stack rest more new k w e f g =
      let n = next_walked order stack rest more new k w e f g in
      let le = no_more_below (length ls) more (distinct_order ls more n.ordered.ascending) (λ q h. n.numbers q (held_in q more h)) in
      let long = ap length f ∙ length-append order (k ∷ []) in
      let same = are.long in
      omega (arith, le, long, same)

  pub walked_whole : (order stack result : List ℕ) → Walked ls order stack → stack ≡ [] → result ≡ order → IsOrder ls result
  walked_whole order stack result w e f =
      subst (λ os. IsOrder ls os) (sym f) (record {
        ascending = w.ordered.ascending;
        below = w.numbers;
        all = all_out Lower Begun begun_self (λ l. Contains ls l) (map at order)
            (subst (λ ss. Under_way ls (map at order) (map at ss)) e w.ordered);
      })

pub no_items : (xs : List ℕ) → length xs ≡ 0 → xs ≡ []
no_items [] e = refl
no_items (x ∷ xs) e = absurd (omega (arith, e))
