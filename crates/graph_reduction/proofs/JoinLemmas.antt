-- A node is put into another, by numbers and sets.
use Rattle.std.proofs.Common.{◌≡◌, refl, sym, ap, ◌∙◌, subst, ℕ, ◌<◌, ◌⊎◌, inl, inr, Bool, true, false, List, [], ◌∷◌}
use Rattle.std.specs.Prelude.{◌≢◌, ◌&&◌, ◌||◌, not, ◌==◌, if◌then◌else◌, nat_lt, is_some}
use Rattle.std.specs.List.{list_any}
use Rattle.std.specs.Ordering.{nat_cmp}
use Rattle.std.specs.BTreeSet as tree
use Rattle.std.specs.BTreeSet.{BTreeSet}
use Rattle.std.proofs.lemmas.Bool.{cases_eq, cases_Bool, and_parts, eqb-true, eq-eqb, ne_eqb, cond-true, cond-false, false≢true}
use Rattle.graph_search.specs.Flows.{Flow, edge}
use Rattle.graph_reduction.specs.Labels.{Labelled}
use Rattle.graph_reduction.specs.Nodes.{number_in, state_of, AreHeld, AreReady, AreNodes, IsTested, Refreshes}
use Rattle.graph_reduction.specs.Reduction.{State, put_into, giver_of, is_open, fits_one, fits_two}
use Rattle.graph_reduction.specs.Sets.{in_set}
use Rattle.graph_reduction.proofs.RefitLemmas.{put_leaves_one, put_leaves_two}
use Rattle.graph_reduction.proofs.LabelLemmas.{relabelled, reowned, same_label, put_labels}
use Rattle.graph_reduction.proofs.ReductionLemmas.{inside_count}
use Rattle.graph_reduction.proofs.RefreshLemmas.{refreshes}
use Rattle.graph_reduction.proofs.TestLemmas.{labelled}

or_left : (p q : Bool) → p ≡ true → (p || q) ≡ true
or_left p q e = cc

or_right : (p q : Bool) → q ≡ true → (p || q) ≡ true
or_right true q e = refl
or_right false q e = e

or_parts : (p q : Bool) → (p || q) ≡ false → (p ≡ false) × (q ≡ false)
or_parts true q e = absurd (false≢true (sym e))
or_parts false q e = (refl, e)

not_true : (b : Bool) → not b ≡ true → b ≡ false
not_true true e = absurd (false≢true e)
not_true false e = refl

pub any_through : (F : ℕ → Bool) (xs : List ℕ) (u : ℕ) → list_any (λ y. y == u) xs ≡ true → F u ≡ true → list_any F xs ≡ true
any_through F [] u a b = absurd (false≢true a)
any_through F (x ∷ xs) u a b =
    elim (cases_eq x u) as (λ _. list_any F (x ∷ xs) ≡ true) [
      | inl e ↦ or_left (F x) (list_any F xs) (ap F e ∙ b)
      | inr ne ↦ or_right (F x) (list_any F xs) (any_through F xs u (sym (ap (λ t. t || list_any (λ y. y == u) xs) (ne_eqb x u ne)) ∙ a) b)
    ]

module _ (flow : Flow) (L O : List ℕ) (M I : BTreeSet (ℕ × ℕ × ℕ)) (ones twos : BTreeSet ℕ) (w : AreNodes flow L O M I ones twos)
    (v g from to : ℕ)
    (fits : fits_two flow (state_of flow (number_in L) (number_in O) I) v ≡ true)
    (sides : ((from ≡ number_in L v) × (to ≡ number_in L g)) ⊎ ((from ≡ number_in L g) × (to ≡ number_in L v)))
    (high : number_in O (number_in L g) ≡ g) (lv : v < flow.count) (lg : g < flow.count) (apart : from ≢ to) where
  abbrev s : State
  s = state_of flow (number_in L) (number_in O) I

  own : Labelled s (number_in L) (number_in O)
  own = labelled flow (number_in L) (number_in O) I w.ready.bounded w.ready.held w.ready.numbers

  parts : ((s.head v == v) ≡ true) × (not (v == s.head flow.entry) ≡ true)
  parts = and_parts (s.head v == v) (not (v == s.head flow.entry)) (and_parts ((s.head v == v) && not (v == s.head flow.entry))
      (is_some (giver_of flow s v)) fits).0

  top : s.head v ≡ v
  top = eqb-true (s.head v) v parts.0

  not_entry : v ≢ s.head flow.entry
  not_entry e = false≢true (sym (not_true (v == s.head flow.entry) parts.1) ∙ eq-eqb v (s.head flow.entry) e)

  differ : v ≢ g
  differ e =
      elim sides as (λ _. ⊥) [
        | inl x ↦ apart (x.0 ∙ (ap (number_in L) e ∙ sym x.1))
        | inr x ↦ apart (x.0 ∙ (ap (number_in L) (sym e) ∙ sym x.1))
      ]

  pub to_below : to < flow.count
  to_below =
      elim sides as (λ _. to < flow.count) [
        | inl x ↦ subst (λ n. n < flow.count) (sym x.1) (w.ready.numbers.labels g lg)
        | inr x ↦ subst (λ n. n < flow.count) (sym x.1) (w.ready.numbers.labels v lv)
      ]

  pub from_below : from < flow.count
  from_below =
      elim sides as (λ _. from < flow.count) [
        | inl x ↦ subst (λ n. n < flow.count) (sym x.0) (w.ready.numbers.labels v lv)
        | inr x ↦ subst (λ n. n < flow.count) (sym x.0) (w.ready.numbers.labels g lg)
      ]

  module _ (L' O' moved : List ℕ) (I' : BTreeSet (ℕ × ℕ × ℕ))
      (labels : (x : ℕ) → number_in L' x ≡ (if number_in L x == from then to else number_in L x))
      (owners : (n : ℕ) → number_in O' n ≡ (if n == to then g else number_in O n))
      (held : AreHeld flow (number_in L') I')
      (opens : (t u : ℕ) → in_set I' t (number_in L' u) u ≡ in_set I t (number_in L u) u)
      (all : (x : ℕ) → number_in L x ≡ from → x < flow.count → list_any (λ u. u == x) moved ≡ true) where
    same_labels : number_in L' ≡ relabelled from to (number_in L)
    same_labels = λ i x. labels x i

    same_owners : number_in O' ≡ reowned to g (number_in O)
    same_owners = λ i n. owners n i

    put : Labelled (put_into v g s) (relabelled from to (number_in L)) (reowned to g (number_in O))
    put = put_labels s (number_in L) (number_in O) own v g from to top high differ sides

    pub ready_put : AreReady flow (number_in L') (number_in O') I'
    ready_put =
        record {
          bounded = w.ready.bounded;
          held = held;
          numbers =
              record {
                labels = λ u l. subst (λ n. n < flow.count) (sym (labels u))
                    (elim (cases_Bool (number_in L u == from)) as (λ _.
                    (if number_in L u == from then to else number_in L u) < flow.count) [
                      | inl t ↦ subst (λ n. n < flow.count) (sym (cond-true (number_in L u == from) to (number_in L u) t)) to_below
                      | inr f ↦ subst (λ n. n < flow.count) (sym (cond-false (number_in L u == from) to (number_in L u) f))
                          (w.ready.numbers.labels u l)
                    ]);
                owners = λ n l. subst (λ m. m < flow.count) (sym (owners n))
                    (elim (cases_Bool (n == to)) as (λ _. (if n == to then g else number_in O n) < flow.count) [
                      | inl t ↦ subst (λ m. m < flow.count) (sym (cond-true (n == to) g (number_in O n) t)) lg
                      | inr f ↦ subst (λ m. m < flow.count) (sym (cond-false (n == to) g (number_in O n) f)) (w.ready.numbers.owners n l)
                    ]);
                back = λ x.
                    subst (λ (f : ℕ → ℕ). f (number_in O' (f x)) ≡ f x) (sym same_labels)
                    (subst (λ (h : ℕ → ℕ). relabelled from to (number_in L) (h (relabelled from to (number_in L) x)) ≡ relabelled from to
                    (number_in L) x) (sym same_owners) (put.back x));
              };
        }

    head_put : (x : ℕ) → number_in O' (number_in L' x) ≡ (put_into v g s).head x
    head_put x =
        ap (λ (f : ℕ → ℕ). number_in O' (f x)) same_labels
        ∙ (ap (λ (h : ℕ → ℕ). h (relabelled from to (number_in L) x)) same_owners ∙ sym (put.is x))

    pub state_put : state_of flow (number_in L') (number_in O') I' ≡ put_into v g s
    state_put = λ i. record { head = λ x. head_put x i; closed = λ u h. ap (λ b. edge flow u h && not b) (opens h u) i }

    abbrev s' : State
    s' = state_of flow (number_in L') (number_in O') I'

    abbrev pub touched : ℕ → Bool
    touched q = list_any (λ u. list_any (λ t. t == q) (flow.next u)) moved

    -- no open edge leads from the blocks that moved to a block that wasn't touched
    from_moved : (q u : ℕ) → touched q ≡ false → is_open flow s u q ≡ true → number_in L u ≡ from → ⊥
    from_moved q u none o e =
        let d = (and_parts (edge flow u q) (not (s.closed u q)) o).0 in
        false≢true (sym none ∙ any_through (λ y. list_any (λ t. t == q) (flow.next y)) moved u (all u e (inside_count flow u q d))
        (and_parts (nat_lt u flow.count) (list_any (λ t. t == q) (flow.next u)) d).1)

    away : (q : ℕ) → touched q ≡ false → ((u : ℕ) → is_open flow s u q ≡ true → s.head u ≢ v) ⊎
        ((u : ℕ) → is_open flow s u q ≡ true → s.head u ≢ g)
    away q none =
        elim sides as (λ _. ((u : ℕ) → is_open flow s u q ≡ true → s.head u ≢ v) ⊎ ((u : ℕ) → is_open flow s u q ≡ true → s.head u ≢ g)) [
          | inl x ↦ inl (λ u o e. from_moved q u none o (same_label s (number_in L) (number_in O) own u v e ∙ sym x.0))
          | inr x ↦ inr (λ u o e. from_moved q u none o (same_label s (number_in L) (number_in O) own u g e ∙ sym x.0))
        ]

    module _ (ones1 twos1 ones2 twos2 ones3 twos3 : BTreeSet ℕ)
        (f1 : Refreshes flow s' touched ones ones1 twos twos1) (f2 : Refreshes flow s' (λ q. q == g) ones1 ones2 twos1 twos2)
        (f3 : Refreshes flow s' (λ q. q == v) ones2 ones3 twos2 twos3) where
      f : Refreshes flow s' (λ q. (touched q || (q == g)) || (q == v)) ones ones3 twos twos3
      f =
          refreshes flow s' (λ q. touched q || (q == g)) (λ q. q == v)
          (λ q. (touched q || (q == g)) || (q == v)) ones ones2 ones3 twos twos2 twos3
          (refreshes flow s' touched (λ q. q == g) (λ q. touched q || (q == g)) ones ones1 ones2 twos twos1 twos2 f1 f2 (λ q. refl)) f3
          (λ q. refl)

      apart_from : (q y : ℕ) → (q == y) ≡ false → q ≢ y
      apart_from q y e d = false≢true (sym e ∙ eq-eqb q y d)

      pub tested_put : IsTested flow s' ones3 twos3
      tested_put =
          record {
            one = λ q.
                elim (cases_Bool ((touched q || (q == g)) || (q == v))) as (λ _. tree.contains nat_cmp ones3 q ≡ fits_one flow s' q) [
                  | inl t ↦ f.one q ∙ cond-true ((touched q || (q == g)) || (q == v)) (fits_one flow s' q) (tree.contains nat_cmp ones q) t
                  | inr n ↦
                      let a = or_parts (touched q || (q == g)) (q == v) n in
                      let b = or_parts (touched q) (q == g) a.0 in
                      f.one q ∙ (cond-false ((touched q || (q == g)) || (q == v)) (fits_one flow s' q) (tree.contains nat_cmp ones q) n
                      ∙ (w.tested.one q ∙ (sym (put_leaves_one flow s v g q (apart_from q v a.1) (apart_from q g b.1)) ∙ ap
                      (λ (r : State). fits_one flow r q) (sym state_put))))
                ];
            two = λ q.
                elim (cases_Bool ((touched q || (q == g)) || (q == v))) as (λ _. tree.contains nat_cmp twos3 q ≡ fits_two flow s' q) [
                  | inl t ↦ f.two q ∙ cond-true ((touched q || (q == g)) || (q == v)) (fits_two flow s' q) (tree.contains nat_cmp twos q) t
                  | inr n ↦
                      let a = or_parts (touched q || (q == g)) (q == v) n in
                      let b = or_parts (touched q) (q == g) a.0 in
                      f.two q ∙ (cond-false ((touched q || (q == g)) || (q == v)) (fits_two flow s' q) (tree.contains nat_cmp twos q) n
                      ∙ (w.tested.two q ∙ (sym (put_leaves_two flow s v g q (apart_from q v a.1) (apart_from q g b.1) not_entry
                      (away q b.0)) ∙ ap (λ (r : State). fits_two flow r q) (sym state_put))))
                ];
          }

pub ready_over : (flow : Flow) (L L' O O' : List ℕ) (I I' : BTreeSet (ℕ × ℕ × ℕ)) → L' ≡ L → O' ≡ O → I' ≡ I → AreReady flow (number_in L)
    (number_in O) I → AreReady flow (number_in L') (number_in O') I'
ready_over flow L L' O O' I I' a b c r =
    subst (λ (x : List ℕ). AreReady flow (number_in x) (number_in O') I') (sym a)
    (subst (λ (x : List ℕ). AreReady flow (number_in L) (number_in x) I') (sym b)
    (subst (λ (x : BTreeSet (ℕ × ℕ × ℕ)). AreReady flow (number_in L) (number_in O) x) (sym c) r))
