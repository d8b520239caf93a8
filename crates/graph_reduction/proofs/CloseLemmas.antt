-- The edges to a head from its own node are taken out of the set.
use Rattle.std.proofs.Common.{◌≡◌, refl, sym, ap, ◌∙◌, subst, ℕ, ◌<◌, ◌^◌, inl, inr, Bool, true, false, List, arith}
use Rattle.std.specs.Prelude.{◌&&◌, ◌||◌, not, ◌==◌}
use Rattle.std.specs.Ordering.{nat_cmp}
use Rattle.std.specs.BTreeSet as tree
use Rattle.std.specs.BTreeSet.{BTreeSet}
use Rattle.std.proofs.lemmas.Bool.{cases_eq, cases_Bool, and_parts, and_from, eqb-true, eq-eqb, ne_eqb, cond-true, cond-false, false≢true}
use Rattle.std.proofs.lemmas.Bool.{false_from_ne_true}
use Rattle.graph_search.specs.Flows.{Flow, edge}
use Rattle.graph_reduction.specs.Nodes.{number_in, state_of, AreReady, AreNodes, IsTested, Refreshes}
use Rattle.graph_reduction.specs.Reduction.{State, close, fits_one, fits_two}
use Rattle.graph_reduction.specs.Sets.{in_set}
use Rattle.graph_reduction.proofs.RefitLemmas.{close_leaves_one, close_leaves_two}
use Rattle.graph_reduction.proofs.ReductionLemmas.{inside_count}

and_one : (b : Bool) → (b && true) ≡ b
and_one true = refl
and_one false = refl

second_false : (p q : Bool) → q ≡ false → (p && q) ≡ false
second_false true q e = e
second_false false q e = refl

or_none : (b c : Bool) → c ≡ false → (b || c) ≡ b
or_none true c e = refl
or_none false c e = e

now_closed : (e i : Bool) → (e && not false) ≡ ((e && not i) || (true && true && e))
now_closed true true = refl
now_closed true false = refl
now_closed false i = refl

no_edge : (e i j a b : Bool) → e ≡ false → (e && not i) ≡ ((e && not j) || (a && b && e))
no_edge true i j a b h = absurd (false≢true (sym h))
no_edge false i j true true h = refl
no_edge false i j true false h = refl
no_edge false i j false b h = refl

first_false : (p q e : Bool) → (p && q) ≡ false → (p && q && e) ≡ false
first_false p q e h = ap (λ b. b && e) h

module _ (flow : Flow) (label owner : ℕ → ℕ) (into into' : BTreeSet (ℕ × ℕ × ℕ)) (r : AreReady flow label owner into) (h node : ℕ)
    (mine : node ≡ label h) (top : owner (label h) ≡ h)
    (gone : (u : ℕ) → u < 2 ^ 32 → in_set into' h node u ≡ false)
    (less : (x n u : ℕ) → in_set into' x n u ≡ true → in_set into x n u ≡ true)
    (others : (x n u : ℕ) → ((x == h) && (n == node)) ≡ false → in_set into' x n u ≡ in_set into x n u) where
  pub ready_closed : AreReady flow label owner into'
  ready_closed =
      record {
        bounded = r.bounded;
        held =
            record {
              edges = λ t n u i. r.held.edges t n u (less t n u i);
              exact = λ t n u.
                  elim (cases_eq (label u) n) as (λ _. in_set into' t n u ≡ (in_set into' t (label u) u && (label u == n))) [
                    | inl e ↦ ap (λ m. in_set into' t m u) (sym e) ∙ (sym (and_one (in_set into' t (label u) u)) ∙ ap
                        (λ b. in_set into' t (label u) u && b) (sym (eq-eqb (label u) n e)))
                    | inr ne ↦
                        false_from_ne_true (in_set into' t n u) (λ i. ne
                        (eqb-true (label u) n (and_parts (in_set into t (label u) u) (label u == n)
                        (sym (r.held.exact t n u) ∙ less t n u i)).1))
                        ∙ sym (second_false (in_set into' t (label u) u) (label u == n) (ne_eqb (label u) n ne))
                  ];
            };
        numbers = r.numbers;
      }

  closed_at : (u x : ℕ) → (edge flow u x && not (in_set into' x (label u) u)) ≡
      ((edge flow u x && not (in_set into x (label u) u)) || ((x == h) && (owner (label u) == h) && edge flow u x))
  closed_at u x =
      elim (cases_Bool (edge flow u x)) as (λ _. (edge flow u x && not (in_set into' x (label u) u)) ≡
      ((edge flow u x && not (in_set into x (label u) u)) || ((x == h) && (owner (label u) == h) && edge flow u x))) [
        | inr none ↦ no_edge (edge flow u x) (in_set into' x (label u) u) (in_set into x (label u) u) (x == h) (owner (label u) == h) none
        | inl edged ↦
            elim (cases_Bool ((x == h) && (owner (label u) == h))) as (λ _. (edge flow u x && not (in_set into' x (label u) u)) ≡
            ((edge flow u x && not (in_set into x (label u) u)) || ((x == h) && (owner (label u) == h) && edge flow u x))) [
              | inl both ↦
                  let p = and_parts (x == h) (owner (label u) == h) both in
                  let same : label u ≡ node = sym (r.numbers.back u) ∙ (ap label (eqb-true (owner (label u)) h p.1) ∙ sym mine) in
                  let l = inside_count flow u x edged in
                  let f = r.bounded.few in
                  let out : in_set into' x (label u) u ≡ false = ap (λ y. in_set into' y (label u) u) (eqb-true x h p.0) ∙
                  (ap (λ n. in_set into' h n u) same ∙ gone u (omega (arith, l, f))) in
                  ap (λ b. edge flow u x && not b) out
                  ∙ (now_closed (edge flow u x) (in_set into x (label u) u)
                  ∙ (ap (λ b. (edge flow u x && not (in_set into x (label u) u)) || (b && true && edge flow u x)) (sym p.0)
                  ∙ ap (λ b. (edge flow u x && not (in_set into x (label u) u)) || ((x == h) && b && edge flow u x)) (sym p.1)))
              | inr differs ↦
                  let apart : ((x == h) && (label u == node)) ≡ false =
                  false_from_ne_true ((x == h) && (label u == node)) (λ t.
                  let p = and_parts (x == h) (label u == node) t in
                  false≢true (sym differs ∙ and_from (x == h) (owner (label u) == h) p.0
                  (eq-eqb (owner (label u)) h (ap owner (eqb-true (label u) node p.1 ∙ mine) ∙ top)))) in
                  ap (λ b. edge flow u x && not b) (others x (label u) u apart)
                  ∙ sym (or_none (edge flow u x && not (in_set into x (label u) u)) ((x == h) && (owner (label u) == h) && edge flow u x)
                  (first_false (x == h) (owner (label u) == h) (edge flow u x) differs))
            ]
      ]

  pub state_closed : state_of flow label owner into' ≡ close flow h (state_of flow label owner into)
  state_closed = λ i. record { head = λ x. owner (label x); closed = λ u x. closed_at u x i }

  pub tested_closed : (ones twos ones' twos' : BTreeSet ℕ) → IsTested flow (state_of flow label owner into) ones twos
      → Refreshes flow (state_of flow label owner into') (λ q. q == h) ones ones' twos twos' → IsTested flow
      (state_of flow label owner into') ones' twos'
  tested_closed ones twos ones' twos' t f =
      let s = state_of flow label owner into in
      let s' = state_of flow label owner into' in
      record {
        one = λ q.
            elim (cases_eq q h) as (λ _. tree.contains nat_cmp ones' q ≡ fits_one flow s' q) [
              | inl e ↦ f.one q ∙ cond-true (q == h) (fits_one flow s' q) (tree.contains nat_cmp ones q) (eq-eqb q h e)
              | inr ne ↦
                  f.one q ∙ (cond-false (q == h) (fits_one flow s' q) (tree.contains nat_cmp ones q) (ne_eqb q h ne)
                  ∙ (t.one q ∙ (sym (close_leaves_one flow s h q ne) ∙ ap (λ (r : State). fits_one flow r q) (sym state_closed))))
            ];
        two = λ q.
            elim (cases_eq q h) as (λ _. tree.contains nat_cmp twos' q ≡ fits_two flow s' q) [
              | inl e ↦ f.two q ∙ cond-true (q == h) (fits_two flow s' q) (tree.contains nat_cmp twos q) (eq-eqb q h e)
              | inr ne ↦
                  f.two q ∙ (cond-false (q == h) (fits_two flow s' q) (tree.contains nat_cmp twos q) (ne_eqb q h ne)
                  ∙ (t.two q ∙ (sym (close_leaves_two flow s h q ne) ∙ ap (λ (r : State). fits_two flow r q) (sym state_closed))))
            ];
      }

-- the same nodes under other names
pub state_over : (flow : Flow) (L L' O O' : List ℕ) (I I' : BTreeSet (ℕ × ℕ × ℕ)) → L' ≡ L → O' ≡ O → I' ≡ I → state_of flow (number_in L')
    (number_in O') I' ≡ state_of flow (number_in L) (number_in O) I
state_over flow L L' O O' I I' a b c =
    ap (λ (x : List ℕ). state_of flow (number_in x) (number_in O') I') a
    ∙ (ap (λ (x : List ℕ). state_of flow (number_in L) (number_in x) I') b ∙ ap
    (λ (x : BTreeSet (ℕ × ℕ × ℕ)). state_of flow (number_in L) (number_in O) x) c)

pub nodes_over : (flow : Flow) (L L' O O' : List ℕ) (M M' I I' : BTreeSet (ℕ × ℕ × ℕ)) (ones twos : BTreeSet ℕ) → L' ≡ L → O' ≡ O → M' ≡ M
    → I' ≡ I → AreNodes flow L O M I ones twos → AreNodes flow L' O' M' I' ones twos
nodes_over flow L L' O O' M M' I I' ones twos a b c d w =
    subst (λ (x : List ℕ). AreNodes flow x O' M' I' ones twos) (sym a)
    (subst (λ (x : List ℕ). AreNodes flow L x M' I' ones twos) (sym b)
    (subst (λ (x : BTreeSet (ℕ × ℕ × ℕ)). AreNodes flow L O x I' ones twos) (sym c)
    (subst (λ (x : BTreeSet (ℕ × ℕ × ℕ)). AreNodes flow L O M x ones twos) (sym d) w)))
