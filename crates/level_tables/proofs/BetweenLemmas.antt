-- The rows of what lies on paths between two nodes.
use Rattle.std.proofs.Common.{◌≡◌, ◌≢◌, ℕ, ◌<◌, ◌⊎◌, inl, inr, Bool, true, false, List, [], ◌∷◌, nat_eq, ◌||◌, refl, sym, ap, ◌∙◌}
use Rattle.std.specs.Prelude.{◌↔◌, ◌&&◌, if◌then◌else◌}
use Rattle.std.specs.List.{AllByRecursion}
use Rattle.std.proofs.lemmas.Bool.{or_cases, or_left, or_right, and_parts, and_from, eqb-true, eq-eqb, false≢true}
use Rattle.graph_search.specs.NodeLists.{holds}
use Rattle.graph_search.specs.Orders.{Rising}
use Rattle.tree_law.specs.Ways.{IsIn}
use Rattle.node_elimination.specs.GivenLevels.{edges_of}
use Rattle.node_elimination.specs.LevelStates.{Rises}
use Rattle.flow_tree.specs.declared.tables.PathRows.{PathRows}
use Rattle.flow_tree.proofs.LevelTaskLemmas.{last_edge}
use Rattle.level_tables.specs.LevelRows.{ArePaths, Onto, Upto}
use Rattle.level_tables.specs.PathEdges.{edges_between, leads_inside}
use Rattle.level_tables.proofs.FoundNodeLemmas.{onward}

-- ---- lists

pub is_in : (u : ℕ) (xs : List ℕ) → holds nat_eq u xs ≡ true → IsIn u xs
is_in u [] h = absurd (false≢true h)
is_in u (x ∷ xs) h =
    elim (or_cases (nat_eq u x) (holds nat_eq u xs) h) as (λ _. IsIn u (x ∷ xs)) [
      | inl a ↦ inl (eqb-true u x a)
      | inr b ↦ inr (is_in u xs b)
    ]

pub held : (u : ℕ) (xs : List ℕ) → IsIn u xs → holds nat_eq u xs ≡ true
held u [] i = absurd i
held u (x ∷ xs) (inl e) = or_left (nat_eq u x) (holds nat_eq u xs) (eq-eqb u x e)
held u (x ∷ xs) (inr i) = or_right (nat_eq u x) (holds nat_eq u xs) (held u xs i)

pub all_in : (P : ℕ → Type 0) (xs : List ℕ) → ((v : ℕ) → holds nat_eq v xs ≡ true → P v) → AllByRecursion P xs
all_in P [] h = tt
all_in P (x ∷ xs) h = (
  h x (or_left (nat_eq x x) (holds nat_eq x xs) (eq-eqb x x refl)),
  all_in P xs (λ v i. h v (or_right (nat_eq v x) (holds nat_eq v xs) i)),
)

rises : (xs : List ℕ) → Rising (λ u. u) xs → Rises xs
rises [] r = tt
rises (x ∷ xs) r = (all_in (λ y. x < y) xs r.0, rises xs r.1)

-- ---- edges of lists

pub edge_here : (p q : ℕ) (e : ℕ × ℕ) (es : List (ℕ × ℕ)) → p ≡ e.0 → q ≡ e.1 → edges_of (e ∷ es) p q ≡ true
edge_here p q e es a b =
    or_left (nat_eq p e.0 && nat_eq q e.1) (edges_of es p q) (and_from (nat_eq p e.0) (nat_eq q e.1) (eq-eqb p e.0 a) (eq-eqb q e.1 b))

pub edge_later : (p q : ℕ) (e : ℕ × ℕ) (es : List (ℕ × ℕ)) → edges_of es p q ≡ true → edges_of (e ∷ es) p q ≡ true
edge_later p q e es h = or_right (nat_eq p e.0 && nat_eq q e.1) (edges_of es p q) h

pub edge_cases : (p q : ℕ) (e : ℕ × ℕ) (es : List (ℕ × ℕ)) → edges_of (e ∷ es) p q ≡ true
    → ((p ≡ e.0) × (q ≡ e.1)) ⊎ (edges_of es p q ≡ true)
edge_cases p q e es h =
    elim (or_cases (nat_eq p e.0 && nat_eq q e.1) (edges_of es p q) h) as (λ _. ((p ≡ e.0) × (q ≡ e.1)) ⊎ (edges_of es p q ≡ true)) [
      | inl a ↦ let b = and_parts (nat_eq p e.0) (nat_eq q e.1) a in inl (eqb-true p e.0 b.0, eqb-true q e.1 b.1)
      | inr b ↦ inr b
    ]

module _ (ahead back : List ℕ) where
  abbrev Kept : ℕ → ℕ → List (ℕ × ℕ) → Type 0
  Kept p q es = (edges_of es p q ≡ true) × (holds nat_eq p ahead ≡ true) × (holds nat_eq q back ≡ true)

  kept_out : (es : List (ℕ × ℕ)) (p q : ℕ) → edges_of (edges_between ahead back es) p q ≡ true → Kept p q es
  kept_out [] p q h = absurd (false≢true h)
  kept_out (e ∷ es) p q h =
      by_test (λ k. (let r = kept_out es p q k in (edge_later p q e es r.0, r.1, r.2))) (holds nat_eq e.0 ahead && holds nat_eq e.1 back)
      refl h
    where
      by_test : (edges_of (edges_between ahead back es) p q ≡ true → Kept p q (e ∷ es)) → (b : Bool)
          → (holds nat_eq e.0 ahead && holds nat_eq e.1 back) ≡ b
          → edges_of (if b then e ∷ edges_between ahead back es else edges_between ahead back es) p q ≡ true → Kept p q (e ∷ es)
      by_test rest false t k = rest k
      by_test rest true t k =
          elim (edge_cases p q e (edges_between ahead back es) k) as (λ _. Kept p q (e ∷ es)) [
            | inl s ↦
                let b = and_parts (holds nat_eq e.0 ahead) (holds nat_eq e.1 back) t in
                (edge_here p q e es s.0 s.1, ap (λ x. holds nat_eq x ahead) s.0 ∙ b.0, ap (λ x. holds nat_eq x back) s.1 ∙ b.1)
            | inr o ↦ rest o
          ]

  kept_in : (es : List (ℕ × ℕ)) (p q : ℕ) → edges_of es p q ≡ true → holds nat_eq p ahead ≡ true → holds nat_eq q back ≡ true
      → edges_of (edges_between ahead back es) p q ≡ true
  kept_in [] p q h a b = absurd (false≢true h)
  kept_in (e ∷ es) p q h a b =
      by_test (λ o. kept_in es p q o a b) (holds nat_eq e.0 ahead && holds nat_eq e.1 back) refl (edge_cases p q e es h)
    where
      by_test : (edges_of es p q ≡ true → edges_of (edges_between ahead back es) p q ≡ true) → (t : Bool)
          → (holds nat_eq e.0 ahead && holds nat_eq e.1 back) ≡ t → ((p ≡ e.0) × (q ≡ e.1)) ⊎ (edges_of es p q ≡ true)
          → edges_of (if t then e ∷ edges_between ahead back es else edges_between ahead back es) p q ≡ true
      by_test rest true t (inl s) = edge_here p q e (edges_between ahead back es) s.0 s.1
      by_test rest true t (inr o) = edge_later p q e (edges_between ahead back es) (rest o)
      by_test rest false t (inr o) = rest o
      by_test rest false t (inl s) =
          absurd (false≢true (sym t ∙ and_from (holds nat_eq e.0 ahead) (holds nat_eq e.1 back)
          (ap (λ x. holds nat_eq x ahead) (sym s.0) ∙ a) (ap (λ x. holds nat_eq x back) (sym s.1) ∙ b)))

abbrev Inside : ℕ → ℕ → List (ℕ × ℕ) → ℕ → Type 0
Inside s t es u = (p : ℕ) × (edges_of es p u ≡ true) × (u ≢ s) × (u ≢ t)

inside_out : (s t : ℕ) (es : List (ℕ × ℕ)) (u : ℕ) → leads_inside s t es u ≡ true → Inside s t es u
inside_out s t [] u h = absurd (false≢true h)
inside_out s t (e ∷ es) u h =
    by_test (λ k. (let r = inside_out s t es u k in (r.0, edge_later r.0 u e es r.1, r.2, r.3))) (nat_eq e.1 s) refl (nat_eq e.1 t) refl h
  where
    by_test : (leads_inside s t es u ≡ true → Inside s t (e ∷ es) u) → (a : Bool) → nat_eq e.1 s ≡ a → (b : Bool) → nat_eq e.1 t ≡ b
        → (if a then leads_inside s t es u else (if b then leads_inside s t es u else (nat_eq u e.1 || leads_inside s t es u))) ≡ true
        → Inside s t (e ∷ es) u
    by_test rest true f b g k = rest k
    by_test rest false f true g k = rest k
    by_test rest false f false g k =
        elim (or_cases (nat_eq u e.1) (leads_inside s t es u) k) as (λ _. Inside s t (e ∷ es) u) [
          | inl i ↦
              let same = eqb-true u e.1 i in (
                e.0,
                edge_here e.0 u e es refl same,
                (λ z. false≢true (sym f ∙ eq-eqb e.1 s (sym same ∙ z))),
                (λ z. false≢true (sym g ∙ eq-eqb e.1 t (sym same ∙ z))),
              )
          | inr o ↦ rest o
        ]

inside_in : (s t : ℕ) (es : List (ℕ × ℕ)) (p u : ℕ) → edges_of es p u ≡ true → u ≢ s → u ≢ t → leads_inside s t es u ≡ true
inside_in s t [] p u h a b = absurd (false≢true h)
inside_in s t (e ∷ es) p u h a b =
    by_test (λ o. inside_in s t es p u o a b) (nat_eq e.1 s) refl (nat_eq e.1 t) refl (edge_cases p u e es h)
  where
    by_test : (edges_of es p u ≡ true → leads_inside s t es u ≡ true) → (x : Bool) → nat_eq e.1 s ≡ x → (y : Bool) → nat_eq e.1 t ≡ y
        → ((p ≡ e.0) × (u ≡ e.1)) ⊎ (edges_of es p u ≡ true)
        → (if x then leads_inside s t es u else (if y then leads_inside s t es u else (nat_eq u e.1 || leads_inside s t es u))) ≡ true
    by_test rest true f y g (inl i) = absurd (a (i.1 ∙ eqb-true e.1 s f))
    by_test rest true f y g (inr o) = rest o
    by_test rest false f true g (inl i) = absurd (b (i.1 ∙ eqb-true e.1 t g))
    by_test rest false f true g (inr o) = rest o
    by_test rest false f false g (inl i) = or_left (nat_eq u e.1) (leads_inside s t es u) (eq-eqb u e.1 i.1)
    by_test rest false f false g (inr o) = or_right (nat_eq u e.1) (leads_inside s t es u) (rest o)

-- ---- rows

pub are_paths : (es : List (ℕ × ℕ)) (ahead back : List ℕ) (s t : ℕ)
    → ((x : ℕ) → (holds nat_eq x ahead ≡ true) ↔ Onto (edges_of es) s x)
    → ((x : ℕ) → (holds nat_eq x back ≡ true) ↔ Upto (edges_of es) t x)
    → (r : PathRows) → r.edges ≡ edges_between ahead back es → ((u : ℕ) → leads_inside s t r.edges u ≡ holds nat_eq u r.nodes)
    → Rising (λ u. u) r.nodes → ArePaths (edges_of es) s t r
are_paths es ahead back s t on up r kept nodes rising =
    record {
      edges = λ p q. (
        (λ h. (let k = kept_out ahead back es p q (sym (ap (λ xs. edges_of xs p q) kept) ∙ h) in (k.0, (on p).0 k.1, (up q).0 k.2))),
        (λ k. ap (λ xs. edges_of xs p q) kept ∙ kept_in ahead back es p q k.0 ((on p).1 k.1) ((up q).1 k.2)),
      );
      nodes = λ u. ((λ i. inside u (held u r.nodes i)), (λ k. is_in u r.nodes (listed u k.0 k.1 k.2 k.3)));
      rising = rises r.nodes rising;
    }
  where
    inside : (u : ℕ) → holds nat_eq u r.nodes ≡ true → Onto (edges_of es) s u × Upto (edges_of es) t u × (u ≢ s) × (u ≢ t)
    inside u h =
        let k = inside_out s t r.edges u (nodes u ∙ h) in
        let e = kept_out ahead back es k.0 u (sym (ap (λ xs. edges_of xs k.0 u) kept) ∙ k.1) in
        (inr (onward (edges_of es) s k.0 u ((on k.0).0 e.1) e.0), (up u).0 e.2, k.2, k.3)

    listed : (u : ℕ) → Onto (edges_of es) s u → Upto (edges_of es) t u → u ≢ s → u ≢ t → holds nat_eq u r.nodes ≡ true
    listed u (inl e) k a b = absurd (a e)
    listed u (inr w) k a b =
        let l = last_edge (edges_of es) s w.0 u w.1 in
        sym (nodes u) ∙ inside_in s t r.edges l.0 u (ap (λ xs. edges_of xs l.0 u) kept
        ∙ kept_in ahead back es l.0 u l.2 ((on l.0).1 l.1) ((up u).1 k)) a b

pub inside_same : (s t u : ℕ) (xs ys : List (ℕ × ℕ)) → xs ≡ ys → leads_inside s t ys u ≡ leads_inside s t xs u
inside_same s t u xs ys e = ap (λ zs. leads_inside s t zs u) (sym e)
