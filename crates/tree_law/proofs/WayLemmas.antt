-- The members of the ways of an edge bound the edge's language, at each state of taking out nodes.
use Rattle.std.proofs.Common.{◌≡◌, ◌≢◌, ℕ, zero, suc, ◌-◌, ◌≤◌, inl, inr, Bool, true, false, if◌then◌else◌, ◌||◌, nat_eq, max, List, []}
use Rattle.std.proofs.Common.{◌∷◌, ◌++◌, map, length, refl, sym, ap, subst, ◌∙◌, arith}
use Rattle.std.proofs.lemmas.Bool.Decides.{nat_tests}
use Rattle.std.specs.List.{AllByRecursion}
use Rattle.wsym_terms.specs.Extents.{Extent, plus, if_any, IsAtMost}
use Rattle.wsym_terms.specs.Trees.{Meaning, best, in_order, shared_out, scope_of_all, level_meaning, meaning_of}
use Rattle.wsym_terms.specs.declared.trees.Tree.{Tree, fold-roll-Tree}
use Rattle.wsym_terms.specs.declared.trees.Tree.TheOpen.{Tree-F}
use Rattle.wsym_terms.specs.declared.trees.Tree.TheVariants.{Seq, Alt}
use Rattle.wsym_terms.specs.declared.trees.Tree.TheVariants as t
use Rattle.wsym_terms.proofs.SplitLaws.{best_at_least, best_at_most, plus_best_at_most}
use Rattle.wsym_terms.proofs.ExtentLaws.{at_most_self, at_most_trans, at_most_path, zero_at_most, plus_at_most, plus_assoc, plus_comm}
use Rattle.wsym_terms.proofs.ExtentLaws.{plus_nothing, nothing_plus}
use Rattle.interval_loops.specs.Trails.{Visit}
use Rattle.tree_law.specs.Pieces.{total, Then, Or, IsBoundOf}
use Rattle.tree_law.specs.Ways.{members, through, taken_out, all_taken_out, TakenOut, AllTakenOut, edge_ways, EdgePiece}
use Rattle.tree_law.proofs.SumLemmas.{within_at_most}
use Rattle.tree_law.proofs.LoopBoundLemmas.{if_any_bound, members_bound, choices_bound}

-- The greatest sum of some choices and of one more at their end.
pub shared_end : (m : Meaning) (ms : List Meaning) (k : Meaning) (depth i n : ℕ) → i ≤ n → IsAtMost
    (plus (shared_out (m ∷ ms) depth i) (k.value depth (n - i))) (shared_out (m ∷ ms ++ k ∷ []) depth n)
shared_end m [] k depth i n h = best_at_least (m.value depth) (k.value depth) i n n h
shared_end m (l ∷ ms) k depth i n h =
    let e : Extent = k.value depth (n - i) in
    let f : ℕ → Extent = m.value depth in
    let g : ℕ → Extent = shared_out (l ∷ ms) depth in
    let r : ℕ → Extent = shared_out (l ∷ ms ++ k ∷ []) depth in
    subst (λ (x : Extent). IsAtMost x (best f r n n)) (plus_comm e (best f g i i))
    (plus_best_at_most e f g i i (best f r n n) (λ j le.
    (let rest : IsAtMost (plus (g (i - j)) (k.value depth (n - j - (i - j)))) (r (n - j)) = shared_end l ms k depth (i - j) (n - j)
    (omega arith) in
    let same : n - j - (i - j) ≡ n - i = omega arith in
    let later : IsAtMost (plus (g (i - j)) e) (r (n - j)) = subst (λ (a : ℕ). IsAtMost (plus (g (i - j)) (k.value depth a))
    (r (n - j))) same rest in
    let order : plus e (plus (f j) (g (i - j))) ≡ plus (f j) (plus (g (i - j)) e) = plus_comm e (plus (f j) (g (i - j))) ∙ plus_assoc (f j)
    (g (i - j)) e in
    subst (λ (x : Extent). IsAtMost x (best f r n n)) (sym order)
    (at_most_trans (plus (f j) (plus (g (i - j)) e)) (plus (f j) (r (n - j))) (best f r n n)
    (plus_at_most (f j) (plus (g (i - j)) e) (f j) (r (n - j)) (at_most_self (f j)) later)
    (best_at_least f r j n n (omega arith))))))

in_order_append : (ms ks : List Meaning) (depth n : ℕ) → in_order (ms ++ ks) depth n ≡ plus (in_order ms depth n) (in_order ks depth n)
in_order_append [] ks depth n = sym (plus_nothing (in_order ks depth n))
in_order_append (m ∷ ms) ks depth n = ap (plus (m.value depth n)) (in_order_append ms ks depth n) ∙ sym
    (plus_assoc (m.value depth n) (in_order ms depth n) (in_order ks depth n))

pub scope_append : (ms ks : List Meaning) (depth : ℕ) → scope_of_all (ms ++ ks) depth ≡ max (scope_of_all ms depth) (scope_of_all ks depth)
scope_append [] ks depth = omega arith
scope_append (m ∷ ms) ks depth = omega (arith, scope_append ms ks depth)

pub map_append : {A B : Type 0} (f : A → B) (xs ys : List A) → map f (xs ++ ys) ≡ map f xs ++ map f ys
map_append f [] ys = refl
map_append f (x ∷ xs) ys = ap (λ l. f x ∷ l) (map_append f xs ys)

if_any_less : (f : ℕ → Extent) (n : ℕ) → IsAtMost (if_any f n) (f n)
if_any_less f zero = zero_at_most (f zero)
if_any_less f (suc n) = at_most_self (f (suc n))

module _ (scopes : ℕ → ℕ → ℕ) where
  -- a bound of a language bounds each smaller one, with a greater scope and a greater value
  pub weaker_bound : (s r : ℕ) (f g : ℕ → Extent) (P Q : List Visit → Type 0) → s ≤ r → ((n : ℕ) → IsAtMost (f n) (g n)) →
      ((x : List Visit) → Q x → P x) → IsBoundOf scopes s f P → IsBoundOf scopes r g Q
  weaker_bound s r f g P Q le more all b xs each once same =
      within_at_most (total xs) (f (length xs)) (g (length xs)) (b xs (turned xs each) once (λ d h. same d (omega arith)))
      (more (length xs))
    where
      turned : (ys : List (List Visit)) → AllByRecursion Q ys → AllByRecursion P ys
      turned [] e = tt
      turned (y ∷ ys) e = (all y e.0, turned ys e.1)

  module _ (miss : ℕ) (bounds : ℕ → Extent) where
    abbrev pub means : Tree → Meaning
    means = meaning_of miss bounds

    -- the meaning of two variants, from those of their parts
    pub seq_opens : (ts : List Tree) → means (Seq ts) ≡ level_meaning miss bounds (Tree-F.Seq (map means ts))
    seq_opens ts = ap means (sym (t.rolls-Seq ts)) ∙ fold-roll-Tree Meaning (level_meaning miss bounds) (Tree-F.Seq ts)

    pub alt_opens : (ts : List Tree) → means (Alt ts) ≡ level_meaning miss bounds (Tree-F.Alt (map means ts))
    alt_opens ts = ap means (sym (t.rolls-Alt ts)) ∙ fold-roll-Tree Meaning (level_meaning miss bounds) (Tree-F.Alt ts)

    module _ (depth : ℕ) where
      abbrev pub TreeBound : Tree → (List Visit → Type 0) → Type 0
      TreeBound tree = IsBoundOf scopes ((means tree).scope depth) ((means tree).value depth)

      abbrev pub ListBound : List Tree → (List Visit → Type 0) → Type 0
      ListBound ts = IsBoundOf scopes (scope_of_all (map means ts) depth) (in_order (map means ts) depth)

      abbrev pub ChoiceBound : List Tree → (List Visit → Type 0) → Type 0
      ChoiceBound ts = IsBoundOf scopes (scope_of_all (map means ts) depth) (shared_out (map means ts) depth)

      pub one_member : (tree : Tree) (P : List Visit → Type 0) → TreeBound tree P → ListBound (tree ∷ []) P
      one_member tree P b = weaker_bound ((means tree).scope depth) (max ((means tree).scope depth) 0) ((means tree).value depth)
          (in_order (means tree ∷ []) depth) P P
          (omega arith) (λ n. at_most_path ((means tree).value depth n) (in_order (means tree ∷ []) depth n)
          (sym (nothing_plus ((means tree).value depth n)))) (λ x p. p) b

      pub no_members : ListBound [] (λ x. x ≡ [])
      no_members xs all once same = nothing xs all
        where
          nothing : (ys : List (List Visit)) → AllByRecursion (λ x. x ≡ []) ys → total ys ≤ 0
          nothing [] all = omega arith
          nothing (y ∷ ys) all = omega (arith, nothing ys all.1, ap (λ (l : List Visit). total (l ∷ [])) all.0)

      pub more_members : (ts us : List Tree) (P Q : List Visit → Type 0) → ListBound ts P → ListBound us Q → ListBound (ts ++ us) (Then P Q)
      more_members ts us P Q b c =
          let ms : List Meaning = map means ts in
          let ks : List Meaning = map means us in
          subst (λ (l : List Meaning). IsBoundOf scopes (scope_of_all l depth) (in_order l depth) (Then P Q)) (sym (map_append means ts us))
          (weaker_bound (max (scope_of_all ms depth) (scope_of_all ks depth)) (scope_of_all (ms ++ ks) depth)
          (λ n. plus (in_order ms depth n) (in_order ks depth n)) (in_order (ms ++ ks) depth) (Then P Q) (Then P Q)
          (omega (arith, scope_append ms ks depth)) (λ n. at_most_path (plus (in_order ms depth n) (in_order ks depth n))
          (in_order (ms ++ ks) depth n) (sym (in_order_append ms ks depth n))) (λ x p. p)
          (members_bound scopes (scope_of_all ms depth) (scope_of_all ks depth) (in_order ms depth) (in_order ks depth) P Q b c))

      pub seq_bound : (ts : List Tree) (P : List Visit → Type 0) → ListBound ts P → TreeBound (Seq ts) P
      seq_bound ts P b = subst (λ (m : Meaning). IsBoundOf scopes (m.scope depth) (m.value depth) P) (sym (seq_opens ts))
          (if_any_bound scopes (scope_of_all (map means ts) depth) (in_order (map means ts) depth) P b)

      pub alt_bound : (ts : List Tree) (P : List Visit → Type 0) → ChoiceBound ts P → TreeBound (Alt ts) P
      alt_bound ts P b = subst (λ (m : Meaning). IsBoundOf scopes (m.scope depth) (m.value depth) P) (sym (alt_opens ts))
          (if_any_bound scopes (scope_of_all (map means ts) depth) (shared_out (map means ts) depth) P b)

      pub more_choices : (tree : Tree) (ts : List Tree) (u : Tree) (P Q : List Visit → Type 0) → ChoiceBound (tree ∷ ts) P → TreeBound u Q
          → ChoiceBound (tree ∷ ts ++ u ∷ []) (Or P Q)
      more_choices tree ts u P Q b c =
          let m : Meaning = means tree in
          let ms : List Meaning = map means ts in
          let k : Meaning = means u in
          subst (λ (l : List Meaning). IsBoundOf scopes (scope_of_all (m ∷ l) depth) (shared_out (m ∷ l) depth) (Or P Q))
          (sym (map_append means ts (u ∷ [])))
          (weaker_bound (max (scope_of_all (m ∷ ms) depth) (k.scope depth)) (scope_of_all (m ∷ ms ++ k ∷ []) depth)
          (λ n. best (shared_out (m ∷ ms) depth) (k.value depth) n n) (shared_out (m ∷ ms ++ k ∷ []) depth) (Or P Q) (Or P Q)
          (omega (arith, scope_append ms (k ∷ []) depth))
          (λ n. best_at_most (shared_out (m ∷ ms) depth) (k.value depth) n n (shared_out (m ∷ ms ++ k ∷ []) depth n)
          (λ i le. shared_end m ms k depth i n le))
          (λ x p. p)
          (choices_bound scopes (scope_of_all (m ∷ ms) depth) (k.scope depth) (shared_out (m ∷ ms) depth) (k.value depth) P Q b c))

      -- the ways of an edge, as choices, where there are some; where there are none, no piece goes along it
      abbrev pub WaysBound : List (List Tree) → (List Visit → Type 0) → Type 0
      WaysBound [] P = (x : List Visit) → P x → ⊥
      WaysBound (w ∷ ws) P = ChoiceBound (Seq w ∷ map Seq ws) P

      pub ways_weaker : (ws : List (List Tree)) (P Q : List Visit → Type 0) → ((x : List Visit) → Q x → P x) → WaysBound ws P
          → WaysBound ws Q
      ways_weaker [] P Q less b = λ x q. b x (less x q)
      ways_weaker (w ∷ ws) P Q less b =
          let ms : List Meaning = map means (Seq w ∷ map Seq ws) in
          weaker_bound (scope_of_all ms depth) (scope_of_all ms depth) (shared_out ms depth) (shared_out ms depth) P Q (omega arith)
          (λ n. at_most_self (shared_out ms depth n)) less b

      pub ways_members : (ws : List (List Tree)) (P : List Visit → Type 0) → WaysBound ws P → ListBound (members ws) P
      ways_members [] P b = none
        where
          none : ListBound [] P
          none [] all once same = omega arith
          none (x ∷ xs) all once same = absurd (b x all.0)
      ways_members (w ∷ []) P b =
          let ms : List Meaning = map means w in
          let opened : IsBoundOf scopes (max (scope_of_all ms depth) 0) (if_any (in_order ms depth)) P = subst
          (λ (m : Meaning). IsBoundOf scopes (max (m.scope depth) 0) (m.value depth) P) (seq_opens w) b in
          weaker_bound (max (scope_of_all ms depth) 0) (scope_of_all ms depth) (if_any (in_order ms depth)) (in_order ms depth) P P
          (omega arith) (if_any_less (in_order ms depth)) (λ x p. p) opened
      ways_members (w ∷ u ∷ ws) P b = one_member (Alt (map Seq (w ∷ u ∷ ws))) P (alt_bound (map Seq (w ∷ u ∷ ws)) P b)

      pub first_way : (w : List Tree) (P : List Visit → Type 0) → ListBound w P → WaysBound (w ∷ []) P
      first_way w P b =
          let m : Meaning = means (Seq w) in
          weaker_bound (m.scope depth) (max (m.scope depth) 0) (m.value depth) (m.value depth) P P (omega arith)
          (λ n. at_most_self (m.value depth n)) (λ x p. p) (seq_bound w P b)

      pub more_ways : (ws : List (List Tree)) (w : List Tree) (P Q : List Visit → Type 0) → WaysBound ws P → ListBound w Q → WaysBound
          (ws ++ w ∷ []) (Or P Q)
      more_ways [] w P Q b c = ways_weaker (w ∷ []) Q (Or P Q) second (first_way w Q c)
        where
          second : (x : List Visit) → Or P Q x → Q x
          second x (inl p) = absurd (b x p)
          second x (inr q) = q
      more_ways (a ∷ ws) w P Q b c =
          subst (λ (l : List Tree). ChoiceBound (Seq a ∷ l) (Or P Q)) (sym (map_append Seq ws (w ∷ [])))
          (more_choices (Seq a) (map Seq ws) (Seq w) P Q b (seq_bound w Q c))

      append_none : {A : Type 0} (xs : List A) → xs ++ [] ≡ xs
      append_none [] = refl
      append_none (x ∷ xs) = ap (λ l. x ∷ l) (append_none xs)

      pub ways_through : (ws into out : List (List Tree)) (tree : Tree) (R P N Q : List Visit → Type 0) → WaysBound ws R → WaysBound into P
          → TreeBound tree N → WaysBound out Q → WaysBound (ws ++ through into tree out) (Or R (Then P (Then N Q)))
      ways_through ws [] out tree R P N Q r p n q =
          subst (λ (l : List (List Tree)). WaysBound l (Or R (Then P (Then N Q)))) (sym (append_none ws))
          (ways_weaker ws R (Or R (Then P (Then N Q))) first r)
        where
          first : (x : List Visit) → Or R (Then P (Then N Q)) x → R x
          first x (inl h) = h
          first x (inr h) = absurd (p h.0 h.2)
      ways_through ws (a ∷ into) [] tree R P N Q r p n q =
          subst (λ (l : List (List Tree)). WaysBound l (Or R (Then P (Then N Q)))) (sym (append_none ws))
          (ways_weaker ws R (Or R (Then P (Then N Q))) first r)
        where
          first : (x : List Visit) → Or R (Then P (Then N Q)) x → R x
          first x (inl h) = h
          first x (inr h) = absurd (q h.3.1 h.3.3)
      ways_through ws (a ∷ into) (c ∷ out) tree R P N Q r p n q =
          more_ways ws (members (a ∷ into) ++ tree ∷ members (c ∷ out)) R (Then P (Then N Q)) r
          (more_members (members (a ∷ into)) (tree ∷ members (c ∷ out)) P (Then N Q) (ways_members (a ∷ into) P p)
          (more_members (tree ∷ []) (members (c ∷ out)) N Q (one_member tree N n) (ways_members (c ∷ out) Q q)))

      pub ways_taken_out : (tree : ℕ → Tree) (N : ℕ → List Visit → Type 0) (v : ℕ) (ways : ℕ → ℕ → List (List Tree))
          (L : ℕ → ℕ → List Visit → Type 0)
          → TreeBound (tree v) (N v) → ((p q : ℕ) → WaysBound (ways p q) (L p q)) → (p q : ℕ) → WaysBound (taken_out tree v ways p q)
          (TakenOut N v L p q)
      ways_taken_out tree N v ways L n b p q = by_test (nat_eq p v || nat_eq q v) refl
        where
          all : List (List Tree)
          all = ways p q ++ through (ways p v) (tree v) (ways v q)

          by_test : (c : Bool) → (nat_eq p v || nat_eq q v) ≡ c → WaysBound (if c then [] else all) (TakenOut N v L p q)
          by_test true e = λ x h. one_is (h.0) (h.1) e
            where
              one_is : p ≢ v → q ≢ v → (nat_eq p v || nat_eq q v) ≡ true → ⊥
              one_is h k e = grind (arith, nat_tests)
          by_test false e = ways_weaker all (Or (L p q) (Then (L p v) (Then (N v) (L v q)))) (TakenOut N v L p q) (λ x h. h.2)
              (ways_through (ways p q) (ways p v) (ways v q) (tree v) (L p q) (L p v) (N v) (L v q) (b p q) (b p v) n (b v q))

      pub ways_all_taken_out : (tree : ℕ → Tree) (N : ℕ → List Visit → Type 0) (vs : List ℕ) (ways : ℕ → ℕ → List (List Tree))
          (L : ℕ → ℕ → List Visit → Type 0)
          → AllByRecursion (λ v. TreeBound (tree v) (N v)) vs → ((p q : ℕ) → WaysBound (ways p q) (L p q)) → (p q : ℕ) → WaysBound
          (all_taken_out tree vs ways p q) (AllTakenOut N vs L p q)
      ways_all_taken_out tree N [] ways L n b = b
      ways_all_taken_out tree N (v ∷ vs) ways L n b = ways_all_taken_out tree N vs (taken_out tree v ways) (TakenOut N v L) n.1
          (ways_taken_out tree N v ways L n.0 b)

      pub edges_bound : (edge : ℕ → ℕ → Bool) (p q : ℕ) → WaysBound (edge_ways edge p q) (EdgePiece edge p q)
      edges_bound edge p q = by_edge (edge p q) refl
        where
          by_edge : (c : Bool) → edge p q ≡ c → WaysBound (if c then [] ∷ [] else []) (EdgePiece edge p q)
          by_edge true e = ways_weaker ([] ∷ []) (λ x. x ≡ []) (EdgePiece edge p q) (λ x h. h.1) (first_way [] (λ x. x ≡ []) no_members)
          by_edge false e = λ x h. (let k = h.0 in cc)
