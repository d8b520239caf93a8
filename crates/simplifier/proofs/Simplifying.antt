-- Normal forms of nodes, and lists of their numbers.
use Rattle.std.proofs.Common.{◌≡◌, ℕ, zero, suc, ◌+◌, ◌-◌, ◌<◌, ◌++◌, List, [], ◌∷◌, length, map, get_or, take, refl, sym, ap, subst, ◌∙◌, arith}
use Rattle.std.proofs.lemmas.List.{length-append, length-map, map-append, length-take-le}
use Rattle.std.proofs.Math.Seq.{get_or-append_seam}
use Rattle.std.proofs.Math.ListN.{get_or-map}
use Rattle.wsym_formula.specs.Tables.{term_at, opened, meanings, meaning_at, AllBelow, IsBelow, IsClosed, Extends}
use Rattle.std.proofs.Common.{Option}
use Rattle.simplifier.specs.Normal.{constant, level_normal, normal, normal_alt, normal_sum, once_of, power_of, scaled_of}
use Rattle.simplifier.specs.Simplified.{normal_node, picked}
use Rattle.wsym_formula.specs.declared.nodes.Node.{Node}
use Rattle.wsym_formula.specs.declared.nodes.Node.TheVariants as n
use Rattle.wsym_formula.specs.declared.terms.Term.{Term, fold-roll-Term}
use Rattle.wsym_formula.specs.declared.terms.Term.TheOpen.{Term-F}
use Rattle.wsym_formula.specs.declared.terms.Term.TheVariants as t
use Rattle.wsym_formula.proofs.Tabling.{meanings_length}
use Rattle.wsym_formula.proofs.Growing.{members_stay}
use Rattle.wsym_formula.proofs.Walking.{below_at, next_node}

pub number_below : (k : ℕ) (ns : List ℕ) (i d : ℕ) → AllBelow k ns → i < length ns → get_or ns i d < k
number_below k [] i d b h = absurd (omega (arith, h))
number_below k (m ∷ ns) zero d b h = b.0
number_below k (m ∷ ns) (suc i) d b h = number_below k ns i d b.1 (omega (arith, h))

pub picked_below : (k : ℕ) (ns ms : List ℕ) → AllBelow k ns → AllBelow (length ns) ms → AllBelow k (picked ns ms)
picked_below k ns [] b h = tt
picked_below k ns (m ∷ ms) b h = (number_below k ns m 0 b h.0, picked_below k ns ms b h.1)

pub at_map : (f : ℕ → Term) (ns : List ℕ) (i : ℕ) → i < length ns → f (get_or ns i 0) ≡ term_at (map f ns) i
at_map f [] i h = absurd (omega (arith, h))
at_map f (m ∷ ns) zero h = refl
at_map f (m ∷ ns) (suc i) h = at_map f ns i (omega (arith, h))

pub picked_means : (f : ℕ → Term) (ns ms : List ℕ) → AllBelow (length ns) ms → map f (picked ns ms) ≡ map (term_at (map f ns)) ms
picked_means f ns [] h = refl
picked_means f ns (m ∷ ms) h = λ i. at_map f ns m h.0 i ∷ picked_means f ns ms h.1 i

module _ (known : ℕ → Option ℕ) where
  abbrev N : Term → Term
  N = normal known

  abbrev L : Term-F Term → Term
  L = level_normal known

  at_normal : (ts : List Term) (k : ℕ) → k < length ts → N (term_at ts k) ≡ term_at (map N ts) k
  at_normal [] k h = absurd (omega (arith, h))
  at_normal (u ∷ ts) zero h = refl
  at_normal (u ∷ ts) (suc k) h = at_normal ts k (omega (arith, h))

  all_normal : (ts : List Term) (ms : List ℕ) → AllBelow (length ts) ms → map N (map (term_at ts) ms) ≡ map (term_at (map N ts)) ms
  all_normal ts [] h = refl
  all_normal ts (m ∷ ms) h = λ i. at_normal ts m h.0 i ∷ all_normal ts ms h.1 i

  pub normal_opens : (ts : List Term) (node : Node) → IsBelow (length ts) node → N (opened ts node) ≡ normal_node known (map N ts) node
  normal_opens ts (n.Const c) h = ap N (sym (t.rolls-Const c)) ∙ fold-roll-Term Term L (Term-F.Const c)
  normal_opens ts (n.Sum ms) h = ap N (sym (t.rolls-Sum (map (term_at ts) ms))) ∙ fold-roll-Term Term L (Term-F.Sum (map (term_at ts) ms)) ∙ ap normal_sum (all_normal ts ms h)
  normal_opens ts (n.Alt ms) h = ap N (sym (t.rolls-Alt (map (term_at ts) ms))) ∙ fold-roll-Term Term L (Term-F.Alt (map (term_at ts) ms)) ∙ ap normal_alt (all_normal ts ms h)
  normal_opens ts (n.Power id b) h =
      ap N (sym (t.rolls-Power id (term_at ts b))) ∙ fold-roll-Term Term L (Term-F.Power id (term_at ts b)) ∙ ap (λ (u : Term). power_of id u (known id) (constant u)) (at_normal ts b h)
  normal_opens ts (n.Once b) h =
      ap N (sym (t.rolls-Once (term_at ts b))) ∙ fold-roll-Term Term L (Term-F.Once (term_at ts b)) ∙ ap (λ (u : Term). once_of u (constant u)) (at_normal ts b h)
  normal_opens ts (n.Scaled id b) h =
      ap N (sym (t.rolls-Scaled id (term_at ts b))) ∙ fold-roll-Term Term L (Term-F.Scaled id (term_at ts b)) ∙ ap (λ (u : Term). scaled_of id u (known id) (constant u)) (at_normal ts b h)

  numbers_length : (table ns : List Node) (numbers : List ℕ) (i : ℕ) → i < length ns → map (meaning_at table) numbers ≡ map N (meanings (take i ns)) → length numbers ≡ i
  numbers_length table ns numbers i lt e =
      sym (length-map numbers (meaning_at table)) ∙ ap length e ∙ length-map (meanings (take i ns)) N ∙ meanings_length [] (take i ns) ∙ length-take-le i ns (omega (arith, lt))

  pub node_within : (table ns : List Node) (numbers : List ℕ) (i : ℕ) (node : Node) → IsClosed ns → i < length ns → node ≡ get_or ns i node
      → map (meaning_at table) numbers ≡ map N (meanings (take i ns)) → IsBelow (length numbers) node
  node_within table ns numbers i node closed lt e means =
      subst (λ (k : ℕ). IsBelow k node) (sym (numbers_length table ns numbers i lt means)) (subst (λ (k : ℕ). IsBelow k node) (omega arith) (below_at 0 ns i node closed lt e))

  pub numbers_go_on : (old new ns : List Node) (numbers : List ℕ) (i k : ℕ) (node : Node) → Extends old new → AllBelow (length old) numbers → IsClosed ns → i < length ns → node ≡ get_or ns i node
      → map (meaning_at old) numbers ≡ map N (meanings (take i ns)) → meaning_at new k ≡ normal_node known (map (meaning_at old) numbers) node
      → map (meaning_at new) (numbers ++ k ∷ []) ≡ map N (meanings (take (i + 1) ns))
  numbers_go_on old new ns numbers i k node ext below closed lt e means one =
      let ts : List Term = meanings (take i ns) in
      let long : length ts ≡ i = meanings_length [] (take i ns) ∙ length-take-le i ns (omega (arith, lt)) in
      let own : IsBelow (length ts) node = subst (λ (x : ℕ). IsBelow x node) (sym long) (subst (λ (x : ℕ). IsBelow x node) (omega arith) (below_at 0 ns i node closed lt e)) in
      let same : meaning_at new k ≡ N (opened ts node) = one ∙ ap (λ (l : List Term). normal_node known l node) means ∙ sym (normal_opens ts node own) in
      map-append (meaning_at new) numbers (k ∷ [])
      ∙ (λ j. (members_stay old new numbers ext below ∙ means) j ++ same j ∷ [])
      ∙ sym (ap (map N) (next_node ns i node lt e) ∙ map-append N ts (opened ts node ∷ []))

  seam : (f : Term → Term) (xs : List Term) (us : List Term) (x : Term) → xs ++ x ∷ [] ≡ map f us → x ≡ f (term_at us (length us - 1))
  seam f xs us x e =
      let long : length xs + 1 ≡ length us = sym (length-append xs (x ∷ [])) ∙ ap length e ∙ length-map us f in
      let there : get_or (map f us) (length xs) (f (t.Sum [])) ≡ x = ap (λ (l : List Term). get_or l (length xs) (f (t.Sum []))) (sym e) ∙ get_or-append_seam xs x [] (f (t.Sum [])) in
      sym there ∙ get_or-map f us (length xs) (t.Sum []) ∙ ap (λ (k : ℕ). f (term_at us k)) (omega (arith, long))

  pub root_means : (table ns : List Node) (numbers : List ℕ) (root : ℕ) → map (meaning_at table) (numbers ++ root ∷ []) ≡ map N (meanings ns) → meaning_at table root ≡ N (meaning_at ns (length ns - 1))
  root_means table ns numbers root e =
      let f : ℕ → Term = meaning_at table in
      seam N (map f numbers) (meanings ns) (f root) (sym (map-append f numbers (root ∷ [])) ∙ e)
      ∙ ap (λ (k : ℕ). N (meaning_at ns (k - 1))) (meanings_length [] ns)

  pub root_within : (k : ℕ) (numbers all : List ℕ) (root : ℕ) → all ≡ numbers ++ root ∷ [] → AllBelow k all → root < k
  root_within k numbers all root e b = last numbers (subst (λ (ms : List ℕ). AllBelow k ms) e b)
    where
      last : (ms : List ℕ) → AllBelow k (ms ++ root ∷ []) → root < k
      last [] h = h.0
      last (m ∷ ms) h = last ms h.1
