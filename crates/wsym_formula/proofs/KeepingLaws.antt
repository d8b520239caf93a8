-- Nodes with new numbers mean what they meant.
use Rattle.std.proofs.Common.{◌≡◌, ℕ, zero, suc, ◌+◌, ◌-◌, ◌<◌, ◌++◌, List, [], ◌∷◌, length, map, get_or, take, Option, Some, None, refl, sym, ap, subst, ◌∙◌, arith}
use Rattle.wsym_formula.specs.Tables.{term_at, opened, meanings, meaning_at, AllBelow, IsBelow, IsClosed, Extends}
use Rattle.wsym_formula.specs.Keeping.{AllKept, IsKept, IsRenumbered, IsRooted, all_there, numbers_at}
use Rattle.wsym_formula.specs.declared.nodes.Node.{Node}
use Rattle.wsym_formula.specs.declared.nodes.Node.TheVariants as n
use Rattle.wsym_formula.specs.declared.terms.Term.{Term}
use Rattle.wsym_formula.specs.declared.terms.Term.TheVariants as t
use Rattle.std.proofs.lemmas.List.{length-take-le}
use Rattle.wsym_formula.proofs.Tabling.{meaning_stays, meanings_length}
use Rattle.wsym_formula.proofs.Walking.{below_at, next_node}
use Rattle.wsym_formula.proofs.Growing.{longer}
use Rattle.wsym_formula.proofs.Rooting.{root_is_last, root_reaches}
use Rattle.wsym_formula.specs.Reaching.{AreUsed, Reaches}

pub kept_at : (table : List Node) (os : List (Option ℕ)) (ts : List Term) (k : ℕ) → AllKept table os ts → k < length os → IsKept table (get_or os k None) (term_at ts k)
kept_at table [] ts k h lt = absurd (omega (arith, lt))
kept_at table (o ∷ os) [] k h lt = absurd h
kept_at table (o ∷ os) (u ∷ ts) zero h lt = h.0
kept_at table (o ∷ os) (u ∷ ts) (suc k) h lt = kept_at table os ts k h.1 (omega (arith, lt))

one_kept : (table : List Node) (os : List (Option ℕ)) (ts : List Term) (m k : ℕ) → AllKept table os ts → m < length os → Some k ≡ get_or os m None → (k < length table) × (meaning_at table k ≡ term_at ts m)
one_kept table os ts m k h lt e = subst (λ (o : Option ℕ). IsKept table o (term_at ts m)) (sym e) (kept_at table os ts m h lt)

head_same : (a b : Option ℕ) (xs ys : List (Option ℕ)) → ◌≡◌ {A = List (Option ℕ)} (a ∷ xs) (b ∷ ys) → (a ≡ b) × (xs ≡ ys)
head_same a b xs ys e = (cc, cc)

all_kept : (table : List Node) (os : List (Option ℕ)) (ts : List Term) (ms qs : List ℕ) → AllKept table os ts → AllBelow (length os) ms → all_there qs ≡ numbers_at os ms
    → AllBelow (length table) qs × (map (meaning_at table) qs ≡ map (term_at ts) ms)
all_kept table os ts [] [] h b e = (tt, refl)
all_kept table os ts [] (q ∷ qs) h b e = absurd (cc)
all_kept table os ts (m ∷ ms) [] h b e = absurd (cc)
all_kept table os ts (m ∷ ms) (q ∷ qs) h b e =
    let parts = head_same (Some q) (get_or os m None) (all_there qs) (numbers_at os ms) e in
    let one = one_kept table os ts m q h b.0 parts.0 in
    let more = all_kept table os ts ms qs h b.1 parts.1 in
    ((one.0, more.0), λ i. one.1 i ∷ more.1 i)

pub renumbered_below : (table : List Node) (os : List (Option ℕ)) (ts : List Term) (node made : Node) → AllKept table os ts → IsBelow (length os) node → IsRenumbered os node made → IsBelow (length table) made
renumbered_below table os ts (n.Const c) made h b r = subst (IsBelow (length table)) (sym r) tt
renumbered_below table os ts (n.Sum ms) made h b r = subst (IsBelow (length table)) (sym r.1) (all_kept table os ts ms r.0 h b r.2).0
renumbered_below table os ts (n.Alt ms) made h b r = subst (IsBelow (length table)) (sym r.1) (all_kept table os ts ms r.0 h b r.2).0
renumbered_below table os ts (n.Power id m) made h b r = subst (IsBelow (length table)) (sym r.1) (one_kept table os ts m r.0 h b r.2).0
renumbered_below table os ts (n.Scaled id m) made h b r = subst (IsBelow (length table)) (sym r.1) (one_kept table os ts m r.0 h b r.2).0
renumbered_below table os ts (n.Once m) made h b r = subst (IsBelow (length table)) (sym r.1) (one_kept table os ts m r.0 h b r.2).0

pub renumbered_means : (table : List Node) (os : List (Option ℕ)) (ts : List Term) (node made : Node) → AllKept table os ts → IsBelow (length os) node → IsRenumbered os node made → opened (meanings table) made ≡ opened ts node
renumbered_means table os ts (n.Const c) made h b r = ap (opened (meanings table)) r
renumbered_means table os ts (n.Sum ms) made h b r = ap (opened (meanings table)) r.1 ∙ ap t.Sum (all_kept table os ts ms r.0 h b r.2).1
renumbered_means table os ts (n.Alt ms) made h b r = ap (opened (meanings table)) r.1 ∙ ap t.Alt (all_kept table os ts ms r.0 h b r.2).1
renumbered_means table os ts (n.Power id m) made h b r = ap (opened (meanings table)) r.1 ∙ ap (t.Power id) (one_kept table os ts m r.0 h b r.2).1
renumbered_means table os ts (n.Scaled id m) made h b r = ap (opened (meanings table)) r.1 ∙ ap (t.Scaled id) (one_kept table os ts m r.0 h b r.2).1
renumbered_means table os ts (n.Once m) made h b r = ap (opened (meanings table)) r.1 ∙ ap t.Once (one_kept table os ts m r.0 h b r.2).1

pub kept_length : (table : List Node) (os : List (Option ℕ)) (ts : List Term) → AllKept table os ts → length os ≡ length ts
kept_length table [] [] h = refl
kept_length table [] (u ∷ ts) h = absurd h
kept_length table (o ∷ os) [] h = absurd h
kept_length table (o ∷ os) (u ∷ ts) h = ap suc (kept_length table os ts h.1)

one_stays : (old new : List Node) (o : Option ℕ) (u : Term) → Extends old new → IsKept old o u → IsKept new o u
one_stays old new None u e h = tt
one_stays old new (Some k) u e h = (omega (arith, h.0, longer old new e), meaning_stays old new k e h.0 ∙ h.1)

-- one node more, in a table that has grown
pub kept_more : (old new : List Node) (os : List (Option ℕ)) (ts : List Term) (o : Option ℕ) (u : Term) → Extends old new → AllKept old os ts → IsKept new o u → AllKept new (os ++ o ∷ []) (ts ++ u ∷ [])
kept_more old new [] [] o u e h k = (k, tt)
kept_more old new [] (v ∷ ts) o u e h k = absurd h
kept_more old new (p ∷ os) [] o u e h k = absurd h
kept_more old new (p ∷ os) (v ∷ ts) o u e h k = (one_stays old new p v e h.0, kept_more old new os ts o u e h.1 k)

pub next_kept : (old new : List Node) (os : List (Option ℕ)) (o : Option ℕ) (ns : List Node) (i : ℕ) (node : Node) → Extends old new → AllKept old os (meanings (take i ns)) → i < length ns → node ≡ get_or ns i node
    → IsKept new o (opened (meanings (take i ns)) node) → AllKept new (os ++ o ∷ []) (meanings (take (i + 1) ns))
next_kept old new os o ns i node e h lt is k =
    subst (λ (ts : List Term). AllKept new (os ++ o ∷ []) ts) (sym (next_node ns i node lt is)) (kept_more old new os (meanings (take i ns)) o (opened (meanings (take i ns)) node) e h k)

pub next_below : (table ns : List Node) (os : List (Option ℕ)) (i : ℕ) (node : Node) → IsClosed ns → i < length ns → node ≡ get_or ns i node → AllKept table os (meanings (take i ns)) → IsBelow (length os) node
next_below table ns os i node closed lt is h =
    let long : length os ≡ i = kept_length table os (meanings (take i ns)) h ∙ meanings_length [] (take i ns) ∙ length-take-le i ns (omega (arith, lt)) in
    subst (λ (k : ℕ). IsBelow k node) (sym long) (subst (λ (k : ℕ). IsBelow k node) (omega arith) (below_at 0 ns i node closed lt is))

-- what is kept of a node that reaches all that is kept
pub kept_root : (table ns : List Node) (os : List (Option ℕ)) (root last : ℕ) → IsClosed table → AllKept table os (meanings ns) → root < length ns → get_or os root None ≡ Some last → AreUsed table last → IsRooted table (meaning_at ns root)
kept_root table ns os root last closed h lt e used =
    let long : length os ≡ length ns = kept_length table os (meanings ns) h ∙ meanings_length [] ns in
    let there = subst (λ (o : Option ℕ). IsKept table o (meaning_at ns root)) e (kept_at table os (meanings ns) root h (omega (arith, lt, long))) in
    let at : last ≡ length table - 1 = omega (arith, root_is_last table last closed there.0 used) in
    record {
      node = omega (arith, there.0);
      means = ap (meaning_at table) (sym at) ∙ there.1;
      used = subst (AreUsed table) at used;
      reaches = λ k less. subst (λ (r : ℕ). Reaches table r k) at (root_reaches table last k closed used less);
    }

pub root_there : (table ns : List Node) (os : List (Option ℕ)) (root : ℕ) → AllKept table os (meanings ns) → root < length ns → root < length os
root_there table ns os root h lt = let long : length os ≡ length ns = kept_length table os (meanings ns) h ∙ meanings_length [] ns in omega (arith, lt, long)
