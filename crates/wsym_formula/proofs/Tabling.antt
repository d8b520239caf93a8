-- What a table means, node by node.
use Rattle.std.proofs.Common.{◌≡◌, ℕ, zero, suc, ◌+◌, ◌-◌, ◌^◌, ◌<◌, ◌++◌, List, [], ◌∷◌, length, map, slice_get, Some, refl, sym, ap, subst, ◌∙◌, arith, append_assoc, Bool, true, false, if◌then◌else◌}
use Rattle.std.proofs.lemmas.List.{get_or_append_left, append-nil, length-append}
use Rattle.std.proofs.lemmas.Option.{get_or_from_slice_get, none-some}
use Rattle.std.specs.List.{list_any}
use Rattle.indexmap.specs.IndexSet.{insert_key}
use Rattle.wsym_formula.proofs.Equality.{same_node, inserted_different}
use Rattle.wsym_formula.specs.contracts.nodes.NodePartialEq.TheImpl.{ghosts}
use Rattle.wsym_formula.specs.Tables.{term_at, opened, meanings, meanings_after, meaning_at, AllBelow, IsBelow, IsClosed, IsClosedFrom, IsTable, AllDiffer, Extends}
use Rattle.wsym_formula.specs.declared.nodes.Node.{Node}
use Rattle.wsym_formula.specs.declared.nodes.Node.TheVariants.{Const, Sum, Alt, Power, Once, Scaled}
use Rattle.wsym_formula.specs.declared.terms.Term.{Term}
use Rattle.wsym_formula.specs.declared.terms.Term.TheVariants as t

-- members are the same over more terms
pub members_stay : (ts us : List Term) (ms : List ℕ) → AllBelow (length ts) ms → map (term_at (ts ++ us)) ms ≡ map (term_at ts) ms
members_stay ts us [] h = refl
members_stay ts us (m ∷ ms) h = λ i. get_or_append_left ts us (t.Sum []) m h.0 i ∷ members_stay ts us ms h.1 i

pub node_stays : (ts us : List Term) (n : Node) → IsBelow (length ts) n → opened (ts ++ us) n ≡ opened ts n
node_stays ts us (Const c) h = refl
node_stays ts us (Sum ms) h = ap t.Sum (members_stay ts us ms h)
node_stays ts us (Alt ms) h = ap t.Alt (members_stay ts us ms h)
node_stays ts us (Power id body) h = ap (t.Power id) (get_or_append_left ts us (t.Sum []) body h)
node_stays ts us (Scaled id body) h = ap (t.Scaled id) (get_or_append_left ts us (t.Sum []) body h)
node_stays ts us (Once body) h = ap t.Once (get_or_append_left ts us (t.Sum []) body h)

pub meanings_length : (ts : List Term) (ns : List Node) → length (meanings_after ts ns) ≡ length ns
meanings_length ts [] = refl
meanings_length ts (n ∷ ns) = ap suc (meanings_length (ts ++ opened ts n ∷ []) ns)

pub meanings_append : (ts : List Term) (ns ms : List Node) → meanings_after ts (ns ++ ms) ≡ meanings_after ts ns ++ meanings_after (ts ++ meanings_after ts ns) ms
meanings_append ts [] ms = ap (λ (x : List Term). meanings_after x ms) (sym (append-nil ts))
meanings_append ts (n ∷ ns) ms =
    let x : Term = opened ts n in
    let rest : List Term = meanings_after (ts ++ x ∷ []) ns in
    ap (λ (xs : List Term). x ∷ xs) (meanings_append (ts ++ x ∷ []) ns ms ∙ ap (λ (l : List Term). rest ++ meanings_after l ms) (append_assoc ts (x ∷ []) rest))

one_more : (ts : List Term) (x : Term) → length (ts ++ x ∷ []) ≡ suc (length ts)
one_more ts x = omega (arith, length-append ts (x ∷ []))

-- each node means what it says of the meanings in the table
pub opens_itself : (ts : List Term) (ns : List Node) (p : ℕ) (n : Node) → IsClosedFrom (length ts) ns → slice_get ns p ≡ Some n → term_at (meanings_after ts ns) p ≡ opened (ts ++ meanings_after ts ns) n
opens_itself ts [] p n h e = absurd (none-some n e)
opens_itself ts (m ∷ ns) zero n h e =
    let same : m ≡ n = get_or_from_slice_get (m ∷ ns) 0 n n e in
    sym (node_stays ts (meanings_after ts (m ∷ ns)) m h.0) ∙ ap (opened (ts ++ meanings_after ts (m ∷ ns))) same
opens_itself ts (m ∷ ns) (suc p) n h e =
    let x : Term = opened ts m in
    let rest : List Term = meanings_after (ts ++ x ∷ []) ns in
    opens_itself (ts ++ x ∷ []) ns p n (subst (λ (k : ℕ). IsClosedFrom k ns) (sym (one_more ts x)) h.1) e
    ∙ ap (λ (l : List Term). opened l n) (append_assoc ts (x ∷ []) rest)

-- what is below some number is below a greater one, and one more node leaves a table closed
pub closed_more : (k : ℕ) (ns : List Node) (n : Node) → IsClosedFrom k ns → IsBelow (k + length ns) n → IsClosedFrom k (ns ++ n ∷ [])
closed_more k [] n h b = (subst (λ (i : ℕ). IsBelow i n) (omega arith) b, tt)
closed_more k (m ∷ ns) n h b = (h.0, closed_more (suc k) ns n h.1 (subst (λ (i : ℕ). IsBelow i n) (omega arith) b))

pub inserted_closed : (eq : Node → Node → Bool) (ns : List Node) (n : Node) → IsClosed ns → IsBelow (length ns) n → IsClosed (insert_key eq ns n)
inserted_closed eq ns n h b = by (list_any (eq n) ns)
  where
    by : (t : Bool) → IsClosed (if t then ns else ns ++ n ∷ [])
    by true = h
    by false = closed_more 0 ns n h (subst (λ (i : ℕ). IsBelow i n) (omega arith) b)

-- the meanings of a table stay where more nodes come after
pub meanings_stay : (old new : List Node) → (e : Extends old new) → meanings new ≡ meanings old ++ meanings_after (meanings old) e.0
meanings_stay old new e = ap meanings e.1 ∙ meanings_append [] old e.0

inserted_extends : (eq : Node → Node → Bool) (ns : List Node) (n : Node) → Extends ns (insert_key eq ns n)
inserted_extends eq ns n = by (list_any (eq n) ns)
  where
    by : (t : Bool) → Extends ns (if t then ns else ns ++ n ∷ [])
    by true = ([], sym (append-nil ns))
    by false = (n ∷ [], refl)

pub still_closed : (old new : List Node) (n : Node) → IsClosed old → IsBelow (length old) n → new ≡ insert_key ghosts.eq old n → IsClosed new
still_closed old new n h b e = subst (λ (ns : List Node). IsClosed ns) (sym e) (inserted_closed ghosts.eq old n h b)

inserted_few : (ns : List Node) (n : Node) → length ns < 2 ^ 32 - 1 → length (insert_key ghosts.eq ns n) < 2 ^ 32
inserted_few ns n room = by (list_any (ghosts.eq n) ns)
  where
    by : (test : Bool) → length (if test then ns else ns ++ n ∷ []) < 2 ^ 32
    by true = omega (arith, room)
    by false = omega (arith, room, length-append ns (n ∷ []))

pub still_table : (old new : List Node) (n : Node) → IsTable old → length old < 2 ^ 32 - 1 → IsBelow (length old) n → new ≡ insert_key ghosts.eq old n → IsTable new
still_table old new n h room b e = record {
  closed = still_closed old new n h.closed b e;
  different = subst (λ (ns : List Node). AllDiffer ns) (sym e) (inserted_different old n h.different);
  few = subst (λ (ns : List Node). length ns < 2 ^ 32) (sym e) (inserted_few old n room);
}

pub new_means : (old new : List Node) (k : ℕ) (n found : Node) → IsClosed old → IsBelow (length old) n → new ≡ insert_key ghosts.eq old n
    → slice_get new k ≡ Some found → ghosts.eq n found ≡ true → meaning_at new k ≡ opened (meanings old) n
new_means old new k n found closed below e at same =
    let ext : Extends old new = subst (λ (ns : List Node). Extends old ns) (sym e) (inserted_extends ghosts.eq old n) in
    opens_itself [] new k found (still_closed old new n closed below e) at ∙ ap (opened (meanings new)) (sym (same_node n found same))
    ∙ ap (λ (l : List Term). opened l n) (meanings_stay old new ext)
    ∙ node_stays (meanings old) (meanings_after (meanings old) ext.0) n (subst (λ (i : ℕ). IsBelow i n) (sym (meanings_length [] old)) below)

pub meaning_stays : (old new : List Node) (k : ℕ) → Extends old new → k < length old → meaning_at new k ≡ meaning_at old k
meaning_stays old new k e h =
    ap (λ (l : List Term). term_at l k) (meanings_stay old new e)
    ∙ get_or_append_left (meanings old) (meanings_after (meanings old) e.0) (t.Sum []) k (omega (arith, h, meanings_length [] old))

pub extends_self : (ns : List Node) → Extends ns ns
extends_self ns = ([], sym (append-nil ns))

pub extends_trans : (a b c : List Node) → Extends a b → Extends b c → Extends a c
extends_trans a b c e f = (e.0 ++ f.0, f.1 ∙ ap (λ (l : List Node). l ++ f.0) e.1 ∙ append_assoc a e.0 f.0)
