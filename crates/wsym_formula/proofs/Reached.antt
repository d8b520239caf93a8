-- Where each node but one is used, that one has the most counts.
use Rattle.std.proofs.Common.{◌≡◌, ◌≢◌, ℕ, zero, suc, ◌+◌, ◌-◌, ◌^◌, ◌<◌, ◌≤◌, ◌⊎◌, inl, inr, List, [], ◌∷◌, length, map, get_or, slice_get, Some, sym, ap, subst, ◌∙◌, arith}
use Rattle.std.proofs.lemmas.Option.{slice_get_within, get_or_from_slice_get}
use Rattle.wsym_formula.specs.Tables.{AllBelow, IsBelow, IsClosed, term_at, opened, meanings, meaning_at}
use Rattle.wsym_formula.specs.Reaching.{AreUsed, IsMember, IsOneOf, Uses}
use Rattle.wsym_formula.specs.Values.{AllFew, counts_of, total}
use Rattle.wsym_formula.specs.declared.nodes.Node.{Node}
use Rattle.wsym_formula.specs.declared.nodes.Node.TheVariants as n
use Rattle.wsym_formula.specs.declared.terms.Term.{Term}
use Rattle.wsym_formula.specs.declared.terms.Term.TheOpen.{Term-F}
use Rattle.wsym_formula.specs.declared.terms.Term.TheVariants as t
use Rattle.wsym_formula.proofs.Tabling.{meanings_length, opens_itself}
use Rattle.wsym_formula.proofs.Valuing.{counts_open}
use Rattle.wsym_formula.proofs.Walking.{below_at}

one_below : (j k : ℕ) (ms : List ℕ) → AllBelow j ms → IsOneOf k ms → k < j
one_below j k [] b m = absurd m
one_below j k (i ∷ ms) b (inl e) = omega (arith, e, b.0)
one_below j k (i ∷ ms) b (inr m) = one_below j k ms b.1 m

member_below : (j k : ℕ) (node : Node) → IsBelow j node → IsMember k node → k < j
member_below j k (n.Const c) b m = absurd m
member_below j k (n.Sum ms) b m = one_below j k ms b m
member_below j k (n.Alt ms) b m = one_below j k ms b m
member_below j k (n.Power id i) b m = omega (arith, b, m)
member_below j k (n.Once i) b m = omega (arith, b, m)
member_below j k (n.Scaled id i) b m = omega (arith, b, m)

pub used_above : (ns : List Node) (j k : ℕ) → IsClosed ns → Uses ns j k → k < j
used_above ns j k closed u =
    let at : u.0 ≡ get_or ns j u.0 = sym (get_or_from_slice_get ns j u.0 u.0 u.1) in
    member_below j k u.0 (subst (λ (x : ℕ). IsBelow x u.0) (omega arith) (below_at 0 ns j u.0 closed (slice_get_within ns j u.0 u.1) at)) u.2

one_few : (ts : List Term) (k : ℕ) (ms : List ℕ) → IsOneOf k ms → counts_of (term_at ts k) ≤ total (map counts_of (map (term_at ts) ms))
one_few ts k [] m = absurd m
one_few ts k (i ∷ ms) (inl e) = let same : counts_of (term_at ts k) ≡ counts_of (term_at ts i) = ap (λ (x : ℕ). counts_of (term_at ts x)) e in omega (arith, same)
one_few ts k (i ∷ ms) (inr m) = omega (arith, one_few ts k ms m)

member_few : (ts : List Term) (k : ℕ) (node : Node) → IsMember k node → counts_of (term_at ts k) ≤ counts_of (opened ts node)
member_few ts k (n.Const c) m = absurd m
member_few ts k (n.Sum ms) m = let us : List Term = map (term_at ts) ms in omega (arith, one_few ts k ms m, counts_open (Term-F.Sum us) (t.Sum us) (t.rolls-Sum us))
member_few ts k (n.Alt ms) m = let us : List Term = map (term_at ts) ms in omega (arith, one_few ts k ms m, counts_open (Term-F.Alt us) (t.Alt us) (t.rolls-Alt us))
member_few ts k (n.Power id i) m = let u : Term = term_at ts i in omega (arith, ap (λ (x : ℕ). counts_of (term_at ts x)) m, counts_open (Term-F.Power id u) (t.Power id u) (t.rolls-Power id u))
member_few ts k (n.Once i) m = let u : Term = term_at ts i in omega (arith, ap (λ (x : ℕ). counts_of (term_at ts x)) m, counts_open (Term-F.Once u) (t.Once u) (t.rolls-Once u))
member_few ts k (n.Scaled id i) m = let u : Term = term_at ts i in omega (arith, ap (λ (x : ℕ). counts_of (term_at ts x)) m, counts_open (Term-F.Scaled id u) (t.Scaled id u) (t.rolls-Scaled id u))

used_few : (ns : List Node) (j k : ℕ) → IsClosed ns → Uses ns j k → counts_of (meaning_at ns k) ≤ counts_of (meaning_at ns j)
used_few ns j k closed u = omega (arith, member_few (meanings ns) k u.0 u.2, ap counts_of (opens_itself [] ns j u.0 closed u.1))

same_or_not : (a b : ℕ) → (a ≡ b) ⊎ (a ≢ b)
same_or_not a b = grind arith

few_by : (fuel : ℕ) (ns : List Node) (root k : ℕ) → IsClosed ns → AreUsed ns root → k < length ns → length ns ≤ k + fuel → counts_of (meaning_at ns k) ≤ counts_of (meaning_at ns root)
few_by zero ns root k closed used lt h = absurd (omega (arith, lt, h))
few_by (suc fuel) ns root k closed used lt h = by (λ j lt' above. few_by fuel ns root j closed used lt' (omega (arith, h, above))) (same_or_not k root)
  where
    by : ((j : ℕ) → j < length ns → k < j → counts_of (meaning_at ns j) ≤ counts_of (meaning_at ns root)) → (k ≡ root) ⊎ (k ≢ root) → counts_of (meaning_at ns k) ≤ counts_of (meaning_at ns root)
    by up (inl e) = omega (arith, ap (λ (x : ℕ). counts_of (meaning_at ns x)) e)
    by up (inr d) =
        let u = used k lt d in
        let more = up u.0 (slice_get_within ns u.0 u.1.0 u.1.1) (used_above ns u.0 k closed u.1) in
        omega (arith, more, used_few ns u.0 k closed u.1)

-- so a bound on the counts of the formula is one on each node's
pub all_few : (ns : List Node) (root : ℕ) → IsClosed ns → AreUsed ns root → counts_of (meaning_at ns root) < 2 ^ 63 → AllFew (meanings ns)
all_few ns root closed used small k lt = omega (arith, small, few_by (length ns) ns root k closed used (omega (arith, lt, meanings_length [] ns)) (omega arith))
