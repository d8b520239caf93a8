-- Counts of the nodes of a table, one after another.
use Rattle.std.proofs.Common.{◌≡◌, ℕ, zero, suc, ◌+◌, ◌^◌, ◌<◌, ◌≤◌, ◌++◌, min, List, [], ◌∷◌, length, map, get_or, take, refl, sym, ap, subst, ◌∙◌, arith}
use Rattle.std.proofs.lemmas.List.{length-map, length-take-le, map-append, take_all}
use Rattle.wsym_formula.specs.Counts.{counts_at, node_counts}
use Rattle.wsym_formula.specs.Tables.{AllBelow, IsBelow, IsClosed, meaning_at, meanings, opened, term_at}
use Rattle.wsym_formula.specs.Values.{AllFew, counts_of, total}
use Rattle.wsym_formula.specs.declared.nodes.Node.{Node}
use Rattle.wsym_formula.specs.declared.nodes.Node.TheVariants as n
use Rattle.wsym_formula.specs.declared.terms.Term.{Term}
use Rattle.wsym_formula.specs.declared.terms.Term.TheOpen.{Term-F}
use Rattle.wsym_formula.specs.declared.terms.Term.TheVariants as t
use Rattle.wsym_formula.proofs.Tabling.{meanings_length}
use Rattle.wsym_formula.proofs.Valuing.{counts_open}
use Rattle.wsym_formula.proofs.Walking.{below_at, next_node, opens_before}

-- the counts of each node's term, all below the limit
pub record AreCounts (ns : List Node) (counts : List ℕ) : Type 0 where
  pub same : counts ≡ map counts_of (meanings ns)
  pub small : (k : ℕ) → k < length counts → get_or counts k 0 < 2 ^ 63

count_at : (ts : List Term) (k : ℕ) → k < length ts → get_or (map counts_of ts) k 0 ≡ counts_of (term_at ts k)
count_at [] k lt = absurd (omega (arith, lt))
count_at (u ∷ ts) zero lt = refl
count_at (u ∷ ts) (suc k) lt = count_at ts k (omega (arith, lt))

all_counts : (ts : List Term) (ms : List ℕ) → AllBelow (length ts) ms → counts_at (map counts_of ts) ms ≡ total (map counts_of (map (term_at ts) ms))
all_counts ts [] b = refl
all_counts ts (m ∷ ms) b = λ i. count_at ts m b.0 i + all_counts ts ms b.1 i

-- a node's own counts
opened_counts : (ts : List Term) (node : Node) → IsBelow (length ts) node → node_counts (map counts_of ts) node ≡ counts_of (opened ts node)
opened_counts ts (n.Const c) b = sym (counts_open (Term-F.Const c) (t.Const c) (t.rolls-Const c))
opened_counts ts (n.Sum ms) b = all_counts ts ms b ∙ sym (counts_open (Term-F.Sum (map (term_at ts) ms)) (t.Sum (map (term_at ts) ms)) (t.rolls-Sum (map (term_at ts) ms)))
opened_counts ts (n.Alt ms) b = all_counts ts ms b ∙ sym (counts_open (Term-F.Alt (map (term_at ts) ms)) (t.Alt (map (term_at ts) ms)) (t.rolls-Alt (map (term_at ts) ms)))
opened_counts ts (n.Power id m) b = count_at ts m b ∙ sym (counts_open (Term-F.Power id (term_at ts m)) (t.Power id (term_at ts m)) (t.rolls-Power id (term_at ts m)))
opened_counts ts (n.Once m) b = count_at ts m b ∙ sym (counts_open (Term-F.Once (term_at ts m)) (t.Once (term_at ts m)) (t.rolls-Once (term_at ts m)))
opened_counts ts (n.Scaled id m) b = count_at ts m b ∙ sym (counts_open (Term-F.Scaled id (term_at ts m)) (t.Scaled id (term_at ts m)) (t.rolls-Scaled id (term_at ts m)))

pub counts_length : (ns : List Node) (counts : List ℕ) (i : ℕ) → AreCounts (take i ns) counts → i ≤ length ns → length counts ≡ i
counts_length ns counts i h le = ap length h.same ∙ length-map (meanings (take i ns)) counts_of ∙ meanings_length [] (take i ns) ∙ length-take-le i ns le

pub node_within : (ns : List Node) (counts : List ℕ) (i : ℕ) (node : Node) → IsClosed ns → AreCounts (take i ns) counts → i < length ns → node ≡ get_or ns i node → IsBelow (length counts) node
node_within ns counts i node closed h lt is =
    subst (λ (k : ℕ). IsBelow k node) (sym (counts_length ns counts i h (omega (arith, lt)))) (subst (λ (k : ℕ). IsBelow k node) (omega arith) (below_at 0 ns i node closed lt is))

-- the counts of the next node
pub next_counts : (ns : List Node) (counts : List ℕ) (i : ℕ) (node : Node) → IsClosed ns → AreCounts (take i ns) counts → i < length ns → node ≡ get_or ns i node → node_counts counts node ≡ counts_of (opened (meanings (take i ns)) node)
next_counts ns counts i node closed h lt is =
    let ts : List Term = meanings (take i ns) in
    let long : length ts ≡ length counts = sym (ap length h.same ∙ length-map ts counts_of) in
    ap (λ (cs : List ℕ). node_counts cs node) h.same
    ∙ opened_counts ts node (subst (λ (k : ℕ). IsBelow k node) (sym long) (node_within ns counts i node closed h lt is))

more_small : (counts : List ℕ) (c : ℕ) → c < 2 ^ 63 → ((k : ℕ) → k < length counts → get_or counts k 0 < 2 ^ 63) → (k : ℕ) → k < length (counts ++ c ∷ []) → get_or (counts ++ c ∷ []) k 0 < 2 ^ 63
more_small [] c h s zero lt = h
more_small [] c h s (suc k) lt = absurd (omega (arith, lt))
more_small (d ∷ counts) c h s zero lt = s 0 (omega arith)
more_small (d ∷ counts) c h s (suc k) lt = more_small counts c h (λ j less. s (suc j) (omega (arith, less))) k (omega (arith, lt))

pub counts_go_on : (ns : List Node) (counts : List ℕ) (i c : ℕ) (node : Node) → IsClosed ns → AreCounts (take i ns) counts → i < length ns → node ≡ get_or ns i node → c ≡ min (node_counts counts node) (2 ^ 63) → c < 2 ^ 63 → AreCounts (take (i + 1) ns) (counts ++ c ∷ [])
counts_go_on ns counts i c node closed h lt is e less =
    let ts : List Term = meanings (take i ns) in
    let own : c ≡ counts_of (opened ts node) = omega (arith, e, less, next_counts ns counts i node closed h lt is) in
    record {
      same = (λ j. h.same j ++ own j ∷ []) ∙ sym (map-append counts_of ts (opened ts node ∷ [])) ∙ ap (map counts_of) (sym (next_node ns i node lt is));
      small = more_small counts c less h.small;
    }

pub few_of_all : (ns : List Node) (counts : List ℕ) (i : ℕ) → AreCounts (take i ns) counts → length ns ≤ i → AllFew (meanings ns)
few_of_all ns counts i h le k lt =
    let all : take i ns ≡ ns = take_all i ns le in
    let same : counts ≡ map counts_of (meanings ns) = h.same ∙ ap (λ (ms : List Node). map counts_of (meanings ms)) all in
    let own : get_or counts k 0 ≡ counts_of (term_at (meanings ns) k) = ap (λ (cs : List ℕ). get_or cs k 0) same ∙ count_at (meanings ns) k lt in
    let long : length counts ≡ length (meanings ns) = ap length same ∙ length-map (meanings ns) counts_of in
    omega (arith, own, h.small k (omega (arith, lt, long)))

pub many_at : (ns : List Node) (counts : List ℕ) (i c : ℕ) (node : Node) → IsClosed ns → AreCounts (take i ns) counts → i < length ns → node ≡ get_or ns i node → c ≡ min (node_counts counts node) (2 ^ 63) → 2 ^ 63 ≤ c → AllFew (meanings ns) → ⊥
many_at ns counts i c node closed h lt is e more few =
    let own : counts_of (meaning_at ns i) ≡ counts_of (opened (meanings (take i ns)) node) = ap counts_of (opens_before ns i node lt is) in
    absurd (omega (arith, own, e, more, next_counts ns counts i node closed h lt is, few i (omega (arith, lt, meanings_length [] ns))))
