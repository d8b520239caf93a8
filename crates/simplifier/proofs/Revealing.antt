-- What nodes show of their meanings.
use Rattle.std.proofs.Common.{◌≡◌, ℕ, zero, suc, ◌+◌, ◌<◌, ◌++◌, List, [], ◌∷◌, length, map, slice_get, Option, Some, None, sym, ap, subst, ◌∙◌, arith}
use Rattle.std.proofs.lemmas.List.{append-nil, map-append}
use Rattle.std.proofs.lemmas.Option.{get_or_from_slice_get, none-some}
use Rattle.wsym_formula.specs.Tables.{term_at, opened, meanings, meaning_at, AllBelow, IsBelow, IsClosed, IsClosedFrom}
use Rattle.simplifier.specs.Normal.{choices, choices_of, constant, constant_in, summands, summands_of, unless_constant}
use Rattle.wsym_formula.specs.declared.nodes.Node.{Node}
use Rattle.wsym_formula.specs.declared.nodes.Node.TheVariants as n
use Rattle.wsym_formula.specs.declared.terms.Term.{Term}
use Rattle.wsym_formula.specs.declared.terms.Term.TheVariants as t
use Rattle.cost_multiset.specs.CostLists.{CostList}
use Rattle.simplifier.proofs.Showing.{constant_shows}
use Rattle.wsym_formula.proofs.Tabling.{opens_itself}
use Rattle.simplifier.specs.Simplified.{choices_in, numbers_in}
use Rattle.wsym_formula.proofs.Growing.{below_both, below_more}

alone : (u v : Term) → u ≡ v → ◌≡◌ {A = List Term} (u ∷ []) (v ∷ [])
alone u v e = ap (λ (x : Term). x ∷ []) e

summands_open : (ts : List Term) (k : ℕ) (node : Node) → term_at ts k ≡ opened ts node → map (term_at ts) (numbers_in k node) ≡ summands (opened ts node)
summands_open ts k (n.Const c) e = alone (term_at ts k) (t.Const c) e ∙ sym (ap (summands_of (t.Const c)) (t.outs-Const c))
summands_open ts k (n.Sum ms) e = sym (ap (summands_of (t.Sum (map (term_at ts) ms))) (t.outs-Sum (map (term_at ts) ms)))
summands_open ts k (n.Alt ms) e = alone (term_at ts k) (t.Alt (map (term_at ts) ms)) e ∙ sym (ap (summands_of (t.Alt (map (term_at ts) ms))) (t.outs-Alt (map (term_at ts) ms)))
summands_open ts k (n.Power id b) e = alone (term_at ts k) (t.Power id (term_at ts b)) e ∙ sym (ap (summands_of (t.Power id (term_at ts b))) (t.outs-Power id (term_at ts b)))
summands_open ts k (n.Once b) e = alone (term_at ts k) (t.Once (term_at ts b)) e ∙ sym (ap (summands_of (t.Once (term_at ts b))) (t.outs-Once (term_at ts b)))
summands_open ts k (n.Scaled id b) e = alone (term_at ts k) (t.Scaled id (term_at ts b)) e ∙ sym (ap (summands_of (t.Scaled id (term_at ts b))) (t.outs-Scaled id (term_at ts b)))

choices_open : (ts : List Term) (k : ℕ) (node : Node) → term_at ts k ≡ opened ts node → map (term_at ts) (choices_in k node) ≡ choices (opened ts node)
choices_open ts k (n.Const c) e = alone (term_at ts k) (t.Const c) e ∙ sym (ap (choices_of (t.Const c)) (t.outs-Const c))
choices_open ts k (n.Alt ms) e = sym (ap (choices_of (t.Alt (map (term_at ts) ms))) (t.outs-Alt (map (term_at ts) ms)))
choices_open ts k (n.Sum ms) e = alone (term_at ts k) (t.Sum (map (term_at ts) ms)) e ∙ sym (ap (choices_of (t.Sum (map (term_at ts) ms))) (t.outs-Sum (map (term_at ts) ms)))
choices_open ts k (n.Power id b) e = alone (term_at ts k) (t.Power id (term_at ts b)) e ∙ sym (ap (choices_of (t.Power id (term_at ts b))) (t.outs-Power id (term_at ts b)))
choices_open ts k (n.Once b) e = alone (term_at ts k) (t.Once (term_at ts b)) e ∙ sym (ap (choices_of (t.Once (term_at ts b))) (t.outs-Once (term_at ts b)))
choices_open ts k (n.Scaled id b) e = alone (term_at ts k) (t.Scaled id (term_at ts b)) e ∙ sym (ap (choices_of (t.Scaled id (term_at ts b))) (t.outs-Scaled id (term_at ts b)))

summands_show : (ns : List Node) (k : ℕ) (node : Node) → IsClosed ns → slice_get ns k ≡ Some node → map (meaning_at ns) (numbers_in k node) ≡ summands (meaning_at ns k)
summands_show ns k node closed at =
    let e = opens_itself [] ns k node closed at in
    summands_open (meanings ns) k node e ∙ ap summands (sym e)

choices_show : (ns : List Node) (k : ℕ) (node : Node) → IsClosed ns → slice_get ns k ≡ Some node → map (meaning_at ns) (choices_in k node) ≡ choices (meaning_at ns k)
choices_show ns k node closed at =
    let e = opens_itself [] ns k node closed at in
    choices_open (meanings ns) k node e ∙ ap choices (sym e)

pub below_there : (j : ℕ) (ns : List Node) (k : ℕ) (node : Node) → IsClosedFrom j ns → slice_get ns k ≡ Some node → IsBelow (j + k) node
below_there j [] k node h e = absurd (none-some node e)
below_there j (m ∷ ns) zero node h e = subst (λ (x : ℕ). IsBelow x node) (omega arith) (subst (IsBelow j) (get_or_from_slice_get (m ∷ ns) 0 node node e) h.0)
below_there j (m ∷ ns) (suc k) node h e = subst (λ (x : ℕ). IsBelow x node) (omega arith) (below_there (suc j) ns k node h.1 e)

numbers_below : (l k : ℕ) (node : Node) → IsBelow k node → k < l → AllBelow l (numbers_in k node)
numbers_below l k (n.Const c) b h = (h, tt)
numbers_below l k (n.Sum ms) b h = below_more k l ms (omega (arith, h)) b
numbers_below l k (n.Alt ms) b h = (h, tt)
numbers_below l k (n.Power id i) b h = (h, tt)
numbers_below l k (n.Once i) b h = (h, tt)
numbers_below l k (n.Scaled id i) b h = (h, tt)

choices_below : (l k : ℕ) (node : Node) → IsBelow k node → k < l → AllBelow l (choices_in k node)
choices_below l k (n.Const c) b h = (h, tt)
choices_below l k (n.Alt ms) b h = below_more k l ms (omega (arith, h)) b
choices_below l k (n.Sum ms) b h = (h, tt)
choices_below l k (n.Power id i) b h = (h, tt)
choices_below l k (n.Once i) b h = (h, tt)
choices_below l k (n.Scaled id i) b h = (h, tt)

own_below : (ns : List Node) (k : ℕ) (node : Node) → IsClosed ns → slice_get ns k ≡ Some node → IsBelow k node
own_below ns k node closed at = subst (λ (x : ℕ). IsBelow x node) (omega arith) (below_there 0 ns k node closed at)

pub pushed_below : (ns : List Node) (k : ℕ) (node : Node) (old new : List ℕ) → IsClosed ns → slice_get ns k ≡ Some node → k < length ns → new ≡ old ++ numbers_in k node
    → AllBelow (length ns) old → AllBelow (length ns) new
pushed_below ns k node old new closed at lt e b =
    subst (λ (ms : List ℕ). AllBelow (length ns) ms) (sym e) (below_both (length ns) old (numbers_in k node) b (numbers_below (length ns) k node (own_below ns k node closed at) lt))

pub pushed_means : (ns : List Node) (k : ℕ) (node : Node) (old new : List ℕ) → IsClosed ns → slice_get ns k ≡ Some node → new ≡ old ++ numbers_in k node
    → map (meaning_at ns) new ≡ map (meaning_at ns) old ++ summands (meaning_at ns k)
pushed_means ns k node old new closed at e =
    ap (map (meaning_at ns)) e ∙ map-append (meaning_at ns) old (numbers_in k node) ∙ ap (λ (x : List Term). map (meaning_at ns) old ++ x) (summands_show ns k node closed at)

pub chosen_below : (ns : List Node) (k : ℕ) (node : Node) (old new : List ℕ) → IsClosed ns → slice_get ns k ≡ Some node → k < length ns → new ≡ old ++ choices_in k node
    → AllBelow (length ns) old → AllBelow (length ns) new
chosen_below ns k node old new closed at lt e b =
    subst (λ (ms : List ℕ). AllBelow (length ns) ms) (sym e) (below_both (length ns) old (choices_in k node) b (choices_below (length ns) k node (own_below ns k node closed at) lt))

pub chosen_means : (ns : List Node) (k : ℕ) (node : Node) (old new : List ℕ) → IsClosed ns → slice_get ns k ≡ Some node → new ≡ old ++ choices_in k node
    → map (meaning_at ns) new ≡ map (meaning_at ns) old ++ choices (meaning_at ns k)
chosen_means ns k node old new closed at e =
    ap (map (meaning_at ns)) e ∙ map-append (meaning_at ns) old (choices_in k node) ∙ ap (λ (x : List Term). map (meaning_at ns) old ++ x) (choices_show ns k node closed at)

pub below_pushed : (k m : ℕ) (old new : List ℕ) → new ≡ old ++ m ∷ [] → m < k → AllBelow k old → AllBelow k new
below_pushed k m old new e h b = subst (λ (ms : List ℕ). AllBelow k ms) (sym e) (below_both k old (m ∷ []) b (h, tt))

-- a part that is a constant, and one that isn't
pub other_skipped : (ns : List Node) (k : ℕ) (node : Node) (c : CostList) (old : List ℕ) → IsClosed ns → slice_get ns k ≡ Some node → constant_in node ≡ Some c
    → map (meaning_at ns) old ≡ map (meaning_at ns) old ++ unless_constant (constant (meaning_at ns k)) (meaning_at ns k) []
other_skipped ns k node c old closed at e =
    sym (append-nil (map (meaning_at ns) old))
    ∙ sym (ap (λ (o : Option CostList). map (meaning_at ns) old ++ unless_constant o (meaning_at ns k) []) (sym (constant_shows ns k node closed at) ∙ e))

pub other_taken : (ns : List Node) (k : ℕ) (node : Node) (old new : List ℕ) → IsClosed ns → slice_get ns k ≡ Some node → constant_in node ≡ None → new ≡ old ++ k ∷ []
    → map (meaning_at ns) new ≡ map (meaning_at ns) old ++ unless_constant (constant (meaning_at ns k)) (meaning_at ns k) []
other_taken ns k node old new closed at e is =
    ap (map (meaning_at ns)) is ∙ map-append (meaning_at ns) old (k ∷ [])
    ∙ sym (ap (λ (o : Option CostList). map (meaning_at ns) old ++ unless_constant o (meaning_at ns k) []) (sym (constant_shows ns k node closed at) ∙ e))
