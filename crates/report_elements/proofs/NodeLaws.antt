-- What the text of a node's meaning is, by the kind of the node.
use Rattle.std.proofs.Common.{◌≡◌, ℕ, ◌+◌, ◌<◌, length, get_or, subst, arith, List, [], ◌∷◌, ◌++◌, Some, refl, sym, ap, ◌∙◌, codes, map, slice_get, append_assoc}
use Rattle.std.proofs.lemmas.Option.{get_or_from_slice_get, slice_get_within}
use Rattle.std.specs.Fmt.{decimal}
use Rattle.cost_multiset.specs.CostLists.{CostList}
use Rattle.wsym_formula.specs.declared.nodes.Node.{Node}
use Rattle.wsym_formula.specs.declared.nodes.Node.TheVariants as n
use Rattle.wsym_formula.specs.Tables.{AllBelow, IsBelow, IsClosed, meaning_at, meanings, opened, term_at}
use Rattle.wsym_formula.proofs.Tabling.{opens_itself}
use Rattle.wsym_formula.proofs.Walking.{below_at}
use Rattle.report_elements.specs.Elements.{costs_text, spaced, term_text}
use Rattle.report_elements.specs.NodeTexts.{node_text}
use Rattle.report_elements.proofs.Opening.{text_const, text_sum, text_choices, text_power, text_once, text_scaled}

-- a node's text is that of what it opens to
opened_text : (ns : List Node) (k : ℕ) (node here : Node) → IsClosed ns → slice_get ns k ≡ Some here → here ≡ node → node_text ns k ≡ term_text (opened (meanings ns) node)
opened_text ns k node here closed at is = ap term_text (opens_itself [] ns k here closed at ∙ ap (opened (meanings ns)) is)

spaced_members : (ns : List Node) (ms : List ℕ) → spaced term_text (map (term_at (meanings ns)) ms) ≡ spaced (node_text ns) ms
spaced_members ns [] = refl
spaced_members ns (m ∷ ms) = ap (λ (rest : List ℕ). 32 ∷ (node_text ns m ++ rest)) (spaced_members ns ms)

pub const_text : (ns : List Node) (k : ℕ) (here : Node) (c : CostList) → IsClosed ns → slice_get ns k ≡ Some here → here ≡ n.Const c → node_text ns k ≡ costs_text c
const_text ns k here c closed at is = opened_text ns k (n.Const c) here closed at is ∙ text_const c

pub sum_text : (ns : List Node) (k : ℕ) (here : Node) (ms : List ℕ) → IsClosed ns → slice_get ns k ≡ Some here → here ≡ n.Sum ms → node_text ns k ≡ codes "(sum" ++ (spaced (node_text ns) ms ++ codes ")")
sum_text ns k here ms closed at is =
    opened_text ns k (n.Sum ms) here closed at is
    ∙ text_sum (map (term_at (meanings ns)) ms)
    ∙ ap (λ (inner : List ℕ). codes "(sum" ++ (inner ++ codes ")")) (spaced_members ns ms)

pub alt_text : (ns : List Node) (k : ℕ) (here : Node) (ms : List ℕ) → IsClosed ns → slice_get ns k ≡ Some here → here ≡ n.Alt ms → node_text ns k ≡ codes "(alt" ++ (spaced (node_text ns) ms ++ codes ")")
alt_text ns k here ms closed at is =
    opened_text ns k (n.Alt ms) here closed at is
    ∙ text_choices (map (term_at (meanings ns)) ms)
    ∙ ap (λ (inner : List ℕ). codes "(alt" ++ (inner ++ codes ")")) (spaced_members ns ms)

pub power_text : (ns : List Node) (k : ℕ) (here : Node) (id body : ℕ) → IsClosed ns → slice_get ns k ≡ Some here → here ≡ n.Power id body → node_text ns k ≡ codes "(power " ++ (decimal id ++ (32 ∷ (node_text ns body ++ codes ")")))
power_text ns k here id body closed at is =
    opened_text ns k (n.Power id body) here closed at is ∙ text_power id (term_at (meanings ns) body) ∙ simp (append_assoc)

pub scaled_text : (ns : List Node) (k : ℕ) (here : Node) (id body : ℕ) → IsClosed ns → slice_get ns k ≡ Some here → here ≡ n.Scaled id body → node_text ns k ≡ codes "(scaled " ++ (decimal id ++ (32 ∷ (node_text ns body ++ codes ")")))
scaled_text ns k here id body closed at is =
    opened_text ns k (n.Scaled id body) here closed at is ∙ text_scaled id (term_at (meanings ns) body) ∙ simp (append_assoc)

pub once_text : (ns : List Node) (k : ℕ) (here : Node) (body : ℕ) → IsClosed ns → slice_get ns k ≡ Some here → here ≡ n.Once body → node_text ns k ≡ codes "(once " ++ (node_text ns body ++ codes ")")
once_text ns k here body closed at is =
    opened_text ns k (n.Once body) here closed at is ∙ text_once (term_at (meanings ns) body) ∙ simp (append_assoc)

-- the members of a node are earlier nodes
here_below : (ns : List Node) (k : ℕ) (node here : Node) → IsClosed ns → slice_get ns k ≡ Some here → here ≡ node → IsBelow k node
here_below ns k node here closed at is =
    let within : k < length ns = slice_get_within ns k here at in
    let same : here ≡ get_or ns k here = sym (get_or_from_slice_get ns k here here at) in
    subst (λ (x : Node). IsBelow k x) is (subst (λ (j : ℕ). IsBelow j here) (omega arith) (below_at 0 ns k here closed within same))

pub sum_below : (ns : List Node) (k : ℕ) (here : Node) (ms : List ℕ) → IsClosed ns → slice_get ns k ≡ Some here → here ≡ n.Sum ms → AllBelow k ms
sum_below ns k here ms = here_below ns k (n.Sum ms) here

pub alt_below : (ns : List Node) (k : ℕ) (here : Node) (ms : List ℕ) → IsClosed ns → slice_get ns k ≡ Some here → here ≡ n.Alt ms → AllBelow k ms
alt_below ns k here ms = here_below ns k (n.Alt ms) here

pub power_below : (ns : List Node) (k : ℕ) (here : Node) (id body : ℕ) → IsClosed ns → slice_get ns k ≡ Some here → here ≡ n.Power id body → body < k
power_below ns k here id body = here_below ns k (n.Power id body) here

pub once_below : (ns : List Node) (k : ℕ) (here : Node) (body : ℕ) → IsClosed ns → slice_get ns k ≡ Some here → here ≡ n.Once body → body < k
once_below ns k here body = here_below ns k (n.Once body) here

pub scaled_below : (ns : List Node) (k : ℕ) (here : Node) (id body : ℕ) → IsClosed ns → slice_get ns k ≡ Some here → here ≡ n.Scaled id body → body < k
scaled_below ns k here id body = here_below ns k (n.Scaled id body) here
