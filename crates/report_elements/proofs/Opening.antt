-- What the text of a tree or a formula is at each kind of node.
use Rattle.std.proofs.Common.{◌≡◌, ℕ, List, [], ◌∷◌, ◌++◌, refl, sym, ap, ◌∙◌, codes, map}
use Rattle.std.specs.Fmt.{decimal}
use Rattle.wsym_terms.specs.declared.trees.Use.{Use}
use Rattle.wsym_terms.specs.declared.trees.Tree.{Tree, fold-roll-Tree}
use Rattle.wsym_terms.specs.declared.trees.Tree.TheOpen.{Tree-F}
use Rattle.wsym_terms.specs.declared.trees.Tree.TheVariants as t
use Rattle.cost_multiset.specs.CostLists.{CostList}
use Rattle.wsym_formula.specs.declared.terms.Term.{Term, fold-roll-Term}
use Rattle.wsym_formula.specs.declared.terms.Term.TheOpen.{Term-F}
use Rattle.wsym_formula.specs.declared.terms.Term.TheVariants as f
use Rattle.report_elements.specs.Elements.{in_brackets, spaced, leaf_text, tree_level, tree_text, costs_text, term_level, term_text}

pub in_brackets-map : {A : Type 0} (text : A → List ℕ) (xs : List A) → in_brackets (map text xs) ≡ spaced text xs
in_brackets-map text [] = refl
in_brackets-map text (x ∷ xs) = ap (λ rest. 32 ∷ (text x ++ rest)) (in_brackets-map text xs)

pub text_leaf : (block base : ℕ) (uses : List Use) → tree_text (t.Leaf block base uses) ≡ leaf_text block base uses
text_leaf block base uses = ap tree_text (sym (t.rolls-Leaf block base uses)) ∙ fold-roll-Tree (List ℕ) tree_level (Tree-F.Leaf block base uses)

pub text_seq : (ts : List Tree) → tree_text (t.Seq ts) ≡ codes "(seq" ++ spaced tree_text ts ++ codes ")"
text_seq ts = ap tree_text (sym (t.rolls-Seq ts)) ∙ fold-roll-Tree (List ℕ) tree_level (Tree-F.Seq ts) ∙ ap (λ inner. codes "(seq" ++ inner ++ codes ")") (in_brackets-map tree_text ts)

pub text_alt : (ts : List Tree) → tree_text (t.Alt ts) ≡ codes "(alt" ++ spaced tree_text ts ++ codes ")"
text_alt ts = ap tree_text (sym (t.rolls-Alt ts)) ∙ fold-roll-Tree (List ℕ) tree_level (Tree-F.Alt ts) ∙ ap (λ inner. codes "(alt" ++ inner ++ codes ")") (in_brackets-map tree_text ts)

pub text_loop : (id : ℕ) (body exit : Tree) → tree_text (t.Loop id body exit) ≡ codes "(loop " ++ decimal id ++ codes " " ++ tree_text body ++ codes " " ++ tree_text exit ++ codes ")"
text_loop id body exit = ap tree_text (sym (t.rolls-Loop id body exit)) ∙ fold-roll-Tree (List ℕ) tree_level (Tree-F.Loop id body exit)

pub text_const : (costs : CostList) → term_text (f.Const costs) ≡ costs_text costs
text_const costs = ap term_text (sym (f.rolls-Const costs)) ∙ fold-roll-Term (List ℕ) term_level (Term-F.Const costs)

pub text_sum : (ts : List Term) → term_text (f.Sum ts) ≡ codes "(sum" ++ spaced term_text ts ++ codes ")"
text_sum ts = ap term_text (sym (f.rolls-Sum ts)) ∙ fold-roll-Term (List ℕ) term_level (Term-F.Sum ts) ∙ ap (λ inner. codes "(sum" ++ inner ++ codes ")") (in_brackets-map term_text ts)

pub text_choices : (ts : List Term) → term_text (f.Alt ts) ≡ codes "(alt" ++ spaced term_text ts ++ codes ")"
text_choices ts = ap term_text (sym (f.rolls-Alt ts)) ∙ fold-roll-Term (List ℕ) term_level (Term-F.Alt ts) ∙ ap (λ inner. codes "(alt" ++ inner ++ codes ")") (in_brackets-map term_text ts)

pub text_power : (id : ℕ) (body : Term) → term_text (f.Power id body) ≡ codes "(power " ++ decimal id ++ codes " " ++ term_text body ++ codes ")"
text_power id body = ap term_text (sym (f.rolls-Power id body)) ∙ fold-roll-Term (List ℕ) term_level (Term-F.Power id body)

pub text_once : (body : Term) → term_text (f.Once body) ≡ codes "(once " ++ term_text body ++ codes ")"
text_once body = ap term_text (sym (f.rolls-Once body)) ∙ fold-roll-Term (List ℕ) term_level (Term-F.Once body)

pub text_scaled : (id : ℕ) (body : Term) → term_text (f.Scaled id body) ≡ codes "(scaled " ++ decimal id ++ codes " " ++ term_text body ++ codes ")"
text_scaled id body = ap term_text (sym (f.rolls-Scaled id body)) ∙ fold-roll-Term (List ℕ) term_level (Term-F.Scaled id body)
