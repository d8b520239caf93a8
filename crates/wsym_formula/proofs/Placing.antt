-- Trees whose terms stand in a table, part by part.
use Rattle.std.proofs.Common.{◌≡◌, ℕ, ◌+◌, ◌<◌, ◌++◌, max, List, [], ◌∷◌, length, map, refl, sym, ap, subst, ◌∙◌, arith}
use Rattle.std.proofs.lemmas.List.{map-append}
use Rattle.wsym_terms.specs.declared.trees.Use.{Use}
use Rattle.wsym_terms.specs.declared.trees.Tree.{Tree, fold-roll-Tree, roll-Tree}
use Rattle.wsym_terms.specs.declared.trees.Tree.TheOpen.{Tree-F}
use Rattle.wsym_terms.specs.declared.trees.Tree.TheFolds.{map-Tree}
use Rattle.wsym_terms.specs.declared.trees.Tree.TheVariants as tree
use Rattle.wsym_formula.specs.Placing.{ArePlaced, IsPlaced}
use Rattle.wsym_formula.specs.Tables.{AllBelow, Extends, meaning_at, meanings, opened}
use Rattle.wsym_formula.specs.Trees.{Shape, alt_shape, greatest_of, leaf_shape, leaving_term, level_shape, loop_shape, scope_outside, seq_shape, shape_of, terms_of, turns_term}
use Rattle.wsym_formula.specs.declared.nodes.Node.{Node}
use Rattle.wsym_formula.specs.declared.nodes.Node.TheVariants as n
use Rattle.wsym_formula.specs.declared.terms.Term.{Term}
use Rattle.wsym_formula.specs.declared.terms.Term.TheVariants as t
use Rattle.wsym_formula.proofs.Growing.{below_one, longer, members_stay}
use Rattle.wsym_formula.proofs.Tabling.{meaning_stays}

module _ (miss : ℕ) where
  shape_open : (y : Tree-F Tree) (x : Tree) → roll-Tree y ≡ x → shape_of miss x ≡ level_shape miss (map-Tree Tree Shape (shape_of miss) y)
  shape_open y x e = ap (shape_of miss) (sym e) ∙ fold-roll-Tree Shape (level_shape miss) y

  -- what a tree is, by its variant
  pub leaf_is : (x : Tree) (block base : ℕ) (uses : List Use) → x ≡ tree.Leaf block base uses → leaf_shape miss base uses ≡ shape_of miss x
  leaf_is x block base uses is = sym (ap (shape_of miss) is ∙ shape_open (Tree-F.Leaf block base uses) (tree.Leaf block base uses) (tree.rolls-Leaf block base uses))

  pub seq_is : (x : Tree) (ts : List Tree) → x ≡ tree.Seq ts → seq_shape (map (shape_of miss) ts) ≡ shape_of miss x
  seq_is x ts is = sym (ap (shape_of miss) is ∙ shape_open (Tree-F.Seq ts) (tree.Seq ts) (tree.rolls-Seq ts))

  pub alt_is : (x : Tree) (ts : List Tree) → x ≡ tree.Alt ts → alt_shape (map (shape_of miss) ts) ≡ shape_of miss x
  alt_is x ts is = sym (ap (shape_of miss) is ∙ shape_open (Tree-F.Alt ts) (tree.Alt ts) (tree.rolls-Alt ts))

  pub loop_is : (x : Tree) (id : ℕ) (body exit : Tree) → x ≡ tree.Loop id body exit → loop_shape id (shape_of miss body) (shape_of miss exit) ≡ shape_of miss x
  loop_is x id body exit is = sym (ap (shape_of miss) is ∙ shape_open (Tree-F.Loop id body exit) (tree.Loop id body exit) (tree.rolls-Loop id body exit))

pub placed_as : (table : List Node) (s r : Shape) (depth number scope : ℕ) → s ≡ r → IsPlaced table s depth number scope → IsPlaced table r depth number scope
placed_as table s r depth number scope e h = subst (λ (x : Shape). IsPlaced table x depth number scope) e h

-- a tree that stands in a table stands in it when it has grown
pub placed_stays : (old new : List Node) (s : Shape) (depth number scope : ℕ) → Extends old new → IsPlaced old s depth number scope → IsPlaced new s depth number scope
placed_stays old new s depth number scope e h = record {
  within = omega (arith, h.within, longer old new e);
  means = meaning_stays old new number e h.within ∙ h.means;
  widest = h.widest;
}

terms_more : (ss : List Shape) (s : Shape) (depth : ℕ) → terms_of (ss ++ s ∷ []) depth ≡ terms_of ss depth ++ s.term depth ∷ []
terms_more [] s depth = refl
terms_more (r ∷ ss) s depth = ap (λ (x : List Term). r.term depth ∷ x) (terms_more ss s depth)

greatest_more : (ss : List Shape) (s : Shape) (depth : ℕ) → greatest_of (ss ++ s ∷ []) depth ≡ max (s.scope depth) (greatest_of ss depth)
greatest_more [] s depth = refl
greatest_more (r ∷ ss) s depth = let h : greatest_of (ss ++ s ∷ []) depth ≡ max (s.scope depth) (greatest_of ss depth) = greatest_more ss s depth in omega (arith, h)

-- one more tree
pub placed_more : (old new : List Node) (ss : List Shape) (s : Shape) (depth : ℕ) (numbers : List ℕ) (widest number scope : ℕ) → Extends old new → ArePlaced old ss depth numbers widest → IsPlaced new s depth number scope
    → ArePlaced new (ss ++ s ∷ []) depth (numbers ++ number ∷ []) (max scope widest)
placed_more old new ss s depth numbers widest number scope e h p = record {
  below = below_one old new numbers number e h.below p.within;
  means = map-append (meaning_at new) numbers (number ∷ [])
      ∙ (λ i. (members_stay old new numbers e h.below ∙ h.means) i ++ p.means i ∷ [])
      ∙ sym (terms_more ss s depth);
  widest = (λ i. max (p.widest i) (h.widest i)) ∙ sym (greatest_more ss s depth);
}

pub seq_placed : (old new : List Node) (ss : List Shape) (depth : ℕ) (numbers : List ℕ) (number scope : ℕ) → number < length new → meaning_at new number ≡ opened (meanings old) (n.Sum numbers) → ArePlaced old ss depth numbers scope
    → IsPlaced new (seq_shape ss) depth number scope
seq_placed old new ss depth numbers number scope lt is h = record { within = lt; means = is ∙ ap t.Sum h.means; widest = h.widest }

pub alt_placed : (old new : List Node) (ss : List Shape) (depth : ℕ) (numbers : List ℕ) (number scope : ℕ) → number < length new → meaning_at new number ≡ opened (meanings old) (n.Alt numbers) → ArePlaced old ss depth numbers scope
    → IsPlaced new (alt_shape ss) depth number scope
alt_placed old new ss depth numbers number scope lt is h = record { within = lt; means = is ∙ ap t.Alt h.means; widest = h.widest }

-- a loop, of which the body was put in first
pub loop_placed : (old mid last new : List Node) (id depth body bscope exit escope turns leaving number scope : ℕ) → Extends old mid → Extends mid last
    → body < length old → exit < length old → turns < length mid
    → meaning_at mid turns ≡ turns_term id depth bscope (meaning_at old body)
    → meaning_at last leaving ≡ leaving_term depth escope (meaning_at mid exit)
    → number < length new → meaning_at new number ≡ opened (meanings last) (n.Sum (turns ∷ leaving ∷ []))
    → scope ≡ max (scope_outside depth bscope) (scope_outside depth escope)
    → (b e : Shape) → IsPlaced old b (depth + 1) body bscope → IsPlaced old e (depth + 1) exit escope → IsPlaced new (loop_shape id b e) depth number scope
loop_placed old mid last new id depth body bscope exit escope turns leaving number scope up on bl el tl turned left lt is widest b e p q = record {
  within = lt;
  means = is ∙ (λ i. t.Sum (
      (meaning_stays mid last turns on tl ∙ turned ∙ (λ j. turns_term id depth (p.widest j) (p.means j))) i
      ∷ (left ∙ ap (leaving_term depth escope) (meaning_stays old mid exit up el) ∙ (λ j. leaving_term depth (q.widest j) (q.means j))) i
      ∷ []));
  widest = widest ∙ (λ i. max (scope_outside depth (p.widest i)) (scope_outside depth (q.widest i)));
}

pub placed_same : (table : List Node) (ss rs : List Shape) (depth : ℕ) (ms ns : List ℕ) (w v : ℕ) → ss ≡ rs → ms ≡ ns → w ≡ v → ArePlaced table rs depth ns v → ArePlaced table ss depth ms w
placed_same table ss rs depth ms ns w v p q r h =
    subst (λ (x : List Shape). ArePlaced table x depth ms w) (sym p)
    (subst (λ (x : List ℕ). ArePlaced table rs depth x w) (sym q)
    (subst (λ (x : ℕ). ArePlaced table rs depth ns x) (sym r) h))
