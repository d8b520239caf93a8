-- One image has one graph.
use Rattle.std.proofs.Common.{◌≡◌, refl, sym, ap, ◌∙◌, subst, inl, inr, List, [], ◌∷◌}
use Rattle.std.specs.Prelude.{Contains}
use Rattle.std.specs.Cmp.{IsTotalOrder}
use Rattle.std.specs.declared.cmp.Ordering.{Ordering}
use Rattle.std.specs.Ordering.{ordering_reverse}
use Rattle.std.specs.declared.cmp.Ordering.TheVariants.{Less}
use Rattle.std.specs.Cmp.Lexicographic.{on_texts}
use Rattle.std.proofs.lemmas.Cmp.{on_total, then_total, nat_cmp_total}
use Rattle.control_flow.specs.Routes.{Way}
use Rattle.control_flow.specs.Points.{Point}
use Rattle.basic_blocks.specs.PointOrder.{point_cmp, Before}
use Rattle.basic_blocks.specs.Blocks.{IsOnlyWay, Chain, last_of, IsChain, AreBlocks, Ascending, by_first}
use Rattle.basic_blocks.proofs.BlockLemmas.{one_chain, only_one}
use Rattle.function_points.proofs.MemberLemmas.{here, there, first_or_rest, in_none}
use Rattle.basic_blocks.proofs.VisitLemmas.{begins}

-- ascending lists with the same members are equal
module _ {A : Type 0} (lt : A → A → Type 0) (apart : (a b : A) → lt a b → lt b a → ⊥) where
  head_same : (x y : A) (xs ys : List A) → Ascending lt (x ∷ xs) → Ascending lt (y ∷ ys) → Contains (y ∷ ys) x → Contains (x ∷ xs) y → x ≡ y
  head_same x y xs ys a b i j =
      elim (first_or_rest y x ys i) as (λ _. x ≡ y) [
        | inl e ↦ sym e
        | inr n ↦
            elim (first_or_rest x y xs j) as (λ _. x ≡ y) [
              | inl e ↦ e
              | inr m ↦ absurd (apart x y (a.0 y m) (b.0 x n))
            ]
      ]

  rest_in : (x y : A) (xs ys : List A) → x ≡ y → Ascending lt (x ∷ xs) → ((z : A) → Contains (x ∷ xs) z → Contains (y ∷ ys) z) → (z : A)
      → Contains xs z → Contains ys z
  rest_in x y xs ys e a f z i =
      elim (first_or_rest y z ys (f z (there x z xs i))) as (λ _. Contains ys z) [
        | inl s ↦ let l = subst (λ w. lt x w) (sym s ∙ sym e) (a.0 z i) in absurd (apart x x l l)
        | inr n ↦ n
      ]

  pub equal_ascending : (xs ys : List A) → Ascending lt xs → Ascending lt ys → ((z : A) → Contains xs z → Contains ys z) →
      ((z : A) → Contains ys z → Contains xs z) → xs ≡ ys
  equal_ascending [] [] a b f g = refl
  equal_ascending [] (y ∷ ys) a b f g = absurd (in_none y (g y (here y ys)))
  equal_ascending (x ∷ xs) [] a b f g = absurd (in_none x (f x (here x xs)))
  equal_ascending (x ∷ xs) (y ∷ ys) a b f g =
      let e = head_same x y xs ys a b (f x (here x xs)) (g y (here y ys)) in
      ap (λ z. z ∷ xs) e ∙ ap (λ zs. y ∷ zs) (equal_ascending xs ys a.1 b.1 (rest_in x y xs ys e a f) (rest_in y x ys xs (sym e) b g))

module _ {A : Type 0} (ways : A → List (Way A)) (start : A) where
  same_chain : (b c : Chain A) → b.first ≡ c.first → b.rest ≡ c.rest → b ≡ c
  same_chain b c e f = ap (λ x. record { first = x; rest = b.rest }) e ∙ ap (λ xs. record { first = c.first; rest = xs }) f

  -- the blocks of one cut are those of another
  block_there : (bs cs : List (Chain A)) → AreBlocks ways start bs → AreBlocks ways start cs → (b : Chain A) → Contains bs b → Contains cs b
  block_there bs cs are too b i =
      let is = are.each b i in
      let c = begins ways start cs too b.first is.0 is.1.head in
      let k = (too.each c.0 c.1).1 in
      let e : c.0.first ≡ b.first = c.2 in
      let rest : c.0.rest ≡ b.rest =
      one_chain (IsOnlyWay ways start) (only_one ways start) b.first c.0.rest b.rest
      (subst (λ z. IsChain (IsOnlyWay ways start) z c.0.rest) e k.chain)
      (subst (λ z. (x : A) → IsOnlyWay ways start (last_of z c.0.rest) x → ⊥) e k.end) is.1.chain is.1.end in
      subst (λ z. Contains cs z) (same_chain c.0 b e rest) c.1

  pub one_cut : (lt : A → A → Type 0) → ((a b : A) → lt a b → lt b a → ⊥) → (bs cs : List (Chain A)) → AreBlocks ways start bs
      → AreBlocks ways start cs
      → Ascending (by_first lt) bs → Ascending (by_first lt) cs → bs ≡ cs
  one_cut lt apart bs cs are too a b =
      equal_ascending (by_first lt) (λ x y. apart x.first y.first) bs cs a b (block_there bs cs are too) (block_there cs bs too are)

pub point_total : IsTotalOrder point_cmp
point_total = then_total (on_texts (λ (p : Point). p.returns)) (on_total (λ (p : Point). p.address) nat_cmp_total)

less_apart : (r s : Ordering) → r ≡ ordering_reverse s → r ≡ Less → s ≡ Less → ⊥
less_apart r s e a b = cc

pub before_apart : (p q : Point) → Before p q → Before q p → ⊥
before_apart p q a b = less_apart (point_cmp p q) (point_cmp q p) (point_total.antisymm p q) a b
