-- Descending unions of more than two lists.
use Rattle.std.proofs.Common.{◌≡◌, ℕ, ◌++◌, ◌<◌, List, [], ◌∷◌, length, refl, sym, ap, ◌∙◌, arith}
use Rattle.wsym_terms.specs.declared.costs.Cost.{Cost}
use Rattle.cost_multiset.specs.CostLists.{CostList, place, merged}
use Rattle.cost_multiset.proofs.UnionLaws.{merged_assoc}
use Rattle.simplifier.specs.Normal.{united}

pub united_append : (xs ys : List CostList) (k : ℕ) → 0 < length xs → 0 < length ys → united (xs ++ ys) k ≡ merged (united xs) (united ys) k
united_append [] ys k h j = absurd (omega (arith, h))
united_append (c ∷ xs) [] k h j = absurd (omega (arith, j))
united_append (c ∷ []) (d ∷ ys) k h j = refl
united_append (c ∷ e ∷ xs) (d ∷ ys) k h j =
    ap (λ (x : ℕ → Cost). merged (place c) x k) (λ i n. united_append (e ∷ xs) (d ∷ ys) n (omega arith) (omega arith) i)
    ∙ sym (merged_assoc (place c) (united (e ∷ xs)) (united (d ∷ ys)) k)
