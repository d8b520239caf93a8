-- Ways that are added to the edges from some nodes to others.
use Rattle.std.specs.Prelude.{◌≡◌, ℕ, Bool, false, if◌then◌else◌, ◌&&◌, ◌||◌, nat_eq, List, [], ◌∷◌, ◌++◌}
use Rattle.std.specs.BTreeMap as tree
use Rattle.std.specs.BTreeMap.{BTreeMap}
use Rattle.elimination_plans.specs.Plans.{pair_cmp, or_none}

abbrev pub listed : BTreeMap (ℕ × ℕ) (List ℕ) → ℕ → ℕ → List ℕ
listed m x y = or_none (tree.get pair_cmp m (x, y))

abbrev pub has : ℕ → List ℕ → Bool
has x [] = false
has x (y ∷ ys) = nat_eq x y || has x ys

-- no number stands twice
abbrev pub Once : List ℕ → Type 0
Once [] = Unit {0}
Once (x ∷ xs) = (has x xs ≡ false) × Once xs

abbrev pub one_added : ℕ → ℕ → ℕ → (ℕ → ℕ → List ℕ) → ℕ → ℕ → List ℕ
one_added p q e P x y = if nat_eq x p && nat_eq y q then P x y ++ e ∷ [] else P x y

abbrev pub row_added : ℕ → List ℕ → ℕ → (ℕ → ℕ → List ℕ) → ℕ → ℕ → List ℕ
row_added p qs e P x y = if nat_eq x p && has y qs then P x y ++ e ∷ [] else P x y

abbrev pub all_added : List ℕ → List ℕ → ℕ → (ℕ → ℕ → List ℕ) → ℕ → ℕ → List ℕ
all_added ps qs e P x y = if has x ps && has y qs then P x y ++ e ∷ [] else P x y
