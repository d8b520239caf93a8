-- Equality and hash of lists of costs.
use Rattle.std.specs.Prelude.{◌≡◌, Bool, true, false, ◌&&◌, ◌++◌, List, [], ◌∷◌}
use Rattle.std.proofs.Common.{refl, sym, ap, true≢false, ◌∙◌}
use Rattle.std.specs.Bool.{Decides}
use Rattle.std.specs.Cmp.{IsEquivalence, decided, unsigned_Decides}
use Rattle.std.specs.Cmp.Lexicographic.{pointwise, pointwise_decides}
use Rattle.std.specs.Hash.{HashWrites, Alike, same_Alike, slice}
use Rattle.cost_multiset.specs.CostLists.{CostList}
use Rattle.cost_multiset.specs.declared.costs.Run.{Run}
use Rattle.wsym_terms.specs.declared.costs.Cost.{Cost}
use Rattle.wsym_terms.specs.declared.costs.Cost.TheVariants.{Fin, Beyond, Unbounded}
use Rattle.cost_multiset.specs.contracts.costs.RunPartialEq.TheImpl.{ghosts as run_equal}
use Rattle.wsym_terms.specs.contracts.costs.CostPartialEq.TheImpl.{ghosts as cost_equal}
use Rattle.cost_multiset.specs.contracts.costs.RunHash.TheImpl.{ghosts as run_hash}
use Rattle.wsym_terms.specs.contracts.costs.CostHash.TheImpl.{ghosts as cost_hash}

abbrev pub same_cost : Cost → Cost → Bool
same_cost = cost_equal.eq

abbrev pub same_lists : CostList → CostList → Bool
same_lists a b = pointwise run_equal.eq a.runs b.runs && cost_equal.eq a.tail b.tail

abbrev pub list_writes : CostList → HashWrites
list_writes a = slice run_hash.hash_input a.runs ++ cost_hash.hash_input a.tail

both : (s t : Bool) → (s && t) ≡ true → (s ≡ true) × (t ≡ true)
both true true h = (refl, refl)
both true false h = absurd (true≢false (sym h))
both false t h = absurd (true≢false (sym h))

pub cost_is : (x y : Cost) → cost_equal.eq x y ≡ true → x ≡ y
cost_is (Fin a) (Fin b) h = ap Fin ((unsigned_Decides a b).0 h)
cost_is Beyond Beyond h = refl
cost_is Unbounded Unbounded h = refl
cost_is x y h = absurd (true≢false (sym h))

pub cost_self : (x : Cost) → cost_equal.eq x x ≡ true
cost_self (Fin a) = (unsigned_Decides a a).1 refl
cost_self Beyond = refl
cost_self Unbounded = refl

cost_decides : (x y : Cost) → Decides (cost_equal.eq x y) (x ≡ y)
cost_decides x y = (cost_is x y, λ e. ap (cost_equal.eq x) (sym e) ∙ cost_self x)

run_self : (x : Run) → run_equal.eq x x ≡ true
run_self x = λ i. cost_self x.value i && (unsigned_Decides x.count x.count).1 refl i

run_decides : (x y : Run) → Decides (run_equal.eq x y) (x ≡ y)
run_decides x y = (
  λ h.
      let b = both (cost_equal.eq x.value y.value) _ h in
      λ i. record { value = cost_is x.value y.value b.0 i; count = (unsigned_Decides x.count y.count).0 b.1 i },
  λ e. ap (run_equal.eq x) (sym e) ∙ run_self x,
)

pub lists_decide : (x y : CostList) → Decides (same_lists x y) (x ≡ y)
lists_decide x y = (
  λ h.
      let b = both (pointwise run_equal.eq x.runs y.runs) _ h in
      λ i. record { runs = (pointwise_decides run_decides x.runs y.runs).0 b.0 i; tail = cost_is x.tail y.tail b.1 i },
  λ e. ap (same_lists x) (sym e) ∙ (λ i. (pointwise_decides run_decides x.runs x.runs).1 refl i && cost_self x.tail i),
)

pub lists_laws : IsEquivalence same_lists
lists_laws = decided same_lists lists_decide

pub lists_alike : Alike same_lists list_writes
lists_alike = same_Alike list_writes lists_decide
