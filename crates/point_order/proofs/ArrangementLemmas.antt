-- The points in their order, from those that were found.
use Rattle.std.proofs.Common.{◌≡◌, refl, sym, ap, ◌∙◌, subst, ℕ, suc, ◌<◌, ◌⊎◌, inl, inr, Bool, true, false, List, [], ◌∷◌, length, get_or}
use Rattle.std.proofs.Common.{map}
use Rattle.std.specs.Prelude.{◌↔◌, Contains, slice_get}
use Rattle.std.specs.Str.{bytes_eq}
use Rattle.std.specs.Ordering.{nat_cmp, ordering_then}
use Rattle.std.specs.declared.cmp.Ordering.{Ordering}
use Rattle.std.specs.declared.cmp.Ordering.TheVariants.{Less, Equal}
use Rattle.std.specs.Cmp.Lexicographic.{slice_cmp}
use Rattle.std.proofs.lemmas.Bool.{cases_Bool}
use Rattle.std.proofs.lemmas.List.{append-nil}
use Rattle.elf32_image.specs.Parts.{ImageValue}
use Rattle.control_flow.specs.Points.{Point}
use Rattle.control_flow.specs.Ways.{IsCollected}
use Rattle.graph_search.specs.NodeLists.{Equality, holds, Distinct}
use Rattle.graph_search.proofs.SearchLemmas.{holds_at}
use Rattle.function_points.specs.PointLists.{point_eq, point_at, points_at, AreHeld, AreUsed}
use Rattle.function_points.proofs.PointLemmas.{pair_equality, point_equality}
use Rattle.function_points.proofs.ContextLemmas.{held_at, list_equality}
use Rattle.basic_blocks.specs.Blocks.{Ascending}
use Rattle.basic_blocks.specs.PointOrder.{Before}
use Rattle.basic_blocks.proofs.NumberLemmas.{map_in, from_map, ascending_map, ascending_at}
use Rattle.point_order.specs.Arrangements.{IsArranged}
use Rattle.point_order.specs.Families.{Lower, list_at}
use Rattle.point_order.specs.Ranks.{PairBefore, AreRanked, renamed, AreOrdered}
use Rattle.point_order.proofs.OrderLemmas.{front_cmp, less_cmp}
use Rattle.point_order.proofs.PreorderLemmas.{in_lists}
use Rattle.point_order.proofs.RankLemmas.{contains_get}
use Rattle.point_order.proofs.PlaceLemmas.{at_place, lower_apart}

pub held_contains : {A : Type 0} (q : Equality A) (x : A) (xs : List A) → holds q.same x xs ≡ true → Contains xs x
held_contains q x xs h = let k = held_at q x xs h in at_place xs k.0 x k.1

pub contains_held : {A : Type 0} (q : Equality A) (x : A) (xs : List A) → Contains xs x → holds q.same x xs ≡ true
contains_held {A} q x xs i = let k = contains_get xs x i in holds_at A q xs k.0 x k.1

-- the order of points
same_list_cmp : (xs : List ℕ) → slice_cmp nat_cmp xs xs ≡ Equal
same_list_cmp xs = subst (λ z. slice_cmp nat_cmp z z ≡ Equal) (append-nil xs) (front_cmp xs [] [])

pub points_rise : (ls : List (List ℕ)) (ns : List (ℕ × ℕ)) → Ascending Lower ls → Ascending PairBefore ns →
    ((n : ℕ × ℕ) → Contains ns n → n.0 < length ls) → Ascending Before (points_at ls ns)
points_rise ls ns a b under = ascending_map (point_at ls) PairBefore Before (λ n. n.0 < length ls) up ns under b
  where
    up : (x y : ℕ × ℕ) → x.0 < length ls → y.0 < length ls → PairBefore x y → Before (point_at ls x) (point_at ls y)
    up x y l m (inl less) = ap (λ o. ordering_then o (nat_cmp x.1 y.1)) (ascending_at Lower ls [] x.0 y.0 a less m)
    up x y l m (inr (s, less)) =
        ap (λ o. ordering_then o (nat_cmp x.1 y.1)) (subst (λ z. slice_cmp nat_cmp (get_or ls x.0 []) (get_or ls z []) ≡ Equal) s
        (same_list_cmp (get_or ls x.0 []))) ∙ less_cmp x.1 y.1 less

module _ (image : ImageValue) (entry : ℕ) (old new : List (List ℕ)) (ns ms : List (ℕ × ℕ))
    (exact : (p : Point) → (holds point_eq p (points_at old ns) ≡ true) ↔ IsCollected image entry p)
    (held : AreHeld old ns) (used : AreUsed old (points_at old ns)) where
  under_old : (n : ℕ × ℕ) → Contains ns n → n.0 < length old
  under_old n i = held.under n (contains_held pair_equality n ns i)

  pub under_ranks : (ranks : List ℕ) → AreRanked old new ranks → (n : ℕ × ℕ) → Contains ns n → n.0 < length ranks
  under_ranks ranks r n i = subst (λ k. n.0 < k) (sym r.long) (under_old n i)

  point_old : (p : Point) → Contains (points_at old ns) p → IsCollected image entry p
  point_old p i = (exact p).0 (contains_held point_equality p (points_at old ns) i)

  old_point : (p : Point) → IsCollected image entry p → Contains (points_at old ns) p
  old_point p c = held_contains point_equality p (points_at old ns) ((exact p).1 c)

  module _ (ranks : List ℕ) (r : AreRanked old new ranks) (o : AreOrdered ranks ns ms) where
    moved : (n : ℕ × ℕ) → Contains ns n → point_at new (renamed ranks n) ≡ point_at old n
    moved n i = ap (λ z. record { returns = z; address = n.1 }) (r.rank n.0 (under_old n i)).1

    new_point : (p : Point) → Contains (points_at new ms) p → IsCollected image entry p
    new_point p i =
        let m = from_map (point_at new) ms p i in
        let n = o.only m.0 m.1 in
        let e : point_at old n.0 ≡ p = sym (moved n.0 n.1) ∙ ap (point_at new) (sym n.2) ∙ m.2 in
        subst (IsCollected image entry) e (point_old (point_at old n.0) (map_in (point_at old) ns n.0 n.1))

    point_new : (p : Point) → IsCollected image entry p → Contains (points_at new ms) p
    point_new p c =
        let n = from_map (point_at old) ns p (old_point p c) in
        subst (Contains (points_at new ms)) (moved n.0 n.1 ∙ n.2) (map_in (point_at new) ms (renamed ranks n.0) (o.all n.0 n.1))

    new_under : (m : ℕ × ℕ) → Contains ms m → m.0 < length new
    new_under m i = let n = o.only m i in subst (λ (z : ℕ × ℕ). z.0 < length new) (sym n.2) (r.rank n.0.0 (under_old n.0 n.1)).0

    pub is_arranged : IsArranged image entry new ms
    is_arranged =
        record {
          rising = r.rising;
          lists = λ l. (
            (λ i. let p = used.by l ((r.same l).0 i) in (p.0, (exact p.0).0 p.1, p.2)),
            (λ w.
                let m = from_map (point_at new) ms w.0 (point_new w.0 w.1) in
                let e : list_at new m.0.0 ≡ l = ap (λ (z : Point). z.returns) m.2 ∙ w.2 in
                subst (Contains new) e (in_lists new m.0.0 (new_under m.0 m.1))),
          );
          under = new_under;
          sorted = o.sorted;
          points = λ p. (new_point p, point_new p);
        }

-- the points of an arrangement ascend
pub arranged_rise : (image : ImageValue) (entry : ℕ) (ls : List (List ℕ)) (ns : List (ℕ × ℕ)) → IsArranged image entry ls ns
    → Ascending Before (points_at ls ns)
arranged_rise image entry ls ns are = points_rise ls ns are.rising are.sorted are.under
