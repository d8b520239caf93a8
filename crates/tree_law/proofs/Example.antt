-- The premises of the law hold for a function of three blocks, the second of which is a loop of itself.
use Rattle.std.proofs.Common.{◌≡◌, ◌≢◌, ℕ, zero, suc, ◌+◌, ◌<◌, ◌≤◌, ◌⊎◌, inl, inr, Bool, true, false, if◌then◌else◌, nat_eq, nat_lt}
use Rattle.std.proofs.Common.{Option, Some, None, List, [], ◌∷◌, refl, sym, ap, subst, ◌∙◌, arith}
use Rattle.std.proofs.lemmas.Bool.Decides.{nat_tests}
use Rattle.std.specs.List.{AllByRecursion}
use Rattle.tree_law.specs.Ways.{IsIn, Path}
use Rattle.tree_law.specs.Levels.{Level, IsEnd, Nest}
use Rattle.tree_law.specs.Nests.{IsNest}
use Rattle.interval_loops.specs.Loops.{AreEnds, AreLoops, IsOrder, Loops, child_in, node_in, IsRound, LoopFlow}
use Rattle.tree_law.specs.LevelEdges.{AreLevels, EdgesOf, IsLevelEdge, Reaches}
use Rattle.interval_loops.specs.Trails.{Follows, Leaves, Visit}
use Rattle.tree_law.specs.Trails.{IsTrail, Paid, IsCut}
use Rattle.wsym_terms.specs.Extents.{Extent, Finite, Infinite, IsWithin}

-- blocks 0, 1, 2; the start 3, the turn 4, the leaving 5
abbrev pub top_edge : ℕ → ℕ → Bool
top_edge p q = if nat_eq p 3 then nat_eq q 0 else (if nat_eq p 0 then nat_eq q 1 else
    (if nat_eq p 1 then nat_eq q 2 else (if nat_eq p 2 then nat_eq q 5 else false)))

abbrev pub loop_edge : ℕ → ℕ → Bool
loop_edge p q = if nat_eq p 1 then (if nat_eq q 4 then true else nat_eq q 5) else false

abbrev pub level_of : ℕ → Level
level_of zero = record {
  edge = top_edge;
  useful = λ t. if nat_eq t 5 then top_edge else (λ p q. false);
  nodes = λ t. if nat_eq t 5
      then 0 ∷ 1 ∷ 2 ∷ [] else [];
  header = 3;
  close = 4;
  leave = 5;
}
level_of (suc zero) = record {
  edge = loop_edge;
  useful = λ t p q. if nat_eq p 1 then nat_eq q t
      else false;
  nodes = λ t. [];
  header = 1;
  close = 4;
  leave = 5;
}
level_of (suc (suc c)) = record { edge = λ p q. false; useful = λ t p q. false; nodes = λ t. []; header = 1; close = 4; leave = 5 }

abbrev pub child_of : ℕ → ℕ → Option ℕ
child_of zero v = if nat_eq v 1 then Some 1 else None
child_of (suc c) v = None

abbrev pub within_of : ℕ → ℕ → Bool
within_of zero b = nat_lt b 3
within_of (suc zero) b = nat_eq b 1
within_of (suc (suc c)) b = false

abbrev pub height_of : ℕ → ℕ
height_of zero = 1
height_of (suc c) = 0

abbrev pub at_of : ℕ → ℕ
at_of zero = 0
at_of (suc c) = 1

abbrev pub nest : Nest
nest = record { level = level_of; child = child_of; base = λ b. 1; uses = λ b. [] }

abbrev pub next_of : ℕ → ℕ → Bool
next_of p q = if nat_eq p 0 then nat_eq q 1 else (if nat_eq p 1 then (if nat_eq q 1 then true else nat_eq q 2) else false)

abbrev pub flow : LoopFlow
flow = record {
  next = next_of;
  ends = λ b. nat_eq b 2;
  entry = 0;
  within = within_of;
  node_at = λ c b. b;
  header = λ c.
      (level_of c).header;
}

lower : (c v d : ℕ) → child_of c v ≡ Some d → height_of d < height_of c
lower zero v d e = by_test (nat_eq v 1) e
  where
    by_test : (t : Bool) → (if t then Some 1 else None) ≡ Some d → height_of d < 1
    by_test true e = (let same : 1 ≡ d = cc in subst (λ (k : ℕ). height_of k < 1) same (omega arith))
    by_test false e = absurd (cc)
lower (suc c) v d e = absurd (cc)

child_is : (c v d : ℕ) → child_of c v ≡ Some d → (c ≡ 0) × (v ≡ 1) × (d ≡ 1)
child_is zero v d e = by_test (nat_eq v 1) refl e
  where
    by_test : (t : Bool) → nat_eq v 1 ≡ t → (if t then Some 1 else None) ≡ Some d → (◌≡◌ {A = ℕ} 0 0) × (v ≡ 1) × (d ≡ 1)
    by_test true f e = (refl, grind (arith, nat_tests), (let same : 1 ≡ d = cc in sym same))
    by_test false f e = absurd (cc)
child_is (suc c) v d e = absurd (cc)

deep : (c v d : ℕ) → child_of c v ≡ Some d → at_of d ≡ at_of c + 1
deep c v d e = (let h = child_is c v d e in ap at_of h.2 ∙ sym (ap (λ k. at_of k + 1) h.0))

inner : (c b d : ℕ) → within_of c b ≡ true → child_of c b ≡ Some d → within_of d b ≡ true
inner c b d i e = (let h = child_is c b d e in ap (λ k. within_of k b) h.2 ∙ ap (λ k. nat_eq k 1) h.1)

outer : (c b u d : ℕ) → within_of c b ≡ true → within_of c u ≡ true → child_of c u ≡ Some d → b ≢ u → within_of d b ≡ false
outer c b u d i j e ne = (let h = child_is c u d e in ap (λ k. within_of k b) h.2 ∙ apart b (λ p. ne (p ∙ sym h.1)))
  where
    apart : (b : ℕ) → b ≢ 1 → nat_eq b 1 ≡ false
    apart b h = grind (arith, nat_tests)

head : (c : ℕ) → within_of c (level_of c).header ≡ true → (◌≡◌ {A = ℕ} (level_of c).header (level_of c).header) ×
    (child_of c (level_of c).header ≡ None)
head zero i = absurd (cc)
head (suc zero) i = (refl, refl)
head (suc (suc c)) i = (refl, refl)

turns : (c u v : ℕ) → within_of c u ≡ true → within_of c v ≡ true → next_of u v ≡ true → v ≡ (level_of c).header → (level_of c).edge u
    (level_of c).close ≡ true
turns zero u v i j e h = absurd (grind (arith, nat_tests))
turns (suc zero) u v i j e h = grind (arith, nat_tests)
turns (suc (suc c)) u v i j e h = absurd (cc)

goes : (c u v : ℕ) → within_of c u ≡ true → within_of c v ≡ true → next_of u v ≡ true → v ≢ (level_of c).header → u ≢ v →
    (level_of c).edge u v ≡ true
goes zero u v i j e h ne = grind (arith, nat_tests)
goes (suc zero) u v i j e h ne = absurd (grind (arith, nat_tests))
goes (suc (suc c)) u v i j e h ne = absurd (cc)

no_self : (c u v : ℕ) → within_of c u ≡ true → within_of c v ≡ true → next_of u v ≡ true → v ≢ (level_of c).header → u ≡ v
    → child_of c v ≢ None
no_self zero u v i j e h same = loop_at v (one u v e same)
  where
    one : (u v : ℕ) → next_of u v ≡ true → u ≡ v → v ≡ 1
    one u v e same = grind (arith, nat_tests)

    loop_at : (v : ℕ) → v ≡ 1 → child_of zero v ≢ None
    loop_at v h none = (let a : child_of zero v ≡ Some 1 = ap (child_of zero) h in cc)
no_self (suc zero) u v i j e h same = absurd (grind (arith, nat_tests))
no_self (suc (suc c)) u v i j e h same = absurd (cc)

by_header : (c u v d : ℕ) → within_of c u ≡ true → within_of c v ≡ true → next_of u v ≡ true → u ≢ v → child_of c v ≡ Some d → v ≡
    (level_of d).header
by_header c u v d i j e ne is = (let h = child_is c v d is in h.1 ∙ sym (ap (λ k. (level_of k).header) h.2))

leaves : (c u : ℕ) → within_of c u ≡ true → Leaves flow c u → (level_of c).edge u (level_of c).leave ≡ true
leaves zero u i (inl e) = grind (arith, nat_tests)
leaves zero u i (inr h) = absurd (no_way u h.0 h.1 h.2)
  where
    no_way : (u v : ℕ) → next_of u v ≡ true → nat_lt v 3 ≡ false → ⊥
    no_way u v e f = grind (arith, nat_tests)
leaves (suc zero) u i l = at_one u i
  where
    at_one : (u : ℕ) → nat_eq u 1 ≡ true → loop_edge u 5 ≡ true
    at_one u i = grind (arith, nat_tests)
leaves (suc (suc c)) u i l = absurd (cc)

nested : (c v d b : ℕ) → child_of c v ≡ Some d → within_of c b ≡ false → within_of d b ≡ false
nested c v d b is out = (let h = child_is c v d is in ap (λ k. within_of k b) h.2 ∙ apart b (ap (λ k. within_of k b) (sym h.0) ∙ out))
  where
    apart : (b : ℕ) → nat_lt b 3 ≡ false → nat_eq b 1 ≡ false
    apart b h = grind (arith, nat_tests)

pub is_cut : IsCut nest flow at_of height_of
is_cut = record {
  headers = λ c. refl;
  lower = lower;
  deep = deep;
  own = λ c b i e. refl;
  inner = inner;
  outer = outer;
  head = head;
  turns = turns;
  goes = goes;
  no_self = no_self;
  by_header = by_header;
  leaves = leaves;
  nested = nested;
  top = refl;
  start = refl;
  first = refl;
  first_header = λ d e. absurd (cc);
}

abbrev rank_of : ℕ → ℕ → ℕ
rank_of zero p = if nat_eq p 3 then 0 else p + 1
rank_of (suc c) p = p

up : (c t p q : ℕ) → IsEnd (level_of c) t → ((level_of c).useful t) p q ≡ true → rank_of c p < rank_of c q
up zero t p q end e = by_end end e
  where
    rises : (p q : ℕ) → top_edge p q ≡ true → rank_of zero p < rank_of zero q
    rises p q e = grind (arith, nat_tests)

    by_end : (t ≡ 4) ⊎ (t ≡ 5) → ((level_of zero).useful t) p q ≡ true → rank_of zero p < rank_of zero q
    by_end (inl is) e = (let f : ((level_of zero).useful 4) p q ≡ true = ap (λ k. (level_of zero).useful k p q) (sym is) ∙ e in absurd (cc))
    by_end (inr is) e = rises p q (ap (λ k. (level_of zero).useful k p q) (sym is) ∙ e)
up (suc (suc c)) t p q end e = absurd (cc)
up (suc zero) t p q end e = rises t p q end e
  where
    rises : (t p q : ℕ) → (t ≡ 4) ⊎ (t ≡ 5) → (if nat_eq p 1 then nat_eq q t else false) ≡ true → p < q
    rises t p q end e = grind (arith, nat_tests)

target : (p q : ℕ) → top_edge p q ≡ true → (IsIn q (0 ∷ 1 ∷ 2 ∷ [])) ⊎ (q ≡ 5)
target p q e = grind (arith, nat_tests)

from_end : (q : ℕ) → top_edge 5 q ≡ true → ⊥
from_end q e = absurd (cc)

no_path : (us : List ℕ) (p : ℕ) → Path top_edge p us 4 → ⊥
no_path [] p h = last p h
  where
    last : (p : ℕ) → top_edge p 4 ≡ true → ⊥
    last p e = grind (arith, nat_tests)
no_path (u ∷ us) p h = no_path us u h.1

from_five : (us : List ℕ) (t : ℕ) → Path top_edge 5 us t → ⊥
from_five [] t h = from_end t h
from_five (u ∷ us) t h = from_end u h.0

on_top : (us : List ℕ) (p : ℕ) → Path top_edge p us 5 → AllByRecursion (λ v. IsIn v (0 ∷ 1 ∷ 2 ∷ [])) us
on_top [] p h = tt
on_top (u ∷ us) p h = (among (target p u h.0), on_top us u h.1)
  where
    among : (IsIn u (0 ∷ 1 ∷ 2 ∷ [])) ⊎ (u ≡ 5) → IsIn u (0 ∷ 1 ∷ 2 ∷ [])
    among (inl i) = i
    among (inr e) = absurd (from_five us 5 (subst (λ k. Path top_edge k us 5) e h.1))

loop_from : (q v : ℕ) → q ≢ 1 → loop_edge q v ≡ true → ⊥
loop_from q v h e = grind (arith, nat_tests)

loop_target : (q : ℕ) → loop_edge 1 q ≡ true → q ≢ 1
loop_target q e = grind (arith, nat_tests)

in_loop : (t : ℕ) (us : List ℕ) → Path loop_edge 1 us t → us ≡ []
in_loop t [] h = refl
in_loop t (u ∷ []) h = absurd (loop_from u t (loop_target u h.0) h.1)
in_loop t (u ∷ x ∷ us) h = absurd (loop_from u x (loop_target u h.0) h.1.0)

on_path : (c t : ℕ) (us : List ℕ) → IsEnd (level_of c) t → Path (level_of c).edge (level_of c).header us t → AllByRecursion
    (λ v. IsIn v ((level_of c).nodes t)) us × Path ((level_of c).useful t) (level_of c).header us t
on_path zero t us (inl is) h = absurd (no_path us 3 (subst (λ k. Path top_edge 3 us k) is h))
on_path zero t us (inr is) h =
    let g : Path top_edge 3 us 5 = subst (λ k. Path top_edge 3 us k) is h in
    subst (λ k. AllByRecursion (λ v. IsIn v ((level_of zero).nodes k)) us × Path ((level_of zero).useful k) 3 us k) (sym is)
    (on_top us 3 g, g)
on_path (suc (suc c)) t us end h = absurd (none us 1 h)
  where
    none : (us : List ℕ) (p : ℕ) → Path (λ p q. false) p us t → ⊥
    none [] p h = absurd (cc)
    none (u ∷ us) p h = (let e = h.0 in absurd (cc))
on_path (suc zero) t us end h = subst (λ l. AllByRecursion (λ v. IsIn v []) l × Path ((level_of (suc zero)).useful t) 1 l t)
    (sym (in_loop t us h)) (tt, direct t end)
  where
    direct : (t : ℕ) → (t ≡ 4) ⊎ (t ≡ 5) → nat_eq t t ≡ true
    direct t end = grind (arith, nat_tests)

start_apart : (c t : ℕ) → IsEnd (level_of c) t → AllByRecursion (λ v. (level_of c).header ≢ v) ((level_of c).nodes t)
start_apart zero t (inl is) = subst (λ k. AllByRecursion (λ v. 3 ≢ v) ((level_of zero).nodes k)) (sym is) tt
start_apart zero t (inr is) = subst (λ k. AllByRecursion (λ v. 3 ≢ v) ((level_of zero).nodes k)) (sym is)
    ((λ e. absurd (cc)), ((λ e. absurd (cc)), ((λ e. absurd (cc)), tt)))
start_apart (suc zero) t end = tt
start_apart (suc (suc c)) t end = tt

end_apart : (c t : ℕ) → IsEnd (level_of c) t → AllByRecursion (λ v. t ≢ v) ((level_of c).nodes t)
end_apart zero t (inl is) = subst (λ k. AllByRecursion (λ v. k ≢ v) ((level_of zero).nodes k)) (sym is) tt
end_apart zero t (inr is) = subst (λ k. AllByRecursion (λ v. k ≢ v) ((level_of zero).nodes k)) (sym is)
    ((λ e. absurd (cc)), ((λ e. absurd (cc)), ((λ e. absurd (cc)), tt)))
end_apart (suc zero) t end = tt
end_apart (suc (suc c)) t end = tt

pub is_nest : IsNest nest at_of rank_of
is_nest = record {
  top = refl;
  up = up;
  start_apart = start_apart;
  end_apart = end_apart;
  on_path = on_path;
  deeper = deep;
  scoped = λ c t v end e i. omega arith;
}

-- the trail of blocks 0, 1, 1, 2
abbrev visit_of : ℕ → ℕ → Visit
visit_of b k = record { block = b; spent = 1; missed = λ k. false; entry = λ d. 0; turns = λ d. if nat_eq d 1 then k else 0 }

module _ (bounds : ℕ → Extent) (enough : (c : ℕ) → IsWithin 1 (bounds c)) where
  within_less : (k : ℕ) (e : Extent) → k ≤ 1 → IsWithin 1 e → IsWithin k e
  within_less k Infinite h g = tt
  within_less k (Finite a) h g = omega arith

  paid : (b k : ℕ) → k ≤ 1 → Paid 7 bounds nest flow at_of (visit_of b k)
  paid b k le = record {
    costs = omega arith;
    few = λ c i. within_less ((visit_of b k).turns (at_of c)) (bounds c) (small (at_of c))
        (enough c);
  }
    where
      small : (d : ℕ) → (if nat_eq d 1 then k else 0) ≤ 1
      small d = grind (arith, nat_tests)

  follows : (b k a j : ℕ) → next_of b a ≡ true → ((c : ℕ) → within_of c b ≡ true → within_of c a ≡ true → (visit_of a j).turns (at_of c) ≡
      (visit_of b k).turns (at_of c) + (if nat_eq a (level_of c).header then 1 else 0))
      → ((c : ℕ) → within_of c b ≡ false → within_of c a ≡ true → (visit_of a j).turns (at_of c) ≡ 0) → Follows flow at_of (visit_of b k)
      (visit_of a j)
  follows b k a j e counts fresh = record { edge = e; keeps = λ c i h d le. refl; counts = counts; fresh = fresh }

  counts_01 : (c : ℕ) → within_of c 0 ≡ true → within_of c 1 ≡ true → (visit_of 1 0).turns (at_of c) ≡ (visit_of 0 0).turns (at_of c) +
      (if nat_eq 1 (level_of c).header then 1 else 0)
  counts_01 zero i j = refl
  counts_01 (suc zero) i j = absurd (cc)
  counts_01 (suc (suc c)) i j = absurd (cc)

  counts_11 : (c : ℕ) → within_of c 1 ≡ true → within_of c 1 ≡ true → (visit_of 1 1).turns (at_of c) ≡ (visit_of 1 0).turns (at_of c) +
      (if nat_eq 1 (level_of c).header then 1 else 0)
  counts_11 zero i j = refl
  counts_11 (suc zero) i j = refl
  counts_11 (suc (suc c)) i j = absurd (cc)

  counts_12 : (c : ℕ) → within_of c 1 ≡ true → within_of c 2 ≡ true → (visit_of 2 0).turns (at_of c) ≡ (visit_of 1 1).turns (at_of c) +
      (if nat_eq 2 (level_of c).header then 1 else 0)
  counts_12 zero i j = refl
  counts_12 (suc zero) i j = absurd (cc)
  counts_12 (suc (suc c)) i j = absurd (cc)

  fresh_01 : (c : ℕ) → within_of c 0 ≡ false → within_of c 1 ≡ true → (visit_of 1 0).turns (at_of c) ≡ 0
  fresh_01 zero i j = refl
  fresh_01 (suc c) i j = refl

  fresh_11 : (c : ℕ) → within_of c 1 ≡ false → within_of c 1 ≡ true → (visit_of 1 1).turns (at_of c) ≡ 0
  fresh_11 c i j = absurd (cc)

  fresh_12 : (c : ℕ) → within_of c 1 ≡ false → within_of c 2 ≡ true → (visit_of 2 0).turns (at_of c) ≡ 0
  fresh_12 zero i j = refl
  fresh_12 (suc c) i j = refl

  pub is_trail : IsTrail 7 bounds nest flow at_of (visit_of 0 0) (visit_of 1 0 ∷ visit_of 1 1 ∷ visit_of 2 0 ∷ [])
  is_trail = record {
    begins = refl;
    new = λ d. none d;
    stays = (
      refl,
      paid 0 0 (omega arith),
      follows 0 0 1 0 refl counts_01 fresh_01,
      (
        refl,
        paid 1 0 (omega arith),
        follows 1 0 1 1 refl counts_11 fresh_11,
        (
          refl,
          paid 1 1 (omega arith),
          follows 1 1 2 0 refl counts_12 fresh_12,
          (refl, paid 2 0 (omega arith), inl refl),
        ),
      ),
    );
  }
    where
      none : (d : ℕ) → ◌≡◌ {A = ℕ} (if nat_eq d 1 then 0 else 0) 0
      none d = grind (arith, nat_tests)

-- the same function's loops, as its levels come from them
abbrev pub header_of : ℕ → ℕ
header_of zero = 3
header_of (suc c) = 1

abbrev pub loops : Loops
loops = record { header = header_of; parent = λ c. 0; inner = λ b. if nat_eq b 1 then 1 else 0; hold = λ c b. 1 }

loop_of : (d b : ℕ) → d ≢ 0 → within_of d b ≡ true → (d ≡ 1) × (b ≡ 1)
loop_of zero b real i = absurd (real refl)
loop_of (suc zero) b real i = (refl, only b i)
  where
    only : (b : ℕ) → nat_eq b 1 ≡ true → b ≡ 1
    only b i = grind (arith, nat_tests)
loop_of (suc (suc d)) b real i = absurd (cc)

pub are_loops : AreLoops loops next_of within_of 0 at_of height_of
are_loops = record {
  top = refl;
  start = refl;
  deeper = deeper;
  lower = lower_of;
  holds = holds;
  held = λ d b real i. (let h = loop_of d b real i in (ap (within_of 0) h.1, (λ e. inner_one b h.1 e), sym h.0));
  own = λ d b real i. (let h = loop_of d b real i in sym (ap (λ (k : ℕ). k) h.0 ∙ one_one d h.0));
  single = λ d u v real e out i. (let h = loop_of d v real i in h.1 ∙ sym (header_one d h.0));
  self = self;
  entered = λ d real i. (let h = loop_of d 0 real i in absurd (cc));
}
  where
    deeper : (d : ℕ) → d ≢ 0 → at_of d ≡ 0 + 1
    deeper zero real = absurd (real refl)
    deeper (suc d) real = refl

    lower_of : (d : ℕ) → d ≢ 0 → height_of d < 1
    lower_of zero real = absurd (real refl)
    lower_of (suc d) real = omega arith

    header_one : (d : ℕ) → d ≡ 1 → loops.header d ≡ 1
    header_one d e = ap loops.header e

    one_one : (d : ℕ) → d ≡ 1 → 1 ≡ loops.inner (loops.header d)
    one_one d e = sym (ap (λ (k : ℕ). loops.inner (loops.header k)) e)

    inner_one : (b : ℕ) → b ≡ 1 → loops.inner b ≡ 0 → ⊥
    inner_one b e h = (let a : loops.inner b ≡ 1 = ap loops.inner e in cc)

    holds : (c b : ℕ) → within_of c b ≡ true → loops.inner b ≢ c → (◌≡◌ {A = ℕ} 0 c) × (within_of 1 b ≡ true) × (◌≢◌ {A = ℕ} 1 0)
    holds zero b i ne = (refl, in_one b ne, one_is)
      where
        one_is : ◌≡◌ {A = ℕ} 1 0 → ⊥
        one_is e = absurd (cc)

        in_one : (b : ℕ) → ◌≢◌ {A = ℕ} (if nat_eq b 1 then 1 else 0) 0 → nat_eq b 1 ≡ true
        in_one b h = grind (arith, nat_tests)
    holds (suc zero) b i ne = absurd (ne (at_loop b i))
      where
        at_loop : (b : ℕ) → nat_eq b 1 ≡ true → ◌≡◌ {A = ℕ} (if nat_eq b 1 then 1 else 0) 1
        at_loop b i = grind (arith, nat_tests)
    holds (suc (suc c)) b i ne = absurd (cc)

    self : (u : ℕ) → next_of u u ≡ true → loops.header (loops.inner u) ≡ u
    self u e = (let one : u ≡ 1 = only u e in ap (λ (k : ℕ). loops.header (loops.inner k)) one ∙ sym one)
      where
        only : (u : ℕ) → next_of u u ≡ true → u ≡ 1
        only u e = grind (arith, nat_tests)

pub in_order : IsOrder loops next_of within_of 0 (λ b. b)
in_order = record { rises = rises; preceded = preceded; whole = whole }
  where
    rises : (u v : ℕ) → next_of u v ≡ true → ((d : ℕ) → d ≢ 0 → within_of d u ≡ true → v ≢ loops.header d) → u < v
    rises u v e open_edge = forward u v e (λ p q. (open_edge 1) real_one (ap (within_of 1) p) (q ∙ refl))
      where
        real_one : ◌≡◌ {A = ℕ} 1 0 → ⊥
        real_one h = absurd (cc)

        forward : (u v : ℕ) → next_of u v ≡ true → (u ≡ 1 → v ≡ 1 → ⊥) → u < v
        forward u v e h = grind (arith, nat_tests)

    preceded : (b : ℕ) → nat_lt b 3 ≡ true → b ≢ 0 → (a : ℕ) × (nat_lt a 3 ≡ true) × (next_of a b ≡ true) × (a < b)
    preceded zero i ne = absurd (ne refl)
    preceded (suc zero) i ne = (0, refl, refl, omega arith)
    preceded (suc (suc zero)) i ne = (1, refl, refl, omega arith)
    preceded (suc (suc (suc b))) i ne = absurd (grind (arith, nat_tests))

    whole : (d b : ℕ) → within_of d b ≡ true → within_of 0 b ≡ true
    whole zero b i = i
    whole (suc zero) b i = low b i
      where
        low : (b : ℕ) → nat_eq b 1 ≡ true → nat_lt b 3 ≡ true
        low b i = grind (arith, nat_tests)
    whole (suc (suc d)) b i = absurd (cc)

-- a block is its own node, at each level that holds it
node_is : (c b : ℕ) → within_of c b ≡ true → node_in loops c b ≡ b
node_is zero b i = top_node b
  where
    top_node : (b : ℕ) → (if nat_eq (if nat_eq b 1 then 1 else 0) 0 then b else 1) ≡ b
    top_node b = grind (arith, nat_tests)
node_is (suc zero) b i = loop_node b i
  where
    loop_node : (b : ℕ) → nat_eq b 1 ≡ true → (if nat_eq (if nat_eq b 1 then 1 else 0) 1 then b else 1) ≡ b
    loop_node b i = grind (arith, nat_tests)
node_is (suc (suc c)) b i = absurd (cc)

pub are_ends : AreEnds loops within_of (λ b. b) 4 5 9
are_ends = record {
  no_close = refl;
  no_leave = refl;
  start_close = λ e. absurd (cc);
  start_leave = λ e. absurd (cc);
  bounded = bounded;
  has_header = λ d b real i. (let h = loop_of d b real i in ap (λ (k : ℕ). within_of k (loops.header k)) h.0);
}
  where
    bounded : (b : ℕ) → nat_lt b 3 ≡ true → b + 2 ≤ 9
    bounded b i = grind (arith, nat_tests)

pub edges_of : EdgesOf loops next_of within_of 0 (λ b. nat_eq b 2) nest
edges_of = record { turns = turned; goes = gone; leaves = left; first = refl }
  where
    header_is : (c : ℕ) → loops.header c ≡ (level_of c).header
    header_is zero = refl
    header_is (suc zero) = refl
    header_is (suc (suc c)) = refl

    turned : (c u v : ℕ) → within_of c u ≡ true → within_of c v ≡ true → next_of u v ≡ true → v ≡ loops.header c → (level_of c).edge
        (node_in loops c u) (level_of c).close ≡ true
    turned c u v i j e h = ap (λ (k : ℕ). (level_of c).edge k (level_of c).close) (node_is c u i) ∙ turns c u v i j e (h ∙ header_is c)

    gone : (c u v : ℕ) → within_of c u ≡ true → within_of c v ≡ true → next_of u v ≡ true → v ≢ loops.header c
        → node_in loops c u ≢ node_in loops c v → (level_of c).edge (node_in loops c u) (node_in loops c v) ≡ true
    gone c u v i j e h ne =
        ap (λ (k : ℕ). (level_of c).edge k (node_in loops c v)) (node_is c u i) ∙ ap (λ (k : ℕ). (level_of c).edge u k) (node_is c v j)
        ∙ goes c u v i j e (λ p. h (p ∙ sym (header_is c))) (λ p. ne (node_is c u i ∙ p ∙ sym (node_is c v j)))

    left : (c u : ℕ) → within_of c u ≡ true → (nat_eq u 2 ≡ true) ⊎ ((v : ℕ) × (next_of u v ≡ true) × (within_of c v ≡ false)) →
        (level_of c).edge (node_in loops c u) (level_of c).leave ≡ true
    left c u i out = ap (λ (k : ℕ). (level_of c).edge k (level_of c).leave) (node_is c u i) ∙ leaves c u i out

pub is_round : IsRound flow at_of (λ b d. if nat_eq d 0 then 0 else 1)
is_round = record { own = own; outer = outer_of }
  where
    own : (c b : ℕ) → within_of c b ≡ true → (if nat_eq (at_of c) 0 then 0 else 1) ≡ c
    own zero b i = refl
    own (suc zero) b i = refl
    own (suc (suc c)) b i = absurd (cc)

    low : (u : ℕ) → nat_eq u 1 ≡ true → nat_lt u 3 ≡ true
    low u i = grind (arith, nat_tests)

    outer_of : (c u v d : ℕ) → within_of c u ≡ true → within_of c v ≡ true → d ≤ at_of c → within_of (if nat_eq d 0 then 0 else 1) u ≡ true
    outer_of zero u v d i j le = (let e : d ≡ 0 = omega arith in ap (λ (k : ℕ). within_of (if nat_eq k 0 then 0 else 1) u) e ∙ i)
    outer_of (suc zero) u v d i j le = by_test (nat_eq d 0)
      where
        by_test : (t : Bool) → within_of (if t then 0 else 1) u ≡ true
        by_test true = low u i
        by_test false = i
    outer_of (suc (suc c)) u v d i j le = absurd (cc)

-- the four edges of the function, and the two of the loop
which_edge : (p q : ℕ) → top_edge p q ≡ true → ((p ≡ 3) × (q ≡ 0)) ⊎ (((p ≡ 0) × (q ≡ 1)) ⊎ (((p ≡ 1) × (q ≡ 2)) ⊎ ((p ≡ 2) × (q ≡ 5))))
which_edge p q e = grind (arith, nat_tests)

real_edge : (c p q : ℕ) → (level_of c).edge p q ≡ true → IsLevelEdge loops next_of within_of 0 4 5 c p q
real_edge zero p q e = by_edge (which_edge p q e)
  where
    by_edge : ((p ≡ 3) × (q ≡ 0)) ⊎ (((p ≡ 0) × (q ≡ 1)) ⊎ (((p ≡ 1) × (q ≡ 2)) ⊎ ((p ≡ 2) × (q ≡ 5))))
        → IsLevelEdge loops next_of within_of 0 4 5 zero p q
    by_edge (inl h) = inr (inr (refl, h.0, sym h.1))
    by_edge (inr (inl h)) = inl (record {
      u = 0;
      v = 1;
      in_u = refl;
      in_v = refl;
      edge = refl;
      no_turn = λ e. absurd
          (cc);
      apart = λ e. absurd (cc);
      from = sym h.0;
      to = sym h.1;
    })
    by_edge (inr (inr (inl h))) = inl (record {
      u = 1;
      v = 2;
      in_u = refl;
      in_v = refl;
      edge = refl;
      no_turn = λ e. absurd
          (cc);
      apart = λ e. absurd (cc);
      from = sym h.0;
      to = sym h.1;
    })
    by_edge (inr (inr (inr h))) = inr (inl (2, refl, sym h.0, inr h.1))
real_edge (suc zero) p q e = by_edge (which p q e)
  where
    which : (p q : ℕ) → loop_edge p q ≡ true → (p ≡ 1) × ((q ≡ 4) ⊎ (q ≡ 5))
    which p q e = grind (arith, nat_tests)

    by_edge : (p ≡ 1) × ((q ≡ 4) ⊎ (q ≡ 5)) → IsLevelEdge loops next_of within_of 0 4 5 (suc zero) p q
    by_edge h = inr (inl (1, refl, sym h.0, h.1))
real_edge (suc (suc c)) p q e = absurd (cc)

any_three : (u : ℕ) → IsIn u (0 ∷ 1 ∷ 2 ∷ []) → Reaches top_edge 3 u × Reaches top_edge u 5
any_three u (inl e) = subst (λ (k : ℕ). Reaches top_edge 3 k × Reaches top_edge k 5) (sym e)
    (([], refl), (1 ∷ 2 ∷ [], (refl, (refl, refl))))
any_three u (inr (inl e)) = subst (λ (k : ℕ). Reaches top_edge 3 k × Reaches top_edge k 5) (sym e)
    ((0 ∷ [], (refl, refl)), (2 ∷ [], (refl, refl)))
any_three u (inr (inr (inl e))) = subst (λ (k : ℕ). Reaches top_edge 3 k × Reaches top_edge k 5) (sym e)
    ((0 ∷ 1 ∷ [], (refl, (refl, refl))), ([], refl))
any_three u (inr (inr (inr e))) = absurd e

last_in : (us : List ℕ) (p u : ℕ) → Path top_edge p us u → Path top_edge p us u → IsIn u (0 ∷ 1 ∷ 2 ∷ []) ⊎ (u ≡ 5)
last_in [] p u h g = target p u h
last_in (x ∷ us) p u h g = last_in us x u h.1 g.1

loop_ends : (us : List ℕ) (p u t : ℕ) → Path loop_edge 1 us u → loop_edge u t ≡ true → ⊥
loop_ends [] p u t h e = loop_from u t (loop_target u h) e
loop_ends (x ∷ []) p u t h e = loop_from x u (loop_target x h.0) h.1
loop_ends (x ∷ y ∷ us) p u t h e = loop_from x y (loop_target x h.0) h.1.0

no_edges : (us : List ℕ) (p q : ℕ) → Path (λ p q. false) p us q → ⊥
no_edges [] p q h = absurd (cc)
no_edges (u ∷ us) p q h = (let e = h.0 in absurd (cc))

first_loop : (us : List ℕ) (u t : ℕ) → Path loop_edge u us t → (o : ℕ) × (loop_edge u o ≡ true)
first_loop [] u t h = (t, h)
first_loop (x ∷ us) u t h = (x, h.0)

children : (c v : ℕ) → child_of c v ≡ child_in loops c v
children zero v = by_test (nat_eq v 1) refl
  where
    one : (v : ℕ) → nat_eq v 1 ≡ true → v ≡ 1
    one v e = grind (arith, nat_tests)

    none : nat_eq v 1 ≡ false → child_in loops zero v ≡ None
    none e = ap (λ (k : ℕ). if nat_eq k 0 then None else (if nat_eq 0 0 then (if nat_eq (header_of k) v then Some k else None) else None))
        (ap (λ (t : Bool). if t then (let n : ℕ = 1 in n) else 0) e)

    by_test : (t : Bool) → nat_eq v 1 ≡ t → child_of zero v ≡ child_in loops zero v
    by_test true e = subst (λ (k : ℕ). child_of zero k ≡ child_in loops zero k) (sym (one v e)) refl
    by_test false e = ap (λ (t : Bool). if t then Some 1 else None) e ∙ sym (none e)
children (suc c) v = by_test (nat_eq (loops.inner v) 0)
  where
    less : (c : ℕ) → nat_eq 0 (suc c) ≡ false
    less c = grind (arith, nat_tests)

    by_test : (t : Bool) → ◌≡◌ {A = Option ℕ} None (if t then None else
        (if nat_eq 0 (suc c) then (if nat_eq (header_of (loops.inner v)) v then Some (loops.inner v) else None) else None))
    by_test true = refl
    by_test false = sym (ap (λ (t : Bool). if t then (if nat_eq (header_of (loops.inner v)) v then Some (loops.inner v) else None)
        else None) (less c))

between_of : (c t u : ℕ) → IsEnd (level_of c) t → Reaches (level_of c).edge (level_of c).header u → Reaches (level_of c).edge u t → IsIn u
    ((level_of c).nodes t)
between_of zero t u (inl e) a b = absurd (no_path b.0 u (subst (λ (k : ℕ). Path top_edge u b.0 k) e b.1))
between_of zero t u (inr e) a b = subst (λ (k : ℕ). IsIn u ((level_of zero).nodes k)) (sym e) (among (last_in a.0 3 u a.1 a.1))
  where
    among : IsIn u (0 ∷ 1 ∷ 2 ∷ []) ⊎ (u ≡ 5) → IsIn u (0 ∷ 1 ∷ 2 ∷ [])
    among (inl i) = i
    among (inr f) = absurd (from_five b.0 t (subst (λ (k : ℕ). Path top_edge k b.0 t) f b.1))
between_of (suc zero) t u end a b = (let g = first_loop b.0 u t b.1 in absurd (loop_ends a.0 1 u g.0 a.1 g.1))
between_of (suc (suc c)) t u end a b = absurd (no_edges a.0 1 u a.1)

only_of : (c t u : ℕ) → IsEnd (level_of c) t → IsIn u ((level_of c).nodes t) → Reaches (level_of c).edge (level_of c).header u × Reaches
    (level_of c).edge u t
only_of zero t u (inl e) i = absurd (subst (λ (k : ℕ). IsIn u ((level_of zero).nodes k)) e i)
only_of zero t u (inr e) i = subst (λ (k : ℕ). Reaches top_edge 3 u × Reaches top_edge u k) (sym e)
    (any_three u (subst (λ (k : ℕ). IsIn u ((level_of zero).nodes k)) e i))
only_of (suc zero) t u end i = absurd i
only_of (suc (suc c)) t u end i = absurd i

kept_of : (c t p q : ℕ) → IsEnd (level_of c) t → (level_of c).edge p q ≡ true → (p ≡ (level_of c).header) ⊎ Reaches (level_of c).edge
    (level_of c).header p → (q ≡ t) ⊎ Reaches (level_of c).edge q t → (level_of c).useful t p q ≡ true
kept_of zero t p q (inr end) e a b = subst (λ (k : ℕ). (level_of zero).useful k p q ≡ true) (sym end) e
kept_of zero t p q (inl end) e a (inl b) = absurd (no_path [] p (subst (λ (k : ℕ). top_edge p k ≡ true) (b ∙ end) e))
kept_of zero t p q (inl end) e a (inr b) = absurd (no_path b.0 q (subst (λ (k : ℕ). Path top_edge q b.0 k) end b.1))
kept_of (suc zero) t p q end e a (inl b) = straight p q t e b
  where
    straight : (p q t : ℕ) → loop_edge p q ≡ true → q ≡ t → (if nat_eq p 1 then nat_eq q t else false) ≡ true
    straight p q t e b = grind (arith, nat_tests)
kept_of (suc zero) t p q end e a (inr b) = absurd (two p q (first_loop b.0 q t b.1).0 e (first_loop b.0 q t b.1).1)
  where
    two : (p q o : ℕ) → loop_edge p q ≡ true → loop_edge q o ≡ true → ⊥
    two p q o e f = grind (arith, nat_tests)
kept_of (suc (suc c)) t p q end e a b = absurd (cc)

used_of : (c t p q : ℕ) → IsEnd (level_of c) t → (level_of c).useful t p q ≡ true → (level_of c).edge p q ≡ true
used_of zero t p q (inr end) e = subst (λ (k : ℕ). (level_of zero).useful k p q ≡ true) end e
used_of zero t p q (inl end) e = (let f : (level_of zero).useful 4 p q ≡ true = subst (λ (k : ℕ). (level_of zero).useful k p q ≡ true) end e
    in absurd (cc))
used_of (suc zero) t p q end e = straight t p q end e
  where
    straight : (t p q : ℕ) → (t ≡ 4) ⊎ (t ≡ 5) → (if nat_eq p 1 then nat_eq q t else false) ≡ true → loop_edge p q ≡ true
    straight t p q end e = grind (arith, nat_tests)
used_of (suc (suc c)) t p q end e = absurd (cc)

pub are_levels : AreLevels loops next_of within_of 0 at_of 4 5 nest
are_levels = record {
  headers = headers;
  closes = closes;
  leaves = left;
  children = children;
  real = real_edge;
  between = between_of;
  only = only_of;
  kept = kept_of;
  used = used_of;
  block_uses = λ b i. omega arith;
  header_uses = λ c. omega arith;
}
  where
    headers : (c : ℕ) → (level_of c).header ≡ header_of c
    headers zero = refl
    headers (suc zero) = refl
    headers (suc (suc c)) = refl

    closes : (c : ℕ) → (level_of c).close ≡ 4
    closes zero = refl
    closes (suc zero) = refl
    closes (suc (suc c)) = refl

    left : (c : ℕ) → (level_of c).leave ≡ 5
    left zero = refl
    left (suc zero) = refl
    left (suc (suc c)) = refl
