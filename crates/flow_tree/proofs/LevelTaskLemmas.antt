-- Each level, between its header and an end, is a task.
use Rattle.std.proofs.Common.{◌≡◌, ◌≢◌, ℕ, ◌<◌, ◌⊎◌, inl, inr, Bool, true, false, nat_eq, List, [], ◌∷◌, ◌++◌, refl, sym, ap, subst, arith}
use Rattle.std.specs.List.{AllByRecursion}
use Rattle.tree_law.specs.Levels.{Nest, IsEnd}
use Rattle.tree_law.specs.LevelEdges.{AreLevels, Reaches}
use Rattle.interval_loops.specs.Loops.{Loops}
use Rattle.tree_law.specs.Nests.{IsNest}
use Rattle.tree_law.specs.Ways.{IsIn, Path}
use Rattle.elimination_plans.specs.Weights.{Only}
use Rattle.elimination_plans.proofs.LinkedLevelLemmas.{apart}
use Rattle.node_elimination.specs.LevelStates.{IsTask}
use Rattle.flow_tree.specs.LevelTasks.{task_of, AreExact}
use Rattle.node_elimination.proofs.CellChangeLemmas.{self_eq}
use Rattle.node_elimination.proofs.ReachedStageLemmas.{rises_is, only_rising}

-- ---- paths

path_on : (edge : ℕ → ℕ → Bool) (a : ℕ) (us : List ℕ) (b : ℕ) (ws : List ℕ) (c : ℕ) → Path edge a us b → Path edge b ws c
    → Path edge a (us ++ b ∷ ws) c
path_on edge a [] b ws c p q = (p, q)
path_on edge a (u ∷ us) b ws c p q = (p.0, path_on edge u us b ws c p.1 q)

pub go_on : (edge : ℕ → ℕ → Bool) (a b c : ℕ) → Reaches edge a b → Reaches edge b c → Reaches edge a c
go_on edge a b c (us, p) (ws, q) = (us ++ b ∷ ws, path_on edge a us b ws c p q)

pub one_edge : (edge : ℕ → ℕ → Bool) (a b : ℕ) → edge a b ≡ true → Reaches edge a b
one_edge edge a b e = ([], e)

-- the last edge of a path
pub last_edge : (edge : ℕ → ℕ → Bool) (a : ℕ) (us : List ℕ) (b : ℕ) → Path edge a us b → (p : ℕ) × ((p ≡ a) ⊎ Reaches edge a p)
    × (edge p b ≡ true)
last_edge edge a [] b e = (a, inl refl, e)
last_edge edge a (u ∷ us) b e = onward (last_edge edge u us b e.1)
  where
    onward : ((p : ℕ) × ((p ≡ u) ⊎ Reaches edge u p) × (edge p b ≡ true)) → (p : ℕ) × ((p ≡ a) ⊎ Reaches edge a p) × (edge p b ≡ true)
    onward (p, inl same, f) = (p, inr (subst (λ (x : ℕ). Reaches edge a x) (sym same) ([], e.0)), f)
    onward (p, inr r, f) = (p, inr (go_on edge a u p ([], e.0) r), f)

-- and the first
pub first_edge : (edge : ℕ → ℕ → Bool) (a : ℕ) (us : List ℕ) (b : ℕ) → Path edge a us b → (q : ℕ) × (edge a q ≡ true)
    × ((q ≡ b) ⊎ Reaches edge q b)
first_edge edge a [] b e = (b, e, inl refl)
first_edge edge a (u ∷ us) b e = (u, e.0, inr (us, e.1))

-- ---- lists

all_apart : (v : ℕ) (xs : List ℕ) → AllByRecursion (λ w. v ≢ w) xs → AllByRecursion (λ w. nat_eq w v ≡ false) xs
all_apart v [] all = tt
all_apart v (x ∷ xs) all = (apart x v (λ e. all.0 (sym e)), all_apart v xs all.1)

at_in : (P : ℕ → Type 0) (xs : List ℕ) → AllByRecursion P xs → (v : ℕ) → IsIn v xs → P v
at_in P [] all v i = absurd i
at_in P (x ∷ xs) all v (inl e) = subst P (sym e) all.0
at_in P (x ∷ xs) all v (inr i) = at_in P xs all.1 v i

pub level_task : (l : Loops) (next within : ℕ → ℕ → Bool) (entry : ℕ) (at height : ℕ → ℕ) (close leave : ℕ) (n : Nest) (rank : ℕ → ℕ → ℕ)
    → AreLevels l next within entry at close leave n → AreExact n → IsNest n at rank
    → (c t : ℕ) → IsEnd (n.level c) t → rank c (n.level c).header < rank c t → IsTask (task_of n height c t) (rank c)
level_task l next within entry at height close leave n rank levels exact nest c t end up =
    record {
      only = λ u i. (only_all u i, exact.low c t u end i);
      inside = inside;
      rises = λ p q e. nest.up c t p q end e;
      start = λ v i. apart s v (at_in (λ w. s ≢ w) nodes (nest.start_apart c t end) v i);
      end = λ v i. apart t v (at_in (λ w. t ≢ w) nodes (nest.end_apart c t end) v i);
      up = up;
      rising = exact.ascending c t end;
      kept = λ v i. (before v i, onward v i);
    }
  where
    s : ℕ
    s = (n.level c).header

    nodes : List ℕ
    nodes = (n.level c).nodes t

    edge : ℕ → ℕ → Bool
    edge = (n.level c).edge

    all : List ℕ
    all = (n.level c).header ∷ t ∷ (n.level c).nodes t

    ends_apart : s ≢ t
    ends_apart e = (let a : rank c s ≡ rank c t = ap (rank c) e in omega (arith, a, up))

    only_all : (u : ℕ) → IsIn u all → Only u all
    only_all u (inl e) =
        subst (λ (x : ℕ). Only x all) (sym e)
        (inl (self_eq s, (apart t s (λ f. ends_apart (sym f)), all_apart s nodes (nest.start_apart c t end))))
    only_all u (inr (inl e)) =
        subst (λ (x : ℕ). Only x all) (sym e)
        (inr (apart s t ends_apart, inl (self_eq t, all_apart t nodes (nest.end_apart c t end))))
    only_all u (inr (inr i)) =
        inr (
          apart s u (at_in (λ w. s ≢ w) nodes (nest.start_apart c t end) u i),
          inr (
            apart t u (at_in (λ w. t ≢ w) nodes (nest.end_apart c t end) u i),
            only_rising nodes u
                (rises_is nodes (exact.ascending c t end)) i,
          ),
        )

    -- a node on a path to the end is one of the nodes
    to_end : (p q : ℕ) → edge p q ≡ true → (q ≡ t) ⊎ Reaches edge q t → Reaches edge p t
    to_end p q e (inl same) = subst (λ (x : ℕ). Reaches edge p x) same (one_edge edge p q e)
    to_end p q e (inr r) = go_on edge p q t (one_edge edge p q e) r

    from_start : (p q : ℕ) → (p ≡ s) ⊎ Reaches edge s p → edge p q ≡ true → Reaches edge s q
    from_start p q (inl same) e = subst (λ (x : ℕ). Reaches edge x q) same (one_edge edge p q e)
    from_start p q (inr r) e = go_on edge s p q r (one_edge edge p q e)

    first_in : (p : ℕ) → (p ≡ s) ⊎ Reaches edge s p → Reaches edge p t → IsIn p all
    first_in p (inl e) r = inl e
    first_in p (inr a) r = inr (inr (levels.between c t p end a r))

    last_in : (q : ℕ) → (q ≡ t) ⊎ Reaches edge q t → Reaches edge s q → IsIn q all
    last_in q (inl e) r = inr (inl e)
    last_in q (inr a) r = inr (inr (levels.between c t q end r a))

    inside : (p q : ℕ) → (n.level c).useful t p q ≡ true → IsIn p all × IsIn q all
    inside p q e =
        let on = exact.on_path c t p q end e in
        let f = levels.used c t p q end e in
        (first_in p on.0 (to_end p q f on.1), last_in q on.1 (from_start p q on.0 f))

    before : (v : ℕ) → IsIn v nodes → (p : ℕ) × IsIn p all × ((n.level c).useful t p v ≡ true)
    before v i =
        let both = levels.only c t v end i in
        let last = last_edge edge s both.0.0 v both.0.1 in (
          last.0,
          first_in last.0 last.1 (go_on edge last.0 v t (one_edge edge last.0 v last.2) both.1),
          levels.kept c t last.0 v end last.2
              last.1 (inr both.1),
        )

    onward : (v : ℕ) → IsIn v nodes → (q : ℕ) × IsIn q all × ((n.level c).useful t v q ≡ true)
    onward v i =
        let both = levels.only c t v end i in
        let first = first_edge edge v both.1.0 t both.1.1 in (
          first.0,
          last_in first.0 first.2 (go_on edge s v first.0 both.0 (one_edge edge v first.0 first.1)),
          levels.kept c t v first.0 end
              first.1 (inr both.0) first.2,
        )
