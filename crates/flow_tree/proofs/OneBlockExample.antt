-- The premises on tables and levels hold for a function of one block: tables that describe a nest are there.
use Rattle.std.proofs.Common.{◌≡◌, ℕ, zero, suc, ◌<◌, ◌^◌, ◌⊎◌, inl, inr, Bool, true, false, if◌then◌else◌, nat_eq, List, [], ◌∷◌, refl}
use Rattle.std.proofs.Common.{sym, ap, subst, arith}
use Rattle.std.specs.Prelude.{◌&&◌, ◌||◌, Option, Some, None, slice_get}
use Rattle.std.proofs.lemmas.Bool.Decides.{nat_tests}
use Rattle.wsym_terms.specs.declared.trees.BlockUses.{BlockUses}
use Rattle.interval_loops.specs.declared.nest.LoopNest.{LoopNest}
use Rattle.tree_law.specs.Ways.{IsIn}
use Rattle.wsym_terms.specs.declared.trees.Tree.{Tree}
use Rattle.tree_law.specs.Levels.{IsEnd, Level, Nest, node_tree}
use Rattle.node_elimination.proofs.CellChangeLemmas.{same_number}
use Rattle.elimination_plans.specs.Weights.{Only}
use Rattle.node_elimination.specs.GivenLevels.{edges_of}
use Rattle.node_elimination.specs.LevelStates.{IsTask}
use Rattle.flow_tree.specs.FlowTables.{AreRows, AreTables, AreTasks, child_by, header_by}
use Rattle.flow_tree.specs.LevelTasks.{task_of}
use Rattle.flow_tree.specs.declared.tables.LevelRows.{LevelRows}

-- block 0; the start 1, the turn 2, the leaving 3
abbrev rows : List (ℕ × ℕ)
rows = (1, 0) ∷ (0, 3) ∷ []

abbrev pub nest : LoopNest
nest = record { loops = []; innermost = 0 ∷ []; around = [] ∷ [] }

abbrev whole : LevelRows
whole = record { turns = record { nodes = []; edges = [] }; leaves = record { nodes = 0 ∷ []; edges = rows } }

abbrev pub levels : List LevelRows
levels = whole ∷ []

abbrev block : BlockUses
block = record { base = 1; uses = [] }

abbrev pub blocks : List BlockUses
blocks = block ∷ []

abbrev level_of : ℕ → Level
level_of zero = record {
  edge = edges_of rows;
  useful = λ t. if nat_eq t 3 then edges_of rows else (λ p q. false);
  nodes = λ t. if nat_eq t 3 then 0 ∷ [] else [];
  header = 1;
  close = 2;
  leave = 3;
}
level_of (suc c) = record { edge = λ p q. false; useful = λ t p q. false; nodes = λ t. []; header = 1; close = 2; leave = 3 }

abbrev pub one_block : Nest
one_block = record { level = level_of; child = child_by 1 nest; base = λ b. 1; uses = λ b. [] }

same_header : (c : ℕ) → (level_of c).header ≡ header_by 1 nest c
same_header zero = refl
same_header (suc c) = refl

same_close : (c : ℕ) → (level_of c).close ≡ 2
same_close zero = refl
same_close (suc c) = refl

same_leave : (c : ℕ) → (level_of c).leave ≡ 3
same_leave zero = refl
same_leave (suc c) = refl

some_row : (a b : LevelRows) → ◌≡◌ {A = Option LevelRows} (Some a) (Some b) → a ≡ b
some_row a b e = ap unwrapped e
  where
    unwrapped : Option LevelRows → LevelRows
    unwrapped None = a
    unwrapped (Some x) = x

turning : (c : ℕ) (l : LevelRows) → slice_get levels c ≡ Some l → AreRows (level_of c) 2 l.turns
turning zero l e = subst (λ (x : LevelRows). AreRows (level_of 0) 2 x.turns) (some_row whole l e)
    (record { nodes = refl; edges = λ p q. refl })
turning (suc c) l e = absurd (cc)

leaving : (c : ℕ) (l : LevelRows) → slice_get levels c ≡ Some l → AreRows (level_of c) 3 l.leaves
leaving zero l e = subst (λ (x : LevelRows). AreRows (level_of 0) 3 x.leaves) (some_row whole l e)
    (record { nodes = refl; edges = λ p q. refl })
leaving (suc c) l e = absurd (cc)

costs : (b : ℕ) (u : BlockUses) → slice_get blocks b ≡ Some u → (1 ≡ u.base) × ([] ≡ u.uses)
costs zero u e = (ap (λ o. (unwrapped o).base) e, ap (λ o. (unwrapped o).uses) e)
  where
    unwrapped : Option BlockUses → BlockUses
    unwrapped None = block
    unwrapped (Some x) = x
costs (suc b) u e = absurd (cc)

inside : (c t v : ℕ) → IsEnd (level_of c) t → IsIn v ((level_of c).nodes t) → v < 1
inside (suc c) t v e i = absurd i
inside zero t v (inl e) i = absurd (subst (λ x. IsIn v (if nat_eq x 3 then 0 ∷ [] else [])) e i)
inside zero t v (inr e) i = at (subst (λ x. IsIn v (if nat_eq x 3 then 0 ∷ [] else [])) e i)
  where
    at : IsIn v (0 ∷ []) → v < 1
    at (inl f) = omega (arith, f)
    at (inr none) = absurd none

pub are_tables : AreTables 1 2 3 nest levels blocks one_block
are_tables = record {
  headers = same_header;
  closes = same_close;
  leaves = same_leave;
  children = λ c v. refl;
  turning = turning;
  leaving = leaving;
  costs = costs;
  inside = inside;
}

-- ---- each level is a task

abbrev pub rank_of : ℕ → ℕ → ℕ
rank_of c p = if nat_eq p 1 then 0 else (if nat_eq p 0 then 1 else 2)

abbrev pub height_of : ℕ → ℕ
height_of c = 0

module _ (tree : ℕ → Tree) where
  nothing_between : (t : ℕ) → nat_eq t 1 ≡ false → nat_eq 1 t ≡ false → t < 2 ^ 32 → rank_of 0 1 < rank_of 0 t
      → IsTask (record { tree = tree; from = 1; to = t; edge = λ p q. false; nodes = [] }) (rank_of 0)
  nothing_between t a b low up = record {
    only = only;
    inside = λ p q e. absurd (no e);
    rises = λ p q e. absurd (no e);
    start = λ v i. absurd i;
    end = λ v i. absurd i;
    up = up;
    rising = tt;
    kept = λ v i. absurd i;
  }
    where
      no : false ≡ true → ⊥
      no e = cc

      itself : nat_eq t t ≡ true
      itself = grind (arith, nat_tests)

      only : (u : ℕ) → IsIn u (1 ∷ t ∷ []) → Only u (1 ∷ t ∷ []) × (u < 2 ^ 32)
      only u (inl e) = subst (λ x. Only x (1 ∷ t ∷ []) × (x < 2 ^ 32)) (sym e) (inl (refl, (a, tt)), omega arith)
      only u (inr (inl e)) = subst (λ x. Only x (1 ∷ t ∷ []) × (x < 2 ^ 32)) (sym e) (inr (b, inl (itself, tt)), low)
      only u (inr (inr none)) = absurd none

  edge_is : (p q : ℕ) → edges_of rows p q ≡ true → ((p ≡ 1) × (q ≡ 0)) ⊎ ((p ≡ 0) × (q ≡ 3))
  edge_is p q e = by_tests (nat_eq p 1) refl (nat_eq q 0) refl (nat_eq p 0) refl (nat_eq q 3) refl e
    where
      by_tests : (a : Bool) → nat_eq p 1 ≡ a → (b : Bool) → nat_eq q 0 ≡ b → (c : Bool) → nat_eq p 0 ≡ c → (d : Bool) → nat_eq q 3 ≡ d
          → ((a && b) || ((c && d) || false)) ≡ true → ((p ≡ 1) × (q ≡ 0)) ⊎ ((p ≡ 0) × (q ≡ 3))
      by_tests true f true g c h d i e = inl (same_number p 1 f, same_number q 0 g)
      by_tests true f false g true h true i e = inr (same_number p 0 h, same_number q 3 i)
      by_tests true f false g true h false i e = absurd (cc)
      by_tests true f false g false h d i e = absurd (cc)
      by_tests false f b g true h true i e = inr (same_number p 0 h, same_number q 3 i)
      by_tests false f b g true h false i e = absurd (cc)
      by_tests false f b g false h d i e = absurd (cc)

  block_between : IsTask (record { tree = tree; from = 1; to = 3; edge = edges_of rows; nodes = 0 ∷ [] }) (rank_of 0)
  block_between = record {
    only = only;
    inside = λ p q e. within p q (edge_is p q e);
    rises = λ p q e. rise p q (edge_is p q e);
    start = λ v i. subst (λ x. nat_eq 1 x ≡ false) (sym (is_zero v i)) refl;
    end = λ v i. subst (λ x. nat_eq 3 x ≡ false) (sym (is_zero v i)) refl;
    up = omega arith;
    rising = (tt, tt);
    kept = λ v i. subst (λ x. ((p : ℕ) × IsIn p (1 ∷ 3 ∷ 0 ∷ []) × (edges_of rows p x ≡ true))
        × ((q : ℕ) × IsIn q (1 ∷ 3 ∷ 0 ∷ []) × (edges_of rows x q ≡ true))) (sym (is_zero v i))
        ((1, inl refl, refl), (3, inr (inl refl), refl));
  }
    where
      is_zero : (v : ℕ) → IsIn v (0 ∷ []) → v ≡ 0
      is_zero v (inl e) = e
      is_zero v (inr none) = absurd none

      only : (u : ℕ) → IsIn u (1 ∷ 3 ∷ 0 ∷ []) → Only u (1 ∷ 3 ∷ 0 ∷ []) × (u < 2 ^ 32)
      only u (inl e) = subst (λ x. Only x (1 ∷ 3 ∷ 0 ∷ []) × (x < 2 ^ 32)) (sym e) (inl (refl, (refl, (refl, tt))), omega arith)
      only u (inr (inl e)) = subst (λ x. Only x (1 ∷ 3 ∷ 0 ∷ []) × (x < 2 ^ 32)) (sym e) (inr (refl, inl (refl, (refl, tt))), omega arith)
      only u (inr (inr (inl e))) = subst (λ x. Only x (1 ∷ 3 ∷ 0 ∷ []) × (x < 2 ^ 32)) (sym e)
          (inr (refl, inr (refl, inl (refl, tt))), omega arith)
      only u (inr (inr (inr none))) = absurd none

      within : (p q : ℕ) → ((p ≡ 1) × (q ≡ 0)) ⊎ ((p ≡ 0) × (q ≡ 3)) → IsIn p (1 ∷ 3 ∷ 0 ∷ []) × IsIn q (1 ∷ 3 ∷ 0 ∷ [])
      within p q (inl e) = (inl e.0, inr (inr (inl e.1)))
      within p q (inr e) = (inr (inr (inl e.0)), inr (inl e.1))

      rise : (p q : ℕ) → ((p ≡ 1) × (q ≡ 0)) ⊎ ((p ≡ 0) × (q ≡ 3)) → rank_of 0 p < rank_of 0 q
      rise p q (inl e) =
          let a : rank_of 0 p ≡ 0 = ap (rank_of 0) e.0 in
          let b : rank_of 0 q ≡ 1 = ap (rank_of 0) e.1 in
          omega (arith, a, b)
      rise p q (inr e) =
          let a : rank_of 0 p ≡ 1 = ap (rank_of 0) e.0 in
          let b : rank_of 0 q ≡ 2 = ap (rank_of 0) e.1 in
          omega (arith, a, b)

abbrev is_task : ℕ → ℕ → Type 0
is_task c t = IsTask (task_of one_block height_of c t) (rank_of c)

tasks : (c t : ℕ) → IsEnd (level_of c) t → is_task c t
tasks zero t (inl e) = subst (λ x. is_task 0 x) (sym e) (nothing_between (node_tree one_block 1 0) 2 refl refl (omega arith) (omega arith))
tasks zero t (inr e) = subst (λ x. is_task 0 x) (sym e) (block_between (node_tree one_block 1 0))
tasks (suc c) t (inl e) = subst (λ x. is_task (suc c) x) (sym e)
    (nothing_between (node_tree one_block 1 (suc c)) 2 refl refl (omega arith) (omega arith))
tasks (suc c) t (inr e) = subst (λ x. is_task (suc c) x) (sym e)
    (nothing_between (node_tree one_block 1 (suc c)) 3 refl refl (omega arith) (omega arith))

no_child : (c v d : ℕ) → child_by 1 nest c v ≡ Some d → height_of d < height_of c
no_child c zero d e = absurd (cc)
no_child c (suc v) d e = absurd (cc)

pub are_tasks : AreTasks one_block height_of rank_of
are_tasks = record { tasks = tasks; lower = no_child }
