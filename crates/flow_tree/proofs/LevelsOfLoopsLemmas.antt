-- The levels of loops are tasks, and loops lie lower than those round them.
use Rattle.std.proofs.Common.{◌≡◌, ℕ, ◌+◌, ◌<◌, ◌⊎◌, inl, inr, Bool, true, sym, ap, subst, ◌∙◌, arith}
use Rattle.std.specs.Prelude.{Some}
use Rattle.interval_loops.specs.Loops.{AreEnds, AreLoops, IsOrder, Loops}
use Rattle.tree_law.specs.LevelEdges.{AreLevels, level_rank}
use Rattle.tree_law.specs.Levels.{IsEnd, Nest}
use Rattle.tree_law.proofs.NodeLemmas.{child_gives, levels_nest, rank_of_block, rank_of_end, rank_of_start}
use Rattle.flow_tree.specs.FlowTables.{AreTasks}
use Rattle.flow_tree.specs.LevelTasks.{AreExact}
use Rattle.flow_tree.proofs.LevelTaskLemmas.{level_task}

module _ (l : Loops) (next within : ℕ → ℕ → Bool) (entry : ℕ) (at height : ℕ → ℕ) (are : AreLoops l next within entry at height)
    (rank : ℕ → ℕ)
    (order : IsOrder l next within entry rank) (close leave top : ℕ) (ends : AreEnds l within rank close leave top) (n : Nest)
    (levels : AreLevels l next within entry at close leave n) (exact : AreExact n) (begins : within 0 entry ≡ true)
    (headers : (c : ℕ) → (l.header c ≡ l.header 0) ⊎ (within 0 (l.header c) ≡ true)) where
  abbrev level_of : ℕ → ℕ
  level_of = level_rank l rank close leave top

  header_low : (c : ℕ) → level_of (l.header c) < top
  header_low c = either (headers c)
    where
      either : (l.header c ≡ l.header 0) ⊎ (within 0 (l.header c) ≡ true) → level_of (l.header c) < top
      either (inl e) =
          let z : level_of (l.header c) ≡ 0 = ap level_of e ∙ rank_of_start l next within entry at height are rank order close leave top
          ends in
          let b = ends.bounded entry begins in
          omega (arith, z, b)
      either (inr i) =
          let r : level_of (l.header c) ≡ rank (l.header c) + 1 = rank_of_block l next within entry at height are rank order close leave top
          ends (l.header c) i in
          let b = ends.bounded (l.header c) i in
          omega (arith, r, b)

  up : (c t : ℕ) → IsEnd (n.level c) t → level_of (n.level c).header < level_of t
  up c t e =
      let h = header_low c in
      let a : level_of (n.level c).header ≡ level_of (l.header c) = ap level_of (levels.headers c) in
      let b : level_of t ≡ top = rank_of_end l next within entry at height are rank order close leave top ends t (end e) in
      omega (arith, h, a, b)
    where
      end : IsEnd (n.level c) t → (t ≡ close) ⊎ (t ≡ leave)
      end (inl f) = inl (f ∙ levels.closes c)
      end (inr f) = inr (f ∙ levels.leaves c)

  lower : (c v d : ℕ) → n.child c v ≡ Some d → height d < height c
  lower c v d e =
      let k = child_gives l next within entry at height are c v d (sym (levels.children c v) ∙ e) in
      subst (λ x. height d < height x) k.parent (are.lower d k.real)

  pub levels_tasks : AreTasks n height (λ c. level_rank l rank close leave top)
  levels_tasks =
      record {
        tasks = λ c t e. level_task l next within entry at height close leave n (λ c. level_rank l rank close leave top) levels exact
            (levels_nest l next within entry at height are rank order close leave top ends n levels begins) c t e (up c t e);
        lower = lower;
      }
