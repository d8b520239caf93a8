-- The rows that the code makes are those of the level.
use Rattle.std.proofs.Common.{◌≡◌, ℕ, ◌+◌, ◌<◌, true, List, nat_eq, sym, ap, subst, ◌∙◌}
use Rattle.graph_search.specs.Flows.{Flow}
use Rattle.graph_search.specs.NodeLists.{holds}
use Rattle.interval_loops.specs.Nests.{around_of, header_of}
use Rattle.interval_loops.specs.Rounds.{within_by}
use Rattle.node_elimination.specs.GivenLevels.{edges_of}
use Rattle.flow_tree.specs.FlowTables.{header_by}
use Rattle.flow_tree.specs.declared.tables.LevelRows.{LevelRows}
use Rattle.flow_tree.specs.declared.tables.PathRows.{PathRows}
use Rattle.level_tables.specs.declared.places.LevelPlaces.{LevelPlaces}
use Rattle.level_tables.specs.LevelPlaces.{edges_of_places}
use Rattle.level_tables.specs.LevelRows.{AreEdgesIn, ArePaths, IsLevelIn}
use Rattle.level_tables.proofs.LevelEdgeLemmas.{are_edges}
use Rattle.level_tables.proofs.PlaceLemmas.{same_header}

pub is_level : (s : LevelPlaces) (flow : Flow) (blocks : List ℕ) → s.count ≡ flow.count → s.close ≡ flow.count + 1
    → s.leave ≡ flow.count + 2 → ((u : ℕ) → holds nat_eq u blocks ≡ within_by flow (around_of s.nest.now) s.level u)
    → ((u : ℕ) → holds nat_eq u blocks ≡ true → u < flow.count) → (es : List (ℕ × ℕ)) → es ≡ edges_of_places s flow blocks
    → (r : LevelRows) → ArePaths (edges_of es) (header_by s.count s.nest.now s.level) s.close r.turns
    → ArePaths (edges_of es) (header_by s.count s.nest.now s.level) s.leave r.leaves → IsLevelIn flow s.nest.now s.level r
is_level s flow blocks count close leave members below es is r turning leaving =
    record {
      list = es;
      are = subst (AreEdgesIn flow s.nest.now s.level) (sym is) (are_edges s flow blocks count close leave members below);
      turning = moved s.close (flow.count + 1) close r.turns turning;
      leaving = moved s.leave (flow.count + 2) leave r.leaves leaving;
    }
  where
    head : header_by s.count s.nest.now s.level ≡ header_of flow s.nest.now s.level
    head = ap (λ k. header_by k s.nest.now s.level) count ∙ same_header flow s.nest.now s.level

    moved : (a b : ℕ) → a ≡ b → (p : PathRows) → ArePaths (edges_of es) (header_by s.count s.nest.now s.level) a p
        → ArePaths (edges_of es) (header_of flow s.nest.now s.level) b p
    moved a b e p h =
        subst (λ x. ArePaths (edges_of es) (header_of flow s.nest.now s.level) x p) e
        (subst (λ x. ArePaths (edges_of es) x a p) head h)
