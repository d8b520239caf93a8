-- The points of a graph as the merging of path facts takes them.
use Rattle.std.specs.Prelude.{◌≡◌, ℕ, Option, Some, List, ◌∷◌, length, get_or, slice_get}
use Rattle.elf32_image.specs.Parts.{ImageValue}
use Rattle.function_points.specs.Contexts.{AreContexts}
use Rattle.function_points.specs.PointLists.{point_at}
use Rattle.flow_graph.specs.declared.graph.Context.{Context}
use Rattle.flow_graph.specs.declared.graph.FunctionGraph.{FunctionGraph}
use Rattle.flow_graph.specs.Graphs.{rows_of}
use Rattle.flow_graph.specs.Tables.{points_of}
use Rattle.point_tables.specs.declared.targets.Targets.{Targets}
use Rattle.copy_facts.specs.declared.sites.Site.{Site}
use Rattle.copy_facts.specs.Frames.{AreFramePoints, AreFrames, IsSite}
use Rattle.function_frames.specs.declared.frames.Frames.{Frames}

-- the contexts of a graph: the first is the empty one
pub record AreLists (contexts : List Context) : Type 0 where
  pub first : (cs : List Context) × (contexts ≡ record { parent = 0; return_address = 0 } ∷ cs)
  pub rows : (look : ℕ × ℕ → Option ℕ) × AreContexts (rows_of contexts) look

-- the first n points, each with its instruction, its literal, its return address and its targets
pub record AreSitesTo (image : ImageValue) (ls : List (List ℕ)) (ns : List (ℕ × ℕ)) (table : List Targets) (n : ℕ)
    (sites : List Site) : Type 0 where
  pub long : length sites ≡ n
  pub each : (i : ℕ) (site : Site) → slice_get sites i ≡ Some site
      → IsSite image (point_at ls (get_or ns i (0, 0))) site × (slice_get table i ≡ Some site.targets)

-- what all paths say of a function's points, by their numbers in its graph
pub record AreFunctionFrames (image : ImageValue) (stack : ℕ) (f : FunctionGraph) (frames : Frames) : Type 0 where
  pub points : AreFramePoints image f.graph.entry (points_of f) frames.start frames.sites.items
  pub facts : AreFrames stack frames.start frames.sites.items frames.facts.items
