use Rattle.std.proofs.Common.{◌≡◌, ◌≤◌, ℕ, suc, List, [], ◌∷◌, true, refl, sym, ap, ◌∙◌, arith}
use Rattle.interval_loops.specs.Loops.{flow_with, LoopFlow}
use Rattle.tree_law.specs.LevelEdges.{level_rank}
use Rattle.interval_loops.specs.Trails.{Ran, IsWalk, first_visit, visits_after}
use Rattle.tree_law.proofs.NestLemmas.{function_bound}
use Rattle.tree_law.proofs.NodeLemmas.{levels_nest, loops_cut}
use Rattle.tree_law.proofs.StampLemmas.{walk_is_trail}
use Rattle.tree_law.proofs.TrailLemmas.{trail_runs, steady}
use Rattle.tree_law.proofs.walks_cost_at_most_the_tree.Goals as goal

begins : (f : LoopFlow) (b : ℕ) (xs : List Ran) → IsWalk f b xs → f.within 0 b ≡ true
begins f b [] w = w.0
begins f b (x ∷ xs) w = w.0

pub returns : goal.returns
returns c = λ miss bounds l next within ends entry close leave top at height rank round n are order apart levels edges is x xs first walk
    paid once.
    let f = flow_with l next within ends entry in
    let i : within 0 entry ≡ true = ap (within 0) (sym first) ∙ begins f x.block xs walk in
    let nest = levels_nest l next within entry at height are rank order close leave top apart n levels i in
    let cut = loops_cut l next within entry at height are n ends levels.headers i edges levels.children in
    let trail = walk_is_trail miss bounds n f at round is x xs first walk paid in
    let w = visits_after f round 1 (first_visit x) xs in
    let h0 : height 0 ≤ height 0 = omega arith in
    function_bound miss bounds n at (λ c. level_rank l rank close leave top) nest (suc (height 0)) (first_visit x ∷ w)
    (trail_runs miss bounds n f at height cut (height 0) (first_visit x) w h0 trail) once
    (0, (let s = steady miss bounds n f at height 0 0 0 (omega arith) w (first_visit x) refl trail.stays in omega (arith, s)))
