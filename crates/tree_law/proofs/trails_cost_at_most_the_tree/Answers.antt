use Rattle.std.proofs.Common.{suc, ◌∷◌, refl, arith}
use Rattle.tree_law.proofs.NestLemmas.{function_bound}
use Rattle.tree_law.proofs.TrailLemmas.{trail_runs, steady}
use Rattle.tree_law.proofs.trails_cost_at_most_the_tree.Goals as goal

pub returns : goal.returns
returns c = λ miss bounds n f at height rank nest cut k v w tall trail once.
    function_bound miss bounds n at rank nest (suc k) (v ∷ w) (trail_runs miss bounds n f at height cut k v w tall trail) once
    (v.entry 0, (let s = steady miss bounds n f at height 0 0 (v.entry 0) (omega arith) w v refl trail.stays in omega (arith, s)))
