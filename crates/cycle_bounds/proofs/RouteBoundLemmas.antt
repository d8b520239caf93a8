-- A route costs at most the value of the tree.
use Rattle.std.proofs.Common.{◌≡◌, ℕ, suc, ◌<◌, ◌≤◌, Bool, true, List, [], ◌∷◌, map, length, refl, sym, ap, ◌∙◌, subst, arith}
use Rattle.std.specs.List.{AllByRecursion}
use Rattle.elf32_image.specs.Parts.{ImageValue}
use Rattle.fetch_timing.specs.declared.timing.Timing.{Timing}
use Rattle.control_flow.specs.Points.{Point}
use Rattle.control_flow.specs.Routes.Place.{At}
use Rattle.wsym_terms.specs.Extents.{Extent, IsWithin}
use Rattle.wsym_terms.specs.Trees.{tree_value}
use Rattle.control_flow.specs.Points.{entry_point}
use Rattle.control_flow.specs.Routes.{IsRoute, Taken, Way, place_of}
use Rattle.path_facts.specs.Routes.{route_cycles}
use Rattle.control_flow.specs.Ways.{ways_from}
use Rattle.basic_blocks.specs.Chains.{mapped}
use Rattle.basic_blocks.proofs.VisitLemmas.{route_visits}
use Rattle.tree_law.specs.Levels.{Nest, function_tree, scopes_of}
use Rattle.interval_loops.specs.Loops.{AreEnds, AreLoops, IsOrder, IsRound, LoopFlow, Loops, flow_with}
use Rattle.interval_loops.specs.Trails.{IsWalk, Ran, all_visits, first_visit, visits_after}
use Rattle.tree_law.specs.LevelEdges.{AreLevels, EdgesOf, level_rank}
use Rattle.tree_law.specs.Pieces.{AtMostOnce, total}
use Rattle.tree_law.specs.Trails.{Paid}
use Rattle.tree_law.proofs.NestLemmas.{function_bound}
use Rattle.tree_law.proofs.NodeLemmas.{levels_nest, loops_cut}
use Rattle.tree_law.proofs.StampLemmas.{walk_is_trail}
use Rattle.tree_law.proofs.TrailLemmas.{steady, trail_runs}
use Rattle.persistence.proofs.OnceLemmas.{at_most_once}
use Rattle.cycle_bounds.specs.Analyses.{Analysis, all_uses, flow_of, reversed_of}
use Rattle.cycle_bounds.specs.Functions.{cost_at, line_at, most_at}
use Rattle.cycle_bounds.specs.Turns.{CountsWithin}
use Rattle.cycle_bounds.specs.Functions.{IsAnalysisOf, TurnsWithin, value_of}
use Rattle.cycle_bounds.specs.Visits.{ArePassed, IsPassed, Passed, all_taken, named, numbers_of, ran_of, rans}
use Rattle.cycle_bounds.proofs.WayCostLemmas.{route_costs}
use Rattle.cycle_bounds.proofs.UseLemmas.{are_uses}
use Rattle.cycle_bounds.proofs.VisitCostLemmas.{all_cheap, route_is_cycles}
use Rattle.cycle_bounds.proofs.TurnCountLemmas.{all_paid}
use Rattle.cycle_bounds.proofs.VisitNumberLemmas.{numbered}
use Rattle.cycle_bounds.proofs.WalkLemmas.{all_lined, all_listed, along, blocks_of, each_passed, rans_spend, run as run_of, sum_spent}
use Rattle.cycle_bounds.proofs.WalkLemmas.{visits_spend, walk}

begins : (f : LoopFlow) (b : ℕ) (xs : List Ran) → IsWalk f b xs → f.within 0 b ≡ true
begins f b [] w = w.0
begins f b (x ∷ xs) w = w.0

-- the law on walks, as a lemma
walk_bound : (miss : ℕ) (bounds : ℕ → Extent) (l : Loops) (next within : ℕ → ℕ → Bool) (ends : ℕ → Bool) (entry close leave top : ℕ)
    (at height rank : ℕ → ℕ) (round : ℕ → ℕ → ℕ) (n : Nest)
    → AreLoops l next within entry at height → IsOrder l next within entry rank → AreEnds l within rank close leave top
    → AreLevels l next within entry at close leave n → EdgesOf l next within entry ends n
    → IsRound (flow_with l next within ends entry) at round → (x : Ran) (xs : List Ran) → x.block ≡ entry
    → IsWalk (flow_with l next within ends entry) x.block xs
    → AllByRecursion (Paid miss bounds n (flow_with l next within ends entry) at)
    (all_visits (flow_with l next within ends entry) round x xs)
    → AtMostOnce (scopes_of n) (all_visits (flow_with l next within ends entry) round x xs ∷ [])
    → IsWithin (total (all_visits (flow_with l next within ends entry) round x xs ∷ []))
    (tree_value miss bounds (function_tree n (suc (height 0))) 1)
walk_bound miss bounds l next within ends entry close leave top at height rank round n are order apart levels edges is x xs first walk paid
    once =
    let f = flow_with l next within ends entry in
    let i : within 0 entry ≡ true = ap (within 0) (sym first) ∙ begins f x.block xs walk in
    let nest = levels_nest l next within entry at height are rank order close leave top apart n levels i in
    let cut = loops_cut l next within entry at height are n ends levels.headers i edges levels.children in
    let trail = walk_is_trail miss bounds n f at round is x xs first walk paid in
    let w = visits_after f round 1 (first_visit x) xs in
    let h0 : height 0 ≤ height 0 = omega arith in
    function_bound miss bounds n at (λ c. level_rank l rank close leave top) nest (suc (height 0)) (first_visit x ∷ w)
    (trail_runs miss bounds n f at height cut (height 0) (first_visit x) w h0 trail) once
    (0, (let s = steady miss bounds n f at height 0 0 0 (omega arith) w (first_visit x) refl trail.stays in omega (arith, s)))

same_points : (point : ℕ → Point) (xs : List (Taken ℕ)) (route : List (Taken Point)) → map (named point) xs ≡ route
    → map point (numbers_of xs) ≡ map (λ (x : Taken Point). x.point) route
same_points point [] [] e = refl
same_points point [] (x ∷ route) e = absurd (cc)
same_points point (y ∷ xs) [] e = absurd (cc)
same_points point (y ∷ xs) (x ∷ route) e =
    conses (point y.point) x.point (map point (numbers_of xs)) (map (λ (x : Taken Point). x.point) route)
    (ap (λ (z : Taken Point). z.point) (heads (named point y) x (map (named point) xs) (route) e))
    (same_points point xs route (tails (named point y) x (map (named point) xs) (route) e))
  where
    heads : (x y : Taken Point) (xs ys : List (Taken Point)) → x ∷ xs ≡ y ∷ ys → x ≡ y
    heads x y xs ys e = cc

    tails : (x y : Taken Point) (xs ys : List (Taken Point)) → x ∷ xs ≡ y ∷ ys → xs ≡ ys
    tails x y xs ys e = cc

    conses : (x y : Point) (xs ys : List Point) → x ≡ y → xs ≡ ys → x ∷ xs ≡ y ∷ ys
    conses x y xs ys e f = cc

module _ (image : ImageValue) (t : Timing) (entry : ℕ) (a : Analysis) (is : IsAnalysisOf image t entry a) (some : 0 < t.sets)
    (sets : List (List ℕ)) (all_sets : length sets ≡ t.sets) where
  abbrev ways : Point → List (Way Point)
  ways = ways_from image entry

  abbrev most : Point → ℕ
  most = most_at image t

  abbrev cost : Point → Bool → ℕ
  cost = cost_at image t

  -- a use of visits by numbers misses once in an entry of its scope
  misses_once : (x : Passed) (xs : List Passed) → ArePassed ways a x xs
      → AtMostOnce (scopes_of a.nest)
      (all_visits (flow_of a) a.round (ran_of cost t sets a [] x) (rans cost t sets a (x.block ∷ []) xs) ∷ [])
  misses_once x xs passed =
      at_most_once t sets a.code (flow_of a) a.at a.round (reversed_of a) (λ d p. a.within d (a.block_of p)) (all_uses a) some all_sets
      is.are_round (are_uses ways (entry_point entry) (line_at t) most t a is)
      (ran_of cost t sets a [] x) (rans cost t sets a (x.block ∷ []) xs)
      (run_of ways (entry_point entry) (line_at t) most cost t sets a is x xs [] passed tt)

  -- visits by numbers cost at most the tree
  visits_bound : (any : 0 < t.ways) (bounds : ℕ → Extent) (x : Passed) (xs : List Passed) (route : List (Taken Point))
      → a.point x.chain.first ≡ entry_point entry → map (named a.point) (all_taken (x ∷ xs)) ≡ route → IsRoute (ways_from image entry) route
      → TurnsWithin bounds a route → ArePassed ways a x xs → IsWithin (route_cycles image t sets route) (value_of t bounds a)
  visits_bound any bounds x xs route first taken is_route turns passed =
      let each = each_passed ways a x xs passed in
      let cheap = all_cheap image t sets a route (all_taken (x ∷ xs)) taken (route_costs image t entry route is_route) in
      let lined = all_lined ways (entry_point entry) (line_at t) most cost t sets a is (x ∷ xs) each in
      let counts : CountsWithin bounds a [] (blocks_of (x ∷ xs)) = turns (blocks_of (x ∷ xs)) (all_listed a (x ∷ xs) each)
      (ap (map a.point) (along a (x ∷ xs) each) ∙ same_points a.point (all_taken (x ∷ xs)) route taken) in
      let r = ran_of cost t sets a [] x in
      let rs = rans cost t sets a (x.block ∷ []) xs in
      let round = is.are_round in
      let go = walk ways (entry_point entry) (line_at t) most cost t sets a is x xs (x.block ∷ []) passed in
      let paid = all_paid ways (entry_point entry) (line_at t) most cost t sets a is some any all_sets bounds x xs each cheap counts in
      let once = misses_once x xs passed in
      let bound = walk_bound t.miss bounds a.loops a.next a.within a.ends a.entry a.close a.leave a.top a.at a.height a.rank a.round a.nest
      is.are_loops is.order is.apart is.levels is.edges round r rs
      (is.numbers.first x.block x.chain each.0.0 first) go paid once in
      subst (λ (c : ℕ). IsWithin c (value_of t bounds a)) (sym (spent x xs route each taken lined)) bound
    where
      sums : (x : Passed) (xs : List Passed)
          → sum_spent (rans cost t sets a [] (x ∷ xs)) ≡ total
          (all_visits (flow_of a) a.round (ran_of cost t sets a [] x) (rans cost t sets a (x.block ∷ []) xs) ∷ [])
      sums x xs =
          let s = visits_spend (flow_of a) a.round 1 (first_visit (ran_of cost t sets a [] x)) (rans cost t sets a (x.block ∷ []) xs) in
          omega (arith, s)

      spent : (x : Passed) (xs : List Passed) (route : List (Taken Point)) → AllByRecursion (IsPassed a) (x ∷ xs)
          → map (named a.point) (all_taken (x ∷ xs)) ≡ route
          → AllByRecursion (λ y. a.code.line y.point ≡ line_at t (a.point y.point)) (all_taken (x ∷ xs))
          → route_cycles image t sets route ≡ total
          (all_visits (flow_of a) a.round (ran_of cost t sets a [] x) (rans cost t sets a (x.block ∷ []) xs) ∷ [])
      spent x xs route each taken lined =
          route_is_cycles image t sets a route (all_taken (x ∷ xs)) [] taken lined
          ∙ rans_spend ways (entry_point entry) (line_at t) most cost t sets a is (x ∷ xs) [] each
          ∙ sums x xs

  pub route_misses : (route : List (Taken Point)) → place_of route ≡ At (entry_point entry) → IsRoute (ways_from image entry) route
      → (x : Passed) × (xs : List Passed) × ArePassed ways a x xs × (map (named a.point) (all_taken (x ∷ xs)) ≡ route)
      × AtMostOnce (scopes_of a.nest)
      (all_visits (flow_of a) a.round (ran_of cost t sets a [] x) (rans cost t sets a (x.block ∷ []) xs) ∷ [])
  route_misses route starts is_route =
      let vs = route_visits ways (entry_point entry) (map (mapped a.point) a.blocks) is.numbers.cut (route) (is_route, starts) in
      let n = numbered ways a (entry_point entry) vs.0 vs.1 in
      (n.visit, n.rest, n.passed, n.taken ∙ vs.2, misses_once n.visit n.rest n.passed)

  pub route_bound : 0 < t.ways → (bounds : ℕ → Extent) (route : List (Taken Point)) → place_of route ≡ At (entry_point entry)
      → IsRoute (ways_from image entry) route → TurnsWithin bounds a route
      → IsWithin (route_cycles image t sets route) (value_of t bounds a)
  route_bound any bounds route starts is_route turns =
      let vs = route_visits ways (entry_point entry) (map (mapped a.point) a.blocks) is.numbers.cut (route) (is_route, starts) in
      let n = numbered ways a (entry_point entry) vs.0 vs.1 in
      visits_bound any bounds n.visit n.rest route n.first (n.taken ∙ vs.2) is_route turns n.passed
