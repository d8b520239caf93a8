-- What points spend, by the lines that they find, is at most what their block costs with the misses of its uses.
use Rattle.std.proofs.Common.{◌≡◌, ℕ, ◌+◌, ◌*◌, ◌<◌, ◌≤◌, Bool, true, false, if◌then◌else◌, None, List, [], ◌∷◌, ◌++◌, map, length, refl}
use Rattle.std.proofs.Common.{sym, ap, ◌∙◌, subst, arith}
use Rattle.std.specs.Prelude.{is_some}
use Rattle.std.specs.List.{AllByRecursion}
use Rattle.std.proofs.Math.Nat.{mul-add}
use Rattle.std.proofs.lemmas.Nat.{mul-le}
use Rattle.elf32_image.specs.Parts.{ImageValue}
use Rattle.fetch_timing.specs.declared.timing.Timing.{Timing}
use Rattle.fetch_timing.specs.Caches.{after_fetch, line_of, penalty}
use Rattle.control_flow.specs.Points.{Point}
use Rattle.control_flow.specs.Routes.{Taken}
use Rattle.path_facts.specs.Routes.{route_cycles}
use Rattle.interval_loops.specs.Trails.{Visit}
use Rattle.persistence.specs.BlockHistories.{finds}
use Rattle.persistence.specs.BlockMisses.{always, missed_uses, missing}
use Rattle.persistence.specs.Fetches.{after_history}
use Rattle.persistence.proofs.MissLemmas.{misses_are_of_uses}
use Rattle.tree_law.specs.NodeOrders.{sum_over}
use Rattle.tree_law.specs.Pieces.{misses}
use Rattle.cycle_bounds.specs.Analyses.{Analysis, base_of, points_at, spots_of, uses_of}
use Rattle.cycle_bounds.specs.Functions.{cost_at, line_at, most_at}
use Rattle.persistence.specs.Spots.{turned}
use Rattle.cycle_bounds.specs.Visits.{cycles, missed_in, named, numbers_of}
use Rattle.cycle_bounds.proofs.WayCostLemmas.{IsCheap}
use Rattle.cycle_bounds.proofs.SpotLemmas.{misses_are}

by_find : (f : Bool) (m k : ℕ) → (if f then 0 else m) + m * k ≤ m * ((if f then 0 else 1) + k)
by_find true m k = (let e : m * (0 + k) ≡ m * k = ap (λ (z : ℕ). m * z) (omega arith) in omega (arith, e))
by_find false m k = (let e = mul-add m 1 k in omega (arith, e))

module _ (cost : Point → Bool → ℕ) (most : Point → ℕ) (t : Timing) (sets : List (List ℕ)) (a : Analysis) where
  abbrev pub IsCheapHere : Taken ℕ → Type 0
  IsCheapHere x = cost (a.point x.point) x.done ≤ most (a.point x.point)

  spent : (w : List (Taken ℕ)) (h : List ℕ) → AllByRecursion IsCheapHere w
      → cycles cost t sets a h w ≤ sum_over (λ p. most (a.point p)) (numbers_of w) + t.miss * missing t sets a.code (numbers_of w) h
  spent [] h all = omega arith
  spent (x ∷ w) h all =
      let rest = spent w (x.point ∷ h) all.1 in
      let one = all.0 in
      let m = by_find (finds t sets a.code x.point h) t.miss (missing t sets a.code (numbers_of w) (x.point ∷ h)) in
      omega (arith, rest, one, m)

  pub paid : 0 < t.sets → 0 < t.ways → length sets ≡ t.sets → (b : ℕ) (w : List (Taken ℕ)) (h : List ℕ) → numbers_of w ≡ points_at a b
      → AllByRecursion IsCheapHere w
      → (v : Visit) → v.missed ≡ missed_in t sets a.code h (spots_of a b)
      → cycles cost t sets a h w ≤ base_of t most a b + t.miss * misses (length (uses_of a b)) v
  paid some ways is b w h same all v missed =
      let ps = points_at a b in
      let all_scoped = λ (p : ℕ). is_some (a.scope p) in
      let c : cycles cost t sets a h w ≤ sum_over (λ p. most (a.point p)) ps + t.miss * missing t sets a.code ps h =
      subst (λ (qs : List ℕ). cycles cost t sets a h w ≤ sum_over (λ p. most (a.point p)) qs + t.miss * missing t sets a.code qs h) same
      (spent w h all) in
      let m : missing t sets a.code ps h ≤ always a.code all_scoped None ps + missed_uses t sets a.code all_scoped None ps h =
      misses_are_of_uses t sets a.code all_scoped some ways is None ps h tt in
      let u : misses (length (uses_of a b)) v ≡ missed_uses t sets a.code all_scoped None ps h = misses_are t sets a.code a.scope h ps v
      missed in
      sums (cycles cost t sets a h w) (sum_over (λ p. most (a.point p)) ps) t.miss (missing t sets a.code ps h)
      (always a.code all_scoped None ps) (missed_uses t sets a.code all_scoped None ps h) (misses (length (uses_of a b)) v) c m u
    where
      sums : (c s k m x y z : ℕ) → c ≤ s + k * m → m ≤ x + y → z ≡ y → c ≤ s + k * x + k * z
      sums c s k m x y z h i e =
          let le = mul-le k m k (x + y) (omega arith) i in
          let split = mul-add k x y in
          let same : k * z ≡ k * y = ap (λ (q : ℕ). k * q) e in
          omega (arith, h, le, split, same)

  -- one stretch after another
  pub cycles_joined : (w u : List (Taken ℕ)) (h : List ℕ) → cycles cost t sets a h (w ++ u) ≡ cycles cost t sets a h w + cycles cost t sets
      a (turned (numbers_of w) h) u
  cycles_joined [] u h = omega arith
  cycles_joined (x ∷ w) u h = (let r = cycles_joined w u (x.point ∷ h) in omega (arith, r))

-- ---- the cycles of a route

heads : (x y : Taken Point) (xs ys : List (Taken Point)) → x ∷ xs ≡ y ∷ ys → x ≡ y
heads x y xs ys e = cc

tails : (x y : Taken Point) (xs ys : List (Taken Point)) → x ∷ xs ≡ y ∷ ys → xs ≡ ys
tails x y xs ys e = cc

three : (a b c d e f : ℕ) → a ≡ b → c ≡ d → e ≡ f → a + c + e ≡ b + d + f
three a b c d e f p q r = cc

module _ (image : ImageValue) (t : Timing) (sets : List (List ℕ)) (a : Analysis) where
  abbrev pub IsLined : Taken ℕ → Type 0
  IsLined x = a.code.line x.point ≡ line_at t (a.point x.point)

  pub route_is_cycles : (route : List (Taken Point)) (xs : List (Taken ℕ)) (h : List ℕ) → map (named a.point) xs ≡ route
      → AllByRecursion IsLined xs
      → route_cycles image t (after_history t sets (map a.code.line h)) route ≡ cycles (cost_at image t) t sets a h xs
  route_is_cycles [] [] h e all = refl
  route_is_cycles [] (y ∷ xs) h e all = absurd (cc)
  route_is_cycles (x ∷ route) [] h e all = absurd (cc)
  route_is_cycles (x ∷ route) (y ∷ xs) h e all =
      let now = after_history t sets (map a.code.line h) in
      let first : named a.point y ≡ x = heads (named a.point y) x (map (named a.point) xs) (route) e in
      let rest = tails (named a.point y) x (map (named a.point) xs) (route) e in
      let line : a.code.line y.point ≡ line_of t x.point.address = all.0 ∙ ap (λ (z : Taken Point). line_at t z.point) first in
      three (cost_at image t x.point x.done) (cost_at image t (a.point y.point) y.done) (penalty t now (line_of t x.point.address))
      (if finds t sets a.code y.point h then 0 else t.miss)
      (route_cycles image t (after_fetch t now (line_of t x.point.address)) route) (cycles (cost_at image t) t sets a (y.point ∷ h) xs)
      (ap (λ (z : Taken Point). cost_at image t z.point z.done) (sym first))
      (ap (penalty t now) (sym line))
      (ap (λ (l : ℕ). route_cycles image t (after_fetch t now l) route) (sym line) ∙ route_is_cycles route xs (y.point ∷ h) rest all.1)

  pub all_cheap : (route : List (Taken Point)) (xs : List (Taken ℕ)) → map (named a.point) xs ≡ route
      → AllByRecursion (IsCheap image t) route → AllByRecursion (IsCheapHere (cost_at image t) (most_at image t) t sets a) xs
  all_cheap [] [] e all = tt
  all_cheap [] (y ∷ xs) e all = absurd (cc)
  all_cheap (x ∷ route) [] e all = absurd (cc)
  all_cheap (x ∷ route) (y ∷ xs) e all =
      let first : named a.point y ≡ x = heads (named a.point y) x (map (named a.point) xs) (route) e in (
        subst (λ (z : Taken Point). cost_at image t z.point z.done ≤ most_at image t z.point) (sym first) all.0,
        all_cheap route xs
            (tails (named a.point y) x (map (named a.point) xs) (route) e) all.1,
      )
