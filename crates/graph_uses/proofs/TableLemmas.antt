-- The tables of numbered points are those of the graph's blocks with its loops.
use Rattle.std.proofs.Common.{◌≡◌, ◌⊎◌, inl, inr, ℕ, zero, suc, ◌+◌, ◌-◌, ◌<◌, ◌≤◌, ◌^◌, List, [], ◌∷◌, length, refl, sym, ap, ◌∙◌}
use Rattle.std.proofs.Common.{subst, Bool, true, false, ◌&&◌, ◌||◌, arith}
use Rattle.std.specs.Prelude.{Option, Some, Contains, ◌==◌, slice_get, nat_eq, nat_lt, replicate}
use Rattle.std.specs.List.{AllByRecursion, list_any}
use Rattle.std.proofs.lemmas.Bool.{eqb-true, false≢true}
use Rattle.std.proofs.lemmas.Bool.Decides.{nat_tests}
use Rattle.elf32_image.specs.Parts.{ImageValue}
use Rattle.fetch_timing.specs.declared.timing.Timing.{Timing}
use Rattle.graph_search.specs.Flows.{edge}
use Rattle.graph_search.specs.NodeLists.{holds}
use Rattle.graph_search.specs.Rows.{row_in}
use Rattle.control_flow.specs.Instructions.{instruction_at}
use Rattle.control_flow.specs.Points.{entry_point}
use Rattle.control_flow.specs.Ways.{ways_from}
use Rattle.function_points.proofs.MemberLemmas.{first_or_rest, here, in_none, there}
use Rattle.flow_graph.specs.declared.graph.Block.{Block}
use Rattle.flow_graph.specs.declared.graph.BlockGraph.{BlockGraph}
use Rattle.flow_graph.specs.Flow.{flow_in, next_of}
use Rattle.flow_graph.specs.Graphs.{IsGraphBy, IsGraphOf}
use Rattle.interval_loops.specs.declared.nest.LoopNest.{LoopNest}
use Rattle.interval_loops.specs.Rounds.{first_or, last_or}
use Rattle.line_uses.specs.BlockRows.{AreBlockRows, IsSequence, Leading, Leads}
use Rattle.line_uses.specs.PointMaps.{block_of}
use Rattle.block_points.specs.declared.tables.BlockPoints.{BlockPoints}
use Rattle.block_points.specs.Numbering.{first_of, firsts_from, numbers_from, rows_from, total_of}
use Rattle.block_points.specs.Tables.{AreLinked, ArePoints}
use Rattle.block_points.proofs.PlaceLemmas.{block_inside, joined_length, next_length, place, row_at}
use Rattle.graph_analyses.specs.GraphAnalyses.{maps_of}
use Rattle.graph_analyses.proofs.CutLemmas.{all_home, both_at, chains_size, next_across, next_inner, rows_length}
use Rattle.graph_analyses.proofs.NumberLemmas.{inside_at, some_item, there_at}

or_true : (a b : Bool) → a || b ≡ true → (a ≡ true) ⊎ (b ≡ true)
or_true true b e = inl refl
or_true false b e = inr e

either : (a b : Bool) → (a ≡ true) ⊎ (b ≡ true) → a || b ≡ true
either true b s = refl
either false b s =
    elim s as (λ _. b ≡ true) [
      | inl e ↦ absurd (false≢true e)
      | inr e ↦ e
    ]

same_test : (x y : ℕ) → x ≡ y → nat_eq x y ≡ true
same_test x y e = grind (arith, nat_tests, e)

and_both : (a b : Bool) → a && b ≡ true → (a ≡ true) × (b ≡ true)
and_both true b e = (refl, e)
and_both false b e = absurd (false≢true e)

lower : (i n : ℕ) → nat_lt i n ≡ true → i < n
lower i n e = grind (arith, nat_tests, e)

-- ---- numbers one after another

held_number : (f n k : ℕ) → k < n → holds nat_eq (f + k) (numbers_from f n) ≡ true
held_number f zero k lt = absurd (omega (arith, lt))
held_number f (suc n) zero lt =
    let e : f + 0 ≡ f = omega arith in
    either (nat_eq (f + 0) f) (holds nat_eq (f + 0) (numbers_from (f + 1) n)) (inl (same_test (f + 0) f e))
held_number f (suc n) (suc k) lt =
    let e : f + 1 + k ≡ f + suc k = omega arith in
    either (nat_eq (f + suc k) f) (holds nat_eq (f + suc k) (numbers_from (f + 1) n))
    (inr (subst (λ (m : ℕ). holds nat_eq m (numbers_from (f + 1) n) ≡ true) e (held_number (f + 1) n k (omega (arith, lt)))))

all_held : (P : ℕ → Type 0) (xs : List ℕ) (q : ℕ) → AllByRecursion P xs → holds nat_eq q xs ≡ true → P q
all_held P [] q all h = absurd (false≢true h)
all_held P (x ∷ xs) q all h =
    elim (or_true (nat_eq q x) (holds nat_eq q xs) h) as (λ _. P q) [
      | inl e ↦ subst P (sym (eqb-true q x e)) all.0
      | inr r ↦ all_held P xs q all.1 r
    ]

leading_numbers : (R : ℕ → ℕ → Type 0) (f n : ℕ) → ((k : ℕ) → k < n → R (f + k) (f + k + 1)) → Leading R f (numbers_from (f + 1) n)
leading_numbers R f zero h = tt
leading_numbers R f (suc n) h =
    let first : f + 0 ≡ f = omega arith in (
      subst (λ (k : ℕ). R k (k + 1)) first (h 0 (omega arith)),
      leading_numbers R (f + 1) n
          (λ k lt. let e : f + suc k ≡ f + 1 + k = omega arith in subst (λ (m : ℕ). R m (m + 1)) e (h (suc k) (omega (arith, lt)))),
    )

sequence_numbers : (R : ℕ → ℕ → Type 0) (f n : ℕ) → 0 < n → ((k : ℕ) → k + 1 < n → R (f + k) (f + k + 1)) → IsSequence R (numbers_from f n)
sequence_numbers R f zero some h = absurd (omega (arith, some))
sequence_numbers R f (suc n) some h = leading_numbers R f n (λ k lt. h k (omega (arith, lt)))

last_numbers : (f n z : ℕ) → last_or z (numbers_from f (suc n)) ≡ f + n
last_numbers f zero z = omega arith
last_numbers f (suc n) z = (let e : f + 1 + n ≡ f + suc n = omega arith in last_numbers (f + 1) n f ∙ e)

first_numbers : (f n z : ℕ) → 0 < n → first_or z (numbers_from f n) ≡ f
first_numbers f zero z some = absurd (omega (arith, some))
first_numbers f (suc n) z some = refl

all_of : (P : ℕ → Type 0) (f n : ℕ) → ((k : ℕ) → k < n → P (f + k)) → (q : ℕ) → holds nat_eq q (numbers_from f n) ≡ true → P q
all_of P f zero h q e = absurd (false≢true e)
all_of P f (suc n) h q e =
    elim (or_true (nat_eq q f) (holds nat_eq q (numbers_from (f + 1) n)) e) as (λ _. P q) [
      | inl s ↦ (let z : f + 0 ≡ f = omega arith in subst P (z ∙ sym (eqb-true q f s)) (h 0 (omega arith)))
      | inr r ↦ all_of P (f + 1) n (λ k lt. let z : f + suc k ≡ f + 1 + k = omega arith in subst P z (h (suc k) (omega (arith, lt)))) q r
    ]

contains_any : (next : List ℕ) (j : ℕ) → list_any (λ x. x == j) next ≡ true → Contains next j
contains_any [] j e = absurd (false≢true e)
contains_any (x ∷ next) j e =
    elim (or_true (x == j) (list_any (λ y. y == j) next) e) as (λ _. Contains (x ∷ next) j) [
      | inl s ↦ subst (λ (z : ℕ). Contains (x ∷ next) z) (eqb-true x j s) (here x next)
      | inr r ↦ there x j next (contains_any next j r)
    ]

held_inside : (rows : List (List ℕ)) (q r : ℕ) → holds nat_eq r (row_in rows q) ≡ true → q < length rows
held_inside [] q r e = absurd (false≢true e)
held_inside (x ∷ rows) zero r e = omega arith
held_inside (x ∷ rows) (suc q) r e = (let l = held_inside rows q r e in omega (arith, l))

row_past : (rows : List (List ℕ)) (b : ℕ) → length rows ≤ b → row_in rows b ≡ []
row_past [] b le = refl
row_past (x ∷ rows) zero le = absurd (omega (arith, le))
row_past (x ∷ rows) (suc b) le = row_past rows b (omega (arith, le))

replicated : (m k : ℕ) → length (replicate m k) ≡ m
replicated zero k = refl
replicated (suc m) k = ap suc (replicated m k)

module _ (image : ImageValue) (entry : ℕ) (g : BlockGraph) (is : IsGraphOf image entry g) where
  abbrev by : IsGraphBy (ways_from image entry) (instruction_at image) (entry_point entry) g
  by = is.graph

  -- there is a block
  pub graph_starts : 0 < length g.blocks
  graph_starts =
      let c = inside_at by.chains g.entry_block by.enters.0 by.enters.1 in
      let s = sizes in
      omega (arith, c, s)
    where
      sizes : length g.blocks ≡ length by.chains
      sizes = chains_size (ways_from image entry) (instruction_at image) (entry_point entry) g by

  -- the blocks of a graph have points, and lead to blocks
  pub graph_linked : AreLinked g.blocks
  graph_linked = record { some = some; inside = inside }
    where
      some : (j : ℕ) (b : Block) → slice_get g.blocks j ≡ Some b → 0 < length b.points
      some j b e =
          let h = both_at (ways_from image entry) (instruction_at image) (entry_point entry) g by j (inside_at g.blocks j b e) in
          subst (λ (x : Block). 0 < length x.points) (some_item h.block b (sym h.there ∙ e)) h.some

      inside : (j k : ℕ) (b : Block) → slice_get g.blocks j ≡ Some b → Contains b.next k → k < length g.blocks
      inside j k b e i =
          let h = both_at (ways_from image entry) (instruction_at image) (entry_point entry) g by j (inside_at g.blocks j b e) in
          let d = ((by.next j h.chain b h.found e).next k).0 i in
          let c = inside_at by.chains k d.0 d.1 in
          let s = chains_size (ways_from image entry) (instruction_at image) (entry_point entry) g by in
          omega (arith, c, s)

  module _ (t : Timing) (n : LoopNest) (p : BlockPoints) (are : ArePoints t g.blocks p) where
    pub home_total : length p.home ≡ total_of g.blocks
    home_total = ap length are.home ∙ joined_length (λ k b. replicate (length b.points) k)
        (λ k b. replicated (length b.points) k) g.blocks 0

    next_total : length p.next ≡ total_of g.blocks
    next_total = ap length are.next ∙ next_length (firsts_from 0 g.blocks) g.blocks 0

    row_here : (b : ℕ) (x : Block) → slice_get g.blocks b ≡ Some x → row_in p.rows b ≡ numbers_from (first_of g.blocks b) (length x.points)
    row_here b x e =
        let z : 0 + first_of g.blocks b ≡ first_of g.blocks b = omega arith in
        ap (λ (rows : List (List ℕ)). row_in rows b) are.rows ∙ row_at g.blocks 0 b x e ∙ ap (λ (m : ℕ). numbers_from m (length x.points)) z

    homes_in : (b : ℕ) (x : Block) → slice_get g.blocks b ≡ Some x
        → AllByRecursion (λ q. block_of (maps_of n p) q ≡ b) (numbers_from (first_of g.blocks b) (length x.points))
    homes_in b x e = all_home (ways_from image entry) (instruction_at image) (entry_point entry) g by t n p are b x e

    pub block_rows : total_of g.blocks < 2 ^ 32 → AreBlockRows (flow_in g) n p.rows (maps_of n p)
    block_rows few = record {
      around = refl;
      forth = are.before;
      below = below;
      homes = home_total ∙ sym next_total ∙ sym are.size;
      count = (let s = home_total in omega (arith, s, few));
      blocks = blocks;
      there = inside_row;
      own = own;
      along = along;
      across = across;
    }
      where
        below : (r q : ℕ) → holds nat_eq q (row_in p.before r) ≡ true → q < length p.before
        below r q e =
            let l = held_inside p.next q r (are.before q r ∙ e) in
            let s = are.size in
            omega (arith, l, s)

        home_at : (q : ℕ) (lt : q < total_of g.blocks) → block_of (maps_of n p) q ≡ (place g.blocks q lt).number
        home_at q lt =
            let w = place g.blocks q lt in
            subst (λ (m : ℕ). block_of (maps_of n p) m ≡ w.number) w.is
            (all_held (λ m. block_of (maps_of n p) m ≡ w.number) (numbers_from (first_of g.blocks w.number) (length w.block.points))
            (first_of g.blocks w.number + w.at) (homes_in w.number w.block w.there)
            (held_number (first_of g.blocks w.number) (length w.block.points) w.at w.inside))

        inside_total : (q : ℕ) → q < length p.home → q < total_of g.blocks
        inside_total q lt = (let s = home_total in omega (arith, lt, s))

        blocks : (q : ℕ) → q < length p.home → block_of (maps_of n p) q < (flow_in g).count
        blocks q lt =
            let low = inside_total q lt in
            let home = home_at q low in
            let w = place g.blocks q low in
            let inside = inside_at g.blocks w.number w.block w.there in
            let count = by.count in
            omega (arith, home, inside, count)

        inside_row : (q : ℕ) → q < length p.home → holds nat_eq q (row_in p.rows (block_of (maps_of n p) q)) ≡ true
        inside_row q lt =
            let low = inside_total q lt in
            let w = place g.blocks q low in
            subst (λ (b : ℕ). holds nat_eq q (row_in p.rows b) ≡ true) (sym (home_at q low))
            (subst (λ (row : List ℕ). holds nat_eq q row ≡ true) (sym (row_here w.number w.block w.there))
            (subst (λ (m : ℕ). holds nat_eq m (numbers_from (first_of g.blocks w.number) (length w.block.points)) ≡ true) w.is
            (held_number (first_of g.blocks w.number) (length w.block.points) w.at w.inside)))

        own : (b q : ℕ) → b < (flow_in g).count → holds nat_eq q (row_in p.rows b) ≡ true → block_of (maps_of n p) q ≡ b
        own b q lt e =
            let x = there_at g.blocks b (let count = by.count in omega (arith, lt, count)) in
            all_held (λ m. block_of (maps_of n p) m ≡ b) (numbers_from (first_of g.blocks b) (length (x.0).points)) q (homes_in b x.0 x.1)
            (subst (λ (row : List ℕ). holds nat_eq q row ≡ true) (row_here b x.0 x.1) e)

        along : (b : ℕ) → b < (flow_in g).count → IsSequence (Leads (maps_of n p)) (row_in p.rows b)
        along b lt =
            let x = there_at g.blocks b (let count = by.count in omega (arith, lt, count)) in
            subst (IsSequence (Leads (maps_of n p))) (sym (row_here b x.0 x.1))
            (sequence_numbers (Leads (maps_of n p)) (first_of g.blocks b) (length (x.0).points) (graph_linked.some b x.0 x.1)
            (λ k low. next_inner (ways_from image entry) (instruction_at image) (entry_point entry) g by t n p are b k x.0 x.1 low))

        across : (b c : ℕ) → edge (flow_in g) b c ≡ true
            → Leads (maps_of n p) (last_or 0 (row_in p.rows b)) (first_or 0 (row_in p.rows c))
        across b c e =
            let parts = and_both (nat_lt b g.block_count) (list_any (λ x. x == c) ((flow_in g).next b)) e in
            let low = lower b g.block_count parts.0 in
            let x = there_at g.blocks b (let count = by.count in omega (arith, low, count)) in
            let listed : Contains (x.0).next c =
            contains_any (x.0).next c (subst (λ (o : Option Block). list_any (λ y. y == c) (next_of o) ≡ true) x.1 parts.1) in
            let lt = graph_linked.inside b c x.0 x.1 listed in
            let y = there_at g.blocks c lt in
            let some = graph_linked.some b x.0 x.1 in
            let size : length (x.0).points ≡ suc (length (x.0).points - 1) = omega (arith, some) in
            let last : last_or 0 (row_in p.rows b) ≡ first_of g.blocks b + (length (x.0).points - 1) =
            ap (last_or 0) (row_here b x.0 x.1) ∙ ap (λ (m : ℕ). last_or 0 (numbers_from (first_of g.blocks b) m)) size
            ∙ last_numbers (first_of g.blocks b) (length (x.0).points - 1) 0 in
            let first : first_or 0 (row_in p.rows c) ≡ first_of g.blocks c =
            ap (first_or 0) (row_here c y.0 y.1)
            ∙ first_numbers (first_of g.blocks c) (length (y.0).points) 0 (graph_linked.some c y.0 y.1) in
            subst (λ (q : ℕ). Leads (maps_of n p) q (first_or 0 (row_in p.rows c))) (sym last)
            (subst (Leads (maps_of n p) (first_of g.blocks b + (length (x.0).points - 1))) (sym first)
            (next_across (ways_from image entry) (instruction_at image) (entry_point entry) g by t n p are b c
            (length (x.0).points - 1) x.0 x.1 size listed lt))

    pub rows_inside : (b q : ℕ) → holds nat_eq q (row_in p.rows b) ≡ true → q < length p.home
    rows_inside b q e = by_side (side b (length g.blocks))
      where
        side : (i n : ℕ) → (i < n) ⊎ (n ≤ i)
        side i zero = inr (omega arith)
        side zero (suc n) = inl (omega arith)
        side (suc i) (suc n) =
            elim (side i n) as (λ _. (suc i < suc n) ⊎ (suc n ≤ suc i)) [
              | inl lt ↦ inl (omega (arith, lt))
              | inr le ↦ inr (omega (arith, le))
            ]

        by_side : (b < length g.blocks) ⊎ (length g.blocks ≤ b) → q < length p.home
        by_side s =
            elim s as (λ _. q < length p.home) [
              | inl lt ↦
                  let x = there_at g.blocks b lt in
                  let inside = block_inside g.blocks b x.0 x.1 in
                  all_of (λ m. m < length p.home) (first_of g.blocks b) (length (x.0).points)
                  (λ k low. let s = home_total in omega (arith, low, inside, s)) q
                  (subst (λ (row : List ℕ). holds nat_eq q row ≡ true) (row_here b x.0 x.1) e)
              | inr le ↦
                  absurd (false≢true (ap (holds nat_eq q) (sym (ap (λ (rows : List (List ℕ)). row_in rows b) are.rows
                  ∙ row_past (rows_from 0 g.blocks) b (let s = rows_length g.blocks 0 in omega (arith, le, s)))) ∙ e))
            ]

-- no block has more points than all blocks together
pub within_total : (bs : List Block) (b : Block) → Contains bs b → length b.points ≤ total_of bs
within_total [] b i = absurd (in_none b i)
within_total (x ∷ bs) b i =
    elim (first_or_rest x b bs i) as (λ _. length b.points ≤ total_of (x ∷ bs)) [
      | inl e ↦ (let same = ap (λ (y : Block). length y.points) e in omega (arith, same))
      | inr rest ↦ (let below = within_total bs b rest in omega (arith, below))
    ]
