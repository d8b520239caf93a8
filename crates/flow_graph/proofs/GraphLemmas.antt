-- The parts make the graph.
use Rattle.std.proofs.Common.{◌≡◌, refl, sym, ap, ◌∙◌, subst, ℕ, zero, suc, ◌+◌, ◌-◌, ◌<◌, ◌≤◌, ◌⊎◌, inl, inr, Bool, true, false, List}
use Rattle.std.proofs.Common.{[], ◌∷◌, length, get_or, map, cond, Err, arith}
use Rattle.std.specs.Prelude.{◌↔◌, Contains, Option, Some, None, slice_get, ◌^◌}
use Rattle.std.proofs.lemmas.Bool.{cases_Bool}
use Rattle.std.proofs.lemmas.List.{get_or_default}
use Rattle.std.proofs.lemmas.Option.{slice_get-get_or, slice_get_within, get_or_from_slice_get}
use Rattle.elf32_image.specs.Parts.{ImageValue}
use Rattle.elf32_image.specs.Bytes.{is_code}
use Rattle.arm_isa.specs.declared.instruction.Insn.{Insn}
use Rattle.graph_search.specs.NodeLists.{Equality, Distinct, holds, MoreThan}
use Rattle.control_flow.specs.declared.control.Fault.{Fault}
use Rattle.control_flow.specs.declared.instructions.FetchFault.TheVariants.{NoCode}
use Rattle.control_flow.specs.Instructions.{decoded, instruction_at}
use Rattle.control_flow.specs.Points.{Point, entry_point}
use Rattle.control_flow.specs.Routes.{Way, Goes, Leaves, IsReached, IsLive}
use Rattle.control_flow.specs.Ways.{IsCollected, fault_at, fault_of, ways_from}
use Rattle.function_points.specs.PointLists.{point_eq, point_at, points_at}
use Rattle.function_points.proofs.MemberLemmas.{here, there, first_or_rest, in_none}
use Rattle.function_points.proofs.PointLemmas.{point_equality, points_length}
use Rattle.basic_blocks.specs.Blocks.{Chain, points, last_of, Ascending, by_first}
use Rattle.basic_blocks.specs.Chains.{is_flagged, mapped}
use Rattle.basic_blocks.specs.PointOrder.{Before}
use Rattle.basic_blocks.proofs.AgreementLemmas.{before_apart}
use Rattle.basic_blocks.proofs.NumberLemmas.{ascending_at, ascending_map, from_map, map_in}
use Rattle.basic_blocks.proofs.VisitLemmas.{begins}
use Rattle.point_order.specs.Arrangements.{IsArranged}
use Rattle.point_order.specs.Families.{Lower}
use Rattle.point_order.proofs.ArrangementLemmas.{held_contains, points_rise}
use Rattle.point_order.proofs.PlaceLemmas.{at_place, from_mapped, get_mapped, one_some}
use Rattle.point_order.proofs.RankLemmas.{contains_get}
use Rattle.flow_graph.specs.declared.graph.Block.{Block}
use Rattle.flow_graph.specs.declared.graph.BlockGraph.{BlockGraph}
use Rattle.flow_graph.specs.declared.graph.GraphPoint.{GraphPoint}
use Rattle.point_tables.specs.declared.targets.Targets.{Targets}
use Rattle.flow_graph.specs.Graphs.{AreTooMany, IsGraphOf, IsGraphPoint, IsNext, IsSound, graph_points, returns_in, IsFaulty}
use Rattle.flow_graph.specs.Graphs.{IsRefusedGraph, most_points, refusal_for}
use Rattle.point_tables.specs.Numbers.{AreNumbers, Pointwise, AreSources}
use Rattle.flow_graph.specs.Parts.{AreContextsOf, AreReady, AreUnflagged, IsBlockOf, first_number, last_number, pair_at, point_pair}
use Rattle.point_tables.specs.Targets.{step_in, IsNumber}
use Rattle.basic_blocks.specs.LivePoints.{before}
use Rattle.point_tables.specs.declared.faults.FoundFault.{FoundFault}
use Rattle.flow_graph.specs.declared.graph.FunctionGraph.{FunctionGraph}
use Rattle.point_tables.specs.Faults.{IsLeastOf}
use Rattle.point_tables.specs.Tables.{AreLinkChains, AreTables}
use Rattle.flow_graph.specs.Tables.{IsFunctionGraph}
use Rattle.flow_graph.proofs.AgreementLemmas.{same_places}
use Rattle.point_tables.proofs.ArrangedLemmas.{is_sorted}
use Rattle.point_tables.proofs.CutLemmas.{links_blocks, tables_living}
use Rattle.point_tables.proofs.PlacementLemmas.{point_number}
use Rattle.point_tables.proofs.TableLemmas.{targets_are_numbers}
use Rattle.control_flow.specs.declared.control.Fault.TheVariants as fault
use Rattle.flow_graph.specs.declared.graph.GraphRefusal.TheVariants as why

-- the number of points
ascending_distinct : {A : Type 0} (q : Equality A) (lt : A → A → Type 0) → ((x : A) → lt x x → ⊥) → (xs : List A) → Ascending lt xs
    → Distinct q.same xs
ascending_distinct q lt apart [] a = tt
ascending_distinct q lt apart (x ∷ xs) a = (
  elim (cases_Bool (holds q.same x xs)) as (λ _. holds q.same x xs ≡ false) [
    | inl t ↦ absurd (apart x (a.0 x (held_contains q x xs t)))
    | inr f ↦ f
  ],
  ascending_distinct q lt apart xs a.1,
)

at_most : (k n : ℕ) → (n < k → ⊥) → k ≤ n
at_most k n none = elim (split_le k n) as (λ _. k ≤ n) [
  | inl l ↦ l
  | inr m ↦ absurd (none m)
]
  where
    split_le : (k n : ℕ) → (k ≤ n) ⊎ (n < k)
    split_le k n = grind arith

pub few_points : (P : Point → Type 0) (n : ℕ) (ps : List Point) → Ascending Before ps → ((p : Point) → Contains ps p → P p)
    → (MoreThan point_eq n P → ⊥) → length ps ≤ n
few_points P n ps a all none =
    at_most (length ps) n (λ l. none (
      ps,
      ascending_distinct point_equality Before (λ x b. before_apart x x b b) ps a,
      (λ p h. all p (held_contains point_equality p ps h)),
      l,
    ))

rising_from : (k n : ℕ) (xs : List ℕ) → Ascending (λ i j. i < j) xs → ((x : ℕ) → Contains xs x → (k ≤ x) × (x < n)) → k ≤ n
    → k + length xs ≤ n
rising_from k n [] a within l = omega (arith, l)
rising_from k n (x ∷ xs) a within l =
    let w = within x (here x xs) in
    let low = w.0 in
    let high = w.1 in
    let rest = rising_from (suc x) n xs a.1 (λ y i. (a.0 y i, (within y (there x y xs i)).1)) (omega (arith, high)) in
    omega (arith, low, rest)

pub few_rising : (n : ℕ) (xs : List ℕ) → Ascending (λ i j. i < j) xs → ((x : ℕ) → Contains xs x → x < n) → length xs ≤ n
few_rising n xs a below = let l = rising_from 0 n xs a (λ x i. (omega arith, below x i)) (omega arith) in omega (arith, l)

-- the instruction of a point without a fault

fault_without : (code : Bool) (found : Option Insn) (image : ImageValue) (entry : ℕ) (p : Point)
    → fault_of image entry p (cond code (decoded found) (Err NoCode)) ≡ None → found ≡ None → ⊥
fault_without true None image entry p e f = cc
fault_without true (Some insn) image entry p e f = cc
fault_without false found image entry p e f = cc

pub clear_point : (image : ImageValue) (entry : ℕ) (p : Point) → fault_at image entry p ≡ None → instruction_at image p.address ≡ None → ⊥
clear_point image entry p e f = fault_without (is_code image p.address) (instruction_at image p.address) image entry p e f

-- lists

pub some_at : {A : Type 0} (xs : List A) (k : ℕ) → k < length xs → (x : A) × (slice_get xs k ≡ Some x)
some_at [] k l = absurd (omega (arith, l))
some_at (x ∷ xs) zero l = (x, refl)
some_at (x ∷ xs) (suc k) l = some_at xs k (omega (arith, l))

partner : {A B : Type 0} (R : A → B → Type 0) (xs : List A) (ys : List B) → Pointwise R xs ys → (k : ℕ) (y : B) → slice_get ys k ≡ Some y
    → (x : A) × (slice_get xs k ≡ Some x) × R x y
partner R xs ys w k y e =
    let l = slice_get_within ys k y e in
    let x = some_at xs k (subst (λ n. k < n) w.long l) in
    (x.0, x.1, w.each k x.0 y x.1 e)

other_partner : {A B : Type 0} (R : A → B → Type 0) (xs : List A) (ys : List B) → Pointwise R xs ys → (k : ℕ) (x : A)
    → slice_get xs k ≡ Some x
    → (y : B) × (slice_get ys k ≡ Some y) × R x y
other_partner R xs ys w k x e =
    let l = slice_get_within xs k x e in
    let y = some_at ys k (subst (λ n. k < n) (sym w.long) l) in
    (y.0, y.1, w.each k x y.0 e y.1)

map_pointwise : {A B C : Type 0} (R : A → B → Type 0) (f : B → C) (g : A → C) (xs : List A) (ys : List B) → Pointwise R xs ys
    → ((k : ℕ) (x : A) (y : B) → slice_get xs k ≡ Some x → R x y → f y ≡ g x) → map f ys ≡ map g xs
map_pointwise R f g xs ys w same =
    same_places (map f ys) (map g xs)
    (λ k z e.
    let y = from_mapped f ys k z e in
    let x = partner R xs ys w k y.0 y.1 in
    get_mapped g xs k x.0 x.1 ∙ ap Some (sym (same k x.0 y.0 x.1 x.2) ∙ y.2))
    (λ k z e.
    let x = from_mapped g xs k z e in
    let y = other_partner R xs ys w k x.0 x.1 in
    get_mapped f ys k y.0 y.1 ∙ ap Some (same k x.0 y.0 x.1 y.2 ∙ x.2))

pub map_length : {A B : Type 0} (f : A → B) (xs : List A) → length (map f xs) ≡ length xs
map_length f [] = refl
map_length f (x ∷ xs) = ap suc (map_length f xs)

map_twice : {A B C : Type 0} (f : B → C) (g : A → B) (xs : List A) → map f (map g xs) ≡ map (λ x. f (g x)) xs
map_twice f g [] = refl
map_twice f g (x ∷ xs) = ap (λ zs. f (g x) ∷ zs) (map_twice f g xs)

map_by : {A B : Type 0} (f g : A → B) (xs : List A) → ((x : A) → Contains xs x → f x ≡ g x) → map f xs ≡ map g xs
map_by f g [] same = refl
map_by f g (x ∷ xs) same = ap (λ z. z ∷ map f xs) (same x (here x xs))
    ∙ ap (λ zs. g x ∷ zs) (map_by f g xs (λ y i. same y (there x y xs i)))

-- chains of numbers

points_mapped : {A : Type 0} (f : ℕ → A) (bs : List (Chain ℕ)) → map (map f) (map (λ (b : Chain ℕ). points b) bs) ≡ map points
    (map (mapped f) bs)
points_mapped f [] = refl
points_mapped f (b ∷ bs) = ap (λ zs. (f b.first ∷ map f b.rest) ∷ zs) (points_mapped f bs)

last_mapped : {A B : Type 0} (f : A → B) (p : A) (ps : List A) → last_of (f p) (map f ps) ≡ f (last_of p ps)
last_mapped f p [] = refl
last_mapped f p (q ∷ ps) = last_mapped f q ps

last_at : (p : ℕ) (ps : List ℕ) → get_or (p ∷ ps) (length ps) 0 ≡ last_of p ps
last_at p [] = refl
last_at p (q ∷ ps) = last_at q ps

last_is : (b : Chain ℕ) → last_number (points b) ≡ last_of b.first b.rest
last_is b = ap (λ n. get_or (points b) n 0) (one_less (length b.rest)) ∙ last_at b.first b.rest
  where
    one_less : (n : ℕ) → suc n - 1 ≡ n
    one_less n = omega arith

last_in : (p : ℕ) (ps : List ℕ) → Contains (p ∷ ps) (last_of p ps)
last_in p [] = here p []
last_in p (q ∷ ps) = there p (last_of q ps) (q ∷ ps) (last_in q ps)

firsts_mapped : (bs : List (Chain ℕ)) → map first_number (map (λ (b : Chain ℕ). points b) bs) ≡ map (λ (b : Chain ℕ). b.first) bs
firsts_mapped [] = refl
firsts_mapped (b ∷ bs) = ap (λ zs. b.first ∷ zs) (firsts_mapped bs)

not_lower_than_none : (xs : List ℕ) → Lower xs [] → ⊥
not_lower_than_none [] e = cc
not_lower_than_none (x ∷ xs) e = cc

-- the first list is the empty one

pub root_is : (ls : List (List ℕ)) → Ascending Lower ls → Contains ls [] → (0 < length ls) × (get_or ls 0 [] ≡ [])
root_is [] a i = absurd (in_none [] i)
root_is (l ∷ ls) a i =
    elim (first_or_rest l [] ls i) as (λ _. (0 < length (l ∷ ls)) × (l ≡ [])) [
      | inl e ↦ (omega arith, e)
      | inr n ↦ absurd (not_lower_than_none l (a.0 [] n))
    ]

-- the graph from its parts

module _ (image : ImageValue) (entry : ℕ) (ls : List (List ℕ)) (ns : List (ℕ × ℕ)) (table : List Targets) (flags : List Bool)
    (xss : List (List ℕ)) (ready : AreReady image entry ls ns table flags xss) where
  abbrev start : Point
  start = entry_point entry

  abbrev ps : List Point
  ps = points_at ls ns

  abbrev at : ℕ → Point
  at i = get_or ps i start

  abbrev ways : Point → List (Way Point)
  ways = ways_from image entry

  abbrev chains : List (Chain ℕ)
  chains = ready.chains.chains

  abbrev blocks_by : List (Chain Point)
  blocks_by = map (mapped at) chains

  long : length ps ≡ length ns
  long = points_length ls ns

  rise : Ascending Before ps
  rise = points_rise ls ns ready.arranged.rising ready.arranged.sorted ready.arranged.under

  step_numbers : AreNumbers ways start ps (step_in table)
  step_numbers = targets_are_numbers ways start ps table ready.targets

  pub some_numbers : (xs : List ℕ) → Contains xss xs → 0 < length xs
  some_numbers xs i =
      let b = from_map (λ (b : Chain ℕ). points b) chains xs (subst (λ (zs : List (List ℕ)). Contains zs xs) ready.chains.is i) in
      subst (λ (zs : List ℕ). 0 < length zs) b.2 (omega arith)

  pub numbers_under : (xs : List ℕ) (i : ℕ) → Contains xss xs → Contains xs i → i < length ns
  numbers_under xs i m n =
      let b = from_map (λ (b : Chain ℕ). points b) chains xs (subst (λ (zs : List (List ℕ)). Contains zs xs) ready.chains.is m) in
      subst (λ k. i < k) long (ready.chains.under b.0 b.1 i (subst (λ (zs : List ℕ). Contains zs i) (sym b.2) n))

  pub point_clear : (n : ℕ × ℕ) → Contains ns n → instruction_at image n.1 ≡ None → ⊥
  point_clear n i = clear_point image entry (point_at ls n)
      (ready.sound.1 (point_at ls n) ((ready.arranged.points (point_at ls n)).0 (map_in (point_at ls) ns n i)))

  pub table_long : length table ≡ length ns
  table_long = ready.targets.long ∙ long

  module _ (firsts : List ℕ) (firsts_are : firsts ≡ map first_number xss) where
    firsts_of_chains : firsts ≡ map (λ (b : Chain ℕ). b.first) chains
    firsts_of_chains = firsts_are ∙ ap (map first_number) ready.chains.is ∙ firsts_mapped chains

    pub firsts_rise : Ascending (λ i j. i < j) firsts
    firsts_rise =
        subst (Ascending (λ i j. i < j)) (sym firsts_of_chains)
        (ascending_map (λ (b : Chain ℕ). b.first) (by_first (λ p q. p < q)) (λ i j. i < j) (λ b. Unit {0}) (λ x y p q l. l) chains
        (λ x i. tt) ready.chains.rising)

    pub firsts_few : length firsts ≤ length ns
    firsts_few =
        few_rising (length ns) firsts firsts_rise (λ x i.
        let b = from_map (λ (b : Chain ℕ). b.first) chains x (subst (λ (zs : List ℕ). Contains zs x) firsts_of_chains i) in
        subst (λ z. z < length ns) b.2 (subst (λ k. b.0.first < k) long (ready.chains.under b.0 b.1 b.0.first (here b.0.first b.0.rest))))

    -- a chain and its first number have one place
    chain_at : (k t : ℕ) → slice_get firsts k ≡ Some t → (d : Chain ℕ) × (slice_get chains k ≡ Some d) × (d.first ≡ t)
    chain_at k t e = from_mapped (λ (b : Chain ℕ). b.first) chains k t (ap (λ zs. slice_get zs k) (sym firsts_of_chains) ∙ e)

    first_at : (k : ℕ) (d : Chain ℕ) → slice_get chains k ≡ Some d → slice_get firsts k ≡ Some d.first
    first_at k d e = ap (λ zs. slice_get zs k) firsts_of_chains ∙ get_mapped (λ (b : Chain ℕ). b.first) chains k d e

    -- the entry's block
    pub entry_begins : (first : ℕ) → slice_get ns first ≡ Some (0, entry) → is_flagged flags first ≡ true
        → (at first ≡ start) × IsLive ways start start × ((k : ℕ) × (slice_get firsts k ≡ Some first))
    entry_begins first e f =
        let l = subst (λ k. first < k) (sym long) (slice_get_within ns first (0, entry) e) in
        let root = root_is ls ready.arranged.rising ((ready.arranged.lists []).1 (start, (0, refl), refl)) in
        let is : at first ≡ start =
        get_or_from_slice_get ps first (point_at ls (0, entry)) start (get_mapped (point_at ls) ns first (0, entry) e)
        ∙ ap (λ z. record { returns = z; address = entry }) root.1 in
        let alive : IsLive ways start start = subst (IsLive ways start) is ((ready.live.live first l).0 f) in
        let b = begins ways start blocks_by ready.chains.blocks start alive (λ r o. o.inner refl) in
        let d = from_map (mapped at) chains b.0 b.1 in
        let k = contains_get chains d.0 d.1 in
        let under = ready.chains.under d.0 d.1 d.0.first (here d.0.first d.0.rest) in
        let same : d.0.first ≡ first =
        ready.targets.distinct d.0.first first under l (ap (λ (z : Chain Point). z.first) d.2 ∙ b.2 ∙ sym is) in
        (is, alive, (k.0, first_at k.0 d.0 k.1 ∙ ap Some same))

  -- points by their numbers
  at_number : (i : ℕ) → i < length ns → at i ≡ point_at ls (pair_at ns i)
  at_number i l = get_or_from_slice_get ps i (point_at ls (pair_at ns i)) start
      (get_mapped (point_at ls) ns i (pair_at ns i) (slice_get-get_or ns i (0, 0) l))

  pub points_by_numbers : (gs : List GraphPoint) (xs : List ℕ) → map point_pair gs ≡ map (pair_at ns) xs
      → ((i : ℕ) → Contains xs i → i < length ns)
      → graph_points ls gs ≡ map at xs
  points_by_numbers gs xs e under =
      sym (map_twice (point_at ls) point_pair gs) ∙ ap (map (point_at ls)) e ∙ map_twice (point_at ls) (pair_at ns) xs
      ∙ map_by (λ i. point_at ls (pair_at ns i)) at xs (λ i m. sym (at_number i (under i m)))

  pub context_known : (gs : List GraphPoint) (xs : List ℕ) → map point_pair gs ≡ map (pair_at ns) xs
      → ((i : ℕ) → Contains xs i → i < length ns)
      → (p : GraphPoint) → Contains gs p → p.context < length ls
  context_known gs xs e under p m =
      let i = from_map (pair_at ns) xs (point_pair p) (subst (λ (zs : List (ℕ × ℕ)). Contains zs (point_pair p)) e
      (map_in point_pair gs p m)) in
      let l = under i.0 i.1 in
      let there : Contains ns (pair_at ns i.0) = at_place ns i.0 (pair_at ns i.0) (slice_get-get_or ns i.0 (0, 0) l) in
      subst (λ (z : ℕ × ℕ). z.0 < length ls) i.2 (ready.arranged.under (pair_at ns i.0) there)

  -- the blocks

  module _ (firsts : List ℕ) (firsts_are : firsts ≡ map first_number xss) (bs : List Block)
      (are : Pointwise (IsBlockOf (instruction_at image) ns table firsts) xss bs) where
    pub blocks_cut : map (λ (b : Block). graph_points ls b.points) bs ≡ map (map at) xss
    blocks_cut =
        map_pointwise (IsBlockOf (instruction_at image) ns table firsts) (λ (b : Block). graph_points ls b.points) (map at) xss bs are
        (λ k xs b e w. points_by_numbers b.points xs w.points (λ i m. numbers_under xs i (at_place xss k xs e) m))

    pub blocks_points : map (λ (b : Block). graph_points ls b.points) bs ≡ map points blocks_by
    blocks_points = blocks_cut ∙ ap (map (map at)) ready.chains.is ∙ points_mapped at chains

    pub blocks_few : length bs ≤ length ns
    blocks_few = let few = firsts_few firsts firsts_are in
        subst (λ k. k ≤ length ns) (ap length firsts_are ∙ map_length first_number xss ∙ sym are.long) few

    pub block_known : (b : Block) (p : GraphPoint) → Contains bs b → Contains b.points p → IsGraphPoint ls (instruction_at image) p
    block_known b p m i =
        let k = contains_get bs b m in
        let x = partner (IsBlockOf (instruction_at image) ns table firsts) xss bs are k.0 b k.1 in (
          context_known b.points x.0 x.2.points (λ j n. numbers_under x.0 j (at_place xss k.0 x.0 x.1) n) p i,
          x.2.known p i,
        )

    module _ (k : ℕ) (c : Chain ℕ) (e : slice_get chains k ≡ Some c) where
      abbrev last : ℕ
      last = last_of c.first c.rest

      last_under : last < length ps
      last_under = ready.chains.under c (at_place chains k c e) last (last_in c.first c.rest)

      last_point : last_of (mapped at c).first (mapped at c).rest ≡ at last
      last_point = last_mapped at c.first c.rest

      block_next : (b : Block) → IsBlockOf (instruction_at image) ns table firsts (points c) b → IsNext ways blocks_by (mapped at c) b
      block_next b w =
          let row : step_in table (last_number (points c)) ≡ step_in table last = ap (step_in table) (last_is c) in
          record {
            ascending = w.next.ascending;
            next = λ j. (
              (λ i.
                  let t = (w.next.exact j).0 i in
                  let d = chain_at firsts firsts_are j t.0 t.2 in
                  let under = ready.chains.under d.0 (at_place chains j d.0 d.1) d.0.first (here d.0.first d.0.rest) in
                  let goes = (step_numbers.goes last d.0.first last_under under).0
                  (subst (λ z. Contains (step_in table last) z) (sym d.2) (subst (λ (zs : List ℕ). Contains zs t.0) row t.1)) in (
                    mapped at d.0,
                    get_mapped (mapped at) chains j d.0 d.1,
                    subst (λ (z : Point). Goes ways z (at d.0.first))
                        (sym last_point) goes,
                  )),
              (λ g.
                  let d = from_mapped (mapped at) chains j g.0 g.1 in
                  let under = ready.chains.under d.0 (at_place chains j d.0 d.1) d.0.first (here d.0.first d.0.rest) in
                  let goes : Goes ways (at last) (at d.0.first) =
                  subst (λ (z : Point). Goes ways z (at d.0.first)) last_point
                  (subst (λ (z : Point). Goes ways (last_of (mapped at c).first (mapped at c).rest) z)
                  (sym (ap (λ (z : Chain Point). z.first) d.2)) g.2) in
                  (w.next.exact j).1 (
                    d.0.first,
                    subst (λ (zs : List ℕ). Contains zs d.0.first) (sym row) ((step_numbers.goes last d.0.first last_under under).1 goes),
                    first_at firsts firsts_are j d.0 d.1,
                  )),
            );
            returns = (
              (λ t.
                  subst (λ (z : Point). Leaves ways z) (sym last_point) ((step_numbers.leaves last last_under).0
                  (subst (λ z. Contains (step_in table last) z) (sym long)
                  (subst (λ (zs : List ℕ). Contains zs (length ns)) row (w.returns.0 t))))),
              (λ v.
                  w.returns.1 (subst (λ (zs : List ℕ). Contains zs (length ns)) (sym row) (subst (λ z. Contains (step_in table last) z) long
                  ((step_numbers.leaves last last_under).1 (subst (λ (z : Point). Leaves ways z) last_point v))))),
            );
          }

    pub blocks_next : (k : ℕ) (c : Chain Point) (b : Block) → slice_get blocks_by k ≡ Some c → slice_get bs k ≡ Some b
        → IsNext ways blocks_by c b
    blocks_next k c b e f =
        let d = from_mapped (mapped at) chains k c e in
        let x = partner (IsBlockOf (instruction_at image) ns table firsts) xss bs are k b f in
        let there : slice_get xss k ≡ Some (points d.0) =
        ap (λ zs. slice_get zs k) ready.chains.is ∙ get_mapped (λ (b : Chain ℕ). points b) chains k d.0 d.1 in
        let same : x.0 ≡ points d.0 = one_some x.0 (points d.0) (slice_get xss k) x.1 there in
        subst (λ (z : Chain Point). IsNext ways blocks_by z b) d.2
        (block_next k d.0 d.1 b (subst (λ (z : List ℕ). IsBlockOf (instruction_at image) ns table firsts z b) same x.2))

  -- the pruned points

  module _ (cast : List ℕ) (are : AreUnflagged (length ns) (is_flagged flags) cast) (gs : List GraphPoint)
      (gs_are : map point_pair gs ≡ map (pair_at ns) cast) where
    cast_under : (i : ℕ) → Contains cast i → i < length ns
    cast_under i m = ((are.exact i).0 m).0

    pruned_points : graph_points ls gs ≡ map at cast
    pruned_points = points_by_numbers gs cast gs_are cast_under

    pub pruned_rise : Ascending Before (graph_points ls gs)
    pruned_rise =
        subst (Ascending Before) (sym pruned_points)
        (ascending_map at (λ i j. i < j) Before (λ i. i < length ps) (λ i j l m k. ascending_at Before ps start i j rise k m) cast
        (λ i m. subst (λ k. i < k) (sym long) (cast_under i m)) are.rising)

    flag_off : (b : Bool) → (b ≡ true → ⊥) → b ≡ false
    flag_off true n = absurd (n refl)
    flag_off false n = refl

    flag_clash : (b : Bool) → b ≡ false → b ≡ true → ⊥
    flag_clash b e f = cc

    pub pruned_are : (p : Point) → Contains (graph_points ls gs) p ↔ (IsReached ways start p × (IsLive ways start p → ⊥))
    pruned_are p = (
      (λ i.
          let m = from_map at cast p (subst (λ (zs : List Point). Contains zs p) pruned_points i) in
          let r = (are.exact m.0).0 m.1 in
          let l = subst (λ k. m.0 < k) (sym long) r.0 in (
            subst (IsReached ways start) m.2 (ready.targets.only (at m.0) (m.0, l, get_or_default ps m.0 (at m.0) start l)),
            (λ v. flag_clash (is_flagged flags m.0) r.1 ((ready.live.live m.0 l).1 (subst (IsLive ways start) (sym m.2) v))),
          )),
      (λ w.
          let i = ready.targets.all p w.0 in
          let is : at i.0 ≡ p = get_or_default ps i.0 start p i.1 ∙ i.2 in
          let off = flag_off (is_flagged flags i.0) (λ t. w.1 (subst (IsLive ways start) is ((ready.live.live i.0 i.1).0 t))) in
          let m = (are.exact i.0).1 (subst (λ k. i.0 < k) long i.1, off) in
          subst (λ (zs : List Point). Contains zs p) (sym pruned_points)
          (subst (λ (z : Point). Contains (map at cast) z) is (map_in at cast i.0 m))),
    )

    pub pruned_known : ((p : GraphPoint) → Contains gs p → instruction_at image p.address ≡ Some p.insn) → (p : GraphPoint) → Contains gs p
        → IsGraphPoint ls (instruction_at image) p
    pruned_known known p i = (context_known gs cast gs_are cast_under p i, known p i)

-- the whole

module _ (image : ImageValue) (entry : ℕ) (ns : List (ℕ × ℕ)) (table : List Targets) (flags : List Bool) (xss : List (List ℕ))
    (g : BlockGraph) (firsts cast : List ℕ) (first : ℕ) where
  pub graph_is : AreReady image entry (returns_in g.contexts) ns table flags xss → AreContextsOf (returns_in g.contexts) g.contexts
      → firsts ≡ map first_number xss → Pointwise (IsBlockOf (instruction_at image) ns table firsts) xss g.blocks
      → AreUnflagged (length ns) (is_flagged flags) cast → map point_pair g.pruned ≡ map (pair_at ns) cast
      → ((p : GraphPoint) → Contains g.pruned p → instruction_at image p.address ≡ Some p.insn)
      → slice_get ns first ≡ Some (0, entry) → is_flagged flags first ≡ true → slice_get firsts g.entry_block ≡ Some first
      → g.block_count ≡ length g.blocks → g.entry ≡ entry → IsGraphOf image entry g
  graph_is ready contexts firsts_are blocks unflagged pruned known is_first lit entry_at count is_entry =
      let ls = returns_in g.contexts in
      let begun = entry_begins image entry ls ns table flags xss ready firsts firsts_are first is_first lit in
      let d = chain_at image entry ls ns table flags xss ready firsts firsts_are g.entry_block first entry_at in
      record {
        sound = ready.sound;
        alive = begun.1;
        graph =
            record {
              entry = is_entry;
              first = contexts.first;
              rows = contexts.rows;
              rising = ready.arranged.rising;
              lists = ready.arranged.lists;
              chains = blocks_by image entry ls ns table flags xss ready;
              cut = blocks_points image entry ls ns table flags xss ready firsts firsts_are g.blocks blocks;
              blocks = ready.chains.blocks;
              ascending = ready.chains.ascending;
              count = count;
              enters = (
                mapped (at image entry ls ns table flags xss ready) d.0,
                get_mapped (mapped (at image entry ls ns table flags xss ready))
                    (chains image entry ls ns table flags xss ready) g.entry_block d.0 d.1,
                ap (at image entry ls ns table flags xss ready) d.2 ∙ begun.0,
              );
              next = blocks_next image entry ls ns table flags xss ready firsts firsts_are g.blocks blocks;
              known = block_known image entry ls ns table flags xss ready firsts firsts_are g.blocks blocks;
              cast = pruned_rise image entry ls ns table flags xss ready cast unflagged g.pruned pruned;
              pruned = pruned_are image entry ls ns table flags xss ready cast unflagged g.pruned pruned;
              kept = pruned_known image entry ls ns table flags xss ready cast unflagged g.pruned pruned known;
            };
      }

-- refusals, and the place of the entry

module _ (image : ImageValue) (entry : ℕ) (ls : List (List ℕ)) (ns : List (ℕ × ℕ)) (are : IsArranged image entry ls ns) where
  by_fault : (f : Fault) (a : ℕ) → IsFaulty image entry f a → IsRefusedGraph image entry (refusal_for f a)
  by_fault fault.Unknown a w = w
  by_fault fault.Outside a w = w
  by_fault fault.Indirect a w = w
  by_fault fault.Recursive a w = w

  pub fault_refused : (x : FoundFault) → (AreTooMany image entry → ⊥) → IsLeastOf (fault_at image entry) (points_at ls ns) (Some x)
      → IsRefusedGraph image entry (refusal_for x.fault x.address)
  fault_refused x few w =
      by_fault x.fault x.address (
        few,
        record {
          at = w.at;
          there = (are.points w.at).0 w.there;
          is = w.is;
          address = w.address;
          least = λ q f i e. w.least q f ((are.points q).1 i) e;
        },
      )

  pub all_sound : (AreTooMany image entry → ⊥) → IsLeastOf (fault_at image entry) (points_at ls ns) None → IsSound image entry
  all_sound few w = (few, λ p c. w p ((are.points p).1 c))

  pub points_few : IsSound image entry → length ns < 2 ^ 31
  points_few sound =
      let few = few_points (IsCollected image entry) most_points (points_at ls ns) (points_rise ls ns are.rising are.sorted are.under)
      (λ p i. (are.points p).0 i) sound.0 in
      let long = points_length ls ns in
      below_limit (length (points_at ls ns)) (length ns) few long
    where
      below_limit : (k n : ℕ) → k ≤ 100000 → k ≡ n → n < 2 ^ 31
      below_limit k n few long = omega (arith, few, long)

  pub entry_there : (k : ℕ) × IsNumber ns 0 entry k
  entry_there =
      let root = root_is ls are.rising ((are.lists []).1 (entry_point entry, (0, refl), refl)) in
      point_number ls ns (is_sorted image entry ls ns are) 0 entry [] root.0 root.1 ((are.points (entry_point entry)).1 (0, refl))

  pub entry_is : (k : ℕ) → slice_get ns k ≡ Some (0, entry) → (k < length (points_at ls ns))
      × (get_or (points_at ls ns) k (entry_point entry) ≡ entry_point entry)
  entry_is k e =
      let root = root_is ls are.rising ((are.lists []).1 (entry_point entry, (0, refl), refl)) in (
        subst (λ n. k < n) (sym (points_length ls ns)) (slice_get_within ns k (0, entry) e),
        get_or_from_slice_get (points_at ls ns) k (point_at ls (0, entry)) (entry_point entry) (get_mapped (point_at ls) ns k (0, entry) e)
            ∙ ap (λ z. record { returns = z; address = entry }) root.1,
      )

  pub arranged_ready : (table : List Targets) (rows : List (List ℕ)) (flags : List Bool) (first : ℕ) (xss : List (List ℕ))
      → IsSound image entry
      → AreTables (ways_from image entry) (entry_point entry) (points_at ls ns) table rows flags → slice_get ns first ≡ Some (0, entry)
      → AreLinkChains (step_in table) (before rows) (is_flagged flags) (length table) first xss → AreReady image entry ls ns table flags xss
  arranged_ready table rows flags first xss sound tables is links =
      let e = entry_is first is in
      let rise = points_rise ls ns are.rising are.sorted are.under in
      record {
        arranged = are;
        sound = sound;
        targets = tables.ahead;
        live = tables_living (ways_from image entry) (entry_point entry) (points_at ls ns) table rows flags tables;
        chains = links_blocks (ways_from image entry) (entry_point entry)
            (points_at ls ns) table rows flags first xss tables rise e.0 e.1 links;
      }

  -- without a live entry there is no way out
  pub not_alive : (table : List Targets) (rows : List (List ℕ)) (flags : List Bool) (first : ℕ) → IsSound image entry
      → AreTables (ways_from image entry) (entry_point entry) (points_at ls ns) table rows flags → slice_get ns first ≡ Some (0, entry)
      → is_flagged flags first ≡ false → IsRefusedGraph image entry why.NoReturn
  not_alive table rows flags first sound tables is off =
      let e = entry_is first is in
      let live = tables_living (ways_from image entry) (entry_point entry) (points_at ls ns) table rows flags tables in (
        sound,
        λ v. clash (is_flagged flags first) off ((live.live first e.0).1
            (subst (IsLive (ways_from image entry) (entry_point entry)) (sym e.1) v)),
      )
    where
      clash : (b : Bool) → b ≡ false → b ≡ true → ⊥
      clash b e f = cc

-- the whole of what is built
pub function_graph_is : (image : ImageValue) (entry : ℕ) (ls : List (List ℕ)) (rows : List (List ℕ)) (f : FunctionGraph)
    → AreReady image entry ls f.tables.points f.tables.targets f.tables.live f.tables.chains
    → AreSources (step_in f.tables.targets) (before rows)
    → f.tables.sources ≡ rows → IsGraphOf image entry f.graph → returns_in f.graph.contexts ≡ ls
    → map (λ (b : Block). graph_points ls b.points) f.graph.blocks
    ≡ map (map (λ i. get_or (points_at ls f.tables.points) i (entry_point entry))) f.tables.chains
    → IsFunctionGraph image entry f
function_graph_is image entry ls rows f ready back same graph e cut =
    by_lists ls (sym e) ready cut
  where
    by_lists : (ls : List (List ℕ)) → ls ≡ returns_in f.graph.contexts
        → AreReady image entry ls f.tables.points f.tables.targets f.tables.live f.tables.chains
        → map (λ (b : Block). graph_points ls b.points) f.graph.blocks
        ≡ map (map (λ i. get_or (points_at ls f.tables.points) i (entry_point entry))) f.tables.chains
        → IsFunctionGraph image entry f
    by_lists ls e ready cut =
        let now = subst (λ (zs : List (List ℕ)). AreReady image entry zs f.tables.points f.tables.targets f.tables.live f.tables.chains) e
        ready in
        record {
          graph = graph;
          arranged = now.arranged;
          targets = now.targets;
          sources = subst (λ (zs : List (List ℕ)). AreSources (step_in f.tables.targets) (before zs)) (sym same) back;
          live = now.live;
          chains = now.chains;
          cut =
              subst (λ (zs : List (List ℕ)). map (λ (b : Block). graph_points zs b.points) f.graph.blocks
              ≡ map (map (λ i. get_or (points_at zs f.tables.points) i (entry_point entry))) f.tables.chains) e cut;
        }

pub graph_from : (image : ImageValue) (entry : ℕ) (ls : List (List ℕ)) (ns : List (ℕ × ℕ)) (table : List Targets) (flags : List Bool)
    (xss : List (List ℕ)) → AreReady image entry ls ns table flags xss → (g : BlockGraph) (firsts cast : List ℕ) (first : ℕ)
    → AreContextsOf ls g.contexts → firsts ≡ map first_number xss
    → Pointwise (IsBlockOf (instruction_at image) ns table firsts) xss g.blocks
    → AreUnflagged (length ns) (is_flagged flags) cast → map point_pair g.pruned ≡ map (pair_at ns) cast
    → ((p : GraphPoint) → Contains g.pruned p → instruction_at image p.address ≡ Some p.insn)
    → slice_get ns first ≡ Some (0, entry) → is_flagged flags first ≡ true → slice_get firsts g.entry_block ≡ Some first
    → g.block_count ≡ length g.blocks → g.entry ≡ entry → IsGraphOf image entry g
graph_from image entry ls ns table flags xss ready g firsts cast first contexts firsts_are blocks unflagged pruned known is_first lit
    entry_at count is_entry =
    graph_is image entry ns table flags xss g firsts cast first
    (subst (λ (zs : List (List ℕ)). AreReady image entry zs ns table flags xss) (sym contexts.lists) ready)
    (subst (λ (zs : List (List ℕ)). AreContextsOf zs g.contexts) (sym contexts.lists) contexts)
    firsts_are blocks unflagged pruned known is_first lit entry_at count is_entry

-- the same of equal lists
pub ready_same : (image : ImageValue) (entry : ℕ) (ls : List (List ℕ)) (ns ms : List (ℕ × ℕ)) (t u : List Targets) (f h : List Bool)
    (x y : List (List ℕ)) → ms ≡ ns → u ≡ t → h ≡ f → y ≡ x → AreReady image entry ls ns t f x → AreReady image entry ls ms u h y
ready_same image entry ls ns ms t u f h x y a b c d r =
    subst (λ (zs : List (ℕ × ℕ)). AreReady image entry ls zs u h y) (sym a)
    (subst (λ (zs : List Targets). AreReady image entry ls ns zs h y) (sym b)
    (subst (λ (zs : List Bool). AreReady image entry ls ns t zs y) (sym c)
    (subst (λ (zs : List (List ℕ)). AreReady image entry ls ns t f zs) (sym d) r)))

pub links_same : (first : ℕ) (xss : List (List ℕ)) (t u : List Targets) (r s : List (List ℕ)) (f h : List Bool) → u ≡ t → s ≡ r → h ≡ f
    → AreLinkChains (step_in u) (before s) (is_flagged h) (length u) first xss
    → AreLinkChains (step_in t) (before r) (is_flagged f) (length t) first xss
links_same first xss t u r s f h a b c w =
    subst (λ (zs : List Targets). AreLinkChains (step_in zs) (before r) (is_flagged f) (length zs) first xss) a
    (subst (λ (zs : List (List ℕ)). AreLinkChains (step_in u) (before zs) (is_flagged f) (length u) first xss) b
    (subst (λ (zs : List Bool). AreLinkChains (step_in u) (before s) (is_flagged zs) (length u) first xss) c w))

pub cut_same : (ls : List (List ℕ)) (start : Point) (zs : List (List Point)) (ns ms : List (ℕ × ℕ)) (x y : List (List ℕ)) → ms ≡ ns → y ≡ x
    → zs ≡ map (map (λ i. get_or (points_at ls ms) i start)) y → zs ≡ map (map (λ i. get_or (points_at ls ns) i start)) x
cut_same ls start zs ns ms x y a b e =
    e ∙ ap (λ (n : List (ℕ × ℕ)). map (map (λ i. get_or (points_at ls n) i start)) y) a
    ∙ ap (map (map (λ i. get_or (points_at ls ns) i start))) b
