-- One node more is taken out.
use Rattle.std.proofs.Common.{◌≡◌, ℕ, suc, ◌*◌, ◌<◌, Bool, true, false, if◌then◌else◌, ◌||◌, nat_eq, List, [], ◌∷◌, ◌++◌, length, refl, sym}
use Rattle.std.proofs.Common.{ap, subst, ◌∙◌}
use Rattle.std.specs.Prelude.{◌&&◌, Option, Some, None, is_some, Result, Ok, Err}
use Rattle.wsym_terms.specs.TreeNesting.{tree_nesting}
use Rattle.wsym_terms.specs.Trees.{size_of}
use Rattle.wsym_terms.specs.declared.trees.Tree.{Tree}
use Rattle.std.specs.BTreeMap as tree
use Rattle.elimination_plans.specs.Plans.{pair_cmp}
use Rattle.elimination_plans.specs.TreeDepths.{max_over}
use Rattle.tree_law.specs.NodeOrders.{sum_over}
use Rattle.tree_law.specs.Ways.{IsIn, members, all_taken_out, edge_ways}
use Rattle.tree_law.specs.NodeOrders.{without, first_least, weight_after}
use Rattle.elimination_plans.specs.AddedWays.{listed, has}
use Rattle.elimination_plans.specs.PlanSteps.{some, and_gone, plan_step}
use Rattle.node_elimination.specs.Measures.{AreMeasures}
use Rattle.elimination_plans.proofs.WeightLemmas.{members_leaves}
use Rattle.tree_law.specs.NodeOrders.{leaves_of}
use Rattle.elimination_plans.specs.Stages.{Task, Stage, next_stage, ways_at, Went, IsDone, IsLarge, tree_members}
use Rattle.elimination_plans.specs.Weights.{into_count, out_count}
use Rattle.elimination_plans.proofs.AddedWayLemmas.{not_and, put_end}
use Rattle.elimination_plans.proofs.PlanStepLemmas.{ap2}
use Rattle.node_elimination.specs.declared.cells.Cell.{Cell}
use Rattle.node_elimination.specs.declared.tally.Sums.{Sums}
use Rattle.node_elimination.specs.declared.tally.Tally.{Tally}
use Rattle.node_elimination.specs.declared.table.Table.{Table}
use Rattle.node_elimination.specs.declared.taking.Elimination.{Elimination}
use Rattle.node_elimination.specs.Cells.{cell_of, node_cell, AreIn, cells_step, members_size, members_depth}
use Rattle.node_elimination.specs.Tables.{sums_at, Gains, Before, Keeps, without_node, leaves_at}
use Rattle.node_elimination.specs.LevelStates.{IsTask, IsStage, Holds, all_of, cell_at, cells_at, gone}
use Rattle.node_elimination.proofs.CellChangeLemmas.{self_eq, same_number}
use Rattle.node_elimination.proofs.NextNodeLemmas.{has_in, own, chosen, ins_are, outs_are, large_total, large_step}
use Rattle.node_elimination.proofs.ReachedStageLemmas.{Ready, ready, ready_next, ways_next}
use Rattle.elimination_plans.proofs.StageLemmas.{all_done}
use Rattle.node_elimination.proofs.CellStepLemmas.{cells_out, some_is, figures, size_is, depth_is}

-- the sums alone count for what a table keeps
pub keeps_sums : (all : List ℕ) (E : ℕ → ℕ → Option Cell) (t : Table) (tally : Tally) → tally.sums.items ≡ t.tally.sums.items
    → Keeps all E t → Keeps all E (record { tally = tally; cells = t.cells; links = t.links; total = t.total })
keeps_sums all E t tally e h =
    record {
      cells = h.cells;
      linked_in = h.linked_in;
      linked_out = h.linked_out;
      ins = λ u. ap (λ (l : List Sums). (sums_at l u).ins) e ∙ h.ins u;
      outs = λ u. ap (λ (l : List Sums). (sums_at l u).outs) e ∙ h.outs u;
      into = λ u. ap (λ (l : List Sums). (sums_at l u).into) e ∙ h.into u;
      out = λ u. ap (λ (l : List Sums). (sums_at l u).out) e ∙ h.out u;
      total = h.total;
    }

live_next : (v : ℕ) (xs : List ℕ) (u : ℕ) → without_node v (λ w. has w xs) u ≡ has u (without v xs)
live_next v [] u = none (nat_eq u v)
  where
    none : (b : Bool) → (if b then false else false) ≡ false
    none true = refl
    none false = refl
live_next v (x ∷ xs) u = by_test (nat_eq x v) refl (live_next v xs u)
  where
    push : (a b c : Bool) → (a ≡ true → b ≡ false) → (if a then false else b || c) ≡ (b || (if a then false else c))
    push true b c h = sym (ap (λ (z : Bool). z || false) (h refl))
    push false b c h = refl

    drop_ : (a b c : Bool) → (b ≡ true → a ≡ true) → (if a then false else b || c) ≡ (if a then false else c)
    drop_ true b c h = refl
    drop_ false true c h = absurd (let f = h refl in cc)
    drop_ false false c h = refl

    other : nat_eq x v ≡ false → nat_eq u v ≡ true → nat_eq u x ≡ false
    other e f = ap (λ (w : ℕ). nat_eq w x) (same_number u v f) ∙ turned e
      where
        turned : nat_eq x v ≡ false → nat_eq v x ≡ false
        turned g = by (nat_eq v x) refl
          where
            by : (b : Bool) → nat_eq v x ≡ b → b ≡ false
            by false i = refl
            by true i = absurd (let s = same_number v x i in let t : nat_eq x v ≡ true = ap (nat_eq x) s ∙ self_eq x in cc)

    by_test : (b : Bool) → nat_eq x v ≡ b → without_node v (λ w. has w xs) u ≡ has u (without v xs)
        → (if nat_eq u v then false else nat_eq u x || has u xs) ≡ has u (if b then without v xs else x ∷ without v xs)
    by_test true e ih = drop_ (nat_eq u v) (nat_eq u x) (has u xs) (λ f. ap (λ (w : ℕ). nat_eq w v) (same_number u x f) ∙ e) ∙ ih
    by_test false e ih = push (nat_eq u v) (nat_eq u x) (has u xs) (other e) ∙ ap (λ (b : Bool). nat_eq u x || b) ih

pub none_left : (xs : List ℕ) → ((u : ℕ) → has u xs ≡ false) → xs ≡ []
none_left [] h = refl
none_left (x ∷ xs) h = absurd (let a = h x in let b : has x (x ∷ xs) ≡ true = ap (λ (c : Bool). c || has x xs) (self_eq x) in cc)

module _ (k : Task) (rank : ℕ → ℕ) (s : Stage) (h : IsTask k rank) (reached : IsStage k s) where
  here : Ready k rank s
  here = ready k rank h reached.0 s reached.1

  are_in : AreIn (all_of k) (cells_at k s)
  are_in p q e =
      let i = here.inside p q (sym (some_is (ways_at k s p q)) ∙ e) in
      let a = h.only p i.0 in
      let b = h.only q i.1 in
      (a.0, b.0, a.1, b.1)

  module _ (old : Elimination) (held : Holds k s old) (v : ℕ) (live : has v s.left ≡ true)
      (low : (u : ℕ) → has u s.left ≡ true → Before old.table.tally v u) where
    least : first_least (weight_after k.tree k.from k.to (ways_at k s) s.left) s.left ≡ Some v
    least = chosen k rank s here old held v live low

    v_left : IsIn v s.left
    v_left = has_in v s.left live

    next : Ready k rank (next_stage v s)
    next = ready_next k rank s v here least

    cells_next : cells_at k (next_stage v s) ≡ cells_step v (node_cell (k.tree v)) (cells_at k s)
    cells_next = λ i p q. (ap (λ (X : ℕ → ℕ → List (List Tree)). cell_of (X p q)) (ways_next k rank s v here least)
        ∙ cells_out k.tree v (ways_at k s) p q) i

    no_edge : cells_at k s v v ≡ None
    no_edge = ap cell_of (own k rank s here v v_left)

    before_is : (x : ℕ) → is_some (cells_at k s x v) ≡ (if and_gone v (gone s) x then false else some (s.plan x v))
    before_is x = some_is (ways_at k s x v) ∙ by_tests (nat_eq x v) refl (gone s x) refl
      where
        by_tests : (b : Bool) → nat_eq x v ≡ b → (c : Bool) → gone s x ≡ c
            → some (ways_at k s x v) ≡ (if b || c then false else some (s.plan x v))
        by_tests true e c f = ap some (ap (λ (w : ℕ). ways_at k s w v) (same_number x v e) ∙ own k rank s here v v_left)
        by_tests false e true f = ap some (here.empty x v f).1
        by_tests false e false f = sym (here.numbered x v f (here.here v v_left))

    after_is : (y : ℕ) → is_some (cells_at k s v y) ≡ (if and_gone v (gone s) y then false else some (s.plan v y))
    after_is y = some_is (ways_at k s v y) ∙ by_tests (nat_eq y v) refl (gone s y) refl
      where
        by_tests : (b : Bool) → nat_eq y v ≡ b → (c : Bool) → gone s y ≡ c
            → some (ways_at k s v y) ≡ (if b || c then false else some (s.plan v y))
        by_tests true e c f = ap some (ap (ways_at k s v) (same_number y v e) ∙ own k rank s here v v_left)
        by_tests false e true f = ap some (here.empty y v f).0
        by_tests false e false f = sym (here.numbered v y (here.here v v_left) f)

    plan_is : (P : ℕ → ℕ → List ℕ) (places : ℕ) → ((x y : ℕ) → P x y ≡ s.plan x y) → places ≡ length s.taken → (x y : ℕ)
        → (if is_some (cells_at k s x v) && is_some (cells_at k s v y) then P x y ++ suc places ∷ [] else P x y) ≡ plan_step (gone s)
        (length s.taken) v s.plan x y
    plan_is P places same number x y =
        ap2 (λ (l : List ℕ) (n : ℕ). if is_some (cells_at k s x v) && is_some (cells_at k s v y) then l ++ suc n ∷ [] else l) (same x y)
        number
        ∙ ap2 (λ (b c : Bool). if b && c then s.plan x y ++ suc (length s.taken) ∷ [] else s.plan x y) (before_is x) (after_is y)
        ∙ not_and (and_gone v (gone s) x) (and_gone v (gone s) y) (some (s.plan x v)) (some (s.plan v y))
        (s.plan x y ++ suc (length s.taken) ∷ []) (s.plan x y)
        ∙ ap (λ l. if and_gone v (gone s) x || and_gone v (gone s) y then s.plan x y else l)
        (put_end (some (s.plan x v) && some (s.plan v y)) (s.plan x y) (suc (length s.taken)))

    pub went_on : (mid new : Elimination) → Keeps (all_of k) (cells_at k s) mid.table
        → Gains (without_node v (λ u. has u s.left)) mid.table.tally → ((x y : ℕ) → listed mid.plan.ways x y ≡ listed old.plan.ways x y)
        → mid.plan.order ≡ old.plan.order → mid.nodes.items ≡ old.nodes.items → mid.table.tally.leaves.items ≡ old.table.tally.leaves.items
        → ((all : List ℕ) (E : ℕ → ℕ → Option Cell) → Keeps all E mid.table → AreIn all E → E v v ≡ None
        → Keeps all (cells_step v (cell_at mid.nodes.items v) E) new.table)
        → ((all : List ℕ) (E : ℕ → ℕ → Option Cell) → Keeps all E mid.table → AreIn all E → E v v ≡ None → (x y : ℕ)
        → listed new.plan.ways x y ≡ (if is_some (E x v) && is_some (E v y) then listed mid.plan.ways x y ++ suc
        (length mid.plan.order) ∷ [] else listed mid.plan.ways x y))
        → new.plan.order ≡ mid.plan.order ++ v ∷ [] → new.nodes.items ≡ mid.nodes.items
        → new.table.tally.leaves.items ≡ mid.table.tally.leaves.items
        → ((live : ℕ → Bool) → Gains live mid.table.tally → Gains live new.table.tally) → Went k s (next_stage v s) true
        × Holds k (next_stage v s) new
    went_on mid new keeps gains ways order nodes leaves table plan order2 nodes2 leaves2 gains2 = (
      (v, least, refl),
      record {
        table = subst (λ (F : ℕ → ℕ → Option Cell). Keeps (all_of k) F new.table) (sym cells_next)
            (subst (λ (c : Cell). Keeps (all_of k) (cells_step v c (cells_at k s)) new.table)
            (ap (λ (l : List Cell). cell_at l v) nodes ∙ held.nodes.cells v (here.left_in v v_left))
            (table (all_of k) (cells_at k s) keeps are_in no_edge));
        gains = gains2 (λ u. has u (without v s.left)) (subst (λ (f : ℕ → Bool). Gains f mid.table.tally) (λ i u. live_next v s.left u i)
            gains);
        plan = λ x y. plan (all_of k) (cells_at k s) keeps are_in no_edge x y
            ∙ plan_is (listed mid.plan.ways) (length mid.plan.order) (λ a b. ways a b ∙ held.plan a b) (ap length (order ∙ held.order)) x
            y;
        order = order2 ∙ ap (λ (l : List ℕ). l ++ v ∷ []) (order ∙ held.order);
        nodes = record {
          cells = λ u i. ap (λ (l : List Cell). cell_at l u) (nodes2 ∙ nodes) ∙ held.nodes.cells u i;
          leaves = λ u i. ap (λ (l : List ℕ). leaves_at l u) (leaves2 ∙ leaves) ∙ held.nodes.leaves u i;
        };
      },
    )

    pub past_total : (new : Elimination) → Holds k (next_stage v s) new → 500000 < new.table.total → IsLarge 500000 k
    past_total new more past = large_total k rank (next_stage v s) next new.table more.table h.up past

    pub past_ways : (ins outs size : ℕ) → ins ≡ (sums_at old.table.tally.sums.items v).ins
        → outs ≡ (sums_at old.table.tally.sums.items v).outs → size ≡ (cell_at old.nodes.items v).size → 500000 < ins * (outs * size)
        → IsLarge 500000 k
    past_ways ins outs size a b c past =
        let ia : ins ≡ into_count (ways_at k s) v (k.from ∷ k.to ∷ without v s.left) = a ∙ ins_are k rank s here old held v v_left in
        let ob : outs ≡ out_count (ways_at k s) v (k.from ∷ k.to ∷ without v s.left) = b ∙ outs_are k rank s here old held v v_left in
        let sc : size ≡ size_of (k.tree v) = c ∙ ap (λ (x : Cell). x.size) (held.nodes.cells v (here.left_in v v_left)) in
        large_step k rank s here v v_left next (ways_next k rank s v here least) h.up
        (subst (λ (x : ℕ). 500000 < x * (out_count (ways_at k s) v (k.from ∷ k.to ∷ without v s.left) * size_of (k.tree v))) ia
        (subst (λ (x : ℕ). 500000 < ins * (x * size_of (k.tree v))) ob (subst (λ (x : ℕ). 500000 < ins * (outs * x)) sc past)))

-- ---- all nodes

abbrev pub Steps : Elimination → Elimination → Bool → Type 0
Steps old new more = (k : Task) (rank : ℕ → ℕ) (s : Stage) → IsTask k rank → IsStage k s → Holds k s old → (t : Stage) × Went k s t more
    × Holds k t new

pub on_the_way : (start old new : Elimination) (more : Bool) → more ≡ true → Steps old new more
    → (k : Task) (rank : ℕ → ℕ) → IsTask k rank → (s : Stage) × IsStage k s × Holds k s old → (s : Stage) × IsStage k s × Holds k s new
on_the_way start old new more e step k rank h (s, reached, held) = by_more more e (step k rank s h reached held)
  where
    by_more : (b : Bool) → b ≡ true → (t : Stage) × Went k s t b × Holds k t new → (s : Stage) × IsStage k s × Holds k s new
    by_more false f g = absurd (cc)
    by_more true f (t, went, next) = (t, (suc reached.0, (s, reached.1, went)), next)

pub at_the_end : (old new : Elimination) (more : Bool) → more ≡ false → Steps old new more
    → (k : Task) (rank : ℕ → ℕ) → IsTask k rank → (s : Stage) × IsStage k s × Holds k s old → (s : Stage) × IsDone k s × Holds k s new
at_the_end old new more e step k rank h (s, reached, held) = by_more more e (step k rank s h reached held)
  where
    by_more : (b : Bool) → b ≡ false → (t : Stage) × Went k s t b × Holds k t new → (s : Stage) × IsDone k s × Holds k s new
    by_more true f g = absurd (cc)
    by_more false f (t, went, next) = (
      s,
      all_done k s (ready k rank h reached.0 s reached.1).way went.0,
      subst
          (λ (x : Stage). Holds k x new) went.1 next,
    )

pub measured : (k : Task) (s : Stage) (from to : ℕ) → IsDone k s → k.from ≡ from → k.to ≡ to
    → members (ways_at k s from to) ≡ tree_members k
measured k s from to d e f =
    ap2 (λ (x y : ℕ). members (ways_at k s x y)) (sym e) (sym f)
    ∙ ap (λ (vs : List ℕ). members (all_taken_out k.tree vs (edge_ways k.edge) k.from k.to)) d.0

pub sizes_are : (k : Task) (s : Stage) (e : Elimination) (from to : ℕ) (c : Cell) (o : Option Cell)
    → o ≡ tree.get pair_cmp e.table.cells (from, to) → o ≡ Some c → IsDone k s → Holds k s e → k.from ≡ from → k.to ≡ to
    → AreMeasures k (record { count = 1; leaves = c.leaves; size = members_size c; depth = members_depth c })
sizes_are k s e from to c o got is d held a b = by_ways (ways_at k s from to) refl
  where
    found : cells_at k s from to ≡ Some c
    found = sym (held.table.cells from to) ∙ sym got ∙ is

    same : (x y : Cell) → ◌≡◌ {A = Option Cell} (Some x) (Some y) → x ≡ y
    same x y p = ap (unwrapped x) p
      where
        unwrapped : Cell → Option Cell → Cell
        unwrapped z None = z
        unwrapped z (Some w) = w

    by_ways : (ws : List (List Tree)) → ways_at k s from to ≡ ws
        → AreMeasures k (record { count = 1; leaves = c.leaves; size = members_size c; depth = members_depth c })
    by_ways [] f = absurd (let g : ◌≡◌ {A = Option Cell} None (Some c) = sym (ap cell_of f) ∙ found in cc)
    by_ways (w ∷ ws) f =
        let g : c ≡ figures (w ∷ ws) = same c (figures (w ∷ ws)) (sym found ∙ ap cell_of f) in
        let m : members (w ∷ ws) ≡ tree_members k = ap members (sym f) ∙ measured k s from to d a b in
        record {
          leaves = ap (λ (x : Cell). x.leaves) g ∙ sym (members_leaves (w ∷ ws)) ∙ ap (sum_over leaves_of) m;
          size = ap members_size g ∙ sym (size_is w ws) ∙ ap (sum_over size_of) m;
          depth = ap members_depth g ∙ sym (depth_is w ws) ∙ ap (max_over tree_nesting) m;
        }

pub no_sizes : (k : Task) (s : Stage) (e : Elimination) (from to : ℕ) (o : Option Cell) → o ≡ tree.get pair_cmp e.table.cells (from, to)
    → o ≡ None → IsDone k s → Holds k s e → k.from ≡ from → k.to ≡ to
    → AreMeasures k (record { count = 1; leaves = 0; size = 0; depth = 0 })
no_sizes k s e from to o got is d held a b = by_ways (ways_at k s from to) refl
  where
    by_ways : (ws : List (List Tree)) → ways_at k s from to ≡ ws
        → AreMeasures k (record { count = 1; leaves = 0; size = 0; depth = 0 })
    by_ways [] f =
        let m : [] ≡ tree_members k = ap members (sym f) ∙ measured k s from to d a b in
        record { leaves = ap (sum_over leaves_of) m; size = ap (sum_over size_of) m; depth = ap (max_over tree_nesting) m }
    by_ways (w ∷ ws) f = absurd (let g : ◌≡◌ {A = Option Cell} (cell_of (w ∷ ws)) None = sym (ap cell_of f) ∙ sym (held.table.cells from to)
        ∙ sym got ∙ is in cc)

pub measures_of : (k : Task) (c : Cell) (size depth : ℕ) → size ≡ members_size c → depth ≡ members_depth c
    → AreMeasures k (record { count = 1; leaves = c.leaves; size = members_size c; depth = members_depth c })
    → AreMeasures k (record { count = 1; leaves = c.leaves; size = size; depth = depth })
measures_of k c size depth e f m = record { leaves = m.leaves; size = e ∙ m.size; depth = f ∙ m.depth }

abbrev err_of : {T U E : Type 0} → E → Result T E → Result U E
err_of d (Ok t) = Err d
err_of d (Err e) = Err e

pub other_ok : {T U E : Type 0} (a b : E) → ◌≡◌ {A = Result T E} (Err a) (Err b) → ◌≡◌ {A = Result U E} (Err a) (Err b)
other_ok a b e = ap (err_of a) e
