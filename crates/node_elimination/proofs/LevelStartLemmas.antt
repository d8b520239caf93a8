-- A level as the code begins with it.
use Rattle.std.proofs.Common.{◌≡◌, ℕ, zero, suc, ◌+◌, ◌<◌, Bool, true, false, if◌then◌else◌, ◌||◌, nat_eq, List, [], ◌∷◌, ◌++◌, take}
use Rattle.std.proofs.Common.{get_or, length, refl, sym, ap, subst, ◌∙◌, arith}
use Rattle.std.specs.Prelude.{◌&&◌, cond, Option, Some, None}
use Rattle.std.specs.BTreeMap as tree
use Rattle.std.specs.BTreeMap.{is_at}
use Rattle.std.specs.Map.{lookup}
use Rattle.std.specs.BTreeSet as keys
use Rattle.std.specs.BTreeSet.{BTreeSet}
use Rattle.std.proofs.lemmas.List.{take_more}
use Rattle.tree_law.specs.NodeOrders.{sum_over}
use Rattle.graph_reduction.specs.Sets.{edge_cmp}
use Rattle.elimination_plans.specs.Plans.{pair_cmp, or_none}
use Rattle.elimination_plans.specs.AddedWays.{listed, has, one_added}
use Rattle.elimination_plans.specs.PlanSteps.{edge_plan}
use Rattle.elimination_plans.specs.Stages.{Task, first_stage}
use Rattle.elimination_plans.specs.Weights.{Only}
use Rattle.elimination_plans.proofs.PlanStepLemmas.{ap2}
use Rattle.node_elimination.specs.declared.cells.Cell.{Cell}
use Rattle.node_elimination.specs.declared.tally.Sums.{Sums}
use Rattle.node_elimination.specs.declared.tally.Tally.{Tally}
use Rattle.node_elimination.specs.declared.table.Table.{Table}
use Rattle.node_elimination.specs.declared.taking.Elimination.{Elimination}
use Rattle.node_elimination.specs.Cells.{cell_of, put, joined}
use Rattle.node_elimination.specs.Tables.{no_sums, sums_at, leaves_at, gain_at, Gains, Keeps}
use Rattle.node_elimination.specs.LevelStates.{IsTask, Holds, all_of, cell_at, cells_at}
use Rattle.node_elimination.specs.GivenLevels.{zeros, own_leaves, IsBlank, IsGiven, plain, plain_of, with_edge, edges_of, AllOnly}
use Rattle.node_elimination.proofs.CellChangeLemmas.{pair_at, self_eq, same_number}
use Rattle.node_elimination.proofs.StageStateLemmas.{keeps_sums}

-- ---- no edges

no_sum : (u : ℕ) (numbers : List Cell) → sums_at (zeros numbers) u ≡ no_sums
no_sum u [] = refl
no_sum zero (c ∷ cs) = refl
no_sum (suc u) (c ∷ cs) = no_sum u cs

own_leaf : (u : ℕ) (numbers : List Cell) → leaves_at (own_leaves numbers) u ≡ (cell_at numbers u).leaves
own_leaf u [] = refl
own_leaf zero (c ∷ cs) = refl
own_leaf (suc u) (c ∷ cs) = own_leaf u cs

nothing : (xs : List ℕ) → sum_over (λ (x : ℕ). 0) xs ≡ 0
nothing [] = refl
nothing (x ∷ xs) = (let r = nothing xs in omega (arith, r))

nothing_twice : (xs ys : List ℕ) → sum_over (λ (x : ℕ). sum_over (λ (y : ℕ). 0) ys) xs ≡ 0
nothing_twice [] ys = refl
nothing_twice (x ∷ xs) ys = (let a = nothing ys in let r = nothing_twice xs ys in omega (arith, a, r))

pub blank_keeps : (numbers : List Cell) (e : Elimination) → IsBlank numbers e → (all : List ℕ) → Keeps all (plain_of (edges_of [])) e.table
blank_keeps numbers e h all =
    record {
      cells = λ p q. ap (λ (es : List ((ℕ × ℕ) × Cell)). lookup (is_at (pair_cmp (p, q))) es) h.cells;
      linked_in = λ v u. ap (λ (ks : List (ℕ × ℕ × ℕ)). keys.contains edge_cmp (record { keys = ks }) (v, 0, u)) h.links;
      linked_out = λ v u. ap (λ (ks : List (ℕ × ℕ × ℕ)). keys.contains edge_cmp (record { keys = ks }) (v, 1, u)) h.links;
      ins = λ u. ap (λ (s : Sums). s.ins) (all_zero u) ∙ sym (nothing all);
      outs = λ u. ap (λ (s : Sums). s.outs) (all_zero u) ∙ sym (nothing all);
      into = λ u. ap (λ (s : Sums). s.into) (all_zero u) ∙ sym (nothing all);
      out = λ u. ap (λ (s : Sums). s.out) (all_zero u) ∙ sym (nothing all);
      total = h.total ∙ sym (nothing_twice all all);
    }
  where
    all_zero : (u : ℕ) → sums_at e.table.tally.sums.items u ≡ no_sums
    all_zero u = ap (λ (l : List Sums). sums_at l u) h.sums ∙ no_sum u numbers

pub blank_ways : (numbers : List Cell) (e : Elimination) → IsBlank numbers e → (x y : ℕ) → listed e.plan.ways x y ≡ []
blank_ways numbers e h x y = ap (λ (es : List ((ℕ × ℕ) × List ℕ)). or_none (lookup (is_at (pair_cmp (x, y))) es)) h.ways

pub blank_gains : (numbers : List Cell) (e : Elimination) → IsBlank numbers e → Gains (λ u. false) e.table.tally
blank_gains numbers e h g u = ap (λ (ks : List (ℕ × ℕ)). keys.contains pair_cmp (record { keys = ks }) (g, u)) h.gains

-- ---- one edge more

pub edge_there : (p q : ℕ) (edge : ℕ → ℕ → Bool) → edge p q ≡ true → edge ≡ with_edge p q edge
edge_there p q edge e = λ i x y. is x y i
  where
    is : (x y : ℕ) → edge x y ≡ ((nat_eq x p && nat_eq y q) || edge x y)
    is x y = by_tests (nat_eq x p) refl (nat_eq y q) refl
      where
        by_tests : (a : Bool) → nat_eq x p ≡ a → (b : Bool) → nat_eq y q ≡ b → edge x y ≡ ((a && b) || edge x y)
        by_tests true f true g = ap2 edge (same_number x p f) (same_number y q g) ∙ e
        by_tests true f false g = refl
        by_tests false f b g = refl

plain_none : (b : Bool) → ◌≡◌ {A = Option Cell} (if b then Some plain else None) None → b ≡ false
plain_none true e = absurd (cc)
plain_none false e = refl

plain_some : (b : Bool) (c : Cell) → ◌≡◌ {A = Option Cell} (if b then Some plain else None) (Some c) → b ≡ true
plain_some true c e = refl
plain_some false c e = absurd (cc)

pub was_there : (p q : ℕ) (all : List ℕ) (edge : ℕ → ℕ → Bool) (t : Table) (c : Cell) (o : Option Cell)
    → o ≡ tree.get pair_cmp t.cells (p, q) → o ≡ Some c → Keeps all (plain_of edge) t → edge ≡ with_edge p q edge
was_there p q all edge t c o got is k = edge_there p q edge (plain_some (edge p q) c (sym (k.cells p q) ∙ sym got ∙ is))

pub was_none : (p q : ℕ) (all : List ℕ) (edge : ℕ → ℕ → Bool) (t : Table) (o : Option Cell) → o ≡ tree.get pair_cmp t.cells (p, q)
    → o ≡ None → Keeps all (plain_of edge) t → edge p q ≡ false
was_none p q all edge t o got is k = plain_none (edge p q) (sym (k.cells p q) ∙ sym got ∙ is)

pub edge_added : (p q : ℕ) (edge : ℕ → ℕ → Bool) → edge p q ≡ false → put p q (Some (joined (plain_of edge p q) plain)) (plain_of edge) ≡
    plain_of (with_edge p q edge)
edge_added p q edge e = λ i x y. is x y i
  where
    new : ◌≡◌ {A = Option Cell} (Some (joined (plain_of edge p q) plain)) (Some plain)
    new = ap (λ (b : Bool). Some (joined (if b then Some plain else None) plain)) e

    by_test : (x y : ℕ) (b : Bool) → (if b then Some (joined (plain_of edge p q) plain) else plain_of edge x y) ≡
        (if b || edge x y then Some plain else None)
    by_test x y true = new
    by_test x y false = refl

    is : (x y : ℕ) → put p q (Some (joined (plain_of edge p q) plain)) (plain_of edge) x y ≡ plain_of (with_edge p q edge) x y
    is x y = by_test x y (nat_eq x p && nat_eq y q)

pub way_put : (p q : ℕ) (edge : ℕ → ℕ → Bool) (P Q : ℕ → ℕ → List ℕ) → edge p q ≡ false → ((x y : ℕ) → P x y ≡ edge_plan edge x y)
    → ((x y : ℕ) → Q x y ≡ one_added p q 0 P x y) → (x y : ℕ) → Q x y ≡ edge_plan (with_edge p q edge) x y
way_put p q edge P Q e old new x y = new x y ∙ by_tests (nat_eq x p) refl (nat_eq y q) refl
  where
    by_tests : (a : Bool) → nat_eq x p ≡ a → (b : Bool) → nat_eq y q ≡ b
        → (if a && b then P x y ++ 0 ∷ [] else P x y) ≡ (if (a && b) || edge x y then 0 ∷ [] else [])
    by_tests true f true g =
        let none : edge x y ≡ false = ap2 edge (same_number x p f) (same_number y q g) ∙ e in
        ap (λ (l : List ℕ). l ++ 0 ∷ []) (old x y ∙ ap (λ (b : Bool). if b then 0 ∷ [] else []) none)
    by_tests true f false g = old x y
    by_tests false f b g = old x y

-- ---- lists

or_swap : (a b : Bool) → (a || b) ≡ (b || a)
or_swap true true = refl
or_swap true false = refl
or_swap false true = refl
or_swap false false = refl

or_group : (a b c : Bool) → (a || (b || c)) ≡ (b || (a || c))
or_group true true c = refl
or_group true false c = refl
or_group false b c = refl

edges_last : (es : List (ℕ × ℕ)) (z : ℕ × ℕ) (x y : ℕ) → edges_of (es ++ z ∷ []) x y ≡ ((nat_eq x z.0 && nat_eq y z.1) || edges_of es x y)
edges_last [] z x y = refl
edges_last (e ∷ es) z x y = ap (λ (b : Bool). (nat_eq x e.0 && nat_eq y e.1) || b) (edges_last es z x y)
    ∙ or_group (nat_eq x e.0 && nat_eq y e.1) (nat_eq x z.0 && nat_eq y z.1) (edges_of es x y)

pub edges_more : (es : List (ℕ × ℕ)) (i : ℕ) (d : ℕ × ℕ) → i < length es
    → with_edge (get_or es i d).0 (get_or es i d).1 (edges_of (take i es)) ≡ edges_of (take (i + 1) es)
edges_more es i d l = (λ j x y. sym (edges_last (take i es) (get_or es i d) x y) j) ∙ ap edges_of (sym (take_more es i d l))

pub only_at : (all : List ℕ) (es : List (ℕ × ℕ)) (i : ℕ) (d : ℕ × ℕ) → AllOnly all es → i < length es → Only (get_or es i d).0 all
    × Only (get_or es i d).1 all
only_at all [] i d a l = absurd (omega (arith, l))
only_at all (e ∷ es) zero d a l = (a.0, a.1)
only_at all (e ∷ es) (suc i) d a l = only_at all es i d a.2 (omega (arith, l))

has_last : (u : ℕ) (us : List ℕ) (z : ℕ) → has u (us ++ z ∷ []) ≡ (nat_eq u z || has u us)
has_last u [] z = refl
has_last u (x ∷ us) z = ap (λ (b : Bool). nat_eq u x || b) (has_last u us z) ∙ or_group (nat_eq u x) (nat_eq u z) (has u us)

pub has_more : (us : List ℕ) (i d : ℕ) → i < length us → ◌≡◌ {A = ℕ → Bool} (λ u. nat_eq u (get_or us i d) || has u (take i us))
    (λ u. has u (take (i + 1) us))
has_more us i d l = (λ j u. sym (has_last u (take i us) (get_or us i d)) j)
    ∙ ap (λ (ys : List ℕ). λ (u : ℕ). has u ys) (sym (take_more us i d l))

-- ---- gains

pub node_put : (t : Tally) (new : BTreeSet (ℕ × ℕ)) (v a : ℕ) → a ≡ gain_at t v
    → ((k : ℕ × ℕ) → keys.contains pair_cmp new k ≡ cond (is_at (pair_cmp (a, v)) k) true (keys.contains pair_cmp t.gains k))
    → (live : ℕ → Bool) → Gains live t → (g u : ℕ) → keys.contains pair_cmp new (g, u) ≡ ((nat_eq u v || live u) && nat_eq g (gain_at t u))
node_put t new v a is into live h g u = into (g, u) ∙ ap2 (λ (c o : Bool). cond c true o) (pair_at a v g u) (h g u)
    ∙ by_test (nat_eq u v) refl
  where
    here : (x y m : Bool) → y ≡ x → cond (x && true) true (m && y) ≡ (true && y)
    here true true m e = refl
    here true false m e = absurd (cc)
    here false true m e = absurd (cc)
    here false false true e = refl
    here false false false e = refl

    away : (x m : Bool) → cond (x && false) true m ≡ m
    away true m = refl
    away false m = refl

    by_test : (b : Bool) → nat_eq u v ≡ b → cond (nat_eq g a && b) true (live u && nat_eq g (gain_at t u)) ≡
        ((b || live u) && nat_eq g (gain_at t u))
    by_test true e = here (nat_eq g a) (nat_eq g (gain_at t u)) (live u) (ap (nat_eq g) (ap (gain_at t) (same_number u v e) ∙ sym is))
    by_test false e = away (nat_eq g a) (live u && nat_eq g (gain_at t u))

-- ---- the whole

all_only : (k : Task) (rank : ℕ → ℕ) → IsTask k rank → (es : List (ℕ × ℕ)) → ((p q : ℕ) → edges_of es p q ≡ true → k.edge p q ≡ true)
    → AllOnly (all_of k) es
all_only k rank h [] sub = tt
all_only k rank h (e ∷ es) sub =
    let i = h.inside e.0 e.1 (sub e.0 e.1 (ap2 (λ (a b : Bool). (a && b) || edges_of es e.0 e.1) (self_eq e.0) (self_eq e.1))) in (
      (h.only e.0 i.0).0,
      (h.only e.1 i.1).0,
      all_only k rank h es (λ p q f. sub p q
          (ap (λ (b : Bool). (nat_eq p e.0 && nat_eq q e.1) || b) f ∙ or_true (nat_eq p e.0 && nat_eq q e.1))),
    )
  where
    or_true : (b : Bool) → (b || true) ≡ true
    or_true true = refl
    or_true false = refl

pub given_only : (k : Task) (rank : ℕ → ℕ) (numbers : List Cell) (es : List (ℕ × ℕ)) (nodes : List ℕ) → IsTask k rank
    → IsGiven k numbers es nodes → AllOnly (all_of k) es
given_only k rank numbers es nodes h g = all_only k rank h es (λ p q e. g.edges_are p q ∙ e)

pub first_cells : (k : Task) (numbers : List Cell) (es : List (ℕ × ℕ)) (nodes : List ℕ) → IsGiven k numbers es nodes
    → plain_of (edges_of es) ≡ cells_at k (first_stage k)
first_cells k numbers es nodes g = λ i p q. (ap (λ (b : Bool). if b then Some plain else None) (sym (g.edges_are p q))
    ∙ by_edge (k.edge p q)) i
  where
    by_edge : (b : Bool) → ◌≡◌ {A = Option Cell} (if b then Some plain else None) (cell_of (if b then [] ∷ [] else []))
    by_edge true = refl
    by_edge false = refl

pub begun : (k : Task) (rank : ℕ → ℕ) (numbers : List Cell) (es : List (ℕ × ℕ)) (nodes : List ℕ) (blank mid : Elimination) (tally : Tally)
    → IsTask k rank → IsGiven k numbers es nodes → IsBlank numbers blank
    → ((all : List ℕ) → Keeps all (plain_of (edges_of [])) blank.table → ((x y : ℕ) → listed blank.plan.ways x y ≡ []) → AllOnly all es
    → Keeps all (plain_of (edges_of es)) mid.table × ((x y : ℕ) → listed mid.plan.ways x y ≡ edge_plan (edges_of es) x y))
    → mid.plan.order ≡ blank.plan.order → mid.nodes.items ≡ blank.nodes.items
    → mid.table.tally.leaves.items ≡ blank.table.tally.leaves.items
    → ((live : ℕ → Bool) → Gains live blank.table.tally → Gains live mid.table.tally)
    → (Gains (λ u. false) mid.table.tally → Gains (λ u. has u nodes) tally) → tally.sums.items ≡ mid.table.tally.sums.items
    → tally.leaves.items ≡ mid.table.tally.leaves.items
    → Holds k (first_stage k) (record {
      table = record {
        tally = tally;
        cells = mid.table.cells;
        links = mid.table.links;
        total
            = mid.table.total;
      };
      plan = mid.plan;
      nodes = mid.nodes;
    })
begun k rank numbers es nodes blank mid tally h g b edges order same leaves gains all_nodes sums own =
    let r = edges (all_of k) (blank_keeps numbers blank b (all_of k)) (blank_ways numbers blank b) (given_only k rank numbers es nodes h g)
    in
    record {
      table = keeps_sums (all_of k) (cells_at k (first_stage k)) mid.table tally sums
          (subst (λ (F : ℕ → ℕ → Option Cell). Keeps (all_of k) F mid.table) (first_cells k numbers es nodes g) r.0);
      gains = subst (λ (l : List ℕ). Gains (λ u. has u l) tally) (sym g.nodes_are)
          (all_nodes (gains (λ u. false) (blank_gains numbers blank b)));
      plan = λ p q. r.1 p q ∙ ap (λ (c : Bool). if c then 0 ∷ [] else []) (sym (g.edges_are p q));
      order = order ∙ b.order;
      nodes = record {
        cells = λ v i. ap (λ (l : List Cell). cell_at l v) (same ∙ b.nodes) ∙ g.trees_are v i;
        leaves = λ v i. ap (λ (l : List ℕ). leaves_at l v) (own ∙ leaves ∙ b.leaves) ∙ own_leaf v numbers
            ∙ ap (λ (c : Cell). c.leaves) (g.trees_are v i);
      };
    }

zeros_last : (cs : List Cell) (c : Cell) → zeros (cs ++ c ∷ []) ≡ zeros cs ++ no_sums ∷ []
zeros_last [] c = refl
zeros_last (x ∷ cs) c = ap (λ (l : List Sums). no_sums ∷ l) (zeros_last cs c)

leaves_last : (cs : List Cell) (c : Cell) → own_leaves (cs ++ c ∷ []) ≡ own_leaves cs ++ c.leaves ∷ []
leaves_last [] c = refl
leaves_last (x ∷ cs) c = ap (λ (l : List ℕ). x.leaves ∷ l) (leaves_last cs c)

pub zeros_step : (cs : List Cell) (i : ℕ) (old new : List Sums) → new ≡ old ++ no_sums ∷ [] → old ≡ zeros (take i cs) → i < length cs
    → new ≡ zeros (take (i + 1) cs)
zeros_step cs i old new more so l = more ∙ ap (λ (ys : List Sums). ys ++ no_sums ∷ []) so ∙ sym (zeros_last (take i cs) (get_or cs i plain))
    ∙ ap zeros (sym (take_more cs i plain l))

pub leaves_step : (cs : List Cell) (i : ℕ) (d : Cell) (old new : List ℕ) → new ≡ old ++ (get_or cs i d).leaves ∷ []
    → old ≡ own_leaves (take i cs) → i < length cs → new ≡ own_leaves (take (i + 1) cs)
leaves_step cs i d old new more so l = more ∙ ap (λ (ys : List ℕ). ys ++ (get_or cs i d).leaves ∷ []) so
    ∙ sym (leaves_last (take i cs) (get_or cs i d)) ∙ ap own_leaves (sym (take_more cs i d l))

pub edges_step : (all : List ℕ) (es : List (ℕ × ℕ)) (i : ℕ) (d : ℕ × ℕ) (old new : Elimination)
    → ((all : List ℕ) (edge : ℕ → ℕ → Bool) → Keeps all (plain_of edge) old.table → Only (get_or es i d).0 all → Only (get_or es i d).1 all
    → Keeps all (plain_of (with_edge (get_or es i d).0 (get_or es i d).1 edge)) new.table)
    → ((all : List ℕ) (edge : ℕ → ℕ → Bool) → Keeps all (plain_of edge) old.table
    → ((x y : ℕ) → listed old.plan.ways x y ≡ edge_plan edge x y) → (x y : ℕ)
    → listed new.plan.ways x y ≡ edge_plan (with_edge (get_or es i d).0 (get_or es i d).1 edge) x y)
    → AllOnly all es → i < length es → Keeps all (plain_of (edges_of (take i es))) old.table
    × ((x y : ℕ) → listed old.plan.ways x y ≡ edge_plan (edges_of (take i es)) x y)
    → Keeps all (plain_of (edges_of (take (i + 1) es))) new.table × ((x y : ℕ)
    → listed new.plan.ways x y ≡ edge_plan (edges_of (take (i + 1) es)) x y)
edges_step all es i d old new keeps ways only l k =
    let o = only_at all es i d only l in (
      subst (λ (e : ℕ → ℕ → Bool). Keeps all (plain_of e) new.table) (edges_more es i d l) (keeps all (edges_of (take i es)) k.0 o.0 o.1),
      subst (λ (e : ℕ → ℕ → Bool). (x y : ℕ) → listed new.plan.ways x y ≡ edge_plan e x y) (edges_more es i d l)
          (ways all (edges_of (take i es)) k.0 k.1),
    )
