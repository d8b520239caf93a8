-- The points of a graph, as they are made one by one, are the points of the function.
use Rattle.std.proofs.Common.{◌≡◌, refl, sym, ap, ◌∙◌, subst, ℕ, zero, suc, ◌+◌, ◌<◌, ◌≤◌, ◌⊎◌, inl, inr, List, [], ◌∷◌, ◌++◌, length, get_or}
use Rattle.std.proofs.Common.{map, arith}
use Rattle.std.specs.Prelude.{Result, Ok, Err, IfOk, IfErr, OnOk}
use Rattle.std.specs.Prelude.{Option, Some, None, slice_get, IfSome, Contains, ◌^◌}
use Rattle.std.proofs.lemmas.List.{length-append}
use Rattle.std.proofs.lemmas.Option.{slice_get-get_or, slice_get_within, get_or_from_slice_get}
use Rattle.elf32_image.specs.Parts.{ImageValue}
use Rattle.control_flow.specs.Instructions.{instruction_at}
use Rattle.control_flow.specs.Points.{entry_point, last_return}
use Rattle.control_flow.specs.Ways.{ways_from}
use Rattle.function_points.specs.Contexts.{AreContexts, lists_of}
use Rattle.function_points.specs.PointLists.{point_at, points_at}
use Rattle.function_points.proofs.MemberLemmas.{here, there}
use Rattle.function_points.proofs.PointLemmas.{last_back, points_length}
use Rattle.basic_blocks.proofs.NumberLemmas.{map_in}
use Rattle.point_order.proofs.PlaceLemmas.{from_mapped, get_mapped}
use Rattle.point_tables.specs.declared.targets.Targets.{Targets}
use Rattle.point_tables.specs.Targets.{AreTargets, numbers_in, target_numbers, targets_of}
use Rattle.flow_graph.specs.declared.graph.Context.{Context}
use Rattle.flow_graph.specs.declared.graph.FunctionGraph.{FunctionGraph}
use Rattle.flow_graph.specs.Graphs.{context_row, returns_in, rows_of}
use Rattle.flow_graph.specs.Tables.{IsFunctionGraph, points_of}
use Rattle.flow_graph.proofs.AgreementLemmas.{same_places}
use Rattle.flow_graph.proofs.GraphLemmas.{clear_point, entry_is, entry_there, map_length, points_few, some_at}
use Rattle.copy_facts.specs.declared.sites.Site.{Site}
use Rattle.copy_facts.specs.Frames.{AreFramePoints, IsSite}
use Rattle.copy_facts.specs.Searching.{IsInside}
use Rattle.function_frames.specs.Points.{AreLists, AreSitesTo}

-- what follows of results

pub if_ok : {T E : Type 0} (P Q : T → Type 0) → ((x : T) → P x → Q x) → (r : Result T E) → IfOk r P → IfOk r Q
if_ok P Q f (Ok x) p = f x p
if_ok P Q f (Err e) p = tt

pub if_err : {T E : Type 0} (P Q : E → Type 0) → ((x : E) → P x → Q x) → (r : Result T E) → IfErr r P → IfErr r Q
if_err P Q f (Ok x) p = tt
if_err P Q f (Err e) p = f e p

pub on_ok : {T E : Type 0} (P Q : Type 0) → (P → Q) → (r : Result T E) → OnOk r P → OnOk r Q
on_ok P Q f (Ok x) p = f p
on_ok P Q f (Err e) p = tt

-- the return address of a context

abbrev pub no_calls : Context
no_calls = record { parent = 0; return_address = 0 }

home_in : (cs : List Context) (look : ℕ × ℕ → Option ℕ) → AreContexts (map context_row cs) look → (k : ℕ)
    → k < length (lists_of (map context_row cs))
    → (k ≡ 0 → ⊥) → Some (get_or (no_calls ∷ cs) k no_calls).return_address ≡ last_return (get_or (lists_of (map context_row cs)) k [])
home_in cs look a zero l n = absurd (n refl)
home_in cs look a (suc k) l n =
    let rows = map context_row cs in
    let long = a.long in
    let mapped = map_length context_row cs in
    let c = some_at cs k (omega (arith, l, long, mapped)) in
    let list = a.list k (context_row c.0) (get_mapped context_row cs k c.0 c.1) in
    ap (λ (x : Context). Some x.return_address) (get_or_from_slice_get cs k c.0 no_calls c.1) ∙ sym
    (ap last_return (get_or_from_slice_get (lists_of rows) (suc k) (get_or (lists_of rows) c.0.parent [] ++ c.0.return_address ∷ []) []
    list)
    ∙ (last_back (get_or (lists_of rows) c.0.parent []) c.0.return_address).0)

pub home_is : (contexts : List Context) → AreLists contexts → (k : ℕ) → k < length (returns_in contexts) → (k ≡ 0 → ⊥)
    → Some (get_or contexts k no_calls).return_address ≡ last_return (get_or (returns_in contexts) k [])
home_is contexts a k l n =
    let first = a.first in
    let rows = a.rows in
    let whole = first.1 in
    subst (λ zs. Some (get_or zs k no_calls).return_address ≡ last_return (get_or (returns_in zs) k [])) (sym whole)
    (home_in first.0 rows.0 (subst (λ zs. AreContexts (rows_of zs) rows.0) whole rows.1) k
    (subst (λ zs. k < length (returns_in zs)) whole l) n)

pub home_none : (contexts : List Context) → AreLists contexts → None ≡ last_return (get_or (returns_in contexts) 0 [])
home_none contexts a =
    sym (ap last_return (get_or_from_slice_get (returns_in contexts) 0 [] [] a.rows.1.root))

-- the number of contexts
pub contexts_long : (contexts : List Context) → AreLists contexts → length contexts ≡ length (returns_in contexts)
contexts_long contexts a =
    let whole = a.first.1 in
    let long = a.rows.1.long in
    let mapped = map_length context_row a.first.0 in
    let rows : length (rows_of contexts) ≡ length (map context_row a.first.0) = ap (λ zs. length (rows_of zs)) whole in
    let all : length contexts ≡ suc (length a.first.0) = ap length whole in
    omega (arith, long, mapped, rows, all)

-- one point more

pushed : {A : Type 0} (xs : List A) (x y : A) (i : ℕ) → slice_get (xs ++ x ∷ []) i ≡ Some y → (slice_get xs i ≡ Some y)
    ⊎ ((i ≡ length xs) × (x ≡ y))
pushed [] x y zero e = let same : x ≡ y = cc in inr (refl, same)
pushed [] x y (suc i) e = absurd (cc)
pushed (z ∷ xs) x y zero e = inl e
pushed (z ∷ xs) x y (suc i) e =
    elim (pushed xs x y i e) as (λ _. (slice_get xs i ≡ Some y) ⊎ ((suc i ≡ suc (length xs)) × (x ≡ y))) [
      | inl old ↦ inl old
      | inr new ↦ inr (ap suc new.0, new.1)
    ]

pub site_more : (image : ImageValue) (ls : List (List ℕ)) (ns : List (ℕ × ℕ)) (table : List Targets) (at : ℕ) (out new : List Site)
    (site : Site) → AreSitesTo image ls ns table at out → IsSite image (point_at ls (get_or ns at (0, 0))) site
    → slice_get table at ≡ Some site.targets → new ≡ out ++ site ∷ [] → AreSitesTo image ls ns table (at + 1) new
site_more image ls ns table at out new site a is targets e = record { long = long; each = each } where
  long : length new ≡ at + 1
  long = let old = a.long in let sum = ap length e ∙ length-append out (site ∷ []) in omega (arith, old, sum)

  each : (i : ℕ) (s : Site) → slice_get new i ≡ Some s
      → IsSite image (point_at ls (get_or ns i (0, 0))) s × (slice_get table i ≡ Some s.targets)
  each i s f =
      elim (pushed out site s i (subst (λ zs. slice_get zs i ≡ Some s) e f)) as
      (λ _. IsSite image (point_at ls (get_or ns i (0, 0))) s × (slice_get table i ≡ Some s.targets)) [
        | inl old ↦ a.each i s old
        | inr same ↦
            subst (λ k. IsSite image (point_at ls (get_or ns k (0, 0))) s × (slice_get table k ≡ Some s.targets)) (sym (same.0 ∙ a.long))
            (subst (λ (z : Site). IsSite image (point_at ls (get_or ns at (0, 0))) z × (slice_get table at ≡ Some z.targets)) same.1
            (is, targets))
      ]

pub added_site : (image : ImageValue) (ls : List (List ℕ)) (ns : List (ℕ × ℕ)) (table : List Targets) (at : ℕ) (out new : List Site)
    (site : Site) (d : Targets) → AreSitesTo image ls ns table at out → IsSite image (point_at ls (get_or ns at (0, 0))) site
    → at < length table → site.targets ≡ get_or table at d → new ≡ out ++ site ∷ [] → AreSitesTo image ls ns table (at + 1) new
added_site image ls ns table at out new site d a is l e f =
    site_more image ls ns table at out new site a is (slice_get-get_or table at d l ∙ ap Some (sym e)) f

-- targets are inside

done_in : (d s : Option ℕ) (n : ℕ) → ((j : ℕ) → Contains (numbers_in d ++ numbers_in s) j → j ≤ n) → IfSome d (λ j. j ≤ n)
done_in None s n h = tt
done_in (Some j) s n h = h j (here j (numbers_in s))

skipped_in : (d s : Option ℕ) (n : ℕ) → ((j : ℕ) → Contains (numbers_in d ++ numbers_in s) j → j ≤ n) → IfSome s (λ j. j ≤ n)
skipped_in d None n h = tt
skipped_in None (Some j) n h = h j (here j [])
skipped_in (Some i) (Some j) n h = h j (there i j (j ∷ []) (here j []))

-- all points

module _ (image : ImageValue) (entry : ℕ) (f : FunctionGraph) (g : IsFunctionGraph image entry f) where
  abbrev ls : List (List ℕ)
  ls = returns_in f.graph.contexts

  abbrev ns : List (ℕ × ℕ)
  ns = f.tables.points

  abbrev table : List Targets
  table = f.tables.targets

  pub graph_lists : AreLists f.graph.contexts
  graph_lists = record { first = g.graph.graph.first; rows = g.graph.graph.rows }

  pub graph_clear : (n : ℕ × ℕ) → Contains ns n → instruction_at image n.1 ≡ None → ⊥
  graph_clear n i =
      let p = point_at ls n in
      clear_point image entry p (g.graph.sound.1 p ((g.arranged.points p).0 (map_in (point_at ls) ns n i)))

  pub graph_long : length table ≡ length ns
  graph_long = g.targets.long ∙ points_length ls ns

  pub graph_few : length ns < 2 ^ 31
  graph_few = points_few image entry ls ns g.arranged g.graph.sound

  pub graph_start : (k : ℕ) × (slice_get ns k ≡ Some (0, entry))
  graph_start = entry_there image entry ls ns g.arranged

  module _ (start : ℕ) (begins : slice_get ns start ≡ Some (0, entry)) (sites : List Site)
      (a : AreSitesTo image ls ns table (length ns) sites) where
    point_is : (i : ℕ) (site : Site) → slice_get sites i ≡ Some site → get_or (points_of f) i (entry_point entry)
        ≡ point_at ls (get_or ns i (0, 0))
    point_is i site e =
        let l = slice_get_within sites i site e in
        let long = a.long in
        get_or_from_slice_get (points_at ls ns) i (point_at ls (get_or ns i (0, 0))) (entry_point entry)
        (get_mapped (point_at ls) ns i (get_or ns i (0, 0)) (slice_get-get_or ns i (0, 0) (omega (arith, l, long))))

    all_targets : map (λ (s : Site). s.targets) sites ≡ table
    all_targets = same_places (map (λ (s : Site). s.targets) sites) table forth back where
      forth : (k : ℕ) (x : Targets) → slice_get (map (λ (s : Site). s.targets) sites) k ≡ Some x → slice_get table k ≡ Some x
      forth k x e =
          let s = from_mapped (λ (s : Site). s.targets) sites k x e in
          (a.each k s.0 s.1).1 ∙ ap Some s.2

      back : (k : ℕ) (x : Targets) → slice_get table k ≡ Some x → slice_get (map (λ (s : Site). s.targets) sites) k ≡ Some x
      back k x e =
          let l = slice_get_within table k x e in
          let long = a.long in
          let same = graph_long in
          let s = some_at sites k (omega (arith, l, long, same)) in
          get_mapped (λ (s : Site). s.targets) sites k s.0 s.1 ∙ sym (a.each k s.0 s.1).1 ∙ e

    long_sites : length sites ≡ length (points_of f)
    long_sites = a.long ∙ sym (points_length ls ns)

    inside_site : (i : ℕ) (site : Site) → slice_get sites i ≡ Some site → IsInside (length sites) site
    inside_site i site e = record {
      done = done_in site.targets.done site.targets.skipped (length sites) within;
      skipped = skipped_in site.targets.done site.targets.skipped (length sites) within;
    }
      where
        within : (j : ℕ) → Contains (target_numbers site.targets) j → j ≤ length sites
        within j c =
            let l = g.targets.inside i j (subst (λ o. Contains (targets_of o) j) (sym (a.each i site e).1) c) in
            let long = long_sites in
            omega (arith, l, long)

    pub are_frame_points : AreFramePoints image entry (points_of f) start sites
    are_frame_points =
        let there = entry_is image entry ls ns g.arranged start begins in
        let l = there.0 in
        let long = long_sites in
        record {
          each =
              record {
                table = subst (AreTargets (ways_from image entry) (entry_point entry) (points_of f)) (sym all_targets) g.targets;
                each = λ i site e. subst (λ p. IsSite image p site) (sym (point_is i site e)) (a.each i site e).0;
              };
          long = long_sites;
          starts = omega (arith, l, long);
          begins = there.1;
          inside = inside_site;
        }

pub made_of : (image : ImageValue) (f : FunctionGraph) (cs : List Context) (ns : List (ℕ × ℕ)) (table : List Targets) (sites : List Site)
    → cs ≡ f.graph.contexts → ns ≡ f.tables.points → table ≡ f.tables.targets
    → AreSitesTo image (returns_in cs) ns table (length ns) sites
    → AreSitesTo image (returns_in f.graph.contexts) f.tables.points f.tables.targets (length f.tables.points) sites
made_of image f cs ns rows sites c n t a =
    subst (λ cs. AreSitesTo image (returns_in cs) f.tables.points f.tables.targets (length f.tables.points) sites) c
    (subst (λ ns. AreSitesTo image (returns_in cs) ns f.tables.targets (length ns) sites) n
    (subst (λ r. AreSitesTo image (returns_in cs) ns r (length ns) sites) t a))
