-- What the table says of a point is what each history of the point says.
use Rattle.std.proofs.Common.{◌≡◌, sym, ap, ◌∙◌, subst, ℕ, zero, suc, ◌<◌, true, ℤ, List, [], ◌∷◌, length, get_or, arith}
use Rattle.std.specs.Prelude.{◌↔◌, Option, Some}
use Rattle.std.proofs.lemmas.List.Elements.{Contains-get_or}
use Rattle.elf32_image.specs.Parts.{ImageValue}
use Rattle.graph_search.specs.Walks.{Walk}
use Rattle.control_flow.specs.Points.{Point, entry_point}
use Rattle.control_flow.specs.Routes.{Goes, IsHistory, Taken, Way}
use Rattle.control_flow.specs.Ways.{ways_from}
use Rattle.path_facts.specs.Facts.{Fact, Facts, Location, offset_of}
use Rattle.path_facts.specs.Histories.{IsHistoryOf, facts_of}
use Rattle.fact_lattice.specs.Cells.{AbstractState}
use Rattle.fact_lattice.specs.Flows.{IsHistoryIn, facts_in}
use Rattle.fact_lattice.proofs.SolvedLemmas.{kept_everywhere, known_everywhere, offset_everywhere}
use Rattle.copy_facts.specs.declared.sites.Site.{Site}
use Rattle.copy_facts.specs.declared.tables.PointFacts.{PointFacts}
use Rattle.copy_facts.specs.Frames.{AreFramePoints, AreFrames, kept_at, known_at, offset_at}
use Rattle.copy_facts.specs.Points.{flow_of}
use Rattle.copy_facts.specs.Searching.{map_of}
use Rattle.copy_facts.proofs.FrameLemmas.{numbered, reached}
use Rattle.copy_facts.proofs.HistoryLemmas.{to_points}

-- a point that control reaches has a history
walk_history : {A : Type 0} (ways : A → List (Way A)) (first : A) (n : ℕ) (p : A) → Walk (Goes ways) first p n → (h : List (Taken A))
    × IsHistory ways first h p
walk_history ways first zero p e = ([], sym e)
walk_history ways first (suc n) p w =
    let r = walk_history ways first n w.0 w.1 in (record { point = w.0; done = w.2.0 } ∷ r.0, (r.1, w.2.1))

module _ (stack start : ℕ) (sites : List Site) (facts : List (Option PointFacts)) (f : AreFrames stack start sites facts)
    (image : ImageValue) (entry : ℕ) (ps : List Point)
    (a : AreFramePoints image entry ps start sites) (i : ℕ) (l : i < length sites) where
  abbrev point : Point
  point = get_or ps i (entry_point entry)

  there : (m : AbstractState) × (map_of facts i ≡ Some m)
  there =
      let n = a.long in
      let c = Contains-get_or ps i (entry_point entry) (omega (arith, l, n)) in
      let w = a.each.table.only point c in
      let k = walk_history (ways_from image entry) (entry_point entry) w.0 point w.1 in
      let h = numbered image entry stack start ps sites a i l k.0 k.1 in
      reached stack start sites (map_of facts) f.solved i h.0 h.1

  -- what each history of the number gives each history of the point gives
  both_ways : (P : Facts → Type 0) →
      ((h : List (Taken ℕ)) → IsHistoryIn (flow_of stack start sites) h i → P (facts_in (flow_of stack start sites) h))
      ↔ ((k : List (Taken Point)) → IsHistoryOf image entry k point → P (facts_of image stack k))
  both_ways P = (
    λ g k e. let h = numbered image entry stack start ps sites a i l k e in subst P h.2 (g h.0 h.1),
    λ g h e. let k = to_points image entry stack start ps sites a.each a.long a.inside a.starts a.begins h i e in subst P k.3 (g k.1 k.2),
  )

  pub known_exactly : (location : Location) (k : Fact)
      → (known_at (map_of facts i) location ≡ Some k) ↔
      ((h : List (Taken Point)) → IsHistoryOf image entry h point → (facts_of image stack h).fact location ≡ Some k)
  known_exactly location k =
      let x = known_everywhere (flow_of stack start sites) (map_of facts) f.solved i there.0 there.1 location k in
      let b = both_ways (λ g. g.fact location ≡ Some k) in (
        λ e. b.0 (x.0 (sym (ap (λ o. known_at o location) there.1) ∙ e)),
        λ g. ap (λ o. known_at o location) there.1 ∙ x.1 (b.1 g),
      )

  pub kept_exactly : (word : ℕ)
      → (kept_at (map_of facts i) word ≡ true) ↔
      ((h : List (Taken Point)) → IsHistoryOf image entry h point → (facts_of image stack h).marked word ≡ true)
  kept_exactly word =
      let x = kept_everywhere (flow_of stack start sites) (map_of facts) f.solved i there.0 there.1 word in
      let b = both_ways (λ g. g.marked word ≡ true) in (
        λ e. b.0 (x.0 (sym (ap (λ o. kept_at o word) there.1) ∙ e)),
        λ g. ap (λ o. kept_at o word) there.1 ∙ x.1 (b.1 g),
      )

  pub offset_exactly : (o : ℤ)
      → (offset_at (map_of facts i) ≡ Some o) ↔
      ((h : List (Taken Point)) → IsHistoryOf image entry h point → offset_of (facts_of image stack h) ≡ Some o)
  offset_exactly o =
      let x = offset_everywhere (flow_of stack start sites) (map_of facts) f.solved i there.0 there.1 o in
      let b = both_ways (λ g. offset_of g ≡ Some o) in (
        λ e. b.0 (x.0 (sym (ap offset_at there.1) ∙ e)),
        λ g. ap offset_at there.1 ∙ x.1 (b.1 g),
      )
