-- Histories of points and histories of their numbers are the same, with the same facts.
use Rattle.std.proofs.Common.{◌≡◌, refl, sym, ap, ◌∙◌, subst, ℕ, zero, suc, ◌<◌, ◌≤◌, inl, inr, Bool, true, false, List, [], ◌∷◌, length}
use Rattle.std.proofs.Common.{get_or, arith}
use Rattle.std.specs.Prelude.{◌≢◌, ◌==◌, map, Contains, Option, Some, None, IfSome, slice_get}
use Rattle.std.proofs.lemmas.Bool.{cases_eq, cond-false, cond-true, eq-eqb, false≢true, ne_eqb}
use Rattle.std.proofs.lemmas.List.Elements.{Contains-append_cases, Contains-append_left, Contains-append_right}
use Rattle.std.proofs.lemmas.Option.{same_Some, none-some}
use Rattle.elf32_image.specs.Parts.{ImageValue}
use Rattle.control_flow.specs.Instructions.{instruction_at}
use Rattle.control_flow.specs.Points.{Point, entry_point}
use Rattle.control_flow.specs.Routes.{Place, Taken, Way}
use Rattle.control_flow.specs.Routes.Place.{At, Exit}
use Rattle.control_flow.specs.Ways.{ways_from}
use Rattle.point_tables.specs.Targets.{number_place, numbered_way, numbered_ways}
use Rattle.path_facts.specs.Facts.{Facts, offset_of}
use Rattle.path_facts.specs.Histories.{IsHistoryOf, facts_done, facts_of, facts_through, without_marks_below}
use Rattle.fact_lattice.specs.Cells.{after}
use Rattle.fact_lattice.specs.Flows.{IsHistoryIn, facts_in, way_to}
use Rattle.copy_facts.specs.declared.sites.Site.{Site}
use Rattle.copy_facts.specs.Frames.{AreSites, IsSite}
use Rattle.copy_facts.specs.Points.{flow_of, place_in, site_step, site_ways, step_in, way_in, ways_in}
use Rattle.copy_facts.specs.Searching.{IsInside}

-- ---- one way

single : {A : Type 0} (w x : A) → Contains (w ∷ []) x → w ≡ x
single w x h = first h.0 h.1 h.2 where
  first : (i : ℕ) → i < 1 → get_or (w ∷ []) i x ≡ x → w ≡ x
  first zero l e = e
  first (suc i) l e = absurd (omega (arith, l))

alone : {A : Type 0} (w : A) → Contains (w ∷ []) w
alone w = (0, omega arith, refl)

nothing_in : {A : Type 0} (x : A) → Contains [] x → ⊥
nothing_in x h = let l = h.1 in omega (arith, l)

abbrev point_of : {A : Type 0} → A → Place A → A
point_of d (At p) = p
point_of d Exit = d

abbrev is_at : {A : Type 0} → Place A → Bool
is_at (At p) = true
is_at Exit = false

at_same : {A : Type 0} (p q : A) → At p ≡ At q → p ≡ q
at_same p q e = ap (point_of p) e

not_exit : {A : Type 0} (p : A) → Exit ≡ At p → ⊥
not_exit p e = false≢true (ap is_at e)

-- a way by numbers
way_is : (n : ℕ) (e d : Bool) (o : Option ℕ) (i : ℕ) → Contains (way_in n e o) (way_to d i) → (e ≡ d) × (o ≡ Some i) × (i ≢ n)
way_is n e d None i h = absurd (nothing_in (way_to d i) h)
way_is n e d (Some j) i h =
    let s = single (record { done = e; to = place_in n j }) (way_to d i) h in
    let to : place_in n j ≡ At i = ap (λ w. w.to) s in
    elim (cases_eq j n) as (λ _. (e ≡ d) × (Some j ≡ Some i) × (i ≢ n)) [
      | inl same ↦ absurd (not_exit i (sym (cond-true (j == n) Exit (At j) (eq-eqb j n same)) ∙ to))
      | inr other ↦
          let is : j ≡ i = at_same j i (sym (cond-false (j == n) Exit (At j) (ne_eqb j n other)) ∙ to) in
          (ap (λ w. w.done) s, ap Some is, λ t. other (is ∙ t))
    ]

way_back : (n : ℕ) (d : Bool) (o : Option ℕ) (i : ℕ) → o ≡ Some i → i ≢ n → Contains (way_in n d o) (way_to d i)
way_back n d o i e other =
    subst (λ o. Contains (way_in n d o) (way_to d i)) (sym e)
    (subst (λ to. Contains {X = Way ℕ} (record { done = d; to = to } ∷ []) (way_to d i))
    (sym (cond-false (i == n) Exit (At i) (ne_eqb i n other))) (alone (way_to d i)))

-- the same way by points
numbered_is : (ps : List Point) (start : Point) (e d : Bool) (o : Option ℕ) (p : Point) → Contains (numbered_way ps start e o)
    (record { done = d; to = At p })
    → (e ≡ d) × (i : ℕ) × (o ≡ Some i) × (i ≢ length ps) × (get_or ps i start ≡ p)
numbered_is ps start e d None p h = absurd (nothing_in (record { done = d; to = At p }) h)
numbered_is ps start e d (Some j) p h =
    let s = single (record { done = e; to = number_place ps start j }) (record { done = d; to = At p }) h in
    let to : number_place ps start j ≡ At p = ap (λ w. w.to) s in
    elim (cases_eq j (length ps)) as (λ _. (e ≡ d) × (i : ℕ) × (Some j ≡ Some i) × (i ≢ length ps) × (get_or ps i start ≡ p)) [
      | inl same ↦ absurd (not_exit p (sym (cond-true (j == length ps) Exit (At (get_or ps j start)) (eq-eqb j (length ps) same)) ∙ to))
      | inr other ↦ (
        ap (λ w. w.done) s,
        j,
        refl,
        other,
        at_same (get_or ps j start) p (sym (cond-false (j == length ps) Exit (At (get_or ps j start)) (ne_eqb j (length ps) other)) ∙ to),
      )
    ]

numbered_back : (ps : List Point) (start : Point) (d : Bool) (o : Option ℕ) (i : ℕ) → o ≡ Some i → i ≢ length ps
    → Contains (numbered_way ps start d o) (record { done = d; to = At (get_or ps i start) })
numbered_back ps start d o i e other =
    subst (λ o. Contains (numbered_way ps start d o) (record { done = d; to = At (get_or ps i start) })) (sym e)
    (subst (λ to. Contains {X = Way Point} (record { done = d; to = to } ∷ []) (record { done = d; to = At (get_or ps i start) }))
    (sym (cond-false (i == length ps) Exit (At (get_or ps i start)) (ne_eqb i (length ps) other)))
    (alone (record { done = d; to = At (get_or ps i start) })))

-- ---- the ways from a point

site_forward : (n : ℕ) (ps : List Point) (start : Point) (site : Site) (d : Bool) (i : ℕ) → n ≡ length ps → Contains (site_ways n site)
    (way_to d i)
    → Contains (numbered_ways ps start site.targets) (record { done = d; to = At (get_or ps i start) })
site_forward n ps start site d i e h =
    elim (Contains-append_cases (way_in n true site.targets.done) (way_in n false site.targets.skipped) (way_to d i) h)
    as (λ _. Contains (numbered_ways ps start site.targets) (record { done = d; to = At (get_or ps i start) })) [
      | inl a ↦
          let w = way_is n true d site.targets.done i a in
          Contains-append_left (numbered_way ps start true site.targets.done) (numbered_way ps start false site.targets.skipped)
          (record { done = d; to = At (get_or ps i start) })
          (subst (λ b. Contains (numbered_way ps start true site.targets.done) (record { done = b; to = At (get_or ps i start) })) w.0
          (numbered_back ps start true site.targets.done i w.1 (λ t. w.2 (t ∙ sym e))))
      | inr a ↦
          let w = way_is n false d site.targets.skipped i a in
          Contains-append_right (numbered_way ps start true site.targets.done) (numbered_way ps start false site.targets.skipped)
          (record { done = d; to = At (get_or ps i start) })
          (subst (λ b. Contains (numbered_way ps start false site.targets.skipped) (record { done = b; to = At (get_or ps i start) })) w.0
          (numbered_back ps start false site.targets.skipped i w.1 (λ t. w.2 (t ∙ sym e))))
    ]

site_back : (n : ℕ) (ps : List Point) (start : Point) (site : Site) (d : Bool) (p : Point) → n ≡ length ps
    → Contains (numbered_ways ps start site.targets) (record { done = d; to = At p })
    → (i : ℕ) × Contains (site_ways n site) (way_to d i) × (get_or ps i start ≡ p)
site_back n ps start site d p e h =
    elim (Contains-append_cases (numbered_way ps start true site.targets.done) (numbered_way ps start false site.targets.skipped)
    (record { done = d; to = At p }) h)
    as (λ _. (i : ℕ) × Contains (site_ways n site) (way_to d i) × (get_or ps i start ≡ p)) [
      | inl a ↦
          let w = numbered_is ps start true d site.targets.done p a in (
            w.1,
            Contains-append_left (way_in n true site.targets.done) (way_in n false site.targets.skipped) (way_to d w.1)
                (subst (λ b. Contains (way_in n true site.targets.done) (way_to b w.1)) w.0
                (way_back n true site.targets.done w.1 w.2 (λ t. w.3 (t ∙ e)))),
            w.4,
          )
      | inr a ↦
          let w = numbered_is ps start false d site.targets.skipped p a in (
            w.1,
            Contains-append_right (way_in n true site.targets.done) (way_in n false site.targets.skipped) (way_to d w.1)
                (subst (λ b. Contains (way_in n false site.targets.skipped) (way_to b w.1)) w.0
                (way_back n false site.targets.skipped w.1 w.2 (λ t. w.3 (t ∙ e)))),
            w.4,
          )
    ]

-- a way leads to a number below the number of points
way_below : (n : ℕ) (site : Site) (d : Bool) (i : ℕ) → IsInside n site → Contains (site_ways n site) (way_to d i) → i < n
way_below n site d i s h =
    elim (Contains-append_cases (way_in n true site.targets.done) (way_in n false site.targets.skipped) (way_to d i) h) as (λ _. i < n) [
      | inl a ↦ let w = way_is n true d site.targets.done i a in less i n (subst (λ o. IfSome o (λ j. j ≤ n)) w.1 s.done) w.2
      | inr a ↦ let w = way_is n false d site.targets.skipped i a in less i n (subst (λ o. IfSome o (λ j. j ≤ n)) w.1 s.skipped) w.2
    ] where
      less : (i n : ℕ) → i ≤ n → i ≢ n → i < n
      less i n l o = grind arith

-- ---- the facts after a way

pub site_facts : (image : ImageValue) (stack : ℕ) (p : Point) (site : Site) (d : Bool) (f g : Facts) → IsSite image p site → f ≡ g
    → facts_through image stack p.address (instruction_at image p.address) d f ≡ after stack (site_step stack site d (offset_of g)) g
site_facts image stack p site d f g s e =
    ap (λ o. facts_through image stack p.address o d f) s.insn ∙
    (ap (λ h. facts_through image stack p.address (Some site.insn) d h) e ∙ step d) where
      step : (d : Bool) → facts_through image stack p.address (Some site.insn) d g ≡ after stack (site_step stack site d (offset_of g)) g
      step true =
          λ j. without_marks_below stack (facts_done stack (sym s.address j) (sym s.literal j) site.insn.op g)
      step false = refl

-- ---- histories

module _ (image : ImageValue) (entry stack start : ℕ) (ps : List Point) (sites : List Site) (a : AreSites image entry ps sites)
    (long : length sites ≡ length ps) (inside : (i : ℕ) (site : Site) → slice_get sites i ≡ Some site → IsInside (length sites) site)
    (starts : start < length sites) (begins : get_or ps start (entry_point entry) ≡ entry_point entry) where
  abbrev point : ℕ → Point
  point i = get_or ps i (entry_point entry)

  abbrev site_at : (i : ℕ) → i < length sites → (site : Site) × (slice_get sites i ≡ Some site)
  site_at i l = found sites i l where
    found : {A : Type 0} (xs : List A) (i : ℕ) → i < length xs → (x : A) × (slice_get xs i ≡ Some x)
    found [] i l = absurd (omega (arith, l))
    found (x ∷ xs) zero l = (x, refl)
    found (x ∷ xs) (suc i) l = found xs i (omega (arith, l))

  mapped : {A B : Type 0} (f : A → B) (xs : List A) (i : ℕ) (x : A) → slice_get xs i ≡ Some x → slice_get (map f xs) i ≡ Some (f x)
  mapped f [] i x e = absurd (none-some x e)
  mapped f (y ∷ xs) zero x e = ap (λ o. Some (f o)) (same_Some y x e)
  mapped f (y ∷ xs) (suc i) x e = mapped f xs i x e

  ways_are : (i : ℕ) (site : Site) → slice_get sites i ≡ Some site → ways_from image entry (point i) ≡ numbered_ways ps
      (entry_point entry) site.targets
  ways_are i site e = a.table.ahead i site.targets (mapped (λ (s : Site). s.targets) sites i site e)

  one_step : (i : ℕ) (site : Site) (d : Bool) (f g : Facts) → slice_get sites i ≡ Some site → f ≡ g
      → facts_through image stack (point i).address (instruction_at image (point i).address) d f
      ≡ after stack (step_in stack (slice_get sites i) d (offset_of g)) g
  one_step i site d f g e same =
      site_facts image stack (point i) site d f g (a.each i site e) same ∙ ap (λ s. after stack (step_in stack s d (offset_of g)) g) (sym e)

  -- each history of numbers is one of points
  pub to_points : (h : List (Taken ℕ)) (i : ℕ) → IsHistoryIn (flow_of stack start sites) h i
      → (i < length sites) × (k : List (Taken Point)) × IsHistoryOf image entry k (point i) ×
      (facts_of image stack k ≡ facts_in (flow_of stack start sites) h)
  to_points [] i e = (subst (λ x. x < length sites) (sym e) starts, [], ap point e ∙ begins, refl)
  to_points (x ∷ h) i e =
      let r = to_points h x.point e.0 in
      let s = site_at x.point r.0 in
      let way = subst (λ o. Contains (ways_in (length sites) o) (way_to x.done i)) s.1 e.1 in (
        way_below (length sites) s.0 x.done i (inside x.point s.0 s.1) way,
        record { point = point x.point; done = x.done } ∷ r.1,
        (
          r.2,
          subst (λ ws. Contains ws (record { done = x.done; to = At (point i) })) (sym (ways_are x.point s.0 s.1))
              (site_forward (length sites) ps (entry_point entry) s.0 x.done i long way),
        ),
        one_step x.point s.0 x.done (facts_of image stack r.1) (facts_in (flow_of stack start sites) h) s.1 r.3,
      )

  -- and the other way round
  pub to_numbers : (k : List (Taken Point)) (p : Point) → IsHistoryOf image entry k p
      → (i : ℕ) × (i < length sites) × (point i ≡ p) × (h : List (Taken ℕ)) × IsHistoryIn (flow_of stack start sites) h i
      × (facts_in (flow_of stack start sites) h ≡ facts_of image stack k)
  to_numbers [] p e = (start, starts, begins ∙ sym e, [], refl, refl)
  to_numbers (x ∷ k) p e =
      let r = to_numbers k x.point e.0 in
      let s = site_at r.0 r.1 in
      let ways = ap (ways_from image entry) (sym r.2) ∙ ways_are r.0 s.0 s.1 in
      let way = site_back (length sites) ps (entry_point entry) s.0 x.done p long
      (subst (λ ws. Contains ws (record { done = x.done; to = At p })) ways e.1) in (
        way.0,
        way_below (length sites) s.0 x.done way.0 (inside r.0 s.0 s.1) way.1,
        way.2,
        record { point = r.0; done = x.done } ∷ r.3,
        (r.4, subst (λ o. Contains (ways_in (length sites) o) (way_to x.done way.0)) (sym s.1) way.1),
        sym (ap (λ q. facts_through image stack q.address (instruction_at image q.address) x.done (facts_of image stack k)) (sym r.2)
            ∙ one_step r.0 s.0 x.done (facts_of image stack k) (facts_in (flow_of stack start sites) r.3) s.1 (sym r.5)),
      )
