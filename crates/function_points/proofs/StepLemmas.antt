-- The points that a search by controls finds are those that control reaches along the ways.
use Rattle.std.proofs.Common.{◌≡◌, refl, sym, ap, subst, ℕ, ◌⊎◌, inl, inr, Bool, true, false, List, [], ◌∷◌, ◌++◌}
use Rattle.std.specs.Prelude.{Contains, Option, Some, None, cond}
use Rattle.std.proofs.lemmas.Bool.{or_cases, or_left, or_right, false≢true}
use Rattle.elf32_image.specs.Parts.{ImageValue}
use Rattle.graph_search.specs.NodeLists.{holds, MoreThan}
use Rattle.graph_search.specs.Walks.{Reached}
use Rattle.graph_search.specs.Searches.{steps_to}
use Rattle.graph_search.proofs.WalkLemmas.{weaker}
use Rattle.control_flow.specs.declared.control.Control.{Control}
use Rattle.control_flow.specs.declared.control.Control.TheVariants as control
use Rattle.control_flow.specs.Controls.{calls, control_of, skipped_way, ways_by}
use Rattle.control_flow.specs.Points.{Point, entry_point, is_open, last_return, without_last}
use Rattle.control_flow.specs.Routes.{Goes, Place, Way}
use Rattle.control_flow.specs.Routes.Place.{At, Exit}
use Rattle.control_flow.specs.Ways.{IsCollected, return_place, ways_from}
use Rattle.control_flow.proofs.ControlLemmas.{ways_fit}
use Rattle.function_points.specs.Steps.{point_if, step_by, step_from}
use Rattle.function_points.specs.PointLists.{point_eq}
use Rattle.function_points.proofs.MemberLemmas.{here, there, first_or_rest, in_none}
use Rattle.function_points.proofs.PointLemmas.{point_equality}

abbrev way : Bool → Place Point → Way Point
way d to = record { done = d; to = to }

abbrev place_before : Place Point → List Point → List Point
place_before (At p) ps = p ∷ ps
place_before Exit ps = ps

abbrev places : List (Way Point) → List Point
places [] = []
places (w ∷ ws) = place_before w.to (places ws)

held_before : (to : Place Point) (q : Point) (ps : List Point) → holds point_eq q ps ≡ true → holds point_eq q (place_before to ps) ≡ true
held_before (At p) q ps h = or_right (point_eq q p) (holds point_eq q ps) h
held_before Exit q ps h = h

goes_held : (ws : List (Way Point)) (d : Bool) (q : Point) → Contains ws (way d (At q)) → holds point_eq q (places ws) ≡ true
goes_held [] d q i = absurd (in_none (way d (At q)) i)
goes_held (w ∷ ws) d q i =
    elim (first_or_rest w (way d (At q)) ws i) as (λ _. holds point_eq q (places (w ∷ ws)) ≡ true) [
      | inl e ↦ subst (λ z. holds point_eq q (place_before z (places ws)) ≡ true) (sym (ap (λ (v : Way Point). v.to) e))
          (or_left (point_eq q q) (holds point_eq q (places ws)) (point_equality.itself q))
      | inr n ↦ held_before w.to q (places ws) (goes_held ws d q n)
    ]

held_cases : (to : Place Point) (q : Point) (ps : List Point) → holds point_eq q (place_before to ps) ≡ true → (to ≡ At q) ⊎
    (holds point_eq q ps ≡ true)
held_cases (At p) q ps h =
    elim (or_cases (point_eq q p) (holds point_eq q ps) h) as (λ _. (At p ≡ At q) ⊎ (holds point_eq q ps ≡ true)) [
      | inl e ↦ inl (ap At (sym (point_equality.exact q p e)))
      | inr n ↦ inr n
    ]
held_cases Exit q ps h = inr h

held_goes : (ws : List (Way Point)) (q : Point) → holds point_eq q (places ws) ≡ true → (d : Bool) × Contains ws (way d (At q))
held_goes [] q h = absurd (false≢true h)
held_goes (w ∷ ws) q h =
    elim (held_cases w.to q (places ws) h) as (λ _. (d : Bool) × Contains (w ∷ ws) (way d (At q))) [
      | inl e ↦ (w.done, subst (λ z. Contains (w ∷ ws) (way w.done z)) e (here w ws))
      | inr n ↦ let r = held_goes ws q n in (r.0, there w (way r.0 (At q)) ws r.1)
    ]

skip_places : (returns : List ℕ) (o : Option ℕ) → places (skipped_way returns o) ≡ point_if returns o
skip_places returns None = refl
skip_places returns (Some a) = refl

return_places : (returns : List ℕ) (o skipped : Option ℕ) → places (way true (return_place o returns) ∷ skipped_way returns skipped)
    ≡ point_if (without_last returns) o ++ point_if returns skipped
return_places returns None skipped = skip_places returns skipped
return_places returns (Some r) skipped = ap (λ zs. record { returns = without_last returns; address = r } ∷ zs)
    (skip_places returns skipped)

call_places : (again : Bool) (p : Point) (returns : List ℕ) (skipped : Option ℕ) → places
    (cond again [] (way true (At p) ∷ skipped_way returns skipped)) ≡ cond again [] (p ∷ point_if returns skipped)
call_places true p returns skipped = refl
call_places false p returns skipped = ap (λ zs. p ∷ zs) (skip_places returns skipped)

step_places : (goes : ℕ → ℕ → Bool) (entry : ℕ) (returns : List ℕ) (k : Control) → places (ways_by goes entry returns k)
    ≡ step_by goes entry returns k
step_places goes entry returns (control.Go target skipped) = ap (λ zs. record { returns = returns; address = target } ∷ zs)
    (skip_places returns skipped)
step_places goes entry returns (control.Call target after skipped) = call_places (is_open goes entry returns target)
    (record { returns = returns ++ after ∷ []; address = target }) returns skipped
step_places goes entry returns (control.Return skipped) = return_places returns (last_return returns) skipped
step_places goes entry returns (control.Fault fault) = refl

module _ (image : ImageValue) (entry : ℕ) where
  abbrev pub step : Point → List Point
  step = step_from (control_of image) (calls image) entry

  ways_places : (p : Point) → places (ways_from image entry p) ≡ step p
  ways_places p = subst (λ ws. places ws ≡ step p) (ways_fit image entry p)
      (step_places (calls image) entry p.returns (control_of image p.address))

  way_step : (p q : Point) → Goes (ways_from image entry) p q → steps_to point_eq step p q
  way_step p q (d, i) = subst (λ ps. holds point_eq q ps ≡ true) (ways_places p) (goes_held (ways_from image entry p) d q i)

  step_way : (p q : Point) → steps_to point_eq step p q → Goes (ways_from image entry) p q
  step_way p q h = held_goes (ways_from image entry p) q (subst (λ ps. holds point_eq q ps ≡ true) (sym (ways_places p)) h)

  pub collected_reached : (p : Point) → IsCollected image entry p → Reached (steps_to point_eq step) (entry_point entry) p
  collected_reached p r = (r.0, weaker (Goes (ways_from image entry)) (steps_to point_eq step) way_step (entry_point entry) p r.0 r.1)

  pub reached_collected : (p : Point) → Reached (steps_to point_eq step) (entry_point entry) p → IsCollected image entry p
  reached_collected p r = (r.0, weaker (steps_to point_eq step) (Goes (ways_from image entry)) step_way (entry_point entry) p r.0 r.1)

  pub more_collected : (most : ℕ) → MoreThan point_eq most (Reached (steps_to point_eq step) (entry_point entry)) → MoreThan point_eq most
      (IsCollected image entry)
  more_collected most (xs, d, all, long) = (xs, d, (λ x i. reached_collected x (all x i)), long)

  pub more_reached : (most : ℕ) → MoreThan point_eq most (IsCollected image entry) → MoreThan point_eq most
      (Reached (steps_to point_eq step) (entry_point entry))
  more_reached most (xs, d, all, long) = (xs, d, (λ x i. collected_reached x (all x i)), long)
