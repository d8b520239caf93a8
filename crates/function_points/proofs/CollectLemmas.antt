-- The answers of the search over points.
use Rattle.std.proofs.Common.{◌≡◌, refl, sym, ap, ◌∙◌, subst, ℕ, suc, ◌+◌, ◌<◌, ◌≤◌, true, List, [], ◌∷◌, length, get_or, arith}
use Rattle.std.specs.Prelude.{◌↔◌, Some, slice_get}
use Rattle.std.proofs.Math.Numerals.{add-one}
use Rattle.std.proofs.lemmas.List.{length-append}
use Rattle.std.proofs.lemmas.Option.{slice_get-get_or}
use Rattle.graph_search.specs.NodeLists.{holds, added_all, MoreThan}
use Rattle.graph_search.specs.Walks.{Reached}
use Rattle.graph_search.specs.Searches.{steps_to, Searched}
use Rattle.graph_search.proofs.ListLemmas.{all_go_on}
use Rattle.graph_search.proofs.SearchLemmas.{start_searched, step_kept, all_reached, many_reached, not_many}
use Rattle.control_flow.specs.Points.{Point}
use Rattle.function_points.specs.PointLists.{point_eq}
use Rattle.function_points.proofs.PointLemmas.{point_equality}

pub nothing : Point
nothing = record { returns = []; address = 0 }

pub the_point : (ps : List Point) (at : ℕ) → at < length ps → slice_get ps at ≡ Some (get_or ps at nothing)
the_point ps at l = slice_get-get_or ps at nothing l

pub one_searched : (step : Point → List Point) (start : Point) (ps : List Point) → ps ≡ start ∷ [] → Searched point_eq step start 0 ps
one_searched step start ps e = subst (λ qs. Searched point_eq step start 0 qs) (sym e) (start_searched Point point_equality step start)

module _ (step : Point → List Point) (ps qs : List Point) (at : ℕ) (lt : at < length ps) where
  pub next_searched : (start : Point) → Searched point_eq step start at ps →
      ((p : Point) → slice_get ps at ≡ Some p → qs ≡ added_all point_eq ps (step p)) → Searched point_eq step start (at + 1) qs
  next_searched start s is =
      let p = get_or ps at nothing in
      subst (λ n. Searched point_eq step start n qs) (sym (add-one at))
      (step_kept Point point_equality step start at ps qs p s (the_point ps at lt) (is p (the_point ps at lt)))

  pub longer : ((p : Point) → slice_get ps at ≡ Some p → qs ≡ added_all point_eq ps (step p)) → at + 1 ≤ length qs
  longer is =
      let p = get_or ps at nothing in
      let more = all_go_on Point point_equality ps (step p) in
      let long : length qs ≡ length ps + length more.0 = ap length (is p (the_point ps at lt) ∙ more.1) ∙ length-append ps more.0 in
      omega (arith, lt, long)

  pub too_many_points : (start : Point) (most : ℕ) → Searched point_eq step start at ps →
      ((p : Point) → slice_get ps at ≡ Some p → most < length (added_all point_eq ps (step p))) → MoreThan point_eq most
      (Reached (steps_to point_eq step) start)
  too_many_points start most s lots =
      let p = get_or ps at nothing in
      many_reached Point point_equality step start (suc at) most (added_all point_eq ps (step p))
      (step_kept Point point_equality step start at ps (added_all point_eq ps (step p)) p s (the_point ps at lt) refl)
      (lots p (the_point ps at lt))

module _ (step : Point → List Point) (start : Point) (ps : List Point) (at : ℕ) (s : Searched point_eq step start at ps)
    (le : length ps ≤ at) where
  whole : Searched point_eq step start (length ps) ps
  whole = let e : at ≡ length ps = omega (arith, s.within, le) in subst (λ n. Searched point_eq step start n ps) e s

  pub exactly : (p : Point) → (holds point_eq p ps ≡ true) ↔ Reached (steps_to point_eq step) start p
  exactly p = ((λ h. s.reached p h), (λ r. all_reached Point point_equality step start ps whole r.0 p r.1))

  pub not_more : (most : ℕ) → length ps ≤ most → MoreThan point_eq most (Reached (steps_to point_eq step) start) → ⊥
  not_more most few = not_many Point point_equality step start most ps whole few
