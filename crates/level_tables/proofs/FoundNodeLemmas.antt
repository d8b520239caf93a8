-- What searches over the edges of a level find.
use Rattle.std.proofs.Common.{◌≡◌, ℕ, zero, suc, inl, inr, Bool, true, List, [], ◌∷◌, nat_eq, refl, sym, subst, ◌∙◌}
use Rattle.std.specs.Prelude.{◌↔◌}
use Rattle.graph_search.specs.NodeLists.{holds}
use Rattle.graph_search.specs.Flows.{leads}
use Rattle.graph_search.specs.Searches.{steps_to}
use Rattle.graph_search.specs.Walks.{Walk, Reached}
use Rattle.graph_search.proofs.WalkLemmas.{in_front, weaker}
use Rattle.tree_law.specs.LevelEdges.{Reaches}
use Rattle.tree_law.specs.Ways.{Path}
use Rattle.flow_tree.proofs.LevelTaskLemmas.{go_on, one_edge}
use Rattle.level_tables.specs.LevelRows.{Onto, Upto}

module _ (edged : ℕ → ℕ → Bool) where
  abbrev returns : ℕ → ℕ → Type 0
  returns p q = edged q p ≡ true

  pub onward : (s p q : ℕ) → Onto edged s p → edged p q ≡ true → Reaches edged s q
  onward s p q (inl e) g = ([], subst (λ k. edged k q ≡ true) e g)
  onward s p q (inr r) g = go_on edged s p q r (one_edge edged p q g)

  pub before : (t p q : ℕ) → edged p q ≡ true → Upto edged t q → Reaches edged p t
  before t p q g (inl e) = ([], subst (λ k. edged p k ≡ true) e g)
  before t p q g (inr r) = (q ∷ r.0, (g, r.1))

  onto_walk : (s x n : ℕ) → Walk (leads edged) s x n → Onto edged s x
  onto_walk s x zero w = inl (sym w)
  onto_walk s x (suc n) w = inr (onward s w.0 x (onto_walk s w.0 n w.1) w.2)

  walk_onto : (us : List ℕ) (s x : ℕ) → Path edged s us x → Reached (leads edged) s x
  walk_onto [] s x e = (1, (s, refl, e))
  walk_onto (u ∷ us) s x e = (let r = walk_onto us u x e.1 in in_front (leads edged) s u x r.0 e.0 r.1)

  reached_onto : (s x : ℕ) → Onto edged s x → Reached (leads edged) s x
  reached_onto s x (inl e) = (0, sym e)
  reached_onto s x (inr r) = walk_onto r.0 s x r.1

  upto_walk : (t x n : ℕ) → Walk returns t x n → Upto edged t x
  upto_walk t x zero w = inl (sym w)
  upto_walk t x (suc n) w = inr (before t x w.0 w.2 (upto_walk t w.0 n w.1))

  walk_upto : (us : List ℕ) (t x : ℕ) → Path edged x us t → Reached returns t x
  walk_upto [] t x e = (1, (t, refl, e))
  walk_upto (u ∷ us) t x e = (let r = walk_upto us t u e.1 in (suc r.0, (u, r.1, e.0)))

  reached_upto : (t x : ℕ) → Upto edged t x → Reached returns t x
  reached_upto t x (inl e) = (0, sym e)
  reached_upto t x (inr r) = walk_upto r.0 t x r.1

  pub found_ahead : (step : ℕ → List ℕ) → ((p q : ℕ) → holds nat_eq q (step p) ≡ edged p q) → (s : ℕ) (xs : List ℕ)
      → ((x : ℕ) → holds nat_eq x xs ≡ true → Reached (steps_to nat_eq step) s x)
      → ((x : ℕ) → Reached (steps_to nat_eq step) s x → holds nat_eq x xs ≡ true)
      → (x : ℕ) → (holds nat_eq x xs ≡ true) ↔ Onto edged s x
  found_ahead step is s xs found all x = (
    (λ h. (let r = found x h in onto_walk s x r.0 (weaker (steps_to nat_eq step) (leads edged) (λ p q e. sym (is p q) ∙ e) s x r.0 r.1))),
    (λ o. (let r = reached_onto s x o in all x (r.0, weaker (leads edged) (steps_to nat_eq step) (λ p q e. is p q ∙ e) s x r.0 r.1))),
  )

  pub found_back : (step : ℕ → List ℕ) → ((p q : ℕ) → holds nat_eq q (step p) ≡ edged q p) → (t : ℕ) (xs : List ℕ)
      → ((x : ℕ) → holds nat_eq x xs ≡ true → Reached (steps_to nat_eq step) t x)
      → ((x : ℕ) → Reached (steps_to nat_eq step) t x → holds nat_eq x xs ≡ true)
      → (x : ℕ) → (holds nat_eq x xs ≡ true) ↔ Upto edged t x
  found_back step is t xs found all x = (
    (λ h. (let r = found x h in upto_walk t x r.0 (weaker (steps_to nat_eq step) returns (λ p q e. sym (is p q) ∙ e) t x r.0 r.1))),
    (λ o. (let r = reached_upto t x o in all x (r.0, weaker returns (steps_to nat_eq step) (λ p q e. is p q ∙ e) t x r.0 r.1))),
  )
