-- The nodes and edges of a path are those that lie between its ends.
use Rattle.std.proofs.Common.{◌≡◌, ℕ, ◌⊎◌, inl, inr, Bool, true, List, [], ◌∷◌, ◌++◌, refl, subst}
use Rattle.std.specs.List.{AllByRecursion}
use Rattle.tree_law.specs.Ways.{IsIn, Path}
use Rattle.tree_law.specs.LevelEdges.{Reaches}

module _ (edge : ℕ → ℕ → Bool) where
  further : (us : List ℕ) (a b c : ℕ) → Path edge a us b → edge b c ≡ true → Path edge a (us ++ b ∷ []) c
  further [] a b c p e = (p, e)
  further (u ∷ us) a b c p e = (p.0, further us u b c p.1 e)

  -- with the nodes and edges between two ends, a path from the first to the second stays on them
  pub path_between : (s t : ℕ) (nodes : List ℕ) (useful : ℕ → ℕ → Bool) → ((u : ℕ) → Reaches edge s u → Reaches edge u t → IsIn u nodes)
      → ((p q : ℕ) → edge p q ≡ true → (p ≡ s) ⊎ Reaches edge s p → (q ≡ t) ⊎ Reaches edge q t → useful p q ≡ true)
      → (us : List ℕ) → Path edge s us t → AllByRecursion (λ u. IsIn u nodes) us × Path useful s us t
  path_between s t nodes useful between kept us h = from us s (inl refl) h
    where
      onward : (p u : ℕ) → (p ≡ s) ⊎ Reaches edge s p → edge p u ≡ true → Reaches edge s u
      onward p u (inl e) g = ([], subst (λ (k : ℕ). edge k u ≡ true) e g)
      onward p u (inr r) g = (r.0 ++ p ∷ [], further r.0 s p u r.1 g)

      from : (us : List ℕ) (p : ℕ) → (p ≡ s) ⊎ Reaches edge s p → Path edge p us t → AllByRecursion (λ u. IsIn u nodes) us
          × Path useful p us t
      from [] p r h = (tt, kept p t h r (inl refl))
      from (u ∷ us) p r h = both (from us u (inr (onward p u r h.0)) h.1)
        where
          both : AllByRecursion (λ u. IsIn u nodes) us × Path useful u us t → AllByRecursion (λ u. IsIn u nodes) (u ∷ us) × Path useful p
              (u ∷ us) t
          both rest = ((between u (onward p u r h.0) (us, h.1), rest.0), (kept p u h.0 r (inr (us, h.1)), rest.1))
