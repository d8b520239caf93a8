-- Blocks cover the points of the graph, and a block is determined by its first point.
use Rattle.std.proofs.Common.{◌≡◌, refl, sym, ap, ◌∙◌, subst, ℕ, zero, suc, ◌⊎◌, inl, inr, List, [], ◌∷◌}
use Rattle.std.specs.Prelude.{Contains}
use Rattle.graph_search.specs.Walks.{Walk}
use Rattle.control_flow.specs.Routes.{Way, Goes, IsLive}
use Rattle.basic_blocks.proofs.RouteLemmas.{live_before}
use Rattle.function_points.proofs.MemberLemmas.{here, there, first_or_rest, in_none}
use Rattle.basic_blocks.specs.Blocks.{IsOnlyWay, Chain, points, last_of, IsChain, IsLongest}

-- chains

module _ {A : Type 0} (R : A → A → Type 0) (one : (p q r : A) → R p q → R p r → q ≡ r) where
  -- a longest chain has what follows each of its points
  pub goes_on : (p : A) (ps : List A) (r q : A) → IsChain R p ps → ((x : A) → R (last_of p ps) x → ⊥) → Contains (p ∷ ps) r → R r q
      → Contains (p ∷ ps) q
  goes_on p [] r q c end i o =
      elim (first_or_rest p r [] i) as (λ _. Contains (p ∷ []) q) [
        | inl e ↦ absurd (end q (subst (λ z. R z q) (sym e) o))
        | inr n ↦ absurd (in_none r n)
      ]
  goes_on p (x ∷ ps) r q c end i o =
      elim (first_or_rest p r (x ∷ ps) i) as (λ _. Contains (p ∷ x ∷ ps) q) [
        | inl e ↦ let same : x ≡ q = one p x q c.0 (subst (λ z. R z q) (sym e) o) in there p q (x ∷ ps)
            (subst (λ z. Contains (x ∷ ps) z) same (here x ps))
        | inr n ↦ there p q (x ∷ ps) (goes_on x ps r q c.1 end n o)
      ]

  -- a longest chain is determined by its first point
  pub one_chain : (p : A) (ps qs : List A) → IsChain R p ps → ((x : A) → R (last_of p ps) x → ⊥) → IsChain R p qs →
      ((x : A) → R (last_of p qs) x → ⊥) → ps ≡ qs
  one_chain p [] [] c e d f = refl
  one_chain p [] (q ∷ qs) c e d f = absurd (e q d.0)
  one_chain p (q ∷ ps) [] c e d f = absurd (f q c.0)
  one_chain p (q ∷ ps) (r ∷ qs) c e d f =
      let same : q ≡ r = one p q r c.0 d.0 in
      ap (λ z. z ∷ ps) same ∙ ap (λ zs. r ∷ zs) (one_chain r ps qs (subst (λ z. IsChain R z ps) same c.1)
      (subst (λ z. (x : A) → R (last_of z ps) x → ⊥) same e) d.1 f)

  -- what isn't first in a chain has a point before it there
  pub first_or_before : (p : A) (ps : List A) (q : A) → IsChain R p ps → Contains (p ∷ ps) q → (p ≡ q) ⊎ ((r : A) × R r q)
  first_or_before p [] q c i =
      elim (first_or_rest p q [] i) as (λ _. (p ≡ q) ⊎ ((r : A) × R r q)) [
        | inl e ↦ inl e
        | inr n ↦ absurd (in_none q n)
      ]
  first_or_before p (x ∷ ps) q c i =
      elim (first_or_rest p q (x ∷ ps) i) as (λ _. (p ≡ q) ⊎ ((r : A) × R r q)) [
        | inl e ↦ inl e
        | inr n ↦
            elim (first_or_before x ps q c.1 n) as (λ _. (p ≡ q) ⊎ ((r : A) × R r q)) [
              | inl e ↦ inr (p, subst (λ z. R p z) e c.0)
              | inr o ↦ inr o
            ]
      ]

module _ {A : Type 0} (ways : A → List (Way A)) (start : A) where
  pub only_one : (p q r : A) → IsOnlyWay ways start p q → IsOnlyWay ways start p r → q ≡ r
  only_one p q r o u = u.one q o.live o.goes

  pub only_before : (p q r : A) → IsOnlyWay ways start p q → IsOnlyWay ways start r q → p ≡ r
  only_before p q r o u = u.alone p o.from o.goes

  -- chains that begin at each live point that is first in its block have all live points
  pub covered : (bs : List (Chain A)) → ((b : Chain A) → Contains bs b → IsLongest (IsOnlyWay ways start) b)
      → ((p : A) → IsLive ways start p → ((r : A) → IsOnlyWay ways start r p → ⊥) → (b : Chain A) × Contains bs b × (b.first ≡ p))
      → ((p : A) → IsLive ways start p → ((r : A) × IsOnlyWay ways start r p) ⊎ ((r : A) → IsOnlyWay ways start r p → ⊥))
      → (n : ℕ) (p : A) → Walk (Goes ways) start p n → IsLive ways start p → (b : Chain A) × Contains bs b × Contains (points b) p
  covered bs longest heads decided zero p w l =
      let h = heads p l (λ r o. o.inner (sym w)) in
      (h.0, h.1, subst (λ z. Contains (points h.0) z) h.2 (here h.0.first h.0.rest))
  covered bs longest heads decided (suc n) p w l =
      elim (decided p l) as (λ _. (b : Chain A) × Contains bs b × Contains (points b) p) [
        | inr none ↦
            let h = heads p l none in
            (h.0, h.1, subst (λ z. Contains (points h.0) z) h.2 (here h.0.first h.0.rest))
        | inl o ↦
            let before = live_before A ways start w.0 p (n, w.1) w.2 l in
            let same : w.0 ≡ o.0 = o.1.alone w.0 before w.2 in
            let b = covered bs longest heads decided n w.0 w.1 before in
            let whole = longest b.0 b.1 in (
              b.0,
              b.1,
              goes_on (IsOnlyWay ways start) only_one b.0.first b.0.rest o.0 p whole.chain whole.end
                  (subst (λ z. Contains (points b.0) z) same b.2) o.1,
            )
      ]
