-- Where there are few lines at all, few are younger.
use Rattle.std.proofs.Common.{◌≡◌, ◌≢◌, ℕ, ◌<◌, ◌%◌, inl, inr, Bool, true, List, [], ◌∷◌, length, sym, ap, ◌∙◌, subst, arith}
use Rattle.std.specs.Prelude.{nat_eq, map}
use Rattle.std.specs.List.{AllByRecursion}
use Rattle.std.proofs.lemmas.Bool.{false≢true, or_cases, eqb-true}
use Rattle.graph_search.specs.NodeLists.{holds}
use Rattle.graph_search.proofs.ListLemmas.{nat_equality, no_more}
use Rattle.persistence.specs.Younger.{AtLeast, Code, IsYounger}

-- where a set of points has fewer other lines of the set than there are ways, as many are not younger
met_inside : (c : Code) (within : ℕ → Bool) (line m : ℕ) (us : List ℕ) → AllByRecursion (λ u. (within u ≡ true) × (c.line u ≢ line)) us
    → holds nat_eq m (map c.line us) ≡ true → (u : ℕ) × (within u ≡ true) × (c.line u ≡ m)
met_inside c within line m [] all h = absurd (false≢true h)
met_inside c within line m (u ∷ us) all h =
    elim (or_cases (nat_eq m (c.line u)) (holds nat_eq m (map c.line us)) h) as (λ _. (u : ℕ) × (within u ≡ true) × (c.line u ≡ m)) [
      | inl t ↦ (u, all.0.0, sym (eqb-true m (c.line u) t))
      | inr t ↦ met_inside c within line m us all.1 t
    ]

pub few_lines : (c : Code) (sets ways : ℕ) (within : ℕ → Bool) (p : ℕ) (ms : List ℕ)
    → ((q : ℕ) → within q ≡ true → c.line q ≢ c.line p → c.line q % sets ≡ c.line p % sets → holds nat_eq (c.line q) ms ≡ true)
    → length ms < ways
    → AtLeast ways (IsYounger c sets within p) → ⊥
few_lines c sets ways within p ms all lt more =
    let few = no_more ℕ nat_equality more.0 ms more.1 (λ m h.
    let y = more.2 m h in
    let u = met_inside c within (c.line p) m y.2.1 y.2.2.inside y.2.3 in
    subst (λ (x : ℕ). holds nat_eq x ms ≡ true) u.2 (all u.0 u.1 (λ e. y.0 (sym u.2 ∙ e)) (ap (λ (x : ℕ). x % sets) u.2 ∙ y.1))) in
    omega (arith, few, lt, more.3)
