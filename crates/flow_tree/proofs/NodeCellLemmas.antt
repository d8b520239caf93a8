-- The numbers of the nodes of a level, as they are put at their places.
use Rattle.std.proofs.Common.{◌≡◌, ℕ, zero, suc, ◌+◌, ◌<◌, ◌⊎◌, inl, inr, List, [], ◌∷◌, length, refl, sym, ap, subst, ◌∙◌}
use Rattle.std.proofs.Common.{arith, drop, get_or, slice_set}
use Rattle.std.specs.Prelude.{◌≢◌, Option, Some}
use Rattle.std.proofs.lemmas.Bool.{cases_eq}
use Rattle.std.proofs.lemmas.List.{drop_more}
use Rattle.tree_law.specs.Ways.{IsIn}
use Rattle.node_elimination.specs.declared.cells.Cell.{Cell}
use Rattle.node_elimination.specs.LevelStates.{cell_at}

set_cell : (xs : List Cell) (i : ℕ) (c : Cell) → i < length xs → cell_at (slice_set xs i c) i ≡ c
set_cell [] i c h = absurd (omega (arith, h))
set_cell (x ∷ xs) zero c h = refl
set_cell (x ∷ xs) (suc i) c h = set_cell xs i c (omega (arith, h))

other_cell : (xs : List Cell) (i u : ℕ) (c : Cell) → u ≢ i → cell_at (slice_set xs i c) u ≡ cell_at xs u
other_cell [] i u c ne = refl
other_cell (x ∷ xs) zero zero c ne = absurd (ne refl)
other_cell (x ∷ xs) zero (suc u) c ne = refl
other_cell (x ∷ xs) (suc i) zero c ne = refl
other_cell (x ∷ xs) (suc i) (suc u) c ne = other_cell xs i u c (λ e. ne (ap suc e))

-- the nodes whose numbers are still to be put come at the list's end
abbrev pub Placed : (ℕ → Option Cell) → List ℕ → List Cell → List ℕ → Type 0
Placed had nodes made rest = (u : ℕ) → IsIn u nodes → IsIn u rest ⊎ (had u ≡ Some (cell_at made u))

pub placed_more : (had : ℕ → Option Cell) (nodes : List ℕ) (made : List Cell) (i : ℕ) (c : Cell) → i < length nodes
    → get_or nodes i 0 < length made → had (get_or nodes i 0) ≡ Some c → Placed had nodes made (drop i nodes)
    → Placed had nodes (slice_set made (get_or nodes i 0) c) (drop (i + 1) nodes)
placed_more had nodes made i c lt inside is old u m =
    elim (cases_eq u (get_or nodes i 0)) as (λ _. IsIn u (drop (i + 1) nodes)
    ⊎ (had u ≡ Some (cell_at (slice_set made (get_or nodes i 0) c) u))) [
      | inl e ↦ inr (ap had e ∙ (is ∙ ap Some (sym (ap (cell_at (slice_set made (get_or nodes i 0) c)) e
          ∙ set_cell made (get_or nodes i 0) c inside))))
      | inr ne ↦ later ne (old u m)
    ]
  where
    later : u ≢ get_or nodes i 0 → IsIn u (drop i nodes) ⊎ (had u ≡ Some (cell_at made u)) → IsIn u
        (drop (i + 1) nodes) ⊎ (had u ≡ Some (cell_at (slice_set made (get_or nodes i 0) c) u))
    later ne (inr h) = inr (h ∙ ap Some (sym (other_cell made (get_or nodes i 0) u c ne)))
    later ne (inl j) = first (subst (IsIn u) (drop_more nodes i 0 lt) j)
      where
        first : IsIn u (get_or nodes i 0 ∷ drop (i + 1) nodes) → IsIn u
            (drop (i + 1) nodes) ⊎ (had u ≡ Some (cell_at (slice_set made (get_or nodes i 0) c) u))
        first (inl e) = absurd (ne e)
        first (inr k) = inl k

pub all_left : (had : ℕ → Option Cell) (nodes : List ℕ) (made : List Cell) → Placed had nodes made nodes
all_left had nodes made u i = inl i

pub all_placed : (had : ℕ → Option Cell) (nodes : List ℕ) (made : List Cell) (rest : List ℕ) → rest ≡ [] → Placed had nodes made rest
    → (u : ℕ) → IsIn u nodes → had u ≡ Some (cell_at made u)
all_placed had nodes made rest e h u i = either (h u i)
  where
    either : IsIn u rest ⊎ (had u ≡ Some (cell_at made u)) → had u ≡ Some (cell_at made u)
    either (inl j) = absurd (subst (IsIn u) e j)
    either (inr k) = k

-- an item of a list is in it
pub in_at : (nodes : List ℕ) (i : ℕ) → i < length nodes → IsIn (get_or nodes i 0) nodes
in_at [] i lt = absurd (omega (arith, lt))
in_at (x ∷ nodes) zero lt = inl refl
in_at (x ∷ nodes) (suc i) lt = inr (in_at nodes i (omega (arith, lt)))
