-- Probes of a list that are ready for a run, from the first on.
use Rattle.std.proofs.Common.{◌≡◌, ℕ, ◌+◌, ◌^◌, ◌<◌, ◌≤◌, List, [], ◌∷◌, ◌++◌, length, map, take, get_or, refl, ap, subst, add-one, arith}
use Rattle.std.proofs.lemmas.Grind.{common_steps}
use Rattle.std.proofs.Math.Seq.{take-suc}
use Rattle.machine_probe.specs.Weights.{AreReady, Standing}

ready_push : (ps : List Standing) (p : Standing) → AreReady ps → p.tally ≤ 2 ^ 126 → AreReady (ps ++ p ∷ [])
ready_push [] p ready one = (one, tt)
ready_push (q ∷ ps) p ready one = (ready.0, ready_push ps p ready.1 one)

map_push : {B : Type 0} (at : B → Standing) (xs : List B) (x : B) → map at (xs ++ x ∷ []) ≡ map at xs ++ at x ∷ []
map_push at [] x = refl
map_push at (y ∷ xs) x = ap (λ (l : List Standing). at y ∷ l) (map_push at xs x)

-- where the first probes of a list are ready and the next one is, one more is
pub ready_next : {B : Type 0} (at : B → Standing) (xs : List B) (i : ℕ) (x : B) → x ≡ get_or xs i x → AreReady (map at (take i xs))
    → i < length xs → (at x).tally ≤ 2 ^ 126 → AreReady (map at (take (i + 1) xs))
ready_next at xs i x is ready lt one =
    rw (add-one, take-suc xs i x lt, map_push at (take i xs) (get_or xs i x))
    (ready_push (map at (take i xs)) (at (get_or xs i x)) ready (subst (λ (y : _). (at y).tally ≤ 2 ^ 126) is one))

pub all_ready : {B : Type 0} (at : B → Standing) (xs : List B) (i : ℕ) → AreReady (map at (take i xs)) → length xs ≤ i
    → AreReady (map at xs)
all_ready at xs i ready end = let whole : take i xs ≡ xs = grind (arith, common_steps) in subst (λ (l : List _). AreReady (map at l)) whole ready
