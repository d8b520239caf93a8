-- Where each node but one is used, that one is the last and reaches all.
use Rattle.std.proofs.Common.{◌≡◌, ◌≢◌, ℕ, zero, suc, ◌+◌, ◌-◌, ◌<◌, ◌≤◌, ◌⊎◌, inl, inr, List, length, sym, arith}
use Rattle.std.proofs.lemmas.Option.{slice_get_within}
use Rattle.wsym_formula.specs.Tables.{IsClosed}
use Rattle.wsym_formula.specs.Reaching.{AreUsed, Reaches}
use Rattle.wsym_formula.specs.declared.nodes.Node.{Node}
use Rattle.wsym_formula.proofs.Reached.{used_above}

same_or_not : (a b : ℕ) → (a ≡ b) ⊎ (a ≢ b)
same_or_not a b = grind arith

pub root_is_last : (ns : List Node) (root : ℕ) → IsClosed ns → root < length ns → AreUsed ns root → suc root ≡ length ns
root_is_last ns root closed lt used = by (same_or_not (length ns - 1) root)
  where
    by : ((length ns - 1) ≡ root) ⊎ ((length ns - 1) ≢ root) → suc root ≡ length ns
    by (inl e) = omega (arith, e, lt)
    by (inr d) =
        let u = used (length ns - 1) (omega (arith, lt)) d in
        absurd (omega (arith, used_above ns u.0 (length ns - 1) closed u.1, slice_get_within ns u.0 u.1.0 u.1.1))

reaches_by : (fuel : ℕ) (ns : List Node) (root k : ℕ) → IsClosed ns → AreUsed ns root → k < length ns → length ns ≤ k + fuel → Reaches ns root k
reaches_by zero ns root k closed used lt h = absurd (omega (arith, lt, h))
reaches_by (suc fuel) ns root k closed used lt h = by (λ j lt' above. reaches_by fuel ns root j closed used lt' (omega (arith, h, above))) (same_or_not k root)
  where
    by : ((j : ℕ) → j < length ns → k < j → Reaches ns root j) → (k ≡ root) ⊎ (k ≢ root) → Reaches ns root k
    by up (inl e) = (zero, sym e)
    by up (inr d) =
        let u = used k lt d in
        let down = up u.0 (slice_get_within ns u.0 u.1.0 u.1.1) (used_above ns u.0 k closed u.1) in
        (suc down.0, (u.0, down.1, u.1))

pub root_reaches : (ns : List Node) (root k : ℕ) → IsClosed ns → AreUsed ns root → k < length ns → Reaches ns root k
root_reaches ns root k closed used lt = reaches_by (length ns) ns root k closed used lt (omega arith)
