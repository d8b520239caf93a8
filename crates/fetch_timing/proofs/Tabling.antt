-- The table of the instruction cache.
use Rattle.std.proofs.Common.{◌≡◌, ℕ, zero, suc, ◌-◌, ◌%◌, ◌^◌, ◌<◌, ◌≤◌, List, [], ◌∷◌, length, get_or, set, replicate, sym, ap, ◌∙◌, subst, arith}
use Rattle.std.proofs.lemmas.List.{length-replicate, length-set}
use Rattle.std.proofs.lemmas.Nat.{and_mask, pow_pos}
use Rattle.std.proofs.Math.Nat.{mod-lt}
use Rattle.std.specs.Int.Bits.{bit_and}
use Rattle.std.specs.List.{AllByRecursion}
use Rattle.fetch_timing.specs.declared.timing.Timing.{Timing}
use Rattle.fetch_timing.specs.Tables.{IsTable}
use Rattle.fetch_timing.specs.Timings.{IsWithinLimits}

few_empty : (ways n : ℕ) → AllByRecursion (λ lines. length lines ≤ ways) (replicate {A = List ℕ} n [])
few_empty ways zero = tt
few_empty ways (suc n) = (omega arith, few_empty ways n)

pub empty_table : (t : Timing) (sets : List (List ℕ)) → IsWithinLimits t → sets ≡ replicate t.sets [] → IsTable t.ways (t.sets - 1) sets
empty_table t sets w e = subst (λ (s : List (List ℕ)). IsTable t.ways (t.sets - 1) s) (sym e) (record {
  some_way = w.some_way;
  few_ways = w.ways;
  power = (w.sets.0, length-replicate t.sets [] ∙ w.sets.3, let some = pow_pos w.sets.0 in let same = w.sets.3 in omega (arith, some, same));
  few_lines = few_empty t.ways t.sets;
})

pub empty_after : (t : Timing) (n : ℕ) (sets : List (List ℕ)) → IsWithinLimits t → sets ≡ replicate n [] → n ≤ t.sets → t.sets ≤ n → IsTable t.ways (t.sets - 1) sets
empty_after t n sets w e below above =
    let all : n ≡ t.sets = omega arith in
    empty_table t sets w (e ∙ ap (λ m. replicate m []) all)

-- the low bits of a line are its set
pub masked : (ways mask line : ℕ) (sets : List (List ℕ)) → IsTable ways mask sets → bit_and line mask ≡ line % length sets
masked ways mask line sets t =
    let low : mask ≡ 2 ^ t.power.0 - 1 = let e = t.power.2 in omega (arith, e) in
    ap (bit_and line) low ∙ and_mask line t.power.0 ∙ ap (λ n. line % n) (sym t.power.1)

pub in_table : (ways mask line : ℕ) (sets : List (List ℕ)) → IsTable ways mask sets → line % length sets < length sets
in_table ways mask line sets t = mod-lt line (subst (λ (n : ℕ). 0 < n) (sym t.power.1) (pow_pos t.power.0))

pub few_at : (ways place : ℕ) (sets : List (List ℕ)) (d : List ℕ) → AllByRecursion (λ lines. length lines ≤ ways) sets → place < length sets → length (get_or sets place d) ≤ ways
few_at ways place [] d h within = absurd (omega arith)
few_at ways zero (lines ∷ sets) d h within = h.0
few_at ways (suc place) (lines ∷ sets) d h within = few_at ways place sets d h.1 (omega arith)

few_set : (ways place : ℕ) (sets : List (List ℕ)) (lines : List ℕ) → AllByRecursion (λ lines. length lines ≤ ways) sets → length lines ≤ ways → AllByRecursion (λ lines. length lines ≤ ways) (set sets place lines)
few_set ways place [] lines h few = tt
few_set ways zero (l ∷ sets) lines h few = (few, h.1)
few_set ways (suc place) (l ∷ sets) lines h few = (h.0, few_set ways place sets lines h.1 few)

pub table_after : (ways mask place : ℕ) (sets : List (List ℕ)) (lines : List ℕ) → IsTable ways mask sets → length lines ≤ ways → IsTable ways mask (set sets place lines)
table_after ways mask place sets lines t few = record {
  some_way = t.some_way;
  few_ways = t.few_ways;
  power = (t.power.0, length-set sets place lines ∙ t.power.1, t.power.2);
  few_lines = few_set ways place sets lines t.few_lines few;
}
