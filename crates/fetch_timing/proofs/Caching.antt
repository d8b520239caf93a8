-- Fetches keep a cache.
use Rattle.std.proofs.Common.{◌≡◌, ◌≢◌, ◌⊎◌, inl, inr, ℕ, zero, suc, ◌%◌, ◌<◌, ◌≤◌, Bool, true, false, if◌then◌else◌, List, [], ◌∷◌, length, take, replicate, eqb, refl, sym, ◌∙◌, subst, arith, lit≤}
use Rattle.std.proofs.Math.Nat.{mod-lt}
use Rattle.std.proofs.lemmas.Bool.Decides.{eqb_tells}
use Rattle.std.proofs.lemmas.List.{get_or-set_same, get_or-set_other, length-replicate, length-set}
use Rattle.std.specs.List.{AllByRecursion}
use Rattle.fetch_timing.specs.declared.timing.Timing.{Timing}
use Rattle.fetch_timing.specs.Caches.{Cache, IsCache, IsCacheOf, IsSet, after_fetch, cache_after, empty_cache, fetched, holds, lines_at, lines_beside, penalty, without}
use Rattle.fetch_timing.specs.Timings.{IsWithinLimits}
use Rattle.fetch_timing.proofs.Fetching.{distinct_fetched}
use Rattle.fetch_timing.proofs.Limits.{some_set}

short_front : (n : ℕ) (xs : List ℕ) → length (take n xs) ≤ n
short_front zero xs = lit≤ tt
short_front (suc n) [] = omega arith
short_front (suc n) (x ∷ xs) = let rest = short_front n xs in omega (arith, rest)

own_if : (b : Bool) (P : ℕ → Type 0) (x : ℕ) (xs : List ℕ) → P x → AllByRecursion P xs → AllByRecursion P (if b then xs else x ∷ xs)
own_if true P x xs h rest = rest
own_if false P x xs h rest = (h, rest)

own_without : (P : ℕ → Type 0) (line : ℕ) (xs : List ℕ) → AllByRecursion P xs → AllByRecursion P (without line xs)
own_without P line [] h = tt
own_without P line (x ∷ xs) h = own_if (eqb x line) P x (without line xs) h.0 (own_without P line xs h.1)

own_front : (P : ℕ → Type 0) (n : ℕ) (xs : List ℕ) → AllByRecursion P xs → AllByRecursion P (take n xs)
own_front P zero xs h = tt
own_front P (suc n) [] h = tt
own_front P (suc n) (x ∷ xs) h = (h.0, own_front P n xs h.1)

set_after : (t : Timing) (line : ℕ) (lines : List ℕ) → IsSet t (line % t.sets) lines → IsSet t (line % t.sets) (fetched t.ways line lines)
set_after t line lines s = record {
  few = short_front t.ways (line ∷ without line lines);
  distinct = distinct_fetched t.ways line lines s.distinct;
  own = own_front (λ l. l % t.sets ≡ line % t.sets) t.ways (line ∷ without line lines) (refl, own_without (λ l. l % t.sets ≡ line % t.sets) line lines s.own);
}

at_place : (t : Timing) (sets : List (List ℕ)) (line place : ℕ) → ((eqb place (line % t.sets) ≡ true) × (place ≡ line % t.sets)) ⊎ ((eqb place (line % t.sets) ≡ false) × (place ≢ line % t.sets))
    → line % t.sets < length sets → IsCache t sets → IsSet t place (lines_at (after_fetch t sets line) place)
at_place t sets line place (inl same) within c =
    let here : lines_at (after_fetch t sets line) (line % t.sets) ≡ fetched t.ways line (lines_at sets (line % t.sets)) = get_or-set_same sets (line % t.sets) _ [] within in
    subst (λ (p : ℕ). IsSet t p (lines_at (after_fetch t sets line) p)) (sym same.1)
    (subst (λ (ls : List ℕ). IsSet t (line % t.sets) ls) (sym here) (set_after t line _ (c.each (line % t.sets))))
at_place t sets line place (inr other) within c =
    subst (λ (ls : List ℕ). IsSet t place ls) (sym (get_or-set_other sets (line % t.sets) place _ [] other.1)) (c.each place)

pub cache_kept : (t : Timing) (sets : List (List ℕ)) (line : ℕ) → IsWithinLimits t → IsCache t sets → IsCache t (after_fetch t sets line)
cache_kept t sets line w c = record {
  all_sets = length-set sets _ _ ∙ c.all_sets;
  each = λ place. at_place t sets line place (eqb_tells place (line % t.sets)) (subst (λ (n : ℕ). line % t.sets < n) (sym c.all_sets) (mod-lt line (some_set t w))) c;
}

pub left_by_timing : (t : Timing) (cache : Cache) (line : ℕ) → IsCacheOf t cache → (cache_after cache line).sets ≡ after_fetch t cache.sets line
left_by_timing t cache line c = rw (c.ways, c.sets.all_sets) refl

pub cost_by_timing : (t : Timing) (cache : Cache) (line : ℕ) → IsCacheOf t cache → penalty t cache.sets line ≡ (if holds line (lines_beside cache line) then 0 else t.miss)
cost_by_timing t cache line c = rw c.sets.all_sets refl

pub kept : (t : Timing) (cache : Cache) (line : ℕ) → IsWithinLimits t → IsCacheOf t cache → IsCacheOf t (cache_after cache line)
kept t cache line w c = record {
  ways = c.ways;
  sets = subst (IsCache t) (sym (left_by_timing t cache line c)) (cache_kept t cache.sets line w c.sets);
}

empty_at : (n place : ℕ) → lines_at (replicate n []) place ≡ []
empty_at zero place = refl
empty_at (suc n) zero = refl
empty_at (suc n) (suc place) = empty_at n place

empty_set : (t : Timing) (place : ℕ) → IsSet t place []
empty_set t place = record { few = omega arith; distinct = tt; own = tt }

pub empty_kept : (t : Timing) → IsWithinLimits t → IsCacheOf t (empty_cache t)
empty_kept t w = record {
  ways = refl;
  sets = record {
    all_sets = length-replicate t.sets [];
    each = λ place. subst (λ (ls : List ℕ). IsSet t place ls) (sym (empty_at t.sets place)) (empty_set t place);
  };
}
