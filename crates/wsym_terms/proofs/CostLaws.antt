-- Costs and the numbers that they stand for: order, sums, and what the limit does to them.
use Rattle.std.proofs.Common.{◌≡◌, ℕ, ◌+◌, ◌^◌, ◌≤◌, ◌<◌, Bool, true, false, if◌then◌else◌, nat_lt, refl, sym, ap, ◌∙◌, arith}
use Rattle.std.proofs.lemmas.Bool.Decides.{nat_tests}
use Rattle.wsym_terms.specs.Extents.{Extent, Finite, Infinite, plus, IsAtMost}
use Rattle.wsym_terms.specs.Costs.{cost_of, extent_of, is_in_range, is_less}
use Rattle.wsym_terms.specs.declared.costs.Cost.{Cost}
use Rattle.wsym_terms.specs.declared.costs.Cost.TheVariants.{Fin, Beyond, Unbounded}
use Rattle.wsym_terms.proofs.ExtentLaws.{plus_comm}

pub cost_below : (n : ℕ) → n < 2 ^ 127 → cost_of (Finite n) ≡ Fin n
cost_below n h = grind (arith, nat_tests)

pub cost_above : (n : ℕ) → 2 ^ 127 ≤ n → cost_of (Finite n) ≡ Beyond
cost_above n h = grind (arith, nat_tests)

-- the limit forgets nothing that a further sum would need
pub clip_plus : (a b : Extent) → cost_of (plus (extent_of (cost_of a)) b) ≡ cost_of (plus a b)
clip_plus Infinite b = refl
clip_plus (Finite n) b = by_size (nat_lt n (2 ^ 127)) refl b
  where
    by_size : (t : Bool) → nat_lt n (2 ^ 127) ≡ t → (b : Extent) → cost_of (plus (extent_of (if t then Fin n else Beyond)) b) ≡ cost_of (plus (Finite n) b)
    by_size true e b = refl
    by_size false e Infinite = refl
    by_size false e (Finite m) = cost_above (2 ^ 127 + m) (omega arith) ∙ sym (cost_above (n + m) (grind (arith, nat_tests)))

pub plus_clip : (a b : Extent) → cost_of (plus a (extent_of (cost_of b))) ≡ cost_of (plus a b)
plus_clip a b = ap cost_of (plus_comm a (extent_of (cost_of b))) ∙ clip_plus b a ∙ ap cost_of (plus_comm b a)

pub cost_of_extent : (a : Cost) → is_in_range a ≡ true → cost_of (extent_of a) ≡ a
cost_of_extent (Fin n) h = cost_below n (grind (arith, nat_tests))
cost_of_extent Beyond h = refl
cost_of_extent Unbounded h = refl

pub cost_in_range : (e : Extent) → is_in_range (cost_of e) ≡ true
cost_in_range Infinite = refl
cost_in_range (Finite n) = by_size (nat_lt n (2 ^ 127)) refl
  where
    by_size : (t : Bool) → nat_lt n (2 ^ 127) ≡ t → is_in_range (if t then Fin n else Beyond) ≡ true
    by_size true e = e
    by_size false e = refl

-- A cost isn't less than another exactly where its number is at least the other's.
pub not_less : (a b : Cost) → is_in_range a ≡ true → IsAtMost (extent_of b) (extent_of a) → is_less a b ≡ false
not_less (Fin a) (Fin b) r h = grind (arith, nat_tests)
not_less (Fin a) Beyond r h = absurd (grind (arith, nat_tests))
not_less (Fin a) Unbounded r h = absurd h
not_less Beyond (Fin b) r h = refl
not_less Beyond Beyond r h = refl
not_less Beyond Unbounded r h = absurd h
not_less Unbounded b r h = refl

pub at_most_of : (a b : Cost) → is_in_range b ≡ true → is_less a b ≡ false → IsAtMost (extent_of b) (extent_of a)
at_most_of (Fin a) (Fin b) r h = grind (arith, nat_tests)
at_most_of (Fin a) Beyond r h = absurd (cc)
at_most_of (Fin a) Unbounded r h = absurd (cc)
at_most_of Beyond (Fin b) r h = grind (arith, nat_tests)
at_most_of Beyond Beyond r h = omega arith
at_most_of Beyond Unbounded r h = absurd (cc)
at_most_of Unbounded b r h = tt

-- the limit keeps the order
pub clip_keeps : (a b : Extent) → IsAtMost a b → IsAtMost (extent_of (cost_of a)) (extent_of (cost_of b))
clip_keeps a Infinite h = tt
clip_keeps Infinite (Finite b) h = absurd h
clip_keeps (Finite a) (Finite b) h = by_sizes (nat_lt a (2 ^ 127)) (nat_lt b (2 ^ 127)) refl refl
  where
    by_sizes : (s t : Bool) → nat_lt a (2 ^ 127) ≡ s → nat_lt b (2 ^ 127) ≡ t → IsAtMost (extent_of (if s then Fin a else Beyond)) (extent_of (if t then Fin b else Beyond))
    by_sizes true true d e = h
    by_sizes true false d e = grind (arith, nat_tests)
    by_sizes false true d e = absurd (grind (arith, nat_tests))
    by_sizes false false d e = omega arith

pub less_self : (a : Cost) → is_less a a ≡ false
less_self (Fin a) = grind (arith, nat_tests)
less_self Beyond = refl
less_self Unbounded = refl

pub less_antisym : (a b : Cost) → is_less a b ≡ false → is_less b a ≡ false → a ≡ b
less_antisym (Fin a) (Fin b) p q = ap Fin (grind (arith, nat_tests))
less_antisym (Fin a) Beyond p q = absurd (cc)
less_antisym (Fin a) Unbounded p q = absurd (cc)
less_antisym Beyond (Fin b) p q = absurd (cc)
less_antisym Beyond Beyond p q = refl
less_antisym Beyond Unbounded p q = absurd (cc)
less_antisym Unbounded (Fin b) p q = absurd (cc)
less_antisym Unbounded Beyond p q = absurd (cc)
less_antisym Unbounded Unbounded p q = refl

pub less_one_way : (a b : Cost) → is_less a b ≡ true → is_less b a ≡ false
less_one_way (Fin a) (Fin b) h = grind (arith, nat_tests)
less_one_way (Fin a) Beyond h = refl
less_one_way (Fin a) Unbounded h = refl
less_one_way Beyond (Fin b) h = absurd (cc)
less_one_way Beyond Beyond h = absurd (cc)
less_one_way Beyond Unbounded h = refl
less_one_way Unbounded b h = absurd (cc)
