-- How the value of a tree grows with the executions: by its parts, and for every tree.
use Rattle.std.proofs.Common.{◌≡◌, ℕ, zero, suc, ◌+◌, ◌-◌, ◌*◌, ◌≤◌, ◌⊎◌, inl, inr, Bool, true, false, if◌then◌else◌, nat_le, List, [], ◌∷◌, refl, sym, ap, subst, ◌∙◌, arith, add-mul, mul-le-mul_right}
use Rattle.wsym_terms.specs.Extents.{Extent, Finite, Infinite, plus, times, if_any, IsAtMost}
use Rattle.wsym_terms.specs.Trees.{Meaning, in_order, best, shared_out, part, loop_value}
use Rattle.wsym_terms.proofs.ExtentLaws.{at_most_self, at_most_trans, at_most_path, zero_at_most, plus_at_most, plus_swap, plus_assoc, plus_nothing, nothing_plus, times_add, times_more}
use Rattle.wsym_terms.proofs.SplitLaws.{best_at_least, best_at_most}

-- What costs nothing for no executions, no less for more of them, and no more for some together than for these in two parts.
pub record Grows (cost : ℕ → Extent) : Type 0 where
  pub nothing : cost 0 ≡ Finite 0
  pub more : (m n : ℕ) → m ≤ n → IsAtMost (cost m) (cost n)
  pub shares : (a b : ℕ) → IsAtMost (cost (a + b)) (plus (cost a) (cost b))

-- the last two, which may hold also where no executions cost something
pub record Rises (cost : ℕ → Extent) : Type 0 where
  pub more : (m n : ℕ) → m ≤ n → IsAtMost (cost m) (cost n)
  pub shares : (a b : ℕ) → IsAtMost (cost (a + b)) (plus (cost a) (cost b))

pub rises : (f : ℕ → Extent) → Grows f → Rises f
rises f g = record { more = g.more; shares = g.shares }

pub if_any_grows : (f : ℕ → Extent) → Rises f → Grows (if_any f)
if_any_grows f r = record { nothing = refl; more = more; shares = shares }
  where
    more : (m n : ℕ) → m ≤ n → IsAtMost (if_any f m) (if_any f n)
    more zero n h = zero_at_most (if_any f n)
    more (suc m) zero h = absurd (omega arith)
    more (suc m) (suc n) h = r.more (suc m) (suc n) h

    shares : (a b : ℕ) → IsAtMost (if_any f (a + b)) (plus (if_any f a) (if_any f b))
    shares zero b =
        let e : zero + b ≡ b = omega arith in
        at_most_path (if_any f (zero + b)) (plus (Finite 0) (if_any f b)) (ap (if_any f) e ∙ sym (plus_nothing (if_any f b)))
    shares (suc a) zero =
        let e : suc a + zero ≡ suc a = omega arith in
        at_most_path (if_any f (suc a + zero)) (plus (f (suc a)) (Finite 0)) (ap (if_any f) e ∙ sym (nothing_plus (f (suc a))))
    shares (suc a) (suc b) =
        let e : suc (a + suc b) ≡ suc a + suc b = omega arith in
        subst (λ (n : ℕ). IsAtMost (if_any f n) (plus (f (suc a)) (f (suc b)))) e (subst (λ (n : ℕ). IsAtMost (f n) (plus (f (suc a)) (f (suc b)))) (sym e) (r.shares (suc a) (suc b)))

-- the sum of two
pub plus_rises : (f g : ℕ → Extent) → Rises f → Rises g → Rises (λ n. plus (f n) (g n))
plus_rises f g r s = record {
  more = λ m n h. plus_at_most (f m) (g m) (f n) (g n) (r.more m n h) (s.more m n h);
  shares = λ a b. at_most_trans (plus (f (a + b)) (g (a + b))) (plus (plus (f a) (f b)) (plus (g a) (g b))) (plus (plus (f a) (g a)) (plus (f b) (g b)))
      (plus_at_most (f (a + b)) (g (a + b)) (plus (f a) (f b)) (plus (g a) (g b)) (r.shares a b) (s.shares a b))
      (at_most_path (plus (plus (f a) (f b)) (plus (g a) (g b))) (plus (plus (f a) (g a)) (plus (f b) (g b))) (plus_swap (f a) (f b) (g a) (g b)));
}

pub nothing_rises : Rises (λ n. Finite 0)
nothing_rises = record { more = λ m n h. omega arith; shares = λ a b. omega arith }

-- the best of all splits of two
split_cases : (a i : ℕ) → (i ≤ a) ⊎ (a ≤ i)
split_cases a i = grind arith

pub best_grows : (f g : ℕ → Extent) → Grows f → Grows g → Grows (λ n. best f g n n)
best_grows f g r s = record {
  nothing = ap (λ (x : Extent). plus x (g 0)) r.nothing ∙ plus_nothing (g 0) ∙ s.nothing;
  more = λ m n h. best_at_most f g m m (best f g n n)
      (λ i le. at_most_trans (plus (f i) (g (m - i))) (plus (f i) (g (n - i))) (best f g n n)
      (plus_at_most (f i) (g (m - i)) (f i) (g (n - i)) (at_most_self (f i)) (s.more (m - i) (n - i) (omega arith)))
      (best_at_least f g i n n (omega arith)));
  shares = λ a b. best_at_most f g (a + b) (a + b) (plus (best f g a a) (best f g b b))
      (λ i le. elim (split_cases a i) as (λ _. IsAtMost (plus (f i) (g (a + b - i))) (plus (best f g a a) (best f g b b))) [
        | inl low ↦
            let rest : (a - i) + b ≡ a + b - i = omega arith in
            let whole : b - 0 ≡ b = omega arith in
            let shared : IsAtMost (g (a + b - i)) (plus (g (a - i)) (g b)) = subst (λ (n : ℕ). IsAtMost (g n) (plus (g (a - i)) (g b))) rest (s.shares (a - i) b) in
            let none : IsAtMost (g b) (best f g b b) =
            subst (λ (x : Extent). IsAtMost x (best f g b b)) (ap (λ (x : Extent). plus x (g (b - 0))) r.nothing ∙ plus_nothing (g (b - 0)) ∙ ap g whole) (best_at_least f g 0 b b (omega arith)) in
            at_most_trans (plus (f i) (g (a + b - i))) (plus (f i) (plus (g (a - i)) (g b))) (plus (best f g a a) (best f g b b))
            (plus_at_most (f i) (g (a + b - i)) (f i) (plus (g (a - i)) (g b)) (at_most_self (f i)) shared)
            (subst (λ (x : Extent). IsAtMost x (plus (best f g a a) (best f g b b))) (plus_assoc (f i) (g (a - i)) (g b))
            (plus_at_most (plus (f i) (g (a - i))) (g b) (best f g a a) (best f g b b) (best_at_least f g i a a low) none))
        | inr high ↦
            let front : a + (i - a) ≡ i = omega arith in
            let rest : b - (i - a) ≡ a + b - i = omega arith in
            let end : a - a ≡ 0 = omega arith in
            let shared : IsAtMost (f i) (plus (f a) (f (i - a))) = subst (λ (n : ℕ). IsAtMost (f n) (plus (f a) (f (i - a)))) front (r.shares a (i - a)) in
            let all : IsAtMost (f a) (best f g a a) =
            subst (λ (x : Extent). IsAtMost x (best f g a a)) (ap (λ (n : ℕ). plus (f a) (g n)) end ∙ ap (plus (f a)) s.nothing ∙ nothing_plus (f a)) (best_at_least f g a a a (omega arith)) in
            let others : IsAtMost (plus (f (i - a)) (g (a + b - i))) (best f g b b) =
            subst (λ (n : ℕ). IsAtMost (plus (f (i - a)) (g n)) (best f g b b)) rest (best_at_least f g (i - a) b b (omega arith)) in
            at_most_trans (plus (f i) (g (a + b - i))) (plus (plus (f a) (f (i - a))) (g (a + b - i))) (plus (best f g a a) (best f g b b))
            (plus_at_most (f i) (g (a + b - i)) (plus (f a) (f (i - a))) (g (a + b - i)) shared (at_most_self (g (a + b - i))))
            (subst (λ (x : Extent). IsAtMost x (plus (best f g a a) (best f g b b))) (sym (plus_assoc (f a) (f (i - a)) (g (a + b - i))))
            (plus_at_most (f a) (plus (f (i - a)) (g (a + b - i))) (best f g a a) (best f g b b) all others))
      ]);
}

-- each of some meanings grows at every depth
abbrev pub AllGrow : List Meaning → Type 0
AllGrow [] = Unit {0}
AllGrow (m ∷ ms) = ((depth : ℕ) → Grows (m.value depth)) × AllGrow ms

pub in_order_rises : (ms : List Meaning) (depth : ℕ) → AllGrow ms → Rises (in_order ms depth)
in_order_rises [] depth all = nothing_rises
in_order_rises (m ∷ ms) depth all = plus_rises (m.value depth) (in_order ms depth) (rises (m.value depth) (all.0 depth)) (in_order_rises ms depth all.1)

pub shared_out_grows : (ms : List Meaning) (depth : ℕ) → AllGrow ms → Grows (shared_out ms depth)
shared_out_grows [] depth all = record { nothing = refl; more = λ m n h. omega arith; shares = λ a b. omega arith }
shared_out_grows (m ∷ []) depth all = all.0 depth
shared_out_grows (m ∷ k ∷ ms) depth all = best_grows (m.value depth) (shared_out (k ∷ ms) depth) (all.0 depth) (shared_out_grows (k ∷ ms) depth all.1)

-- a part of a loop, for its entries
pub part_rises : (m : Meaning) (depth turns : ℕ) → ((depth : ℕ) → Grows (m.value depth)) → Rises (λ n. part m depth n turns)
part_rises m depth turns grows = by_test (nat_le (m.scope (depth + 1)) depth)
  where
    inner : ℕ → Extent
    inner = m.value (depth + 1)

    by_test : (t : Bool) → Rises (λ n. if t then m.value (depth + 1) (n * turns) else times n (m.value (depth + 1) turns))
    by_test true = record {
      more = λ a b h. (grows (depth + 1)).more (a * turns) (b * turns) (mul-le-mul_right turns h);
      shares = λ a b. subst (λ (n : ℕ). IsAtMost (m.value (depth + 1) n) (plus (m.value (depth + 1) (a * turns)) (m.value (depth + 1) (b * turns)))) (sym (add-mul a b turns)) ((grows (depth + 1)).shares (a * turns) (b * turns));
    }
    by_test false = record {
      more = λ a b h. times_more a b (m.value (depth + 1) turns) h;
      shares = λ a b. at_most_path (times (a + b) (m.value (depth + 1) turns)) (plus (times a (m.value (depth + 1) turns)) (times b (m.value (depth + 1) turns))) (times_add a b (m.value (depth + 1) turns));
    }

pub loop_rises : (bound : Extent) (body exit : Meaning) (depth : ℕ) → ((depth : ℕ) → Grows (body.value depth)) → ((depth : ℕ) → Grows (exit.value depth)) → Rises (loop_value bound body exit depth)
loop_rises Infinite body exit depth g h = record { more = λ m n le. tt; shares = λ a b. tt }
loop_rises (Finite b) body exit depth g h = plus_rises (λ n. part body depth n b) (λ n. part exit depth n 1) (part_rises body depth b g) (part_rises exit depth 1 h)

pub leaf_rises : (base misses : ℕ) → Rises (λ n. Finite (n * base + misses))
leaf_rises base misses = record {
  more = λ m n h. (let e : m * base ≤ n * base = mul-le-mul_right base h in omega arith);
  shares = λ a b. (let e = add-mul a b base in omega arith);
}
