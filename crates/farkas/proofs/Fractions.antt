-- Fractions are compared by their whole parts, and then by what is left of them.
use Rattle.std.proofs.Common.{◌≡◌, ◌≢◌, sym, ap, ◌∙◌, ℕ, suc, ◌+◌, ◌*◌, ◌/◌, ◌%◌, ◌<◌, ◌≤◌, ⊎_elim, false, rules, arith}
use Rattle.std.specs.Prelude.{◌↔◌, IsTrue, nat_lt}
use Rattle.std.proofs.lemmas.Bool.{cases_lt}
use Rattle.std.proofs.Math.Nat.{mul-le-mul_left, div-add-mod, mod-lt}

below : (m n p q r s : ℕ) → r < m → p < q → 0 < n → (m * p + r) * n < (n * q + s) * m
below m n p q r s h k l =
    let rest = mul-le-mul_left {m = suc r} {n = m} n h in
    let whole = mul-le-mul_left {m = suc p} {n = q} (m * n) k in omega arith

by_cases : {P : Type 0} (x y : ℕ) → x ≢ y → (x < y → P) → (y < x → P) → P
by_cases x y ne less more = ⊎_elim less (λ le. more (omega arith)) (cases_lt x y)

pub whole_parts : (a m b n : ℕ) → 0 < m → 0 < n → (a / m) ≢ (b / n) → (a / m < b / n) ↔ (a * n < b * m)
whole_parts a m b n h k d =
    let first = div-add-mod a m in let second = div-add-mod b n in
    let r = mod-lt a h in let s = mod-lt b k in (
      λ less. let e = below m n (a / m) (b / n) (a % m) (b % n) r less k in
          let f : a * n ≡ (m * (a / m) + a % m) * n = ap (λ x. x * n) (sym first) in
          let g : b * m ≡ (n * (b / n) + b % n) * m = ap (λ x. x * m) (sym second) in omega arith,
      λ less. by_cases (a / m) (b / n) d (λ x. x) (λ more.
          let e = below n m (b / n) (a / m) (b % n) (a % m) s more h in
          let f : a * n ≡ (m * (a / m) + a % m) * n = ap (λ x. x * n) (sym first) in
          let g : b * m ≡ (n * (b / n) + b % n) * m = ap (λ x. x * m) (sym second) in absurd (omega arith)),
    )

rests_of : (m n p r s : ℕ) → (n * r < m * s) ↔ ((m * p + r) * n < (n * p + s) * m)
rests_of m n p r s = (λ h. omega arith, λ h. omega arith)

pub rests : (a m b n : ℕ) → (a / m) ≡ (b / n) → (n * (a % m) < m * (b % n)) ↔ (a * n < b * m)
rests a m b n e =
    let first = div-add-mod a m in let second = div-add-mod b n in
    let f : a * n ≡ (m * (a / m) + a % m) * n = ap (λ x. x * n) (sym first) in
    let g : b * m ≡ (n * (a / m) + b % n) * m = ap (λ x. x * m) (sym second) ∙ ap (λ x. (n * x + b % n) * m) (sym e) in
    let h = rests_of m n (a / m) (a % m) (b % n) in
    (λ k. let l = h.0 k in omega arith, λ k. h.1 (omega arith))

pub no_rest : (a m b n : ℕ) → (a / m) ≡ (b / n) → b % n ≡ 0 → a * n < b * m → ⊥
no_rest a m b n e z h =
    let k = (rests a m b n e).1 h in
    let l : m * (b % n) ≡ m * 0 = ap (λ x. m * x) z in omega arith

pub rest_alone : (a m b n : ℕ) → 0 < m → (a / m) ≡ (b / n) → a % m ≡ 0 → (b % n) ≢ 0 → a * n < b * m
rest_alone a m b n p e z d =
    (rests a m b n e).0
    (let l : n * (a % m) ≡ n * 0 = ap (λ x. n * x) z in
    let one : 1 ≤ b % n = omega arith in
    let k = mul-le-mul_left {m = 1} {n = b % n} m one in omega arith)

pub lt_iff : (x y : ℕ) → IsTrue (nat_lt x y) ↔ (x < y)
lt_iff x y = (λ h. search rules, λ h. search rules)

pub never : (P : Type 0) → (P → ⊥) → IsTrue false ↔ P
never P h = (λ t. absurd (cc), λ p. absurd (h p))
