-- What the shares of tasks say of windows.
use Rattle.std.proofs.Common.{◌≡◌, ℕ, ◌+◌, ◌-◌, ◌*◌, ◌/◌, ◌<◌, ◌≤◌, ◌^◌, Bool, true, false, List, [], ◌∷◌, length, drop, get_or, refl, sym, ap, ◌∙◌, subst, arith, le_of_mul-le-mul_right}
use Rattle.std.proofs.Math.Nat.{div-eq_of_lt, div-le_self, div-mul-le_self, lt-div-mul-add, mul-le-mul_left, mul-le-mul_right, div-le_of_le-mul, mul_comm, mul_assoc, add-mul, mul-add}
use Rattle.std.proofs.lemmas.Nat.{le-div}
use Rattle.std.proofs.lemmas.List.{drop_more}
use Rattle.std.proofs.lemmas.Bool.Decides.{nat_tests}
use Rattle.std.specs.Prelude.{min, nat_lt, if◌then◌else◌}
use Rattle.std.specs.List.{AllByRecursion}
use Rattle.response_times.specs.declared.tasks.Task.{Task}
use Rattle.response_times.specs.Responses.{IsTask, IsWindow, demand, releases}
use Rattle.response_times.specs.Shares.{IsBelowWindows, share_of, shares_of}

-- the releases of a window, a period each, cover it
pub covered : (w p : ℕ) → 0 < p → w ≤ releases w p * p
covered w p some = let below = lt-div-mul-add {a = w + (p - 1)} {b = p} some in omega (arith, below)

-- and there are no fewer in a longer one
pub more_releases : (v w p : ℕ) → 0 < p → v ≤ w → releases v p ≤ releases w p
more_releases v w p some le =
    let all = div-mul-le_self (v + (p - 1)) p in
    le-div (releases v p) (w + (p - 1)) p some (omega (arith, all, le))

pub more_demand : (v w : ℕ) (ts : List Task) → AllByRecursion IsTask ts → v ≤ w → demand ts v ≤ demand ts w
more_demand v w [] are le = omega arith
more_demand v w (t ∷ ts) (is, are) le =
    let first = mul-le-mul_right t.cost (more_releases v w t.period is.some_period le) in
    let rest = more_demand v w ts are le in
    omega (arith, first, rest)

-- by number, where the whole is k parts
share_by : (w k r c p : ℕ) → w ≤ r * p → w * (c * k / p) ≤ r * c * k
share_by w k r c p cover =
    let share = c * k / p in
    let all : w * share ≤ r * p * share = mul-le-mul_right share cover in
    let part : share * p ≤ c * k = div-mul-le_self (c * k) p in
    let times : r * (share * p) ≤ r * (c * k) = mul-le-mul_left r part in
    let turned : r * p * share ≡ r * (share * p) = mul_assoc r p share ∙ ap (λ x. r * x) (mul_comm p share) in
    let joined : r * (c * k) ≡ r * c * k = sym (mul_assoc r c k) in
    omega (arith, all, times, turned, joined)

whole_by : (w k r c p : ℕ) → w ≤ r * p → p ≤ c → w * k ≤ r * c * k
whole_by w k r c p cover le =
    let more : r * p ≤ r * c = mul-le-mul_left r le in
    mul-le-mul_right k (omega (arith, cover, more))

pub share_covers : (w : ℕ) (t : Task) → IsTask t → w * share_of t ≤ releases w t.period * t.cost * 2 ^ 64
share_covers w t is = by_test (nat_lt 1000000000 t.cost) refl
  where
    cover : w ≤ releases w t.period * t.period
    cover = covered w t.period is.some_period

    by_test : (b : Bool) → nat_lt 1000000000 t.cost ≡ b
        → w * (if b then 2 ^ 64 else t.cost * 2 ^ 64 / t.period) ≤ releases w t.period * t.cost * 2 ^ 64
    by_test true e =
        whole_by w (2 ^ 64) (releases w t.period) t.cost t.period cover
        (let long : 1000000000 < t.cost = grind (arith, nat_tests) in let le = is.period in omega (arith, long, le))
    by_test false e = share_by w (2 ^ 64) (releases w t.period) t.cost t.period cover

summed : (w s ss r d k whole : ℕ) → w * s ≤ r * k → w * ss ≤ d * k → w * (s + ss) ≤ (r + d) * k
summed w s ss r d k whole first rest =
    let left = mul-add w s ss in let right = add-mul r d k in omega (arith, first, rest, left, right)

-- what is asked in a window is at least the tasks' share of it
pub shares_cover : (w : ℕ) (ts : List Task) → AllByRecursion IsTask ts → w * shares_of ts ≤ demand ts w * 2 ^ 64
shares_cover w [] are = omega arith
shares_cover w (t ∷ ts) (is, are) =
    summed w (share_of t) (shares_of ts) (releases w t.period * t.cost) (demand ts w) (2 ^ 64) 0 (share_covers w t is)
    (shares_cover w ts are)

-- tasks that take all leave no window for one that costs something
none_by : (w c d u k : ℕ) → w * u ≤ d * k → k ≤ u → 0 < c → 0 < k → w ≡ c + d → ⊥
none_by w c d u k cover full some parts is =
    let all : w * k ≤ w * u = mul-le-mul_left w full in
    let split : w * k ≡ c * k + d * k = ap (λ x. x * k) is ∙ add-mul c d k in
    let one : 1 * k ≤ c * k = mul-le-mul_right k some in
    omega (arith, all, split, cover, one, parts)

pub no_window : (higher : List Task) (t : Task) → AllByRecursion IsTask higher → 0 < t.cost → 2 ^ 64 ≤ shares_of higher
    → (w : ℕ) → IsWindow higher t w → ⊥
no_window higher t are some full w is =
    none_by w t.cost (demand higher w) (shares_of higher) (2 ^ 64) (shares_cover w higher are) full some (omega arith) is

below_by : (w c d u k : ℕ) → w * u ≤ d * k → u < k → w ≡ c + d → c * k / (k - u) ≤ w
below_by w c d u k cover part is =
    div-le_of_le-mul (k - u)
    (let split : w * k ≡ c * k + d * k = ap (λ x. x * k) is ∙ add-mul c d k in
    let rest : w * (k - u) + w * u ≡ w * k = sym (mul-add w (k - u) u) ∙ ap (λ x. w * x) (omega (arith, part)) in
    let turned = mul_comm w (k - u) in
    omega (arith, cover, split, rest, turned))

pub least_below : (higher : List Task) (t : Task) → AllByRecursion IsTask higher → shares_of higher < 2 ^ 64
    → IsBelowWindows higher t (t.cost * 2 ^ 64 / (2 ^ 64 - shares_of higher))
least_below higher t are part w is =
    below_by w t.cost (demand higher w) (shares_of higher) (2 ^ 64) (shares_cover w higher are) part is

rises_by : (x c d u k : ℕ) → x * u ≤ d * k → u < k → x * (k - u) ≤ c * k → x ≤ c + d
rises_by x c d u k cover part least =
    let rest : x * (k - u) + x * u ≡ x * k = sym (mul-add x (k - u) u) ∙ ap (λ y. x * y) (omega (arith, part)) in
    let sums : (c + d) * k ≡ c * k + d * k = add-mul c d k in
    let all : x * k ≤ (c + d) * k = omega (arith, cover, least, rest, sums) in
    le_of_mul-le-mul_right all (omega (arith, part))

pub least_rises : (higher : List Task) (t : Task) → AllByRecursion IsTask higher → shares_of higher < 2 ^ 64
    → let x = t.cost * 2 ^ 64 / (2 ^ 64 - shares_of higher) in x ≤ t.cost + demand higher x
least_rises higher t are part =
    let x = t.cost * 2 ^ 64 / (2 ^ 64 - shares_of higher) in
    rises_by x t.cost (demand higher x) (shares_of higher) (2 ^ 64) (shares_cover x higher are) part
    (div-mul-le_self (t.cost * 2 ^ 64) (2 ^ 64 - shares_of higher))

-- ---- along the list

pub next_task : (ts : List Task) (i : ℕ) (d : Task) → i < length ts → drop i ts ≡ get_or ts i d ∷ drop (i + 1) ts
next_task ts i d lt = drop_more ts i d lt

pub task_is : (ts : List Task) (i : ℕ) (d : Task) → i < length ts → AllByRecursion IsTask (drop i ts)
    → IsTask (get_or ts i d) × AllByRecursion IsTask (drop (i + 1) ts)
task_is ts i d lt are = subst (AllByRecursion IsTask) (next_task ts i d lt) are

pub shares_next : (ts : List Task) (i : ℕ) (d : Task) → i < length ts
    → shares_of (drop i ts) ≡ share_of (get_or ts i d) + shares_of (drop (i + 1) ts)
shares_next ts i d lt = ap shares_of (next_task ts i d lt)

pub share_most : (t : Task) → share_of t ≤ 1000000000 * 2 ^ 64
share_most t = by_test (nat_lt 1000000000 t.cost) refl
  where
    by_test : (b : Bool) → nat_lt 1000000000 t.cost ≡ b
        → (if b then 2 ^ 64 else t.cost * 2 ^ 64 / t.period) ≤ 1000000000 * 2 ^ 64
    by_test true e = omega arith
    by_test false e =
        let short : t.cost ≤ 1000000000 = grind (arith, nat_tests) in
        let part = div-le_self (t.cost * 2 ^ 64) t.period in
        let all = mul-le-mul_right (2 ^ 64) short in
        omega (arith, part, all)

pub demand_next : (ts : List Task) (w i : ℕ) (d : Task) → i < length ts
    → demand (drop i ts) w ≡ releases w (get_or ts i d).period * (get_or ts i d).cost + demand (drop (i + 1) ts) w
demand_next ts w i d lt = ap (λ xs. demand xs w) (next_task ts i d lt)

-- ---- what comes of a window

-- what is asked, where it doesn't pass the greatest number
pub end_of : (c d m end limit : ℕ) → end ≡ min (c + min d m) m → limit < m → end ≤ limit → end ≡ c + d
end_of c d m end limit is small le = omega (arith, is, small, le)

-- no window is before the end of what is asked in a window that is below all
pub end_below : (higher : List Task) (t : Task) (x end m : ℕ) → AllByRecursion IsTask higher → IsBelowWindows higher t x
    → end ≡ min (t.cost + min (demand higher x) m) m → IsBelowWindows higher t end
end_below higher t x end m are below is w window =
    let more = more_demand x w higher are (below w window) in
    omega (arith, is, window, more)

pub end_rises : (higher : List Task) (t : Task) (x end : ℕ) → AllByRecursion IsTask higher → x ≤ end
    → end ≡ t.cost + demand higher x → end ≤ t.cost + demand higher end
end_rises higher t x end are le is = let more = more_demand x end higher are le in omega (arith, is, more)

-- nothing is asked in no time
pub none_asked : (ts : List Task) → AllByRecursion IsTask ts → demand ts 0 ≡ 0
none_asked [] are = refl
none_asked (t ∷ ts) (is, are) =
    let none : releases 0 t.period ≡ 0 = div-eq_of_lt (omega (arith, is.some_period)) in
    ap (λ n. n * t.cost + demand ts 0) none ∙ (omega (arith, none_asked ts are))

pub free_window : (higher : List Task) (t : Task) → AllByRecursion IsTask higher → t.cost ≡ 0 → IsWindow higher t 0
free_window higher t are free = omega (arith, free, none_asked higher are)

summed_again : (s p d m : ℕ) → min (min (s + min p m) m + d) m ≡ min (s + (p + d)) m
summed_again s p d m = omega arith

pub asked_more : (sum product more all part m : ℕ) → all ≡ product + part → more ≡ min (sum + min product m) m
    → min (more + part) m ≡ min (sum + all) m
asked_more sum product more all part m split is =
    ap (λ x. min (x + part) m) is ∙ (summed_again sum product part m ∙ ap (λ x. min (sum + x) m) (sym split))

pub long_window : (q r w : ℕ) → q ≡ r → (q < 2 ^ 64 → ⊥) → r ≤ w → 1000000000 < w
long_window q r w same wide le =
    omega (arith, same, wide, le)
