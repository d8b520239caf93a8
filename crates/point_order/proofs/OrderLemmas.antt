-- What is written out from a stack comes in order.
use Rattle.std.proofs.Common.{◌≡◌, refl, sym, ap, ◌∙◌, subst, ℕ, ◌<◌, ◌⊎◌, inl, inr, List, [], ◌∷◌, ◌++◌, arith}
use Rattle.std.specs.Prelude.{Contains}
use Rattle.std.specs.declared.cmp.Ordering.TheVariants.{Less, Equal}
use Rattle.std.specs.Ordering.{nat_cmp, ordering_then}
use Rattle.std.specs.Cmp.Lexicographic.{slice_cmp}
use Rattle.std.proofs.lemmas.Bool.Decides.{nat_tests}
use Rattle.std.proofs.lemmas.List.{append-nil, append_assoc}
use Rattle.std.proofs.lemmas.List.Elements.{Contains-append_left, Contains-append_right, Contains-append_cases, Contains-push}
use Rattle.std.proofs.lemmas.List.Elements.{Contains-push_cases}
use Rattle.basic_blocks.specs.Blocks.{Ascending}
use Rattle.point_order.specs.Families.{Lower, Begun}
use Rattle.function_points.proofs.MemberLemmas.{here, there, first_or_rest, in_none}
use Rattle.basic_blocks.proofs.SplitLemmas.{ascending_end}

ascending_join : {A : Type 0} (R : A → A → Type 0) (xs ys : List A) → Ascending R xs → Ascending R ys →
    ((x y : A) → Contains xs x → Contains ys y → R x y) → Ascending R (xs ++ ys)
ascending_join R [] ys a b f = b
ascending_join R (x ∷ xs) ys a b f = (
  (λ y i.
      elim (Contains-append_cases xs ys y i) as (λ _. R x y) [
        | inl old ↦ a.0 y old
        | inr new ↦ f x y (here x xs) new
      ]),
  ascending_join R xs ys a.1 b (λ z y i j. f z y (there x z xs i) j),
)

ascending_front : {A : Type 0} (R : A → A → Type 0) (xs : List A) (k : A) → Ascending R (xs ++ k ∷ []) → Ascending R xs
ascending_front R [] k a = tt
ascending_front R (x ∷ xs) k a = ((λ y i. a.0 y (Contains-append_left xs (k ∷ []) y i)), ascending_front R xs k a.1)

ascending_last : {A : Type 0} (R : A → A → Type 0) (xs : List A) (k : A) → Ascending R (xs ++ k ∷ []) → (x : A) → Contains xs x → R x k
ascending_last R [] k a x i = absurd (in_none x i)
ascending_last R (y ∷ xs) k a x i =
    elim (first_or_rest y x xs i) as (λ _. R x k) [
      | inl e ↦ subst (λ z. R z k) e (a.0 k (Contains-push xs k))
      | inr n ↦ ascending_last R xs k a.1 x n
    ]

module _ {K : Type 0} (lt : K → K → Type 0) (Under : K → K → Type 0) (self : (s : K) → Under s s) (All : K → Type 0) where
  -- all under t comes before all under s
  abbrev pub After : K → K → Type 0
  After s t = (l m : K) → Under s l → Under t m → lt m l

  -- what is out, and the stack, its top last
  pub record Ordered (out stack : List K) : Type 0 where
    pub ascending : Ascending lt out
    pub before : (o s l : K) → Contains out o → Contains stack s → Under s l → lt o l
    pub falling : Ascending After stack
    pub whole : (l : K) → All l → Contains out l ⊎ ((s : K) × Contains stack s × Under s l)
    pub only : (l : K) → Contains out l → All l
    pub known : (s : K) → Contains stack s → All s

  -- the children of k, the last first
  pub record AreChildren (k : K) (cs : List K) : Type 0 where
    pub falling : Ascending After cs
    pub under : (c l : K) → Contains cs c → Under c l → Under k l × lt k l
    pub whole : (l : K) → All l → Under k l → (l ≡ k) ⊎ ((c : K) × Contains cs c × Under c l)
    pub known : (c : K) → Contains cs c → All c

  pub one_out : (out rest cs : List K) (k : K) → Ordered out (rest ++ k ∷ []) → AreChildren k cs → Ordered (out ++ k ∷ []) (rest ++ cs)
  one_out out rest cs k o c =
      record {
        ascending = ascending_end lt out k o.ascending (λ b i. o.before b k k i (Contains-push rest k) (self k));
        before = λ a s l i j u.
            elim (Contains-push_cases out k a i) as (λ _. lt a l) [
              | inl old ↦
                  elim (Contains-append_cases rest cs s j) as (λ _. lt a l) [
                    | inl m ↦ o.before a s l old (Contains-append_left rest (k ∷ []) s m) u
                    | inr n ↦ o.before a k l old (Contains-push rest k) (c.under s l n u).0
                  ]
              | inr e ↦
                  elim (Contains-append_cases rest cs s j) as (λ _. lt a l) [
                    | inl m ↦ subst (λ z. lt z l) e (ascending_last After rest k o.falling s m l k u (self k))
                    | inr n ↦ subst (λ z. lt z l) e (c.under s l n u).1
                  ]
            ];
        falling = ascending_join After rest cs (ascending_front After rest k o.falling) c.falling
            (λ s t i j l m u v. ascending_last After rest k o.falling s i l m u (c.under t m j v).0);
        whole = λ l a.
            elim (o.whole l a) as (λ _. Contains (out ++ k ∷ []) l ⊎ ((s : K) × Contains (rest ++ cs) s × Under s l)) [
              | inl old ↦ inl (Contains-append_left out (k ∷ []) l old)
              | inr (s, i, u) ↦
                  elim (Contains-push_cases rest k s i) as (λ _. Contains (out ++ k ∷ []) l ⊎
                  ((t : K) × Contains (rest ++ cs) t × Under t l)) [
                    | inl m ↦ inr (s, Contains-append_left rest cs s m, u)
                    | inr e ↦
                        elim (c.whole l a (subst (λ z. Under z l) (sym e) u)) as
                        (λ _. Contains (out ++ k ∷ []) l ⊎ ((t : K) × Contains (rest ++ cs) t × Under t l)) [
                          | inl same ↦ inl (subst (λ z. Contains (out ++ k ∷ []) z) (sym same) (Contains-push out k))
                          | inr (d, j, v) ↦ inr (d, Contains-append_right rest cs d j, v)
                        ]
                  ]
            ];
        only = λ l i.
            elim (Contains-push_cases out k l i) as (λ _. All l) [
              | inl old ↦ o.only l old
              | inr e ↦ subst All e (o.known k (Contains-push rest k))
            ];
        known = λ s i.
            elim (Contains-append_cases rest cs s i) as (λ _. All s) [
              | inl m ↦ o.known s (Contains-append_left rest (k ∷ []) s m)
              | inr n ↦ c.known s n
            ];
      }

  pub all_out : (out : List K) → Ordered out [] → (l : K) → All l → Contains out l
  all_out out o l a =
      elim (o.whole l a) as (λ _. Contains out l) [
        | inl i ↦ i
        | inr (s, i, u) ↦ absurd (in_none s i)
      ]

  pub root_first : (k : K) → All k → ((l : K) → All l → Under k l) → Ordered [] (k ∷ [])
  root_first k a top =
      record {
        ascending = tt;
        before = λ o s l i j u. absurd (in_none o i);
        falling = ((λ y i. absurd (in_none y i)), tt);
        whole = λ l b. inr (k, here k [], top l b);
        only = λ l i. absurd (in_none l i);
        known = λ s i.
            elim (first_or_rest k s [] i) as (λ _. All s) [
              | inl e ↦ subst All e a
              | inr n ↦ absurd (in_none s n)
            ];
      }

-- ---- lists of return addresses

pub same_cmp : (x : ℕ) → nat_cmp x x ≡ Equal
same_cmp x = grind (arith, nat_tests)

pub less_cmp : (x y : ℕ) → x < y → nat_cmp x y ≡ Less
less_cmp x y l = grind (arith, nat_tests)

-- a common front decides nothing
pub front_cmp : (k xs ys : List ℕ) → slice_cmp nat_cmp (k ++ xs) (k ++ ys) ≡ slice_cmp nat_cmp xs ys
front_cmp [] xs ys = refl
front_cmp (x ∷ k) xs ys = ap (λ o. ordering_then o (slice_cmp nat_cmp (k ++ xs) (k ++ ys))) (same_cmp x) ∙ front_cmp k xs ys

pub begun_self : (s : List ℕ) → Begun s s
begun_self s = ([], append-nil s)

child_front : (k m l : List ℕ) (r : ℕ) → (k ++ r ∷ []) ++ m ≡ l → k ++ r ∷ m ≡ l
child_front k m l r e = sym (append_assoc k (r ∷ []) m) ∙ e

pub child_under : (k l : List ℕ) (r : ℕ) → Begun (k ++ r ∷ []) l → Begun k l × Lower k l
child_under k l r (m, e) =
    let f = child_front k m l r e in (
      (r ∷ m, f),
      subst (λ z. slice_cmp nat_cmp k z ≡ Less) f (subst (λ z. slice_cmp nat_cmp z (k ++ r ∷ m) ≡ Less) (append-nil k)
          (front_cmp k [] (r ∷ m))),
    )

pub child_before : (k l m : List ℕ) (r q : ℕ) → r < q → Begun (k ++ r ∷ []) l → Begun (k ++ q ∷ []) m → Lower l m
child_before k l m r q less (x, e) (y, f) =
    subst (λ z. slice_cmp nat_cmp z m ≡ Less) (child_front k x l r e) (subst (λ z. slice_cmp nat_cmp (k ++ r ∷ x) z ≡ Less)
    (child_front k y m q f)
    (front_cmp k (r ∷ x) (q ∷ y) ∙ ap (λ o. ordering_then o (slice_cmp nat_cmp x y)) (less_cmp r q less)))

pub self_or_child : (k l : List ℕ) → Begun k l → (l ≡ k) ⊎ ((r : ℕ) × Begun (k ++ r ∷ []) l)
self_or_child k l ([], e) = inl (sym e ∙ append-nil k)
self_or_child k l (r ∷ m, e) = inr (r, (m, append_assoc k (r ∷ []) m ∙ e))

pub begun_none : (l : List ℕ) → Begun [] l
begun_none l = (l, refl)
