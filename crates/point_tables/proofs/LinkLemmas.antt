-- The only flagged number of a row, and tables of them.
use Rattle.std.proofs.Common.{◌≡◌, refl, sym, ap, ◌∙◌, subst, ℕ, zero, suc, ◌+◌, ◌<◌, ◌≤◌, ◌⊎◌, inl, inr, Bool, true, false, List, []}
use Rattle.std.proofs.Common.{◌∷◌, ◌++◌, length, get_or, take, arith}
use Rattle.std.specs.Prelude.{◌≢◌, Contains, Option, Some, None, not, ◌==◌, slice_get}
use Rattle.std.proofs.lemmas.Bool.{false≢true, eqb-true, eq-eqb}
use Rattle.std.proofs.lemmas.List.{length-append, get_or_append_left, get_or_default}
use Rattle.std.proofs.lemmas.Option.{slice_get-get_or}
use Rattle.std.proofs.Math.Numerals.{add-one}
use Rattle.graph_search.proofs.SearchLemmas.{take_next}
use Rattle.basic_blocks.specs.LivePoints.{before}
use Rattle.point_tables.specs.declared.targets.Targets.{Targets}
use Rattle.point_tables.specs.Targets.{numbers_in, target_numbers, targets_of, step_in}
use Rattle.std.proofs.lemmas.List.Elements.{Contains-append_left, Contains-push, Contains-push_cases}
use Rattle.basic_blocks.specs.Chains.{Follows}
use Rattle.function_points.proofs.MemberLemmas.{here, there, first_or_rest, in_none}
use Rattle.point_tables.specs.Numbers.{Answers, is_other, IsOnlyFlagged, IsLink, IsTableOf}

-- what is known of a row's flagged numbers
abbrev pub Sole : (ℕ → Bool) → List ℕ → Option ℕ → Type 0
Sole flag row None = (r : ℕ) → Contains row r → flag r ≡ true → ⊥
Sole flag row (Some q) = IsOnlyFlagged flag row q

pub none_sole : (flag : ℕ → Bool) (row : List ℕ) → row ≡ [] → Sole flag row None
none_sole flag row e r i f = in_none r (subst (λ xs. Contains xs r) e i)

module _ (flag : ℕ → Bool) (row : List ℕ) (x : ℕ) (more : List ℕ) (is : more ≡ row ++ x ∷ []) where
  pub sole_unflagged : (o : Option ℕ) → flag x ≡ false → Sole flag row o → Sole flag more o
  sole_unflagged None f s =
      λ r i g.
      elim (Contains-push_cases row x r (subst (λ xs. Contains xs r) is i)) as (λ _. ⊥) [
        | inl m ↦ s r m g
        | inr e ↦ false≢true (sym f ∙ subst (λ z. flag z ≡ true) (sym e) g)
      ]
  sole_unflagged (Some q) f s = (
    subst (λ xs. Contains xs q) (sym is) (Contains-append_left row (x ∷ []) q s.0),
    s.1,
    λ r i g.
        elim (Contains-push_cases row x r (subst (λ xs. Contains xs r) is i)) as (λ _. r ≡ q) [
          | inl m ↦ s.2 r m g
          | inr e ↦ absurd (false≢true (sym f ∙ subst (λ z. flag z ≡ true) (sym e) g))
        ],
  )

  pub sole_first : flag x ≡ true → Sole flag row None → Sole flag more (Some x)
  sole_first f s = (
    subst (λ xs. Contains xs x) (sym is) (Contains-push row x),
    f,
    λ r i g.
        elim (Contains-push_cases row x r (subst (λ xs. Contains xs r) is i)) as (λ _. r ≡ x) [
          | inl m ↦ absurd (s r m g)
          | inr e ↦ sym e
        ],
  )

  pub sole_again : (q : ℕ) → q ≡ x → Sole flag row (Some q) → Sole flag more (Some q)
  sole_again q e s = (
    subst (λ xs. Contains xs q) (sym is) (Contains-append_left row (x ∷ []) q s.0),
    s.1,
    λ r i g.
        elim (Contains-push_cases row x r (subst (λ xs. Contains xs r) is i)) as (λ _. r ≡ q) [
          | inl m ↦ s.2 r m g
          | inr d ↦ sym d ∙ sym e
        ],
  )

-- no other number was found
other_is : (p x : ℕ) → not (p == x) ≡ false → p ≡ x
other_is p x e = eqb-true p x (turned (p == x) e)
  where
    turned : (b : Bool) → not b ≡ false → b ≡ true
    turned true e = refl
    turned false e = absurd (cc)

is_differ : (p x : ℕ) → not (p == x) ≡ true → p ≢ x
is_differ p x e d = turned (p == x) (eq-eqb p x d) e
  where
    turned : (b : Bool) → b ≡ true → not b ≡ true → ⊥
    turned true e f = cc
    turned false e f = cc

pub sole_next : (flag : ℕ → Bool) (row more : List ℕ) (x : ℕ) → more ≡ row ++ x ∷ [] → (o : Option ℕ) → flag x ≡ true
    → is_other o x ≡ false → Sole flag row o → Sole flag more (Some x)
sole_next flag row more x is None f d s = sole_first flag row x more is f s
sole_next flag row more x is (Some p) f d s = let e = other_is p x d in subst (λ z. Sole flag more (Some z)) e
    (sole_again flag row x more is p e s)

-- two different flagged numbers
pub not_one : (flag : ℕ → Bool) (row all : List ℕ) (x : ℕ) (o : Option ℕ) → ((r : ℕ) → Contains row r → Contains all r) → Contains all x
    → flag x ≡ true → is_other o x ≡ true → Sole flag row o → Answers (IsOnlyFlagged flag all) None
not_one flag row all x None up i f d s = absurd (false≢true d)
not_one flag row all x (Some p) up i f d s = λ q o. is_differ p x d (o.2 p (up p s.0) s.1 ∙ sym (o.2 x i f))

pub sole_answers : (flag : ℕ → Bool) (row : List ℕ) (o : Option ℕ) → Sole flag row o → Answers (IsOnlyFlagged flag row) o
sole_answers flag row None s = λ q o. s q o.0 o.1
sole_answers flag row (Some q) s = s

pub one_same : (flag : ℕ → Bool) (row : List ℕ) (p q : ℕ) → IsOnlyFlagged flag row p → IsOnlyFlagged flag row q → q ≡ p
one_same flag row p q a b = a.2 q b.0 b.1

-- a table that grows

module _ (R : ℕ → ℕ → Type 0) (unique : (p q r : ℕ) → R p q → R p r → q ≡ r) where
  pub no_table : (table : List (Option ℕ)) → table ≡ [] → IsTableOf R 0 table
  no_table table e =
      record {
        long = ap length e;
        only = λ p q f. absurd (nothing p q (subst (λ t. Follows t p q) e f));
        all = λ p q l r. absurd (omega (arith, l));
      }
    where
      nothing : (p q : ℕ) → Follows [] p q → ⊥
      nothing p q f = cc

  follows_push : (table : List (Option ℕ)) (o : Option ℕ) (p q : ℕ) → Follows (table ++ o ∷ []) p q
      → Follows table p q ⊎ ((p ≡ length table) × (o ≡ Some q))
  follows_push [] o zero q f = inr (refl, f)
  follows_push [] o (suc p) q f = absurd (cc)
  follows_push (x ∷ table) o zero q f = inl f
  follows_push (x ∷ table) o (suc p) q f =
      elim (follows_push table o p q f) as (λ _. Follows (x ∷ table) (suc p) q ⊎ ((suc p ≡ length (x ∷ table)) × (o ≡ Some q))) [
        | inl a ↦ inl a
        | inr b ↦ inr (ap suc b.0, b.1)
      ]

  follows_last : (table : List (Option ℕ)) (o : Option ℕ) (q : ℕ) → o ≡ Some q → Follows (table ++ o ∷ []) (length table) q
  follows_last [] o q e = e
  follows_last (x ∷ table) o q e = follows_last table o q e

  follows_old : (table : List (Option ℕ)) (o : Option ℕ) (p q : ℕ) → p < length table → Follows table p q → Follows (table ++ o ∷ []) p q
  follows_old table o p q l f = get_or_append_left table (o ∷ []) None p l ∙ f

  pub table_more : (at : ℕ) (table new : List (Option ℕ)) (o : Option ℕ) → IsTableOf R at table → Answers (R at) o → new ≡ table ++ o ∷ []
      → IsTableOf R (at + 1) new
  table_more at table new o t answer e =
      record {
        long = ap length e ∙ length-append table (o ∷ []) ∙ ap (λ m. m + 1) t.long;
        only = λ p q f.
            elim (follows_push table o p q (subst (λ ts. Follows ts p q) e f)) as (λ _. R p q) [
              | inl old ↦ t.only p q old
              | inr new ↦ subst (λ z. R z q) (sym (new.0 ∙ t.long)) (by_some o answer q new.1)
            ];
        all = λ p q l r.
            subst (λ ts. Follows ts p q) (sym e)
            (elim (at_or_under p at l) as (λ _. Follows (table ++ o ∷ []) p q) [
              | inl s ↦ subst (λ z. Follows (table ++ o ∷ []) z q) (t.long ∙ sym s)
                  (follows_last table o q (by_none o answer q (subst (λ z. R z q) s r)))
              | inr m ↦ follows_old table o p q (subst (λ z. p < z) (sym t.long) m) (t.all p q m r)
            ]);
      }
    where
      at_or_under : (p at : ℕ) → p < at + 1 → (p ≡ at) ⊎ (p < at)
      at_or_under p at l = grind arith

      by_some : (o : Option ℕ) → Answers (R at) o → (q : ℕ) → o ≡ Some q → R at q
      by_some None s q e = absurd (cc)
      by_some (Some p) s q e = let same : p ≡ q = cc in subst (R at) same s

      by_none : (o : Option ℕ) → Answers (R at) o → (q : ℕ) → R at q → o ≡ Some q
      by_none None n q r = absurd (n q r)
      by_none (Some p) s q r = ap Some (unique at p q s r)

pub whole_table : (R : ℕ → ℕ → Type 0) (at n : ℕ) (table : List (Option ℕ)) → IsTableOf R at table → at ≤ n → n ≤ at → IsTableOf R n table
whole_table R at n table t a b = let e : at ≡ n = omega (arith, a, b) in subst (λ m. IsTableOf R m table) e t

-- the answers

pub row_next : (row : List ℕ) (at : ℕ) → at < length row → take (at + 1) row ≡ take at row ++ get_or row at 0 ∷ []
row_next row at l = ap (λ n. take n row) (add-one at) ∙ take_next row at (get_or row at 0) (slice_get-get_or row at 0 l)

pub in_row : (row : List ℕ) (at : ℕ) → at < length row → Contains row (get_or row at 0)
in_row row at l = (at, l, get_or_default row at (get_or row at 0) 0 l)

pub front_in_row : (row : List ℕ) (at r : ℕ) → Contains (take at row) r → Contains row r
front_in_row row zero r i = absurd (in_none r i)
front_in_row [] (suc at) r i = i
front_in_row (x ∷ row) (suc at) r i =
    elim (first_or_rest x r (take at row) i) as (λ _. Contains (x ∷ row) r) [
      | inl e ↦ subst (λ z. Contains (x ∷ row) z) e (here x row)
      | inr n ↦ there x r row (front_in_row row at r n)
    ]

pub two_targets : (flag : ℕ → Bool) (a : Targets) (d s : ℕ) (o : Option ℕ) → a.done ≡ Some d → a.skipped ≡ Some s
    → Answers (IsOnlyFlagged flag (d ∷ s ∷ [])) o → Answers (IsOnlyFlagged flag (target_numbers a)) o
two_targets flag a d s o e f w = subst (λ xs. Answers (IsOnlyFlagged flag xs) o)
    (sym (ap (λ x. numbers_in x ++ numbers_in a.skipped) e ∙ ap (λ x. d ∷ numbers_in x) f)) w

pub get_beyond : {A : Type 0} (xs : List A) (i : ℕ) → length xs ≤ i → slice_get xs i ≡ None
get_beyond [] i l = refl
get_beyond (x ∷ xs) zero l = absurd (omega (arith, l))
get_beyond (x ∷ xs) (suc i) l = get_beyond xs i (omega (arith, l))

or_beyond : {A : Type 0} (xs : List A) (i : ℕ) (d : A) → length xs ≤ i → get_or xs i d ≡ d
or_beyond [] i d l = refl
or_beyond (x ∷ xs) zero d l = absurd (omega (arith, l))
or_beyond (x ∷ xs) (suc i) d l = or_beyond xs i d (omega (arith, l))

pub some_after : (d : Targets) (flag : ℕ → Bool) (table : List Targets) (i : ℕ) (o : Option ℕ) → i < length table
    → Answers (IsOnlyFlagged flag (target_numbers (get_or table i d))) o → Answers (IsOnlyFlagged flag (step_in table i)) o
some_after d flag table i o l w = subst (λ x. Answers (IsOnlyFlagged flag (targets_of x)) o) (sym (slice_get-get_or table i d l)) w

pub no_after : (flag : ℕ → Bool) (table : List Targets) (i : ℕ) → length table ≤ i → (q : ℕ) → IsOnlyFlagged flag (step_in table i) q → ⊥
no_after flag table i l q o = in_none q (subst (λ x. Contains (targets_of x) q) (get_beyond table i l) o.0)

pub some_before : (flag : ℕ → Bool) (rows : List (List ℕ)) (i : ℕ) (row : List ℕ) (o : Option ℕ) → i < length rows
    → row ≡ get_or rows i row → Answers (IsOnlyFlagged flag row) o → Answers (IsOnlyFlagged flag (before rows i)) o
some_before flag rows i row o l e w = subst (λ xs. Answers (IsOnlyFlagged flag xs) o) (e ∙ get_or_default rows i row [] l) w

pub no_before : (flag : ℕ → Bool) (rows : List (List ℕ)) (i : ℕ) → length rows ≤ i → (q : ℕ) → IsOnlyFlagged flag (before rows i) q → ⊥
no_before flag rows i l q o = in_none q (subst (λ x. Contains x q) (or_beyond rows i [] l) o.0)

module _ (step back : ℕ → List ℕ) (flag : ℕ → Bool) (n entry : ℕ) where
  pub no_forward : (p next : ℕ) → IsOnlyFlagged flag (step p) next → ((r : ℕ) → IsOnlyFlagged flag (back next) r → ⊥) → (q : ℕ)
      → IsLink step back flag n entry p q → ⊥
  no_forward p next o none q k = none p (subst (λ z. IsOnlyFlagged flag (back z) p) (one_same flag (step p) next q o k.next) k.before)

  pub no_backward : (q from : ℕ) → IsOnlyFlagged flag (back q) from → ((r : ℕ) → IsOnlyFlagged flag (step from) r → r ≡ q → ⊥) → (p : ℕ)
      → IsLink step back flag n entry p q → ⊥
  no_backward q from o none p k = none q (subst (λ z. IsOnlyFlagged flag (step z) q) (one_same flag (back q) from p o k.before) k.next) refl

  pub other_next : (from next q : ℕ) → IsOnlyFlagged flag (step from) next → next ≢ q → (r : ℕ) → IsOnlyFlagged flag (step from) r → r ≡ q
      → ⊥
  other_next from next q o ne r u e = ne (sym (one_same flag (step from) next r o u) ∙ e)

  pub one_next : (p q r : ℕ) → IsLink step back flag n entry p q → IsLink step back flag n entry p r → q ≡ r
  one_next p q r a b = sym (one_same flag (step p) q r a.next b.next)

  pub one_before : (p q r : ℕ) → IsLink step back flag n entry q p → IsLink step back flag n entry r p → q ≡ r
  one_before p q r a b = sym (one_same flag (back p) q r a.before b.before)
