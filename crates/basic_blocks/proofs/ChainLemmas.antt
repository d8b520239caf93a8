-- A chain is followed to its end.
use Rattle.std.proofs.Common.{◌≡◌, refl, sym, ap, ◌∙◌, subst, ℕ, zero, suc, ◌-◌, ◌<◌, ◌≤◌, ◌⊎◌, inl, inr, true, false, List, [], ◌∷◌, ◌++◌}
use Rattle.std.proofs.Common.{length, get_or, arith}
use Rattle.std.specs.Prelude.{nat_eq, Option, Some, None}
use Rattle.std.proofs.lemmas.Bool.{cases_Bool, or_cases, or_left, or_right, false≢true}
use Rattle.std.proofs.lemmas.List.{length-append}
use Rattle.graph_search.specs.NodeLists.{holds, Distinct}
use Rattle.graph_search.proofs.ListLemmas.{nat_equality, holds_one, holds_first, holds_parts, distinct_end, no_more}
use Rattle.basic_blocks.specs.Blocks.{last_of, IsChain}
use Rattle.basic_blocks.specs.Chains.{Follows, AreOpposite, IsChainFrom}

pub chain_end : {A : Type 0} (R : A → A → Type 0) (p q : A) (ps : List A) → IsChain R p ps → R (last_of p ps) q → IsChain R p (ps ++ q ∷ [])
chain_end R p q [] c r = (r, tt)
chain_end R p q (x ∷ ps) c r = (c.0, chain_end R x q ps c.1 r)

pub last_end : {A : Type 0} (p q : A) (ps : List A) → last_of p (ps ++ q ∷ []) ≡ q
last_end p q [] = refl
last_end p q (x ∷ ps) = last_end x q ps

last_held : (p : ℕ) (ps : List ℕ) → holds nat_eq (last_of p ps) (p ∷ ps) ≡ true
last_held p [] = holds_first ℕ nat_equality p []
last_held p (x ∷ ps) = or_right (nat_eq (last_of x ps) p) (holds nat_eq (last_of x ps) (x ∷ ps)) (last_held x ps)

-- what follows the last point of a chain stands there only as the first
round_back : (R : ℕ → ℕ → Type 0) → ((p q r : ℕ) → R p r → R q r → p ≡ q) → (p : ℕ) (ps : List ℕ) (x : ℕ) → IsChain R p ps → Distinct nat_eq
    (p ∷ ps) → R (last_of p ps) x → holds nat_eq x (p ∷ ps) ≡ true → x ≡ p
round_back R one p [] x c d r h = holds_one ℕ nat_equality x p h
round_back R one p (q ∷ ps) x c d r h =
    elim (or_cases (nat_eq x p) (holds nat_eq x (q ∷ ps)) h) as (λ _. x ≡ p) [
      | inl e ↦ nat_equality.exact x p e
      | inr i ↦
          let e : x ≡ q = round_back R one q ps x c.1 d.1 r i in
          let same : last_of q ps ≡ p = one (last_of q ps) p q (subst (λ z. R (last_of q ps) z) e r) c.0 in
          absurd (false≢true (sym d.0 ∙ subst (λ z. holds nat_eq z (q ∷ ps) ≡ true) same (last_held q ps)))
    ]

abbrev pub below : ℕ → List ℕ
below zero = []
below (suc n) = n ∷ below n

in_below : (n x : ℕ) → x < n → holds nat_eq x (below n) ≡ true
in_below zero x l = absurd (omega (arith, l))
in_below (suc n) x l =
    elim (at_or_under x n l) as (λ _. holds nat_eq x (below (suc n)) ≡ true) [
      | inl e ↦ or_left (nat_eq x n) (holds nat_eq x (below n)) (subst (λ z. nat_eq x z ≡ true) e (nat_equality.itself x))
      | inr m ↦ or_right (nat_eq x n) (holds nat_eq x (below n)) (in_below n x m)
    ]
  where
    at_or_under : (x n : ℕ) → x < suc n → (x ≡ n) ⊎ (x < n)
    at_or_under x n l = grind arith

below_length : (n : ℕ) → length (below n) ≡ n
below_length zero = refl
below_length (suc n) = ap suc (below_length n)

pub no_more_below : (n : ℕ) (ps : List ℕ) → Distinct nat_eq ps → ((q : ℕ) → holds nat_eq q ps ≡ true → q < n) → length ps ≤ n
no_more_below n ps d h = let le = no_more ℕ nat_equality ps (below n) d (λ q k. in_below n q (h q k)) in let e = below_length n in omega
    (arith, le, e)

pub record Drawn (only : List (Option ℕ)) (first : ℕ) (ps : List ℕ) (at : ℕ) : Type 0 where
  pub rest : List ℕ
  pub is : ps ≡ first ∷ rest
  pub chain : IsChain (Follows only) first rest
  pub end : last_of first rest ≡ at
  pub distinct : Distinct nat_eq ps
  pub under : (q : ℕ) → holds nat_eq q ps ≡ true → q < length only
  pub here : at < length only

pub start_drawn : (only : List (Option ℕ)) (first : ℕ) (ps : List ℕ) → first < length only → ps ≡ first ∷ [] → Drawn only first ps first
start_drawn only first ps l e =
    record {
      rest = [];
      is = e;
      chain = tt;
      end = refl;
      distinct = subst (Distinct nat_eq) (sym e) (refl, tt);
      under = λ q h. subst (λ z. z < length only) (sym (holds_one ℕ nat_equality q first (subst (λ zs. holds nat_eq q zs ≡ true) e h))) l;
      here = l;
    }

module _ (only back : List (Option ℕ)) (are : AreOpposite only back) (first : ℕ) (head : (p : ℕ) → Follows only p first → ⊥) where
  one_before : (p q r : ℕ) → Follows only p r → Follows only q r → p ≡ q
  one_before p q r a b = same_some p q (get_or back r None) (are.forwards p r a) (are.forwards q r b)
    where
      same_some : (p q : ℕ) (o : Option ℕ) → o ≡ Some p → o ≡ Some q → p ≡ q
      same_some p q o a b = cc

  pub more_drawn : (ps qs : List ℕ) (at q : ℕ) → Drawn only first ps at → Follows only at q → qs ≡ ps ++ q ∷ [] → Drawn only first qs q
  more_drawn ps qs at q d f e =
      let r : Follows only (last_of first d.rest) q = subst (λ z. Follows only z q) (sym d.end) f in
      let new : holds nat_eq q ps ≡ false =
      elim (cases_Bool (holds nat_eq q ps)) as (λ _. holds nat_eq q ps ≡ false) [
        | inl t ↦
            let back : q ≡ first = round_back (Follows only) one_before first d.rest q d.chain (subst (Distinct nat_eq) d.is d.distinct) r
            (subst (λ zs. holds nat_eq q zs ≡ true) d.is t) in
            absurd (head at (subst (λ z. Follows only at z) back f))
        | inr n ↦ n
      ] in
      record {
        rest = d.rest ++ q ∷ [];
        is = e ∙ ap (λ zs. zs ++ q ∷ []) d.is;
        chain = chain_end (Follows only) first q d.rest d.chain r;
        end = last_end first q d.rest;
        distinct = subst (Distinct nat_eq) (sym e) (distinct_end ℕ nat_equality q ps d.distinct new);
        under = λ x h.
            elim (holds_parts ℕ nat_equality x ps (q ∷ []) (subst (λ zs. holds nat_eq x zs ≡ true) e h)) as (λ _. x < length only) [
              | inl a ↦ d.under x a
              | inr b ↦ subst (λ z. z < length only) (sym (holds_one ℕ nat_equality x q b)) (are.below at q f)
            ];
        here = are.below at q f;
      }

  pub drawn_smaller : (ps qs : List ℕ) (at q : ℕ) → Drawn only first ps at → Follows only at q → qs ≡ ps ++ q ∷ []
      → length only - length qs < length only - length ps
  drawn_smaller ps qs at q d f e =
      let n = more_drawn ps qs at q d f e in
      let le = no_more_below (length only) qs n.distinct n.under in
      let long = ap length e ∙ length-append ps (q ∷ []) in
      omega (arith, le, long)

  pub drawn_whole : (ps xs : List ℕ) (at : ℕ) → Drawn only first ps at → ((x : ℕ) → Follows only at x → ⊥) → xs ≡ ps
      → IsChainFrom only first xs
  drawn_whole ps xs at d none e = (
    record { first = first; rest = d.rest },
    e ∙ d.is,
    refl,
    record {
      chain = d.chain;
      head = head;
      end = λ r f. none r (subst (λ z. Follows only z r) d.end f);
    },
  )
