-- Points are cut into chains one after another.
use Rattle.std.proofs.Common.{◌≡◌, refl, sym, ap, ◌∙◌, subst, ℕ, ◌+◌, ◌<◌, ◌≤◌, ◌⊎◌, inl, inr, List, [], ◌∷◌, ◌++◌, length, get_or, map}
use Rattle.std.proofs.Common.{arith}
use Rattle.std.specs.Prelude.{Contains, Option, Some, None, is_none, Bool, true, false, ◌&&◌}
use Rattle.std.proofs.lemmas.Bool.{false≢true}
use Rattle.std.proofs.lemmas.List.Elements.{Contains-append_left, Contains-push, Contains-push_cases}
use Rattle.basic_blocks.specs.Blocks.{Chain, points, IsLongest, Ascending, by_first}
use Rattle.basic_blocks.specs.Chains.{Follows, AreOpposite, IsChainFrom, IsSplit}
use Rattle.function_points.proofs.MemberLemmas.{here, there, in_none}

pub ascending_end : {A : Type 0} (lt : A → A → Type 0) (xs : List A) (c : A) → Ascending lt xs → ((b : A) → Contains xs b → lt b c)
    → Ascending lt (xs ++ c ∷ [])
ascending_end lt [] c a f = ((λ y i. absurd (in_none y i)), tt)
ascending_end {A} lt (x ∷ xs) c a f = (
  (λ y i.
      elim (Contains-push_cases xs c y i) as (λ _. lt x y) [
        | inl old ↦ a.0 y old
        | inr e ↦ subst (λ z. lt x z) e (f x (here x xs))
      ]),
  ascending_end lt xs c a.1 (λ b i. f b (there x b xs i)),
)

map_end : {A B : Type 0} (f : A → B) (xs : List A) (c : A) → map f (xs ++ c ∷ []) ≡ map f xs ++ f c ∷ []
map_end f [] c = refl
map_end f (x ∷ xs) c = ap (λ ys. f x ∷ ys) (map_end f xs c)

abbrev pub lists : List (Chain ℕ) → List (List ℕ)
lists bs = map (λ (b : Chain ℕ). points b) bs

pub record Cut (only : List (Option ℕ)) (flag : ℕ → Bool) (at : ℕ) (xss : List (List ℕ)) : Type 0 where
  pub bs : List (Chain ℕ)
  pub is : xss ≡ lists bs
  pub longest : (b : Chain ℕ) → Contains bs b → (b.first < length only) × (flag b.first ≡ true) × IsLongest (Follows only) b
  pub heads : (p : ℕ) → p < at → flag p ≡ true → ((r : ℕ) → Follows only r p → ⊥) → (b : Chain ℕ) × Contains bs b × (b.first ≡ p)
  pub ascending : Ascending (by_first (λ p q. p < q)) bs
  pub under : (b : Chain ℕ) → Contains bs b → b.first < at

pub none_cut : (only : List (Option ℕ)) (flag : ℕ → Bool) (xss : List (List ℕ)) → xss ≡ [] → Cut only flag 0 xss
none_cut only flag xss e =
    record {
      bs = [];
      is = e;
      longest = λ b i. absurd (in_none b i);
      heads = λ p l t f. absurd (omega (arith, l));
      ascending = tt;
      under = λ b i. absurd (in_none b i);
    }

at_or_under : (p at : ℕ) → p < at + 1 → (p ≡ at) ⊎ (p < at)
at_or_under p at l = grind arith

no_none : (p : ℕ) (o : Option ℕ) → o ≡ None → o ≡ Some p → ⊥
no_none p o e f = cc

module _ (only back : List (Option ℕ)) (are : AreOpposite only back) (flag : ℕ → Bool) (at : ℕ) where
  pub no_before : get_or back at None ≡ None → (p : ℕ) → Follows only p at → ⊥
  no_before none p f = no_none p (get_or back at None) none (are.forwards p at f)

  -- a point that follows one, or isn't flagged, begins no chain
  pub same_cut : (xss yss : List (List ℕ)) → Cut only flag at xss → (flag at ≡ false) ⊎ ((r : ℕ) × (get_or back at None ≡ Some r)) → yss
      ≡ xss → Cut only flag (at + 1) yss
  same_cut xss yss c why e =
      record {
        bs = c.bs;
        is = e ∙ c.is;
        longest = c.longest;
        heads = λ p l t f.
            elim (at_or_under p at l) as (λ _. (b : Chain ℕ) × Contains c.bs b × (b.first ≡ p)) [
              | inl s ↦
                  elim why as (λ _. (b : Chain ℕ) × Contains c.bs b × (b.first ≡ p)) [
                    | inl d ↦ absurd (false≢true (sym d ∙ subst (λ z. flag z ≡ true) s t))
                    | inr r ↦ absurd (f r.0 (subst (λ z. Follows only r.0 z) (sym s) (are.backwards r.0 at r.1)))
                  ]
              | inr m ↦ c.heads p m t f
            ];
        ascending = c.ascending;
        under = λ b i. let l = c.under b i in omega (arith, l);
      }

  pub more_cut : (xss yss : List (List ℕ)) (xs : List ℕ) → Cut only flag at xss → at < length only → flag at ≡ true → IsChainFrom only at xs
      → yss ≡ xss ++ xs ∷ [] → Cut only flag (at + 1) yss
  more_cut xss yss xs c l lit (b, is, first, longest) e =
      record {
        bs = c.bs ++ b ∷ [];
        is = e ∙ ap (λ zss. zss ++ xs ∷ []) c.is ∙ ap (λ zs. lists c.bs ++ zs ∷ []) is ∙ sym (map_end (λ (d : Chain ℕ). points d) c.bs b);
        longest = λ d i.
            elim (Contains-push_cases c.bs b d i) as (λ _. (d.first < length only) × (flag d.first ≡ true) × IsLongest (Follows only) d) [
              | inl old ↦ c.longest d old
              | inr s ↦ subst (λ z. (z.first < length only) × (flag z.first ≡ true) × IsLongest (Follows only) z) s
                  ((subst (λ z. z < length only) (sym first) l), (subst (λ z. flag z ≡ true) (sym first) lit), longest)
            ];
        heads = λ p k t f.
            elim (at_or_under p at k) as (λ _. (d : Chain ℕ) × Contains (c.bs ++ b ∷ []) d × (d.first ≡ p)) [
              | inl s ↦ (b, Contains-push c.bs b, first ∙ sym s)
              | inr m ↦ let h = c.heads p m t f in (h.0, Contains-append_left c.bs (b ∷ []) h.0 h.1, h.2)
            ];
        ascending = ascending_end (by_first (λ p q. p < q)) c.bs b c.ascending (λ d i. subst (λ z. d.first < z) (sym first) (c.under d i));
        under = λ d i.
            elim (Contains-push_cases c.bs b d i) as (λ _. d.first < at + 1) [
              | inl old ↦ let u = c.under d old in omega (arith, u)
              | inr s ↦ subst (λ z. z.first < at + 1) s (omega (arith, first))
            ];
      }

pub whole_cut : (only : List (Option ℕ)) (flag : ℕ → Bool) (at : ℕ) (xss : List (List ℕ)) → Cut only flag at xss → length only ≤ at
    → IsSplit only flag xss
whole_cut only flag at xss c le = (
  c.bs,
  c.is,
  record {
    longest = c.longest;
    heads = λ p l t f. c.heads p (omega (arith, l, le)) t f;
    ascending = c.ascending;
  },
)

pub begins_parts : (t : Bool) (o : Option ℕ) → (t && is_none o) ≡ true → (t ≡ true) × (o ≡ None)
begins_parts true None e = (refl, refl)
begins_parts true (Some r) e = absurd (false≢true e)
begins_parts false o e = absurd (false≢true e)

pub begins_not : (t : Bool) (o : Option ℕ) → (t && is_none o) ≡ false → (t ≡ false) ⊎ ((r : ℕ) × (o ≡ Some r))
begins_not true None e = absurd (false≢true (sym e))
begins_not true (Some r) e = inr (r, refl)
begins_not false o e = inl refl
