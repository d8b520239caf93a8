-- Descending unions of three lists: which two are united first doesn't matter.
use Rattle.std.proofs.Common.{◌≡◌, ℕ, zero, suc, Bool, true, false, refl, sym, ap, subst, ◌∙◌, arith, true≢false}
use Rattle.std.proofs.lemmas.Bool.Decides.{nat_tests}
use Rattle.wsym_terms.specs.Costs.{is_less}
use Rattle.wsym_terms.specs.declared.costs.Cost.{Cost}
use Rattle.wsym_terms.specs.declared.costs.Cost.TheVariants.{Fin, Beyond, Unbounded}
use Rattle.wsym_terms.proofs.CostLaws.{less_one_way}
use Rattle.cost_multiset.specs.CostLists.{merged}
use Rattle.cost_multiset.proofs.MergeLaws.{merged_left, merged_right, merged_left_first, merged_right_first}

-- not less, one after another: for all costs, in range or not
pub not_less_on : (a b c : Cost) → is_less a b ≡ false → is_less b c ≡ false → is_less a c ≡ false
not_less_on Unbounded b c h j = refl
not_less_on Beyond b (Fin n) h j = refl
not_less_on Beyond b Beyond h j = refl
not_less_on Beyond (Fin m) Unbounded h j = absurd (true≢false j)
not_less_on Beyond Beyond Unbounded h j = absurd (true≢false j)
not_less_on Beyond Unbounded Unbounded h j = absurd (true≢false h)
not_less_on (Fin l) (Fin m) (Fin n) h j = grind (arith, nat_tests)
not_less_on (Fin l) Beyond (Fin n) h j = absurd (true≢false h)
not_less_on (Fin l) Unbounded (Fin n) h j = absurd (true≢false h)
not_less_on (Fin l) (Fin m) Beyond h j = absurd (true≢false j)
not_less_on (Fin l) Beyond Beyond h j = absurd (true≢false h)
not_less_on (Fin l) Unbounded Beyond h j = absurd (true≢false h)
not_less_on (Fin l) (Fin m) Unbounded h j = absurd (true≢false j)
not_less_on (Fin l) Beyond Unbounded h j = absurd (true≢false h)
not_less_on (Fin l) Unbounded Unbounded h j = absurd (true≢false h)

pub less_on : (a b c : Cost) → is_less a b ≡ true → is_less b c ≡ true → is_less a c ≡ true
less_on a b c h j = by (is_less a c) refl
  where
    by : (t : Bool) → is_less a c ≡ t → t ≡ true
    by true e = refl
    by false e = absurd (true≢false (sym h ∙ not_less_on a c b e (less_one_way b c j)))

-- the order of two unions doesn't matter
pub merged_assoc : (f g h : ℕ → Cost) (k : ℕ) → merged (merged f g) h k ≡ merged f (merged g h) k
merged_assoc f g h zero = by (is_less (f 0) (g 0)) (is_less (g 0) (h 0)) (is_less (f 0) (h 0)) refl refl refl
  where
    left : Cost → Bool → Type 0
    left x t = is_less x (h 0) ≡ t

    right : Cost → Bool → Type 0
    right x t = is_less (f 0) x ≡ t

    by : (p q r : Bool) → is_less (f 0) (g 0) ≡ p → is_less (g 0) (h 0) ≡ q → is_less (f 0) (h 0) ≡ r → merged (merged f g) h 0 ≡ merged f (merged g h) 0
    by true true r p q s =
        merged_right_first (merged f g) h (subst (λ (x : Cost). left x true) (sym (merged_right_first f g p)) q)
        ∙ sym (merged_right_first f (merged g h) (subst (λ (x : Cost). right x true) (sym (merged_right_first g h q)) (less_on (f 0) (g 0) (h 0) p q)) ∙ merged_right_first g h q)
    by true false r p q s =
        merged_left_first (merged f g) h (subst (λ (x : Cost). left x false) (sym (merged_right_first f g p)) q) ∙ merged_right_first f g p
        ∙ sym (merged_right_first f (merged g h) (subst (λ (x : Cost). right x true) (sym (merged_left_first g h q)) p) ∙ merged_left_first g h q)
    by false true true p q s =
        merged_right_first (merged f g) h (subst (λ (x : Cost). left x true) (sym (merged_left_first f g p)) s)
        ∙ sym (merged_right_first f (merged g h) (subst (λ (x : Cost). right x true) (sym (merged_right_first g h q)) s) ∙ merged_right_first g h q)
    by false true false p q s =
        merged_left_first (merged f g) h (subst (λ (x : Cost). left x false) (sym (merged_left_first f g p)) s) ∙ merged_left_first f g p
        ∙ sym (merged_left_first f (merged g h) (subst (λ (x : Cost). right x false) (sym (merged_right_first g h q)) s))
    by false false r p q s =
        merged_left_first (merged f g) h (subst (λ (x : Cost). left x false) (sym (merged_left_first f g p)) (not_less_on (f 0) (g 0) (h 0) p q)) ∙ merged_left_first f g p
        ∙ sym (merged_left_first f (merged g h) (subst (λ (x : Cost). right x false) (sym (merged_left_first g h q)) p))
merged_assoc f g h (suc k) =
    by (merged_assoc f g (λ i. h (suc i)) k) (merged_assoc f (λ i. g (suc i)) h k) (merged_assoc (λ i. f (suc i)) g h k)
    (is_less (f 0) (g 0)) (is_less (g 0) (h 0)) (is_less (f 0) (h 0)) refl refl refl
  where
    f' : ℕ → Cost
    f' i = f (suc i)

    g' : ℕ → Cost
    g' i = g (suc i)

    h' : ℕ → Cost
    h' i = h (suc i)

    left : Cost → Bool → Type 0
    left x t = is_less x (h 0) ≡ t

    right : Cost → Bool → Type 0
    right x t = is_less (f 0) x ≡ t

    by : merged (merged f g) h' k ≡ merged f (merged g h') k → merged (merged f g') h k ≡ merged f (merged g' h) k → merged (merged f' g) h k ≡ merged f' (merged g h) k
        → (p q r : Bool) → is_less (f 0) (g 0) ≡ p → is_less (g 0) (h 0) ≡ q → is_less (f 0) (h 0) ≡ r → merged (merged f g) h (suc k) ≡ merged f (merged g h) (suc k)
    by a b c true true r p q s =
        merged_right (merged f g) h k (subst (λ (x : Cost). left x true) (sym (merged_right_first f g p)) q) ∙ a
        ∙ sym (merged_right f (merged g h) k (subst (λ (x : Cost). right x true) (sym (merged_right_first g h q)) (less_on (f 0) (g 0) (h 0) p q))
        ∙ ap (λ (x : ℕ → Cost). merged f x k) (λ i j. merged_right g h j q i))
    by a b c true false r p q s =
        merged_left (merged f g) h k (subst (λ (x : Cost). left x false) (sym (merged_right_first f g p)) q)
        ∙ ap (λ (x : ℕ → Cost). merged x h k) (λ i j. merged_right f g j p i) ∙ b
        ∙ sym (merged_right f (merged g h) k (subst (λ (x : Cost). right x true) (sym (merged_left_first g h q)) p)
        ∙ ap (λ (x : ℕ → Cost). merged f x k) (λ i j. merged_left g h j q i))
    by a b c false true true p q s =
        merged_right (merged f g) h k (subst (λ (x : Cost). left x true) (sym (merged_left_first f g p)) s) ∙ a
        ∙ sym (merged_right f (merged g h) k (subst (λ (x : Cost). right x true) (sym (merged_right_first g h q)) s)
        ∙ ap (λ (x : ℕ → Cost). merged f x k) (λ i j. merged_right g h j q i))
    by a b c false true false p q s =
        merged_left (merged f g) h k (subst (λ (x : Cost). left x false) (sym (merged_left_first f g p)) s)
        ∙ ap (λ (x : ℕ → Cost). merged x h k) (λ i j. merged_left f g j p i) ∙ c
        ∙ sym (merged_left f (merged g h) k (subst (λ (x : Cost). right x false) (sym (merged_right_first g h q)) s))
    by a b c false false r p q s =
        merged_left (merged f g) h k (subst (λ (x : Cost). left x false) (sym (merged_left_first f g p)) (not_less_on (f 0) (g 0) (h 0) p q))
        ∙ ap (λ (x : ℕ → Cost). merged x h k) (λ i j. merged_left f g j p i) ∙ c
        ∙ sym (merged_left f (merged g h) k (subst (λ (x : Cost). right x false) (sym (merged_left_first g h q)) p))
