-- Headers and their numbers, one block after another.
use Rattle.std.proofs.Common.{◌≡◌, refl, sym, ap, ◌∙◌, subst, ℕ, zero, suc, ◌+◌, ◌<◌, ◌≤◌, ◌⊎◌, inl, inr, Bool, true, false, List, [], ◌∷◌}
use Rattle.std.proofs.Common.{◌++◌, length, get_or, arith}
use Rattle.std.specs.Prelude.{◌≢◌, ◌↔◌, Some, slice_get, slice_index_or}
use Rattle.std.proofs.lemmas.Bool.{cases_eq, false≢true}
use Rattle.std.proofs.lemmas.List.{length-append, get_or_append_left}
use Rattle.std.proofs.Math.Numerals.{add-one}
use Rattle.graph_search.specs.Rows.{row_in}
use Rattle.interval_loops.specs.Tables.{AreNumbered}
use Rattle.graph_search.specs.Orders.{Rising}
use Rattle.interval_loops.specs.BlockOrders.{place}
use Rattle.graph_search.proofs.OrderLemmas.{rising_end}
use Rattle.interval_loops.proofs.PlaceLemmas.{get_end, get_longer, at_place}

no_place : (i t : ℕ) → slice_get [] i ≡ Some t → ⊥
no_place i t e = absurd (cc)

none_at : (d b : ℕ) → slice_index_or [] b 0 ≡ suc d → ⊥
none_at d zero e = absurd (cc)
none_at d (suc b) e = absurd (cc)

pub no_numbers : (closers : List (List ℕ)) (headers numbers : List ℕ) → headers ≡ [] → numbers ≡ [] → AreNumbered closers 0 headers numbers
no_numbers closers headers numbers e f =
    subst (λ (ns : List ℕ). AreNumbered closers 0 headers ns) (sym f) (record {
      size = refl;
      none = λ b l z. absurd (omega (arith, l));
      some = λ d b v. absurd (none_at d b v);
      back = λ d b g. absurd (no_place d b (subst (λ (xs : List ℕ). slice_get xs d ≡ Some b) e g));
      rising = subst (λ (xs : List ℕ). Rising (λ h. h) xs) (sym e) tt;
    })

-- the value at a place of a list with one more
more_value : (ns : List ℕ) (x b d : ℕ) → slice_index_or (ns ++ x ∷ []) b 0 ≡ suc d → (slice_index_or ns b 0 ≡ suc d) ⊎
    ((b ≡ length ns) × (x ≡ suc d))
more_value [] x zero d e = inr (refl, e)
more_value [] x (suc b) d e = absurd (none_at d b e)
more_value (n ∷ ns) x zero d e = inl e
more_value (n ∷ ns) x (suc b) d e =
    elim (more_value ns x b d e) as (λ _. (slice_index_or (n ∷ ns) (suc b) 0 ≡ suc d) ⊎ ((suc b ≡ length (n ∷ ns)) × (x ≡ suc d))) [
      | inl a ↦ inl a
      | inr o ↦ inr (ap suc o.0, o.1)
    ]

last_value : (ns : List ℕ) (x : ℕ) → slice_index_or (ns ++ x ∷ []) (length ns) 0 ≡ x
last_value [] x = refl
last_value (n ∷ ns) x = last_value ns x

kept_value : (ns : List ℕ) (x b : ℕ) → b < length ns → slice_index_or (ns ++ x ∷ []) b 0 ≡ slice_index_or ns b 0
kept_value ns x b l = get_or_append_left ns (x ∷ []) 0 b l

pub end_place : (hs : List ℕ) (x : ℕ) → slice_get (hs ++ x ∷ []) (length hs) ≡ Some x
end_place [] x = refl
end_place (h ∷ hs) x = end_place hs x

smaller : (b i : ℕ) → b < i + 1 → b ≢ i → b < i
smaller b i l ne = grind arith

pub number_none : (closers : List (List ℕ)) (i : ℕ) (hs ns : List ℕ) → AreNumbered closers i hs ns → row_in closers i ≡ []
    → AreNumbered closers (i + 1) hs (ns ++ 0 ∷ [])
number_none closers i hs ns a e =
    let size = a.size in
    let long = length-append ns (0 ∷ []) in
    record {
      size = omega (arith, size, long);
      none = λ b l z.
          elim (cases_eq b i) as (λ _. row_in closers b ≡ []) [
            | inl s ↦ subst (λ x. row_in closers x ≡ []) (sym s) e
            | inr ne ↦ let m = smaller b i l ne in a.none b m (sym (kept_value ns 0 b (omega (arith, m, size))) ∙ z)
          ];
      some = λ d b v.
          elim (more_value ns 0 b d v) as (λ _. slice_get hs d ≡ Some b) [
            | inl o ↦ a.some d b o
            | inr o ↦ absurd (let z = o.1 in omega (arith, z))
          ];
      back = λ d b g. let r = a.back d b g in let l = r.2 in (kept_value ns 0 b (omega (arith, l, size)) ∙ r.0, r.1, omega (arith, l));
      rising = a.rising;
    }

pub number_some : (closers : List (List ℕ)) (i : ℕ) (hs ns : List ℕ) → AreNumbered closers i hs ns → row_in closers i ≢ []
    → AreNumbered closers (i + 1) (hs ++ i ∷ []) (ns ++ (length hs + 1) ∷ [])
number_some closers i hs ns a e =
    let size = a.size in
    let long = length-append ns ((length hs + 1) ∷ []) in
    record {
      size = omega (arith, size, long);
      none = λ b l z.
          elim (cases_eq b i) as (λ _. row_in closers b ≡ []) [
            | inl s ↦
                let v : slice_index_or (ns ++ (length hs + 1) ∷ []) b 0 ≡ length hs + 1 = ap
                (λ x. slice_index_or (ns ++ (length hs + 1) ∷ []) x 0) (s ∙ sym size) ∙ last_value ns (length hs + 1) in
                absurd (omega (arith, v, z))
            | inr ne ↦ let m = smaller b i l ne in a.none b m (sym (kept_value ns (length hs + 1) b (omega (arith, m, size))) ∙ z)
          ];
      some = λ d b v.
          elim (more_value ns (length hs + 1) b d v) as (λ _. slice_get (hs ++ i ∷ []) d ≡ Some b) [
            | inl o ↦ get_longer hs (i ∷ []) d b (a.some d b o)
            | inr o ↦
                let z = o.1 in
                let s : d ≡ length hs = omega (arith, z) in
                ap (slice_get (hs ++ i ∷ [])) s ∙ (end_place hs i ∙ ap Some (sym (o.0 ∙ size)))
          ];
      back = λ d b g.
          elim (get_end hs i d b g) as (λ _. (slice_index_or (ns ++ (length hs + 1) ∷ []) b 0 ≡ suc d) × (row_in closers b ≢ []) ×
          (b < i + 1)) [
            | inl o ↦ let r = a.back d b o in let l = r.2 in (
              kept_value ns (length hs + 1) b (omega (arith, l, size)) ∙ r.0,
              r.1,
              omega
                  (arith, l),
            )
            | inr o ↦
                let s = o.1 in
                let v : slice_index_or (ns ++ (length hs + 1) ∷ []) b 0 ≡ length hs + 1 = ap
                (λ x. slice_index_or (ns ++ (length hs + 1) ∷ []) x 0) (s ∙ sym size) ∙ last_value ns (length hs + 1) in
                (v ∙ (add-one (length hs) ∙ ap suc (sym o.0)), subst (λ x. row_in closers x ≢ []) (sym s) e, omega (arith, s))
          ];
      rising = rising_end (λ h. h) hs i a.rising (λ x k. (a.back (place x hs) x (at_place x hs k)).2);
    }

pub number_next : (closers : List (List ℕ)) (i block : ℕ) (hs ns hs' ns' : List ℕ) (flag : Bool) (item : List ℕ) → item ≡ row_in closers i
    → block ≡ i → AreNumbered closers i hs ns → ((flag ≡ true) ↔ (item ≡ []))
    → (flag ≡ true → (hs' ≡ hs) × (ns' ≡ ns ++ 0 ∷ [])) → (flag ≡ false → (hs' ≡ hs ++ block ∷ []) × (ns' ≡ ns ++ (length hs + 1) ∷ []))
    → AreNumbered closers (i + 1) hs' ns'
number_next closers i block hs ns hs' ns' true item e same a is when other =
    let y = when refl in
    subst (λ (xs : List ℕ). AreNumbered closers (i + 1) xs ns') (sym y.0)
    (subst (λ (xs : List ℕ). AreNumbered closers (i + 1) hs xs) (sym y.1) (number_none closers i hs ns a (sym e ∙ is.0 refl)))
number_next closers i block hs ns hs' ns' false item e same a is when other =
    let y = other refl in
    subst (λ (xs : List ℕ). AreNumbered closers (i + 1) xs ns') (sym (y.0 ∙ ap (λ x. hs ++ x ∷ []) same))
    (subst (λ (xs : List ℕ). AreNumbered closers (i + 1) (hs ++ i ∷ []) xs) (sym y.1)
    (number_some closers i hs ns a (λ z. false≢true (is.1 (e ∙ z)))))

pub few_more : (i : ℕ) (block n : ℕ) (hs hs' ns ns' : List ℕ) (flag : Bool) → length hs ≤ i →
    (flag ≡ true → (hs' ≡ hs) × (ns' ≡ ns ++ 0 ∷ [])) → (flag ≡ false → (hs' ≡ hs ++ block ∷ []) × (ns' ≡ ns ++ n ∷ []))
    → length hs' ≤ i + 1
few_more i block n hs hs' ns ns' true l when other = let e : length hs' ≡ length hs = ap length (when refl).0 in omega (arith, l, e)
few_more i block n hs hs' ns ns' false l when other = let e : length hs' ≡ length hs + 1 = ap length (other refl).0 ∙ length-append hs
    (block ∷ []) in omega (arith, l, e)

pub item_in : (rows : List (List ℕ)) (i : ℕ) (x y : List ℕ) → i < length rows → y ≡ get_or rows i x → y ≡ row_in rows i
item_in [] i x y l e = absurd (omega (arith, l))
item_in (r ∷ rows) zero x y l e = e
item_in (r ∷ rows) (suc i) x y l e = item_in rows i x y (omega (arith, l)) e
