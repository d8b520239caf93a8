-- What a search has collected.
use Rattle.std.proofs.Common.{◌≡◌, ◌≢◌, ℕ, suc, ◌+◌, ◌%◌, ◌<◌, ◌≤◌, ◌⊎◌, inl, inr, true, false, eqb, List, [], ◌∷◌, ◌++◌, length, take, sym}
use Rattle.std.proofs.Common.{ap, ◌∙◌, subst, arith}
use Rattle.std.specs.Prelude.{nat_eq, Some, slice_get}
use Rattle.std.proofs.Math.Numerals.{add-one}
use Rattle.std.proofs.lemmas.Bool.{cond-true, cond-false, false≢true}
use Rattle.std.proofs.lemmas.Bool.Decides.{eqb_tells}
use Rattle.std.proofs.lemmas.List.{take_all, take-append-le}
use Rattle.graph_search.specs.NodeLists.{added, added_all, holds}
use Rattle.graph_search.specs.Searches.{Searched}
use Rattle.graph_search.proofs.ListLemmas.{all_go_on, from_all, distinct_all, holds_all, holds_left, holds_one, holds_parts, holds_first}
use Rattle.graph_search.proofs.ListLemmas.{holds_right, kept_by_all, nat_equality, no_more}
use Rattle.graph_search.proofs.SearchLemmas.{all_found, take_next, get_within, holds_front}
use Rattle.persistence.specs.Collected.{Collected, IsMet, collected}
use Rattle.persistence.specs.Younger.{AtLeast}

module _ (lines : ℕ → ℕ) (line sets : ℕ) where
  pub nothing : Collected lines line sets [] []
  nothing = record { distinct = tt; each = λ m h. absurd (false≢true h); all = λ q h. absurd (false≢true h) }

  passed_by : (done ms : List ℕ) (p : ℕ) → ((lines p ≡ line) ⊎ (lines p % sets ≢ line % sets)) → Collected lines line sets done ms
      → Collected lines line sets (done ++ p ∷ []) ms
  passed_by done ms p out c =
      record {
        distinct = c.distinct;
        each = λ m h. let e = c.each m h in (e.0, e.1, (e.2.0, holds_left ℕ nat_equality e.2.0 done (p ∷ []) e.2.1, e.2.2));
        all = λ q h ne same.
            elim (holds_parts ℕ nat_equality q done (p ∷ []) h) as (λ _. holds nat_eq (lines q) ms ≡ true) [
              | inl a ↦ c.all q a ne same
              | inr b ↦
                  let is : q ≡ p = holds_one ℕ nat_equality q p b in
                  elim out as (λ _. holds nat_eq (lines q) ms ≡ true) [
                    | inl e ↦ absurd (ne (ap lines is ∙ e))
                    | inr e ↦ absurd (e (ap (λ (x : ℕ). lines x % sets) (sym is) ∙ same))
                  ]
            ];
      }

  taken_up : (done ms : List ℕ) (p : ℕ) → lines p ≢ line → lines p % sets ≡ line % sets → Collected lines line sets done ms
      → Collected lines line sets (done ++ p ∷ []) (added nat_eq ms (lines p))
  taken_up done ms p ne same c =
      record {
        distinct = distinct_all ℕ nat_equality ms (lines p ∷ []) c.distinct;
        each = λ m h.
            elim (from_all ℕ nat_equality m ms (lines p ∷ []) h) as (λ _. (m ≢ line) × (m % sets ≡ line % sets)
            × ((q : ℕ) × (holds nat_eq q (done ++ p ∷ []) ≡ true) × (lines q ≡ m))) [
              | inl a ↦ let e = c.each m a in (e.0, e.1, (e.2.0, holds_left ℕ nat_equality e.2.0 done (p ∷ []) e.2.1, e.2.2))
              | inr b ↦
                  let is : m ≡ lines p = holds_one ℕ nat_equality m (lines p) b in (
                    (λ e. ne (sym is ∙ e)),
                    ap (λ (x : ℕ). x % sets) is ∙ same,
                    (p, holds_right ℕ nat_equality p done (p ∷ []) (holds_first ℕ nat_equality p []), sym is),
                  )
            ];
        all = λ q h ne2 same2.
            elim (holds_parts ℕ nat_equality q done (p ∷ []) h) as (λ _. holds nat_eq (lines q) (added nat_eq ms (lines p)) ≡ true) [
              | inl a ↦ kept_by_all ℕ nat_equality (lines q) ms (lines p ∷ []) (c.all q a ne2 same2)
              | inr b ↦ holds_all ℕ nat_equality (lines q) ms (lines p ∷ []) (subst
                  (λ (x : ℕ). holds nat_eq (lines x) (lines p ∷ []) ≡ true) (sym (holds_one ℕ nat_equality q p b))
                  (holds_first ℕ nat_equality (lines p) []))
            ];
      }

  -- one point more
  one_point : (done ms : List ℕ) (p : ℕ) → Collected lines line sets done ms
      → Collected lines line sets (done ++ p ∷ []) (collected line sets ms (lines p))
  one_point done ms p c = by_test (eqb_tells (lines p) line) (eqb_tells (lines p % sets) (line % sets))
    where
      Goal : List ℕ → Type 0
      Goal ys = Collected lines line sets (done ++ p ∷ []) ys

      by_test : ((eqb (lines p) line ≡ true) × (lines p ≡ line)) ⊎ ((eqb (lines p) line ≡ false) × (lines p ≢ line))
          → ((eqb (lines p % sets) (line % sets) ≡ true) × (lines p % sets ≡ line % sets))
          ⊎ ((eqb (lines p % sets) (line % sets) ≡ false) × (lines p % sets ≢ line % sets)) → Goal (collected line sets ms (lines p))
      by_test (inl a) d = subst Goal (sym (cond-true (eqb (lines p) line) ms _ a.0)) (passed_by done ms p (inl a.1) c)
      by_test (inr a) (inl d) = subst Goal (sym (cond-false (eqb (lines p) line) ms _ a.0
          ∙ cond-true (eqb (lines p % sets) (line % sets)) (added nat_eq ms (lines p)) ms d.0)) (taken_up done ms p a.1 d.1 c)
      by_test (inr a) (inr d) = subst Goal (sym (cond-false (eqb (lines p) line) ms _ a.0
          ∙ cond-false (eqb (lines p % sets) (line % sets)) (added nat_eq ms (lines p)) ms d.0)) (passed_by done ms p (inr d.1) c)

  pub next_collected : (at : ℕ) (ps qs new : List ℕ) (p : ℕ) (ms ns : List ℕ) (met : ℕ) → slice_get ps at ≡ Some p
      → qs ≡ added_all nat_eq ps new → Collected lines line sets (take at ps) ms → met ≡ lines p → ns ≡ collected line sets ms met
      → Collected lines line sets (take (at + 1) qs) ns
  next_collected at ps qs new p ms ns met get is c e same =
      let more = all_go_on ℕ nat_equality ps new in
      let long = get_within ps at p get in
      let front : take (suc at) qs ≡ take at ps ++ p ∷ [] =
      ap (take (suc at)) (is ∙ more.1) ∙ take-append-le (suc at) ps more.0 (omega (arith, long)) ∙ take_next ps at p get in
      let next : take (at + 1) qs ≡ take at ps ++ p ∷ [] = ap (λ (k : ℕ). take k qs) (add-one at) ∙ front in
      subst (λ (ys : List ℕ). Collected lines line sets (take (at + 1) qs) ys) (sym (same ∙ ap (collected line sets ms) e))
      (subst (λ (ys : List ℕ). Collected lines line sets ys (collected line sets ms (lines p))) (sym next) (one_point (take at ps) ms p c))

  module _ (step : ℕ → List ℕ) (start : ℕ) where
    -- this number of them was met
    pub many_met : (at : ℕ) (ps ms : List ℕ) (ways : ℕ) → Searched nat_eq step start at ps → Collected lines line sets (take at ps) ms
        → ways ≤ length ms → AtLeast ways (IsMet step lines start line sets)
    many_met at ps ms ways s c le = (
      ms,
      c.distinct,
      (λ m h.
          let e = c.each m h in
          (e.0, e.1, (e.2.0, s.reached e.2.0 (holds_front ℕ nat_equality e.2.0 at ps e.2.1), e.2.2))),
      le,
    )

    -- there are no more
    pub few_met : (at : ℕ) (ps ms : List ℕ) (ways : ℕ) → Searched nat_eq step start at ps → Collected lines line sets (take at ps) ms
        → length ps ≤ at → length ms < ways → AtLeast ways (IsMet step lines start line sets) → ⊥
    few_met at ps ms ways s c le lt more =
        let few = no_more ℕ nat_equality more.0 ms more.1 (λ m h.
        let is = more.2 m h in
        let found = all_found step start at ps s le is.2.0 is.2.1 in
        let same : lines is.2.0 ≡ m = is.2.2 in
        subst (λ (x : ℕ). holds nat_eq x ms ≡ true) same (c.all is.2.0 (subst (λ (ys : List ℕ). holds nat_eq is.2.0 ys ≡ true)
        (sym (take_all at ps le)) found)
        (λ e. is.0 (sym same ∙ e)) (ap (λ (x : ℕ). x % sets) same ∙ is.1))) in
        omega (arith, few, lt, more.3)
