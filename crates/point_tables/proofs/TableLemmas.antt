-- Tables by numbers say what the ways of the points say.
use Rattle.point_tables.specs.Targets.{numbers_in, way, target_numbers, targets_of, step_in, number_place, numbered_way, numbered_ways}
use Rattle.point_tables.specs.Targets.{AreTargets}
use Rattle.std.proofs.Common.{◌≡◌, refl, sym, ap, ◌∙◌, subst, ℕ, ◌<◌, ◌≤◌, ◌⊎◌, inl, inr, Bool, true, false, List, [], ◌∷◌, length}
use Rattle.std.proofs.Common.{get_or, arith}
use Rattle.std.specs.Prelude.{◌≢◌, ◌==◌, Contains, Option, Some, None, slice_get, nat_eq}
use Rattle.std.proofs.lemmas.Bool.{cases_Bool, cases_eq, cond-true, cond-false, eqb-true, eq-eqb, or_left, or_right}
use Rattle.std.proofs.lemmas.List.{get_or_default}
use Rattle.std.proofs.lemmas.List.Elements.{Contains-append_left, Contains-append_right, Contains-append_cases}
use Rattle.std.proofs.lemmas.Option.{slice_get_within, slice_get-get_or}
use Rattle.graph_search.specs.NodeLists.{holds}
use Rattle.graph_search.proofs.ListLemmas.{nat_equality}
use Rattle.control_flow.specs.Routes.{Place, Way, Goes, IsReached, IsLive}
use Rattle.control_flow.specs.Routes.Place.{At, Exit}
use Rattle.basic_blocks.specs.Blocks.{IsOnlyWay}
use Rattle.basic_blocks.specs.Chains.{AreOpposite}
use Rattle.basic_blocks.specs.LivePoints.{AreRows, before}
use Rattle.function_points.proofs.MemberLemmas.{here, first_or_rest, in_none}
use Rattle.point_order.proofs.PreorderLemmas.{held_in}
use Rattle.point_tables.specs.declared.targets.Targets.{Targets}
use Rattle.point_tables.specs.Numbers.{AreNumbers, AreSources, AreLiveFlags, IsLink, IsTableOf}

pub in_held : (x : ℕ) (xs : List ℕ) → Contains xs x → holds nat_eq x xs ≡ true
in_held x [] i = absurd (in_none x i)
in_held x (y ∷ xs) i =
    elim (first_or_rest y x xs i) as (λ _. holds nat_eq x (y ∷ xs) ≡ true) [
      | inl e ↦ or_left (nat_eq x y) (holds nat_eq x xs) (subst (λ z. nat_eq z y ≡ true) e (nat_equality.itself y))
      | inr n ↦ or_right (nat_eq x y) (holds nat_eq x xs) (in_held x xs n)
    ]

pub in_one : {A : Type 0} (x y : A) → Contains (x ∷ []) y → x ≡ y
in_one x y i =
    elim (first_or_rest x y [] i) as (λ _. x ≡ y) [
      | inl e ↦ e
      | inr n ↦ absurd (in_none y n)
    ]

-- the ways of a row

module _ {A : Type 0} (ps : List A) (start : A) where
  abbrev n : ℕ
  n = length ps

  pub place_at : (j : ℕ) → j < n → number_place ps start j ≡ At (get_or ps j start)
  place_at j l = cond-false (j == n) Exit (At (get_or ps j start)) (differ j n l)
    where
      differ : (j n : ℕ) → j < n → (j == n) ≡ false
      differ j n l =
          elim (cases_Bool (j == n)) as (λ _. (j == n) ≡ false) [
            | inl t ↦ let e = eqb-true j n t in absurd (omega (arith, e, l))
            | inr f ↦ f
          ]

  pub place_exit : number_place ps start n ≡ Exit
  place_exit = cond-true (n == n) Exit (At (get_or ps n start)) (eq-eqb n n refl)

  -- a number's way
  number_way : (d : Bool) (o : Option ℕ) (j : ℕ) → Contains (numbers_in o) j
      → Contains (numbered_way ps start d o) (way d (number_place ps start j))
  number_way d None j i = absurd (in_none j i)
  number_way d (Some k) j i = let e = in_one k j i in subst (λ z. Contains (way d (number_place ps start k) ∷ [])
      (way d (number_place ps start z))) e (here (way d (number_place ps start k)) [])

  way_number : (d e : Bool) (o : Option ℕ) (to : Place A) → Contains (numbered_way ps start d o) (way e to) → (j : ℕ)
      × Contains (numbers_in o) j × (number_place ps start j ≡ to)
  way_number d e None to i = absurd (in_none (way e to) i)
  way_number d e (Some k) to i = (k, here k [], ap (λ (w : Way A). w.to) (in_one (way d (number_place ps start k)) (way e to) i))

  target_way : (a : Targets) (j : ℕ) → Contains (target_numbers a) j → (d : Bool)
      × Contains (numbered_ways ps start a) (way d (number_place ps start j))
  target_way a j i =
      elim (Contains-append_cases (numbers_in a.done) (numbers_in a.skipped) j i) as
      (λ _. (d : Bool) × Contains (numbered_ways ps start a) (way d (number_place ps start j))) [
        | inl m ↦ (
          true,
          Contains-append_left (numbered_way ps start true a.done) (numbered_way ps start false a.skipped)
              (way true (number_place ps start j)) (number_way true a.done j m),
        )
        | inr m ↦ (
          false,
          Contains-append_right (numbered_way ps start true a.done) (numbered_way ps start false a.skipped)
              (way false (number_place ps start j)) (number_way false a.skipped j m),
        )
      ]

  way_target : (a : Targets) (d : Bool) (to : Place A) → Contains (numbered_ways ps start a) (way d to) → (j : ℕ)
      × Contains (target_numbers a) j × (number_place ps start j ≡ to)
  way_target a d to i =
      elim (Contains-append_cases (numbered_way ps start true a.done) (numbered_way ps start false a.skipped) (way d to) i) as
      (λ _. (j : ℕ) × Contains (target_numbers a) j × (number_place ps start j ≡ to)) [
        | inl m ↦ let r = way_number true d a.done to m in (
          r.0,
          Contains-append_left (numbers_in a.done)
              (numbers_in a.skipped) r.0 r.1,
          r.2,
        )
        | inr m ↦ let r = way_number false d a.skipped to m in (
          r.0,
          Contains-append_right (numbers_in a.done)
              (numbers_in a.skipped) r.0 r.1,
          r.2,
        )
      ]

  at_exit : (p : A) → At p ≡ Exit → ⊥
  at_exit p e = cc

  same_at : (p q : A) → At p ≡ At q → p ≡ q
  same_at p q e = cc

  -- the number of a place
  place_number : (j : ℕ) (q : A) → j ≤ n → number_place ps start j ≡ At q → (j < n) × (get_or ps j start ≡ q)
  place_number j q le e =
      elim (cases_eq j n) as (λ _. (j < n) × (get_or ps j start ≡ q)) [
        | inl s ↦ absurd (at_exit q (sym e ∙ subst (λ z. number_place ps start z ≡ Exit) (sym s) place_exit))
        | inr ne ↦ let l = less j n le ne in (l, same_at (get_or ps j start) q (sym (place_at j l) ∙ e))
      ]
    where
      less : (j n : ℕ) → j ≤ n → j ≢ n → j < n
      less j n le ne = grind (arith, le, ne)

  exit_number : (j : ℕ) → j ≤ n → number_place ps start j ≡ Exit → j ≡ n
  exit_number j le e =
      elim (cases_eq j n) as (λ _. j ≡ n) [
        | inl s ↦ s
        | inr ne ↦ absurd (at_exit (get_or ps j start) (sym (place_at j (less j n le ne)) ∙ e))
      ]
    where
      less : (j n : ℕ) → j ≤ n → j ≢ n → j < n
      less j n le ne = grind (arith, le, ne)

in_step : (table : List Targets) (i : ℕ) (a : Targets) (j : ℕ) → slice_get table i ≡ Some a → Contains (target_numbers a) j
    → Contains (step_in table i) j
in_step table i a j e m = subst (λ o. Contains (targets_of o) j) (sym e) m

pub step_row : (table : List Targets) (i j : ℕ) → Contains (step_in table i) j → (a : Targets) × (slice_get table i ≡ Some a)
    × Contains (target_numbers a) j
step_row table i j m = by_entry (slice_get table i) refl m
  where
    by_entry : (o : Option Targets) → o ≡ slice_get table i → Contains (targets_of o) j → (a : Targets) × (slice_get table i ≡ Some a)
        × Contains (target_numbers a) j
    by_entry None e m = absurd (in_none j m)
    by_entry (Some a) e m = (a, sym e, m)

module _ {A : Type 0} (ways : A → List (Way A)) (start : A) (ps : List A) (table : List Targets)
    (are : AreTargets ways start ps table) where
  abbrev spot : ℕ → A
  spot i = get_or ps i start

  some_row : (i : ℕ) → i < length ps → (a : Targets) × (slice_get table i ≡ Some a)
  some_row i l = by_entry (slice_get table i) refl
    where
      nothing : Targets
      nothing = record { done = None; skipped = None }

      by_entry : (o : Option Targets) → o ≡ slice_get table i → (a : Targets) × (slice_get table i ≡ Some a)
      by_entry o e = (get_or table i nothing, slice_get-get_or table i nothing (subst (λ m. i < m) (sym are.long) l))

  pub targets_are_numbers : AreNumbers ways start ps (step_in table)
  targets_are_numbers =
      record {
        all = are.all;
        only = are.only;
        distinct = are.distinct;
        goes = λ i j l m. (
          (λ c.
              let r = step_row table i j c in
              let w = target_way ps start r.0 j r.2 in (
                w.0,
                subst (λ ws. Contains ws (way w.0 (At (spot j)))) (sym (are.ahead i r.0 r.1))
                    (subst (λ z. Contains (numbered_ways ps start r.0) (way w.0 z)) (place_at ps start j m) w.1),
              )),
          (λ g.
              let r = some_row i l in
              let t = way_target ps start r.0 g.0 (At (spot j)) (subst (λ ws. Contains ws (way g.0 (At (spot j))))
              (are.ahead i r.0 r.1) g.1) in
              let s = in_step table i r.0 t.0 r.1 t.1 in
              let p = place_number ps start t.0 (spot j) (are.inside i t.0 s) t.2 in
              subst (λ z. Contains (step_in table i) z) (are.distinct t.0 j p.0 m p.1) s),
        );
        leaves = λ i l. (
          (λ c.
              let r = step_row table i (length ps) c in
              let w = target_way ps start r.0 (length ps) r.2 in (
                w.0,
                subst (λ ws. Contains ws (way w.0 Exit)) (sym (are.ahead i r.0 r.1))
                    (subst (λ z. Contains (numbered_ways ps start r.0) (way w.0 z)) (place_exit ps start) w.1),
              )),
          (λ g.
              let r = some_row i l in
              let t = way_target ps start r.0 g.0 Exit (subst (λ ws. Contains ws (way g.0 Exit)) (are.ahead i r.0 r.1) g.1) in
              let s = in_step table i r.0 t.0 r.1 t.1 in
              subst (λ z. Contains (step_in table i) z) (exit_number ps start t.0 (are.inside i t.0 s) t.2) s),
        );
        inside = λ i j c.
            let r = step_row table i j c in
            let l = slice_get_within table i r.0 r.1 in
            (subst (λ m. i < m) are.long l, are.inside i j c);
      }

-- what the tables of numbers say of points

module _ {A : Type 0} (ways : A → List (Way A)) (start : A) (ps : List A) (step : ℕ → List ℕ) (are : AreNumbers ways start ps step) where
  abbrev at : ℕ → A
  at i = get_or ps i start

  number : (p : A) → IsReached ways start p → (i : ℕ) × (i < length ps) × (at i ≡ p)
  number p c = let i = are.all p c in (i.0, i.1, get_or_default ps i.0 start p i.1 ∙ i.2)

  pub numbers_rows : (rows : List (List ℕ)) → AreSources step (before rows) → AreRows ways start ps rows
  numbers_rows rows b =
      record {
        all = are.all;
        only = are.only;
        inside = λ i j l h. (are.inside i j ((b i j).0 (held_in i (before rows j) h))).0;
        exits = λ i l. (
          (λ h. (are.leaves i l).0 ((b i (length ps)).0 (held_in i (before rows (length ps)) h))),
          (λ w. in_held i (before rows (length ps)) ((b i (length ps)).1 ((are.leaves i l).1 w))),
        );
        goes = λ i j l m. (
          (λ h. (are.goes i j l m).0 ((b i j).0 (held_in i (before rows j) h))),
          (λ w. in_held i (before rows j) ((b i j).1 ((are.goes i j l m).1 w))),
        );
      }

  module _ (back : ℕ → List ℕ) (opposite : AreSources step back) (flag : ℕ → Bool) (living : AreLiveFlags ways start ps flag) (entry : ℕ)
      (first : entry < length ps) (entry_is : at entry ≡ start) where
    abbrev O : A → A → Type 0
    O = IsOnlyWay ways start

    abbrev L : ℕ → ℕ → Type 0
    L = IsLink step back flag (length ps) entry

    pub flagged : (p : A) → IsLive ways start p → (i : ℕ) × (i < length ps) × (at i ≡ p) × (flag i ≡ true)
    flagged p l = let i = number p l.0 in (i.0, i.1, i.2, (living.live i.0 i.1).1 (subst (IsLive ways start) (sym i.2) l))

    pub link_below : (p q : ℕ) → L p q → p < length ps
    link_below p q k = (are.inside p q k.next.0).0

    pub link_only_way : (p q : ℕ) → L p q → O (at p) (at q)
    link_only_way p q k =
        let lp = link_below p q k in
        let lq = k.below in
        record {
          from = (living.live p lp).0 k.before.1;
          live = (living.live q lq).0 k.next.1;
          goes = (are.goes p q lp lq).0 k.next.0;
          stays = λ w. let e = k.next.2 (length ps) ((are.leaves p lp).1 w) living.exit in omega (arith, e, lq);
          one = λ r l g.
              let i = flagged r l in
              let c = (are.goes p i.0 lp i.1).1 (subst (λ z. Goes ways (at p) z) (sym i.2) g) in
              sym i.2 ∙ ap at (k.next.2 i.0 c i.3);
          alone = λ r l g.
              let i = flagged r l in
              let c = (are.goes i.0 q i.1 lq).1 (subst (λ z. Goes ways z (at q)) (sym i.2) g) in
              sym i.2 ∙ ap at (k.before.2 i.0 ((opposite i.0 q).1 c) i.3);
          inner = λ e. k.inner (are.distinct q entry lq first (e ∙ sym entry_is));
        }

    pub only_way_link : (p q : ℕ) → p < length ps → q < length ps → O (at p) (at q) → L p q
    only_way_link p q lp lq o =
        let c = (are.goes p q lp lq).1 o.goes in
        record {
          next = (
            c,
            (living.live q lq).1 o.live,
            λ r i f.
                elim (within r (are.inside p r i).1) as (λ _. r ≡ q) [
                  | inl e ↦ absurd (o.stays ((are.leaves p lp).0 (subst (λ z. Contains (step p) z) e i)))
                  | inr l ↦ are.distinct r q l lq (o.one (at r) ((living.live r l).0 f) ((are.goes p r lp l).0 i))
                ],
          );
          before = (
            (opposite p q).1 c,
            (living.live p lp).1 o.from,
            λ r i f.
                let d = (opposite r q).0 i in
                let l = (are.inside r q d).0 in
                are.distinct r p l lp (o.alone (at r) ((living.live r l).0 f) ((are.goes r q l lq).0 d)),
          );
          below = lq;
          inner = λ e. o.inner (ap at e ∙ entry_is);
        }
      where
        within : (r : ℕ) → r ≤ length ps → (r ≡ length ps) ⊎ (r < length ps)
        within r le = split_le r (length ps) le
          where
            split_le : (r n : ℕ) → r ≤ n → (r ≡ n) ⊎ (r < n)
            split_le r n le = grind arith

-- tables of one relation, both ways

pub opposite_tables : (R : ℕ → ℕ → Type 0) (n : ℕ) (only back : List (Option ℕ)) → ((p q : ℕ) → R p q → (p < n) × (q < n))
    → IsTableOf R n only → IsTableOf (λ q p. R p q) n back → AreOpposite only back
opposite_tables R n only back within a b =
    record {
      long = b.long ∙ sym a.long;
      forwards = λ p q f. let r = a.only p q f in b.all q p (within p q r).1 r;
      backwards = λ p q f. let r = b.only q p f in a.all p q (within p q r).0 r;
      below = λ p q f. subst (λ m. q < m) (sym a.long) (within p q (a.only p q f)).1;
    }
