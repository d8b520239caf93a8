-- The tables make the blocks.
use Rattle.std.proofs.Common.{◌≡◌, refl, subst, ℕ, ◌<◌, ◌≤◌, inl, inr, Bool, true, List, [], ◌∷◌, length, get_or, map, arith, Result, Ok}
use Rattle.std.proofs.Common.{Err}
use Rattle.std.specs.Prelude.{◌↔◌, Contains, Option, nat_eq, IfOk}
use Rattle.graph_search.specs.Walks.{Reached}
use Rattle.graph_search.specs.Searches.{steps_to}
use Rattle.control_flow.specs.Routes.{Way}
use Rattle.basic_blocks.specs.Blocks.{Chain, AreBlocks, Ascending, by_first, IsChain}
use Rattle.basic_blocks.specs.Chains.{IsSplit, AreOpposite, AreChains, AreNumbered, mapped, Follows, is_flagged}
use Rattle.basic_blocks.specs.LivePoints.{AreRows, before}
use Rattle.basic_blocks.proofs.LiveLemmas.{live_is_reached}
use Rattle.basic_blocks.proofs.NumberLemmas.{are_blocks, blocks_ascend}
use Rattle.point_tables.specs.declared.targets.Targets.{Targets}
use Rattle.point_tables.specs.Numbers.{AreNumbers, AreSources, AreLiveFlags, IsLink, IsTableOf}
use Rattle.point_tables.specs.Targets.{step_in, AreTargets}
use Rattle.point_tables.proofs.TableLemmas.{targets_are_numbers, numbers_rows, flagged, link_below, link_only_way, only_way_link}
use Rattle.point_tables.proofs.TableLemmas.{opposite_tables, step_row}
use Rattle.std.proofs.lemmas.Option.{slice_get_within}
use Rattle.basic_blocks.specs.PointOrder.{Before}
use Rattle.control_flow.specs.Points.{Point}
use Rattle.function_points.proofs.MemberLemmas.{first_or_rest, in_none}
use Rattle.point_tables.specs.Tables.{AreLinkChains, AreBlockNumbers, AreTables}

-- what the value of a call has
pub if_ok : {A E : Type 0} (r : Result A E) (P Q : A → Type 0) → ((x : A) → P x → Q x) → IfOk r P → IfOk r Q
if_ok (Ok x) P Q f w = f x w
if_ok (Err e) P Q f w = w

module _ {A : Type 0} (ways : A → List (Way A)) (start : A) (lt : A → A → Type 0) (ps : List A) (table : List Targets)
    (rows : List (List ℕ)) (flag : ℕ → Bool) (only back : List (Option ℕ)) (bs : List (Chain ℕ)) (entry : ℕ)
    (ahead : AreTargets ways start ps table) (ascending : Ascending lt ps) (sources : AreSources (step_in table) (before rows))
    (reached : (i : ℕ) → i ≤ length ps → (flag i ≡ true) ↔ Reached (steps_to nat_eq (before rows)) (length ps) i)
    (first : entry < length ps) (entry_is : get_or ps entry start ≡ start)
    (forward : IsTableOf (IsLink (step_in table) (before rows) flag (length ps) entry) (length ps) only)
    (backward : IsTableOf (λ q p. IsLink (step_in table) (before rows) flag (length ps) entry p q) (length ps) back)
    (cut : AreChains only flag bs) where
  numbers_in : AreNumbers ways start ps (step_in table)
  numbers_in = targets_are_numbers ways start ps table ahead

  the_rows : AreRows ways start ps rows
  the_rows = numbers_rows ways start ps (step_in table) numbers_in rows sources

  pub living : AreLiveFlags ways start ps flag
  living =
      record {
        live = λ i l.
            let r = reached i (omega (arith, l)) in
            let v = live_is_reached ways start ps rows the_rows i l in
            ((λ f. v.1 (r.0 f)), (λ k. r.1 (v.0 k)));
        exit = (reached (length ps) (omega arith)).1 (0, refl);
      }

  numbered : AreNumbered ways start lt ps flag only
  numbered =
      record {
        live = λ i l f. (living.live i l).0 f;
        all = λ p l. flagged ways start ps (step_in table) numbers_in (before rows) sources flag living entry first entry_is p l;
        ascending = ascending;
        long = forward.long;
        only_way = λ i j f. link_only_way ways start ps (step_in table) numbers_in
            (before rows) sources flag living entry first entry_is i j (forward.only i j f);
        follows = λ i j l m o. forward.all i j l (only_way_link ways start ps (step_in table) numbers_in
            (before rows) sources flag living entry first entry_is i j l m o);
      }

  opposite : AreOpposite only back
  opposite =
      opposite_tables (IsLink (step_in table) (before rows) flag (length ps) entry) (length ps) only back
      (λ p q k. (link_below ways start ps (step_in table) numbers_in (before rows) sources flag living entry first entry_is p q k, k.below))
      forward backward

  pub tables_blocks : AreBlocks ways start (map (mapped (λ i. get_or ps i start)) bs)
      × Ascending (by_first lt) (map (mapped (λ i. get_or ps i start)) bs)
  tables_blocks = (
    are_blocks ways start lt ps flag only back numbered opposite bs cut,
    blocks_ascend ways start lt ps flag only back
        numbered opposite bs cut,
  )

-- links stay below the number of points
module _ (table : List Targets) (back : ℕ → List ℕ) (flag : ℕ → Bool) (entry : ℕ) where
  abbrev L : ℕ → ℕ → Type 0
  L = IsLink (step_in table) back flag (length table) entry

  link_within : (p q : ℕ) → L p q → (p < length table) × (q < length table)
  link_within p q k = (let r = step_row table p q k.next.0 in slice_get_within table p r.0 r.1, k.below)

  pub links_opposite : (only before : List (Option ℕ)) → IsTableOf L (length table) only → IsTableOf (λ q p. L p q) (length table) before
      → AreOpposite only before
  links_opposite only before a b = opposite_tables L (length table) only before link_within a b

pub links_cut : (step back : ℕ → List ℕ) (flag : ℕ → Bool) (n entry : ℕ) (only before : List (Option ℕ)) (xss : List (List ℕ))
    → IsTableOf (IsLink step back flag n entry) n only → IsTableOf (λ q p. IsLink step back flag n entry p q) n before
    → IsSplit only flag xss → AreLinkChains step back flag n entry xss
links_cut step back flag n entry only before xss a b (bs, is, cut) =
    record { only = only; back = before; forward = a; backward = b; chains = bs; is = is; cut = cut }

chain_below : (only : List (Option ℕ)) (n p : ℕ) (ps : List ℕ) → ((p q : ℕ) → Follows only p q → q < n) → p < n
    → IsChain (Follows only) p ps
    → (x : ℕ) → Contains (p ∷ ps) x → x < n
chain_below only n p [] below l c x i =
    elim (first_or_rest p x [] i) as (λ _. x < n) [
      | inl e ↦ subst (λ z. z < n) e l
      | inr m ↦ absurd (in_none x m)
    ]
chain_below only n p (q ∷ ps) below l c x i =
    elim (first_or_rest p x (q ∷ ps) i) as (λ _. x < n) [
      | inl e ↦ subst (λ z. z < n) e l
      | inr m ↦ chain_below only n q ps below (below p q c.0) c.1 x m
    ]

pub links_blocks : (ways : Point → List (Way Point)) (start : Point) (ps : List Point) (table : List Targets) (rows : List (List ℕ))
    (flags : List Bool) (entry : ℕ) (xss : List (List ℕ)) → AreTables ways start ps table rows flags → Ascending Before ps
    → entry < length ps
    → get_or ps entry start ≡ start → AreLinkChains (step_in table) (before rows) (is_flagged flags) (length table) entry xss
    → AreBlockNumbers ways start ps xss
links_blocks ways start ps table rows flags entry xss tables rise first entry_is links =
    let long = tables.ahead.long in
    let opposite = links_opposite table (before rows) (is_flagged flags) entry links.only links.back links.forward links.backward in
    let forward = subst (λ n. IsTableOf (IsLink (step_in table) (before rows) (is_flagged flags) n entry) n links.only) long links.forward
    in
    let backward = subst (λ n. IsTableOf (λ q p. IsLink (step_in table) (before rows) (is_flagged flags) n entry p q) n links.back) long
    links.backward in
    let cut = tables_blocks ways start Before ps table rows (is_flagged flags) links.only links.back links.chains entry tables.ahead rise
    tables.back
    tables.live first entry_is forward backward links.cut in
    let size : length links.only ≡ length ps = forward.long in
    record {
      chains = links.chains;
      is = links.is;
      under = λ b i p m.
          let w = links.cut.longest b i in
          subst (λ n. p < n) size (chain_below links.only (length links.only) b.first b.rest opposite.below w.0 w.2.chain p m);
      rising = links.cut.ascending;
      blocks = cut.0;
      ascending = cut.1;
    }

pub tables_living : (ways : Point → List (Way Point)) (start : Point) (ps : List Point) (table : List Targets) (rows : List (List ℕ))
    (flags : List Bool) → AreTables ways start ps table rows flags → AreLiveFlags ways start ps (is_flagged flags)
tables_living ways start ps table rows flags tables =
    record {
      live = λ i l.
          let r = tables.live i (omega (arith, l)) in
          let v = live_is_reached ways start ps rows
          (numbers_rows ways start ps (step_in table) (targets_are_numbers ways start ps table tables.ahead) rows tables.back) i l in
          ((λ f. v.1 (r.0 f)), (λ k. r.1 (v.0 k)));
      exit = (tables.live (length ps) (omega arith)).1 (0, refl);
    }
