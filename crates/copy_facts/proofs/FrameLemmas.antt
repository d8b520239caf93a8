-- What the search finds of numbers, said of points and their histories.
use Rattle.std.proofs.Common.{◌≡◌, refl, sym, ap, ◌∙◌, subst, ℕ, zero, suc, ◌<◌, ◌⊎◌, true, ℤ, List, [], ◌∷◌, length, get_or, arith}
use Rattle.std.specs.Prelude.{◌≢◌, Option, Some, None, option_and_then, slice_get}
use Rattle.std.specs.Prelude.{◌<ℤ◌, ◌≤ℤ◌, int_lt, neg_ℤ, not, pos}
use Rattle.std.proofs.lemmas.Int.{ints}
use Rattle.std.proofs.lemmas.Bool.{cases_Bool, cond-false, cond-true, false≢true, not-true, or_cases}
use Rattle.std.proofs.lemmas.Option.{same_Some}
use Rattle.elf32_image.specs.Parts.{ImageValue}
use Rattle.arm_isa.specs.declared.instruction.Insn.{Insn}
use Rattle.control_flow.specs.Instructions.{instruction_at}
use Rattle.control_flow.specs.Points.{Point, entry_point}
use Rattle.control_flow.specs.Routes.{Taken}
use Rattle.path_facts.specs.Facts.{Facts, offset_of}
use Rattle.path_facts.specs.Histories.{IsHistoryOf, facts_of}
use Rattle.path_facts.specs.StackUse.{IsStackLost, IsStackOver, accesses_by_sp, lowest_byte}
use Rattle.fact_lattice.specs.Cells.{AbstractState}
use Rattle.fact_lattice.specs.Flows.{Flow, IsClosedAt, IsHistoryIn, IsLostAt, IsOverAt, IsSolved, facts_in}
use Rattle.fact_lattice.specs.declared.solving.Stop.{Stop}
use Rattle.fact_lattice.specs.declared.solving.Stop.TheVariants as stop
use Rattle.fact_lattice.specs.Searches.{IsStopAt}
use Rattle.fact_lattice.proofs.SolvedLemmas.{if_some, none_lost, over_everywhere, unreached}
use Rattle.copy_facts.specs.declared.sites.Site.{Site}
use Rattle.copy_facts.specs.Frames.{AreFramePoints, NoneLost, lowest_in}
use Rattle.copy_facts.specs.Points.{accesses_in, flow_of}
use Rattle.copy_facts.proofs.HistoryLemmas.{to_numbers, to_points}
use Rattle.std.specs.Prelude.{is_some}
use Rattle.std.proofs.Common.{inl, inr}
use Rattle.std.proofs.lemmas.Option.{none-some}
use Rattle.fact_lattice.specs.Cells.{one_offset}
use Rattle.copy_facts.specs.Frames.{beyond, over_in, NoneOver, IsLeastOver, IsLeastTo, IsOverNumber, address_in}
use Rattle.copy_facts.specs.declared.tables.PointFacts.{PointFacts}
use Rattle.copy_facts.specs.declared.least.Found.{Found}
use Rattle.copy_facts.specs.Searching.{map_of}

pub flow_same : (s t : ℕ) (x y : ℕ) (a b : List Site) → s ≡ t → x ≡ y → a ≡ b → flow_of s x a ≡ flow_of t y b
flow_same s t x y a b e f g = λ j. flow_of (e j) (f j) (g j)

some_site : (sites : List Site) (i : ℕ) → accesses_in (slice_get sites i) ≡ true → (site : Site) × (slice_get sites i ≡ Some site) ×
    (accesses_by_sp site.insn.op ≡ true)
some_site sites i e = opened (slice_get sites i) refl e where
  opened : (o : Option Site) → slice_get sites i ≡ o → accesses_in o ≡ true → (site : Site) × (slice_get sites i ≡ Some site) ×
      (accesses_by_sp site.insn.op ≡ true)
  opened None e f = absurd (false≢true f)
  opened (Some s) e f = (s, e, f)

module _ (image : ImageValue) (entry stack start : ℕ) (ps : List Point) (sites : List Site)
    (a : AreFramePoints image entry ps start sites) where
  abbrev flow : Flow
  flow = flow_of stack start sites

  abbrev point : ℕ → Point
  point i = get_or ps i (entry_point entry)

  abbrev forth : (h : List (Taken ℕ)) (i : ℕ) → IsHistoryIn flow h i
      → (i < length sites) × (k : List (Taken Point)) × IsHistoryOf image entry k (point i) × (facts_of image stack k ≡ facts_in flow h)
  forth = to_points image entry stack start ps sites a.each a.long a.inside a.starts a.begins

  abbrev back : (k : List (Taken Point)) (p : Point) → IsHistoryOf image entry k p
      → (i : ℕ) × (i < length sites) × (point i ≡ p) × (h : List (Taken ℕ)) × IsHistoryIn flow h i ×
      (facts_in flow h ≡ facts_of image stack k)
  back = to_numbers image entry stack start ps sites a.each a.long a.inside a.starts a.begins

  one_number : (i j : ℕ) → i < length sites → j < length sites → point i ≡ point j → i ≡ j
  one_number i j l m e = let n = a.long in a.each.table.distinct i j (omega (arith, l, n)) (omega (arith, m, n)) e

  -- a history of a point is one of its number
  pub numbered : (i : ℕ) → i < length sites → (k : List (Taken Point)) → IsHistoryOf image entry k (point i)
      → (h : List (Taken ℕ)) × IsHistoryIn flow h i × (facts_in flow h ≡ facts_of image stack k)
  numbered i l k e =
      let r = back k (point i) e in
      (r.3, subst (λ x. IsHistoryIn flow r.3 x) (one_number r.0 i r.1 l r.2) r.4, r.5)

  pub number_of : (p : Point) (k : List (Taken Point)) → IsHistoryOf image entry k p → (i : ℕ) × (i < length sites) × (point i ≡ p)
  number_of p k e = let r = back k p e in (r.0, r.1, r.2)

  pub site_at : (i : ℕ) → i < length sites → (site : Site) × (slice_get sites i ≡ Some site)
  site_at i l = found sites i l where
    found : {A : Type 0} (xs : List A) (i : ℕ) → i < length xs → (x : A) × (slice_get xs i ≡ Some x)
    found [] i l = absurd (omega (arith, l))
    found (x ∷ xs) zero l = (x, refl)
    found (x ∷ xs) (suc i) l = found xs i (omega (arith, l))

  -- the instruction of a point is its site's
  pub same_insn : (i : ℕ) (site : Site) (insn : Insn) → slice_get sites i ≡ Some site → instruction_at image (point i).address ≡ Some insn
      → insn ≡ site.insn
  same_insn i site insn e f = same_Some insn site.insn (sym f ∙ (a.each.each i site e).insn)

  -- ---- lost

  pub lost_point : (i : ℕ) → IsLostAt flow i → (site : Site) × (slice_get sites i ≡ Some site) × IsStackLost image entry stack (point i) ×
      ((point i).address ≡ site.address)
  lost_point i l =
      let s = some_site sites i l.accesses in
      let x = forth l.one i l.leads in
      let y = forth l.other i l.leads_too in (
        s.0,
        s.1,
        record {
          insn = s.0.insn;
          found = (a.each.each i s.0 s.1).insn;
          by_sp = s.2;
          one = x.1;
          other = y.1;
          leads = x.2;
          leads_too = y.2;
          differ =
              subst (λ (f : Facts). (offset_of f ≡ None) ⊎ (offset_of f ≢ offset_of (facts_of image stack y.1))) (sym x.3)
              (subst (λ (g : Facts). (offset_of (facts_in flow l.one) ≡ None) ⊎ (offset_of (facts_in flow l.one) ≢ offset_of g))
              (sym y.3) l.differ);
        },
        sym (a.each.each i s.0 s.1).address,
      )

  lost_number : (p : Point) (l : IsStackLost image entry stack p) (i : ℕ) → i < length sites → point i ≡ p → IsLostAt flow i
  lost_number p l i b e =
      let s = site_at i b in
      let found = subst (λ (q : Point). instruction_at image q.address ≡ Some l.insn) (sym e) l.found in
      let x = numbered i b l.one (subst (λ q. IsHistoryOf image entry l.one q) (sym e) l.leads) in
      let y = numbered i b l.other (subst (λ q. IsHistoryOf image entry l.other q) (sym e) l.leads_too) in
      record {
        accesses = ap accesses_in s.1 ∙ (ap (λ (n : Insn). accesses_by_sp n.op) (sym (same_insn i s.0 l.insn s.1 found)) ∙ l.by_sp);
        one = x.0;
        other = y.0;
        leads = x.1;
        leads_too = y.1;
        differ =
            subst (λ (f : Facts). (offset_of f ≡ None) ⊎ (offset_of f ≢ offset_of (facts_in flow y.0))) (sym x.2)
            (subst (λ (g : Facts). (offset_of (facts_of image stack l.one) ≡ None) ⊎ (offset_of (facts_of image stack l.one) ≢ offset_of g))
            (sym y.2) l.differ);
      }

  pub solved_none_lost : (map : ℕ → Option AbstractState) → IsSolved flow map → NoneLost image entry stack
  solved_none_lost map s p l =
      let n = number_of p l.one l.leads in none_lost flow map s n.0 (lost_number p l n.0 n.1 n.2)

  -- ---- over

  pub over_point : (i : ℕ) (o : ℤ) → IsOverAt flow (lowest_in (slice_get sites i)) i o → IsStackOver image entry stack (point i) o
  over_point i o v =
      let s = some_site sites i v.accesses in
      let x = forth v.history i v.leads in
      record {
        insn = s.0.insn;
        found = (a.each.each i s.0 s.1).insn;
        by_sp = s.2;
        history = x.1;
        leads = x.2;
        at =
            subst (λ (f : Facts). option_and_then (λ o. lowest_byte o s.0.insn.op) (offset_of f) ≡ Some o) (sym x.3)
            (subst (λ q. option_and_then (lowest_in q) (offset_of (facts_in flow v.history)) ≡ Some o) s.1 v.is);
        beyond = v.beyond;
      }

  over_number : (p : Point) (o : ℤ) (v : IsStackOver image entry stack p o) (i : ℕ) → i < length sites → point i ≡ p → IsOverAt flow
      (lowest_in (slice_get sites i)) i o
  over_number p o v i b e =
      let s = site_at i b in
      let found = subst (λ (q : Point). instruction_at image q.address ≡ Some v.insn) (sym e) v.found in
      let same = same_insn i s.0 v.insn s.1 found in
      let x = numbered i b v.history (subst (λ q. IsHistoryOf image entry v.history q) (sym e) v.leads) in
      record {
        accesses = ap accesses_in s.1 ∙ (ap (λ (n : Insn). accesses_by_sp n.op) (sym same) ∙ v.by_sp);
        history = x.0;
        leads = x.1;
        is =
            subst (λ q. option_and_then (lowest_in q) (offset_of (facts_in flow x.0)) ≡ Some o) (sym s.1)
            (subst (λ (f : Facts). option_and_then (λ o. lowest_byte o s.0.insn.op) (offset_of f) ≡ Some o) (sym x.2)
            (subst (λ (n : Insn). option_and_then (λ o. lowest_byte o n.op) (offset_of (facts_of image stack v.history))
            ≡ Some o) same v.at));
        beyond = v.beyond;
      }

  pub over_somewhere : (p : Point) (o : ℤ) → IsStackOver image entry stack p o
      → (i : ℕ) × (i < length sites) × (point i ≡ p) × IsOverAt flow (lowest_in (slice_get sites i)) i o
  over_somewhere p o v = let n = number_of p v.history v.leads in (n.0, n.1, n.2, over_number p o v n.0 n.1 n.2)

pub lost_refused : (image : ImageValue) (entry stack start : ℕ) (ps : List Point) (sites : List Site)
    → AreFramePoints image entry ps start sites → (i address : ℕ)
    → IsLostAt (flow_of stack start sites) i → ((site : Site) → slice_get sites i ≡ Some site → address ≡ site.address)
    → (p : Point) × IsStackLost image entry stack p × (p.address ≡ address)
lost_refused image entry stack start ps sites a i address l is =
    let x = lost_point image entry stack start ps sites a i l in
    (get_or ps i (entry_point entry), x.2, x.3 ∙ sym (is x.0 x.1))

pub stop_lost : (flow : Flow) (why : Stop) (p : ℕ) → why ≡ stop.Lost p → IsStopAt flow why → IsLostAt flow p
stop_lost flow why p e h = subst (IsStopAt flow) e h

-- ---- what the table says of a number's access and return

some_lowest : (z : ℤ) (x : Option ℤ) (stack : ℕ) → beyond stack x ≡ Some z → (x ≡ Some z) × (z <ℤ neg_ℤ (pos stack))
some_lowest z None stack e = absurd (none-some z e)
some_lowest z (Some y) stack e =
    elim (cases_Bool (int_lt y (neg_ℤ (pos stack)))) as (λ _. (Some y ≡ Some z) × (z <ℤ neg_ℤ (pos stack))) [
      | inl t ↦
          let same : y ≡ z = same_Some y z (sym (cond-true (int_lt y (neg_ℤ (pos stack))) (Some y) None t) ∙ e) in
          (ap Some same, subst (λ x. x <ℤ neg_ℤ (pos stack)) same (less y (neg_ℤ (pos stack)) t))
      | inr f ↦ absurd (none-some z (sym (cond-false (int_lt y (neg_ℤ (pos stack))) (Some y) None f) ∙ e))
    ] where
      less : (a b : ℤ) → int_lt a b ≡ true → a <ℤ b
      less a b e = grind (arith, ints)

lowest_some : (z : ℤ) (x : Option ℤ) (stack : ℕ) → x ≡ Some z → z <ℤ neg_ℤ (pos stack) → beyond stack x ≡ Some z
lowest_some z x stack e l = ap (beyond stack) e ∙ cond-true (int_lt z (neg_ℤ (pos stack))) (Some z) None
    (test z (neg_ℤ (pos stack)) l) where
      test : (a b : ℤ) → a <ℤ b → int_lt a b ≡ true
      test a b l = grind (arith, ints)

some_value : {A : Type 0} (o : Option A) → is_some o ≡ true → (x : A) × (o ≡ Some x)
some_value None e = absurd (false≢true e)
some_value (Some x) e = (x, refl)

module _ (stack start : ℕ) (sites : List Site) (map : ℕ → Option AbstractState) (solved : IsSolved (flow_of stack start sites) map)
    (i : ℕ) where
  abbrev flow_here : Flow
  flow_here = flow_of stack start sites

  pub reached : (h : List (Taken ℕ)) → IsHistoryIn flow_here h i → (m : AbstractState) × (map i ≡ Some m)
  reached h e = opened (map i) refl where
    opened : (o : Option AbstractState) → map i ≡ o → (m : AbstractState) × (map i ≡ Some m)
    opened None n = absurd (unreached flow_here map solved i n h e)
    opened (Some m) n = (m, n)

  placed : (m : AbstractState) → map i ≡ Some m → accesses_in (slice_get sites i) ≡ true → (c : ℤ) × (one_offset m ≡ Some c)
  placed m e uses =
      let p = (if_some (map i) (IsClosedAt flow_here map i) m e (solved.closed i)).placed in
      some_value (one_offset m)
      (elim (or_cases (not (accesses_in (slice_get sites i))) (is_some (one_offset m)) p) as (λ _. is_some (one_offset m) ≡ true) [
        | inl a ↦ absurd (false≢true (sym (not-true (accesses_in (slice_get sites i)) a) ∙ uses))
        | inr b ↦ b
      ])

  pub over_to : (o : ℤ) → IsOverAt flow_here (lowest_in (slice_get sites i)) i o → over_in stack (slice_get sites i) (map i) ≡ Some o
  over_to o v =
      let s = some_site sites i v.accesses in
      let m = reached v.history v.leads in
      let c = placed m.0 m.1 v.accesses in
      let x = (over_everywhere flow_here map solved (lowest_in (slice_get sites i)) i m.0 c.0 o m.1 v.accesses c.1).0 v in
      ap (λ q. over_in stack q (map i)) s.1
      ∙ (ap (over_in stack (Some s.0)) m.1
      ∙ (cond-true (accesses_by_sp s.0.insn.op) (beyond stack (option_and_then (λ o. lowest_byte o s.0.insn.op) (one_offset m.0))) None s.2
      ∙ (ap (λ y. beyond stack (option_and_then (λ o. lowest_byte o s.0.insn.op) y)) c.1
      ∙ lowest_some o (lowest_byte c.0 s.0.insn.op) stack (subst (λ q. lowest_in q c.0 ≡ Some o) s.1 x.0) x.1)))

  pub over_from : (o : ℤ) → over_in stack (slice_get sites i) (map i) ≡ Some o → IsOverAt flow_here (lowest_in (slice_get sites i)) i o
  over_from o e = opened (slice_get sites i) refl (map i) refl e where
    opened : (s : Option Site) → slice_get sites i ≡ s → (m : Option AbstractState) → map i ≡ m → over_in stack s m ≡ Some o
        → IsOverAt flow_here (lowest_in (slice_get sites i)) i o
    opened None a m b e = absurd (none-some o e)
    opened (Some site) a None b e = absurd (none-some o e)
    opened (Some site) a (Some m) b e =
        elim (cases_Bool (accesses_by_sp site.insn.op)) as (λ _. IsOverAt flow_here (lowest_in (slice_get sites i)) i o) [
          | inl t ↦
              let uses : accesses_in (slice_get sites i) ≡ true = ap accesses_in a ∙ t in
              let c = placed m b uses in
              let x = some_lowest o (lowest_byte c.0 site.insn.op) stack
              (sym (ap (λ y. beyond stack (option_and_then (λ o. lowest_byte o site.insn.op) y)) c.1)
              ∙ (sym (cond-true (accesses_by_sp site.insn.op)
              (beyond stack (option_and_then (λ o. lowest_byte o site.insn.op) (one_offset m))) None t) ∙ e)) in
              (over_everywhere flow_here map solved (lowest_in (slice_get sites i)) i m c.0 o b uses c.1).1
              (subst (λ q. lowest_in q c.0 ≡ Some o) (sym a) x.0, x.1)
          | inr f ↦ absurd (none-some o
              (sym (cond-false (accesses_by_sp site.insn.op)
              (beyond stack (option_and_then (λ o. lowest_byte o site.insn.op) (one_offset m))) None f) ∙ e))
        ]

-- the refusal of an access below the stack's bytes
module _ (image : ImageValue) (entry stack start : ℕ) (ps : List Point) (sites : List Site) (a : AreFramePoints image entry ps start sites)
    (facts : List (Option PointFacts))
    (solved : IsSolved (flow_of stack start sites) (map_of facts)) where
  pub over_found : (x : Found) → IsLeastTo (IsOverNumber stack sites facts) (λ i. address_in (slice_get sites i)) (length sites) (Some x)
      → IsLeastOver image entry stack x.address x.lowest
  over_found x l =
      let t = l.there in
      let v = over_from stack start sites (map_of facts) solved t.0 x.lowest t.2 in
      let s = some_site sites t.0 v.accesses in
      record {
        at = get_or ps t.0 (entry_point entry);
        there = sym (a.each.each t.0 s.0 s.1).address ∙ (ap address_in (sym s.1) ∙ t.3);
        over = over_point image entry stack start ps sites a t.0 x.lowest v;
        least = λ p o w.
            let n = over_somewhere image entry stack start ps sites a p o w in
            let q = some_site sites n.0 n.3.accesses in
            let address : address_in (slice_get sites n.0) ≡ p.address = ap address_in q.1 ∙
            ((a.each.each n.0 q.0 q.1).address ∙ ap (λ (z : Point). z.address) n.2) in
            subst (λ b. (x.address < b) ⊎ ((x.address ≡ b) × (x.lowest ≤ℤ o))) address
            (l.least n.0 o n.1 (over_to stack start sites (map_of facts) solved n.0 o n.3));
      }

  pub none_over : IsLeastTo (IsOverNumber stack sites facts) (λ i. address_in (slice_get sites i)) (length sites) None
      → NoneOver image entry stack
  none_over l p o w =
      let n = over_somewhere image entry stack start ps sites a p o w in
      l.least n.0 o n.1 (over_to stack start sites (map_of facts) solved n.0 o n.3)
