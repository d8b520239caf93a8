-- Returns that aren't proved, by what all paths say and by histories.
use Rattle.std.proofs.Common.{◌≡◌, refl, sym, ap, ◌∙◌, subst, ℕ, ◌<◌, ◌≤◌, ◌⊎◌, inl, inr, Bool, true, false, ℤ, pos, ◌≤ℤ◌, List, length}
use Rattle.std.proofs.Common.{get_or, arith}
use Rattle.std.specs.Prelude.{◌≢◌, ◌↔◌, ◌&&◌, ◌==◌, not, Option, Some, None, slice_get}
use Rattle.std.specs.Ordering.{int_eq}
use Rattle.std.proofs.lemmas.Bool.{and_parts, cases_Bool, cond-false, cond-true, false≢true, not-true}
use Rattle.std.proofs.lemmas.Option.{none-some, same_Some}
use Rattle.elf32_image.specs.Parts.{ImageValue}
use Rattle.arm_isa.specs.declared.instruction.Insn.{Insn}
use Rattle.arm_isa.specs.declared.instruction.Op.{Op}
use Rattle.arm_isa.specs.declared.instruction.Op.TheVariants as op
use Rattle.arm_isa.specs.Writes.{is_return_form, op_returns}
use Rattle.control_flow.specs.Instructions.{instruction_at}
use Rattle.control_flow.specs.Points.{Point, entry_point, last_return}
use Rattle.path_facts.specs.Facts.{Fact, Facts, Source, fact_from, offset_of}
use Rattle.path_facts.specs.Histories.{IsHistoryOf, facts_of, wanted_fact}
use Rattle.path_facts.specs.Sources.{return_source}
use Rattle.path_facts.specs.StackUse.{IsReturnUnproved, accesses_by_sp}
use Rattle.fact_lattice.specs.declared.cells.Range.{Range}
use Rattle.fact_lattice.specs.Cells.{AbstractState, cell_of, known_in, one_offset, only, only_fact, same_cell}
use Rattle.fact_lattice.specs.Flows.{Flow, IsSolved, IsUnprovedAt, facts_in}
use Rattle.fact_lattice.proofs.NumberLemmas.{eq_true, true_eq}
use Rattle.fact_lattice.proofs.SolvedLemmas.{unproved_everywhere}
use Rattle.copy_facts.specs.declared.least.Found.{Found}
use Rattle.copy_facts.specs.declared.sites.Site.{Site}
use Rattle.copy_facts.specs.declared.tables.PointFacts.{PointFacts}
use Rattle.copy_facts.specs.Frames.{AreFramePoints, IsLeastTo, IsLeastUnproved, IsUnprovedNumber, NoneUnproved, address_in, unproved_in}
use Rattle.copy_facts.specs.Points.{accesses_in, flow_of}
use Rattle.copy_facts.specs.Searching.{map_of}
use Rattle.copy_facts.proofs.FrameLemmas.{number_of, numbered, reached, same_insn, site_at}
use Rattle.copy_facts.proofs.HistoryLemmas.{to_points}
use Rattle.copy_facts.proofs.JoinedLemmas.{same_cell_false, same_cell_true}

-- ---- one fact

known_only : (k : Fact) (c : Option Range) → known_in c ≡ Some k → c ≡ only_fact (Some k)
known_only k None e = absurd (none-some k e)
known_only k (Some r) e =
    elim (cases_Bool (int_eq r.low r.high)) as (λ _. Some r ≡ only_fact (Some k)) [
      | inl t ↦
          let s = same_Some (record { origin = r.origin; constant = r.low }) k
          (sym (cond-true (int_eq r.low r.high) (Some (record { origin = r.origin; constant = r.low })) None t) ∙ e) in
          let h = eq_true r.low r.high t in
          ap Some (same r (only k.origin k.constant) (ap (λ (f : Fact). f.origin) s) (ap (λ (f : Fact). f.constant) s)
          (sym h ∙ ap (λ (f : Fact). f.constant) s))
      | inr f ↦ absurd (none-some k
          (sym (cond-false (int_eq r.low r.high) (Some (record { origin = r.origin; constant = r.low })) None f) ∙ e))
    ] where
      same : (r q : Range) → r.origin ≡ q.origin → r.low ≡ q.low → r.high ≡ q.high → r ≡ q
      same r q o l h = λ j. record { origin = o j; low = l j; high = h j }

only_known : (k : Fact) → known_in (only_fact (Some k)) ≡ Some k
only_known k = cond-true (int_eq k.constant k.constant) (Some k) None (true_eq k.constant k.constant refl)

not_same : (c : Option Range) (k : Fact) → same_cell c (only_fact (Some k)) ≡ false → known_in c ≢ Some k
not_same c k e h = same_cell_false c (only_fact (Some k)) e (known_only k c h)

not_known : (c : Option Range) (k : Fact) → known_in c ≢ Some k → same_cell c (only_fact (Some k)) ≡ false
not_known c k n =
    elim (cases_Bool (same_cell c (only_fact (Some k)))) as (λ _. same_cell c (only_fact (Some k)) ≡ false) [
      | inl t ↦ absurd (n (ap known_in (same_cell_true c (only_fact (Some k)) t) ∙ only_known k))
      | inr f ↦ f
    ]

-- ---- what a return brings depends on r13 only where it accesses the stack by it

second : (x y z w : Bool) → (x && y && z && w) ≡ true → y ≡ true
second x y z w e = (and_parts x y (and_parts (x && y) z (and_parts (x && y && z) w e).0).0).1

second_of_three : (x y z : Bool) → (x && y && z) ≡ true → y ≡ true
second_of_three x y z e = (and_parts x y (and_parts (x && y) z e).0).1

return_even : (o q : Option ℤ) (p : Op) → op_returns p ≡ true → accesses_by_sp p ≡ false → return_source o p ≡ return_source q p
return_even o q (op.Compute this) r a = refl
return_even o q (op.Multiply this) r a = refl
return_even o q (op.MultiplyLong this) r a = refl
return_even o q (op.Word this) r a = absurd (false≢true (sym a ∙ second _ (this.rn == 13) _ _ r))
return_even o q (op.Half this) r a = refl
return_even o q (op.Block this) r a = absurd (false≢true (sym a ∙ second_of_three _ (this.rn == 13) _ r))
return_even o q (op.Branch this) r a = refl
return_even o q (op.Exchange this) r a = refl

-- ---- a number and its point

module _ (image : ImageValue) (entry stack start : ℕ) (ps : List Point) (sites : List Site) (a : AreFramePoints image entry ps start sites)
    (facts : List (Option PointFacts))
    (solved : IsSolved (flow_of stack start sites) (map_of facts)) where
  abbrev flow : Flow
  flow = flow_of stack start sites

  abbrev point : ℕ → Point
  point i = get_or ps i (entry_point entry)

  abbrev source : Site → Option ℤ → Source
  source site o = return_source o site.insn.op

  law : (i : ℕ) (site : Site) (m : AbstractState) → slice_get sites i ≡ Some site → map_of facts i ≡ Some m → is_return_form site.insn
      ≡ true
      → IsUnprovedAt flow (source site) (wanted_fact site.home) i ↔
      (known_in (cell_of m (source site (one_offset m))) ≢ Some (wanted_fact site.home))
  law i site m e f r =
      unproved_everywhere flow (map_of facts) solved i m f (source site)
      (λ o q u. return_even o q site.insn.op r (sym (ap accesses_in e) ∙ u)) (wanted_fact site.home)

  unproved_from : (i : ℕ) → unproved_in (slice_get sites i) (map_of facts i) ≡ true
      → (site : Site) × (slice_get sites i ≡ Some site) × IsReturnUnproved image entry stack (point i)
  unproved_from i e = opened (slice_get sites i) refl (map_of facts i) refl e where
    opened : (s : Option Site) → slice_get sites i ≡ s → (m : Option AbstractState) → map_of facts i ≡ m → unproved_in s m ≡ true
        → (site : Site) × (slice_get sites i ≡ Some site) × IsReturnUnproved image entry stack (point i)
    opened None x m y e = absurd (false≢true e)
    opened (Some site) x None y e = absurd (false≢true e)
    opened (Some site) x (Some m) y e =
        let p = and_parts (is_return_form site.insn)
        (not (same_cell (cell_of m (source site (one_offset m))) (only_fact (Some (wanted_fact site.home))))) e in
        let u = (law i site m x y p.0).1
        (not_same (cell_of m (source site (one_offset m))) (wanted_fact site.home)
        (not-true (same_cell (cell_of m (source site (one_offset m))) (only_fact (Some (wanted_fact site.home)))) p.1)) in
        let h = to_points image entry stack start ps sites a.each a.long a.inside a.starts a.begins u.history i u.leads in
        let here = a.each.each i site x in (
          site,
          x,
          record {
            insn = site.insn;
            found = here.insn;
            returns = p.0;
            history = h.1;
            leads = h.2;
            other =
                subst (λ (f : Facts). fact_from f (source site (offset_of f)) ≢ Some (wanted_fact (last_return (point i).returns)))
                (sym h.3)
                (subst (λ w. fact_from (facts_in flow u.history) (source site (offset_of (facts_in flow u.history))) ≢ Some
                (wanted_fact w)) here.home u.other);
          },
        )

  unproved_to : (p : Point) → IsReturnUnproved image entry stack p
      → (i : ℕ) × (i < length sites) × (point i ≡ p) × (unproved_in (slice_get sites i) (map_of facts i) ≡ true) × (site : Site) ×
      (slice_get sites i ≡ Some site)
  unproved_to p u =
      let n = number_of image entry stack start ps sites a p u.history u.leads in
      let i = n.0 in
      let s = site_at image entry stack start ps sites a i n.1 in
      let found = subst (λ (q : Point). instruction_at image q.address ≡ Some u.insn) (sym n.2) u.found in
      let same = same_insn image entry stack start ps sites a i s.0 u.insn s.1 found in
      let h = numbered image entry stack start ps sites a i n.1 u.history
      (subst (λ q. IsHistoryOf image entry u.history q) (sym n.2) u.leads) in
      let m = reached stack start sites (map_of facts) solved i h.0 h.1 in
      let here = a.each.each i s.0 s.1 in
      let returns = subst (λ (x : Insn). is_return_form x ≡ true) same u.returns in
      let unproved : IsUnprovedAt flow (source s.0) (wanted_fact s.0.home) i = record {
        history = h.0;
        leads = h.1;
        other =
            subst (λ (f : Facts). fact_from f (source s.0 (offset_of f)) ≢ Some (wanted_fact s.0.home)) (sym h.2)
            (subst (λ w. fact_from (facts_of image stack u.history) (source s.0 (offset_of (facts_of image stack u.history))) ≢ Some
            (wanted_fact w)) (sym here.home)
            (subst (λ (q : Point). fact_from (facts_of image stack u.history)
            (source s.0 (offset_of (facts_of image stack u.history))) ≢ Some (wanted_fact (last_return q.returns))) (sym n.2)
            (subst (λ (x : Insn). fact_from (facts_of image stack u.history)
            (return_source (offset_of (facts_of image stack u.history)) x.op) ≢ Some
            (wanted_fact (last_return p.returns))) same u.other)));
      } in
      let differ = not_known (cell_of m.0 (source s.0 (one_offset m.0))) (wanted_fact s.0.home)
      ((law i s.0 m.0 s.1 m.1 returns).0 unproved) in (
        i,
        n.1,
        n.2,
        ap (λ q. unproved_in q (map_of facts i)) s.1
            ∙ (ap (unproved_in (Some s.0)) m.1
            ∙ both (is_return_form s.0.insn)
            (same_cell (cell_of m.0 (source s.0 (one_offset m.0))) (only_fact (Some (wanted_fact s.0.home)))) returns differ),
        s.0,
        s.1,
      ) where
        both : (x y : Bool) → x ≡ true → y ≡ false → (x && not y) ≡ true
        both x y e f = cc

  pub unproved_found : (x : Found) → IsLeastTo (IsUnprovedNumber sites facts) (λ i. address_in (slice_get sites i)) (length sites) (Some x)
      → IsLeastUnproved image entry stack x.address
  unproved_found x l =
      let t = l.there in
      let v = unproved_from t.0 t.2.0 in
      record {
        at = point t.0;
        there = sym (a.each.each t.0 v.0 v.1).address ∙ (ap address_in (sym v.1) ∙ t.3);
        unproved = v.2;
        least = λ p w.
            let n = unproved_to p w in
            let address : address_in (slice_get sites n.0) ≡ p.address = ap address_in n.5 ∙
            ((a.each.each n.0 n.4 n.5).address ∙ ap (λ (z : Point). z.address) n.2) in
            not_before x.address p.address x.lowest (pos 0)
            (subst (λ b. (x.address < b) ⊎ ((x.address ≡ b) × (x.lowest ≤ℤ pos 0))) address (l.least n.0 (pos 0) n.1 (n.3, refl)));
      } where
        not_before : (a b : ℕ) (z o : ℤ) → (a < b) ⊎ ((a ≡ b) × (z ≤ℤ o)) → a ≤ b
        not_before a b z o (inl l) = omega (arith, l)
        not_before a b z o (inr e) = let s = e.0 in omega (arith, s)

  pub none_unproved : IsLeastTo (IsUnprovedNumber sites facts) (λ i. address_in (slice_get sites i)) (length sites) None
      → NoneUnproved image entry stack
  none_unproved l p w = let n = unproved_to p w in l.least n.0 (pos 0) n.1 (n.3, refl)
