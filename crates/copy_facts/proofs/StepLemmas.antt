-- What is known after an instruction, by the parts of a table.
use Rattle.std.proofs.Common.{◌≡◌, refl, sym, ap, ◌∙◌, subst, ℕ, zero, suc, ◌+◌, ◌<◌, ◌≤◌, ◌-◌, ◌⊎◌, inl, inr, Bool, true, false, ℤ, List}
use Rattle.std.proofs.Common.{[], ◌∷◌, length, set, get_or, drop, arith}
use Rattle.std.specs.Prelude.{◌≢◌, ◌&&◌, ◌^◌, Option, None}
use Rattle.std.proofs.lemmas.Bool.{and_right, cases_Bool, cases_eq, cond-false}
use Rattle.std.proofs.lemmas.Bool.Decides.{nat_tests}
use Rattle.std.proofs.lemmas.List.{get_or-set_same, get_or-set_other}
use Rattle.std.proofs.Math.Numerals.{add-one}
use Rattle.std.specs.Prelude.{nat_le, nat_lt}
use Rattle.path_facts.specs.Facts.{Location, Source}
use Rattle.path_facts.specs.Facts.Source.{Nothing}
use Rattle.path_facts.specs.Sources.{is_tracked}
use Rattle.point_steps.specs.declared.changes.StackChange.{StackChange}
use Rattle.point_steps.specs.declared.changes.StackChange.TheVariants as change
use Rattle.point_steps.specs.Changes.{is_touched, mark_beside, source_beside}
use Rattle.copy_facts.proofs.EntryLemmas.{head_passed, none_above, none_below, wider, written}
use Rattle.path_facts.specs.Facts.Location.{Register, StackWord}
use Rattle.path_facts.specs.Sources.{mark_of, source_of}
use Rattle.fact_lattice.specs.declared.cells.Range.{Range}
use Rattle.fact_lattice.specs.Cells.{AbstractState, all_above, cell_of, one_offset}
use Rattle.copy_facts.specs.declared.sites.Site.{Site}
use Rattle.copy_facts.specs.declared.tables.PointFacts.{PointFacts}
use Rattle.copy_facts.specs.declared.tables.WordFacts.{WordFacts}
use Rattle.copy_facts.specs.Points.{site_step, stepped_entry, stepped_state}
use Rattle.copy_facts.specs.Tables.{AreEntriesTo, RisesTo, cell_in, entry_in, nothing_of, state_in, state_of_point, with_entry}
use Rattle.copy_facts.proofs.JoinedLemmas.{same_entry}

-- a location after a done instruction
pub done_cell : (stack : ℕ) (site : Site) (done : Bool) (m : AbstractState) (location : Location) (o : Option ℤ) (s : Source)
    (x : Option Range) → done ≡ true
    → o ≡ one_offset m → s ≡ source_of stack site.address site.literal o site.insn.op location → x ≡ cell_of m s
    → x ≡ cell_of m ((site_step stack site done (one_offset m)).source location)
done_cell stack site done m location o s x d e f g =
    subst (λ b. x ≡ cell_of m ((site_step stack site b (one_offset m)).source location)) (sym d)
    (g ∙ ap (cell_of m) (f ∙ ap (λ p. source_of stack site.address site.literal p site.insn.op location) e))

-- a word after a done instruction
pub done_entry : (stack : ℕ) (site : Site) (done : Bool) (t : PointFacts) (k : ℕ) (sp : Option Range) (o : Option ℤ) (s : Source)
    (x : Option Range) (above mark : Bool)
    → done ≡ true → sp ≡ (stepped_state stack site done t).cell (Register 13) → o ≡ one_offset (state_of_point t)
    → s ≡ source_of stack site.address site.literal o site.insn.op (StackWord k) → x ≡ cell_of (state_of_point t) s
    → above ≡ all_above stack sp k → mark ≡ mark_of stack o site.insn.op k (entry_in t.words.items k).kept
    → record { word = k; cell = x; kept = above && mark } ≡ stepped_entry stack site done t k
done_entry stack site done t k sp o s x above mark d e f g h i j =
    let m = state_of_point t in
    same_entry (record { word = k; cell = x; kept = above && mark }) (stepped_entry stack site done t k) refl
    (done_cell stack site done m (StackWord k) o s x d f g h)
    (ap (λ b. b && mark) (i ∙ ap (λ c. all_above stack c k) e)
    ∙ ap (λ b. all_above stack ((stepped_state stack site done t).cell (Register 13)) k && b)
    (subst (λ b. mark ≡ (site_step stack site b (one_offset m)).mark k (entry_in t.words.items k).kept) (sym d)
    (j ∙ ap (λ p. mark_of stack p site.insn.op k (entry_in t.words.items k).kept) f)))

-- ---- registers

pub record PartlyStepped (f : ℕ → Option Range) (at : ℕ) (now : List (Option Range)) : Type 0 where
  pub within : at ≤ 15
  pub long : length now ≡ 15
  pub done : (r : ℕ) → r < at → get_or now r None ≡ f r

pub stepped_on : (f : ℕ → Option Range) (at : ℕ) (now : List (Option Range)) (c : Option Range) → PartlyStepped f at now → at < 15 → c
    ≡ f at
    → PartlyStepped f (at + 1) (set now at c)
stepped_on f at now c s l is =
    record {
      within = omega (arith, l);
      long = set_long now at c ∙ s.long;
      done = λ r below.
          elim (cases_eq r at) as (λ _. get_or (set now at c) r None ≡ f r) [
            | inl e ↦
                subst (λ x. get_or (set now at c) x None ≡ f x) (sym e)
                (get_or-set_same now at c None (let g = s.long in omega (arith, g, l)) ∙ is)
            | inr n ↦ get_or-set_other now at r c None n ∙ s.done r (omega (arith, below, n))
          ];
    } where
      set_long : {A : Type 0} (xs : List A) (i : ℕ) (x : A) → length (set xs i x) ≡ length xs
      set_long [] i x = refl
      set_long (y ∷ xs) zero x = refl
      set_long (y ∷ xs) (suc i) x = ap suc (set_long xs i x)

no_more : {A : Type 0} (xs : List (Option A)) (r : ℕ) → length xs ≤ r → get_or xs r None ≡ None
no_more [] r l = refl
no_more (x ∷ xs) zero l = absurd (omega (arith, l))
no_more (x ∷ xs) (suc r) l = no_more xs r (omega (arith, l))

-- nothing is said of registers that there aren't
far_register : (stack : ℕ) (site : Site) (done : Bool) (t : PointFacts) → length t.registers ≡ 15 → (r : ℕ) → 15 ≤ r
    → (stepped_state stack site done t).cell (Register r) ≡ None
far_register stack site true t e r l = ap (cell_of (state_of_point t)) (cond-false (nat_lt r 15) _ Nothing (not_below r l)) where
  not_below : (r : ℕ) → 15 ≤ r → nat_lt r 15 ≡ false
  not_below r l = grind (arith, nat_tests)
far_register stack site false t e r l = no_more t.registers r (omega (arith, e, l))

pub stepped_all : (stack : ℕ) (site : Site) (done : Bool) (t : PointFacts) (at : ℕ) (now : List (Option Range)) → length t.registers ≡ 15
    → PartlyStepped (λ r. (stepped_state stack site done t).cell (Register r)) at now → 15 ≤ at
    → (r : ℕ) → get_or now r None ≡ (stepped_state stack site done t).cell (Register r)
stepped_all stack site done t at now e s l r =
    elim (cases_15 r at l) as (λ _. get_or now r None ≡ (stepped_state stack site done t).cell (Register r)) [
      | inl b ↦ s.done r b
      | inr g ↦ let long = s.long in no_more now r (omega (arith, long, g)) ∙ sym (far_register stack site done t e r g)
    ] where
      cases_15 : (r at : ℕ) → 15 ≤ at → (r < at) ⊎ (15 ≤ r)
      cases_15 r at l = grind arith

-- ---- words of which nothing was known and that aren't touched

beside_cell : (m : AbstractState) (ch : StackChange) (k : ℕ) → m.cell (StackWord k) ≡ None → m.marked k ≡ false → cell_of m
    (source_beside ch k) ≡ None
beside_cell m change.Nothing k e f = e
beside_cell m (change.Words first last) k e f = e
beside_cell m change.Any k e f = refl
beside_cell m change.Unmarked k e f = cond-false (m.marked k) (m.cell (StackWord k)) None f

beside_mark : (ch : StackChange) (b : Bool) → b ≡ false → mark_beside ch b ≡ false
beside_mark change.Nothing b e = e
beside_mark (change.Words first last) b e = e
beside_mark change.Any b e = refl
beside_mark change.Unmarked b e = e

quiet_entry : (v : WordFacts) (k : ℕ) → v.word ≡ k → v.cell ≡ None → v.kept ≡ false → v ≡ nothing_of k
quiet_entry v k a b c = same_entry v (nothing_of k) a b c

pub quiet_done : (stack : ℕ) (site : Site) (t : PointFacts) (k : ℕ) (o : Option ℤ) (ch : StackChange) → o ≡ one_offset (state_of_point t)
    → stack < 2 ^ 31
    → ((stack a k : ℕ) (literal : Option ℕ) → stack < 2 ^ 31 → is_tracked stack k ≡ true → is_touched ch k ≡ false
    → source_of stack a literal o site.insn.op (StackWord k) ≡ source_beside ch k)
    → ((stack k : ℕ) (before : Bool) → stack < 2 ^ 31 → is_tracked stack k ≡ true → is_touched ch k ≡ false
    → mark_of stack o site.insn.op k before ≡ mark_beside ch before)
    → is_touched ch k ≡ false → entry_in t.words.items k ≡ nothing_of k → stepped_entry stack site true t k ≡ nothing_of k
quiet_done stack site t k o ch same small sources marks away none =
    quiet_entry (stepped_entry stack site true t k) k refl
    (subst (λ p. cell_of m (source_of stack site.address site.literal p site.insn.op (StackWord k)) ≡ None) same cell)
    (and_right above ((site_step stack site true (one_offset m)).mark k (m.marked k))
    (subst (λ p. mark_of stack p site.insn.op k (m.marked k) ≡ false) same mark)) where
      m : AbstractState
      m = state_of_point t

      above : Bool
      above = all_above stack ((stepped_state stack site true t).cell (Register 13)) k

      cell : cell_of m (source_of stack site.address site.literal o site.insn.op (StackWord k)) ≡ None
      cell =
          elim (cases_Bool (is_tracked stack k)) as
          (λ _. cell_of m (source_of stack site.address site.literal o site.insn.op (StackWord k)) ≡ None) [
            | inl there ↦
                ap (cell_of m) (sources stack site.address k site.literal small there away)
                ∙ beside_cell m ch k (ap (λ x. x.cell) none) (ap (λ x. x.kept) none)
            | inr not_there ↦ ap (cell_of m) (cond-false (is_tracked stack k) _ Nothing not_there)
          ]

      mark : mark_of stack o site.insn.op k (m.marked k) ≡ false
      mark =
          elim (cases_Bool (is_tracked stack k)) as (λ _. mark_of stack o site.insn.op k (m.marked k) ≡ false) [
            | inl there ↦ marks stack k (m.marked k) small there away ∙ beside_mark ch (m.marked k) (ap (λ x. x.kept) none)
            | inr not_there ↦ cond-false (is_tracked stack k) _ false not_there
          ]

pub quiet_skipped : (stack : ℕ) (site : Site) (t : PointFacts) (k : ℕ) → entry_in t.words.items k ≡ nothing_of k
    → stepped_entry stack site false t k ≡ nothing_of k
quiet_skipped stack site t k none =
    quiet_entry (stepped_entry stack site false t k) k refl (ap (λ x. x.cell) none)
    (and_right (all_above stack ((stepped_state stack site false t).cell (Register 13)) k) (entry_in t.words.items k).kept
    (ap (λ x. x.kept) none))

-- ---- the words of a list between two words

pub record PartlyOld (f : ℕ → WordFacts) (old : List WordFacts) (from to i : ℕ) (out : List WordFacts) : Type 0 where
  pub bound : ℕ
  pub low : ℕ
  pub entries : AreEntriesTo f bound out
  pub from_le : from ≤ bound
  pub le_to : bound ≤ to
  pub rest : RisesTo low (2 ^ 32 - 1) (drop i old)
  pub place : (bound ≤ from) ⊎ (bound ≤ low)
  pub left_at : (k : ℕ) → bound ≤ k → k < to → entry_in old k ≡ entry_in (drop i old) k

pub old_begins : (f : ℕ → WordFacts) (old : List WordFacts) (from to : ℕ) (out : List WordFacts) → RisesTo 0 (2 ^ 32 - 1) old → from ≤ to
    → AreEntriesTo f from out
    → PartlyOld f old from to 0 out
old_begins f old from to out r l e = record {
  bound = from;
  low = 0;
  entries = e;
  from_le = omega arith;
  le_to = l;
  rest = r;
  place = inl (omega arith);
  left_at = λ k a b. refl;
}

module _ (f : ℕ → WordFacts) (old : List WordFacts) (from to i : ℕ) (out : List WordFacts) (s : PartlyOld f old from to i out)
    (w : WordFacts)
    (d : drop i old ≡ w ∷ drop (i + 1) old) where
  opened : RisesTo s.low (2 ^ 32 - 1) (w ∷ drop (i + 1) old)
  opened = subst (RisesTo s.low (2 ^ 32 - 1)) d s.rest

  placed : (s.bound ≤ from) ⊎ (s.bound ≤ suc w.word)
  placed =
      elim s.place as (λ _. (s.bound ≤ from) ⊎ (s.bound ≤ suc w.word)) [
        | inl a ↦ inl a
        | inr b ↦ let h = opened.0 in inr (omega (arith, b, h))
      ]

  passed : ((k : ℕ) → s.bound ≤ k → k < to → w.word ≢ k) → PartlyOld f old from to (i + 1) out
  passed n = record {
    bound = s.bound;
    low = suc w.word;
    entries = s.entries;
    from_le = s.from_le;
    le_to = s.le_to;
    rest = opened.1;
    place = placed;
    left_at = λ k a b. s.left_at k a b ∙ (ap (λ ws. entry_in ws k) d ∙ head_passed w (drop (i + 1) old) k (n k a b));
  }

  pub old_below : w.word < from → PartlyOld f old from to (i + 1) out
  old_below l = let h = s.from_le in passed (λ k a b e. omega (arith, l, h, a, e))

  pub old_above : to ≤ w.word → PartlyOld f old from to (i + 1) out
  old_above l = passed (λ k a b e. omega (arith, l, b, e))

  pub old_written : ((k : ℕ) → from ≤ k → k < to → entry_in old k ≡ nothing_of k → f k ≡ nothing_of k) → from ≤ w.word → w.word < to
      → (n : WordFacts) → n ≡ f w.word → n.word ≡ w.word → (next : List WordFacts) → next ≡ with_entry out n → PartlyOld f old from to
      (i + 1) next
  old_written quiet a b n is named next put = record {
    bound = suc w.word;
    low = suc w.word;
    entries =
        subst (AreEntriesTo f (suc w.word)) (sym put)
        (subst (λ x. AreEntriesTo f (suc x) (with_entry out n)) named
        (written f s.bound out n s.entries (subst (λ x. s.bound ≤ x) (sym named) bound_le)
        (λ k c e. gap k c (subst (λ x. k < x) named e)) (is ∙ ap f (sym named))));
    from_le = omega (arith, a);
    le_to = b;
    rest = opened.1;
    place = inr (omega arith);
    left_at = λ k c e.
        let x = bound_le in
        s.left_at k (omega (arith, x, c)) e ∙ (ap (λ ws. entry_in ws k) d ∙ head_passed w (drop (i + 1) old) k (λ g. omega (arith, g, c)));
  } where
    bound_le : s.bound ≤ w.word
    bound_le =
        elim s.place as (λ _. s.bound ≤ w.word) [
          | inl x ↦ omega (arith, x, a)
          | inr y ↦ let h = opened.0 in omega (arith, y, h)
        ]

    gap : (k : ℕ) → s.bound ≤ k → k < w.word → f k ≡ nothing_of k
    gap k c e =
        let g = s.from_le in
        quiet k (omega (arith, g, c)) (omega (arith, e, b))
        (s.left_at k c (omega (arith, e, b)) ∙
        (ap (λ ws. entry_in ws k) d ∙ none_below w.word (2 ^ 32 - 1) (w ∷ drop (i + 1) old) k (omega arith, opened.1) e))

pub old_ends : (f : ℕ → WordFacts) (old : List WordFacts) (from to i : ℕ) (out : List WordFacts) → PartlyOld f old from to i out
    → drop i old ≡ []
    → ((k : ℕ) → from ≤ k → k < to → entry_in old k ≡ nothing_of k → f k ≡ nothing_of k) → AreEntriesTo f to out
old_ends f old from to i out s e quiet =
    wider f s.bound to out s.entries s.le_to (λ k a b.
    let g = s.from_le in quiet k (omega (arith, g, a)) b (s.left_at k a b ∙ ap (λ ws. entry_in ws k) e))

-- one word more
pub all_on : (f : ℕ → WordFacts) (k : ℕ) (out : List WordFacts) (n : WordFacts) (next : List WordFacts) → AreEntriesTo f k out → n ≡ f k
    → n.word ≡ k
    → next ≡ with_entry out n → AreEntriesTo f (k + 1) next
all_on f k out n next s is named put =
    subst (AreEntriesTo f (k + 1)) (sym put)
    (subst (λ x. AreEntriesTo f x (with_entry out n)) (sym (add-one k))
    (subst (λ x. AreEntriesTo f (suc x) (with_entry out n)) named
    (written f k out n s (omega (arith, named)) (λ j a b. absurd (omega (arith, a, b, named))) (is ∙ ap f (sym named)))))

-- ---- the whole table

pub no_entries : (f : ℕ → WordFacts) (out : List WordFacts) → out ≡ [] → AreEntriesTo f 0 out
no_entries f out e = subst (AreEntriesTo f 0) (sym e) (record { rises = omega arith; entries = λ k l. absurd (omega (arith, l)) })

pub all_entries : (f : ℕ → WordFacts) (old out : List WordFacts) (to : ℕ) → AreEntriesTo f (2 ^ 32 - 1) out → RisesTo 0 (2 ^ 32 - 1) old
    → to ≤ 2 ^ 32 - 1
    → ((k : ℕ) → to ≤ k → entry_in old k ≡ nothing_of k → f k ≡ nothing_of k) → (k : ℕ) → entry_in out k ≡ f k
all_entries f old out to s r l quiet k =
    elim (cases_le k) as (λ _. entry_in out k ≡ f k) [
      | inl b ↦ s.entries k b
      | inr g ↦
          none_above 0 (2 ^ 32 - 1) out k s.rises g
          ∙ sym (quiet k (omega (arith, l, g)) (none_above 0 (2 ^ 32 - 1) old k r g))
    ] where
      cases_le : (k : ℕ) → (k < 2 ^ 32 - 1) ⊎ (2 ^ 32 - 1 ≤ k)
      cases_le k = grind arith

pub stepped_is : (stack : ℕ) (site : Site) (done : Bool) (t : PointFacts) (rs : List (Option Range)) (ws : List WordFacts)
    → ((r : ℕ) → get_or rs r None ≡ (stepped_state stack site done t).cell (Register r))
    → ((k : ℕ) → entry_in ws k ≡ stepped_entry stack site done t k) → state_in rs ws ≡ stepped_state stack site done t
stepped_is stack site done t rs ws cells entries =
    λ j. record { cell = λ p. each p j; marked = λ k. (entries k j).kept } where
      each : (p : Location) → cell_in rs ws p ≡ (stepped_state stack site done t).cell p
      each (Register r) = cells r
      each (StackWord k) = ap (λ x. x.cell) (entries k)

pub quiet_here : (stack : ℕ) (site : Site) (done : Bool) (t : PointFacts) (k : ℕ) (o : Option ℤ) (ch : StackChange) → done ≡ true
    → o ≡ one_offset (state_of_point t) → stack < 2 ^ 31
    → ((stack a k : ℕ) (literal : Option ℕ) → stack < 2 ^ 31 → is_tracked stack k ≡ true → is_touched ch k ≡ false
    → source_of stack a literal o site.insn.op (StackWord k) ≡ source_beside ch k)
    → ((stack k : ℕ) (before : Bool) → stack < 2 ^ 31 → is_tracked stack k ≡ true → is_touched ch k ≡ false
    → mark_of stack o site.insn.op k before ≡ mark_beside ch before)
    → is_touched ch k ≡ false → entry_in t.words.items k ≡ nothing_of k → stepped_entry stack site done t k ≡ nothing_of k
quiet_here stack site done t k o ch d same small sources marks away none =
    subst (λ b. stepped_entry stack site b t k ≡ nothing_of k) (sym d) (quiet_done stack site t k o ch same small sources marks away none)

pub outside : (first last k : ℕ) → (k < first) ⊎ (last + 1 ≤ k) → (nat_le first k && nat_le k last) ≡ false
outside first last k h = grind (arith, nat_tests)

pub nowhere : (first last k : ℕ) → (first ≤ last → ⊥) → (nat_le first k && nat_le k last) ≡ false
nowhere first last k h = grind (arith, nat_tests)

pub nowhere_less : (first last k : ℕ) → last < first → (nat_le first k && nat_le k last) ≡ false
nowhere_less first last k h = grind (arith, nat_tests)
