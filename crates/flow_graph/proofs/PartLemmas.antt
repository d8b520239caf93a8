-- The parts of a graph from the tables.
use Rattle.std.proofs.Common.{◌≡◌, refl, sym, ap, ◌∙◌, subst, ℕ, ◌+◌, ◌-◌, ◌<◌, ◌≤◌, ◌⊎◌, inl, inr, Bool, true, false, List, [], ◌∷◌}
use Rattle.std.proofs.Common.{◌++◌, length, get_or, take, map, cond, Ok, Err, arith}
use Rattle.std.specs.Prelude.{◌↔◌, ◌==◌, ◌||◌, nat_lt, HoldsAt, Contains, Option, Some, None, slice_get}
use Rattle.std.specs.List.Sorted.{IsNonDecreasingBy, IsPartitionPoint}
use Rattle.std.specs.Ordering.{nat_cmp, ordering_index}
use Rattle.std.specs.declared.cmp.Ordering.TheVariants.{Less, Equal, Greater}
use Rattle.std.proofs.lemmas.Bool.{cond-true, cond-false, or_cases, or_left, or_right}
use Rattle.std.proofs.lemmas.Bool.Decides.{nat_tests}
use Rattle.std.proofs.lemmas.List.{map-append, get_or_default}
use Rattle.std.proofs.lemmas.List.Elements.{Contains-append_left, Contains-append_right, Contains-append_cases, Contains-push}
use Rattle.std.proofs.lemmas.List.Elements.{Contains-push_cases}
use Rattle.std.proofs.lemmas.Option.{slice_get-get_or, slice_get_within, get_or_from_slice_get}
use Rattle.elf32_image.specs.Parts.{ImageValue}
use Rattle.elf32_image.specs.Bytes.{is_code}
use Rattle.arm_isa.specs.declared.instruction.Insn.{Insn}
use Rattle.control_flow.specs.declared.instructions.FetchFault.{FetchFault}
use Rattle.control_flow.specs.declared.instructions.FetchFault.TheVariants.{NoCode}
use Rattle.control_flow.specs.Instructions.{decoded, fetched, instruction_at}
use Rattle.basic_blocks.specs.Blocks.{Ascending}
use Rattle.basic_blocks.proofs.NumberLemmas.{ascending_at}
use Rattle.basic_blocks.proofs.SplitLemmas.{ascending_end}
use Rattle.function_points.proofs.MemberLemmas.{here, there, first_or_rest, in_none}
use Rattle.flow_graph.specs.declared.graph.GraphPoint.{GraphPoint}
use Rattle.point_tables.specs.declared.targets.Targets.{Targets}
use Rattle.function_points.specs.Contexts.{AreContexts, lists_of}
use Rattle.flow_graph.specs.declared.graph.Context.{Context}
use Rattle.flow_graph.specs.Graphs.{context_row, rows_of}
use Rattle.flow_graph.specs.Parts.{AreContextsOf, row_context, AreNextBlocks, AreUnflagged, IsBlockAt, first_number, in_order}
use Rattle.flow_graph.specs.Parts.{last_number, pair_at, point_pair}
use Rattle.point_tables.specs.Targets.{numbers_in, step_in, target_numbers, targets_of}
use Rattle.point_tables.proofs.PlacementLemmas.{index_one}
use Rattle.point_tables.proofs.PointwiseLemmas.{next_front}
use Rattle.point_tables.proofs.TableLemmas.{in_one}
use Rattle.point_order.proofs.FamilyLemmas.{three}

-- the instruction of a point
with_insn : (code : Bool) (found : Option Insn) (insn : Insn) → cond code (decoded found) (Err NoCode) ≡ Ok insn → found ≡ Some insn
with_insn true None insn e = absurd (cc)
with_insn true (Some x) insn e = let same : x ≡ insn = cc in ap Some same
with_insn false found insn e = absurd (cc)

no_insn : (code : Bool) (found : Option Insn) (f : FetchFault) → cond code (decoded found) (Err NoCode) ≡ Err f
    → (code ≡ false → found ≡ None) → found ≡ None
no_insn true None f e outside = refl
no_insn true (Some x) f e outside = absurd (cc)
no_insn false found f e outside = outside refl

outside_none : (code : Bool) (found : Option Insn) → code ≡ false → cond code found None ≡ None
outside_none true found e = absurd (cc)
outside_none false found e = refl

module _ (image : ImageValue) (a : ℕ) where
  pub fetched_insn : (insn : Insn) → fetched image a ≡ Ok insn → instruction_at image a ≡ Some insn
  fetched_insn insn e = with_insn (is_code image a) (instruction_at image a) insn e

  pub fetched_none : (f : FetchFault) → fetched image a ≡ Err f → instruction_at image a ≡ None
  fetched_none f e = no_insn (is_code image a) (instruction_at image a) f e (outside_none (is_code image a) _)

-- points with their instructions
pub points_more : (ns : List (ℕ × ℕ)) (numbers : List ℕ) (at : ℕ) (out new : List GraphPoint) (p : GraphPoint) → at < length numbers
    → map point_pair out ≡ map (pair_at ns) (take at numbers) → new ≡ out ++ p ∷ [] → point_pair p ≡ pair_at ns (get_or numbers at 0)
    → map point_pair new ≡ map (pair_at ns) (take (at + 1) numbers)
points_more ns numbers at out new p l w e f =
    ap (map point_pair) e ∙ map-append point_pair out (p ∷ []) ∙ ap (λ zs. zs ++ point_pair p ∷ []) w
    ∙ ap (λ z. map (pair_at ns) (take at numbers) ++ z ∷ []) f
    ∙ sym (ap (map (pair_at ns)) (next_front numbers at 0 l) ∙ map-append (pair_at ns) (take at numbers) (get_or numbers at 0 ∷ []))

pub known_more : (insns : ℕ → Option Insn) (out new : List GraphPoint) (p : GraphPoint) → insns p.address ≡ Some p.insn
    → new ≡ out ++ p ∷ []
    → ((q : GraphPoint) → Contains out q → insns q.address ≡ Some q.insn) → (q : GraphPoint) → Contains new q
    → insns q.address ≡ Some q.insn
known_more insns out new p is e w q i =
    elim (Contains-push_cases out p q (subst (λ (zs : List GraphPoint). Contains zs q) e i)) as (λ _. insns q.address ≡ Some q.insn) [
      | inl old ↦ w q old
      | inr s ↦ subst (λ (z : GraphPoint). insns z.address ≡ Some z.insn) s is
    ]

-- the first numbers of chains
pub firsts_more : (xss : List (List ℕ)) (at : ℕ) (out new : List ℕ) (x : ℕ) → at < length xss
    → out ≡ map first_number (take at xss) → new ≡ out ++ x ∷ [] → x ≡ first_number (get_or xss at [])
    → new ≡ map first_number (take (at + 1) xss)
firsts_more xss at out new x l w e f =
    e ∙ ap (λ zs. zs ++ x ∷ []) w ∙ ap (λ z. map first_number (take at xss) ++ z ∷ []) f
    ∙ sym (ap (map first_number) (next_front xss at [] l) ∙ map-append first_number (take at xss) (get_or xss at [] ∷ []))

-- a search among numbers that ascend
numbers_rise : (ns : List ℕ) (x : ℕ) → Ascending (λ i j. i < j) ns → IsNonDecreasingBy (λ y. ordering_index (nat_cmp y x)) ns
numbers_rise ns x a i j d le lt =
    elim (equal_or_less i j le) as (λ _. ordering_index (nat_cmp (get_or ns i d) x) ≤ ordering_index (nat_cmp (get_or ns j d) x)) [
      | inl e ↦ same_index (ordering_index (nat_cmp (get_or ns i d) x)) (ordering_index (nat_cmp (get_or ns j d) x))
          (ap (λ k. ordering_index (nat_cmp (get_or ns k d) x)) e)
      | inr l ↦ index_one (get_or ns i d) (get_or ns j d) x (ascending_at (λ i j. i < j) ns d i j a l lt)
    ]
  where
    equal_or_less : (i j : ℕ) → i ≤ j → (i ≡ j) ⊎ (i < j)
    equal_or_less i j l = grind arith

    same_index : (m n : ℕ) → m ≡ n → m ≤ n
    same_index m n e = omega (arith, e)

equal_numbers : (x y : ℕ) → nat_cmp y x ≡ Equal → y ≡ x
equal_numbers x y e = grind (arith, nat_tests, e)

not_less : (x : ℕ) → nat_cmp x x ≡ Less → ⊥
not_less x e = grind (arith, nat_tests, e)

not_greater : (x : ℕ) → nat_cmp x x ≡ Greater → ⊥
not_greater x e = grind (arith, nat_tests, e)

pub number_at : (ns : List ℕ) (x i : ℕ) → i < length ns → HoldsAt (λ y. nat_cmp y x ≡ Equal) ns i → slice_get ns i ≡ Some x
number_at ns x i l h = slice_get-get_or ns i x l ∙ ap Some (equal_numbers x (get_or ns i x) (h x))

pub number_nowhere : (ns : List ℕ) (x i : ℕ) → Ascending (λ i j. i < j) ns
    → (IsNonDecreasingBy (λ y. ordering_index (nat_cmp y x)) ns → IsPartitionPoint (λ y. nat_cmp y x ≡ Less)
    (λ y. nat_cmp y x ≡ Greater) ns i)
    → (k : ℕ) → slice_get ns k ≡ Some x → ⊥
number_nowhere ns x i a r k e =
    let parts = r (numbers_rise ns x a) in
    let lt = slice_get_within ns k x e in
    let is = get_or_from_slice_get ns k x x e in
    elim (below_or_not k i) as (λ _. ⊥) [
      | inl l ↦ not_less x (subst (λ z. nat_cmp z x ≡ Less) is (parts.0 k x (omega arith) l))
      | inr l ↦ not_greater x (subst (λ z. nat_cmp z x ≡ Greater) is (parts.1 k x l lt))
    ]
  where
    below_or_not : (k i : ℕ) → (k < i) ⊎ (i ≤ k)
    below_or_not k i = grind arith

-- one or two numbers in order
module _ (i j : ℕ) where
  two_cases : (P : List ℕ → Type 0) → (i ≡ j → P (i ∷ [])) → (i < j → P (i ∷ j ∷ [])) → (j < i → P (j ∷ i ∷ []))
      → P (in_order (Some i) (Some j))
  two_cases P same less more =
      elim (three i j) as (λ _. P (in_order (Some i) (Some j))) [
        | inl l ↦ subst P (sym (is_less l)) (less l)
        | inr n ↦
            elim n as (λ _. P (in_order (Some i) (Some j))) [
              | inl e ↦ subst P (sym (cond-true (i == j) (i ∷ []) (cond (nat_lt i j) (i ∷ j ∷ []) (j ∷ i ∷ [])) (same_test i j e))) (same e)
              | inr l ↦ subst P (sym (is_more l)) (more l)
            ]
      ]
    where
      same_test : (i j : ℕ) → i ≡ j → (i == j) ≡ true
      same_test i j e = grind (arith, nat_tests, e)

      less_test : (i j : ℕ) → i < j → ((i == j) ≡ false) × (nat_lt i j ≡ true)
      less_test i j l = (grind (arith, nat_tests, l), grind (arith, nat_tests, l))

      more_test : (i j : ℕ) → j < i → ((i == j) ≡ false) × (nat_lt i j ≡ false)
      more_test i j l = (grind (arith, nat_tests, l), grind (arith, nat_tests, l))

      is_less : i < j → in_order (Some i) (Some j) ≡ i ∷ j ∷ []
      is_less l =
          let t = less_test i j l in
          cond-false (i == j) (i ∷ []) (cond (nat_lt i j) (i ∷ j ∷ []) (j ∷ i ∷ [])) t.0
          ∙ cond-true (nat_lt i j) (i ∷ j ∷ []) (j ∷ i ∷ []) t.1

      is_more : j < i → in_order (Some i) (Some j) ≡ j ∷ i ∷ []
      is_more l =
          let t = more_test i j l in
          cond-false (i == j) (i ∷ []) (cond (nat_lt i j) (i ∷ j ∷ []) (j ∷ i ∷ [])) t.0
          ∙ cond-false (nat_lt i j) (i ∷ j ∷ []) (j ∷ i ∷ []) t.1

one_ascends : (i : ℕ) → Ascending (λ i j. i < j) (i ∷ [])
one_ascends i = ((λ y m. absurd (in_none y m)), tt)

two_ascend : (i j : ℕ) → i < j → Ascending (λ i j. i < j) (i ∷ j ∷ [])
two_ascend i j l = ((λ y m. subst (λ z. i < z) (in_one j y m) l), one_ascends j)

in_two : {A : Type 0} (x y z : A) → Contains (x ∷ y ∷ []) z → (x ≡ z) ⊎ (y ≡ z)
in_two x y z i =
    elim (first_or_rest x z (y ∷ []) i) as (λ _. (x ≡ z) ⊎ (y ≡ z)) [
      | inl e ↦ inl e
      | inr n ↦ inr (in_one y z n)
    ]

abbrev Either : Option ℕ → Option ℕ → ℕ → Type 0
Either a b k = (a ≡ Some k) ⊎ (b ≡ Some k)

order_ascends : (a b : Option ℕ) → Ascending (λ i j. i < j) (in_order a b)
order_ascends None None = tt
order_ascends None (Some j) = one_ascends j
order_ascends (Some i) None = one_ascends i
order_ascends (Some i) (Some j) = two_cases i j (Ascending (λ i j. i < j)) (λ e. one_ascends i) (two_ascend i j) (two_ascend j i)

none_some : (k : ℕ) → ◌≡◌ {A = Option ℕ} None (Some k) → ⊥
none_some k e = cc

some_same : (i k : ℕ) → ◌≡◌ {A = Option ℕ} (Some i) (Some k) → i ≡ k
some_same i k e = cc

order_members : (a b : Option ℕ) (k : ℕ) → Contains (in_order a b) k ↔ Either a b k
order_members None None k = (
  (λ i. absurd (in_none k i)),
  (λ s. elim s as (λ _. Contains [] k) [
    | inl e ↦ absurd (none_some k e)
    | inr e ↦ absurd (none_some k e)
  ]),
)
order_members None (Some j) k = (
  (λ i. inr (ap Some (in_one j k i))),
  (λ s. elim s as (λ _. Contains (j ∷ []) k) [
    | inl e ↦ absurd (none_some k e)
    | inr e ↦ subst (λ z. Contains (j ∷ []) z) (some_same j k e) (here j [])
  ]),
)
order_members (Some i) None k = (
  (λ m. inl (ap Some (in_one i k m))),
  (λ s. elim s as (λ _. Contains (i ∷ []) k) [
    | inl e ↦ subst (λ z. Contains (i ∷ []) z) (some_same i k e) (here i [])
    | inr e ↦ absurd (none_some k e)
  ]),
)
order_members (Some i) (Some j) k =
    two_cases i j (λ zs. Contains zs k ↔ Either (Some i) (Some j) k)
    (λ e. ((λ m. inl (ap Some (in_one i k m))), (λ s. subst (λ z. Contains (i ∷ []) z) (from_either e s) (here i []))))
    (λ l. ((λ m. two_either i j k (in_two i j k m)), (λ s. either_two i j k s)))
    (λ l. ((λ m. swapped (two_either j i k (in_two j i k m))), (λ s. either_two j i k (swapped s))))
  where
    from_either : i ≡ j → Either (Some i) (Some j) k → i ≡ k
    from_either e s =
        elim s as (λ _. i ≡ k) [
          | inl a ↦ some_same i k a
          | inr b ↦ e ∙ some_same j k b
        ]

    two_either : (x y z : ℕ) → (x ≡ z) ⊎ (y ≡ z) → Either (Some x) (Some y) z
    two_either x y z s =
        elim s as (λ _. Either (Some x) (Some y) z) [
          | inl a ↦ inl (ap Some a)
          | inr b ↦ inr (ap Some b)
        ]

    either_two : (x y z : ℕ) → Either (Some x) (Some y) z → Contains (x ∷ y ∷ []) z
    either_two x y z s =
        elim s as (λ _. Contains (x ∷ y ∷ []) z) [
          | inl a ↦ subst (λ w. Contains (x ∷ y ∷ []) w) (some_same x z a) (here x (y ∷ []))
          | inr b ↦ subst (λ w. Contains (x ∷ y ∷ []) w) (some_same y z b) (there x y (y ∷ []) (here y []))
        ]

    swapped : {P Q : Type 0} → P ⊎ Q → Q ⊎ P
    swapped {P} {Q} s =
        elim s as (λ _. Q ⊎ P) [
          | inl a ↦ inr a
          | inr b ↦ inl b
        ]

-- the block of a way
block_some : (firsts : List ℕ) (to o : Option ℕ) (j : ℕ) → IsBlockAt firsts to o → o ≡ Some j
    → (t : ℕ) × Contains (numbers_in to) t × (slice_get firsts j ≡ Some t)
block_some firsts None o j w e = absurd (none_some j (sym w ∙ e))
block_some firsts (Some t) None j w e = absurd (none_some j e)
block_some firsts (Some t) (Some k) j w e = (t, here t [], subst (λ z. slice_get firsts z ≡ Some t) (some_same k j e) w)

one_index : (firsts : List ℕ) (j k t : ℕ) → Ascending (λ i j. i < j) firsts → slice_get firsts j ≡ Some t → slice_get firsts k ≡ Some t
    → j ≡ k
one_index firsts j k t a e f =
    elim (three j k) as (λ _. j ≡ k) [
      | inl l ↦ absurd (twice j k e f l)
      | inr n ↦
          elim n as (λ _. j ≡ k) [
            | inl s ↦ s
            | inr l ↦ absurd (twice k j f e l)
          ]
    ]
  where
    twice : (i m : ℕ) → slice_get firsts i ≡ Some t → slice_get firsts m ≡ Some t → i < m → ⊥
    twice i m e f l =
        let b = ascending_at (λ i j. i < j) firsts 0 i m a l (slice_get_within firsts m t f) in
        let x = get_or_from_slice_get firsts i t 0 e in
        let y = get_or_from_slice_get firsts m t 0 f in
        omega (arith, b, x, y)

some_block : (firsts : List ℕ) (to o : Option ℕ) (j t : ℕ) → Ascending (λ i j. i < j) firsts → IsBlockAt firsts to o
    → Contains (numbers_in to) t
    → slice_get firsts j ≡ Some t → o ≡ Some j
some_block firsts None o j t a w i e = absurd (in_none t i)
some_block firsts (Some u) None j t a w i e = absurd (w j (subst (λ z. slice_get firsts j ≡ Some z) (sym (in_one u t i)) e))
some_block firsts (Some u) (Some k) j t a w i e = ap Some (one_index firsts k j u a w
    (subst (λ z. slice_get firsts j ≡ Some z) (sym (in_one u t i)) e))

pub next_are : (firsts next : List ℕ) (ts : Targets) (a b : Option ℕ) → Ascending (λ i j. i < j) firsts → IsBlockAt firsts ts.done a
    → IsBlockAt firsts ts.skipped b → next ≡ in_order a b → AreNextBlocks firsts (target_numbers ts) next
next_are firsts next ts a b rise v w e =
    record {
      ascending = subst (Ascending (λ i j. i < j)) (sym e) (order_ascends a b);
      exact = λ j. (
        (λ i.
            elim ((order_members a b j).0 (subst (λ zs. Contains zs j) e i)) as
            (λ _. (t : ℕ) × Contains (target_numbers ts) t × (slice_get firsts j ≡ Some t)) [
              | inl x ↦
                  let r = block_some firsts ts.done a j v x in
                  (r.0, Contains-append_left (numbers_in ts.done) (numbers_in ts.skipped) r.0 r.1, r.2)
              | inr y ↦
                  let r = block_some firsts ts.skipped b j w y in
                  (r.0, Contains-append_right (numbers_in ts.done) (numbers_in ts.skipped) r.0 r.1, r.2)
            ]),
        (λ r.
            subst (λ zs. Contains zs j) (sym e) ((order_members a b j).1
            (elim (Contains-append_cases (numbers_in ts.done) (numbers_in ts.skipped) r.0 r.1) as (λ _. Either a b j) [
              | inl m ↦ inl (some_block firsts ts.done a j r.0 rise v m r.2)
              | inr m ↦ inr (some_block firsts ts.skipped b j r.0 rise w m r.2)
            ]))),
      );
    }

-- whether a way leads to a number
to_member : (o : Option ℕ) (n : ℕ) → (o ≡ Some n) ↔ Contains (numbers_in o) n
to_member None n = ((λ e. absurd (none_some n e)), (λ i. absurd (in_none n i)))
to_member (Some k) n = ((λ e. subst (λ z. Contains (k ∷ []) z) (some_same k n e) (here k [])), (λ i. ap Some (in_one k n i)))

pub leads_are : (ts : Targets) (n : ℕ) (a b r : Bool) → (a ≡ true) ↔ (ts.done ≡ Some n) → (b ≡ true) ↔ (ts.skipped ≡ Some n) → r ≡ (a || b)
    → (r ≡ true) ↔ Contains (target_numbers ts) n
leads_are ts n a b r v w e = (
  (λ t.
      elim (or_cases a b (sym e ∙ t)) as (λ _. Contains (target_numbers ts) n) [
        | inl x ↦ Contains-append_left (numbers_in ts.done) (numbers_in ts.skipped) n ((to_member ts.done n).0 (v.0 x))
        | inr y ↦ Contains-append_right (numbers_in ts.done) (numbers_in ts.skipped) n ((to_member ts.skipped n).0 (w.0 y))
      ]),
  (λ i.
      elim (Contains-append_cases (numbers_in ts.done) (numbers_in ts.skipped) n i) as (λ _. r ≡ true) [
        | inl m ↦ e ∙ or_left a b (v.1 ((to_member ts.done n).1 m))
        | inr m ↦ e ∙ or_right a b (w.1 ((to_member ts.skipped n).1 m))
      ]),
)

-- where the last number leads
pub step_at : (table : List Targets) (i : ℕ) (ts d : Targets) → i < length table → ts ≡ get_or table i d
    → step_in table i ≡ target_numbers ts
step_at table i ts d l e = ap targets_of (slice_get-get_or table i d l ∙ ap Some (sym e))

-- the numbers without a flag
pub none_unflagged : (flag : ℕ → Bool) (xs : List ℕ) → xs ≡ [] → AreUnflagged 0 flag xs
none_unflagged flag xs e =
    record {
      rising = subst (Ascending (λ i j. i < j)) (sym e) tt;
      exact = λ i. ((λ m. absurd (in_none i (subst (λ zs. Contains zs i) e m))), (λ w. let l = w.0 in absurd (omega (arith, l))));
    }

module _ (flag : ℕ → Bool) (at : ℕ) where
  under : (i : ℕ) → i < at + 1 → (i ≡ at) ⊎ (i < at)
  under i l = at_or_under i at l
    where
      at_or_under : (i at : ℕ) → i < at + 1 → (i ≡ at) ⊎ (i < at)
      at_or_under i at l = grind arith

  pub same_unflagged : (xs ys : List ℕ) → ys ≡ xs → flag at ≡ true → AreUnflagged at flag xs → AreUnflagged (at + 1) flag ys
  same_unflagged xs ys e f w =
      record {
        rising = subst (Ascending (λ i j. i < j)) (sym e) w.rising;
        exact = λ i. (
          (λ m. let r = (w.exact i).0 (subst (λ zs. Contains zs i) e m) in let l = r.0 in (omega (arith, l), r.1)),
          (λ r.
              subst (λ zs. Contains zs i) (sym e)
              (elim (under i r.0) as (λ _. Contains xs i) [
                | inl s ↦ absurd (both f (subst (λ z. flag z ≡ false) s r.1))
                | inr l ↦ (w.exact i).1 (l, r.1)
              ])),
        );
      }
    where
      both : flag at ≡ true → flag at ≡ false → ⊥
      both a b = cc

  pub more_unflagged : (xs ys : List ℕ) → ys ≡ xs ++ at ∷ [] → flag at ≡ false → AreUnflagged at flag xs → AreUnflagged (at + 1) flag ys
  more_unflagged xs ys e f w =
      record {
        rising = subst (Ascending (λ i j. i < j)) (sym e) (ascending_end (λ i j. i < j) xs at w.rising (λ i m. ((w.exact i).0 m).0));
        exact = λ i. (
          (λ m.
              elim (Contains-push_cases xs at i (subst (λ zs. Contains zs i) e m)) as (λ _. (i < at + 1) × (flag i ≡ false)) [
                | inl old ↦ let r = (w.exact i).0 old in let l = r.0 in (omega (arith, l), r.1)
                | inr s ↦ (omega (arith, s), subst (λ z. flag z ≡ false) s f)
              ]),
          (λ r.
              subst (λ zs. Contains zs i) (sym e)
              (elim (under i r.0) as (λ _. Contains (xs ++ at ∷ []) i) [
                | inl s ↦ subst (λ z. Contains (xs ++ at ∷ []) z) (sym s) (Contains-push xs at)
                | inr l ↦ Contains-append_left xs (at ∷ []) i ((w.exact i).1 (l, r.1))
              ])),
        );
      }

pub last_number_in : (xs : List ℕ) → 0 < length xs → Contains xs (last_number xs)
last_number_in xs l = (length xs - 1, omega (arith, l), get_or_default xs (length xs - 1) (last_number xs) 0 (omega (arith, l)))

-- contexts
abbrev pub first_context : Context
first_context = record { parent = 0; return_address = 0 }

pub more_contexts : (rows : List (ℕ × ℕ)) (at : ℕ) (d : ℕ × ℕ) (out new : List Context) (c : Context) → at < length rows
    → out ≡ first_context ∷ map row_context (take at rows) → new ≡ out ++ c ∷ [] → c ≡ row_context (get_or rows at d)
    → new ≡ first_context ∷ map row_context (take (at + 1) rows)
more_contexts rows at d out new c l w e f =
    e ∙ ap (λ zs. zs ++ c ∷ []) w ∙ ap (λ z. first_context ∷ map row_context (take at rows) ++ z ∷ []) f
    ∙ ap (λ zs. first_context ∷ zs) (sym (ap (map row_context) (next_front rows at d l)
    ∙ map-append row_context (take at rows) (get_or rows at d ∷ [])))

rows_back : (rows : List (ℕ × ℕ)) → map context_row (map row_context rows) ≡ rows
rows_back [] = refl
rows_back (row ∷ rows) = ap (λ zs. row ∷ zs) (rows_back rows)

pub contexts_are : (ls : List (List ℕ)) (rows : List (ℕ × ℕ)) (cs : List Context) → cs ≡ first_context ∷ map row_context rows
    → lists_of rows ≡ ls
    → ((look : ℕ × ℕ → Option ℕ) × AreContexts rows look) → AreContextsOf ls cs
contexts_are ls rows cs e f look =
    let back : rows_of cs ≡ rows = ap rows_of e ∙ rows_back rows in
    record {
      first = (map row_context rows, e);
      rows = (look.0, subst (λ (zs : List (ℕ × ℕ)). AreContexts zs look.0) (sym back) look.1);
      lists = ap lists_of back ∙ f;
    }

pub list_in : (xss : List (List ℕ)) (at : ℕ) → at < length xss → Contains xss (get_or xss at [])
list_in xss at l = (at, l, get_or_default xss at (get_or xss at []) [] l)

pub item_is : (xss : List (List ℕ)) (at : ℕ) (xs : List ℕ) → at < length xss → xs ≡ get_or xss at xs → xs ≡ get_or xss at []
item_is xss at xs l e = e ∙ get_or_default xss at xs [] l
