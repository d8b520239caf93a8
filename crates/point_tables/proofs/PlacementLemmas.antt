-- The ways of points by numbers.
use Rattle.std.proofs.Common.{◌≡◌, refl, sym, ap, ◌∙◌, subst, ℕ, ◌<◌, ◌≤◌, ◌⊎◌, inl, inr, Bool, true, false, List, [], ◌∷◌, ◌++◌, length}
use Rattle.std.proofs.Common.{get_or, arith}
use Rattle.std.specs.Prelude.{Contains, Option, Some, None, slice_get, HoldsAt}
use Rattle.std.specs.List.Sorted.{IsNonDecreasingBy, IsPartitionPoint}
use Rattle.std.specs.Ordering.{nat_cmp, ordering_then, ordering_index, is_eq}
use Rattle.std.specs.declared.cmp.Ordering.{Ordering}
use Rattle.std.specs.declared.cmp.Ordering.TheVariants.{Less, Equal, Greater}
use Rattle.std.proofs.lemmas.Bool.{cond-false, cond-true}
use Rattle.std.proofs.lemmas.Bool.Decides.{nat_tests}
use Rattle.std.proofs.lemmas.List.Elements.{Contains-append_cases}
use Rattle.std.proofs.lemmas.Option.{slice_get-get_or, slice_get_within, get_or_from_slice_get}
use Rattle.function_points.specs.Contexts.{pair_cmp}
use Rattle.control_flow.specs.Routes.{Place, Way}
use Rattle.control_flow.specs.Routes.Place.{At, Exit}
use Rattle.point_tables.specs.Targets.{way, numbers_in, numbered_way, AreSorted, IsNumber, IsSkippedNumber, LeadInto, HasTargets}
use Rattle.control_flow.specs.Points.{Point, last_return, is_open}
use Rattle.control_flow.specs.declared.control.Control.{Control}
use Rattle.control_flow.specs.Controls.{calls, control_of, skipped_way, ways_by, fault_by}
use Rattle.control_flow.proofs.ControlLemmas.{faults_fit, ways_fit}
use Rattle.control_flow.specs.Ways.{fault_at, return_place, ways_from}
use Rattle.basic_blocks.specs.Blocks.{Ascending}
use Rattle.function_points.specs.PointLists.{point_at, points_at}
use Rattle.function_points.proofs.MemberLemmas.{here, there, in_none}
use Rattle.function_points.proofs.PointLemmas.{points_length, last_back}
use Rattle.function_points.proofs.ContextLemmas.{same_pair, pair_itself}
use Rattle.basic_blocks.proofs.NumberLemmas.{from_map, ascending_at}
use Rattle.point_order.proofs.OrderLemmas.{same_cmp, less_cmp}
use Rattle.point_tables.specs.declared.targets.Targets.{Targets}
use Rattle.point_tables.specs.Numbers.{Answers}
use Rattle.point_order.specs.Ranks.{PairBefore}
use Rattle.point_tables.proofs.TableLemmas.{in_one, place_at, place_exit}
use Rattle.point_order.proofs.FamilyLemmas.{three, one_number}
use Rattle.point_order.proofs.PlaceLemmas.{get_mapped}
use Rattle.elf32_image.specs.Parts.{ImageValue}
use Rattle.control_flow.specs.declared.control.Control.TheVariants as control

greater_cmp : (x y : ℕ) → y < x → nat_cmp x y ≡ Greater
greater_cmp x y l = grind (arith, nat_tests)

index_most : (o : Ordering) → ordering_index o ≤ 2
index_most Less = omega arith
index_most Equal = omega arith
index_most Greater = omega arith

low_index : (o p : Ordering) → o ≡ Less → ordering_index o ≤ ordering_index p
low_index o p e = subst (λ z. ordering_index z ≤ ordering_index p) (sym e) (omega arith)

high_index : (o p : Ordering) → p ≡ Greater → ordering_index o ≤ ordering_index p
high_index o p e = subst (λ z. ordering_index o ≤ ordering_index z) (sym e) (index_most o)

same_index : (o p : Ordering) → o ≡ p → ordering_index o ≤ ordering_index p
same_index o p e = let same = ap ordering_index e in omega (arith, same)

pub index_one : (k e y : ℕ) → k < e → ordering_index (nat_cmp k y) ≤ ordering_index (nat_cmp e y)
index_one k e y l =
    elim (three k y) as (λ _. ordering_index (nat_cmp k y) ≤ ordering_index (nat_cmp e y)) [
      | inl m ↦ low_index (nat_cmp k y) (nat_cmp e y) (less_cmp k y m)
      | inr n ↦
          high_index (nat_cmp k y) (nat_cmp e y) (greater_cmp e y (elim n as (λ _. y < e) [
            | inl s ↦ omega (arith, s, l)
            | inr m ↦ omega (arith, m, l)
          ]))
    ]

index_rises : (a k b e x y : ℕ) → PairBefore (a, k) (b, e) → ordering_index (pair_cmp (a, k) (x, y)) ≤ ordering_index
    (pair_cmp (b, e) (x, y))
index_rises a k b e x y (inl l) =
    let o = pair_cmp (a, k) (x, y) in
    let p = pair_cmp (b, e) (x, y) in
    elim (three a x) as (λ _. ordering_index o ≤ ordering_index p) [
      | inl m ↦ low_index o p (ap (λ z. ordering_then z (nat_cmp k y)) (less_cmp a x m))
      | inr n ↦
          high_index o p (ap (λ z. ordering_then z (nat_cmp e y)) (greater_cmp b x (elim n as (λ _. x < b) [
            | inl s ↦ omega (arith, s, l)
            | inr m ↦ omega (arith, m, l)
          ])))
    ]
index_rises a k b e x y (inr (s, l)) =
    subst (λ z. ordering_index (pair_cmp (a, k) (x, y)) ≤ ordering_index (pair_cmp (z, e) (x, y))) s (
    elim (three a x) as (λ _. ordering_index (pair_cmp (a, k) (x, y)) ≤ ordering_index (pair_cmp (a, e) (x, y))) [
      | inl m ↦ low_index (pair_cmp (a, k) (x, y)) (pair_cmp (a, e) (x, y)) (ap (λ z. ordering_then z (nat_cmp k y)) (less_cmp a x m))
      | inr n ↦
          elim n as (λ _. ordering_index (pair_cmp (a, k) (x, y)) ≤ ordering_index (pair_cmp (a, e) (x, y))) [
            | inr m ↦ high_index (pair_cmp (a, k) (x, y)) (pair_cmp (a, e) (x, y))
                (ap (λ z. ordering_then z (nat_cmp e y)) (greater_cmp a x m))
            | inl t ↦
                let here_k : pair_cmp (a, k) (x, y) ≡ nat_cmp k y = ap (λ z. ordering_then z (nat_cmp k y))
                (subst (λ z. nat_cmp a z ≡ Equal) t (same_cmp a)) in
                let here_e : pair_cmp (a, e) (x, y) ≡ nat_cmp e y = ap (λ z. ordering_then z (nat_cmp e y))
                (subst (λ z. nat_cmp a z ≡ Equal) t (same_cmp a)) in
                subst (λ o. ordering_index o ≤ ordering_index (pair_cmp (a, e) (x, y))) (sym here_k)
                (subst (λ o. ordering_index (nat_cmp k y) ≤ ordering_index o) (sym here_e) (index_one k e y l))
          ]
    ])

equal_or_less : (i j : ℕ) → i ≤ j → (i ≡ j) ⊎ (i < j)
equal_or_less i j l = grind arith

pub pairs_rise : (ns : List (ℕ × ℕ)) (x : ℕ × ℕ) → Ascending PairBefore ns → IsNonDecreasingBy (λ y. ordering_index (pair_cmp y x)) ns
pairs_rise ns x a i j d le lt =
    elim (equal_or_less i j le) as (λ _. ordering_index (pair_cmp (get_or ns i d) x) ≤ ordering_index (pair_cmp (get_or ns j d) x)) [
      | inl e ↦ same_index (pair_cmp (get_or ns i d) x) (pair_cmp (get_or ns j d) x) (ap (λ k. pair_cmp (get_or ns k d) x) e)
      | inr l ↦
          index_rises (get_or ns i d).0 (get_or ns i d).1 (get_or ns j d).0 (get_or ns j d).1 x.0 x.1
          (ascending_at PairBefore ns d i j a l lt)
    ]

not_equal_less : (o : Ordering) → is_eq o ≡ true → o ≡ Less → ⊥
not_equal_less o e f = cc

not_equal_greater : (o : Ordering) → is_eq o ≡ true → o ≡ Greater → ⊥
not_equal_greater o e f = cc

below_or_not : (k i : ℕ) → (k < i) ⊎ (i ≤ k)
below_or_not k i = grind arith

itself : (x : ℕ × ℕ) → is_eq (pair_cmp x x) ≡ true
itself x = pair_itself x.0 x.1

swapped : (x y : ℕ × ℕ) → pair_cmp y x ≡ Equal → y ≡ x
swapped x y e = sym (same_pair y.0 y.1 x (ap is_eq e))

-- found
pub searched_at : (ns : List (ℕ × ℕ)) (x : ℕ × ℕ) (i : ℕ) → i < length ns → HoldsAt (λ y. pair_cmp y x ≡ Equal) ns i
    → slice_get ns i ≡ Some x
searched_at ns x i l h = slice_get-get_or ns i x l ∙ ap Some (swapped x (get_or ns i x) (h x))

-- not found
pub searched_none : (ns : List (ℕ × ℕ)) (x : ℕ × ℕ) (i : ℕ) → Ascending PairBefore ns
    → (IsNonDecreasingBy (λ y. ordering_index (pair_cmp y x)) ns → IsPartitionPoint (λ y. pair_cmp y x ≡ Less)
    (λ y. pair_cmp y x ≡ Greater) ns i) → (k : ℕ) → slice_get ns k ≡ Some x → ⊥
searched_none ns x i a r k e =
    let parts = r (pairs_rise ns x a) in
    let lt = slice_get_within ns k x e in
    let is = get_or_from_slice_get ns k x x e in
    elim (below_or_not k i) as (λ _. ⊥) [
      | inl l ↦ not_equal_less (pair_cmp x x) (itself x) (subst (λ z. pair_cmp z x ≡ Less) is (parts.0 k x (omega arith) l))
      | inr l ↦ not_equal_greater (pair_cmp x x) (itself x) (subst (λ z. pair_cmp z x ≡ Greater) is (parts.1 k x l lt))
    ]

-- points and their numbers

abbrev place : List ℕ → ℕ → Place Point
place r a = At (record { returns = r; address = a })

module _ (ls : List (List ℕ)) (ns : List (ℕ × ℕ)) (are : AreSorted ls ns) where
  abbrev ps : List Point
  ps = points_at ls ns

  long : length ps ≡ length ns
  long = points_length ls ns

  pub point_number : (c a : ℕ) (r : List ℕ) → c < length ls → get_or ls c [] ≡ r → Contains ps (record { returns = r; address = a })
      → (k : ℕ) × IsNumber ns c a k
  point_number c a r l e i =
      let m = from_map (point_at ls) ns (record { returns = r; address = a }) i in
      let returns : get_or ls m.0.0 [] ≡ r = ap (λ (z : Point). z.returns) m.2 in
      let address : m.0.1 ≡ a = ap (λ (z : Point). z.address) m.2 in
      let context : m.0.0 ≡ c = one_number ls are.distinct m.0.0 c (are.under m.0 m.1) l (returns ∙ sym e) in
      let is : m.0 ≡ (c, a) = ap (λ z. (z, m.0.1)) context ∙ ap (λ z. (c, z)) address in
      (m.1.0, slice_get-get_or ns m.1.0 m.0 m.1.1 ∙ ap Some (m.1.2 ∙ is))

  number_way : (c a : ℕ) (r : List ℕ) → c < length ls → get_or ls c [] ≡ r → Contains ps (record { returns = r; address = a })
      → (o : Option ℕ) → Answers (IsNumber ns c a) o → (start : Point) (d : Bool)
      → numbered_way ps start d o ≡ way d (place r a) ∷ []
  number_way c a r l e i None none start d = let k = point_number c a r l e i in absurd (none k.0 k.1)
  number_way c a r l e i (Some k) is start d =
      let lt = slice_get_within ns k (c, a) is in
      let at : get_or ps k start ≡ point_at ls (c, a) = get_or_from_slice_get ps k (point_at ls (c, a)) start
      (get_mapped (point_at ls) ns k (c, a) is) in
      ap (λ z. way d z ∷ []) (place_at ps start k (subst (λ m. k < m) (sym long) lt)) ∙ ap (λ z. way d (At z) ∷ []) at
      ∙ ap (λ z. way d (place z a) ∷ []) e

  number_inside : (c a : ℕ) (o : Option ℕ) → Answers (IsNumber ns c a) o → (j : ℕ) → Contains (numbers_in o) j → j ≤ length ps
  number_inside c a None none j i = absurd (in_none j i)
  number_inside c a (Some k) is j i =
      let lt = slice_get_within ns k (c, a) is in
      let e = in_one k j i in
      let same = long in
      omega (arith, lt, e, same)

  skipped_ways_are : (c : ℕ) (other : Option ℕ) → c < length ls → LeadInto ps (skipped_way (get_or ls c []) other) → (o : Option ℕ)
      → IsSkippedNumber ns c other o → (start : Point) → numbered_way ps start false o ≡ skipped_way (get_or ls c []) other
  skipped_ways_are c None l all o is start = ap (numbered_way ps start false) is
  skipped_ways_are c (Some a) l all o is start =
      number_way c a (get_or ls c []) l refl (all false (record { returns = get_or ls c []; address = a })
      (here (way false (place (get_or ls c []) a)) [])) o is start false

  skipped_inside : (c : ℕ) (other o : Option ℕ) → IsSkippedNumber ns c other o → (j : ℕ) → Contains (numbers_in o) j → j ≤ length ps
  skipped_inside c None o is j i = absurd (in_none j (subst (λ z. Contains (numbers_in z) j) is i))
  skipped_inside c (Some a) o is j i = number_inside c a o is j i

  both_inside : (done skip : Option ℕ) → ((j : ℕ) → Contains (numbers_in done) j → j ≤ length ps)
      → ((j : ℕ) → Contains (numbers_in skip) j → j ≤ length ps) → (j : ℕ) → Contains (numbers_in done ++ numbers_in skip) j
      → j ≤ length ps
  both_inside done skip f g j i =
      elim (Contains-append_cases (numbers_in done) (numbers_in skip) j i) as (λ _. j ≤ length ps) [
        | inl m ↦ f j m
        | inr m ↦ g j m
      ]

  rest_in : (w : Way Point) (ws : List (Way Point)) → LeadInto ps (w ∷ ws) → LeadInto ps ws
  rest_in w ws all d q i = all d q (there w (way d (At q)) ws i)

  -- a way done to a point, and one skipped
  pub two_targets_are : (c t a : ℕ) (r : List ℕ) (other done skip : Option ℕ) → c < length ls → t < length ls → get_or ls t [] ≡ r
      → LeadInto ps (way true (place r a) ∷ skipped_way (get_or ls c []) other)
      → Answers (IsNumber ns t a) done → IsSkippedNumber ns c other skip
      → HasTargets ps (way true (place r a) ∷ skipped_way (get_or ls c []) other) (record { done = done; skipped = skip })
  two_targets_are c t a r other done skip l m e all x y =
      let point : Contains ps (record { returns = r; address = a }) = all true (record { returns = r; address = a })
      (here (way true (place r a)) (skipped_way (get_or ls c []) other)) in
      record {
        ways = λ start.
            sym (ap (λ zs. zs ++ numbered_way ps start false skip) (number_way t a r m e point done x start true)
            ∙ ap (λ zs. way true (place r a) ∷ zs) (skipped_ways_are c other l
            (rest_in (way true (place r a)) (skipped_way (get_or ls c []) other) all) skip y start));
        inside = both_inside done skip (number_inside t a done x) (skipped_inside c other skip y);
      }

  -- out of the function
  pub exit_targets : (c : ℕ) (other done skip : Option ℕ) → c < length ls → done ≡ Some (length ns)
      → LeadInto ps (way true Exit ∷ skipped_way (get_or ls c []) other) → IsSkippedNumber ns c other skip
      → HasTargets ps (way true Exit ∷ skipped_way (get_or ls c []) other) (record { done = done; skipped = skip })
  exit_targets c other done skip l e all y =
      let last : done ≡ Some (length ps) = e ∙ ap Some (sym long) in
      record {
        ways = λ start.
            sym (ap (λ o. numbered_way ps start true o ++ numbered_way ps start false skip) last
            ∙ ap (λ zs. (way true zs ∷ []) ++ numbered_way ps start false skip) (place_exit ps start)
            ∙ ap (λ zs. way true Exit ∷ zs) (skipped_ways_are c other l
            (rest_in (way true Exit) (skipped_way (get_or ls c []) other) all) skip y start));
        inside =
            both_inside done skip (λ j i. let same = in_one (length ps) j (subst (λ o. Contains (numbers_in o) j) last i) in omega
            (arith, same)) (skipped_inside c other skip y);
      }

  pub call_known : (r : List ℕ) (a : ℕ) (ws : List (Way Point)) → LeadInto ps (way true (place r a) ∷ ws)
      → ((k : ℕ) → slice_get ls k ≡ Some r → ⊥) → ⊥
  call_known r a ws all none =
      let m = from_map (point_at ls) ns (record { returns = r; address = a })
      (all true (record { returns = r; address = a }) (here (way true (place r a)) ws)) in
      none m.0.0 (slice_get-get_or ls m.0.0 [] (are.under m.0 m.1) ∙ ap (λ (z : Point). Some z.returns) m.2)

  pub some_child : (k : ℕ) (r : List ℕ) → slice_get ls k ≡ Some r → (k < length ls) × (get_or ls k [] ≡ r)
  some_child k r e = (slice_get_within ls k r e, get_or_from_slice_get ls k r [] e)

pub back_to : (l xs : List ℕ) (r : ℕ) → l ≡ xs ++ r ∷ [] → way true (return_place (last_return l) l) ≡ way true (place xs r)
back_to l xs r e =
    let b = last_back xs r in
    ap (λ zs. way true (return_place (last_return zs) zs)) e ∙ ap (λ o. way true (return_place o (xs ++ r ∷ []))) b.0
    ∙ ap (λ zs. way true (place zs r)) b.1

pub back_out : (l : List ℕ) → l ≡ [] → way true (return_place (last_return l) l) ≡ way true Exit
back_out l e = ap (λ zs. way true (return_place (last_return zs) zs)) e

pub no_targets : {A : Type 0} (qs : List A) → HasTargets qs [] (record { done = None; skipped = None })
no_targets qs = record { ways = λ start. refl; inside = λ j i. absurd (in_none j i) }

-- by the control of the instruction
module _ (ps : List Point) (image : ImageValue) (entry : ℕ) (p : Point) where
  by_control : (k : Control) → control_of image p.address ≡ k → ways_by (calls image) entry p.returns k ≡ ways_from image entry p
  by_control k e = ap (λ z. ways_by (calls image) entry p.returns z) (sym e) ∙ ways_fit image entry p

  pub closed_at : (k : Control) → control_of image p.address ≡ k → LeadInto ps (ways_from image entry p)
      → LeadInto ps (ways_by (calls image) entry p.returns k)
  closed_at k e all = subst (λ (zs : List (Way Point)). LeadInto ps zs) (sym (by_control k e)) all

  pub targets_at : (k : Control) (a : Targets) → control_of image p.address ≡ k
      → HasTargets ps (ways_by (calls image) entry p.returns k) a → HasTargets ps (ways_from image entry p) a
  targets_at k a e w = subst (λ (zs : List (Way Point)). HasTargets ps zs a) (by_control k e) w

  module _ (t a : ℕ) (o : Option ℕ) (e : control_of image p.address ≡ control.Call t a o) where
    abbrev called : List (Way Point)
    called = way true (place (p.returns ++ a ∷ []) t) ∷ skipped_way p.returns o

    pub closed_call : is_open (calls image) entry p.returns t ≡ false → LeadInto ps (ways_from image entry p) → LeadInto ps called
    closed_call f all =
        subst (λ (zs : List (Way Point)). LeadInto ps zs) (cond-false (is_open (calls image) entry p.returns t) [] called f)
        (closed_at (control.Call t a o) e all)

    pub targets_of_call : (x : Targets) → is_open (calls image) entry p.returns t ≡ false → HasTargets ps called x
        → HasTargets ps (ways_from image entry p) x
    targets_of_call x f w =
        targets_at (control.Call t a o) x e
        (subst (λ (zs : List (Way Point)). HasTargets ps zs x) (sym (cond-false (is_open (calls image) entry p.returns t) [] called f)) w)

    pub targets_of_recursion : is_open (calls image) entry p.returns t ≡ true
        → HasTargets ps (ways_from image entry p) (record { done = None; skipped = None })
    targets_of_recursion f =
        targets_at (control.Call t a o) (record { done = None; skipped = None }) e
        (subst (λ (zs : List (Way Point)). HasTargets ps zs (record { done = None; skipped = None }))
        (sym (cond-true (is_open (calls image) entry p.returns t) [] called f)) (no_targets ps))

pub fault_by_control : (image : ImageValue) (entry : ℕ) (p : Point) (k : Control) → control_of image p.address ≡ k
    → fault_by (calls image) entry p.returns k ≡ fault_at image entry p
fault_by_control image entry p k e = ap (λ z. fault_by (calls image) entry p.returns z) (sym e) ∙ faults_fit image entry p
