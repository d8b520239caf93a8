-- What two states realise their join realises, and what each point's state then says.
use Rattle.std.proofs.Common.{◌≡◌, refl, sym, ap, ◌∙◌, subst, ℕ, ◌+◌, ◌⊎◌, inl, inr, Bool, true, false, ℤ, pos, ◌+ℤ◌, ◌≤ℤ◌, arith}
use Rattle.std.specs.Prelude.{◌≢◌, ◌↔◌, ◌==◌, ◌<ℤ◌, ◌&&◌, if◌then◌else◌, int_le, Option, Some, None}
use Rattle.std.specs.Int.{int_max, int_min}
use Rattle.std.specs.Ordering.{int_eq}
use Rattle.std.proofs.lemmas.Bool.{cases_Bool, and_cases, or_parts, cond-true, false≢true}
use Rattle.std.proofs.lemmas.Int.{ints}
use Rattle.std.proofs.lemmas.Option.{same_Some, none-some}
use Rattle.path_facts.specs.declared.origin.Origin.{Origin}
use Rattle.path_facts.specs.declared.origin.Origin.TheVariants as origin
use Rattle.path_facts.specs.Facts.{Fact, Facts, Location, Source, fact_from, offset_from, offset_in, offset_of}
use Rattle.path_facts.specs.Facts.Location.{Register}
use Rattle.fact_lattice.specs.declared.cells.Range.{Range}
use Rattle.fact_lattice.specs.Cells.{AbstractState, Clash, Covers, Ends, Given, IsRealized, Lies, cell_of, is_start_sp, joined, joined_cell}
use Rattle.fact_lattice.specs.Cells.{known_in, may_span, one_offset, only_fact, same_origin, state_of}
use Rattle.fact_lattice.proofs.NumberLemmas.{le_false, eq_true, eq_false, true_eq, same_true, same_false, stacks_same, min_either}
use Rattle.fact_lattice.proofs.NumberLemmas.{max_either}
use Rattle.fact_lattice.proofs.CoverLemmas.{source_lies}
use Rattle.fact_lattice.proofs.RealizedLemmas.{ends_map, source_ends}

-- ---- joins

-- a number that is one of two with a fact of the set has one
either : (W : Option Fact → Type 0) (o : Origin) (a b c : ℤ) → (c ≡ a) ⊎ (c ≡ b) → W (Some (record { origin = o; constant = a })) → W
    (Some (record { origin = o; constant = b })) → W (Some (record { origin = o; constant = c }))
either W o a b c (inl e) w v = subst (λ x. W (Some (record { origin = o; constant = x }))) (sym e) w
either W o a b c (inr e) w v = subst (λ x. W (Some (record { origin = o; constant = x }))) (sym e) v

-- two constants that no cell may hold clash
spans_not : (stack : ℕ) (o : Origin) (a b : ℤ) → may_span stack o a b ≡ false → Clash stack (Some (record { origin = o; constant = a }))
    (Some (record { origin = o; constant = b }))
spans_not stack o a b e =
    let p = or_parts (int_eq a b) (is_start_sp o && int_le b (a +ℤ pos (stack + 64))) e in
    elim (and_cases (is_start_sp o) (int_le b (a +ℤ pos (stack + 64))) p.1) as
    (λ _. Clash stack (Some (record { origin = o; constant = a })) (Some (record { origin = o; constant = b }))) [
      | inl s ↦ inr (inl (s, eq_false a b p.0))
      | inr l ↦ inr (inr (le_false b (a +ℤ pos (stack + 64)) l))
    ]

range_ends : (stack : ℕ) (W : Option Fact → Type 0) (r q : Range) (a b : Bool)
    → a ≡ same_origin r.origin q.origin → b ≡ may_span stack r.origin (int_min r.low q.low) (int_max r.high q.high)
    → Ends stack W (Some r) → Ends stack W (Some q)
    → Ends stack W (if a && b then Some (record { origin = r.origin; low = int_min r.low q.low; high = int_max r.high q.high }) else None)
range_ends stack W r q true b s l e f =
    let o = same_true r.origin q.origin (sym s) in
    let low = either W r.origin r.low q.low (int_min r.low q.low) (min_either r.low q.low) e.0
    (subst (λ x. W (Some (record { origin = x; constant = q.low }))) (sym o) f.0) in
    let high = either W r.origin r.high q.high (int_max r.high q.high) (max_either r.high q.high) e.1
    (subst (λ x. W (Some (record { origin = x; constant = q.high }))) (sym o) f.1) in
    spanned b l low high where
      spanned : (b : Bool) → b ≡ may_span stack r.origin (int_min r.low q.low) (int_max r.high q.high)
          → W (Some (record { origin = r.origin; constant = int_min r.low q.low })) → W
          (Some (record { origin = r.origin; constant = int_max r.high q.high }))
          → Ends stack W (if b then Some (record { origin = r.origin; low = int_min r.low q.low; high = int_max r.high q.high }) else None)
      spanned true l low high = (low, high)
      spanned false l low high = (
        Some (record { origin = r.origin; constant = int_min r.low q.low }),
        Some
            (record { origin = r.origin; constant = int_max r.high q.high }),
        low,
        high,
        spans_not stack r.origin (int_min r.low q.low)
            (int_max r.high q.high) (sym l),
      )
range_ends stack W r q false b s l e f = (
  Some (record { origin = r.origin; constant = r.low }),
  Some (record { origin = q.origin; constant = q.low }),
  e.0,
  f.0,
  inl
      (same_false r.origin q.origin (sym s)),
)

pub joined_ends : (stack : ℕ) (W : Option Fact → Type 0) (c d : Option Range) → Ends stack W c → Ends stack W d → Ends stack W
    (joined_cell stack c d)
joined_ends stack W None d e f = e
joined_ends stack W (Some r) None e f = f
joined_ends stack W (Some r) (Some q) e f =
    range_ends stack W r q (same_origin r.origin q.origin)
    (may_span stack r.origin (int_min r.low q.low) (int_max r.high q.high)) refl refl e f

given_more : (T U : Facts → Type 0) → ((f : Facts) → T f → U f) → (p : Location) (v : Option Fact) → Given T p v → Given U p v
given_more T U h p v g = (g.0, h g.0 g.1, g.2)

pub real_joined : (stack : ℕ) (T S U : Facts → Type 0) (m n : AbstractState) → IsRealized stack T m → IsRealized stack S n
    → ((f : Facts) → U f → Covers (joined stack m n) f) → ((f : Facts) → T f → U f) → ((f : Facts) → S f → U f)
    → IsRealized stack U (joined stack m n)
real_joined stack T S U m n a b covers left right =
    record {
      covers = covers;
      cells = λ p.
          joined_ends stack (Given U p) (m.cell p) (n.cell p)
          (ends_map stack (Given T p) (Given U p) (given_more T U left p) (m.cell p) (a.cells p))
          (ends_map stack (Given S p) (Given U p) (given_more S U right p) (n.cell p) (b.cells p));
      marks = λ k e.
          elim (and_cases (m.marked k) (n.marked k) e) as (λ _. (f : Facts) × U f × (f.marked k ≡ false)) [
            | inl x ↦ let g = a.marks k x in (g.0, left g.0 g.1, g.2)
            | inr y ↦ let g = b.marks k y in (g.0, right g.0 g.1, g.2)
          ];
    }

-- ---- the start

only_ends : (stack : ℕ) (W : Option Fact → Type 0) (v : Option Fact) → W v → Ends stack W (only_fact v)
only_ends stack W None w = (None, None, w, w, tt)
only_ends stack W (Some f) w = (w, w)

only_lies : (v : Option Fact) → Lies (only_fact v) v
only_lies None = tt
only_lies (Some f) = (refl, omega (arith, ints), omega (arith, ints))

pub start_covers : (f : Facts) → Covers (state_of f) f
start_covers f = record { facts = λ p. only_lies (f.fact p); marks = λ k e. e }

pub start_real : (stack : ℕ) (T : Facts → Type 0) (f : Facts) → T f → ((g : Facts) → T g → Covers (state_of f) g) → IsRealized stack T
    (state_of f)
start_real stack T f t covers =
    record {
      covers = covers;
      cells = λ p. only_ends stack (Given T p) (f.fact p) (f, t, refl);
      marks = λ k e. (f, t, e);
    }

-- ---- what a cell says

clash_not : (stack : ℕ) (k : Fact) (v w : Option Fact) → Clash stack v w → v ≡ Some k → w ≡ Some k → ⊥
clash_not stack k None w h e f = none-some k e
clash_not stack k (Some x) None h e f = none-some k f
clash_not stack k (Some x) (Some y) (inl o) e f = o (ap (λ z. z.origin) (same_Some x k e ∙ sym (same_Some y k f)))
clash_not stack k (Some x) (Some y) (inr (inl s)) e f = s.1 (ap (λ z. z.constant) (same_Some x k e ∙ sym (same_Some y k f)))
clash_not stack k (Some x) (Some y) (inr (inr l)) e f = let s : x.constant ≡ y.constant = ap (λ z. z.constant)
    (same_Some x k e ∙ sym (same_Some y k f)) in omega (arith, ints, l, s)

pub exact_to : (stack : ℕ) (W : Option Fact → Type 0) (k : Fact) (c : Option Range) → Ends stack W c →
    ((v : Option Fact) → W v → v ≡ Some k) → known_in c ≡ Some k
exact_to stack W k None e h = absurd (clash_not stack k e.0 e.1 e.4 (h e.0 e.2) (h e.1 e.3))
exact_to stack W k (Some r) e h =
    let low = same_Some (record { origin = r.origin; constant = r.low }) k
    (h (Some (record { origin = r.origin; constant = r.low })) e.0) in
    let high = same_Some (record { origin = r.origin; constant = r.high }) k
    (h (Some (record { origin = r.origin; constant = r.high })) e.1) in
    let one : r.low ≡ r.high = ap (λ z. z.constant) (low ∙ sym high) in
    cond-true (int_eq r.low r.high) (Some (record { origin = r.origin; constant = r.low })) None (true_eq r.low r.high one) ∙ ap Some low

between_one : (a b c : ℤ) → a ≡ b → a ≤ℤ c → c ≤ℤ b → c ≡ a
between_one a b c e h k = omega (arith, ints, e, h, k)

same_fact : (f g : Fact) → f.origin ≡ g.origin → f.constant ≡ g.constant → f ≡ g
same_fact f g e d = λ j. record { origin = e j; constant = d j }

known_is : (r : Range) (k f : Fact) (b : Bool) → b ≡ int_eq r.low r.high →
    (if b then Some (record { origin = r.origin; constant = r.low }) else None) ≡ Some k → Lies (Some r) (Some f) → f ≡ k
known_is r k f true b e l =
    let c = between_one r.low r.high f.constant (eq_true r.low r.high (sym b)) l.1 l.2 in
    same_fact f (record { origin = r.origin; constant = r.low }) l.0 c ∙ same_Some (record { origin = r.origin; constant = r.low }) k e
known_is r k f false b e l = absurd (none-some k e)

pub exact_from : (k : Fact) (c : Option Range) (v : Option Fact) → known_in c ≡ Some k → Lies c v → v ≡ Some k
exact_from k None v e l = absurd (none-some k e)
exact_from k (Some r) None e l = absurd l
exact_from k (Some r) (Some f) e l = ap Some (known_is r k f (int_eq r.low r.high) refl e l)

-- what is known is what all paths give
pub known_exact : (stack : ℕ) (T : Facts → Type 0) (m : AbstractState) (p : Location) (k : Fact) → IsRealized stack T m →
    (known_in (m.cell p) ≡ Some k) ↔ ((f : Facts) → T f → f.fact p ≡ Some k)
known_exact stack T m p k real = (
  λ e f t. exact_from k (m.cell p) (f.fact p) e ((real.covers f t).facts p),
  λ h. exact_to stack (Given T p) k (m.cell p) (real.cells p) (λ v g. sym g.2 ∙ h g.0 g.1),
)

-- the same of what a source gives
pub source_exact : (stack : ℕ) (T : Facts → Type 0) (m : AbstractState) (s : Source) (k : Fact) → IsRealized stack T m →
    (known_in (cell_of m s) ≡ Some k) ↔ ((f : Facts) → T f → fact_from f s ≡ Some k)
source_exact stack T m s k real = (
  λ e f t. exact_from k (cell_of m s) (fact_from f s) e (source_lies m f (real.covers f t) s),
  λ h. exact_to stack (λ v. (f : Facts) × T f × (fact_from f s ≡ v)) k (cell_of m s)
      (source_ends stack T m real s (λ v. (f : Facts) × T f × (fact_from f s ≡ v)) (λ f t. (f, t, refl))) (λ v g. sym g.2 ∙ h g.0 g.1),
)

pub kept_exact : (stack : ℕ) (T : Facts → Type 0) (m : AbstractState) (k : ℕ) → IsRealized stack T m → (m.marked k ≡ true) ↔
    ((f : Facts) → T f → f.marked k ≡ true)
kept_exact stack T m k real = (
  λ e f t. (real.covers f t).marks k e,
  λ h. elim (cases_Bool (m.marked k)) as (λ _. m.marked k ≡ true) [
    | inl a ↦ a
    | inr b ↦ let g = real.marks k b in absurd (false≢true (sym g.2 ∙ h g.0 g.1))
  ],
)

-- ---- the stack pointer

-- the first isn't known, or the second is another one
abbrev pub Differ : Option ℤ → Option ℤ → Type 0
Differ o q = (o ≡ None) ⊎ (o ≢ q)

if_nothing : (b : Bool) (c : ℤ) → b ≡ false → (if b then Some c else None) ≡ None
if_nothing true c e = absurd (false≢true (sym e))
if_nothing false c e = refl

from_nothing : (o : Origin) (c : ℤ) → is_start_sp o ≡ false → offset_from o c ≡ None
from_nothing origin.Zero c e = refl
from_nothing (origin.AtStart r) c e = if_nothing (r == 13) c e

-- an offset, where the other one isn't known
other_nothing : (o q : Option ℤ) → q ≡ None → Differ o q
other_nothing None q e = inl refl
other_nothing (Some x) q e = inr (λ s. none-some x (sym e ∙ sym s))

if_apart : (b : Bool) (x y : ℤ) → x ≢ y → Differ (if b then Some x else None) (if b then Some y else None)
if_apart true x y h = inr (λ s. h (same_Some x y s))
if_apart false x y h = inl refl

if_both : (a b : Bool) (x y : ℤ) → x ≢ y → Differ (if a then Some x else None) (if b then Some y else None)
if_both true true x y h = inr (λ s. h (same_Some x y s))
if_both true false x y h = inr (λ s. none-some x (sym s))
if_both false b x y h = inl refl

from_apart : (o q : Origin) (x y : ℤ) → x ≢ y → Differ (offset_from o x) (offset_from q y)
from_apart origin.Zero q x y h = inl refl
from_apart (origin.AtStart r) origin.Zero x y h = other_nothing (offset_from (origin.AtStart r) x) None refl
from_apart (origin.AtStart r) (origin.AtStart q) x y h = if_both (r == 13) (q == 13) x y h

far_apart : (stack : ℕ) (a b : ℤ) → (a +ℤ pos (stack + 64)) <ℤ b → a ≢ b
far_apart stack a b h e = omega (arith, ints, h, e)

pub clash_differs : (stack : ℕ) (v w : Option Fact) → Clash stack v w → Differ (offset_in v) (offset_in w)
clash_differs stack None w h = inl refl
clash_differs stack (Some f) None h = other_nothing (offset_in (Some f)) None refl
clash_differs stack (Some f) (Some g) (inl o) =
    elim (cases_Bool (is_start_sp f.origin)) as (λ _. Differ (offset_in (Some f)) (offset_in (Some g))) [
      | inl a ↦
          elim (cases_Bool (is_start_sp g.origin)) as (λ _. Differ (offset_in (Some f)) (offset_in (Some g))) [
            | inl b ↦ absurd (o (stacks_same f.origin g.origin a b))
            | inr b ↦ other_nothing (offset_in (Some f)) (offset_in (Some g)) (from_nothing g.origin g.constant b)
          ]
      | inr a ↦ inl (from_nothing f.origin f.constant a)
    ]
clash_differs stack (Some f) (Some g) (inr (inl s)) = inl (from_nothing f.origin f.constant s.0)
clash_differs stack (Some f) (Some g) (inr (inr l)) = from_apart f.origin g.origin f.constant g.constant
    (far_apart stack f.constant g.constant l)

-- a cell that isn't one constant over the start's r13 has two facts that differ
lost_range : (stack : ℕ) (W : Option Fact → Type 0) (r : Range) (b : Bool) → b ≡ int_eq r.low r.high
    → offset_in (if b then Some (record { origin = r.origin; constant = r.low }) else None) ≡ None → Ends stack W (Some r)
    → (v : Option Fact) × (w : Option Fact) × W v × W w × Differ (offset_in v) (offset_in w)
lost_range stack W r true b e h =
    (Some (record { origin = r.origin; constant = r.low }), Some (record { origin = r.origin; constant = r.low }), h.0, h.0, inl e)
lost_range stack W r false b e h = (
  Some (record { origin = r.origin; constant = r.low }),
  Some (record { origin = r.origin; constant = r.high }),
  h.0,
  h.1,
  from_apart r.origin r.origin r.low r.high (eq_false r.low r.high (sym b)),
)

pub lost_cell : (stack : ℕ) (W : Option Fact → Type 0) (c : Option Range) → offset_in (known_in c) ≡ None → Ends stack W c
    → (v : Option Fact) × (w : Option Fact) × W v × W w × Differ (offset_in v) (offset_in w)
lost_cell stack W None e h = (h.0, h.1, h.2, h.3, clash_differs stack h.0 h.1 h.4)
lost_cell stack W (Some r) e h = lost_range stack W r (int_eq r.low r.high) refl e h

pub lost_is_true : (stack : ℕ) (T : Facts → Type 0) (m : AbstractState) → IsRealized stack T m → one_offset m ≡ None
    → (f : Facts) × (g : Facts) × T f × T g × Differ (offset_of f) (offset_of g)
lost_is_true stack T m real e =
    let x = lost_cell stack (Given T (Register 13)) (m.cell (Register 13)) e (real.cells (Register 13)) in (
      x.2.0,
      x.3.0,
      x.2.1,
      x.3.1,
      subst (λ v. Differ (offset_in v) (offset_of x.3.0)) (sym x.2.2) (subst (λ w. Differ (offset_in x.0) (offset_in w)) (sym x.3.2) x.4),
    )

-- ---- a return that isn't proved

origin_cases : (o q : Origin) → (o ≡ q) ⊎ (o ≢ q)
origin_cases o q = elim (cases_Bool (same_origin o q)) as
    (λ _. (o ≡ q) ⊎ (o ≢ q)) [ inl a ↦ inl (same_true o q a) | inr b ↦ inr (same_false o q b) ]

number_cases : (a b : ℤ) → (a ≡ b) ⊎ (a ≢ b)
number_cases a b = elim (cases_Bool (int_eq a b)) as (λ _. (a ≡ b) ⊎ (a ≢ b)) [ inl t ↦ inl (eq_true a b t) | inr f ↦ inr (eq_false a b f) ]

fact_cases : (v : Option Fact) (k : Fact) → (v ≡ Some k) ⊎ (v ≢ Some k)
fact_cases None k = inr (λ e. none-some k e)
fact_cases (Some f) k =
    elim (origin_cases f.origin k.origin) as (λ _. (Some f ≡ Some k) ⊎ (Some f ≢ Some k)) [
      | inl o ↦
          elim (number_cases f.constant k.constant) as (λ _. (Some f ≡ Some k) ⊎ (Some f ≢ Some k)) [
            | inl c ↦ inl (ap Some (same_fact f k o c))
            | inr n ↦ inr (λ e. n (ap (λ z. z.constant) (same_Some f k e)))
          ]
      | inr n ↦ inr (λ e. n (ap (λ z. z.origin) (same_Some f k e)))
    ]

range_known : (r : Range) (k : Fact) → Some (record { origin = r.origin; constant = r.low }) ≡ Some k → Some
    (record { origin = r.origin; constant = r.high }) ≡ Some k → known_in (Some r) ≡ Some k
range_known r k low high =
    let l = same_Some (record { origin = r.origin; constant = r.low }) k low in
    let h = same_Some (record { origin = r.origin; constant = r.high }) k high in
    cond-true (int_eq r.low r.high) (Some (record { origin = r.origin; constant = r.low })) None
    (true_eq r.low r.high (ap (λ z. z.constant) (l ∙ sym h))) ∙ low

-- a cell that isn't one fact has a path that doesn't give it
pub other_fact : (stack : ℕ) (W : Option Fact → Type 0) (k : Fact) (c : Option Range) → Ends stack W c → known_in c ≢ Some k →
    (v : Option Fact) × W v × (v ≢ Some k)
other_fact stack W k None e h =
    elim (fact_cases e.0 k) as (λ _. (v : Option Fact) × W v × (v ≢ Some k)) [
      | inl s ↦ (e.1, e.3, λ t. clash_not stack k e.0 e.1 e.4 s t)
      | inr n ↦ (e.0, e.2, n)
    ]
other_fact stack W k (Some r) e h =
    elim (fact_cases (Some (record { origin = r.origin; constant = r.low })) k) as (λ _. (v : Option Fact) × W v × (v ≢ Some k)) [
      | inl s ↦ (Some (record { origin = r.origin; constant = r.high }), e.1, λ t. h (range_known r k s t))
      | inr n ↦ (Some (record { origin = r.origin; constant = r.low }), e.0, n)
    ]

pub unproved_is_true : (stack : ℕ) (T : Facts → Type 0) (m : AbstractState) (s : Source) (k : Fact) → IsRealized stack T m → known_in
    (cell_of m s) ≢ Some k → (f : Facts) × T f × (fact_from f s ≢ Some k)
unproved_is_true stack T m s k real h =
    let W = λ (v : Option Fact). (f : Facts) × T f × (fact_from f s ≡ v) in
    let x = other_fact stack W k (cell_of m s) (source_ends stack T m real s W (λ f t. (f, t, refl))) h in
    (x.1.0, x.1.1, subst (λ v. v ≢ Some k) (sym x.1.2) x.2)
