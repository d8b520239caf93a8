-- One function has one graph, or one refusal.
use Rattle.std.proofs.Common.{◌≡◌, refl, sym, ap, ◌∙◌, subst, ℕ, zero, suc, ◌<◌, inl, inr, Bool, true, false, List, [], ◌∷◌, length}
use Rattle.std.proofs.Common.{get_or, map, arith}
use Rattle.std.specs.Prelude.{Contains, Option, Some, None, slice_get}
use Rattle.std.specs.Str.{bytes_eq}
use Rattle.std.proofs.lemmas.Option.{slice_get-get_or, slice_get_within, get_or_from_slice_get}
use Rattle.arm_isa.specs.declared.instruction.Insn.{Insn}
use Rattle.graph_search.specs.NodeLists.{Distinct}
use Rattle.control_flow.specs.declared.control.Fault.{Fault}
use Rattle.control_flow.specs.Points.{Point}
use Rattle.basic_blocks.specs.PointOrder.{Before}
use Rattle.control_flow.specs.Routes.{Way}
use Rattle.basic_blocks.specs.Blocks.{Chain, points, Ascending, by_first}
use Rattle.point_order.specs.Families.{Lower}
use Rattle.control_flow.specs.Ways.{fault_at}
use Rattle.point_tables.specs.Faults.{fault_number, NotAfter}
use Rattle.function_points.proofs.MemberLemmas.{here, there}
use Rattle.basic_blocks.proofs.NumberLemmas.{ascending_at}
use Rattle.point_order.proofs.FamilyLemmas.{three}
use Rattle.point_order.proofs.PlaceLemmas.{at_place, from_mapped, get_mapped, lower_apart, one_some}
use Rattle.basic_blocks.proofs.AgreementLemmas.{equal_ascending, one_cut, before_apart}
use Rattle.function_points.proofs.ContextLemmas.{list_equality, one_place, same_rows}
use Rattle.flow_graph.specs.declared.graph.Context.{Context}
use Rattle.flow_graph.specs.declared.graph.GraphPoint.{GraphPoint}
use Rattle.flow_graph.specs.declared.graph.Block.{Block}
use Rattle.flow_graph.specs.declared.graph.BlockGraph.{BlockGraph}
use Rattle.flow_graph.specs.declared.graph.GraphRefusal.{GraphRefusal}
use Rattle.flow_graph.specs.Graphs.{refusal_for, context_row, rows_of, returns_in, graph_point, graph_points, IsGraphPoint, IsNext}
use Rattle.flow_graph.specs.Graphs.{IsGraphBy, AreTooMany, IsFaulty, IsSound, IsRefusedGraph, IsGraphOf}
use Rattle.elf32_image.specs.Parts.{ImageValue}
use Rattle.control_flow.specs.declared.control.Fault.TheVariants as fault
use Rattle.flow_graph.specs.declared.graph.GraphRefusal.TheVariants as why

less_apart : (i j : ℕ) → i < j → j < i → ⊥
less_apart i j a b = omega (arith, a, b)

-- a map that is_flagged members apart
map_same : {A B : Type 0} (f : A → B) (P : A → Type 0) → ((x y : A) → P x → P y → f x ≡ f y → x ≡ y) → (xs ys : List A)
    → ((x : A) → Contains xs x → P x) → ((y : A) → Contains ys y → P y) → map f xs ≡ map f ys → xs ≡ ys
map_same f P one [] [] a b e = refl
map_same f P one [] (y ∷ ys) a b e = absurd (cc)
map_same f P one (x ∷ xs) [] a b e = absurd (cc)
map_same f P one (x ∷ xs) (y ∷ ys) a b e =
    let first : f x ≡ f y = cc in
    let rest : map f xs ≡ map f ys = cc in
    ap (λ z. z ∷ xs) (one x y (a x (here x xs)) (b y (here y ys)) first)
    ∙ ap (λ zs. y ∷ zs) (map_same f P one xs ys (λ z i. a z (there x z xs i)) (λ z i. b z (there y z ys i)) rest)

same_true : (a b : Bool) → (a ≡ true → b ≡ true) → (b ≡ true → a ≡ true) → a ≡ b
same_true true b f g = sym (f refl)
same_true false true f g = g refl
same_true false false f g = refl

context_same : (c d : Context) → context_row c ≡ context_row d → c ≡ d
context_same c d e = ap (λ (z : ℕ × ℕ). record { parent = z.0; return_address = z.1 }) e

same_contexts : (cs ds : List Context) → map context_row cs ≡ map context_row ds → cs ≡ ds
same_contexts cs ds e = map_same context_row (λ c. Unit {0}) (λ x y p q f. context_same x y f) cs ds (λ x i. tt) (λ x i. tt) e

-- lists with the same members at their places
pub same_places : {A : Type 0} (xs ys : List A) → ((k : ℕ) (x : A) → slice_get xs k ≡ Some x → slice_get ys k ≡ Some x)
    → ((k : ℕ) (y : A) → slice_get ys k ≡ Some y → slice_get xs k ≡ Some y) → xs ≡ ys
same_places [] [] f g = refl
same_places [] (y ∷ ys) f g = let e = g 0 y refl in absurd (cc)
same_places (x ∷ xs) [] f g = let e = f 0 x refl in absurd (cc)
same_places (x ∷ xs) (y ∷ ys) f g =
    let e : Some y ≡ Some x = f 0 x refl in
    let same : x ≡ y = cc in
    ap (λ z. z ∷ xs) same ∙ ap (λ zs. y ∷ zs) (same_places xs ys (λ k z h. f (suc k) z h) (λ k z h. g (suc k) z h))

-- blocks in order have one place each
pub one_first : (cs : List (Chain Point)) (i j : ℕ) (c d : Chain Point) → Ascending (by_first Before) cs → slice_get cs i ≡ Some c
    → slice_get cs j ≡ Some d → c.first ≡ d.first → i ≡ j
one_first cs i j c d a e f s =
    elim (three i j) as (λ _. i ≡ j) [
      | inl l ↦ absurd (twice c d s (up i j c d e f l))
      | inr n ↦
          elim n as (λ _. i ≡ j) [
            | inl same ↦ same
            | inr l ↦ absurd (twice d c (sym s) (up j i d c f e l))
          ]
    ]
  where
    twice : (c d : Chain Point) → c.first ≡ d.first → Before c.first d.first → ⊥
    twice c d s b = let k = subst (λ z. Before z d.first) s b in before_apart d.first d.first k k

    up : (i j : ℕ) (c d : Chain Point) → slice_get cs i ≡ Some c → slice_get cs j ≡ Some d → i < j → Before c.first d.first
    up i j c d e f l =
        subst (λ (z : Chain Point). Before z.first d.first) (get_or_from_slice_get cs i c c e)
        (subst (λ (z : Chain Point). Before (get_or cs i c).first z.first) (get_or_from_slice_get cs j d c f)
        (ascending_at (by_first Before) cs c i j a l (slice_get_within cs j d f)))

module _ (ways : Point → List (Way Point)) (insns : ℕ → Option Insn) (start : Point) where
  -- contexts

  lists_same : (g h : BlockGraph) → IsGraphBy ways insns start g → IsGraphBy ways insns start h
      → returns_in g.contexts ≡ returns_in h.contexts
  lists_same g h a b =
      equal_ascending Lower lower_apart (returns_in g.contexts) (returns_in h.contexts) a.rising b.rising
      (λ l i. (b.lists l).1 ((a.lists l).0 i)) (λ l i. (a.lists l).1 ((b.lists l).0 i))

  contexts_same : (g h : BlockGraph) → IsGraphBy ways insns start g → IsGraphBy ways insns start h → g.contexts ≡ h.contexts
  contexts_same g h a b =
      let rows = same_rows (rows_of g.contexts) (rows_of h.contexts) a.rows.0 b.rows.0 a.rows.1 b.rows.1 (lists_same g h a b) in
      let e = ap rows_of a.first.1 in
      let f = ap rows_of b.first.1 in
      a.first.1 ∙ ap (λ zs. record { parent = 0; return_address = 0 } ∷ zs) (same_contexts a.first.0 b.first.0 (sym e ∙ rows ∙ f))
      ∙ sym b.first.1

  -- points

  point_same : (ls : List (List ℕ)) → Distinct bytes_eq ls → (p q : GraphPoint) → IsGraphPoint ls insns p → IsGraphPoint ls insns q
      → graph_point ls p ≡ graph_point ls q → p ≡ q
  point_same ls d p q a b e =
      let returns : get_or ls p.context [] ≡ get_or ls q.context [] = ap (λ (z : Point). z.returns) e in
      let address : p.address ≡ q.address = ap (λ (z : Point). z.address) e in
      let context = one_place list_equality ls p.context q.context (get_or ls q.context []) d
      (slice_get-get_or ls p.context [] a.0 ∙ ap Some returns) (slice_get-get_or ls q.context [] b.0) in
      let insn : p.insn ≡ q.insn = one_some p.insn q.insn (insns q.address) (ap insns (sym address) ∙ a.1) b.1 in
      ap (λ z. record { context = z; address = p.address; insn = p.insn }) context
      ∙ ap (λ z. record { context = q.context; address = z; insn = p.insn }) address
      ∙ ap (λ z. record { context = q.context; address = q.address; insn = z }) insn

  points_same : (ls : List (List ℕ)) → Distinct bytes_eq ls → (ps qs : List GraphPoint)
      → ((p : GraphPoint) → Contains ps p → IsGraphPoint ls insns p) → ((p : GraphPoint) → Contains qs p → IsGraphPoint ls insns p)
      → graph_points ls ps ≡ graph_points ls qs → ps ≡ qs
  points_same ls d ps qs a b e = map_same (graph_point ls) (IsGraphPoint ls insns) (point_same ls d) ps qs a b e

  -- blocks

  next_same : (bs : List (Chain Point)) (c : Chain Point) (x y : Block) → IsNext ways bs c x → IsNext ways bs c y → x.points ≡ y.points
      → x ≡ y
  next_same bs c x y a b e =
      let next = equal_ascending (λ i j. i < j) less_apart x.next y.next a.ascending b.ascending (λ j i. (b.next j).1 ((a.next j).0 i))
      (λ j i. (a.next j).1 ((b.next j).0 i)) in
      let returns = same_true x.returns y.returns (λ t. b.returns.1 (a.returns.0 t)) (λ t. a.returns.1 (b.returns.0 t)) in
      ap (λ z. record { points = z; next = x.next; returns = x.returns }) e
      ∙ ap (λ z. record { points = y.points; next = z; returns = x.returns }) next
      ∙ ap (λ z. record { points = y.points; next = y.next; returns = z }) returns

  chains_same : (g h : BlockGraph) (a : IsGraphBy ways insns start g) (b : IsGraphBy ways insns start h) → a.chains ≡ b.chains
  chains_same g h a b = one_cut ways start Before before_apart a.chains b.chains a.blocks b.blocks a.ascending b.ascending

  module _ (g h : BlockGraph) (a : IsGraphBy ways insns start g) (b : IsGraphBy ways insns start h) where
    abbrev ls : List (List ℕ)
    ls = returns_in g.contexts

    distinct : Distinct bytes_eq ls
    distinct = a.rows.1.distinct

    there_too : (k : ℕ) (x : Block) → slice_get g.blocks k ≡ Some x → slice_get h.blocks k ≡ Some x
    there_too k x e =
        let ms = lists_same g h a b in
        let cs = chains_same g h a b in
        let c = from_mapped points a.chains k (graph_points ls x.points)
        (ap (λ zs. slice_get zs k) (sym a.cut) ∙ get_mapped (λ (z : Block). graph_points ls z.points) g.blocks k x e) in
        let d : slice_get b.chains k ≡ Some c.0 = ap (λ zs. slice_get zs k) (sym cs) ∙ c.1 in
        let y = from_mapped (λ (z : Block). graph_points (returns_in h.contexts) z.points) h.blocks k (points c.0)
        (ap (λ zs. slice_get zs k) b.cut ∙ get_mapped points b.chains k c.0 d) in
        let ps : x.points ≡ y.0.points =
        points_same ls distinct x.points y.0.points (λ p i. a.known x p (at_place g.blocks k x e) i)
        (λ p i. subst (λ zs. IsGraphPoint zs insns p) (sym ms) (b.known y.0 p (at_place h.blocks k y.0 y.1) i))
        (sym c.2 ∙ sym y.2 ∙ ap (λ zs. graph_points zs y.0.points) (sym ms)) in
        let same = next_same a.chains c.0 x y.0 (a.next k c.0 x c.1 e)
        (subst (λ zs. IsNext ways zs c.0 y.0) (sym cs) (b.next k c.0 y.0 d y.1)) ps in
        y.1 ∙ ap Some (sym same)

    pruned_same : g.pruned ≡ h.pruned
    pruned_same =
        let ms = lists_same g h a b in
        let both : graph_points ls g.pruned ≡ graph_points (returns_in h.contexts) h.pruned =
        equal_ascending Before before_apart (graph_points ls g.pruned) (graph_points (returns_in h.contexts) h.pruned) a.cast b.cast
        (λ p i. (b.pruned p).1 ((a.pruned p).0 i)) (λ p i. (a.pruned p).1 ((b.pruned p).0 i)) in
        points_same ls distinct g.pruned h.pruned a.kept (λ p i. subst (λ zs. IsGraphPoint zs insns p) (sym ms) (b.kept p i))
        (both ∙ ap (λ zs. graph_points zs h.pruned) (sym ms))

    entry_same : g.entry_block ≡ h.entry_block
    entry_same =
        let cs = chains_same g h a b in
        let c = a.enters in
        let d = b.enters in
        one_first a.chains g.entry_block h.entry_block c.0 d.0 a.ascending c.1 (ap (λ zs. slice_get zs h.entry_block) cs ∙ d.1)
        (c.2 ∙ sym d.2)

  pub one_graph : (g h : BlockGraph) → IsGraphBy ways insns start g → IsGraphBy ways insns start h → g ≡ h
  one_graph g h a b =
      let blocks = same_places g.blocks h.blocks (there_too g h a b) (there_too h g b a) in
      let count : g.block_count ≡ h.block_count = a.count ∙ ap length blocks ∙ sym b.count in
      graph_parts g h (a.entry ∙ sym b.entry) (contexts_same g h a b) blocks count (entry_same g h a b) (pruned_same g h a b)
    where
      graph_parts : (g h : BlockGraph) → g.entry ≡ h.entry → g.contexts ≡ h.contexts → g.blocks ≡ h.blocks
          → g.block_count ≡ h.block_count → g.entry_block ≡ h.entry_block → g.pruned ≡ h.pruned → g ≡ h
      graph_parts g h a b c d e f =
          ap (λ z. record g { entry = z }) a ∙ ap (λ z. record g { entry = h.entry; contexts = z }) b
          ∙ ap (λ z. record g { entry = h.entry; contexts = h.contexts; blocks = z }) c
          ∙ ap (λ z. record g { entry = h.entry; contexts = h.contexts; blocks = h.blocks; block_count = z }) d
          ∙ ap (λ z. record g { entry = h.entry; contexts = h.contexts; blocks = h.blocks; block_count = h.block_count; entry_block = z }) e
          ∙ ap (λ z. record h { pruned = z }) f

-- refusals

module _ (image : ImageValue) (entry : ℕ) where
  some_none : (f : Fault) (o : Option Fault) → o ≡ Some f → o ≡ None → ⊥
  some_none f o a b = cc

  not_sound : (f : Fault) (a : ℕ) → IsFaulty image entry f a → IsSound image entry → ⊥
  not_sound f a w s = some_none f (fault_at image entry w.1.at) w.1.is (s.1 w.1.at w.1.there)

  at_once : (k j a b : ℕ) → NotAfter k a j b → NotAfter j b k a → (k ≡ j) × (a ≡ b)
  at_once k j a b x y =
      elim x as (λ _. (k ≡ j) × (a ≡ b)) [
        | inl l ↦
            elim y as (λ _. (k ≡ j) × (a ≡ b)) [
              | inl m ↦ absurd (omega (arith, l, m))
              | inr m ↦ let e = m.0 in absurd (omega (arith, l, e))
            ]
        | inr l ↦
            elim y as (λ _. (k ≡ j) × (a ≡ b)) [
              | inl m ↦ let e = l.0 in absurd (omega (arith, m, e))
              | inr m ↦ let c = l.1 in let d = m.1 in (l.0, omega (arith, c, d))
            ]
      ]

  pub one_fault : (f e : Fault) (a b : ℕ) → IsFaulty image entry f a → IsFaulty image entry e b → (fault_number f ≡ fault_number e)
      × (a ≡ b)
  one_fault f e a b v w =
      at_once (fault_number f) (fault_number e) a b (subst (λ z. NotAfter (fault_number f) a (fault_number e) z) w.1.address
      (v.1.least w.1.at e w.1.there w.1.is))
      (subst (λ z. NotAfter (fault_number e) b (fault_number f) z) v.1.address (w.1.least v.1.at f v.1.there v.1.is))

  pub graph_or_refusal : (g : BlockGraph) (r : GraphRefusal) → IsGraphOf image entry g → IsRefusedGraph image entry r → r ≡ why.Memory
  graph_or_refusal g why.Memory a w = refl
  graph_or_refusal g why.TooLarge a w = absurd (a.sound.0 w)
  graph_or_refusal g (why.UnknownWord x) a w = absurd (not_sound fault.Unknown x w a.sound)
  graph_or_refusal g (why.OutsideCode x) a w = absurd (not_sound fault.Outside x w a.sound)
  graph_or_refusal g (why.IndirectJump x) a w = absurd (not_sound fault.Indirect x w a.sound)
  graph_or_refusal g (why.Recursion x) a w = absurd (not_sound fault.Recursive x w a.sound)
  graph_or_refusal g why.NoReturn a w = absurd (w.1 a.alive)

  abbrev fault_numbered : ℕ → Fault
  fault_numbered zero = fault.Unknown
  fault_numbered (suc zero) = fault.Outside
  fault_numbered (suc (suc zero)) = fault.Indirect
  fault_numbered (suc (suc (suc n))) = fault.Recursive

  numbered_fault : (f : Fault) → fault_numbered (fault_number f) ≡ f
  numbered_fault fault.Unknown = refl
  numbered_fault fault.Outside = refl
  numbered_fault fault.Indirect = refl
  numbered_fault fault.Recursive = refl

  -- a refusal by its cause
  data Cause (r : GraphRefusal) : Type 0 where
    Want : (is : r ≡ why.Memory) → Cause r
    Large : (is : r ≡ why.TooLarge) (many : AreTooMany image entry) → Cause r
    Faulty : (f : Fault) (a : ℕ) (is : r ≡ refusal_for f a) (faulty : IsFaulty image entry f a) → Cause r
    Lost : (is : r ≡ why.NoReturn) (sound : IsSound image entry) → Cause r

  cause_of : (r : GraphRefusal) → IsRefusedGraph image entry r → Cause r
  cause_of why.Memory w = Want refl
  cause_of why.TooLarge w = Large refl w
  cause_of (why.UnknownWord x) w = Faulty fault.Unknown x refl w
  cause_of (why.OutsideCode x) w = Faulty fault.Outside x refl w
  cause_of (why.IndirectJump x) w = Faulty fault.Indirect x refl w
  cause_of (why.Recursion x) w = Faulty fault.Recursive x refl w
  cause_of why.NoReturn w = Lost refl w.0

  one_cause : (r s : GraphRefusal) → (r ≡ why.Memory → ⊥) → (s ≡ why.Memory → ⊥) → Cause r → Cause s → r ≡ s
  one_cause r s n m (Want e) c = absurd (n e)
  one_cause r s n m (Large e v) (Want f) = absurd (m f)
  one_cause r s n m (Large e v) (Large f w) = e ∙ sym f
  one_cause r s n m (Large e v) (Faulty g b f w) = absurd (w.0 v)
  one_cause r s n m (Large e v) (Lost f w) = absurd (w.0 v)
  one_cause r s n m (Faulty g a e v) (Want f) = absurd (m f)
  one_cause r s n m (Faulty g a e v) (Large f w) = absurd (v.0 w)
  one_cause r s n m (Faulty g a e v) (Faulty h b f w) =
      let both = one_fault g h a b v w in
      let same : g ≡ h = sym (numbered_fault g) ∙ ap fault_numbered both.0 ∙ numbered_fault h in
      e ∙ ap (λ z. refusal_for z a) same ∙ ap (refusal_for h) both.1 ∙ sym f
  one_cause r s n m (Faulty g a e v) (Lost f w) = absurd (not_sound g a v w)
  one_cause r s n m (Lost e v) (Want f) = absurd (m f)
  one_cause r s n m (Lost e v) (Large f w) = absurd (v.0 w)
  one_cause r s n m (Lost e v) (Faulty g b f w) = absurd (not_sound g b w v)
  one_cause r s n m (Lost e v) (Lost f w) = e ∙ sym f

  pub one_refusal : (r s : GraphRefusal) → IsRefusedGraph image entry r → IsRefusedGraph image entry s → (r ≡ why.Memory → ⊥)
      → (s ≡ why.Memory → ⊥) → r ≡ s
  one_refusal r s v w n m = one_cause r s n m (cause_of r v) (cause_of s w)
