-- Numbers cut into chains are points cut into blocks.
use Rattle.std.specs.Prelude.{Bool}
use Rattle.std.proofs.Common.{◌≡◌, refl, sym, ap, ◌∙◌, subst, ℕ, zero, suc, ◌<◌, ◌⊎◌, inl, inr, List, [], ◌∷◌, length, get_or, map, arith}
use Rattle.std.specs.Prelude.{Contains, Option, Some, None}
use Rattle.std.proofs.lemmas.List.{get_or_default}
use Rattle.control_flow.specs.Routes.{Way, IsLive}
use Rattle.basic_blocks.specs.Blocks.{IsOnlyWay, Chain, last_of, IsChain, IsLongest, AreBlocks, Ascending, by_first}
use Rattle.basic_blocks.specs.Chains.{Follows, AreOpposite, AreChains, AreNumbered, mapped}
use Rattle.basic_blocks.proofs.BlockLemmas.{covered}
use Rattle.function_points.proofs.MemberLemmas.{here, there, first_or_rest, in_none}

pub map_in : {A B : Type 0} (f : A → B) (xs : List A) (x : A) → Contains xs x → Contains (map f xs) (f x)
map_in f [] x i = absurd (in_none x i)
map_in f (y ∷ xs) x i =
    elim (first_or_rest y x xs i) as (λ _. Contains (f y ∷ map f xs) (f x)) [
      | inl e ↦ subst (λ z. Contains (f y ∷ map f xs) (f z)) e (here (f y) (map f xs))
      | inr n ↦ there (f y) (f x) (map f xs) (map_in f xs x n)
    ]

pub from_map : {A B : Type 0} (f : A → B) (xs : List A) (y : B) → Contains (map f xs) y → (x : A) × Contains xs x × (f x ≡ y)
from_map f [] y i = absurd (in_none y i)
from_map {A} f (x ∷ xs) y i =
    elim (first_or_rest (f x) y (map f xs) i) as (λ _. (z : A) × Contains (x ∷ xs) z × (f z ≡ y)) [
      | inl e ↦ (x, here x xs, e)
      | inr n ↦ let r = from_map f xs y n in (r.0, there x r.0 xs r.1, r.2)
    ]

pub ascending_map : {A B : Type 0} (f : A → B) (lt : A → A → Type 0) (less : B → B → Type 0) (P : A → Type 0) →
    ((x y : A) → P x → P y → lt x y → less (f x) (f y)) → (xs : List A) → ((x : A) → Contains xs x → P x) → Ascending lt xs → Ascending less
    (map f xs)
ascending_map f lt less P up [] all a = tt
ascending_map f lt less P up (x ∷ xs) all a = (
  (λ y i. let r = from_map f xs y i in subst (λ z. less (f x) z) r.2 (up x r.0 (all x (here x xs)) (all r.0 (there x r.0 xs r.1))
      (a.0 r.0 r.1))),
  ascending_map f lt less P up xs (λ y i. all y (there x y xs i)) a.1,
)

pub ascending_at : {A : Type 0} (lt : A → A → Type 0) (xs : List A) (d : A) (i j : ℕ) → Ascending lt xs → i < j → j < length xs → lt
    (get_or xs i d) (get_or xs j d)
ascending_at lt [] d i j a l m = absurd (omega (arith, m))
ascending_at lt (x ∷ xs) d i zero a l m = absurd (omega (arith, l))
ascending_at lt (x ∷ xs) d zero (suc j) a l m = a.0 (get_or xs j d) (
  j,
  omega (arith, m),
  get_or_default xs j (get_or xs j d) d
      (omega (arith, m)),
)
ascending_at lt (x ∷ xs) d (suc i) (suc j) a l m = ascending_at lt xs d i j a.1 (omega (arith, l)) (omega (arith, m))

last_mapped : {A B : Type 0} (f : A → B) (p : A) (ps : List A) → last_of (f p) (map f ps) ≡ f (last_of p ps)
last_mapped f p [] = refl
last_mapped f p (q ∷ ps) = last_mapped f q ps

chain_mapped : {A B : Type 0} (f : A → B) (R : A → A → Type 0) (S : B → B → Type 0) → ((p q : A) → R p q → S (f p) (f q)) → (p : A)
    (ps : List A) → IsChain R p ps → IsChain S (f p) (map f ps)
chain_mapped f R S up p [] c = tt
chain_mapped f R S up p (q ∷ ps) c = (up p q c.0, chain_mapped f R S up q ps c.1)

module _ {A : Type 0} (ways : A → List (Way A)) (start : A) (lt : A → A → Type 0) (ps : List A) (flag : ℕ → Bool)
    (only back : List (Option ℕ)) (are : AreNumbered ways start lt ps flag only) (opposite : AreOpposite only back)
    (bs : List (Chain ℕ)) (cut : AreChains only flag bs) where
  abbrev at : ℕ → A
  at i = get_or ps i start

  abbrev O : A → A → Type 0
  O = IsOnlyWay ways start

  -- the number of a point
  number : (p : A) → IsLive ways start p → (i : ℕ) × (i < length ps) × (at i ≡ p)
  number p l = let i = are.all p l in (i.0, i.1, i.2)

  last_under : (p : ℕ) (qs : List ℕ) → p < length only → IsChain (Follows only) p qs → last_of p qs < length only
  last_under p [] l c = l
  last_under p (q ∷ qs) l c = last_under q qs (opposite.below p q c.0) c.1

  longest : (b : Chain ℕ) → Contains bs b → IsLongest O (mapped at b)
  longest b i =
      let w = cut.longest b i in
      let long = are.long in
      record {
        chain = chain_mapped at (Follows only) O (λ p q f. are.only_way p q f) b.first b.rest w.2.chain;
        head = λ r o.
            let n = number r o.from in
            let under : b.first < length ps = subst (λ m. b.first < m) long w.0 in
            w.2.head n.0 (are.follows n.0 b.first n.1 under (subst (λ z. O z (at b.first)) (sym n.2) o));
        end = λ r o.
            let n = number r o.live in
            let under : last_of b.first b.rest < length ps = subst (λ m. last_of b.first b.rest < m) long
            (last_under b.first b.rest w.0 w.2.chain) in
            let o' = subst (λ z. O z r) (last_mapped at b.first b.rest) o in
            w.2.end n.0 (are.follows (last_of b.first b.rest) n.0 under n.1 (subst (λ z. O (at (last_of b.first b.rest)) z) (sym n.2) o'));
      }

  each_longest : (b : Chain A) → Contains (map (mapped at) bs) b → IsLongest O b
  each_longest b i = let r = from_map (mapped at) bs b i in subst (λ z. IsLongest O z) r.2 (longest r.0 r.1)

  heads : (p : A) → IsLive ways start p → ((r : A) → O r p → ⊥) → (b : Chain A) × Contains (map (mapped at) bs) b × (b.first ≡ p)
  heads p l none =
      let n = are.all p l in
      let b = cut.heads n.0 (subst (λ m. n.0 < m) (sym are.long) n.1) n.3
      (λ r f. none (at r) (subst (λ z. O (at r) z) n.2 (are.only_way r n.0 f))) in
      (mapped at b.0, map_in (mapped at) bs b.0 b.1, ap at b.2 ∙ n.2)

  decided : (p : A) → IsLive ways start p → ((r : A) × O r p) ⊎ ((r : A) → O r p → ⊥)
  decided p l =
      let n = number p l in
      by_entry n.0 n.1 n.2 (get_or back n.0 None) refl
    where
      no_entry : (r : ℕ) (o : Option ℕ) → None ≡ o → o ≡ Some r → ⊥
      no_entry r o e f = cc

      by_entry : (i : ℕ) → i < length ps → at i ≡ p → (o : Option ℕ) → o ≡ get_or back i None → ((r : A) × O r p) ⊎ ((r : A) → O r p → ⊥)
      by_entry i l e (Some j) is = inl (at j, subst (λ z. O (at j) z) e (are.only_way j i (opposite.backwards j i (sym is))))
      by_entry i l e None is =
          inr (λ r o.
          let n = number r o.from in
          no_entry n.0 (get_or back i None) is (opposite.forwards n.0 i
          (are.follows n.0 i n.1 l (subst (λ z. O z (at i)) (sym n.2) (subst (λ z. O r z) (sym e) o)))))

  pub are_blocks : AreBlocks ways start (map (mapped at) bs)
  are_blocks =
      record {
        each = λ b i.
            let r = from_map (mapped at) bs b i in
            let under = subst (λ m. r.0.first < m) are.long (cut.longest r.0 r.1).0 in
            (subst (λ z. IsLive ways start z.first) r.2 (are.live r.0.first under (cut.longest r.0 r.1).1), each_longest b i);
        cover = λ p l. covered ways start (map (mapped at) bs) each_longest heads decided l.0.0 p l.0.1 l;
      }

  pub blocks_ascend : Ascending (by_first lt) (map (mapped at) bs)
  blocks_ascend =
      ascending_map (mapped at) (by_first (λ p q. p < q)) (by_first lt) (λ b. b.first < length ps)
      (λ b c l m less. ascending_at lt ps start b.first c.first are.ascending less m) bs
      (λ b i. subst (λ m. b.first < m) are.long (cut.longest b i).0) cut.ascending
