-- Points turned round, and visits by numbers.
use Rattle.std.proofs.Common.{◌≡◌, ℕ, suc, inl, inr, true, Some, List, [], ◌∷◌, ◌++◌, map, refl, sym, ap, ◌∙◌, subst}
use Rattle.std.specs.Prelude.{Contains, Bool, slice_get}
use Rattle.std.proofs.lemmas.List.{map-append}
use Rattle.control_flow.specs.Points.{Point}
use Rattle.control_flow.specs.Routes.{Goes, Leaves, Taken, Way}
use Rattle.basic_blocks.specs.Blocks.{AreVisits, Chain, IsChain, last_of, points, together}
use Rattle.basic_blocks.specs.Chains.{mapped}
use Rattle.function_points.proofs.MemberLemmas.{first_or_rest, in_none}
use Rattle.persistence.specs.BlockHistories.{IsHistory}
use Rattle.persistence.specs.Younger.{Linked}
use Rattle.persistence.specs.Spots.{turned}
use Rattle.cycle_bounds.specs.Analyses.{Analysis}
use Rattle.cycle_bounds.specs.Visits.{ArePassed, Passed, all_taken, named, numbers_of}

grouped : (xs : List ℕ) (p : ℕ) (h : List ℕ) → xs ++ (p ∷ h) ≡ (xs ++ p ∷ []) ++ h
grouped [] p h = refl
grouped (x ∷ xs) p h = ap (λ (zs : List ℕ). x ∷ zs) (grouped xs p h)

pub turned_end : (ps h : List ℕ) → turned ps h ≡ turned ps [] ++ h
turned_end [] h = refl
turned_end (p ∷ ps) h = turned_end ps (p ∷ h) ∙ grouped (turned ps []) p h ∙ ap (λ (zs : List ℕ). zs ++ h) (sym (turned_end ps (p ∷ [])))

-- a chain of points goes on from a history
pub linked_turned : (next : ℕ → ℕ → Bool) (p : ℕ) (ps h : List ℕ) → IsChain (λ x y. next x y ≡ true) p ps → Linked next p h
    → IsHistory next (turned (p ∷ ps) h)
linked_turned next p [] h c l = l
linked_turned next p (q ∷ ps) h c l = linked_turned next q ps (p ∷ h) c.1 (c.0, l)

pub linked_on : (next : ℕ → ℕ → Bool) (q p : ℕ) (ps h : List ℕ) → next (last_of p ps) q ≡ true → IsHistory next (turned (p ∷ ps) h)
    → Linked next q (turned (p ∷ ps) h)
linked_on next q p [] h e i = (e, i)
linked_on next q p (r ∷ ps) h e i = linked_on next q r ps (p ∷ h) e i

-- ---- numbers

found_at : (f : Chain ℕ → Chain Point) (bs : List (Chain ℕ)) (b : Chain Point) → Contains (map f bs) b
    → (i : ℕ) × (c : Chain ℕ) × (slice_get bs i ≡ Some c) × (f c ≡ b)
found_at f [] b i = absurd (in_none b i)
found_at f (x ∷ bs) b i =
    elim (first_or_rest (f x) b (map f bs) i) as (λ _. (j : ℕ) × (c : Chain ℕ) × (slice_get (x ∷ bs) j ≡ Some c) × (f c ≡ b)) [
      | inl e ↦ (0, x, refl, e)
      | inr n ↦ let r = found_at f bs b n in (suc r.0, r.1, r.2, r.3)
    ]

last_mapped : (f : ℕ → Point) (p : ℕ) (ps : List ℕ) → last_of (f p) (map f ps) ≡ f (last_of p ps)
last_mapped f p [] = refl
last_mapped f p (q ∷ ps) = last_mapped f q ps

heads : {A : Type 0} (x y : A) (xs ys : List A) → x ∷ xs ≡ y ∷ ys → x ≡ y
heads x y xs ys e = cc

tails : {A : Type 0} (x y : A) (xs ys : List A) → x ∷ xs ≡ y ∷ ys → xs ≡ ys
tails x y xs ys e = cc

conses : {A : Type 0} (x y : A) (xs ys : List A) → x ≡ y → xs ≡ ys → x ∷ xs ≡ y ∷ ys
conses x y xs ys e f = cc

abbrev points_of : List (Taken Point) → List Point
points_of v = map (λ (x : Taken Point). x.point) v

abbrev taken_as : Bool → Point → Taken Point
taken_as d q = record { point = q; done = d }

lifted : (point : ℕ → Point) (v : List (Taken Point)) (ps : List ℕ) → points_of v ≡ map point ps
    → (w : List (Taken ℕ)) × (numbers_of w ≡ ps) × (map (named point) w ≡ v)
lifted point [] [] e = ([], refl, refl)
lifted point [] (p ∷ ps) e = absurd (cc)
lifted point (x ∷ v) [] e = absurd (cc)
lifted point (x ∷ v) (p ∷ ps) e =
    let r = lifted point v ps (tails x.point (point p) (points_of v) (map point ps) e) in
    let first : x.point ≡ point p = heads x.point (point p) (points_of v) (map point ps) e in (
      record { point = p; done = x.done } ∷ r.0,
      ap (λ (qs : List ℕ). p ∷ qs) r.1,
      conses (taken_as x.done (point p)) x
          (map (named point) r.0) v (ap (taken_as x.done) (sym first)) r.2,
    )

module _ (ways : Point → List (Way Point)) (a : Analysis) where
  -- visits of blocks, by the blocks' numbers
  pub record Numbered (p : Point) (vs : List (List (Taken Point))) : Type 0 where
    pub visit : Passed
    pub rest : List Passed
    pub passed : ArePassed ways a visit rest
    pub first : a.point visit.chain.first ≡ p
    pub taken : map (named a.point) (all_taken (visit ∷ rest)) ≡ together vs

  pub numbered : (p : Point) (vs : List (List (Taken Point))) → AreVisits ways (map (mapped a.point) a.blocks) p vs → Numbered p vs
  numbered p [] v = absurd v
  numbered p (v ∷ []) (b, i, e, f, l) =
      let n = found_at (mapped a.point) a.blocks b i in
      let c = n.1 in
      let w = lifted a.point v (points c) (f ∙ ap (λ (z : Chain Point). points z) (sym n.3)) in
      record {
        visit = record { block = n.0; chain = c; taken = w.0 };
        rest = [];
        passed = (
          (n.2, w.1),
          subst (λ (q : Point). Leaves ways q) (last_mapped a.point c.first c.rest)
              (subst (λ (z : Chain Point). Leaves ways (last_of z.first z.rest)) (sym n.3) l),
        );
        first = ap (λ (z : Chain Point). z.first) n.3 ∙ e;
        taken = map-append (named a.point) w.0 [] ∙ ap (λ (zs : List (Taken Point)). zs ++ []) w.2;
      }
  numbered p (v ∷ u ∷ vs) (b, i, e, f, (q, g, more)) =
      let n = found_at (mapped a.point) a.blocks b i in
      let c = n.1 in
      let w = lifted a.point v (points c) (f ∙ ap (λ (z : Chain Point). points z) (sym n.3)) in
      let r = numbered q (u ∷ vs) more in
      let goes : Goes ways (a.point (last_of c.first c.rest)) q = subst (λ (z : Point). Goes ways z q) (last_mapped a.point c.first c.rest)
      (subst (λ (z : Chain Point). Goes ways (last_of z.first z.rest) q) (sym n.3) g) in
      record {
        visit = record { block = n.0; chain = c; taken = w.0 };
        rest = r.visit ∷ r.rest;
        passed = ((n.2, w.1), subst (λ (z : Point). Goes ways (a.point (last_of c.first c.rest)) z) (sym r.first) goes, r.passed);
        first = ap (λ (z : Chain Point). z.first) n.3 ∙ e;
        taken = map-append (named a.point) w.0 (all_taken (r.visit ∷ r.rest))
            ∙ joined (map (named a.point) w.0) v (map (named a.point) (all_taken (r.visit ∷ r.rest))) (together (u ∷ vs)) w.2 r.taken;
      }
    where
      joined : (x y z k : List (Taken Point)) → x ≡ y → z ≡ k → x ++ z ≡ y ++ k
      joined x y z k e f = cc
