-- A track stays a track where nodes are taken out, and at the end it is a piece of one edge.
use Rattle.std.proofs.Common.{◌≡◌, ◌≢◌, ℕ, ◌<◌, ◌⊎◌, inl, inr, Bool, true, false, if◌then◌else◌, nat_eq, List, [], ◌∷◌, ◌++◌, refl, sym, ap}
use Rattle.std.proofs.Common.{subst, ◌∙◌, arith, append_assoc}
use Rattle.std.proofs.lemmas.Bool.Decides.{nat_tests}
use Rattle.std.specs.List.{AllByRecursion}
use Rattle.wsym_terms.specs.Extents.{Extent}
use Rattle.wsym_terms.specs.declared.trees.Tree.{Tree}
use Rattle.interval_loops.specs.Trails.{Visit}
use Rattle.tree_law.specs.Pieces.{Then, Or}
use Rattle.tree_law.specs.Ways.{members, all_taken_out, TakenOut, AllTakenOut, Track, IsIn, Tracks, Path, edge_ways, EdgePiece}
use Rattle.tree_law.specs.NodeOrders.{without}
use Rattle.tree_law.proofs.WayLemmas.{TreeBound, ListBound, ways_weaker, ways_members, ways_all_taken_out, edges_bound}

abbrev pub without_all : List ℕ → List ℕ → List ℕ
without_all [] us = us
without_all (v ∷ vs) us = without_all vs (without v us)

-- Each edge with a piece leads to a node of greater rank: no walk comes back.
abbrev pub Ranked : (ℕ → ℕ) → (ℕ → ℕ → List Visit → Type 0) → Type 0
Ranked rank L = (p q : ℕ) (x : List Visit) → L p q x → rank p < rank q

module _ (N : ℕ → List Visit → Type 0) (rank : ℕ → ℕ) where
  pub taken_out_ranked : (v : ℕ) (L : ℕ → ℕ → List Visit → Type 0) → Ranked rank L → Ranked rank (TakenOut N v L)
  taken_out_ranked v L r p q x h = either h.2
    where
      either : Or (L p q) (Then (L p v) (Then (N v) (L v q))) x → rank p < rank q
      either (inl l) = r p q x l
      either (inr t) = (let a : rank p < rank v = r p v t.0 t.2 in let b : rank v < rank q = r v q t.3.1 t.3.3 in omega arith)

  module _ (v : ℕ) (L : ℕ → ℕ → List Visit → Type 0) (r : Ranked rank L) where
    -- a track is kept; so is one that stands before the node
    abbrev Kept : List ℕ → Type 0
    Kept us = (s t : ℕ) (x : List Visit) → s ≢ v → t ≢ v → Track N L s t us x → Track N (TakenOut N v L) s t (without v us) x

    abbrev Joined : List ℕ → Type 0
    Joined us = (s t : ℕ) (y x : List Visit) → s ≢ v → t ≢ v → L s v y → Then (N v) (Track N L v t us) x → Track N (TakenOut N v L) s t
        (without v us) (y ++ x)

    kept_and_joined : (us : List ℕ) → Kept us × Joined us
    kept_and_joined [] = (λ s t x a b h. (a, b, inl h), λ s t y x a b l h. (a, b, inr (y, x, l, h, refl)))
    kept_and_joined (u ∷ us) = both (kept_and_joined us)
      where
        regroup : (y x z r1 k z2 r2 : List Visit) → x ≡ z ++ k → k ≡ r1 ++ (z2 ++ r2) → y ++ x ≡ (y ++ (z ++ r1)) ++ (z2 ++ r2)
        regroup y x z r1 k z2 r2 e f = ap (λ (l : List Visit). y ++ l) e ∙ ap (λ (l : List Visit). y ++ (z ++ l)) f ∙ simp append_assoc

        both : Kept us × Joined us → Kept (u ∷ us) × Joined (u ∷ us)
        both ih = (kept, gone)
          where
            kept : Kept (u ∷ us)
            kept s t x a b h = by_test (nat_eq u v) refl
              where
                by_test : (c : Bool) → nat_eq u v ≡ c → Track N (TakenOut N v L) s t (if c then without v us else u ∷ without v us) x
                by_test false e =
                    let apart : u ≢ v = grind (arith, nat_tests) in
                    (h.0, h.1, (a, apart, inl h.2), (h.3.0, h.3.1, h.3.2, ih.0 u t h.3.1 apart b h.3.3, h.3.4), h.4)
                by_test true e =
                    let same : u ≡ v = grind (arith, nat_tests) in
                    subst (λ (l : List Visit). Track N (TakenOut N v L) s t (without v us) l) (sym h.4)
                    (ih.1 s t h.0 h.1 a b (subst (λ (w : ℕ). L s w h.0) same h.2)
                    (subst (λ (w : ℕ). Then (N w) (Track N L w t us) h.1) same h.3))

            gone : Joined (u ∷ us)
            gone s t y x a b l h = by_test (nat_eq u v) refl
              where
                later : rank v < rank u
                later = r v u h.3.0 h.3.2

                by_test : (c : Bool) → nat_eq u v ≡ c → Track N (TakenOut N v L) s t (if c then without v us else u ∷ without v us) (y ++ x)
                by_test false e =
                    let apart : u ≢ v = grind (arith, nat_tests) in (
                      y ++ (h.0 ++ h.3.0),
                      h.3.1,
                      (a, apart, inr (y, h.0 ++ h.3.0, l, (h.0, h.3.0, h.2, h.3.2, refl), refl)),
                      (h.3.3.0, h.3.3.1, h.3.3.2, ih.0 u t h.3.3.1 apart b h.3.3.3, h.3.3.4),
                      ap (λ (k : List Visit). y ++ k) h.4 ∙ ap (λ (k : List Visit). y ++ (h.0 ++ k)) h.3.4 ∙ simp append_assoc,
                    )
                by_test true e =
                    let same : u ≡ v = grind (arith, nat_tests) in
                    let equal : rank u ≡ rank v = ap rank same in
                    absurd (omega (arith, later, equal))

    pub track_kept : (us : List ℕ) → Kept us
    track_kept us = (kept_and_joined us).0

  pub all_kept : (vs : List ℕ) (L : ℕ → ℕ → List Visit → Type 0) → Ranked rank L → (us : List ℕ) (s t : ℕ) (x : List Visit) → AllByRecursion
      (λ v. s ≢ v) vs → AllByRecursion (λ v. t ≢ v) vs
      → Track N L s t us x → Track N (AllTakenOut N vs L) s t (without_all vs us) x
  all_kept [] L r us s t x a b h = h
  all_kept (v ∷ vs) L r us s t x a b h = all_kept vs (TakenOut N v L) (taken_out_ranked v L r) (without v us) s t x a.1 b.1
      (track_kept v L r us s t x a.0 b.0 h)

all_in_without : (v : ℕ) (vs us : List ℕ) → AllByRecursion (λ u. IsIn u (v ∷ vs)) us → AllByRecursion (λ u. IsIn u vs) (without v us)
all_in_without v vs [] all = tt
all_in_without v vs (u ∷ us) all = by_test (all_in_without v vs us all.1) (nat_eq u v) refl
  where
    other : nat_eq u v ≡ false → (u ≡ v) ⊎ IsIn u vs → IsIn u vs
    other e (inl same) = absurd (grind (arith, nat_tests))
    other e (inr later) = later

    by_test : AllByRecursion (λ u. IsIn u vs) (without v us) → (c : Bool) → nat_eq u v ≡ c → AllByRecursion (λ u. IsIn u vs)
        (if c then without v us else u ∷ without v us)
    by_test rest true e = rest
    by_test rest false e = (other e all.0, rest)

none_left : (vs us : List ℕ) → AllByRecursion (λ u. IsIn u vs) us → without_all vs us ≡ []
none_left [] [] all = refl
none_left [] (u ∷ us) all = absurd all.0
none_left (v ∷ vs) us all = none_left vs (without v us) (all_in_without v vs us all)

track_path : (N : ℕ → List Visit → Type 0) (edge : ℕ → ℕ → Bool) (s t : ℕ) (us : List ℕ) (x : List Visit) → Track N
    (EdgePiece edge) s t us x → Path edge s us t
track_path N edge s t [] x h = h.0
track_path N edge s t (u ∷ us) x h = (h.2.0, track_path N edge u t us h.3.1 h.3.3)

on_edges : (N : ℕ → List Visit → Type 0) (edge useful : ℕ → ℕ → Bool) (s t : ℕ) (us : List ℕ) (x : List Visit) → Path useful s us t
    → Track N (EdgePiece edge) s t us x → Track N (EdgePiece useful) s t us x
on_edges N edge useful s t [] x p h = (p, h.1)
on_edges N edge useful s t (u ∷ us) x p h = (
  h.0,
  h.1,
  (p.0, h.2.1),
  (h.3.0, h.3.1, h.3.2, on_edges N edge useful u t us h.3.1 p.1 h.3.3, h.3.4),
  h.4,
)

-- The tree that is left when the nodes on the paths are taken out, in any order, bounds the tracks.
pub tracks_bound : (scopes : ℕ → ℕ → ℕ) (miss : ℕ) (bounds : ℕ → Extent) (depth : ℕ) (edge useful : ℕ → ℕ → Bool) (rank : ℕ → ℕ)
    (tree : ℕ → Tree) (N : ℕ → List Visit → Type 0) (vs : List ℕ) (s t : ℕ)
    → ((p q : ℕ) → useful p q ≡ true → rank p < rank q) → AllByRecursion (λ v. TreeBound scopes miss bounds depth (tree v) (N v)) vs
    → AllByRecursion (λ v. s ≢ v) vs → AllByRecursion (λ v. t ≢ v) vs
    → ((us : List ℕ) → Path edge s us t → AllByRecursion (λ u. IsIn u vs) us × Path useful s us t)
    → ListBound scopes miss bounds depth (members (all_taken_out tree vs (edge_ways useful) s t)) (Tracks N (EdgePiece edge) s t)
tracks_bound scopes miss bounds depth edge useful rank tree N vs s t up nodes a b on_path =
    ways_members scopes miss bounds depth ws (Tracks N (EdgePiece edge) s t)
    (ways_weaker scopes miss bounds depth ws (AllTakenOut N vs (EdgePiece useful) s t) (Tracks N (EdgePiece edge) s t) last
    (ways_all_taken_out scopes miss bounds depth tree N vs (edge_ways useful) (EdgePiece useful) nodes
    (edges_bound scopes miss bounds depth useful) s t))
  where
    ws : List (List Tree)
    ws = all_taken_out tree vs (edge_ways useful) s t

    last : (x : List Visit) → Tracks N (EdgePiece edge) s t x → AllTakenOut N vs (EdgePiece useful) s t x
    last x h =
        let p = on_path h.0 (track_path N edge s t h.0 x h.1) in
        subst (λ (us : List ℕ). Track N (AllTakenOut N vs (EdgePiece useful)) s t us x) (none_left vs h.0 p.0)
        (all_kept N rank vs (EdgePiece useful) (λ p q y e. up p q e.0) h.0 s t x a b (on_edges N edge useful s t h.0 x p.1 h.1))
