-- A run of a loop is cut at its closing edges into tracks.
use Rattle.std.proofs.Common.{◌≡◌, ℕ, suc, ◌⊎◌, inl, inr, true, List, [], ◌∷◌, ◌++◌, length, refl, ap, subst, ◌∙◌, arith, append_assoc}
use Rattle.std.specs.List.{AllByRecursion}
use Rattle.wsym_terms.specs.Extents.{Extent, IsWithin}
use Rattle.interval_loops.specs.Trails.{Visit}
use Rattle.tree_law.specs.Pieces.{Then, Entry, flat}
use Rattle.tree_law.specs.Ways.{Tracks, EdgePiece}
use Rattle.tree_law.specs.Levels.{Step, Turns, Goes, pieces, turned, Level, Inside, LoopRun}

module _ (N : ℕ → List Visit → Type 0) (l : Level) where
  -- tracks from a node to an end of the level
  abbrev pub To : ℕ → ℕ → List Visit → Type 0
  To t u = Tracks N (EdgePiece l.edge) u t

  -- one turn, and the way out
  abbrev pub Turn : List Visit → Type 0
  Turn = Then (N l.header) (To l.close l.header)

  abbrev pub Out : List Visit → Type 0
  Out = Then (N l.header) (To l.leave l.header)

  -- with no turn: a track to the leaving
  pub record Straight (u : ℕ) (xs : List Step) : Type 0 where
    pub out : To l.leave u (pieces xs)
    pub none : turned xs ≡ 0

  -- with some: a track to the first closing edge, whole turns, and the way out
  pub record Turned (u : ℕ) (xs : List Step) : Type 0 where
    pub first : List Visit
    pub turns : List (List Visit)
    pub last : List Visit
    pub to_close : To l.close u first
    pub all_turns : AllByRecursion Turn turns
    pub way_out : Out last
    pub parts : pieces xs ≡ first ++ (flat turns ++ last)
    pub count : turned xs ≡ suc (length turns)

  at_edge : (t u : ℕ) → l.edge u t ≡ true → To t u []
  at_edge t u e = ([], (e, refl))

  -- one more node in front of a track
  pub in_front : (t u v : ℕ) (y x : List Visit) → l.edge u v ≡ true → N v y → To t v x → To t u (y ++ x)
  in_front t u v y x e n h = (v ∷ h.0, ([], y ++ x, (e, refl), (y, x, n, h.1, refl), refl))

  pub cut : (u : ℕ) (xs : List Step) → Inside N l u xs → Straight u xs ⊎ Turned u xs
  cut u [] h = inl (record { out = at_edge l.leave u h; none = refl })
  cut u (Turns y ∷ xs) h = inr (turn (cut l.header xs h.2))
    where
      turn : Straight l.header xs ⊎ Turned l.header xs → Turned u (Turns y ∷ xs)
      turn (inl s) = record {
        first = [];
        turns = [];
        last = y ++ pieces xs;
        to_close = at_edge l.close u h.0;
        all_turns = tt;
        way_out = (y, pieces xs, h.1, s.out, refl);
        parts = refl;
        count = omega (arith, s.none);
      }
      turn (inr s) = record {
        first = [];
        turns = (y ++ s.first) ∷ s.turns;
        last = s.last;
        to_close = at_edge l.close u h.0;
        all_turns = ((y, s.first, h.1, s.to_close, refl), s.all_turns);
        way_out = s.way_out;
        parts = ap (λ (k : List Visit). y ++ k) s.parts ∙ simp append_assoc;
        count = omega (arith, s.count);
      }
  cut u (Goes v y ∷ xs) h = go (cut v xs h.2)
    where
      go : Straight v xs ⊎ Turned v xs → Straight u (Goes v y ∷ xs) ⊎ Turned u (Goes v y ∷ xs)
      go (inl s) = inl (record { out = in_front l.leave u v y (pieces xs) h.0 h.1 s.out; none = s.none })
      go (inr s) = inr (record {
        first = y ++ s.first;
        turns = s.turns;
        last = s.last;
        to_close = in_front l.close u v y s.first h.0 h.1 s.to_close;
        all_turns = s.all_turns;
        way_out = s.way_out;
        parts = ap (λ (k : List Visit). y ++ k) s.parts ∙ simp append_assoc;
        count = s.count;
      })

  -- so it is an entry of turns and of a way out
  pub run_is_entry : (bound : Extent) (depth : ℕ) (x : List Visit) → LoopRun N l bound depth x → Entry bound depth Turn Out x
  run_is_entry bound depth x h = by_cut (cut l.header h.1 h.3)
    where
      by_cut : Straight l.header h.1 ⊎ Turned l.header h.1 → Entry bound depth Turn Out x
      by_cut (inl s) = ([], x, tt, (h.0, pieces h.1, h.2, s.out, h.5), subst (λ (n : ℕ). IsWithin n bound) s.none h.4, refl, h.6)
      by_cut (inr s) = (
        (h.0 ++ s.first) ∷ s.turns,
        s.last,
        ((h.0, s.first, h.2, s.to_close, refl), s.all_turns),
        s.way_out,
        subst (λ (n : ℕ). IsWithin n bound) s.count h.4,
        h.5 ∙ ap (λ (k : List Visit). h.0 ++ k) s.parts ∙ simp append_assoc,
        h.6,
      )
