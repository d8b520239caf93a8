-- What two searches, one forward and one back, find of a point's younger lines.
use Rattle.std.proofs.Common.{◌≡◌, ◌≢◌, ℕ, zero, suc, ◌%◌, inl, inr, Bool, true, List, [], ◌∷◌, ◌++◌, refl, sym, ap, ◌∙◌, subst}
use Rattle.std.specs.Prelude.{map, nat_eq}
use Rattle.std.specs.List.{AllByRecursion}
use Rattle.std.proofs.lemmas.Bool.{or_cases, or_left, or_right, eqb-true, eq-eqb, false≢true}
use Rattle.graph_search.specs.NodeLists.{holds}
use Rattle.graph_search.specs.Searches.{steps_to}
use Rattle.graph_search.specs.Walks.{Reached, Walk}
use Rattle.persistence.specs.Collected.{IsMet}
use Rattle.persistence.specs.Searches.{IsBackward, FollowsLine, IsForward, TestsFollowing}
use Rattle.persistence.specs.Younger.{AtLeast, Code, IsYounger, Path}

module _ (c : Code) (within : ℕ → Bool) (line : ℕ) where
  abbrev Inside : ℕ → Type 0
  Inside u = (within u ≡ true) × (c.line u ≢ line)

  -- ---- forward

  behind_walk : (start : ℕ) (step : ℕ → List ℕ) → IsForward c within line start step → (n q : ℕ)
      → Walk (steps_to nat_eq step) start q (suc n) → FollowsLine c within line q
  behind_walk start step is zero q w =
      let first : holds nat_eq q (step start) ≡ true = subst (λ (r : ℕ). holds nat_eq q (step r) ≡ true) (sym w.1) w.2 in
      let f = is.first_sound q first in
      (f.0, f.1, (f.2.0, [], f.2.1, f.2.2, tt, f.2.3))
  behind_walk start step is (suc n) q w =
      let b = behind_walk start step is n w.0 w.1 in
      let s = is.sound w.0 q (is.apart w.0 b.0) w.2 in
      (s.0, s.1, (b.2.0, w.0 ∷ b.2.1, b.2.2, b.2.3, ((b.0, b.1), b.2.4), (s.2, b.2.5)))

  walk_behind : (start : ℕ) (step : ℕ → List ℕ) → IsForward c within line start step → (a : ℕ) (us : List ℕ) (q : ℕ) → c.line a ≡ line
      → within a ≡ true → AllByRecursion Inside us → Path c.next a us q → Inside q
      → (n : ℕ) × Walk (steps_to nat_eq step) start q (suc n)
  walk_behind start step is a [] q l w all p i = (0, (start, refl, is.first_complete a q l w p i.0 i.1))
  walk_behind start step is a (u ∷ us) q l w all p i =
      let r = walk_behind start step is a us u l w all.1 p.1 all.0 in
      (suc r.0, (u, r.1, is.complete u q (is.apart u all.0.0) p.0 i.0 i.1))

  -- what a forward search reaches beside its start is what follows the line
  pub reached_follow : (start : ℕ) (step : ℕ → List ℕ) (follows : ℕ → Bool) → IsForward c within line start step
      → ((q : ℕ) → follows q ≡ true → (q ≢ start) × Reached (steps_to nat_eq step) start q)
      → ((q : ℕ) → q ≢ start → Reached (steps_to nat_eq step) start q → follows q ≡ true) → TestsFollowing c within line follows
  reached_follow start step follows is found all =
      record {
        sound = λ q o. let f = found q o in by_length q f.0 f.1.0 f.1.1;
        complete = λ q b.
            let w = walk_behind start step is b.2.0 b.2.1 q b.2.2 b.2.3 b.2.4 b.2.5 (b.0, b.1) in
            all q (is.apart q b.0) (suc w.0, w.1);
      }
    where
      by_length : (q : ℕ) → q ≢ start → (n : ℕ) → Walk (steps_to nat_eq step) start q n → FollowsLine c within line q
      by_length q ne zero w = absurd (ne (sym w))
      by_length q ne (suc n) w = behind_walk start step is n q w

  -- ---- back

  path_behind : (q r : ℕ) (us : List ℕ) (b : ℕ) → c.next q r ≡ true → Path c.next r us b → Path c.next q (us ++ r ∷ []) b
  path_behind q r [] b e p = (p, e)
  path_behind q r (u ∷ us) b e p = (p.0, path_behind q r us u e p.1)

  path_joined : (a : ℕ) (us : List ℕ) (q : ℕ) (vs : List ℕ) (b : ℕ) → Path c.next a us q → Path c.next q vs b
      → Path c.next a (vs ++ q ∷ us) b
  path_joined a us q [] b p k = (k, p)
  path_joined a us q (v ∷ vs) b p k = (k.0, path_joined a us q vs v p k.1)

  all_joined : (xs ys : List ℕ) → AllByRecursion Inside xs → AllByRecursion Inside ys → AllByRecursion Inside (xs ++ ys)
  all_joined [] ys h k = k
  all_joined (x ∷ xs) ys h k = (h.0, all_joined xs ys h.1 k)

  line_within : (vs us : List ℕ) (q : ℕ) → holds nat_eq (c.line q) (map c.line (vs ++ q ∷ us)) ≡ true
  line_within [] us q = or_left (nat_eq (c.line q) (c.line q)) (holds nat_eq (c.line q) (map c.line us)) (eq-eqb (c.line q) (c.line q) refl)
  line_within (v ∷ vs) us q = or_right (nat_eq (c.line q) (c.line v)) (holds nat_eq (c.line q) (map c.line (vs ++ q ∷ us)))
      (line_within vs us q)

  module _ (follows : ℕ → Bool) (step : ℕ → List ℕ) (exact : TestsFollowing c within line follows) (back : IsBackward c follows step)
      (p : ℕ) (here : within p ≡ true) (is_line : c.line p ≡ line) where
    -- a point that the search reaches, other than its start
    path_back : (n q : ℕ) → Walk (steps_to nat_eq step) p q (suc n)
        → (follows q ≡ true) × ((vs : List ℕ) × AllByRecursion Inside vs × Path c.next q vs p)
    path_back zero q w =
        let s = back.sound w.0 q w.2 in
        (s.0, ([], tt, subst (λ (r : ℕ). c.next q r ≡ true) (sym w.1) s.1))
    path_back (suc n) q w =
        let r = path_back n w.0 w.1 in
        let s = back.sound w.0 q w.2 in
        let b = exact.sound w.0 r.0 in
        (s.0, (r.1.0 ++ w.0 ∷ [], all_joined r.1.0 (w.0 ∷ []) r.1.1 ((b.0, b.1), tt), path_behind q w.0 r.1.0 p s.1 r.1.2))

    pub met_is_younger : (sets m : ℕ) → IsMet step c.line p line sets m → IsYounger c sets within p m
    met_is_younger sets m met = by_length met.2.0 met.2.2 met.2.1.0 met.2.1.1
      where
        by_length : (q : ℕ) → c.line q ≡ m → (n : ℕ) → Walk (steps_to nat_eq step) p q n → IsYounger c sets within p m
        by_length q e zero w = absurd (met.0 (sym e ∙ ap c.line (sym w) ∙ is_line))
        by_length q e (suc n) w =
            let r = path_back n q w in
            let b = exact.sound q r.0 in
            let inside : AllByRecursion (λ u. (within u ≡ true) × (c.line u ≢ line)) (r.1.0 ++ q ∷ b.2.1) = all_joined r.1.0 (q ∷ b.2.1)
            r.1.1 ((b.0, b.1), b.2.4) in (
              (λ x. met.0 (x ∙ is_line)),
              met.1 ∙ ap (λ (x : ℕ). x % sets) (sym is_line),
              (
                b.2.0,
                r.1.0 ++ q ∷ b.2.1,
                record {
                  from = b.2.2 ∙ sym is_line;
                  starts = b.2.3;
                  ends = here;
                  inside = subst (λ (k : ℕ). AllByRecursion (λ u. (within u ≡ true) × (c.line u ≢ k)) (r.1.0 ++ q ∷ b.2.1)) (sym is_line)
                      inside;
                  path = path_joined b.2.0 b.2.1 q r.1.0 p b.2.5 r.1.2;
                },
                subst (λ (x : ℕ). holds nat_eq x (map c.line (r.1.0 ++ q ∷ b.2.1)) ≡ true) e (line_within r.1.0 b.2.1 q),
              ),
            )

    -- the search goes back along a path
    goes_back : (a : ℕ) → c.line a ≡ line → within a ≡ true → (us : List ℕ) (e m : ℕ) → AllByRecursion Inside us → Path c.next a us e
        → Reached (steps_to nat_eq step) p e → holds nat_eq m (map c.line us) ≡ true
        → (q : ℕ) × Reached (steps_to nat_eq step) p q × (c.line q ≡ m)
    goes_back a l w [] e m all path r h = absurd (false≢true h)
    goes_back a l w (u ∷ us) e m all path r h =
        let o : follows u ≡ true = exact.complete u (all.0.0, all.0.1, (a, us, l, w, all.1, path.1)) in
        let here_u : Reached (steps_to nat_eq step) p u = (suc r.0, (e, r.1, back.complete e u o path.0)) in
        elim (or_cases (nat_eq m (c.line u)) (holds nat_eq m (map c.line us)) h) as
        (λ _. (q : ℕ) × Reached (steps_to nat_eq step) p q × (c.line q ≡ m)) [
          | inl t ↦ (u, here_u, sym (eqb-true m (c.line u) t))
          | inr t ↦ goes_back a l w us u m all.1 path.1 here_u t
        ]

    pub younger_is_met : (sets m : ℕ) → IsYounger c sets within p m → IsMet step c.line p line sets m
    younger_is_met sets m y =
        let leads = y.2.2 in
        let inside : AllByRecursion (λ u. (within u ≡ true) × (c.line u ≢ line)) y.2.1 = subst
        (λ (k : ℕ). AllByRecursion (λ u. (within u ≡ true) × (c.line u ≢ k)) y.2.1) is_line leads.inside in (
          (λ e. y.0 (e ∙ sym is_line)),
          y.1 ∙ ap (λ (x : ℕ). x % sets) is_line,
          goes_back y.2.0 (leads.from ∙ is_line) leads.starts y.2.1 p m
              inside leads.path (0, refl) y.2.3,
        )

    pub many_are_younger : (sets n : ℕ) → AtLeast n (IsMet step c.line p line sets) → AtLeast n (IsYounger c sets within p)
    many_are_younger sets n a = (a.0, a.1, (λ m h. met_is_younger sets m (a.2 m h)), a.3)

    pub many_are_met : (sets n : ℕ) → AtLeast n (IsYounger c sets within p) → AtLeast n (IsMet step c.line p line sets)
    many_are_met sets n a = (a.0, a.1, (λ m h. younger_is_met sets m (a.2 m h)), a.3)
