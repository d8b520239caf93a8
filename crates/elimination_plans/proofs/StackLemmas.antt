-- What a stack of parts stands for, and how far it still is.
use Rattle.std.proofs.Common.{◌≡◌, ℕ, zero, suc, ◌+◌, ◌<◌, ◌≤◌, inl, inr, max, List, [], ◌∷◌, ◌++◌, map, length, take, get_or, refl, sym}
use Rattle.std.proofs.Common.{ap, subst, ◌∙◌, arith, append_assoc}
use Rattle.wsym_terms.specs.declared.trees.Tree.{Tree}
use Rattle.wsym_terms.specs.declared.trees.Tree.TheVariants.{Seq, Alt}
use Rattle.tree_law.specs.Ways.{members, IsIn}
use Rattle.elimination_plans.specs.declared.plans.Piece.{Piece}
use Rattle.elimination_plans.specs.declared.plans.Piece.TheVariants.{Edge, Node}
use Rattle.elimination_plans.specs.Plans.{way_of, Unrolls, top, Falls, entry_pieces, piece_trees, stacked, height, high, effort, efforts}

pub effort_rises : (h k : ℕ) → h ≤ k → effort h ≤ effort k
effort_rises zero zero l = omega arith
effort_rises zero (suc k) l = omega arith
effort_rises (suc h) zero l = absurd (omega (arith, l))
effort_rises (suc h) (suc k) l = (let r = effort_rises h k (omega (arith, l)) in omega (arith, r))

pub effort_some : (h : ℕ) → 0 < effort h
effort_some zero = omega arith
effort_some (suc h) = omega arith

-- the top of a list is past each of its numbers
pub below_top : (i : ℕ) (is : List ℕ) → IsIn i is → i < top is
below_top i [] e = absurd e
below_top i (j ∷ js) (inl e) = omega (arith, e)
below_top i (j ∷ js) (inr e) = (let r = below_top i js e in omega (arith, r))

module _ (tree : ℕ → Tree) (F : ℕ → ℕ → List (List Tree)) where
  pub stacked_append : (xs ys : List Piece) → stacked tree F (xs ++ ys) ≡ stacked tree F ys ++ stacked tree F xs
  stacked_append [] ys = simp append_none
    where
      append_none : {A : Type 0} (zs : List A) → zs ++ [] ≡ zs
      append_none [] = refl
      append_none (z ∷ zs) = ap (λ l. z ∷ l) (append_none zs)
  stacked_append (x ∷ xs) ys = ap (λ l. l ++ piece_trees tree F x) (stacked_append xs ys) ∙ simp append_assoc

module _ (ways : ℕ → ℕ → List ℕ) where
  pub high_append : (xs ys : List Piece) → high ways (xs ++ ys) ≡ max (high ways xs) (high ways ys)
  high_append [] ys = omega arith
  high_append (x ∷ xs) ys = (let r = high_append xs ys in omega (arith, r))

  pub efforts_append : (xs ys : List Piece) → efforts ways (xs ++ ys) ≡ efforts ways xs + efforts ways ys
  efforts_append [] ys = omega arith
  efforts_append (x ∷ xs) ys = (let r = efforts_append xs ys in omega (arith, r))

  module _ (node : ℕ → ℕ) (falls : Falls node ways) (p q : ℕ) where
    -- the parts of a way are no higher than its number
    pub entry_high : (e : ℕ) → IsIn e (ways p q) → high ways (entry_pieces node p q e) ≤ e
    entry_high zero i = omega arith
    entry_high (suc j) i = (let f = falls p q j i in let a = f.0 in let b = f.1 in omega (arith, a, b))

    pub entry_effort : (e : ℕ) → IsIn e (ways p q) → efforts ways (entry_pieces node p q e) < effort (top (ways p q))
    entry_effort zero i = effort_some (top (ways p q))
    entry_effort (suc j) i =
        let f = falls p q j i in
        let a = effort_rises (top (ways p (node j))) (suc j) f.0 in
        let b = effort_rises (top (ways (node j) q)) (suc j) f.1 in
        let c = effort_rises (suc (suc j)) (top (ways p q)) (below_top (suc j) (ways p q) i) in
        omega (arith, a, b, c)

append_none : {A : Type 0} (zs : List A) → zs ++ [] ≡ zs
append_none [] = refl
append_none (z ∷ zs) = ap (λ l. z ∷ l) (append_none zs)

grouped : {A : Type 0} (xs ys zs : List A) → (xs ++ ys) ++ zs ≡ xs ++ (ys ++ zs)
grouped xs ys zs = simp append_assoc

map_append : {A B : Type 0} (f : A → B) (xs ys : List A) → map f (xs ++ ys) ≡ map f xs ++ map f ys
map_append f [] ys = refl
map_append f (x ∷ xs) ys = ap (λ l. f x ∷ l) (map_append f xs ys)

in_list : (xs : List ℕ) (i d : ℕ) → i < length xs → IsIn (get_or xs i d) xs
in_list [] i d h = absurd (omega (arith, h))
in_list (x ∷ xs) zero d h = inl refl
in_list (x ∷ xs) (suc i) d h = inr (in_list xs i d (omega (arith, h)))

pub choice_high : (ways : ℕ → ℕ → List ℕ) (node : ℕ → ℕ) → Falls node ways → (p q i : ℕ) (items : List ℕ) (stack : List Piece)
    → items ≡ ways p q → i < length items → stack ≡ [] ++ entry_pieces node p q (get_or items i 0) → high ways stack < top (ways p q)
choice_high ways node falls p q i items stack same h is =
    let e : ℕ = get_or items i 0 in
    let inside : IsIn e (ways p q) = subst (λ l. IsIn e l) same (in_list items i 0 h) in
    let a : high ways (entry_pieces node p q e) ≤ e = entry_high ways node falls p q e inside in
    let b : e < top (ways p q) = below_top e (ways p q) inside in
    subst (λ s. high ways s < top (ways p q)) (sym is) (omega (arith, a, b))

module _ (tree : ℕ → Tree) (F : ℕ → ℕ → List (List Tree)) (node : ℕ → ℕ) (p q : ℕ) where
  pub entry_means : (e : ℕ) → stacked tree F (entry_pieces node p q e) ≡ way_of tree node F p q e
  entry_means zero = refl
  entry_means (suc j) = simp append_assoc

  pub next_choices : (items : List ℕ) (i : ℕ) (made more : List Tree) (stack : List Piece) (ts : List Tree) → ts ≡ stacked tree F stack
      → stack ≡ [] ++ entry_pieces node p q (get_or items i 0) → take (i + 1) items ≡ take i items ++ get_or items i 0 ∷ []
      → made ≡ map Seq (map (way_of tree node F p q) (take i items)) → more ≡ made ++ Seq ts ∷ []
      → more ≡ map Seq (map (way_of tree node F p q) (take (i + 1) items))
  next_choices items i made more stack ts is from next so_far pushed =
      pushed
      ∙ ap (λ l. l ++ Seq ts ∷ []) so_far
      ∙ ap (λ l. map Seq (map (way_of tree node F p q) (take i items)) ++ Seq l ∷ [])
      (is ∙ ap (stacked tree F) from ∙ entry_means (get_or items i 0))
      ∙ sym (map_append Seq (map (way_of tree node F p q) (take i items)) (way_of tree node F p q (get_or items i 0) ∷ []))
      ∙ ap (map Seq) (sym (map_append (way_of tree node F p q) (take i items) (get_or items i 0 ∷ [])))
      ∙ ap (λ l. map Seq (map (way_of tree node F p q) l)) (sym next)

  -- a stack with the parts of a way put on it
  pub spread_means : (old new : List Piece) (e : ℕ) → new ≡ old ++ entry_pieces node p q e
      → stacked tree F new ≡ way_of tree node F p q e ++ stacked tree F old
  spread_means old new e is = ap (stacked tree F) is ∙ stacked_append tree F old (entry_pieces node p q e)
      ∙ ap (λ l. l ++ stacked tree F old) (entry_means e)

-- ---- the last part of a stack

module _ (ways : ℕ → ℕ → List ℕ) (all rest : List Piece) where
  pub last_high : (x : Piece) → all ≡ rest ++ x ∷ [] → (height ways x ≤ high ways all) × (high ways rest ≤ high ways all)
  last_high x e = (let h : high ways all ≡ max (high ways rest) (high ways (x ∷ [])) = ap (high ways) e ∙ high_append ways rest (x ∷ []) in
      (omega (arith, h), omega (arith, h)))

  pub last_effort : (x : Piece) → all ≡ rest ++ x ∷ [] → efforts ways all ≡ efforts ways rest + effort (height ways x)
  last_effort x e = (let h : efforts ways all ≡ efforts ways rest + efforts ways (x ∷ []) = ap (efforts ways) e
      ∙ efforts_append ways rest (x ∷ []) in omega (arith, h))

  pub edge_smaller : (new : List Piece) (p q : ℕ) → all ≡ rest ++ Edge p q ∷ []
      → efforts ways new < effort (top (ways p q)) + efforts ways rest → efforts ways new < efforts ways all
  edge_smaller new p q e h = (let l = last_effort (Edge p q) e in omega (arith, h, l))

  pub edge_low : (new : List Piece) (p q bound : ℕ) → all ≡ rest ++ Edge p q ∷ [] → high ways new ≤ max (top (ways p q)) (high ways rest)
      → high ways all ≤ bound → high ways new ≤ bound
  edge_low new p q bound e h b = (let l = last_high (Edge p q) e in let l0 = l.0 in let l1 = l.1 in omega (arith, h, b, l0, l1))

  pub node_smaller : (v : ℕ) → all ≡ rest ++ Node v ∷ [] → efforts ways rest < efforts ways all
  node_smaller v e = (let l = last_effort (Node v) e in omega (arith, l))

  pub node_low : (v bound : ℕ) → all ≡ rest ++ Node v ∷ [] → high ways all ≤ bound → high ways rest ≤ bound
  node_low v bound e b = (let l = last_high (Node v) e in let l1 = l.1 in omega (arith, b, l1))

  -- a way put on the stack
  pub spread_lower : (node : ℕ → ℕ) → Falls node ways → (p q e : ℕ) → IsIn e (ways p q) → all ≡ rest ++ entry_pieces node p q e
      → efforts ways all < effort (top (ways p q)) + efforts ways rest
  spread_lower node falls p q e i is =
      let h : efforts ways all ≡ efforts ways rest + efforts ways (entry_pieces node p q e) = ap (efforts ways) is
      ∙ efforts_append ways rest (entry_pieces node p q e) in
      let l = entry_effort ways node falls p q e i in
      omega (arith, h, l)

  pub spread_low : (node : ℕ → ℕ) → Falls node ways → (p q e : ℕ) → IsIn e (ways p q) → all ≡ rest ++ entry_pieces node p q e
      → high ways all ≤ max (top (ways p q)) (high ways rest)
  spread_low node falls p q e i is =
      let h : high ways all ≡ max (high ways rest) (high ways (entry_pieces node p q e)) = ap (high ways) is
      ∙ high_append ways rest (entry_pieces node p q e) in
      let l = entry_high ways node falls p q e i in
      let t = below_top e (ways p q) i in
      omega (arith, h, l, t)

module _ (tree : ℕ → Tree) (F : ℕ → ℕ → List (List Tree)) where
  last_means : (all rest : List Piece) (x : Piece) → all ≡ rest ++ x ∷ [] → stacked tree F all ≡ piece_trees tree F x ++ stacked tree F rest
  last_means all rest x e = ap (stacked tree F) e ∙ stacked_append tree F rest (x ∷ [])

  pub edge_made : (all rest new : List Piece) (p q : ℕ) (made more want : List Tree) → all ≡ rest ++ Edge p q ∷ []
      → more ++ stacked tree F new ≡ made ++ members (F p q) ++ stacked tree F rest → made ++ stacked tree F all ≡ want
      → more ++ stacked tree F new ≡ want
  edge_made all rest new p q made more want e u h = u ∙ grouped made (members (F p q)) (stacked tree F rest)
      ∙ ap (λ l. made ++ l) (sym (last_means all rest (Edge p q) e)) ∙ h

  pub node_made : (all rest : List Piece) (v : ℕ) (made more want : List Tree) (t : Tree) → all ≡ rest ++ Node v ∷ [] → t ≡ tree v
      → more ≡ made ++ t ∷ [] → made ++ stacked tree F all ≡ want → more ++ stacked tree F rest ≡ want
  node_made all rest v made more want t e is pushed h =
      ap (λ l. l ++ stacked tree F rest) (pushed ∙ ap (λ x. made ++ x ∷ []) is) ∙ grouped made (tree v ∷ []) (stacked tree F rest)
      ∙ ap (λ l. made ++ l) (sym (last_means all rest (Node v) e)) ∙ h

  several : (f : ℕ → List Tree) (ws : List ℕ) → 1 < length ws → members (map f ws) ≡ Alt (map Seq (map f ws)) ∷ []
  several f [] h = absurd (omega (arith, h))
  several f (w ∷ []) h = absurd (omega (arith, h))
  several f (w ∷ u ∷ ws) h = refl

  single : (ws : List ℕ) (e : ℕ) → 0 < length ws → (1 < length ws → ⊥) → e ≡ get_or ws 0 0 → ws ≡ e ∷ []
  single [] e h n is = absurd (omega (arith, h))
  single (w ∷ []) e h n is = ap (λ x. x ∷ []) (sym is)
  single (w ∷ u ∷ ws) e h n is = absurd (n (omega arith))

  module _ (node : ℕ → ℕ) (ways : ℕ → ℕ → List ℕ) (unrolls : Unrolls tree node ways F) (p q : ℕ) where
    pub several_made : (ws : List ℕ) → ws ≡ ways p q → 1 < length ws → (made more cs : List Tree) (old : List Piece) → cs ≡ map Seq (F p q)
        → more ≡ made ++ Alt cs ∷ [] → more ++ stacked tree F old ≡ made ++ members (F p q) ++ stacked tree F old
    several_made ws same h made more cs old is pushed =
        let m : members (F p q) ≡ Alt (map Seq (F p q)) ∷ [] = subst (λ l. members l ≡ Alt (map Seq l) ∷ [])
        (sym (unrolls p q ∙ ap (map (way_of tree node F p q)) (sym same))) (several (way_of tree node F p q) ws h) in
        ap (λ l. l ++ stacked tree F old) (pushed ∙ ap (λ c. made ++ Alt c ∷ []) is ∙ ap (λ l. made ++ l) (sym m))

    pub single_made : (ws : List ℕ) (e : ℕ) → ws ≡ ways p q → 0 < length ws → (1 < length ws → ⊥) → e ≡ get_or ws 0 0
        → (made : List Tree) (old new : List Piece) → new ≡ old ++ entry_pieces node p q e
        → made ++ stacked tree F new ≡ made ++ members (F p q) ++ stacked tree F old
    single_made ws e same h n is made old new from =
        let m : F p q ≡ way_of tree node F p q e ∷ [] = unrolls p q ∙ ap (map (way_of tree node F p q)) (sym same ∙ single ws e h n is) in
        ap (λ l. made ++ l) (spread_means tree F node p q old new e from)
        ∙ sym (grouped made (way_of tree node F p q e) (stacked tree F old))
        ∙ ap (λ l. made ++ l ++ stacked tree F old) (sym (ap members m))

    pub none_made : (ws : List ℕ) → ws ≡ ways p q → (0 < length ws → ⊥) → (made : List Tree) (old : List Piece)
        → made ++ stacked tree F old ≡ made ++ members (F p q) ++ stacked tree F old
    none_made [] same n made old = ap (λ l. l ++ stacked tree F old) (sym (append_none made)
        ∙ ap (λ l. made ++ members l) (sym (unrolls p q ∙ ap (map (way_of tree node F p q)) (sym same))))
    none_made (w ∷ ws) same n made old = absurd (n (omega arith))

pub first_in : (xs : List ℕ) (e : ℕ) → 0 < length xs → e ≡ get_or xs 0 0 → IsIn e xs
first_in [] e h is = absurd (omega (arith, h))
first_in (x ∷ xs) e h is = inl is

pub whole_made : (tree : ℕ → Tree) (F : ℕ → ℕ → List (List Tree)) (old new : List Piece) (p q : ℕ) → new ≡ old ++ Edge p q ∷ [] → old ≡ []
    → stacked tree F new ≡ members (F p q)
whole_made tree F old new p q e none = ap (stacked tree F) (e ∙ ap (λ l. l ++ Edge p q ∷ []) none)
