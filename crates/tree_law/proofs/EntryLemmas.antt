-- What bounds a loop: its entries, each of some turns and a way out.
use Rattle.std.proofs.Common.{◌≡◌, ℕ, zero, ◌+◌, ◌*◌, ◌≤◌, Bool, true, false, if◌then◌else◌, nat_le, max, List, [], ◌∷◌, ◌++◌, length, refl}
use Rattle.std.proofs.Common.{sym, ap, subst, arith}
use Rattle.std.specs.List.{AllByRecursion}
use Rattle.wsym_terms.specs.Extents.{Extent, Finite, Infinite, plus, times, IsAtMost, IsWithin}
use Rattle.wsym_terms.specs.Trees.{Meaning, part, outside, loop_value}
use Rattle.wsym_terms.proofs.ExtentLaws.{times_suc}
use Rattle.interval_loops.specs.Trails.{Visit}
use Rattle.tree_law.specs.Pieces.{over, over_all, total, AtMostOnce, Same, IsBoundOf, Entry, flat}
use Rattle.tree_law.proofs.SumLemmas.{within_plus, within_at_most, over_append, over_flat, Among, once_among, same_among}

abbrev pub joined : List (List (List Visit)) → List (List Visit)
joined [] = []
joined (g ∷ gs) = g ++ joined gs

over_all_append : (w : Visit → ℕ) (xs ys : List (List Visit)) → over_all w (xs ++ ys) ≡ over_all w xs + over_all w ys
over_all_append w [] ys = omega arith
over_all_append w (x ∷ xs) ys = omega (arith, over_all_append w xs ys)

all_append : (P : List Visit → Type 0) (xs ys : List (List Visit)) → AllByRecursion P xs → AllByRecursion P ys → AllByRecursion P (xs ++ ys)
all_append P [] ys a b = b
all_append P (x ∷ xs) ys a b = (a.0, all_append P xs ys a.1 b)

length_append : (xs ys : List (List Visit)) → length (xs ++ ys) ≡ length xs + length ys
length_append [] ys = omega arith
length_append (x ∷ xs) ys = omega (arith, length_append xs ys)

-- the pieces of one entry: of a language, not too many, and steady
pub record IsGroup (P : List Visit → Type 0) (turns depth : ℕ) (ys : List (List Visit)) : Type 0 where
  pub all : AllByRecursion P ys
  pub few : length ys ≤ turns
  pub steady : (d : ℕ) → d ≤ depth + 1 → Same d ys

-- some entries of a loop, as the groups of their turns and of their ways out
pub record Entries (B E : List Visit → Type 0) (turns depth : ℕ) (xs : List (List Visit)) : Type 0 where
  pub bodies : List (List (List Visit))
  pub exits : List (List (List Visit))
  pub all_bodies : AllByRecursion (IsGroup B turns depth) bodies
  pub all_exits : AllByRecursion (IsGroup E 1 depth) exits
  pub many_bodies : length bodies ≡ length xs
  pub many_exits : length exits ≡ length xs
  pub sums : (w : Visit → ℕ) → over_all w xs ≡ over_all w (joined bodies) + over_all w (joined exits)

pub entries : (B E : List Visit → Type 0) (turns depth : ℕ) (xs : List (List Visit)) → AllByRecursion (Entry (Finite turns) depth B E) xs
    → Entries B E turns depth xs
entries B E turns depth [] all = record {
  bodies = [];
  exits = [];
  all_bodies = tt;
  all_exits = tt;
  many_bodies = refl;
  many_exits = refl;
  sums = λ w. refl;
}
entries B E turns depth (x ∷ xs) all = with_front (entries B E turns depth xs all.1)
  where
    piece : (w : Visit → ℕ) → over w x ≡ over_all w all.0.0 + over w all.0.1
    piece w = omega (arith, ap (over w) all.0.5, over_append w (flat all.0.0) all.0.1, over_flat w all.0.0)

    with_front : Entries B E turns depth xs → Entries B E turns depth (x ∷ xs)
    with_front r = record {
      bodies = all.0.0 ∷ r.bodies;
      exits = (all.0.1 ∷ []) ∷ r.exits;
      all_bodies = (
        record {
          all = all.0.2;
          few = all.0.4;
          steady = λ d h. same_among all.0.0 (x ∷ []) (record { less = λ w. omega (arith, piece w) }) d (all.0.6 d h);
        },
        r.all_bodies,
      );
      all_exits = (
        record {
          all = (all.0.3, tt);
          few = omega arith;
          steady = λ d h. same_among (all.0.1 ∷ []) (x ∷ []) (record { less = λ w. omega (arith, piece w) }) d (all.0.6 d h);
        },
        r.all_exits,
      );
      many_bodies = omega (arith, r.many_bodies);
      many_exits = omega (arith, r.many_exits);
      sums = λ w. omega (
        arith,
        piece w,
        r.sums w,
        over_all_append w all.0.0 (joined r.bodies),
        over_all_append w (all.0.1 ∷ [])
            (joined r.exits),
      );
    }

module _ (scopes : ℕ → ℕ → ℕ) where
  -- entries together, where no scope lies within one
  together : (P : List Visit → Type 0) (turns depth : ℕ) (gs : List (List (List Visit))) → AllByRecursion (IsGroup P turns depth) gs
      → AllByRecursion P (joined gs)
  together P turns depth [] all = tt
  together P turns depth (g ∷ gs) all = all_append P g (joined gs) all.0.all (together P turns depth gs all.1)

  few_together : (P : List Visit → Type 0) (turns depth : ℕ) (gs : List (List (List Visit))) → AllByRecursion (IsGroup P turns depth) gs
      → length (joined gs) ≤ length gs * turns
  few_together P turns depth [] all = omega arith
  few_together P turns depth (g ∷ gs) all =
      let rest = few_together P turns depth gs all.1 in
      let here : length g ≤ turns = all.0.few in
      omega (arith, rest, here, length_append g (joined gs))

  -- each entry alone
  apart : (P : List Visit → Type 0) (scope turns depth : ℕ) (f : ℕ → Extent) → IsBoundOf scopes scope f P →
      ((m n : ℕ) → m ≤ n → IsAtMost (f m) (f n)) → scope ≤ depth + 1
      → (gs : List (List (List Visit))) → AllByRecursion (IsGroup P turns depth) gs → AtMostOnce scopes (joined gs) → IsWithin
      (total (joined gs)) (times (length gs) (f turns))
  apart P scope turns depth f b more inside [] all once = none (f turns)
    where
      none : (e : Extent) → IsWithin 0 (times zero e)
      none (Finite a) = omega arith
      none Infinite = omega arith
  apart P scope turns depth f b more inside (g ∷ gs) all once =
      let front : Among g (joined (g ∷ gs)) = record { less = λ w. omega (arith, over_all_append w g (joined gs)) } in
      let later : Among (joined gs) (joined (g ∷ gs)) = record { less = λ w. omega (arith, over_all_append w g (joined gs)) } in
      let here : IsWithin (total g) (f (length g)) = b g all.0.all (once_among scopes g (joined (g ∷ gs)) front once)
      (λ d h. all.0.steady d (omega arith)) in
      let enough : IsWithin (total g) (f turns) = within_at_most (total g) (f (length g)) (f turns) here
      (more (length g) turns all.0.few) in
      let rest : IsWithin (total (joined gs)) (times (length gs) (f turns)) = apart P scope turns depth f b more inside gs all.1
      (once_among scopes (joined gs) (joined (g ∷ gs)) later once) in
      subst (λ (e : Extent). IsWithin (total (g ++ joined gs)) e) (sym (times_suc (length gs) (f turns)))
      (subst (λ (n : ℕ). IsWithin n (plus (f turns) (times (length gs) (f turns)))) (sym (over_all_append (λ v. v.spent) g (joined gs)))
      (within_plus (total g) (total (joined gs)) (f turns) (times (length gs) (f turns)) enough rest))

  part_bound : (P : List Visit → Type 0) (m : Meaning) (turns depth : ℕ) → IsBoundOf scopes (m.scope (depth + 1)) (m.value (depth + 1)) P →
      ((a b : ℕ) → a ≤ b → IsAtMost (m.value (depth + 1) a) (m.value (depth + 1) b)) → m.scope (depth + 1) ≤ depth + 1
      → (gs : List (List (List Visit))) → AllByRecursion (IsGroup P turns depth) gs → AtMostOnce scopes (joined gs) →
      ((d : ℕ) → d ≤ outside m depth → Same d (joined gs)) → IsWithin (total (joined gs)) (part m depth (length gs) turns)
  part_bound P m turns depth b more inside gs all once same = by_test (nat_le (m.scope (depth + 1)) depth) same
    where
      by_test : (t : Bool) → ((d : ℕ) → d ≤ (if t then m.scope (depth + 1) else 0) → Same d (joined gs)) → IsWithin (total (joined gs))
          (if t then m.value (depth + 1) (length gs * turns) else times (length gs) (m.value (depth + 1) turns))
      by_test true same =
          within_at_most (total (joined gs)) (m.value (depth + 1) (length (joined gs))) (m.value (depth + 1) (length gs * turns))
          (b (joined gs) (together P turns depth gs all) once same)
          (more (length (joined gs)) (length gs * turns) (few_together P turns depth gs all))
      by_test false same = apart P (m.scope (depth + 1)) turns depth (m.value (depth + 1)) b more inside gs all once

  pub loop_bound : (B E : List Visit → Type 0) (bound : Extent) (body exit : Meaning) (depth : ℕ) → IsBoundOf scopes
      (body.scope (depth + 1)) (body.value (depth + 1)) B → IsBoundOf scopes (exit.scope (depth + 1)) (exit.value (depth + 1)) E
      → ((a b : ℕ) → a ≤ b → IsAtMost (body.value (depth + 1) a) (body.value (depth + 1) b)) →
      ((a b : ℕ) → a ≤ b → IsAtMost (exit.value (depth + 1) a) (exit.value (depth + 1) b))
      → body.scope (depth + 1) ≤ depth + 1 → exit.scope (depth + 1) ≤ depth + 1
      → IsBoundOf scopes (max (outside body depth) (outside exit depth)) (loop_value bound body exit depth) (Entry bound depth B E)
  loop_bound B E Infinite body exit depth b e mb me sb se xs all once same = tt
  loop_bound B E (Finite turns) body exit depth b e mb me sb se xs all once same = by_entries (entries B E turns depth xs all)
    where
      by_entries : Entries B E turns depth xs → IsWithin (total xs) (plus (part body depth (length xs) turns)
          (part exit depth (length xs) 1))
      by_entries r =
          let inner : Among (joined r.bodies) xs = record { less = λ w. omega (arith, r.sums w) } in
          let outer : Among (joined r.exits) xs = record { less = λ w. omega (arith, r.sums w) } in
          let one : IsWithin (total (joined r.bodies)) (part body depth (length xs) turns) = subst
          (λ (n : ℕ). IsWithin (total (joined r.bodies)) (part body depth n turns)) r.many_bodies
          (part_bound B body turns depth b mb sb r.bodies r.all_bodies (once_among scopes (joined r.bodies) xs inner once)
          (λ d h. same_among (joined r.bodies) xs inner d (same d (omega arith)))) in
          let two : IsWithin (total (joined r.exits)) (part exit depth (length xs) 1) = subst
          (λ (n : ℕ). IsWithin (total (joined r.exits)) (part exit depth n 1)) r.many_exits
          (part_bound E exit 1 depth e me se r.exits r.all_exits (once_among scopes (joined r.exits) xs outer once)
          (λ d h. same_among (joined r.exits) xs outer d (same d (omega arith)))) in
          subst (λ (n : ℕ). IsWithin n (plus (part body depth (length xs) turns) (part exit depth (length xs) 1)))
          (sym (r.sums (λ v. v.spent)))
          (within_plus (total (joined r.bodies)) (total (joined r.exits)) (part body depth (length xs) turns)
          (part exit depth (length xs) 1) one two)
