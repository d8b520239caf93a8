-- Sums over pieces: their parts, and what passes from some pieces to their parts.
use Rattle.std.proofs.Common.{◌≡◌, ℕ, ◌+◌, ◌≤◌, ◌⊎◌, inl, inr, List, [], ◌∷◌, ◌++◌, length, refl, ap, arith}
use Rattle.std.specs.List.{AllByRecursion}
use Rattle.wsym_terms.specs.Extents.{Extent, Finite, Infinite, plus, IsAtMost, IsWithin}
use Rattle.interval_loops.specs.Trails.{Visit}
use Rattle.tree_law.specs.Pieces.{over, over_all, hits, differs, AtMostOnce, Same, Then, Or, flat}

pub within_plus : (a b : ℕ) (e f : Extent) → IsWithin a e → IsWithin b f → IsWithin (a + b) (plus e f)
within_plus a b (Finite m) (Finite n) p q = omega arith
within_plus a b (Finite m) Infinite p q = tt
within_plus a b Infinite f p q = tt

pub within_at_most : (a : ℕ) (e f : Extent) → IsWithin a e → IsAtMost e f → IsWithin a f
within_at_most a e Infinite p q = tt
within_at_most a (Finite m) (Finite n) p q = omega arith
within_at_most a Infinite (Finite n) p q = absurd q

pub over_append : (w : Visit → ℕ) (x y : List Visit) → over w (x ++ y) ≡ over w x + over w y
over_append w [] y = omega arith
over_append w (v ∷ x) y = omega (arith, over_append w x y)

pub over_flat : (w : Visit → ℕ) (xs : List (List Visit)) → over w (flat xs) ≡ over_all w xs
over_flat w [] = refl
over_flat w (x ∷ xs) = omega (arith, over_append w x (flat xs), over_flat w xs)

-- the visits of some pieces lie among those of others
pub record Among (ys xs : List (List Visit)) : Type 0 where
  pub less : (w : Visit → ℕ) → over_all w ys ≤ over_all w xs

pub once_among : (scopes : ℕ → ℕ → ℕ) (ys xs : List (List Visit)) → Among ys xs → AtMostOnce scopes xs → AtMostOnce scopes ys
once_among scopes ys xs a once b k e = omega (arith, a.less (hits scopes b k e), once b k e)

pub same_among : (ys xs : List (List Visit)) → Among ys xs → (d : ℕ) → Same d xs → Same d ys
same_among ys xs a d same = (same.0, omega (arith, a.less (differs d same.0), same.1))

-- some pieces as those of two kinds, with the numbers of both
pub record Shared (P Q : List Visit → Type 0) (xs : List (List Visit)) : Type 0 where
  pub first : List (List Visit)
  pub second : List (List Visit)
  pub all_first : AllByRecursion P first
  pub all_second : AllByRecursion Q second
  pub sums : (w : Visit → ℕ) → over_all w xs ≡ over_all w first + over_all w second

pub record Divided (P Q : List Visit → Type 0) (xs : List (List Visit)) : Type 0 where
  pub shared : Shared P Q xs
  pub firsts : length shared.first ≡ length xs
  pub seconds : length shared.second ≡ length xs

pub record Chosen (P Q : List Visit → Type 0) (xs : List (List Visit)) : Type 0 where
  pub shared : Shared P Q xs
  pub together : length shared.first + length shared.second ≡ length xs

pub first_among : (P Q : List Visit → Type 0) (xs : List (List Visit)) (s : Shared P Q xs) → Among s.first xs
first_among P Q xs s = record { less = λ w. omega (arith, s.sums w) }

pub second_among : (P Q : List Visit → Type 0) (xs : List (List Visit)) (s : Shared P Q xs) → Among s.second xs
second_among P Q xs s = record { less = λ w. omega (arith, s.sums w) }

pub divide : (P Q : List Visit → Type 0) (xs : List (List Visit)) → AllByRecursion (Then P Q) xs → Divided P Q xs
divide P Q [] all = record {
  shared = record { first = []; second = []; all_first = tt; all_second = tt; sums = λ w. refl };
  firsts = refl;
  seconds = refl;
}
divide P Q (x ∷ xs) all = with_front (divide P Q xs all.1)
  where
    with_front : Divided P Q xs → Divided P Q (x ∷ xs)
    with_front r = record {
      shared = record {
        first = all.0.0 ∷ r.shared.first;
        second = all.0.1 ∷ r.shared.second;
        all_first = (all.0.2, r.shared.all_first);
        all_second = (all.0.3, r.shared.all_second);
        sums = λ w. omega (arith, ap (over w) all.0.4, over_append w all.0.0 all.0.1, r.shared.sums w);
      };
      firsts = omega (arith, r.firsts);
      seconds = omega (arith, r.seconds);
    }

pub choose : (P Q : List Visit → Type 0) (xs : List (List Visit)) → AllByRecursion (Or P Q) xs → Chosen P Q xs
choose P Q [] all = record {
  shared = record { first = []; second = []; all_first = tt; all_second = tt; sums = λ w. refl };
  together = refl;
}
choose P Q (x ∷ xs) all = with_front all.0 (choose P Q xs all.1)
  where
    with_front : P x ⊎ Q x → Chosen P Q xs → Chosen P Q (x ∷ xs)
    with_front (inl p) r = record {
      shared = record {
        first = x ∷ r.shared.first;
        second = r.shared.second;
        all_first = (p, r.shared.all_first);
        all_second = r.shared.all_second;
        sums = λ w. omega (arith, r.shared.sums w);
      };
      together = omega (arith, r.together);
    }
    with_front (inr q) r = record {
      shared = record {
        first = r.shared.first;
        second = x ∷ r.shared.second;
        all_first = r.shared.all_first;
        all_second = (q, r.shared.all_second);
        sums = λ w. omega (arith, r.shared.sums w);
      };
      together = omega (arith, r.together);
    }
