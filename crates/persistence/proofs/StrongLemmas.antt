-- In a loop all points of other lines follow the line: there the search back wants no search forward.
use Rattle.std.proofs.Common.{◌≡◌, ◌≢◌, ℕ, ◌⊎◌, inl, inr, Bool, true, false, eqb, List, [], ◌∷◌}
use Rattle.std.specs.List.{AllByRecursion}
use Rattle.std.proofs.lemmas.Bool.Decides.{eqb_tells, nat_tests}
use Rattle.std.proofs.Common.{arith}
use Rattle.persistence.specs.Searches.{TestsFollowing, IsStrong, is_other}
use Rattle.persistence.specs.Younger.{Code, Path}

module _ (c : Code) (within : ℕ → Bool) (line : ℕ) where
  abbrev pub Cut : ℕ → Type 0
  Cut q = (a : ℕ) × (us : List ℕ) × (c.line a ≡ line) × (within a ≡ true) × AllByRecursion (λ u. (within u ≡ true) × (c.line u ≢ line)) us
      × Path c.next a us q

  -- a path from a point of the line, from its last such point on
  pub cut : (p : ℕ) (us : List ℕ) (q : ℕ) → within p ≡ true → c.line p ≡ line → AllByRecursion (λ u. within u ≡ true) us
      → Path c.next p us q → Cut q
  cut p [] q w is all path = (p, [], is, w, tt, path)
  cut p (u ∷ us) q w is all path = by_test (cut p us u w is all.1 path.1) (eqb_tells (c.line u) line)
    where
      by_test : Cut u → ((eqb (c.line u) line ≡ true) × (c.line u ≡ line)) ⊎ ((eqb (c.line u) line ≡ false) × (c.line u ≢ line)) → Cut q
      by_test r (inl e) = (u, [], e.1, all.0, tt, path.0)
      by_test r (inr ne) = (r.0, u ∷ r.1, r.2, r.3, ((all.0, ne.1), r.4), (path.0, r.5))

  pub is_other_sound : (q : ℕ) → is_other c within line q ≡ true → (within q ≡ true) × (c.line q ≢ line)
  is_other_sound q h = grind (arith, nat_tests)

  pub is_other_complete : (q : ℕ) → within q ≡ true → c.line q ≢ line → is_other c within line q ≡ true
  is_other_complete q w ne = grind (arith, nat_tests)

  pub all_follow : IsStrong c within → (p : ℕ) → within p ≡ true → c.line p ≡ line → TestsFollowing c within line (is_other c within line)
  all_follow strong p w is =
      record {
        sound = λ q h.
            let o = is_other_sound q h in
            let way = strong p q w o.0 in
            let r = cut p way.0 q w is way.1 way.2 in
            (o.0, o.1, (r.0, r.1, r.2, r.3, r.4, r.5));
        complete = λ q b. is_other_complete q b.0 b.1;
      }
