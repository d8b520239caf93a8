-- No more points of a block miss than its uses do.
use Rattle.std.proofs.Common.{◌≡◌, ℕ, ◌+◌, ◌<◌, ◌≤◌, Bool, true, false, if◌then◌else◌, List, [], ◌∷◌, length, refl, sym, ap, ◌∙◌, arith}
use Rattle.std.specs.Prelude.{not, nat_eq, Option, Some, None}
use Rattle.std.proofs.lemmas.Bool.{eqb-true, false≢true}
use Rattle.fetch_timing.specs.declared.timing.Timing.{Timing}
use Rattle.persistence.specs.BlockHistories.{finds}
use Rattle.persistence.specs.BlockMisses.{IsBefore, always, is_use, missed_uses, missing}
use Rattle.persistence.specs.Younger.{Code}
use Rattle.persistence.proofs.HistoryLemmas.{no_use_hits}

-- a miss is counted: of a use without a scope always, of one with a scope where it misses
one_point : (f u s : Bool) → (u ≡ false → f ≡ true) → (if f then 0 else 1) ≤ (if u then (if s then 0 else 1) else 0) +
    (if u then (if s then (if f then 0 else 1) else 0) else 0)
one_point true u s h = omega arith
one_point false true true h = omega arith
one_point false true false h = omega arith
one_point false false s h = absurd (false≢true (h refl))

not_false : (b : Bool) → not b ≡ false → b ≡ true
not_false true h = refl
not_false false h = absurd (false≢true (sym h))

no_use_finds : (t : Timing) (sets : List (List ℕ)) (c : Code) (before : Option ℕ) (p : ℕ) (h : List ℕ) → 0 < t.sets → 0 < t.ways
    → length sets ≡ t.sets → IsBefore before h → is_use c before p ≡ false → finds t sets c p h ≡ true
no_use_finds t sets c None p h some ways is b u = absurd (false≢true (sym u))
no_use_finds t sets c (Some q) p [] some ways is b u = absurd b
no_use_finds t sets c (Some q) p (x ∷ h) some ways is b u =
    no_use_hits t sets c p x h some ways is (ap c.line b ∙ eqb-true (c.line q) (c.line p) (not_false (nat_eq (c.line q) (c.line p)) u))

pub misses_are_of_uses : (t : Timing) (sets : List (List ℕ)) (c : Code) (scoped : ℕ → Bool) → 0 < t.sets → 0 < t.ways → length sets ≡ t.sets
    → (before : Option ℕ) (ps h : List ℕ) → IsBefore before h
    → missing t sets c ps h ≤ always c scoped before ps + missed_uses t sets c scoped before ps h
misses_are_of_uses t sets c scoped some ways is before [] h b = omega arith
misses_are_of_uses t sets c scoped some ways is before (p ∷ ps) h b =
    let rest = misses_are_of_uses t sets c scoped some ways is (Some p) ps (p ∷ h) refl in
    let one = one_point (finds t sets c p h) (is_use c before p) (scoped p) (no_use_finds t sets c before p h some ways is b) in
    omega (arith, rest, one)
