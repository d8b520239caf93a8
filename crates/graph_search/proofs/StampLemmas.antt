-- Stamps after one mark more, and in a new round.
use Rattle.std.proofs.Common.{◌≡◌, ◌≢◌, inl, inr, ℕ, ◌+◌, ◌<◌, ◌≤◌, Bool, true, false, List, [], ◌∷◌, ◌++◌, length, sym}
use Rattle.std.proofs.Common.{ap, ◌∙◌, subst, arith}
use Rattle.std.specs.Prelude.{nat_eq, ◌||◌, slice_index_or, slice_set}
use Rattle.std.proofs.lemmas.Bool.{cases_eq, eq-eqb}
use Rattle.std.proofs.lemmas.Bool.Decides.{nat_tests}
use Rattle.std.proofs.lemmas.List.{get_or-set_same, get_or-set_other}
use Rattle.graph_search.specs.NodeLists.{holds}
use Rattle.graph_search.proofs.ListLemmas.{holds_first, holds_right, nat_equality}
use Rattle.graph_search.specs.Marking.{AreStamps}

holds_other : (q p : ℕ) (ps : List ℕ) → q ≢ p → holds nat_eq q (ps ++ p ∷ []) ≡ holds nat_eq q ps
holds_other q p [] ne = grind (arith, nat_tests)
holds_other q p (x ∷ ps) ne = ap (λ (b : Bool). nat_eq q x || b) (holds_other q p ps ne)

pub one_mark : (stamps : List ℕ) (round p : ℕ) (ps qs : List ℕ) → p < length stamps → AreStamps stamps round ps → qs
    ≡ ps ++ p ∷ [] → AreStamps (slice_set stamps p round) round qs
one_mark stamps round p ps qs lt are is =
    record {
      some = are.some;
      exact = λ q. elim (cases_eq q p) as (λ _. nat_eq (slice_index_or (slice_set stamps p round) q 0) round
          ≡ holds nat_eq q qs) [
            | inl e ↦ subst (λ (x : ℕ). nat_eq (slice_index_or (slice_set stamps p round) x 0) round
                ≡ holds nat_eq x qs)
                (sym e)
                (eq-eqb (slice_index_or (slice_set stamps p round) p 0) round (get_or-set_same stamps p round 0 lt)
                ∙ sym
                (subst (λ (ys : List ℕ). holds nat_eq p ys ≡ true) (sym is)
                (holds_right ℕ nat_equality p ps (p ∷ []) (holds_first ℕ nat_equality p []))))
            | inr ne ↦ ap (λ (x : ℕ). nat_eq x round) (get_or-set_other stamps p q round 0 ne) ∙ are.exact q ∙ sym
                (ap (holds nat_eq q) is ∙ holds_other q p ps ne)
          ];
      most = λ q. elim (cases_eq q p) as (λ _. slice_index_or (slice_set stamps p round) q 0 ≤ round) [
        | inl e ↦ subst (λ (x : ℕ). slice_index_or (slice_set stamps p round) x 0 ≤ round) (sym e)
            (let g : slice_index_or (slice_set stamps p round) p 0 ≡ round = get_or-set_same stamps p round 0 lt
            in omega (arith, g))
        | inr ne ↦ let g : slice_index_or (slice_set stamps p round) q 0
            ≡ slice_index_or stamps q 0 = get_or-set_other stamps p q round 0 ne
            in let m : slice_index_or stamps q 0 ≤ round = are.most q in omega (arith, g, m)
      ];
    }

apart_round : (a round : ℕ) → a ≤ round → nat_eq a (round + 1) ≡ false
apart_round a round le = grind (arith, nat_tests)

pub new_round : (stamps : List ℕ) (round : ℕ) (ps : List ℕ) → AreStamps stamps round ps → AreStamps stamps
    (round + 1) []
new_round stamps round ps are =
    record {
      some = let s : 1 ≤ round = are.some in omega (arith, s);
      exact = λ q. apart_round (slice_index_or stamps q 0) round (are.most q);
      most = λ q. let m : slice_index_or stamps q 0 ≤ round = are.most q in omega (arith, m);
    }
