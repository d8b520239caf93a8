-- The visits of a route are a walk of the flow and a run of its points, and spend what the route costs.
use Rattle.std.proofs.Common.{◌≡◌, ℕ, ◌+◌, Bool, Option, Some, List, [], ◌∷◌, ◌++◌, map, refl, sym, ap, ◌∙◌, subst}
use Rattle.std.specs.Prelude.{slice_get}
use Rattle.std.specs.List.{AllByRecursion}
use Rattle.std.proofs.lemmas.List.{map-append}
use Rattle.fetch_timing.specs.declared.timing.Timing.{Timing}
use Rattle.control_flow.specs.Points.{Point}
use Rattle.control_flow.specs.Routes.{Taken, Way}
use Rattle.basic_blocks.specs.Blocks.{Chain, points}
use Rattle.persistence.specs.BlockHistories.{IsHistory, history}
use Rattle.persistence.specs.Spots.{turned}
use Rattle.persistence.specs.Younger.{Linked}
use Rattle.interval_loops.specs.Loops.{LoopFlow}
use Rattle.interval_loops.specs.Trails.{IsWalk, Ran, Visit, next_visit, visits_after}
use Rattle.tree_law.specs.Pieces.{over}
use Rattle.persistence.specs.Runs.{IsRun}
use Rattle.cycle_bounds.specs.Analyses.{Analysis, IsAnalysis, all_uses, reversed_of, flow_of, points_at, points_in, spots_of}
use Rattle.cycle_bounds.specs.Turns.{IsListed, points_along}
use Rattle.cycle_bounds.specs.Visits.{ArePassed, IsPassed, Passed, all_taken, cycles, numbers_of, rans}
use Rattle.cycle_bounds.proofs.VisitCostLemmas.{cycles_joined}
use Rattle.cycle_bounds.proofs.VisitNumberLemmas.{linked_on, linked_turned, turned_end}
use Rattle.cycle_bounds.proofs.SpotLemmas.{missed_place}

-- ---- lists

pub all_joined : {A : Type 0} (P : A → Type 0) (xs ys : List A) → AllByRecursion P xs → AllByRecursion P ys → AllByRecursion P (xs ++ ys)
all_joined P [] ys all rest = rest
all_joined P (x ∷ xs) ys all rest = (all.0, all_joined P xs ys all.1 rest)

pub all_front : {A : Type 0} (P : A → Type 0) (xs ys : List A) → AllByRecursion P (xs ++ ys) → AllByRecursion P xs
all_front P [] ys all = tt
all_front P (x ∷ xs) ys all = (all.0, all_front P xs ys all.1)

pub all_back : {A : Type 0} (P : A → Type 0) (xs ys : List A) → AllByRecursion P (xs ++ ys) → AllByRecursion P ys
all_back P [] ys all = all
all_back P (x ∷ xs) ys all = all_back P xs ys all.1

all_numbers : (P : ℕ → Type 0) (w : List (Taken ℕ)) → AllByRecursion P (numbers_of w) → AllByRecursion (λ x. P x.point) w
all_numbers P [] all = tt
all_numbers P (x ∷ w) all = (all.0, all_numbers P w all.1)

abbrev pub blocks_of : List Passed → List ℕ
blocks_of xs = map (λ (x : Passed). x.block) xs

abbrev pub sum_spent : List Ran → ℕ
sum_spent [] = 0
sum_spent (x ∷ xs) = x.spent + sum_spent xs

pub visits_spend : (f : LoopFlow) (round : ℕ → ℕ → ℕ) (time : ℕ) (v : Visit) (xs : List Ran)
    → over (λ u. u.spent) (visits_after f round time v xs) ≡ sum_spent xs
visits_spend f round time v [] = refl
visits_spend f round time v (x ∷ xs) = ap (λ (k : ℕ). x.spent + k) (visits_spend f round (time + 1) (next_visit f round time v x) xs)

pub passed_points : (a : Analysis) (x : Passed) → IsPassed a x → numbers_of x.taken ≡ points_at a x.block
passed_points a x p = p.1 ∙ ap points_in (sym p.0)

pub each_passed : (ways : Point → List (Way Point)) (a : Analysis) (x : Passed) (xs : List Passed) → ArePassed ways a x xs
    → AllByRecursion (IsPassed a) (x ∷ xs)
each_passed ways a x [] p = (p.0, tt)
each_passed ways a x (y ∷ ys) p = (p.0, each_passed ways a y ys p.2)

pub all_listed : (a : Analysis) (xs : List Passed) → AllByRecursion (IsPassed a) xs → AllByRecursion (IsListed a) (blocks_of xs)
all_listed a [] all = tt
all_listed a (x ∷ xs) all = ((x.chain, all.0.0), all_listed a xs all.1)

pub along : (a : Analysis) (xs : List Passed) → AllByRecursion (IsPassed a) xs → points_along a (blocks_of xs) ≡ numbers_of (all_taken xs)
along a [] all = refl
along a (x ∷ xs) all =
    both (points_at a x.block) (numbers_of x.taken) (points_along a (blocks_of xs)) (numbers_of (all_taken xs))
    (sym (passed_points a x all.0)) (along a xs all.1)
    ∙ sym (map-append (λ (y : Taken ℕ). y.point) x.taken (all_taken xs))
  where
    both : (p q r s : List ℕ) → p ≡ q → r ≡ s → p ++ r ≡ q ++ s
    both p q r s e f = cc

module _ (ways : Point → List (Way Point)) (start : Point) (line most : Point → ℕ) (cost : Point → Bool → ℕ) (t : Timing)
    (sets : List (List ℕ)) (a : Analysis) (is : IsAnalysis ways start line most t a) where
  -- the lines are the points' own
  pub all_lined : (xs : List Passed) → AllByRecursion (IsPassed a) xs
      → AllByRecursion (λ x. a.code.line x.point ≡ line (a.point x.point)) (all_taken xs)
  all_lined [] all = tt
  all_lined (x ∷ xs) all =
      all_joined (λ y. a.code.line y.point ≡ line (a.point y.point)) x.taken (all_taken xs)
      (all_numbers (λ p. a.code.line p ≡ line (a.point p)) x.taken
      (subst (AllByRecursion (λ p. a.code.line p ≡ line (a.point p))) (sym all.0.1) (is.numbers.lines x.block x.chain all.0.0)))
      (all_lined xs all.1)

  pub walk : (x : Passed) (xs : List Passed) (bs : List ℕ) → ArePassed ways a x xs → IsWalk (flow_of a) x.block (rans cost t sets a bs xs)
  walk x [] bs p = (is.numbers.inside x.block x.chain p.0.0, is.numbers.leaves x.block x.chain p.0.0 p.1)
  walk x (y ∷ ys) bs p = (
    is.numbers.inside x.block x.chain p.0.0,
    (is.numbers.crosses x.block y.block x.chain y.chain p.0.0 (listed y ys p.2) p.1).1,
    walk y
        ys (y.block ∷ bs) p.2,
  )
    where
      listed : (y : Passed) (ys : List Passed) → ArePassed ways a y ys → slice_get a.blocks y.block ≡ Some y.chain
      listed y ys p = (each_passed ways a y ys p).0.0

  -- the history with one block more
  history_on : (x : Passed) (bs : List ℕ) → IsPassed a x → turned (points x.chain) (history (reversed_of a) bs) ≡ history (reversed_of a)
      (x.block ∷ bs)
  history_on x bs p = turned_end (points x.chain) (history (reversed_of a) bs)
      ∙ ap (λ (o : Option (Chain ℕ)). turned (points_in o) [] ++ history (reversed_of a) bs) (sym p.0)

  before_of : (x : Passed) (bs : List ℕ) → IsPassed a x → Linked a.code.next x.chain.first (history (reversed_of a) bs)
      → IsHistory a.code.next (turned (points x.chain) (history (reversed_of a) bs))
  before_of x bs p l = linked_turned a.code.next x.chain.first x.chain.rest (history (reversed_of a) bs)
      (is.numbers.steps x.block x.chain p.0) l

  pub run : (x : Passed) (xs : List Passed) (bs : List ℕ) → ArePassed ways a x xs
      → Linked a.code.next x.chain.first (history (reversed_of a) bs)
      → IsRun t a.code (reversed_of a) (all_uses a) sets bs (rans cost t sets a bs (x ∷ xs))
  run x [] bs p l = (
    subst (IsHistory a.code.next) (history_on x bs p.0) (before_of x bs p.0 l),
    (λ k m. missed_place t sets a.code (history (reversed_of a) bs) (spots_of a x.block) k m),
    tt,
  )
  run x (y ∷ ys) bs p l =
      let there = (each_passed ways a y ys p.2).0 in (
        subst (IsHistory a.code.next) (history_on x bs p.0) (before_of x bs p.0 l),
        (λ k m. missed_place t sets a.code (history (reversed_of a) bs) (spots_of a x.block) k m),
        run y ys (x.block ∷ bs) p.2
            (subst (Linked a.code.next y.chain.first) (history_on x bs p.0)
            (linked_on a.code.next y.chain.first x.chain.first x.chain.rest (history (reversed_of a) bs)
            (is.numbers.crosses x.block y.block x.chain y.chain p.0.0 there.0 p.1).0 (before_of x bs p.0 l))),
      )

  pub rans_spend : (xs : List Passed) (bs : List ℕ) → AllByRecursion (IsPassed a) xs
      → cycles cost t sets a (history (reversed_of a) bs) (all_taken xs) ≡ sum_spent (rans cost t sets a bs xs)
  rans_spend [] bs all = refl
  rans_spend (x ∷ xs) bs all =
      let same : turned (numbers_of x.taken) (history (reversed_of a) bs) ≡ history (reversed_of a) (x.block ∷ bs) = ap
      (λ (ps : List ℕ). turned ps (history (reversed_of a) bs)) all.0.1 ∙ history_on x bs all.0 in
      cycles_joined cost most t sets a x.taken (all_taken xs) (history (reversed_of a) bs)
      ∙ ap (λ (h : List ℕ). cycles cost t sets a (history (reversed_of a) bs) x.taken + cycles cost t sets a h (all_taken xs)) same
      ∙ ap (λ (k : ℕ). cycles cost t sets a (history (reversed_of a) bs) x.taken + k) (rans_spend xs (x.block ∷ bs) all.1)
