-- Lines that follow one another, by their list.
use Rattle.std.proofs.Common.{ℕ, ◌≡◌, ◌&&◌, if◌then◌else◌, Bool, true, false, List, [], ◌∷◌, ◌++◌, Some, None, refl, sym, ap, ◌∙◌, subst, append_assoc}
use Rattle.whole_reports.specs.Walk.{Spells}
use Rattle.report_rules.specs.Steps.{after, final, all_may, spelled}

pub both : (a b : Bool) → (a && b) ≡ true → (a ≡ true) × (b ≡ true)
both true true e = (refl, refl)
both true false e = absurd (cc)
both false b e = absurd (cc)

pub and_both : (a b : Bool) → a ≡ true → b ≡ true → (a && b) ≡ true
and_both a b x y = (λ i. x i && b) ∙ y

if_some : {A : Type 0} (b : Bool) (x y : A) → (if b then Some x else None) ≡ Some y → (b ≡ true) × (x ≡ y)
if_some true x y e = (refl, cc)
if_some false x y e = absurd (cc)

module _ {Form Line : Type 0} (text : Form → Line → List ℕ) (may : Form → Line → Bool) (put : Form → Line → Form) where
  pub may_is : (f : Form) (l : Line) (m : Form) → after text may put f l ≡ Some m → (may f l ≡ true) × (put f l ≡ m)
  may_is f l m e = if_some (may f l) (put f l) m e

  pub spells_all : (ls : List Line) (f : Form) → all_may text may put f ls ≡ true → Spells text (after text may put) f ls (final text may put f ls) (spelled text may put f ls)
  spells_all [] f e = (refl, refl)
  spells_all (l ∷ ls) f e =
      let parts = both (may f l) (all_may text may put (put f l) ls) e in
      (put f l, spelled text may put (put f l) ls, ap (λ (b : Bool). if b then Some (put f l) else None) parts.0, refl, spells_all ls (put f l) parts.1)

  pub spells_is : (ls : List Line) (f g : Form) (bs : List ℕ) → Spells text (after text may put) f ls g bs → (all_may text may put f ls ≡ true) × (g ≡ final text may put f ls) × (bs ≡ spelled text may put f ls)
  spells_is [] f g bs s = (refl, sym s.0, s.1)
  spells_is (l ∷ ls) f g bs (m, rest, is, text_is, s) =
      let here = may_is f l m is in
      let further = spells_is ls (put f l) g rest (subst (λ (h : Form). Spells text (after text may put) h ls g rest) (sym here.1) s) in
      (and_both (may f l) (all_may text may put (put f l) ls) here.0 further.0, further.1, text_is ∙ ap (λ (xs : List ℕ). text f l ++ (10 ∷ xs)) further.2)

  pub final_both : (xs ys : List Line) (f : Form) → final text may put f (xs ++ ys) ≡ final text may put (final text may put f xs) ys
  final_both [] ys f = refl
  final_both (x ∷ xs) ys f = final_both xs ys (put f x)

  pub spelled_both : (xs ys : List Line) (f : Form) → spelled text may put f (xs ++ ys) ≡ spelled text may put f xs ++ spelled text may put (final text may put f xs) ys
  spelled_both [] ys f = refl
  spelled_both (x ∷ xs) ys f =
      ap (λ (bs : List ℕ). text f x ++ (10 ∷ bs)) (spelled_both xs ys (put f x))
      ∙ sym (append_assoc (text f x) (10 ∷ spelled text may put (put f x) xs) (spelled text may put (final text may put f (x ∷ xs)) ys))
