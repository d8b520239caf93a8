-- Whether a fact is the wanted one is decided, so returns are followed exactly where none is unproved.
use Rattle.std.proofs.Common.{◌≡◌, ◌≢◌, ◌⊎◌, ℕ, ℤ, Bool, true, false, inl, inr, eqb, Option, Some, None, refl, sym, ap, ◌∙◌}
use Rattle.std.proofs.lemmas.Bool.{eqb-true, eqb-false, false≢true}
use Rattle.std.proofs.lemmas.Bool.Decides.{Decides-int_eq}
use Rattle.std.specs.Ordering.{int_eq}
use Rattle.elf32_image.specs.Parts.{ImageValue}
use Rattle.control_flow.specs.Points.{Point, last_return}
use Rattle.control_flow.specs.Ways.{IsCollected, fault_at}
use Rattle.path_facts.specs.Facts.{Fact}
use Rattle.path_facts.specs.declared.origin.Origin.{Origin}
use Rattle.path_facts.specs.declared.origin.Origin.TheVariants.{Zero, AtStart}
use Rattle.path_facts.specs.Histories.{IsFollowed, facts_of, returned_fact, wanted_fact}
use Rattle.path_facts.specs.StackUse.{IsReturnUnproved}

zero_isnt : (r : ℕ) → Zero ≢ AtStart r
zero_isnt r e = cc

register_same : (r q : ℕ) → ◌≡◌ {A = Origin} (AtStart r) (AtStart q) → r ≡ q
register_same r q e = cc

origins : (a b : Origin) → (a ≡ b) ⊎ (a ≢ b)
origins Zero Zero = inl refl
origins Zero (AtStart r) = inr (zero_isnt r)
origins (AtStart r) Zero = inr (λ e. zero_isnt r (sym e))
origins (AtStart r) (AtStart q) = by_test (eqb r q) refl
  where
    by_test : (b : Bool) → eqb r q ≡ b → (AtStart r ≡ AtStart q) ⊎ (AtStart r ≢ AtStart q)
    by_test true is = inl (ap AtStart (eqb-true r q is))
    by_test false isnt = inr (λ e. eqb-false r q isnt (register_same r q e))

constants : (x y : ℤ) → (x ≡ y) ⊎ (x ≢ y)
constants x y = by_test (int_eq x y) refl
  where
    by_test : (b : Bool) → int_eq x y ≡ b → (x ≡ y) ⊎ (x ≢ y)
    by_test true is = inl ((Decides-int_eq x y).0 is)
    by_test false isnt = inr (λ e. false≢true (sym isnt ∙ (Decides-int_eq x y).1 e))

facts : (f w : Fact) → (f ≡ w) ⊎ (f ≢ w)
facts f w = join (origins f.origin w.origin) (constants f.constant w.constant)
  where
    join : (f.origin ≡ w.origin) ⊎ (f.origin ≢ w.origin) → (f.constant ≡ w.constant) ⊎ (f.constant ≢ w.constant) → (f ≡ w) ⊎ (f ≢ w)
    join (inl one) (inl two) =
        inl (ap (λ (o : Origin). record { origin = o; constant = f.constant }) one
        ∙ ap (λ (z : ℤ). record { origin = w.origin; constant = z }) two)
    join (inl one) (inr other) = inr (λ e. other (ap (λ (g : Fact). g.constant) e))
    join (inr other) c = inr (λ e. other (ap (λ (g : Fact). g.origin) e))

none_isnt : (w : Fact) → ◌≢◌ {A = Option Fact} None (Some w)
none_isnt w e = cc

some_same : (f w : Fact) → ◌≡◌ {A = Option Fact} (Some f) (Some w) → f ≡ w
some_same f w e = cc

not_other : (o : Option Fact) (w : Fact) → (o ≢ Some w → ⊥) → o ≡ Some w
not_other None w h = absurd (h (none_isnt w))
not_other (Some f) w h = by_case (facts f w)
  where
    by_case : (f ≡ w) ⊎ (f ≢ w) → ◌≡◌ {A = Option Fact} (Some f) (Some w)
    by_case (inl same) = ap (λ (g : Fact). Some g) same
    by_case (inr other) = absurd (h (λ e. other (some_same f w e)))

pub proved_followed : (image : ImageValue) (entry stack : ℕ) → ((p : Point) → IsCollected image entry p → fault_at image entry p ≡ None)
    → ((p : Point) → IsReturnUnproved image entry stack p → ⊥) → IsFollowed image entry stack
proved_followed image entry stack clear none = record {
  no_fault = clear;
  returns = λ h p insn history found form.
      not_other (returned_fact (facts_of image stack h) insn.op) (wanted_fact (last_return p.returns)) (λ other. none p (record {
        insn = insn;
        found = found;
        returns = form;
        history = h;
        leads = history;
        other = other;
      }));
}

pub followed_proved : (image : ImageValue) (entry stack : ℕ) → IsFollowed image entry stack → (p : Point)
    → IsReturnUnproved image entry stack p → ⊥
followed_proved image entry stack followed p u = u.other (followed.returns u.history p u.insn u.leads u.found u.returns)
