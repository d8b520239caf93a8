-- How a formula is read, byte by byte with its open brackets, and which formulas may stand in a report.
use Rattle.std.specs.Prelude.{ℕ, zero, suc, ◌^◌, ◌==◌, ◌||◌, ◌&&◌, if◌then◌else◌, Bool, true, false, List, [], ◌∷◌, ◌++◌, Option, Some, None, codes, length, nat_lt}
use Rattle.std.specs.Option.{option_map, option_and_then}
use Rattle.std.specs.Str.{bytes_eq}
use Rattle.cost_multiset.specs.CostLists.{CostList}
use Rattle.wsym_formula.specs.declared.terms.Term.{Term, fold-Term}
use Rattle.wsym_formula.specs.declared.terms.Term.TheOpen.{Term-F}
use Rattle.wsym_formula.specs.declared.terms.Term.TheVariants as f
use Rattle.report_elements.specs.Numbers.{number_below}
use Rattle.report_elements.specs.TreeReading.{all_fit, inside, is_loop}
use Rattle.report_elements.specs.declared.formula_brackets.Head.{Head}
use Rattle.report_elements.specs.declared.formula_brackets.Head.TheVariants.{Top, Sum, Alt, OpenPower, Power, Once, OpenScaled, Scaled}
use Rattle.report_elements.specs.declared.formula_brackets.Frame.{Frame}
use Rattle.report_elements.specs.declared.formula_brackets.Reading.{Reading}

module _ (costs_of : List ℕ → Option CostList) where
  abbrev pub with_head : Reading → Head → Reading
  with_head r head = record { top = record { head = head; members = r.top.members }; below = r.below }

  abbrev pub with_member : Frame → Term → Frame
  with_member f term = record { head = f.head; members = f.members ++ term ∷ [] }

  abbrev pub added : Reading → Term → Reading
  added r term = record { top = with_member r.top term; below = r.below }

  abbrev pub opened : ℕ → Head → Reading → Option Reading
  opened limit head r =
      if nat_lt (length r.below) limit
      then Some (record { top = record { head = head; members = [] }; below = r.top ∷ r.below })
      else None

  abbrev pub opener : ℕ → List ℕ → Reading → Option Reading
  opener limit word r =
      if bytes_eq word [] then Some r
      else if bytes_eq word (codes "(sum") then opened limit Sum r
      else if bytes_eq word (codes "(alt") then opened limit Alt r
      else if bytes_eq word (codes "(power") then opened limit OpenPower r
      else if bytes_eq word (codes "(once") then opened limit Once r
      else if bytes_eq word (codes "(scaled") then opened limit OpenScaled r
      else option_map (λ (c : CostList). added r (f.Const c)) (costs_of word)

  abbrev pub word_at : ℕ → List ℕ → Reading → Head → Option Reading
  word_at limit word r OpenPower = option_map (λ n. with_head r (Power n)) (number_below (2 ^ 32) 0 word)
  word_at limit word r OpenScaled = option_map (λ n. with_head r (Scaled n)) (number_below (2 ^ 32) 0 word)
  word_at limit word r Top = opener limit word r
  word_at limit word r Sum = opener limit word r
  word_at limit word r Alt = opener limit word r
  word_at limit word r Once = opener limit word r
  word_at limit word r (Power id) = opener limit word r
  word_at limit word r (Scaled id) = opener limit word r

  abbrev pub word_in : ℕ → List ℕ → Reading → Option Reading
  word_in limit word r = word_at limit word r r.top.head

  abbrev pub single : List Term → Option Term
  single (term ∷ []) = Some term
  single _ = None

  abbrev pub built_at : Frame → Head → Option Term
  built_at g Sum = Some (f.Sum g.members)
  built_at g Alt = Some (f.Alt g.members)
  built_at g Once = option_map f.Once (single g.members)
  built_at g (Power id) = option_map (λ (x : Term). f.Power id x) (single g.members)
  built_at g (Scaled id) = option_map (λ (x : Term). f.Scaled id x) (single g.members)
  built_at g _ = None

  abbrev pub given : List Frame → Term → Option Reading
  given [] term = None
  given (g ∷ gs) term = Some (record { top = with_member g term; below = gs })

  abbrev pub closed : Reading → Option Reading
  closed r = option_and_then (given r.below) (built_at r.top r.top.head)

  abbrev pub ends : ℕ → List ℕ → Reading → Option Reading
  ends limit word r = option_and_then closed (word_in limit word r)

  abbrev pub run : ℕ → List ℕ → Reading → List ℕ → Option Reading
  run limit word r [] = word_in limit word r
  run limit word r (b ∷ bs) =
      if b == 32 then option_and_then (λ (s : Reading). run limit [] s bs) (word_in limit word r)
      else if b == 41 then option_and_then (λ (s : Reading). run limit [] s bs) (ends limit word r)
      else run limit (word ++ b ∷ []) r bs

  abbrev pub start : Reading
  start = record { top = record { head = Top; members = [] }; below = [] }

  abbrev pub parsed : ℕ → List ℕ → Option Term
  parsed limit text = option_and_then (λ (r : Reading). single r.top.members) (run limit [] start text)

-- what may stand in a report of that many loops: they exist, the constants are allowed, and no more terms stand in one
-- another than there is room for
module _ (loops : ℕ) (costs_fit : CostList → Bool) where
  abbrev pub fits_level : Term-F (ℕ → Bool) → ℕ → Bool
  fits_level (Term-F.Const costs) room = inside (λ r. costs_fit costs) room
  fits_level (Term-F.Sum members) room = inside (all_fit members) room
  fits_level (Term-F.Alt choices) room = inside (all_fit choices) room
  fits_level (Term-F.Power id body) room = inside (λ r. is_loop loops id && body r) room
  fits_level (Term-F.Once body) room = inside body room
  fits_level (Term-F.Scaled id body) room = inside (λ r. is_loop loops id && body r) room

  abbrev pub fits : Term → ℕ → Bool
  fits = fold-Term (ℕ → Bool) fits_level
