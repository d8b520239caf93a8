-- The text of a formula is read as the formula, whatever its constants are.
use Rattle.std.proofs.Common.{ℕ, zero, suc, ◌+◌, ◌^◌, ◌<◌, ◌≤◌, ◌≡◌, ◌≢◌, ◌&&◌, ◌==◌, ◌||◌, Bool, true, false, List, [], ◌∷◌, ◌++◌, Option, Some, None, refl, sym, ap, ◌∙◌, append_assoc, append-nil, subst, map, length, nat_lt, codes, if◌then◌else◌, option_map, option_and_then, arith}
use Rattle.std.proofs.lemmas.Bool.Decides.{nat_tests}
use Rattle.std.specs.Fmt.{decimal}
use Rattle.std.specs.Int.{IsInRange}
use Rattle.std.specs.Str.Parse.{AllDigits}
use Rattle.std.proofs.lemmas.Str.Parse.{digit_from_value}
use denote.Hole.Holds.{Such}
use Rattle.cost_multiset.specs.CostLists.{CostList}
use Rattle.wsym_formula.specs.declared.terms.Term.{Term, fold-Term, fold-roll-Term, roll-Term, ind-Term}
use Rattle.wsym_formula.specs.declared.terms.Term.TheOpen.{Term-F}
use Rattle.wsym_formula.specs.declared.terms.Term.TheVariants as f
use Rattle.wsym_formula.specs.declared.terms.Term.TheBlock.{the_family, member-Term}
use Rattle.wsym_formula.specs.declared.terms.Term.TheFolds.{claims, map-Term}
use Rattle.report_elements.specs.Elements.{spaced, term_text, costs_text}
use Rattle.report_elements.proofs.Opening.{text_const, text_sum, text_choices, text_power, text_once, text_scaled}
use Rattle.report_elements.specs.Numbers.{number_below}
use Rattle.report_elements.proofs.DigitLaws.{number_decimal, digits_decimal}
use Rattle.report_elements.specs.FormulaReading.{with_head, with_member, added, opened, opener, word_at, word_in, single, closed, ends, run, start, parsed, fits_level, fits}
use Rattle.report_elements.specs.TreeReading.{all_fit, inside, is_loop}
use Rattle.report_elements.proofs.TreeLaws.{loop_small}
use Rattle.report_elements.specs.declared.formula_brackets.Head.{Head}
use Rattle.report_elements.specs.declared.formula_brackets.Head.TheVariants.{Top, Sum, Alt, OpenPower, Power, Once, OpenScaled, Scaled}
use Rattle.report_elements.specs.declared.formula_brackets.Frame.{Frame}
use Rattle.report_elements.specs.declared.formula_brackets.Reading.{Reading}

-- the rest of a text after a word
abbrev pub EndsWord : List ℕ → Type 0
EndsWord [] = Unit {0}
EndsWord (b ∷ bs) = (b == 32 || b == 41) ≡ true

-- a word: no space and no closing bracket
abbrev pub Plain : List ℕ → Type 0
Plain [] = Unit {0}
Plain (b ∷ bs) = ((b == 32 || b == 41) ≡ false) × Plain bs

digit_plain : (c : ℕ) → IsInRange 48 57 c → (c == 32 || c == 41) ≡ false
digit_plain c range = grind (arith, nat_tests)

digits_plain : (ds : List ℕ) → AllDigits 10 ds → Plain ds
digits_plain [] d = tt
digits_plain (c ∷ cs) d = (digit_plain c (digit_from_value c d.0), digits_plain cs d.1)

choose_else : {A : Type 0} (x y : Bool) (a b c : A) → (x || y) ≡ false → (if x then a else if y then b else c) ≡ c
choose_else true y a b c e = absurd (cc)
choose_else false true a b c e = absurd (cc)
choose_else false false a b c e = refl

choose_both : {A : Type 0} (x y : Bool) (a1 a2 b1 b2 c1 c2 : A) → (x || y) ≡ true → a1 ≡ a2 → b1 ≡ b2 → (if x then a1 else if y then b1 else c1) ≡ (if x then a2 else if y then b2 else c2)
choose_both true y a1 a2 b1 b2 c1 c2 e p q = p
choose_both false true a1 a2 b1 b2 c1 c2 e p q = q
choose_both false false a1 a2 b1 b2 c1 c2 e p q = absurd (cc)

both : (a b : Bool) → (a && b) ≡ true → (a ≡ true) × (b ≡ true)
both true true e = (refl, refl)
both true false e = absurd (cc)
both false b e = absurd (cc)

abbrev opens : Head → Bool
opens OpenPower = false
opens OpenScaled = false
opens _ = true

module _ (loops : ℕ) (costs_of : List ℕ → Option CostList) (costs_fit : CostList → Bool) (costs_read : (c : CostList) → costs_fit c ≡ true → costs_of (costs_text c) ≡ Some c) (costs_plain : (c : CostList) → costs_fit c ≡ true → Plain (costs_text c)) where
  abbrev go : ℕ → List ℕ → Reading → List ℕ → Option Reading
  go = run costs_of

  abbrev after : ℕ → List ℕ → Option Reading → Option Reading
  after limit bs o = option_and_then (λ (s : Reading). go limit [] s bs) o

  plain_on : (limit : ℕ) (w : List ℕ) (r : Reading) (ds rest : List ℕ) → Plain ds → go limit w r (ds ++ rest) ≡ go limit (w ++ ds) r rest
  plain_on limit w r [] rest d = ap (λ (v : List ℕ). go limit v r rest) (sym (append-nil w))
  plain_on limit w r (c ∷ cs) rest d =
      choose_else (c == 32) (c == 41) (after limit (cs ++ rest) (word_in costs_of limit w r)) (after limit (cs ++ rest) (ends costs_of limit w r)) (go limit (w ++ c ∷ []) r (cs ++ rest)) d.0
      ∙ plain_on limit (w ++ c ∷ []) r cs rest d.1
      ∙ ap (λ (v : List ℕ). go limit v r rest) (append_assoc w (c ∷ []) cs)

  at_open : (limit : ℕ) (w : List ℕ) (r : Reading) (h : Head) → opens h ≡ true → word_at costs_of limit w r h ≡ opener costs_of limit w r
  at_open limit w r Top e = refl
  at_open limit w r Sum e = refl
  at_open limit w r Alt e = refl
  at_open limit w r Once e = refl
  at_open limit w r (Power id) e = refl
  at_open limit w r (Scaled id) e = refl
  at_open limit w r OpenPower e = absurd (cc)
  at_open limit w r OpenScaled e = absurd (cc)

  -- a word that is taken is done with, whatever ends it
  word_done : (limit : ℕ) (w : List ℕ) (r s : Reading) (rest : List ℕ) → EndsWord rest → opens s.top.head ≡ true → word_in costs_of limit w r ≡ Some s → go limit w r rest ≡ go limit [] s rest
  word_done limit w r s [] e may is = is ∙ sym (at_open limit [] s s.top.head may)
  word_done limit w r s (b ∷ bs) e may is =
      let same : word_in costs_of limit w r ≡ word_in costs_of limit [] s = is ∙ sym (at_open limit [] s s.top.head may) in
      choose_both (b == 32) (b == 41)
      (after limit bs (word_in costs_of limit w r)) (after limit bs (word_in costs_of limit [] s))
      (after limit bs (ends costs_of limit w r)) (after limit bs (ends costs_of limit [] s))
      (go limit (w ++ b ∷ []) r bs) (go limit ([] ++ b ∷ []) s bs)
      e (ap (after limit bs) same) (ap (λ (o : Option Reading). after limit bs (option_and_then (closed costs_of) o)) same)

  abbrev inner : Reading → Head → List Term → Reading
  inner r head members = record { top = record { head = head; members = members }; below = r.top ∷ r.below }

  opened_is : (limit : ℕ) (h : Head) (r : Reading) → length r.below < limit → opened costs_of limit h r ≡ Some (inner r h [])
  opened_is limit h r small = grind (arith, nat_tests)

  abbrev plus : Reading → Term → Reading
  plus = added costs_of

  abbrev in_room : Term → ℕ → Bool
  in_room = fits loops costs_fit

  abbrev pub Reads : Term → Type 0
  Reads term = (limit room : ℕ) (r : Reading) (rest : List ℕ) → EndsWord rest → opens r.top.head ≡ true → in_room term room ≡ true → room + length r.below ≤ limit → go limit [] r (term_text term ++ rest) ≡ go limit [] (plus r term) rest

  abbrev AllRead : List Term → Type 0
  AllRead [] = Unit {0}
  AllRead (x ∷ xs) = Reads x × AllRead xs

  ends_members : (ts : List Term) (rest : List ℕ) → EndsWord (spaced term_text ts ++ (41 ∷ rest))
  ends_members [] rest = refl
  ends_members (x ∷ xs) rest = refl

  members_read : (limit room : ℕ) (ts : List Term) (w : List ℕ) (r o : Reading) (h : Head) (ms : List Term) (rest : List ℕ) → AllRead ts → opens h ≡ true → word_in costs_of limit w r ≡ Some (inner o h ms) → all_fit (map in_room ts) room ≡ true → room + length (inner o h ms).below ≤ limit → go limit w r (spaced term_text ts ++ (41 ∷ rest)) ≡ after limit rest (closed costs_of (inner o h (ms ++ ts)))
  members_read limit room [] w r o h ms rest all may is fit small =
      ap (λ (x : Option Reading). after limit rest (option_and_then (closed costs_of) x)) is
      ∙ ap (λ (m : List Term). after limit rest (closed costs_of (inner o h m))) (sym (append-nil ms))
  members_read limit room (x ∷ xs) w r o h ms rest all may is fit small =
      let fits2 = both (in_room x room) (all_fit (map in_room xs) room) fit in
      let s : Reading = inner o h ms in
      let s2 : Reading = inner o h (ms ++ x ∷ []) in
      let tail = spaced term_text xs ++ (41 ∷ rest) in
      ap (λ (y : Option Reading). after limit ((term_text x ++ spaced term_text xs) ++ (41 ∷ rest)) y) is
      ∙ ap (λ (bs : List ℕ). go limit [] s bs) (append_assoc (term_text x) (spaced term_text xs) (41 ∷ rest))
      ∙ all.0 limit room s tail (ends_members xs rest) may fits2.0 small
      ∙ members_read limit room xs [] s2 o h (ms ++ x ∷ []) rest all.1 may (at_open limit [] s2 h may) fits2.1 small
      ∙ ap (λ (m : List Term). after limit rest (closed costs_of (inner o h m))) (append_assoc ms (x ∷ []) xs)

  at_room : (c : CostList) (room : ℕ) → inside (λ r. costs_fit c) room ≡ true → costs_fit c ≡ true
  at_room c zero e = absurd (cc)
  at_room c (suc room) e = e

  reads_const : (c : CostList) → Reads (f.Const c)
  reads_const c limit room r rest ended may fit small =
      let fit2 : costs_fit c ≡ true = at_room c room (ap (λ (g : ℕ → Bool). g room) (sym (ap in_room (sym (f.rolls-Const c)) ∙ fold-roll-Term (ℕ → Bool) (fits_level loops costs_fit) (Term-F.Const c))) ∙ fit) in
      ap (λ (bs : List ℕ). go limit [] r (bs ++ rest)) (text_const c)
      ∙ plain_on limit [] r (costs_text c) rest (costs_plain c fit2)
      ∙ word_done limit (costs_text c) r (plus r (f.Const c)) rest ended may (at_open limit (costs_text c) r r.top.head may ∙ ap (option_map (λ (d : CostList). plus r (f.Const d))) (costs_read c fit2))

  sum_room : (limit room : ℕ) (ts : List Term) (r : Reading) (rest : List ℕ) → AllRead ts → opens r.top.head ≡ true → inside (all_fit (map in_room ts)) room ≡ true → room + length r.below ≤ limit → go limit [] r ((codes "(sum" ++ spaced term_text ts ++ codes ")") ++ rest) ≡ go limit [] (plus r (f.Sum ts)) rest
  sum_room limit zero ts r rest all may fit small = absurd (cc)
  sum_room limit (suc room) ts r rest all may fit small =
      ap (λ (bs : List ℕ). go limit (codes "(sum") r bs) (append_assoc (spaced term_text ts) (codes ")") rest)
      ∙ members_read limit room ts (codes "(sum") r r Sum [] rest all refl (at_open limit (codes "(sum") r r.top.head may ∙ opened_is limit Sum r (omega arith)) fit (omega arith)

  reads_sum : (ts : List Term) → AllRead ts → Reads (f.Sum ts)
  reads_sum ts all limit room r rest ended may fit small =
      ap (λ (bs : List ℕ). go limit [] r (bs ++ rest)) (text_sum ts)
      ∙ sum_room limit room ts r rest all may (ap (λ (g : ℕ → Bool). g room) (sym (ap in_room (sym (f.rolls-Sum ts)) ∙ fold-roll-Term (ℕ → Bool) (fits_level loops costs_fit) (Term-F.Sum ts))) ∙ fit) small

  alt_room : (limit room : ℕ) (ts : List Term) (r : Reading) (rest : List ℕ) → AllRead ts → opens r.top.head ≡ true → inside (all_fit (map in_room ts)) room ≡ true → room + length r.below ≤ limit → go limit [] r ((codes "(alt" ++ spaced term_text ts ++ codes ")") ++ rest) ≡ go limit [] (plus r (f.Alt ts)) rest
  alt_room limit zero ts r rest all may fit small = absurd (cc)
  alt_room limit (suc room) ts r rest all may fit small =
      ap (λ (bs : List ℕ). go limit (codes "(alt") r bs) (append_assoc (spaced term_text ts) (codes ")") rest)
      ∙ members_read limit room ts (codes "(alt") r r Alt [] rest all refl (at_open limit (codes "(alt") r r.top.head may ∙ opened_is limit Alt r (omega arith)) fit (omega arith)

  reads_alt : (ts : List Term) → AllRead ts → Reads (f.Alt ts)
  reads_alt ts all limit room r rest ended may fit small =
      ap (λ (bs : List ℕ). go limit [] r (bs ++ rest)) (text_choices ts)
      ∙ alt_room limit room ts r rest all may (ap (λ (g : ℕ → Bool). g room) (sym (ap in_room (sym (f.rolls-Alt ts)) ∙ fold-roll-Term (ℕ → Bool) (fits_level loops costs_fit) (Term-F.Alt ts))) ∙ fit) small

  once_room : (limit room : ℕ) (body : Term) (r : Reading) (rest : List ℕ) → Reads body → opens r.top.head ≡ true → inside (in_room body) room ≡ true → room + length r.below ≤ limit → go limit [] r ((codes "(once " ++ term_text body ++ codes ")") ++ rest) ≡ go limit [] (plus r (f.Once body)) rest
  once_room limit zero body r rest first may fit small = absurd (cc)
  once_room limit (suc room) body r rest first may fit small =
      ap (λ (bs : List ℕ). go limit [] r (codes "(once " ++ bs)) (append_assoc (term_text body) (codes ")") rest)
      ∙ ap (λ (o : Option Reading). after limit (term_text body ++ (41 ∷ rest)) o) (at_open limit (codes "(once") r r.top.head may ∙ opened_is limit Once r (omega arith))
      ∙ first limit room (inner r Once []) (41 ∷ rest) refl refl fit (omega arith)

  reads_once : (body : Term) → Reads body → Reads (f.Once body)
  reads_once body first limit room r rest ended may fit small =
      ap (λ (bs : List ℕ). go limit [] r (bs ++ rest)) (text_once body)
      ∙ once_room limit room body r rest first may (ap (λ (g : ℕ → Bool). g room) (sym (ap in_room (sym (f.rolls-Once body)) ∙ fold-roll-Term (ℕ → Bool) (fits_level loops costs_fit) (Term-F.Once body))) ∙ fit) small

  power_room : (limit room id : ℕ) (body : Term) (r : Reading) (rest : List ℕ) → Reads body → opens r.top.head ≡ true → inside (λ k. is_loop loops id && in_room body k) room ≡ true → room + length r.below ≤ limit → go limit [] r ((codes "(power " ++ decimal id ++ codes " " ++ term_text body ++ codes ")") ++ rest) ≡ go limit [] (plus r (f.Power id body)) rest
  power_room limit zero id body r rest first may fit small = absurd (cc)
  power_room limit (suc room) id body r rest first may fit small =
      let fits2 = both (is_loop loops id) (in_room body room) fit in
      let small_id : id < 2 ^ 32 = loop_small loops id fits2.0 in
      let s : Reading = inner r OpenPower [] in
      let s2 : Reading = inner r (Power id) [] in
      let later = term_text body ++ (41 ∷ rest) in
      let grouped : (codes "(power " ++ decimal id ++ codes " " ++ term_text body ++ codes ")") ++ rest ≡ codes "(power " ++ (decimal id ++ (32 ∷ later)) = simp (append_assoc) in
      ap (λ (bs : List ℕ). go limit [] r bs) grouped
      ∙ ap (λ (o : Option Reading). after limit (decimal id ++ (32 ∷ later)) o) (at_open limit (codes "(power") r r.top.head may ∙ opened_is limit OpenPower r (omega arith))
      ∙ plain_on limit [] s (decimal id) (32 ∷ later) (digits_plain (decimal id) (digits_decimal id (omega (arith, small_id))))
      ∙ ap (λ (n : Option ℕ). after limit later (option_map (λ (n : ℕ). with_head costs_of s (Power n)) n)) (number_decimal (2 ^ 32) id small_id (omega arith))
      ∙ first limit room s2 (41 ∷ rest) refl refl fits2.1 (omega arith)

  reads_power : (id : ℕ) (body : Term) → Reads body → Reads (f.Power id body)
  reads_power id body first limit room r rest ended may fit small =
      ap (λ (bs : List ℕ). go limit [] r (bs ++ rest)) (text_power id body)
      ∙ power_room limit room id body r rest first may (ap (λ (g : ℕ → Bool). g room) (sym (ap in_room (sym (f.rolls-Power id body)) ∙ fold-roll-Term (ℕ → Bool) (fits_level loops costs_fit) (Term-F.Power id body))) ∙ fit) small

  scaled_room : (limit room id : ℕ) (body : Term) (r : Reading) (rest : List ℕ) → Reads body → opens r.top.head ≡ true → inside (λ k. is_loop loops id && in_room body k) room ≡ true → room + length r.below ≤ limit → go limit [] r ((codes "(scaled " ++ decimal id ++ codes " " ++ term_text body ++ codes ")") ++ rest) ≡ go limit [] (plus r (f.Scaled id body)) rest
  scaled_room limit zero id body r rest first may fit small = absurd (cc)
  scaled_room limit (suc room) id body r rest first may fit small =
      let fits2 = both (is_loop loops id) (in_room body room) fit in
      let small_id : id < 2 ^ 32 = loop_small loops id fits2.0 in
      let s : Reading = inner r OpenScaled [] in
      let s2 : Reading = inner r (Scaled id) [] in
      let later = term_text body ++ (41 ∷ rest) in
      let grouped : (codes "(scaled " ++ decimal id ++ codes " " ++ term_text body ++ codes ")") ++ rest ≡ codes "(scaled " ++ (decimal id ++ (32 ∷ later)) = simp (append_assoc) in
      ap (λ (bs : List ℕ). go limit [] r bs) grouped
      ∙ ap (λ (o : Option Reading). after limit (decimal id ++ (32 ∷ later)) o) (at_open limit (codes "(scaled") r r.top.head may ∙ opened_is limit OpenScaled r (omega arith))
      ∙ plain_on limit [] s (decimal id) (32 ∷ later) (digits_plain (decimal id) (digits_decimal id (omega (arith, small_id))))
      ∙ ap (λ (n : Option ℕ). after limit later (option_map (λ (n : ℕ). with_head costs_of s (Scaled n)) n)) (number_decimal (2 ^ 32) id small_id (omega arith))
      ∙ first limit room s2 (41 ∷ rest) refl refl fits2.1 (omega arith)

  reads_scaled : (id : ℕ) (body : Term) → Reads body → Reads (f.Scaled id body)
  reads_scaled id body first limit room r rest ended may fit small =
      ap (λ (bs : List ℕ). go limit [] r (bs ++ rest)) (text_scaled id body)
      ∙ scaled_room limit room id body r rest first may (ap (λ (g : ℕ → Bool). g room) (sym (ap in_room (sym (f.rolls-Scaled id body)) ∙ fold-roll-Term (ℕ → Bool) (fits_level loops costs_fit) (Term-F.Scaled id body))) ∙ fit) small

  abbrev Known : Type 0
  Known = Such the_family (claims Reads) member-Term

  all_read : (ys : List Known) → AllRead (map (λ e. e.0) ys)
  all_read [] = tt
  all_read (y ∷ ys) = (y.1, all_read ys)

  one_level : (y : Term-F Known) → Reads (roll-Term (map-Term Known Term (λ e. e.0) y))
  one_level (Term-F.Const c) = subst Reads (sym (f.rolls-Const c)) (reads_const c)
  one_level (Term-F.Sum ys) = subst Reads (sym (f.rolls-Sum (map (λ e. e.0) ys))) (reads_sum (map (λ e. e.0) ys) (all_read ys))
  one_level (Term-F.Alt ys) = subst Reads (sym (f.rolls-Alt (map (λ e. e.0) ys))) (reads_alt (map (λ e. e.0) ys) (all_read ys))
  one_level (Term-F.Power id body) = subst Reads (sym (f.rolls-Power id body.0)) (reads_power id body.0 body.1)
  one_level (Term-F.Once body) = subst Reads (sym (f.rolls-Once body.0)) (reads_once body.0 body.1)
  one_level (Term-F.Scaled id body) = subst Reads (sym (f.rolls-Scaled id body.0)) (reads_scaled id body.0 body.1)

  pub term_reads : (term : Term) → Reads term
  term_reads term = ind-Term Reads (λ x y e. subst (λ (l : Term-F Term). Reads (roll-Term l)) e (one_level y)) term

  pub parsed_text : (limit : ℕ) (term : Term) → in_room term limit ≡ true → parsed costs_of limit (term_text term) ≡ Some term
  parsed_text limit term fit =
      ap (λ (bs : List ℕ). parsed costs_of limit bs) (sym (append-nil (term_text term)))
      ∙ ap (λ (o : Option Reading). option_and_then (λ (r : Reading). single costs_of r.top.members) o) (term_reads term limit limit (start costs_of) [] tt refl fit (omega arith))
