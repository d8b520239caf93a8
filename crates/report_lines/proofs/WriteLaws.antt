-- How a line of a proof is put together.
use Rattle.std.proofs.Common.{ℕ, ◌≡◌, List, [], ◌∷◌, ◌++◌, refl, sym, ap, ◌∙◌, append_assoc, map, codes}
use Rattle.std.specs.Fmt.{decimal}
use Rattle.wsym_terms.specs.declared.bounds.ParamRange.{ParamRange}
use Rattle.report_elements.specs.Elements.{in_brackets}
use Rattle.report_lines.specs.declared.report.Way.{Way}
use Rattle.report_lines.specs.declared.report.About.{About}
use Rattle.report_lines.specs.declared.report.About.TheVariants as about
use Rattle.report_lines.specs.declared.report.Proof.{Proof}
use Rattle.report_lines.specs.declared.report.Line.TheVariants as line
use Rattle.report_lines.specs.Grammar.{about_text, ending_words, joined, line_text, pair_text, proof_key, proof_words, way_words}

in_brackets_both : (xs ys : List (List ℕ)) → in_brackets (xs ++ ys) ≡ in_brackets xs ++ in_brackets ys
in_brackets_both [] ys = refl
in_brackets_both (x ∷ xs) ys = ap (λ (bs : List ℕ). 32 ∷ (x ++ bs)) (in_brackets_both xs ys) ∙ ap (λ (bs : List ℕ). 32 ∷ bs) (sym (append_assoc x (in_brackets xs) (in_brackets ys)))

parts_at : (p : Proof) (a : About) → about_text a p.way ++ (32 ∷ (decimal p.divisor ++ in_brackets (map pair_text p.pairs))) ≡ joined (proof_key a) (proof_words p a)
parts_at p (about.Fact n) = ap (λ (bs : List ℕ). codes "step" ++ (32 ∷ bs)) (append_assoc (decimal n) (in_brackets (way_words p.way)) (in_brackets (ending_words p)) ∙ ap (λ (bs : List ℕ). decimal n ++ bs) (sym (in_brackets_both (way_words p.way) (ending_words p))))
parts_at p (about.Low b i) = ap (λ (bs : List ℕ). codes "low" ++ (32 ∷ bs)) (append_assoc (decimal b) (32 ∷ decimal i) (in_brackets (ending_words p)))
parts_at p (about.High b i) = ap (λ (bs : List ℕ). codes "high" ++ (32 ∷ bs)) (append_assoc (decimal b) (32 ∷ decimal i) (in_brackets (ending_words p)))
parts_at p (about.Turn b i) = ap (λ (bs : List ℕ). codes "turn" ++ (32 ∷ bs)) (append_assoc (decimal b) (32 ∷ (decimal i ++ in_brackets (way_words p.way))) (in_brackets (ending_words p)) ∙ ap (λ (bs : List ℕ). decimal b ++ (32 ∷ bs)) (append_assoc (decimal i) (in_brackets (way_words p.way)) (in_brackets (ending_words p)) ∙ ap (λ (bs : List ℕ). decimal i ++ bs) (sym (in_brackets_both (way_words p.way) (ending_words p)))))
parts_at p (about.Closing b i) = ap (λ (bs : List ℕ). codes "closing" ++ (32 ∷ bs)) (append_assoc (decimal b) (32 ∷ (decimal i ++ in_brackets (way_words p.way))) (in_brackets (ending_words p)) ∙ ap (λ (bs : List ℕ). decimal b ++ (32 ∷ bs)) (append_assoc (decimal i) (in_brackets (way_words p.way)) (in_brackets (ending_words p)) ∙ ap (λ (bs : List ℕ). decimal i ++ bs) (sym (in_brackets_both (way_words p.way) (ending_words p)))))

pub proof_parts : (params : List ParamRange) (p : Proof) → about_text p.about p.way ++ (32 ∷ (decimal p.divisor ++ in_brackets (map pair_text p.pairs))) ≡ line_text params (line.Proof p)
proof_parts params p = parts_at p p.about

pub joined3 : (a b c d x y z : List ℕ) → b ≡ a ++ x → c ≡ b ++ y → d ≡ c ++ z → d ≡ a ++ (x ++ (y ++ z))
joined3 a b c d x y z first second third =
    third ∙ ap (λ (v : List ℕ). v ++ z) (second ∙ ap (λ (v : List ℕ). v ++ y) first) ∙ append_assoc (a ++ x) y z ∙ append_assoc a x (y ++ z)
