-- How pieces that are appended one after another make the front of a text.
use Rattle.std.proofs.Common.{◌≡◌, ℕ, ◌+◌, ◌-◌, ◌≤◌, Option, None, Some, List, ◌++◌, length, take, drop, refl, sym, ap, subst, ◌∙◌, append_assoc, arith, length-drop}
use Rattle.std.proofs.Math.Seq.{take-add}
use Rattle.std.proofs.lemmas.List.{take_all}
use Rattle.wsym_io.specs.Io.{appended}

-- what the code hands over is the rest of the text
rest_of : (text : List ℕ) (n : ℕ) → take (length text - n) (drop n text) ≡ drop n text
rest_of text n = take_all (length text - n) (drop n text) (omega (arith, length-drop n text))

-- a piece of the rest ends within the text
pub within_next : (text : List ℕ) (n k : ℕ) → n ≤ length text → k ≤ length (take (length text - n) (drop n text)) → n + k ≤ length text
within_next text n k within small =
    let part : k ≤ length (drop n text) = subst (λ (l : List ℕ). k ≤ length l) (rest_of text n) small in
    omega (arith, length-drop n text)

-- the first n bytes of a text, and then the next k, are its first n + k bytes
appended_take : (old : Option (List ℕ)) (n k : ℕ) (text : List ℕ) → appended (appended old (take n text)) (take k (drop n text)) ≡ appended old (take (n + k) text)
appended_take None n k text = refl
appended_take (Some bytes) n k text =
    ap Some (append_assoc bytes (take n text) (take k (drop n text)) ∙ ap (λ l. bytes ++ l) (sym (take-add n k text)))

-- a sink with the first n bytes that takes the next k has the first n + k
pub told_next : (old now new : Option (List ℕ)) (text : List ℕ) (n k : ℕ) → now ≡ appended old (take n text) → new ≡ appended now (take k (take (length text - n) (drop n text))) → new ≡ appended old (take (n + k) text)
told_next old now new text n k had took =
    took
    ∙ ap (λ (l : List ℕ). appended now (take k l)) (rest_of text n)
    ∙ ap (λ (o : Option (List ℕ)). appended o (take k (drop n text))) had
    ∙ appended_take old n k text
