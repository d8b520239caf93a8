-- Lists that are made block after block, and number after number.
use Rattle.std.proofs.Common.{◌≡◌, ℕ, suc, ◌+◌, ◌-◌, ◌<◌, List, [], ◌∷◌, ◌++◌, length, get_or, drop, sym, ap, ◌∙◌, arith}
use Rattle.std.proofs.lemmas.List.{append_assoc, drop_more}
use Rattle.std.specs.Prelude.{replicate}
use Rattle.flow_graph.specs.declared.graph.Block.{Block}
use Rattle.block_points.specs.Numbering.{following, joined, numbers_from}

pub joined_on : {A : Type 0} (f : ℕ → Block → List A) (bs : List Block) (i k : ℕ) (b : Block) (old new whole : List A)
    → i < length bs → b ≡ get_or bs i b → new ≡ old ++ f k b → old ++ joined f k (drop i bs) ≡ whole
    → new ++ joined f (k + 1) (drop (i + 1) bs) ≡ whole
joined_on {A} f bs i k b old new whole lt is one all =
    ap (λ (zs : List A). zs ++ joined f (k + 1) (drop (i + 1) bs)) one
    ∙ append_assoc old (f k b) (joined f (k + 1) (drop (i + 1) bs))
    ∙ ap (λ (x : Block). old ++ (f k x ++ joined f (k + 1) (drop (i + 1) bs))) is
    ∙ ap (λ (ys : List Block). old ++ joined f k ys) (sym (drop_more bs i b lt)) ∙ all

pub numbers_on : (first count at : ℕ) (old new : List ℕ) → at < count → new ≡ old ++ (first + at) ∷ []
    → old ++ numbers_from (first + at) (count - at) ≡ numbers_from first count
    → new ++ numbers_from (first + (at + 1)) (count - (at + 1)) ≡ numbers_from first count
numbers_on first count at old new lt one all =
    let left : count - at ≡ suc (count - (at + 1)) = omega (arith, lt) in
    let place : first + at + 1 ≡ first + (at + 1) = omega arith in
    ap (λ (zs : List ℕ). zs ++ numbers_from (first + (at + 1)) (count - (at + 1))) one
    ∙ append_assoc old ((first + at) ∷ []) (numbers_from (first + (at + 1)) (count - (at + 1)))
    ∙ ap (λ (n : ℕ). old ++ ((first + at) ∷ numbers_from n (count - (at + 1)))) (sym place)
    ∙ ap (λ (n : ℕ). old ++ numbers_from (first + at) n) (sym left) ∙ all

pub same_on : (number count at : ℕ) (old new whole : List ℕ) → at < count → new ≡ old ++ number ∷ []
    → old ++ replicate (count - at) number ≡ whole → new ++ replicate (count - (at + 1)) number ≡ whole
same_on number count at old new whole lt one all =
    let left : count - at ≡ suc (count - (at + 1)) = omega (arith, lt) in
    ap (λ (zs : List ℕ). zs ++ replicate (count - (at + 1)) number) one
    ∙ append_assoc old (number ∷ []) (replicate (count - (at + 1)) number)
    ∙ ap (λ (n : ℕ). old ++ replicate n number) (sym left) ∙ all

following_on : (first count at : ℕ) (after : List ℕ) (old new whole : List (List ℕ)) → at < count
    → new ≡ old ++ ((first + at + 1) ∷ []) ∷ [] → old ++ following (first + at) (suc count - at) after ≡ whole
    → new ++ following (first + (at + 1)) (suc count - (at + 1)) after ≡ whole
following_on first count at after old new whole lt one all =
    let left : suc count - at ≡ suc (suc (count - (at + 1))) = omega (arith, lt) in
    let rest : suc count - (at + 1) ≡ suc (count - (at + 1)) = omega (arith, lt) in
    let place : first + (at + 1) ≡ first + at + 1 = omega arith in
    ap (λ (zs : List (List ℕ)). zs ++ following (first + (at + 1)) (suc count - (at + 1)) after) one
    ∙ append_assoc old (((first + at + 1) ∷ []) ∷ []) (following (first + (at + 1)) (suc count - (at + 1)) after)
    ∙ ap (λ (n : ℕ). old ++ (((first + at + 1) ∷ []) ∷ following (first + (at + 1)) n after)) rest
    ∙ ap (λ (n : ℕ). old ++ (((first + at + 1) ∷ []) ∷ following n (suc (count - (at + 1))) after)) place
    ∙ ap (λ (n : ℕ). old ++ following (first + at) n after) (sym left) ∙ all

pub following_in : (first count at : ℕ) (after : List ℕ) (old new whole : List (List ℕ)) → at < count - 1
    → new ≡ old ++ ((first + at + 1) ∷ []) ∷ [] → old ++ following (first + at) (count - at) after ≡ whole
    → new ++ following (first + (at + 1)) (count - (at + 1)) after ≡ whole
following_in first count at after old new whole lt one all =
    let size : suc (count - 1) ≡ count = omega (arith, lt) in
    ap (λ (n : ℕ). new ++ following (first + (at + 1)) (n - (at + 1)) after) (sym size)
    ∙ following_on first (count - 1) at after old new whole lt one
    (ap (λ (n : ℕ). old ++ following (first + at) (n - at) after) size ∙ all)
