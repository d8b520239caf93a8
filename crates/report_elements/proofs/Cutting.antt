-- A text parts at its first mark, and its words part at the first space.
use Rattle.std.proofs.Common.{ℕ, ◌≤◌, ◌≡◌, ◌==◌, Bool, true, false, List, [], ◌∷◌, ◌++◌, refl, sym, ap, ◌∙◌, append_assoc, append-nil, length, take, drop, if◌then◌else◌, arith}
use Rattle.report_elements.specs.Words.{before, from, words_on, words}

within_next : (t : Bool) (b : ℕ) (xs bs : List ℕ) → length xs ≤ length bs → length (if t then [] else b ∷ xs) ≤ length (b ∷ bs)
within_next true b xs bs le = omega arith
within_next false b xs bs le = omega (arith, le)

pub place_within : (mark : ℕ) (bs : List ℕ) → length (before mark bs) ≤ length bs
place_within mark [] = omega arith
place_within mark (b ∷ bs) = within_next (b == mark) b (before mark bs) bs (place_within mark bs)

taken_next : (t : Bool) (b : ℕ) (xs bs : List ℕ) → take (length xs) bs ≡ xs → take (length (if t then [] else b ∷ xs)) (b ∷ bs) ≡ (if t then [] else b ∷ xs)
taken_next true b xs bs e = refl
taken_next false b xs bs e = ap (λ (ys : List ℕ). b ∷ ys) e

pub taken_before : (mark : ℕ) (bs : List ℕ) → take (length (before mark bs)) bs ≡ before mark bs
taken_before mark [] = refl
taken_before mark (b ∷ bs) = taken_next (b == mark) b (before mark bs) bs (taken_before mark bs)

left_next : (t : Bool) (b : ℕ) (xs ys bs : List ℕ) → drop (length xs) bs ≡ ys → drop (length (if t then [] else b ∷ xs)) (b ∷ bs) ≡ (if t then b ∷ bs else ys)
left_next true b xs ys bs e = refl
left_next false b xs ys bs e = e

pub left_from : (mark : ℕ) (bs : List ℕ) → drop (length (before mark bs)) bs ≡ from mark bs
left_from mark [] = refl
left_from mark (b ∷ bs) = left_next (b == mark) b (before mark bs) (from mark bs) bs (left_from mark bs)

cut_next : (t : Bool) (b : ℕ) (w bs xs ys : List ℕ) → words_on (w ++ b ∷ []) bs ≡ ((w ++ b ∷ []) ++ xs) ∷ words ys → (if t then w ∷ words_on [] bs else words_on (w ++ b ∷ []) bs) ≡ (w ++ (if t then [] else b ∷ xs)) ∷ words (if t then b ∷ bs else ys)
cut_next true b w bs xs ys e = ap (λ (v : List ℕ). v ∷ words_on [] bs) (sym (append-nil w))
cut_next false b w bs xs ys e = e ∙ ap (λ (v : List ℕ). v ∷ words ys) (append_assoc w (b ∷ []) xs)

on_cut : (w bs : List ℕ) → words_on w bs ≡ (w ++ before 32 bs) ∷ words (from 32 bs)
on_cut w [] = ap (λ (v : List ℕ). v ∷ []) (sym (append-nil w))
on_cut w (b ∷ bs) = cut_next (b == 32) b w bs (before 32 bs) (from 32 bs) (on_cut (w ++ b ∷ []) bs)

pub words_cut : (bs : List ℕ) → words_on [] bs ≡ before 32 bs ∷ words (from 32 bs)
words_cut = on_cut []
