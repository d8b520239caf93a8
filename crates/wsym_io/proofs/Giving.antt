-- How bytes that a reader gives one block after another are the front of what it had.
use Rattle.std.proofs.Common.{◌≡◌, ℕ, ◌<◌, ◌≤◌, Option, None, Some, List, [], ◌++◌, length, take, drop, sym, ap, subst, ◌∙◌, append_assoc, append-nil, arith, length-append, length-take}
use Rattle.std.proofs.Math.Seq.{take-append_seam}
use Rattle.std.proofs.lemmas.List.{take_all}
use Rattle.std.specs.Io.KnownBytes.{Consumes, IsAtEnd}
use Rattle.wsym_io.specs.Io.{IfTold}

-- before the first read nothing was given
pub none_given : (a : Option (List ℕ)) (bytes : List ℕ) → bytes ≡ [] → Consumes a a bytes
none_given None bytes e = tt
none_given (Some xs) bytes e = ap (λ l. l ++ xs) (sym e)

-- what was given before, and then one block
pub both_given : (a b c : Option (List ℕ)) (bytes block : List ℕ) → Consumes a b bytes → Consumes b c block → Consumes a c (bytes ++ block)
both_given None b c bytes block p q = tt
both_given (Some x) None c bytes block p q = absurd p
both_given (Some x) (Some y) None bytes block p q = absurd q
both_given (Some x) (Some y) (Some z) bytes block p q = p ∙ ap (λ l. bytes ++ l) q ∙ sym (append_assoc bytes block z)

-- as many bytes as were asked for are the first ones
pub first_when_full : (a b : Option (List ℕ)) (bytes : List ℕ) (most : ℕ) → Consumes a b bytes → length bytes ≡ most → IfTold a (λ given. bytes ≡ take most given)
first_when_full None b bytes most p e = tt
first_when_full (Some x) None bytes most p e = absurd p
first_when_full (Some x) (Some y) bytes most p e =
    sym (ap (take most) p ∙ ap (λ n. take n (bytes ++ y)) (sym e) ∙ take-append_seam bytes y)

-- the bytes that came before the end are all
pub first_at_end : (a b : Option (List ℕ)) (bytes : List ℕ) (most : ℕ) → Consumes a b bytes → IsAtEnd b → length bytes ≤ most → IfTold a (λ given. bytes ≡ take most given)
first_at_end None b bytes most p end small = tt
first_at_end (Some x) None bytes most p end small = absurd p
first_at_end (Some x) (Some y) bytes most p end small =
    sym (ap (take most) (p ∙ ap (λ l. bytes ++ l) end ∙ append-nil bytes) ∙ take_all most bytes small)

-- a block that was written over in full is as long as before
pub still_long : (old new : List ℕ) (size : ℕ) → length new ≡ length old → size ≡ length old → 0 < length old → 0 < length (take size (new ++ drop (length new) old))
still_long old new size same all some =
    subst (λ n. 0 < n) (sym (length-take size (new ++ drop (length new) old))) (omega (arith, same, all, some, length-append new (drop (length new) old)))
