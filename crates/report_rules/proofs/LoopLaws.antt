-- Loops that were read: their headers, and the atoms of the last one.
use Rattle.std.proofs.Common.{ℕ, ◌≡◌, ◌==◌, if◌then◌else◌, Bool, true, false, List, [], ◌∷◌, ◌++◌, refl, sym, ap, ◌∙◌, arith}
use Rattle.std.specs.Prelude.{cond}
use Rattle.std.specs.Ordering.{nat_cmp}
use Rattle.std.specs.BTreeMap.{is_at}
use Rattle.std.specs.BTreeSet as tree
use Rattle.std.specs.BTreeSet.{BTreeSet}
use Rattle.std.proofs.lemmas.Bool.Decides.{nat_tests}
use Rattle.wsym_terms.specs.declared.bounds.Atom.{Atom}
use Rattle.report_lines.specs.declared.report.ReportLoop.{ReportLoop}
use Rattle.report_rules.specs.Headers.{is_header, new_loop, with_atom}

pub last_with_atom : (front : List ReportLoop) (l : ReportLoop) (a : Atom) → with_atom (front ++ l ∷ []) a ≡ front ++ record { header = l.header; depth = l.depth; bound = record { atoms = l.bound.atoms ++ a ∷ [] } } ∷ []
last_with_atom [] l a = refl
last_with_atom (x ∷ []) l a = refl
last_with_atom (x ∷ y ∷ front) l a = ap (λ (ls : List ReportLoop). x ∷ ls) (last_with_atom (y ∷ front) l a)

header_next : (b c : Bool) (x y : Bool) → x ≡ (if c then true else y) → (if b then true else x) ≡ (if c then true else (if b then true else y))
header_next true true x y e = refl
header_next true false x y e = refl
header_next false c x y e = e

-- one more loop has one more header
pub header_more : (ls : List ReportLoop) (l : ReportLoop) (block : ℕ) → is_header (ls ++ l ∷ []) block ≡ (if l.header == block then true else is_header ls block)
header_more [] l block = refl
header_more (x ∷ xs) l block = header_next (x.header == block) (l.header == block) (is_header (xs ++ l ∷ []) block) (is_header xs block) (header_more xs l block)

-- an atom changes no header
pub header_atom : (ls : List ReportLoop) (a : Atom) (block : ℕ) → is_header (with_atom ls a) block ≡ is_header ls block
header_atom [] a block = refl
header_atom (l ∷ []) a block = refl
header_atom (l ∷ m ∷ ls) a block = ap (λ (x : Bool). if l.header == block then true else x) (header_atom (m ∷ ls) a block)

same_key : (p x : ℕ) → is_at (nat_cmp p) x ≡ (p == x)
same_key p x = grind (arith, nat_tests)

-- a set that has the headers of loops has those of one loop more
pub header_added : (s n : BTreeSet ℕ) (ls ms : List ReportLoop) (header depth : ℕ) → ms ≡ ls ++ new_loop header depth ∷ []
    → ((b : ℕ) → tree.contains nat_cmp s b ≡ is_header ls b)
    → ((q : ℕ) → tree.contains nat_cmp n q ≡ cond (is_at (nat_cmp header) q) true (tree.contains nat_cmp s q)) → (b : ℕ)
    → tree.contains nat_cmp n b ≡ is_header ms b
header_added s n ls ms header depth e has more b =
    more b
    ∙ ap (λ (t : Bool). cond t true (tree.contains nat_cmp s b)) (same_key header b)
    ∙ ap (λ (t : Bool). cond (header == b) true t) (has b)
    ∙ sym (header_more ls (new_loop header depth) b)
    ∙ ap (λ (xs : List ReportLoop). is_header xs b) (sym e)

-- a set that has the headers of loops has them after one atom more
pub header_kept : (s : BTreeSet ℕ) (ls ms : List ReportLoop) (a : Atom) → ms ≡ with_atom ls a
    → ((b : ℕ) → tree.contains nat_cmp s b ≡ is_header ls b) → (b : ℕ) → tree.contains nat_cmp s b ≡ is_header ms b
header_kept s ls ms a e has b = has b ∙ sym (header_atom ls a b) ∙ ap (λ (xs : List ReportLoop). is_header xs b) (sym e)
