-- No line feed stands in the text of a tree.
use Rattle.std.proofs.Common.{◌≡◌, ◌≢◌, ◌&&◌, ◌==◌, if◌then◌else◌, ℕ, zero, suc, ◌^◌, ◌<◌, Bool, true, false, List, [], ◌∷◌, ◌++◌, refl, sym, ap, ◌∙◌, subst, map, nat_lt, codes, arith}
use Rattle.std.proofs.lemmas.Bool.Decides.{nat_tests}
use Rattle.std.specs.Fmt.{decimal}
use Rattle.std.specs.Str.Parse.{AllDigits}
use Rattle.std.proofs.lemmas.Str.Parse.{digit_from_value}
use denote.Hole.Holds.{Such}
use Rattle.wsym_terms.specs.declared.trees.Use.{Use}
use Rattle.wsym_terms.specs.declared.trees.Tree.{Tree, roll-Tree, ind-Tree}
use Rattle.wsym_terms.specs.declared.trees.Tree.TheOpen.{Tree-F}
use Rattle.wsym_terms.specs.declared.trees.Tree.TheVariants as t
use Rattle.wsym_terms.specs.declared.trees.Tree.TheBlock.{the_family, member-Tree}
use Rattle.wsym_terms.specs.declared.trees.Tree.TheFolds.{claims, map-Tree}
use Rattle.report_elements.specs.Elements.{spaced, use_text, tree_text, leaf_text}
use Rattle.report_elements.proofs.Opening.{text_leaf, text_seq, text_alt, text_loop}
use Rattle.report_elements.specs.TreeReading.{use_fits, uses_fit, all_fit, inside, is_block, is_loop, fits as tree_fits}
use Rattle.report_elements.proofs.DigitLaws.{digits_decimal}
use Rattle.report_elements.proofs.TreeLaws.{block_small, loop_small, fits_leaf as leaf_fits, fits_seq as seq_fits, fits_alt as alt_fits, fits_loop as loop_fits}
use Rattle.whole_reports.proofs.WalkLaws.{NoFeed, no_feed_both}

pub both : (a b : Bool) → (a && b) ≡ true → (a ≡ true) × (b ≡ true)
both true true e = (refl, refl)
both true false e = absurd (cc)
both false b e = absurd (cc)

clean_digits : (ds : List ℕ) → AllDigits 10 ds → NoFeed ds
clean_digits [] d = tt
clean_digits (c ∷ cs) d = ((λ e. absurd (omega (arith, digit_from_value c d.0, e))), clean_digits cs d.1)

pub clean_decimal : (n : ℕ) → n < 2 ^ 127 → NoFeed (decimal n)
clean_decimal n small = clean_digits (decimal n) (digits_decimal n small)

-- the bytes of a fixed text
abbrev clean : List ℕ → Bool
clean [] = true
clean (b ∷ bs) = if b == 10 then false else clean bs

clean_tail : (b : ℕ) (bs : List ℕ) → clean (b ∷ bs) ≡ true → (b ≢ 10) × (clean bs ≡ true)
clean_tail b bs e = grind (arith, nat_tests)

pub clean_fixed : (bs : List ℕ) → clean bs ≡ true → NoFeed bs
clean_fixed [] e = tt
clean_fixed (b ∷ bs) e = let parts = clean_tail b bs e in (parts.0, clean_fixed bs parts.1)

module _ (blocks loops : ℕ) where
  abbrev fits : Tree → ℕ → Bool
  fits = tree_fits blocks loops

  abbrev pub Clean : Tree → Type 0
  Clean tree = (room : ℕ) → fits tree room ≡ true → NoFeed (tree_text tree)

  abbrev AllClean : List Tree → Type 0
  AllClean [] = Unit {0}
  AllClean (x ∷ xs) = Clean x × AllClean xs

  clean_members : (room : ℕ) (ts : List Tree) → AllClean ts → all_fit (map fits ts) room ≡ true → NoFeed (spaced tree_text ts)
  clean_members room [] all fit = tt
  clean_members room (x ∷ xs) all fit =
      let fits2 = both (fits x room) (all_fit (map fits xs) room) fit in
      ((clean_fixed (32 ∷ []) refl).0, no_feed_both (tree_text x) (spaced tree_text xs) (all.0 room fits2.0) (clean_members room xs all.1 fits2.1))

  clean_uses : (us : List Use) → uses_fit us ≡ true → NoFeed (spaced use_text us)
  clean_uses [] fit = tt
  clean_uses (u ∷ us) fit =
      let fits2 = both (use_fits u) (uses_fit us) fit in
      let in_range = both (nat_lt u.line (2 ^ 30)) (nat_lt u.scope 17) fits2.0 in
      let small_line : u.line < 2 ^ 30 = grind (arith, nat_tests, in_range.0) in
      let small_scope : u.scope < 17 = grind (arith, nat_tests, in_range.1) in
      let one = no_feed_both (decimal u.line ++ codes "@") (decimal u.scope) (no_feed_both (decimal u.line) (codes "@") (clean_decimal u.line (omega arith)) (clean_fixed (codes "@") refl)) (clean_decimal u.scope (omega arith)) in
      ((clean_fixed (32 ∷ []) refl).0, no_feed_both (use_text u) (spaced use_text us) one (clean_uses us fits2.1))

  clean_bracket : (a b c : List ℕ) → NoFeed a → NoFeed b → NoFeed c → NoFeed (a ++ b ++ c)
  clean_bracket a b c x y z = no_feed_both (a ++ b) c (no_feed_both a b x y) z

  seq_room : (room : ℕ) (ts : List Tree) → AllClean ts → inside (all_fit (map fits ts)) room ≡ true → NoFeed (spaced tree_text ts)
  seq_room zero ts all fit = absurd (cc)
  seq_room (suc room) ts all fit = clean_members room ts all fit

  clean_seq : (ts : List Tree) → AllClean ts → Clean (t.Seq ts)
  clean_seq ts all room fit = subst NoFeed (sym (text_seq ts)) (clean_bracket (codes "(seq") (spaced tree_text ts) (codes ")") (clean_fixed (codes "(seq") refl) (seq_room room ts all (ap (λ (f : ℕ → Bool). f room) (sym (seq_fits blocks loops ts)) ∙ fit)) (clean_fixed (codes ")") refl))

  clean_alt : (ts : List Tree) → AllClean ts → Clean (t.Alt ts)
  clean_alt ts all room fit = subst NoFeed (sym (text_alt ts)) (clean_bracket (codes "(alt") (spaced tree_text ts) (codes ")") (clean_fixed (codes "(alt") refl) (seq_room room ts all (ap (λ (f : ℕ → Bool). f room) (sym (alt_fits blocks loops ts)) ∙ fit)) (clean_fixed (codes ")") refl))

  leaf_room : (room block base : ℕ) (us : List Use) → inside (λ r. is_block blocks block && nat_lt base (2 ^ 127) && uses_fit us) room ≡ true → NoFeed (leaf_text block base us)
  leaf_room zero block base us fit = absurd (cc)
  leaf_room (suc room) block base us fit =
      let fits2 = both (is_block blocks block && nat_lt base (2 ^ 127)) (uses_fit us) fit in
      let in_range = both (is_block blocks block) (nat_lt base (2 ^ 127)) fits2.0 in
      let small_block : block < 2 ^ 32 = block_small blocks block in_range.0 in
      let small_base : base < 2 ^ 127 = grind (arith, nat_tests, in_range.1) in
      let front = no_feed_both (codes "(leaf ") (decimal block) (clean_fixed (codes "(leaf ") refl) (clean_decimal block (omega (arith, small_block))) in
      let front2 = clean_bracket (codes "(leaf " ++ decimal block) (codes " ") (decimal base) front (clean_fixed (codes " ") refl) (clean_decimal base small_base) in
      clean_bracket (codes "(leaf " ++ decimal block ++ codes " " ++ decimal base) (spaced use_text us) (codes ")") front2 (clean_uses us fits2.1) (clean_fixed (codes ")") refl)

  clean_leaf : (block base : ℕ) (us : List Use) → Clean (t.Leaf block base us)
  clean_leaf block base us room fit = subst NoFeed (sym (text_leaf block base us)) (leaf_room room block base us (ap (λ (f : ℕ → Bool). f room) (sym (leaf_fits blocks loops block base us)) ∙ fit))

  loop_room : (room id : ℕ) (body exit : Tree) → Clean body → Clean exit → inside (λ r. is_loop loops id && fits body r && fits exit r) room ≡ true → NoFeed (codes "(loop " ++ decimal id ++ codes " " ++ tree_text body ++ codes " " ++ tree_text exit ++ codes ")")
  loop_room zero id body exit first second fit = absurd (cc)
  loop_room (suc room) id body exit first second fit =
      let fits2 = both (is_loop loops id && fits body room) (fits exit room) fit in
      let fits3 = both (is_loop loops id) (fits body room) fits2.0 in
      let small_id : id < 2 ^ 32 = loop_small loops id fits3.0 in
      let front = no_feed_both (codes "(loop ") (decimal id) (clean_fixed (codes "(loop ") refl) (clean_decimal id (omega (arith, small_id))) in
      let front2 = clean_bracket (codes "(loop " ++ decimal id) (codes " ") (tree_text body) front (clean_fixed (codes " ") refl) (first room fits3.1) in
      let front3 = clean_bracket (codes "(loop " ++ decimal id ++ codes " " ++ tree_text body) (codes " ") (tree_text exit) front2 (clean_fixed (codes " ") refl) (second room fits2.1) in
      no_feed_both (codes "(loop " ++ decimal id ++ codes " " ++ tree_text body ++ codes " " ++ tree_text exit) (codes ")") front3 (clean_fixed (codes ")") refl)

  clean_loop : (id : ℕ) (body exit : Tree) → Clean body → Clean exit → Clean (t.Loop id body exit)
  clean_loop id body exit first second room fit = subst NoFeed (sym (text_loop id body exit)) (loop_room room id body exit first second (ap (λ (f : ℕ → Bool). f room) (sym (loop_fits blocks loops id body exit)) ∙ fit))

  abbrev Known : Type 0
  Known = Such the_family (claims Clean) member-Tree

  all_clean : (ys : List Known) → AllClean (map (λ e. e.0) ys)
  all_clean [] = tt
  all_clean (y ∷ ys) = (y.1, all_clean ys)

  one_level : (y : Tree-F Known) → Clean (roll-Tree (map-Tree Known Tree (λ e. e.0) y))
  one_level (Tree-F.Leaf block base uses) = subst Clean (sym (t.rolls-Leaf block base uses)) (clean_leaf block base uses)
  one_level (Tree-F.Seq ys) = subst Clean (sym (t.rolls-Seq (map (λ e. e.0) ys))) (clean_seq (map (λ e. e.0) ys) (all_clean ys))
  one_level (Tree-F.Alt ys) = subst Clean (sym (t.rolls-Alt (map (λ e. e.0) ys))) (clean_alt (map (λ e. e.0) ys) (all_clean ys))
  one_level (Tree-F.Loop id body exit) = subst Clean (sym (t.rolls-Loop id body.0 exit.0)) (clean_loop id body.0 exit.0 body.1 exit.1)

  pub tree_clean : (tree : Tree) → Clean tree
  tree_clean tree = ind-Tree Clean (λ x y e. subst (λ (l : Tree-F Tree). Clean (roll-Tree l)) e (one_level y)) tree
