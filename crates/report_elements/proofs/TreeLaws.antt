-- The machine takes the text of a tree as the tree.
use Rattle.std.proofs.Common.{◌≢◌, ◌-◌, ℕ, zero, suc, ◌+◌, ◌^◌, ◌<◌, ◌≤◌, ◌≡◌, ◌&&◌, Bool, true, false, List, [], ◌∷◌, ◌++◌, Option, Some, None, refl, sym, ap, ◌∙◌, append_assoc, append-nil, subst, map, length, nat_le, nat_lt, codes, if◌then◌else◌, arith}
use Rattle.std.proofs.lemmas.Bool.Decides.{nat_tests}
use Rattle.std.specs.Option.{option_map, option_and_then}
use Rattle.std.specs.Bool.{Decides}
use Rattle.std.specs.Str.{bytes_eq}
use Rattle.std.proofs.lemmas.Slice.Eq.{bytes_eq-Decides}
use Rattle.std.proofs.lemmas.Option.{option_and_then_some}
use Rattle.std.specs.Fmt.{decimal}
use Rattle.std.specs.Int.{IsInRange}
use Rattle.std.specs.Str.Parse.{AllDigits}
use Rattle.std.proofs.lemmas.Str.Parse.{digit_from_value}
use denote.Hole.Holds.{Such}
use Rattle.wsym_terms.specs.declared.trees.Use.{Use}
use Rattle.wsym_terms.specs.declared.trees.Tree.{Tree, fold-roll-Tree, roll-Tree, ind-Tree}
use Rattle.wsym_terms.specs.declared.trees.Tree.TheOpen.{Tree-F}
use Rattle.wsym_terms.specs.declared.trees.Tree.TheVariants as t
use Rattle.wsym_terms.specs.declared.trees.Tree.TheBlock.{the_family, member-Tree}
use Rattle.wsym_terms.specs.declared.trees.Tree.TheFolds.{claims, map-Tree}
use Rattle.report_elements.specs.Elements.{spaced, use_text, tree_text, leaf_text}
use Rattle.report_elements.proofs.Opening.{text_leaf, text_seq, text_alt, text_loop}
use Rattle.report_elements.specs.declared.tree_brackets.Head.{Head}
use Rattle.report_elements.specs.declared.tree_brackets.Head.TheVariants.{Top, OpenLeaf, Block, Leaf, Used, Seq, Alt, OpenLoop, Loop}
use Rattle.report_elements.specs.declared.tree_brackets.Reading.{Reading}
use Rattle.report_elements.specs.TreeReading.{with_head, with_use, with_member, opened, opener, word_at, word_in, closed, run, start, single, parsed, use_fits, uses_fit, all_fit, inside, is_block, is_loop, fits_level as level_fits, fits as tree_fits, kept, read_of}
use Rattle.report_elements.proofs.DigitLaws.{number_decimal, digits_decimal}

-- digits go to the word
digit_on : (limit : ℕ) (w : List ℕ) (r : Reading) (c : ℕ) (bs : List ℕ) → IsInRange 48 57 c → run limit w r (c ∷ bs) ≡ run limit (w ++ c ∷ []) r bs
digit_on limit w r c bs range = grind (arith, nat_tests)

digits_on : (limit : ℕ) (w : List ℕ) (r : Reading) (ds rest : List ℕ) → AllDigits 10 ds → run limit w r (ds ++ rest) ≡ run limit (w ++ ds) r rest
digits_on limit w r [] rest d = ap (λ (v : List ℕ). run limit v r rest) (sym (append-nil w))
digits_on limit w r (c ∷ cs) rest d =
    digit_on limit w r c (cs ++ rest) (digit_from_value c d.0)
    ∙ digits_on limit (w ++ c ∷ []) r cs rest d.1
    ∙ ap (λ (v : List ℕ). run limit v r rest) (append_assoc w (c ∷ []) cs)

-- after a word of digits
abbrev after : ℕ → List ℕ → Option Reading → Option Reading
after limit bs o = option_and_then (λ (s : Reading). run limit [] s bs) o

-- where a bracket may open
abbrev opens : Head → Bool
opens Top = true
opens Seq = true
opens Alt = true
opens (Loop id) = true
opens _ = false

at_open : (limit : ℕ) (w : List ℕ) (r : Reading) (h : Head) → opens h ≡ true → word_at limit w r h ≡ opener limit w r
at_open limit w r Top e = refl
at_open limit w r Seq e = refl
at_open limit w r Alt e = refl
at_open limit w r (Loop id) e = refl
at_open limit w r OpenLeaf e = absurd (cc)
at_open limit w r OpenLoop e = absurd (cc)
at_open limit w r (Block b) e = absurd (cc)
at_open limit w r (Leaf b c) e = absurd (cc)
at_open limit w r (Used b c l) e = absurd (cc)

abbrev inner : Reading → Head → List Use → List Tree → Reading
inner r head uses members = record { top = record { head = head; uses = uses; members = members }; below = r.top ∷ r.below }

opened_is : (limit : ℕ) (h : Head) (r : Reading) → length r.below < limit → opened limit h r ≡ Some (inner r h [] [])
opened_is limit h r small = grind (arith, nat_tests)

abbrev pub added : Reading → Tree → Reading
added r tree = record { top = with_member r.top tree; below = r.below }

both : (a b : Bool) → (a && b) ≡ true → (a ≡ true) × (b ≡ true)
both true true e = (refl, refl)
both true false e = absurd (cc)
both false b e = absurd (cc)

pub block_small : (blocks block : ℕ) → is_block blocks block ≡ true → block < 2 ^ 32
block_small blocks block e =
    let first = (both (nat_lt block (2 ^ 32)) (nat_lt block blocks) e).0 in grind (arith, nat_tests, first)

pub loop_small : (loops id : ℕ) → is_loop loops id ≡ true → id < 2 ^ 32
loop_small loops id e =
    let first = (both (nat_lt id (2 ^ 32)) (nat_lt 0 id) (both (nat_lt id (2 ^ 32) && nat_lt 0 id) (nat_le id loops) e).0).0 in grind (arith, nat_tests, first)

module _ (blocks loops : ℕ) where
  abbrev fits : Tree → ℕ → Bool
  fits = tree_fits blocks loops

  abbrev fits_level : Tree-F (ℕ → Bool) → ℕ → Bool
  fits_level = level_fits blocks loops

  abbrev pub Reads : Tree → Type 0
  Reads tree = (limit room : ℕ) (r : Reading) (rest : List ℕ) → opens r.top.head ≡ true → fits tree room ≡ true → room + length r.below ≤ limit → run limit [] r (tree_text tree ++ rest) ≡ run limit [] (added r tree) rest

  abbrev AllRead : List Tree → Type 0
  AllRead [] = Unit {0}
  AllRead (x ∷ xs) = Reads x × AllRead xs

  -- the members of a bracket, and its end
  members_read : (limit room : ℕ) (ts : List Tree) (w : List ℕ) (r o : Reading) (h : Head) (ms : List Tree) (rest : List ℕ) → AllRead ts → opens h ≡ true → word_in limit w r ≡ Some (inner o h [] ms) → all_fit (map fits ts) room ≡ true → room + length (inner o h [] ms).below ≤ limit → run limit w r (spaced tree_text ts ++ (41 ∷ rest)) ≡ after limit rest (closed (inner o h [] (ms ++ ts)))
  members_read limit room [] w r o h ms rest all may is fit small =
      ap (λ (x : Option Reading). after limit rest (option_and_then closed x)) is
      ∙ ap (λ (m : List Tree). after limit rest (closed (inner o h [] m))) (sym (append-nil ms))
  members_read limit room (x ∷ xs) w r o h ms rest all may is fit small =
      let fits2 = both (fits x room) (all_fit (map fits xs) room) fit in
      let s : Reading = inner o h [] ms in
      let s2 : Reading = inner o h [] (ms ++ x ∷ []) in
      let tail = spaced tree_text xs ++ (41 ∷ rest) in
      ap (λ (y : Option Reading). after limit ((tree_text x ++ spaced tree_text xs) ++ (41 ∷ rest)) y) is
      ∙ ap (λ (bs : List ℕ). run limit [] s bs) (append_assoc (tree_text x) (spaced tree_text xs) (41 ∷ rest))
      ∙ all.0 limit room s tail may fits2.0 small
      ∙ members_read limit room xs [] s2 o h (ms ++ x ∷ []) rest all.1 may (at_open limit [] s2 h may) fits2.1 small
      ∙ ap (λ (m : List Tree). after limit rest (closed (inner o h [] m))) (append_assoc ms (x ∷ []) xs)

  -- the uses of a leaf, and its end
  uses_read : (limit : ℕ) (us : List Use) (w : List ℕ) (r o : Reading) (block base : ℕ) (vs : List Use) (rest : List ℕ) → word_in limit w r ≡ Some (inner o (Leaf block base) vs []) → uses_fit us ≡ true → run limit w r (spaced use_text us ++ (41 ∷ rest)) ≡ after limit rest (closed (inner o (Leaf block base) (vs ++ us) []))
  uses_read limit [] w r o block base vs rest is fit =
      ap (λ (x : Option Reading). after limit rest (option_and_then closed x)) is
      ∙ ap (λ (v : List Use). after limit rest (closed (inner o (Leaf block base) v []))) (sym (append-nil vs))
  uses_read limit (u ∷ us) w r o block base vs rest is fit =
      let fits2 = both (use_fits u) (uses_fit us) fit in
      let in_range = both (nat_lt u.line (2 ^ 30)) (nat_lt u.scope 17) fits2.0 in
      let small_line : u.line < 2 ^ 30 = grind (arith, nat_tests, in_range.0) in
      let small_scope : u.scope < 17 = grind (arith, nat_tests, in_range.1) in
      let s : Reading = inner o (Leaf block base) vs [] in
      let s2 : Reading = inner o (Used block base u.line) vs [] in
      let tail = spaced use_text us ++ (41 ∷ rest) in
      let grouped : (use_text u ++ spaced use_text us) ++ (41 ∷ rest) ≡ decimal u.line ++ (64 ∷ (decimal u.scope ++ tail)) = simp (append_assoc) in
      ap (λ (y : Option Reading). after limit ((use_text u ++ spaced use_text us) ++ (41 ∷ rest)) y) is
      ∙ ap (λ (bs : List ℕ). run limit [] s bs) grouped
      ∙ digits_on limit [] s (decimal u.line) (64 ∷ (decimal u.scope ++ tail)) (digits_decimal u.line (omega arith))
      ∙ ap (λ (n : Option ℕ). after limit (decimal u.scope ++ tail) (option_map (λ (n : ℕ). with_head s (Used block base n)) n)) (number_decimal (2 ^ 32) u.line (omega arith) (omega arith))
      ∙ digits_on limit [] s2 (decimal u.scope) tail (digits_decimal u.scope (omega arith))
      ∙ uses_read limit us (decimal u.scope) s2 o block base (vs ++ u ∷ []) rest (ap (λ (n : Option ℕ). option_map (λ (n : ℕ). with_use s2 block base (record { line = u.line; scope = n })) n) (number_decimal (2 ^ 32) u.scope (omega arith) (omega arith))) fits2.1
      ∙ ap (λ (v : List Use). after limit rest (closed (inner o (Leaf block base) v []))) (append_assoc vs (u ∷ []) us)

  -- what a tree that fits says of its parts
  pub fits_seq : (ts : List Tree) → fits (t.Seq ts) ≡ inside (all_fit (map fits ts))
  fits_seq ts = ap fits (sym (t.rolls-Seq ts)) ∙ fold-roll-Tree (ℕ → Bool) fits_level (Tree-F.Seq ts)

  pub fits_alt : (ts : List Tree) → fits (t.Alt ts) ≡ inside (all_fit (map fits ts))
  fits_alt ts = ap fits (sym (t.rolls-Alt ts)) ∙ fold-roll-Tree (ℕ → Bool) fits_level (Tree-F.Alt ts)

  pub fits_leaf : (block base : ℕ) (uses : List Use) → fits (t.Leaf block base uses) ≡ inside (λ r. is_block blocks block && nat_lt base (2 ^ 127) && uses_fit uses)
  fits_leaf block base uses = ap fits (sym (t.rolls-Leaf block base uses)) ∙ fold-roll-Tree (ℕ → Bool) fits_level (Tree-F.Leaf block base uses)

  pub fits_loop : (id : ℕ) (body exit : Tree) → fits (t.Loop id body exit) ≡ inside (λ r. is_loop loops id && fits body r && fits exit r)
  fits_loop id body exit = ap fits (sym (t.rolls-Loop id body exit)) ∙ fold-roll-Tree (ℕ → Bool) fits_level (Tree-F.Loop id body exit)

  -- a bracket of members
  seq_room : (limit room : ℕ) (ts : List Tree) (r : Reading) (rest : List ℕ) → AllRead ts → opens r.top.head ≡ true → inside (all_fit (map fits ts)) room ≡ true → room + length r.below ≤ limit → run limit [] r ((codes "(seq" ++ spaced tree_text ts ++ codes ")") ++ rest) ≡ run limit [] (added r (t.Seq ts)) rest
  seq_room limit zero ts r rest all may fit small = absurd (cc)
  seq_room limit (suc room) ts r rest all may fit small =
      ap (λ (bs : List ℕ). run limit (codes "(seq") r bs) (append_assoc (spaced tree_text ts) (codes ")") rest)
      ∙ members_read limit room ts (codes "(seq") r r Seq [] rest all refl (at_open limit (codes "(seq") r r.top.head may ∙ opened_is limit Seq r (omega arith)) fit (omega arith)

  alt_room : (limit room : ℕ) (ts : List Tree) (r : Reading) (rest : List ℕ) → AllRead ts → opens r.top.head ≡ true → inside (all_fit (map fits ts)) room ≡ true → room + length r.below ≤ limit → run limit [] r ((codes "(alt" ++ spaced tree_text ts ++ codes ")") ++ rest) ≡ run limit [] (added r (t.Alt ts)) rest
  alt_room limit zero ts r rest all may fit small = absurd (cc)
  alt_room limit (suc room) ts r rest all may fit small =
      ap (λ (bs : List ℕ). run limit (codes "(alt") r bs) (append_assoc (spaced tree_text ts) (codes ")") rest)
      ∙ members_read limit room ts (codes "(alt") r r Alt [] rest all refl (at_open limit (codes "(alt") r r.top.head may ∙ opened_is limit Alt r (omega arith)) fit (omega arith)

  reads_seq : (ts : List Tree) → AllRead ts → Reads (t.Seq ts)
  reads_seq ts all limit room r rest may fit small =
      ap (λ (bs : List ℕ). run limit [] r (bs ++ rest)) (text_seq ts)
      ∙ seq_room limit room ts r rest all may (ap (λ (f : ℕ → Bool). f room) (sym (fits_seq ts)) ∙ fit) small

  reads_alt : (ts : List Tree) → AllRead ts → Reads (t.Alt ts)
  reads_alt ts all limit room r rest may fit small =
      ap (λ (bs : List ℕ). run limit [] r (bs ++ rest)) (text_alt ts)
      ∙ alt_room limit room ts r rest all may (ap (λ (f : ℕ → Bool). f room) (sym (fits_alt ts)) ∙ fit) small

  leaf_room : (limit room block base : ℕ) (us : List Use) (r : Reading) (rest : List ℕ) → opens r.top.head ≡ true → inside (λ k. is_block blocks block && nat_lt base (2 ^ 127) && uses_fit us) room ≡ true → room + length r.below ≤ limit → run limit [] r (leaf_text block base us ++ rest) ≡ run limit [] (added r (t.Leaf block base us)) rest
  leaf_room limit zero block base us r rest may fit small = absurd (cc)
  leaf_room limit (suc room) block base us r rest may fit small =
      let fits2 = both (is_block blocks block && nat_lt base (2 ^ 127)) (uses_fit us) fit in
      let in_range = both (is_block blocks block) (nat_lt base (2 ^ 127)) fits2.0 in
      let small_block : block < 2 ^ 32 = block_small blocks block in_range.0 in
      let small_base : base < 2 ^ 127 = grind (arith, nat_tests, in_range.1) in
      let s : Reading = inner r OpenLeaf [] [] in
      let s2 : Reading = inner r (Block block) [] [] in
      let tail = spaced use_text us ++ (41 ∷ rest) in
      let later = decimal block ++ (32 ∷ (decimal base ++ tail)) in
      let grouped : leaf_text block base us ++ rest ≡ codes "(leaf " ++ later = simp (append_assoc) in
      ap (λ (bs : List ℕ). run limit [] r bs) grouped
      ∙ ap (λ (o : Option Reading). after limit later o) (at_open limit (codes "(leaf") r r.top.head may ∙ opened_is limit OpenLeaf r (omega arith))
      ∙ digits_on limit [] s (decimal block) (32 ∷ (decimal base ++ tail)) (digits_decimal block (omega (arith, small_block)))
      ∙ ap (λ (n : Option ℕ). after limit (decimal base ++ tail) (option_map (λ (n : ℕ). with_head s (Block n)) n)) (number_decimal (2 ^ 32) block small_block (omega arith))
      ∙ digits_on limit [] s2 (decimal base) tail (digits_decimal base small_base)
      ∙ uses_read limit us (decimal base) s2 r block base [] rest (ap (λ (n : Option ℕ). option_map (λ (n : ℕ). with_head s2 (Leaf block n)) n) (number_decimal (2 ^ 127) base small_base (omega arith))) fits2.1

  reads_leaf : (block base : ℕ) (us : List Use) → Reads (t.Leaf block base us)
  reads_leaf block base us limit room r rest may fit small =
      ap (λ (bs : List ℕ). run limit [] r (bs ++ rest)) (text_leaf block base us)
      ∙ leaf_room limit room block base us r rest may (ap (λ (f : ℕ → Bool). f room) (sym (fits_leaf block base us)) ∙ fit) small

  loop_room : (limit room id : ℕ) (body exit : Tree) (r : Reading) (rest : List ℕ) → Reads body → Reads exit → opens r.top.head ≡ true → inside (λ k. is_loop loops id && fits body k && fits exit k) room ≡ true → room + length r.below ≤ limit → run limit [] r ((codes "(loop " ++ decimal id ++ codes " " ++ tree_text body ++ codes " " ++ tree_text exit ++ codes ")") ++ rest) ≡ run limit [] (added r (t.Loop id body exit)) rest
  loop_room limit zero id body exit r rest first second may fit small = absurd (cc)
  loop_room limit (suc room) id body exit r rest first second may fit small =
      let fits2 = both (is_loop loops id && fits body room) (fits exit room) fit in
      let fits3 = both (is_loop loops id) (fits body room) fits2.0 in
      let small_id : id < 2 ^ 32 = loop_small loops id fits3.0 in
      let s : Reading = inner r OpenLoop [] [] in
      let s2 : Reading = inner r (Loop id) [] [] in
      let s3 : Reading = inner r (Loop id) [] (body ∷ []) in
      let later = 32 ∷ (tree_text exit ++ (41 ∷ rest)) in
      let all = decimal id ++ (32 ∷ (tree_text body ++ later)) in
      let grouped : (codes "(loop " ++ decimal id ++ codes " " ++ tree_text body ++ codes " " ++ tree_text exit ++ codes ")") ++ rest ≡ codes "(loop " ++ all = simp (append_assoc) in
      ap (λ (bs : List ℕ). run limit [] r bs) grouped
      ∙ ap (λ (o : Option Reading). after limit all o) (at_open limit (codes "(loop") r r.top.head may ∙ opened_is limit OpenLoop r (omega arith))
      ∙ digits_on limit [] s (decimal id) (32 ∷ (tree_text body ++ later)) (digits_decimal id (omega (arith, small_id)))
      ∙ ap (λ (n : Option ℕ). after limit (tree_text body ++ later) (option_map (λ (n : ℕ). with_head s (Loop n)) n)) (number_decimal (2 ^ 32) id small_id (omega arith))
      ∙ first limit room s2 later refl fits3.1 (omega arith)
      ∙ second limit room s3 (41 ∷ rest) refl fits2.1 (omega arith)

  reads_loop : (id : ℕ) (body exit : Tree) → Reads body → Reads exit → Reads (t.Loop id body exit)
  reads_loop id body exit first second limit room r rest may fit small =
      ap (λ (bs : List ℕ). run limit [] r (bs ++ rest)) (text_loop id body exit)
      ∙ loop_room limit room id body exit r rest first second may (ap (λ (f : ℕ → Bool). f room) (sym (fits_loop id body exit)) ∙ fit) small

  abbrev Known : Type 0
  Known = Such the_family (claims Reads) member-Tree

  all_read : (ys : List Known) → AllRead (map (λ e. e.0) ys)
  all_read [] = tt
  all_read (y ∷ ys) = (y.1, all_read ys)

  one_level : (y : Tree-F Known) → Reads (roll-Tree (map-Tree Known Tree (λ e. e.0) y))
  one_level (Tree-F.Leaf block base uses) = subst Reads (sym (t.rolls-Leaf block base uses)) (reads_leaf block base uses)
  one_level (Tree-F.Seq ys) = subst Reads (sym (t.rolls-Seq (map (λ e. e.0) ys))) (reads_seq (map (λ e. e.0) ys) (all_read ys))
  one_level (Tree-F.Alt ys) = subst Reads (sym (t.rolls-Alt (map (λ e. e.0) ys))) (reads_alt (map (λ e. e.0) ys) (all_read ys))
  one_level (Tree-F.Loop id body exit) = subst Reads (sym (t.rolls-Loop id body.0 exit.0)) (reads_loop id body.0 exit.0 body.1 exit.1)

  pub tree_reads : (tree : Tree) → Reads tree
  tree_reads tree = ind-Tree Reads (λ x y e. subst (λ (l : Tree-F Tree). Reads (roll-Tree l)) e (one_level y)) tree

  pub parsed_text : (limit : ℕ) (tree : Tree) → fits tree limit ≡ true → parsed limit (tree_text tree) ≡ Some tree
  parsed_text limit tree fit =
      ap (λ (bs : List ℕ). parsed limit bs) (sym (append-nil (tree_text tree)))
      ∙ ap (λ (o : Option Reading). option_and_then (λ (r : Reading). single r.top.members) o) (tree_reads tree limit limit start [] refl fit (omega arith))

  some_same : (x y : Tree) → Some x ≡ Some y → x ≡ y
  some_same x y e = cc

  if_kept : (b : Bool) (text written : List ℕ) (tree u : Tree) → Decides b (written ≡ text) → written ≡ tree_text tree → (if b then Some tree else None) ≡ Some u → text ≡ tree_text u
  if_kept true text written tree u d is e = sym (d.0 refl) ∙ is ∙ ap tree_text (some_same tree u e)
  if_kept false text written tree u d is e = absurd (cc)

  kept_same : (text : List ℕ) (tree u : Tree) → kept text tree ≡ Some u → text ≡ tree_text u
  kept_same text tree u e = if_kept (bytes_eq (tree_text tree) text) text (tree_text tree) tree u (bytes_eq-Decides (tree_text tree) text) refl e

  pub read_found : (limit : ℕ) (text : List ℕ) (tree : Tree) → read_of limit text ≡ Some tree → text ≡ tree_text tree
  read_found limit text tree e = option_and_then_some (kept text) (parsed limit text) tree e (λ x is kept. kept_same text x tree kept)

  pub read_only : (limit : ℕ) (tree : Tree) → fits tree limit ≡ true → read_of limit (tree_text tree) ≡ Some tree
  read_only limit tree fit =
      ap (option_and_then (kept (tree_text tree))) (parsed_text limit tree fit)
      ∙ ap (λ (b : Bool). if b then Some tree else None) ((bytes_eq-Decides (tree_text tree) (tree_text tree)).1 refl)

  pub fits_loop_at : (id room : ℕ) (body exit tree : Tree) (b e r : Bool) → tree ≡ t.Loop id body exit → room ≢ 0 → b ≡ fits body (room - 1) → e ≡ fits exit (room - 1) → r ≡ (is_loop loops id && b && e) → r ≡ fits tree room
  fits_loop_at id zero body exit tree b e r is some first second all = absurd (some refl)
  fits_loop_at id (suc room) body exit tree b e r is some first second all =
      let less : suc room - 1 ≡ room = omega arith in
      all
      ∙ (λ i. is_loop loops id && first i && second i)
      ∙ (λ i. is_loop loops id && fits body (less i) && fits exit (less i))
      ∙ sym (ap (λ (f : ℕ → Bool). f (suc room)) (fits_loop id body exit))
      ∙ ap (λ (x : Tree). fits x (suc room)) (sym is)
