-- How a tree is read, byte by byte with its open brackets, and which trees may stand in a report.
use Rattle.std.specs.Prelude.{ℕ, zero, suc, ◌^◌, ◌==◌, ◌||◌, ◌&&◌, if◌then◌else◌, Bool, true, false, List, [], ◌∷◌, ◌++◌, Option, Some, None, codes, length, nat_le, nat_lt}
use Rattle.std.specs.Option.{option_map, option_and_then}
use Rattle.std.specs.Str.{bytes_eq}
use Rattle.wsym_terms.specs.declared.trees.Use.{Use}
use Rattle.wsym_terms.specs.declared.trees.Tree.{Tree, fold-Tree}
use Rattle.wsym_terms.specs.declared.trees.Tree.TheOpen.{Tree-F}
use Rattle.wsym_terms.specs.declared.trees.Tree.TheVariants as t
use Rattle.report_elements.specs.Elements.{tree_text}
use Rattle.report_elements.specs.declared.tree_brackets.Head.{Head}
use Rattle.report_elements.specs.declared.tree_brackets.Head.TheVariants.{Top, OpenLeaf, Block, Leaf, Used, Seq, Alt, OpenLoop, Loop}
use Rattle.report_elements.specs.declared.tree_brackets.Frame.{Frame}
use Rattle.report_elements.specs.declared.tree_brackets.Reading.{Reading}
use Rattle.report_elements.specs.Numbers.{number_below}

abbrev pub with_head : Reading → Head → Reading
with_head r head = record { top = record { head = head; uses = r.top.uses; members = r.top.members }; below = r.below }

abbrev pub opened : ℕ → Head → Reading → Option Reading
opened limit head r =
    if nat_lt (length r.below) limit
    then Some (record { top = record { head = head; uses = []; members = [] }; below = r.top ∷ r.below })
    else None

abbrev pub opener : ℕ → List ℕ → Reading → Option Reading
opener limit word r =
    if bytes_eq word [] then Some r
    else if bytes_eq word (codes "(leaf") then opened limit OpenLeaf r
    else if bytes_eq word (codes "(seq") then opened limit Seq r
    else if bytes_eq word (codes "(alt") then opened limit Alt r
    else if bytes_eq word (codes "(loop") then opened limit OpenLoop r
    else None

abbrev pub with_use : Reading → ℕ → ℕ → Use → Reading
with_use r block base used =
    record {
      top = record { head = Leaf block base; uses = r.top.uses ++ used ∷ []; members = r.top.members };
      below = r.below;
    }

abbrev pub word_at : ℕ → List ℕ → Reading → Head → Option Reading
word_at limit word r OpenLeaf = option_map (λ n. with_head r (Block n)) (number_below (2 ^ 32) 0 word)
word_at limit word r (Block block) = option_map (λ n. with_head r (Leaf block n)) (number_below (2 ^ 127) 0 word)
word_at limit word r (Leaf block base) =
    option_map (λ n. with_head r (Used block base n)) (number_below (2 ^ 32) 0 word)
word_at limit word r (Used block base line) =
    option_map (λ n. with_use r block base (record { line = line; scope = n })) (number_below (2 ^ 32) 0 word)
word_at limit word r OpenLoop = option_map (λ n. with_head r (Loop n)) (number_below (2 ^ 32) 0 word)
word_at limit word r Top = opener limit word r
word_at limit word r Seq = opener limit word r
word_at limit word r Alt = opener limit word r
word_at limit word r (Loop id) = opener limit word r

abbrev pub word_in : ℕ → List ℕ → Reading → Option Reading
word_in limit word r = word_at limit word r r.top.head

abbrev pub loop_of : ℕ → List Tree → Option Tree
loop_of id (body ∷ exit ∷ []) = Some (t.Loop id body exit)
loop_of id _ = None

abbrev pub built_at : Frame → Head → Option Tree
built_at f (Leaf block base) = Some (t.Leaf block base f.uses)
built_at f Seq = Some (t.Seq f.members)
built_at f Alt = Some (t.Alt f.members)
built_at f (Loop id) = loop_of id f.members
built_at f _ = None

abbrev pub built : Frame → Option Tree
built f = built_at f f.head

abbrev pub with_member : Frame → Tree → Frame
with_member f tree = record { head = f.head; uses = f.uses; members = f.members ++ tree ∷ [] }

abbrev pub given : List Frame → Tree → Option Reading
given [] tree = None
given (f ∷ fs) tree = Some (record { top = with_member f tree; below = fs })

abbrev pub closed : Reading → Option Reading
closed r = option_and_then (given r.below) (built r.top)

abbrev pub ends : ℕ → List ℕ → Reading → Option Reading
ends limit word r = option_and_then closed (word_in limit word r)

-- the whole text, after the word so far
abbrev pub run : ℕ → List ℕ → Reading → List ℕ → Option Reading
run limit word r [] = Some r
run limit word r (b ∷ bs) =
    if b == 32 || b == 64 then option_and_then (λ (s : Reading). run limit [] s bs) (word_in limit word r)
    else if b == 41 then option_and_then (λ (s : Reading). run limit [] s bs) (ends limit word r)
    else run limit (word ++ b ∷ []) r bs

abbrev pub start : Reading
start = record { top = record { head = Top; uses = []; members = [] }; below = [] }

abbrev pub single : List Tree → Option Tree
single (tree ∷ []) = Some tree
single _ = None

abbrev pub parsed : ℕ → List ℕ → Option Tree
parsed limit text = option_and_then (λ (r : Reading). single r.top.members) (run limit [] start text)

-- a use of a line that an address may have, within one entry of at most 16 loops
abbrev pub use_fits : Use → Bool
use_fits u = nat_lt u.line (2 ^ 30) && nat_lt u.scope 17

abbrev pub uses_fit : List Use → Bool
uses_fit [] = true
uses_fit (u ∷ us) = use_fits u && uses_fit us

abbrev pub all_fit : List (ℕ → Bool) → ℕ → Bool
all_fit [] room = true
all_fit (f ∷ fs) room = f room && all_fit fs room

-- inside of one more bracket
abbrev pub inside : (ℕ → Bool) → ℕ → Bool
inside f zero = false
inside f (suc room) = f room

-- the number of one of some blocks, which have numbers from 0
abbrev pub is_block : ℕ → ℕ → Bool
is_block blocks block = nat_lt block (2 ^ 32) && nat_lt block blocks

-- the number of one of some loops, which have numbers from 1
abbrev pub is_loop : ℕ → ℕ → Bool
is_loop loops id = nat_lt id (2 ^ 32) && nat_lt 0 id && nat_le id loops

-- what may stand in a report of that many blocks and loops: they exist, the numbers are in range, and no more brackets stand
-- in one another than there is room for
module _ (blocks loops : ℕ) where
  abbrev pub fits_level : Tree-F (ℕ → Bool) → ℕ → Bool
  fits_level (Tree-F.Leaf block base uses) room =
      inside (λ r. is_block blocks block && nat_lt base (2 ^ 127) && uses_fit uses) room
  fits_level (Tree-F.Seq members) room = inside (all_fit members) room
  fits_level (Tree-F.Alt choices) room = inside (all_fit choices) room
  fits_level (Tree-F.Loop id body exit) room = inside (λ r. is_loop loops id && body r && exit r) room

  abbrev pub fits : Tree → ℕ → Bool
  fits = fold-Tree (ℕ → Bool) fits_level

-- a tree where the text is its text
abbrev pub kept : List ℕ → Tree → Option Tree
kept text tree = if bytes_eq (tree_text tree) text then Some tree else None

abbrev pub read_of : ℕ → List ℕ → Option Tree
read_of limit text = option_and_then (kept text) (parsed limit text)
