use Rattle.std.proofs.Common.{append_assoc}
use Rattle.report_elements.proofs.Opening.{text_seq, text_alt, text_loop}
use Rattle.report_elements.proofs.tree_text.+trees.Goals as goal

pub push_tree-returns-in_ok-push_str-in-Seq-2 : goal.push_tree-returns-in_ok-push_str-in-Seq-2
push_tree-returns-in_ok-push_str-in-Seq-2 t c =
    rw (c.in-Seq.is, text_seq) (simp (c.in_ok-push_str-in-Seq-2.ensures.bytes, c.in_ok-push_trees-in-Seq.ensures, c.as_slice-in-Seq.ensures, c.in_ok-push_str-in-Seq.ensures.bytes, append_assoc))

pub push_tree-returns-in_ok-push_str-in-Alt-2 : goal.push_tree-returns-in_ok-push_str-in-Alt-2
push_tree-returns-in_ok-push_str-in-Alt-2 t c =
    rw (c.in-Alt.is, text_alt) (simp (c.in_ok-push_str-in-Alt-2.ensures.bytes, c.in_ok-push_trees-in-Alt.ensures, c.as_slice-in-Alt.ensures, c.in_ok-push_str-in-Alt.ensures.bytes, append_assoc))

pub push_tree-returns-in_ok-push_str-in-Loop-2 : goal.push_tree-returns-in_ok-push_str-in-Loop-2
push_tree-returns-in_ok-push_str-in-Loop-2 t c =
    rw (c.in-Loop.is, text_loop) (simp (c.in_ok-push_str-in-Loop-2.ensures.bytes, c.in_ok-push_tree-in-Loop-2.ensures, c.get-in-Loop.ensures, c.in_ok-push_str-in-Loop.ensures.bytes, c.in_ok-push_tree-in-Loop.ensures, c.get.ensures, c.in_ok-write-in-Loop.ensures.bytes, append_assoc))
