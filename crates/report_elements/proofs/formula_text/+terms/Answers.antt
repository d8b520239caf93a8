use Rattle.std.proofs.Common.{append_assoc}
use Rattle.report_elements.proofs.Opening.{text_sum, text_choices, text_power, text_once, text_scaled}
use Rattle.report_elements.proofs.formula_text.+terms.Goals as goal

pub push_term-returns-in_ok-push_str-in-Sum-2 : goal.push_term-returns-in_ok-push_str-in-Sum-2
push_term-returns-in_ok-push_str-in-Sum-2 t c =
    rw (c.in-Sum.is, text_sum) (simp (c.in_ok-push_str-in-Sum-2.ensures.bytes, c.in_ok-push_terms-in-Sum.ensures, c.as_slice.ensures, c.in_ok-push_str-in-Sum.ensures.bytes, append_assoc))

pub push_term-returns-in_ok-push_str-in-Alt-2 : goal.push_term-returns-in_ok-push_str-in-Alt-2
push_term-returns-in_ok-push_str-in-Alt-2 t c =
    rw (c.in-Alt.is, text_choices) (simp (c.in_ok-push_str-in-Alt-2.ensures.bytes, c.in_ok-push_terms-in-Alt.ensures, c.as_slice-in-Alt.ensures, c.in_ok-push_str-in-Alt.ensures.bytes, append_assoc))

pub push_term-returns-in_ok-push_str-in-Power : goal.push_term-returns-in_ok-push_str-in-Power
push_term-returns-in_ok-push_str-in-Power t c =
    rw (c.in-Power.is, text_power) (simp (c.in_ok-push_str-in-Power.ensures.bytes, c.in_ok-push_term-in-Power.ensures, c.get.ensures, c.in_ok-write-in-Power.ensures.bytes, append_assoc))

pub push_term-returns-in_ok-push_str-in-Once-2 : goal.push_term-returns-in_ok-push_str-in-Once-2
push_term-returns-in_ok-push_str-in-Once-2 t c =
    rw (c.in-Once.is, text_once) (simp (c.in_ok-push_str-in-Once-2.ensures.bytes, c.in_ok-push_term-in-Once.ensures, c.get-in-Once.ensures, c.in_ok-push_str-in-Once.ensures.bytes, append_assoc))

pub push_term-returns-in_ok-push_str-in-Scaled : goal.push_term-returns-in_ok-push_str-in-Scaled
push_term-returns-in_ok-push_str-in-Scaled t c =
    rw (c.in-Scaled.is, text_scaled) (simp (c.in_ok-push_str-in-Scaled.ensures.bytes, c.in_ok-push_term-in-Scaled.ensures, c.get-in-Scaled.ensures, c.in_ok-write-in-Scaled.ensures.bytes, append_assoc))
