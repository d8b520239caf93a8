use Rattle.std.proofs.Common.{sym, ◌∙◌, ap, ℕ, [], string_bytes, Vec}
use Rattle.std.specs.declared.alloc.Global.{Global}
use Rattle.report_lines.specs.Grammar.{lines_text}
use Rattle.whole_reports.proofs.Parts.{head_of, sections_of, tail_of, text_in_parts, three_pieces}
use Rattle.whole_reports.proofs.writing.write_report.Goals as goal

pub returns : goal.returns
returns c =
    let r = c.args.report.now in
    three_pieces (string_bytes c.new-out.result) (string_bytes c.push_head.new.out) (string_bytes c.push_sections.new.out) c.into_bytes.result.items
    (lines_text [] (head_of r)) (sections_of r) (lines_text [] (tail_of r))
    c.new-out.ensures.bytes c.in_ok-push_head.ensures c.in_ok-push_sections.ensures (ap (λ (v : Vec ℕ Global). v.items) c.into_bytes.ensures.value ∙ c.in_ok-push_tail.ensures)
    ∙ sym (text_in_parts r)
