use Rattle.std.proofs.Common.{ℕ, List, ◌∷◌, ◌++◌, sym, ap, ◌∙◌, append-nil, codes, string_bytes}
use Rattle.std.specs.Fmt.{decimal}
use Rattle.report_elements.specs.Elements.{address_text}
use Rattle.report_lines.proofs.WriteLaws.{joined3}
use Rattle.report_lines.proofs.writing.push_function.Goals as goal

pub returns : goal.returns
returns c =
    joined3 (string_bytes c.args.out.now) (string_bytes c.push_str.new.self) (string_bytes c.push_address.new.out) (string_bytes c.push_stack.new.out) (codes "function") (32 ∷ address_text c.args.entry) (codes " stack" ++ (32 ∷ decimal c.args.stack)) c.in_ok-push_str.ensures.bytes c.in_ok-push_address.ensures c.in_ok-push_stack.ensures
    ∙ ap (λ (v : List ℕ). string_bytes c.args.out.now ++ (codes "function" ++ (32 ∷ (address_text c.args.entry ++ (codes " stack" ++ (32 ∷ v)))))) (sym (append-nil (decimal c.args.stack)))
