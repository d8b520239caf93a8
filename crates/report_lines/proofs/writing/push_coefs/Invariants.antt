use Rattle.std.proofs.Common.{◌≡◌, ◌++◌, string_bytes, drop, map}
use Rattle.report_elements.specs.Elements.{in_brackets}
use Rattle.report_elements.specs.Elements.{coef_text}
use Rattle.report_lines.proofs.writing.push_coefs.Given as goal

abbrev pub invariant-loop-coef : goal.invariant-loop-coef
invariant-loop-coef l = string_bytes l.out ++ in_brackets (map (coef_text l.params) (drop l.coef-index l.coefs)) ≡ string_bytes l.fn.out ++ in_brackets (map (coef_text l.params) l.coefs)
