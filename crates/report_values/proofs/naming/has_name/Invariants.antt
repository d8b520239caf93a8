use Rattle.std.proofs.Common.{◌≡◌, drop}
use Rattle.std.specs.Str.{bytes_eq}
use Rattle.std.specs.List.{list_any}
use Rattle.report_values.proofs.naming.has_name.Given as goal

abbrev pub invariant-loop-other : goal.invariant-loop-other
invariant-loop-other l =
    list_any (λ q. bytes_eq q.name l.name) (drop l.other-index l.values) ≡ list_any (λ q. bytes_eq q.name l.name) l.values
