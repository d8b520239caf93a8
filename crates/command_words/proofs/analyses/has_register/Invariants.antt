use Rattle.std.proofs.Common.{◌≡◌, ◌==◌, drop}
use Rattle.std.specs.List.{list_any}
use Rattle.command_words.proofs.analyses.has_register.Given as goal

abbrev pub invariant-loop-other : goal.invariant-loop-other
invariant-loop-other l =
    list_any (λ q. q.register == l.register) (drop l.other-index l.params) ≡ list_any (λ q. q.register == l.register) l.params
