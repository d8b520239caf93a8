use Rattle.std.proofs.Common.{◌≡◌, ℕ, length}
use Rattle.std.specs.Prelude.{None}
use Rattle.line_uses.specs.Scopes.{scope_in}
use Rattle.line_uses.proofs.scopes.no_scopes.Given as goal

abbrev pub invariant-loop-made : goal.invariant-loop-made
invariant-loop-made l =
    record {
      size : length l.scopes.items ≡ l._made;
      none : (p : ℕ) → scope_in l.scopes.items p ≡ None;
    }
