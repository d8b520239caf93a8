use Rattle.std.proofs.Common.{◌≡◌, ◌^◌, ◌<◌, IfSome, drop}
use Rattle.wsym_terms.specs.Extents.{lesser}
use Rattle.wsym_terms.specs.Bounds.{least_atom, turns_of}
use Rattle.wsym_terms.proofs.bounds.Bound.value.Given as goal

abbrev pub invariant-loop-atom : goal.invariant-loop-atom
invariant-loop-atom l = record {
  same : l.atom-items ≡ l.self.atoms;
  least : lesser (turns_of l.least) (least_atom l.values (drop l.atom-index l.atom-items)) ≡ least_atom l.values l.atom-items;
  small : IfSome l.least (λ n. n < 2 ^ 127);
}
