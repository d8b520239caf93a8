use Rattle.std.proofs.Common.{◌≡◌, ◌+◌, ◌≤◌, drop, map, min}
use Rattle.wsym_formula.specs.Values.{counts_of, total}
use Rattle.report_elements.proofs.sizes.+counts.Given as goal

abbrev pub invariant-terms_counts-loop-term : goal.invariant-terms_counts-loop-term
invariant-terms_counts-loop-term l = (min (l.counts + total (map counts_of (drop l.term-index l.terms))) l.limit ≡ min (total (map counts_of l.terms)) l.limit) × (l.counts ≤ l.limit)
