use Rattle.std.proofs.Common.{refl}
use Rattle.interval_loops.specs.Nests.{header_of, parent_of, inner_of, depth_of, around_of}
use Rattle.interval_loops.proofs.ClosingLemmas.{closes}
use Rattle.interval_loops.proofs.RoundLemmas.{are_loops, is_order, is_round, are_ends}
use Rattle.interval_loops.proofs.nests_are_loops.Goals as goal

pub returns : goal.returns
returns c flow n ends reach is =
    let m = is.2 in
    let k = closes flow is.0 is.1 m.reduced m.rises in (
      are_loops flow is.0.closed is.1 k reach m.rises (header_of flow n) (parent_of n) (inner_of n) (depth_of n) (around_of n) 16 m.round,
      is_round flow is.0.closed is.1 k reach m.rises (header_of flow n) (parent_of n) (inner_of n) (depth_of n)
          (around_of n) 16 m.round ends,
      (
        is.1,
        is_order flow is.0.closed is.1 k reach m.rises (header_of flow n) (parent_of n) (inner_of n) (depth_of n) (around_of n) 16 m.round,
        are_ends flow is.0.closed is.1 k reach m.rises (header_of flow n) (parent_of n) (inner_of n) (depth_of n)
            (around_of n) 16 m.round refl m.ranks,
      ),
    )
