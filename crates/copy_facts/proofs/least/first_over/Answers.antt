use Rattle.std.proofs.Common.{arith, length}
use Rattle.std.specs.Prelude.{slice_get}
use Rattle.std.proofs.lemmas.Option.{slice_get-get_or}
use Rattle.copy_facts.specs.Frames.{IsOverNumber, address_in}
use Rattle.copy_facts.proofs.LeastLemmas.{least_of_all, over_next}
use Rattle.copy_facts.proofs.least.first_over.Goals as goal

pub loop-at-preserved : goal.loop-at-preserved
loop-at-preserved c =
    let l = c.loop-at-test.true in
    record {
      within = omega (arith, l);
      least =
          over_next c.args.stack c.args.sites.now c.args.facts.now c.loop-at.at c.loop-at.found _
          (slice_get-get_or c.args.sites.now c.loop-at.at _ l) c.loop-at.invariant.least
          c.over_number-over.result c.over_number-over.ensures c.with_lowest-found.result c.with_lowest-found.ensures;
    }

pub returns : goal.returns
returns c =
    least_of_all (IsOverNumber c.args.stack c.args.sites.now c.args.facts.now) (λ i. address_in (slice_get c.args.sites.now i))
    (length c.args.sites.now) c.loop-at.at c.loop-at.found
    c.loop-at.invariant.least c.loop-at.invariant.within c.loop-at-test.false
