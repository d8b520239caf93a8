use Rattle.std.proofs.Common.{arith, length}
use Rattle.std.specs.Prelude.{slice_get}
use Rattle.std.proofs.lemmas.Option.{slice_get-get_or}
use Rattle.copy_facts.specs.Frames.{IsUnprovedNumber, address_in}
use Rattle.copy_facts.proofs.LeastLemmas.{least_of_all, unproved_on, unproved_skip}
use Rattle.copy_facts.proofs.least.first_unproved.Goals as goal

pub loop-at-preserved-then-not-unproved : goal.loop-at-preserved-then-not-unproved
loop-at-preserved-then-not-unproved c =
    let l = c.loop-at-test.true in
    record {
      within = omega (arith, l);
      least =
          unproved_skip c.args.sites.now c.args.facts.now c.loop-at.at c.loop-at.found _
          (slice_get-get_or c.args.sites.now c.loop-at.at _ l) c.loop-at.invariant.least
          c.unproved_number-unproved.result c.unproved_number-unproved.ensures c.if-not-unproved.true;
    }

pub loop-at-preserved : goal.loop-at-preserved
loop-at-preserved c =
    let l = c.loop-at-test.true in
    record {
      within = omega (arith, l);
      least =
          unproved_on c.args.sites.now c.args.facts.now c.loop-at.at c.loop-at.found _
          (slice_get-get_or c.args.sites.now c.loop-at.at _ l) c.loop-at.invariant.least
          c.unproved_number-unproved.result c.unproved_number-unproved.ensures c.lesser-found.result c.if-not-unproved.false
          c.lesser-found.ensures;
    }

pub returns : goal.returns
returns c =
    least_of_all (IsUnprovedNumber c.args.sites.now c.args.facts.now) (λ i. address_in (slice_get c.args.sites.now i))
    (length c.args.sites.now) c.loop-at.at c.loop-at.found
    c.loop-at.invariant.least c.loop-at.invariant.within c.loop-at-test.false
