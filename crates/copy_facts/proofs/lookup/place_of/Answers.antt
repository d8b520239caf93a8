use Rattle.std.proofs.Common.{arith}
use Rattle.copy_facts.proofs.EntryLemmas.{greater_after, middle_below, smaller_before}
use Rattle.copy_facts.proofs.lookup.place_of.Goals as goal

pub loop-low-preserved-then-words-middle : goal.loop-low-preserved-then-words-middle
loop-low-preserved-then-words-middle c =
    let m = middle_below c.loop-low.low c.loop-low.high c.loop-low-test.true in
    let i = c.loop-low.invariant.inside in
    record {
      within = omega (arith, m);
      inside = i;
      before = smaller_before _ c.args.words.now _ c.args.word c.requires (omega (arith, m, i)) c.if-words-middle.true;
      after = c.loop-low.invariant.after;
    }

pub loop-low-preserved : goal.loop-low-preserved
loop-low-preserved c =
    let m = middle_below c.loop-low.low c.loop-low.high c.loop-low-test.true in
    let i = c.loop-low.invariant.inside in
    record {
      within = omega arith;
      inside = omega (arith, m, i);
      before = c.loop-low.invariant.before;
      after = greater_after _ c.args.words.now _ c.args.word c.requires (omega (arith, m, i)) c.if-words-middle.false;
    }
