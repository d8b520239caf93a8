use Rattle.std.proofs.Common.{rules, ap, arith}
use Rattle.copy_facts.specs.Points.{stepped_entry}
use Rattle.copy_facts.proofs.StepLemmas.{all_on}
use Rattle.copy_facts.proofs.stepping.step_all.Goals as goal

pub loop-word-preserved : goal.loop-word-preserved
loop-word-preserved c =
    let l = c.loop-word-test.true in
    record {
      within = omega (arith, l);
      entries =
          all_on (stepped_entry c.args.stack c.args.site.now c.args.done c.args.facts.now) c.loop-word.word c.loop-word.out.items
          c.word_after.result c.put.new.words.items
          c.loop-word.invariant.entries c.word_after.ensures (ap (λ e. e.word) c.word_after.ensures) (search rules);
    }
