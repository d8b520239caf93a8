use Rattle.std.proofs.Common.{rules, length, ◌+◌}
use Rattle.interval_loops.proofs.HeaderLemmas.{no_numbers, number_next, few_more, item_in}
use Rattle.interval_loops.proofs.tables.numbers.Goals as goal

pub loop-row-init : goal.loop-row-init
loop-row-init c = record {
  place = search rules;
  few = search rules;
  are = no_numbers c.args.closers.now c.args.headers.now.items
      c.new-numbers.result.items c.requires.none (search rules);
}

pub loop-row-preserved : goal.loop-row-preserved
loop-row-preserved c =
    let i = c.loop-row.invariant in
    record {
      place = search rules;
      few = few_more c.loop-row.row-index c.loop-row.block
          (length c.loop-row.headers.items + 1) c.loop-row.headers.items c.add_number.new.headers.items c.loop-row.numbers.items
          c.add_number.new.numbers.items c.is_empty.result i.few c.in_ok-add_number.ensures.none c.in_ok-add_number.ensures.some;
      are = number_next c.args.closers.now c.loop-row.row-index c.loop-row.block c.loop-row.headers.items c.loop-row.numbers.items
          c.add_number.new.headers.items c.add_number.new.numbers.items c.is_empty.result c.row-item.result
          (item_in c.args.closers.now c.loop-row.row-index c.row-item.result c.row-item.result c.loop-row-test.true c.row-item.is) i.place
          i.are c.is_empty.ensures
          c.in_ok-add_number.ensures.none c.in_ok-add_number.ensures.some;
    }
