use Rattle.level_tables.proofs.TakenNumberLemmas.{exact_now, order_now, rising_now}
use Rattle.level_tables.proofs.paths.ascending.Goals as goal

pub loop-number-preserved : goal.loop-number-preserved
loop-number-preserved c =
    let i = c.loop-number.invariant in
    record {
      exact = exact_now c.args.numbers c.loop-number.numbers c.pop_first.new.self c.in-Some.number c.in-Some.ensures.member
          c.in-Some.ensures.least c.in-Some.ensures.updates.0 c.loop-number.rising c.push.new.self c.in_ok-push.ensures.ok i.exact i.order i.rising;
      order = order_now c.args.numbers c.loop-number.numbers c.pop_first.new.self c.in-Some.number c.in-Some.ensures.member
          c.in-Some.ensures.least c.in-Some.ensures.updates.0 c.loop-number.rising c.push.new.self c.in_ok-push.ensures.ok i.exact i.order i.rising;
      rising = rising_now c.args.numbers c.loop-number.numbers c.pop_first.new.self c.in-Some.number c.in-Some.ensures.member
          c.in-Some.ensures.least c.in-Some.ensures.updates.0 c.loop-number.rising c.push.new.self c.in_ok-push.ensures.ok i.exact i.order i.rising;
    }
