use Rattle.std.proofs.Common.{rules, ◌+◌, subst, take, List, ℕ}
use Rattle.std.proofs.lemmas.List.{take_all}
use Rattle.point_tables.specs.Numbers.{AreFlagged}
use Rattle.point_tables.proofs.SourceLemmas.{one_flagged, take_more}
use Rattle.point_tables.proofs.liveness.flag_all.Goals as goal

pub loop-at-preserved : goal.loop-at-preserved
loop-at-preserved c =
    record {
      within = search rules;
      flagged = λ n w.
          one_flagged n (take c.loop-at.at c.args.found.now) (take (c.loop-at.at + 1) c.args.found.now) c.loop-at.flags.items
          c.set_flag.new.flags.items c.get.result
          (take_more c.args.found.now c.loop-at.at c.get.result c.get.ensures) (c.loop-at.invariant.flagged n w) c.set_flag.ensures;
    }

pub returns : goal.returns
returns c n w = subst (λ (zs : List ℕ). AreFlagged n zs c.loop-at.flags.items) (take_all c.loop-at.at c.args.found.now (search rules))
    (c.loop-at.invariant.flagged n w)
