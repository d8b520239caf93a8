use Rattle.std.proofs.Common.{rules, length}
use Rattle.std.specs.Prelude.{nat_eq}
use Rattle.graph_search.specs.Walks.{Reached}
use Rattle.graph_search.specs.Searches.{steps_to}
use Rattle.basic_blocks.specs.LivePoints.{before}
use Rattle.point_tables.proofs.SourceLemmas.{flags_reach}
use Rattle.point_tables.proofs.liveness.live_flags.Goals as goal

pub returns-clause-live : goal.returns-clause-live
returns-clause-live c =
    flags_reach (length c.args.rows.now) c.args.last c.in-Ok.found c.flag_all.new.flags.items
    (λ i. Reached (steps_to nat_eq (before c.args.rows.now)) c.args.last i) c.requires
    (c.flag_all.ensures (length c.args.rows.now) (search rules)) c.in-Ok.ensures.found c.in-Ok.ensures.all
