use Rattle.std.proofs.Common.{rules, slice_index_or, refl, ◌∙◌}
use Rattle.std.specs.Prelude.{None}
use Rattle.line_uses.specs.PointMaps.{code_of}
use Rattle.line_uses.specs.Scopes.{use_points}
use Rattle.line_uses.proofs.DepthLemmas.{at_place}
use Rattle.line_uses.proofs.OrderLemmas.{all_flagged, flag_size, none_flagged, point_flag}
use Rattle.line_uses.proofs.order.flag_block.Goals as goal

pub loop-point-init : goal.loop-point-init
loop-point-init c =
    record {
      size = refl;
      flagged = λ inside. none_flagged (code_of c.args.tables.now) (use_points (code_of c.args.tables.now) None c.args.points.now)
          c.args.flags.now.items;
    }

pub loop-point-preserved : goal.loop-point-preserved
loop-point-preserved c =
    record {
      size = flag_size (code_of c.args.tables.now) c.loop-point.before (slice_index_or c.args.points.now c.loop-point.point-index 0)
          c.loop-point.flags.items c.flag_use.new.flags.items c.flag_use.ensures ∙ c.loop-point.invariant.size;
      flagged = λ inside.
          point_flag (code_of c.args.tables.now) c.loop-point.before c.loop-point.point-index c.args.points.now
          (use_points (code_of c.args.tables.now) None c.args.points.now) c.args.flags.now.items c.loop-point.flags.items
          c.flag_use.new.flags.items (search rules)
          (inside (slice_index_or c.args.points.now c.loop-point.point-index 0)
          (at_place c.args.points.now c.loop-point.point-index 0 (search rules))) c.flag_use.ensures
          (c.loop-point.invariant.flagged inside);
    }

pub returns-clause-kept : goal.returns-clause-kept
returns-clause-kept c = λ inside. (c.loop-point.invariant.flagged inside).kept

pub returns-clause-all : goal.returns-clause-all
returns-clause-all c = λ inside.
    all_flagged (code_of c.args.tables.now) c.loop-point.before c.loop-point.point-index c.args.points.now
    (use_points (code_of c.args.tables.now) None c.args.points.now) c.args.flags.now.items c.loop-point.flags.items (search rules)
    (c.loop-point.invariant.flagged inside)
