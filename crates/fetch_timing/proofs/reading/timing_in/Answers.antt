use Rattle.std.proofs.Common.{rules}
use Rattle.serde_json.specs.View.{view}
use Rattle.fetch_timing.proofs.Names.{all_names}
use Rattle.fetch_timing.proofs.reading.timing_in.Goals as goal

pub returns : goal.returns
returns c =
    all_names (view c.args.value.now) c.in_ok-as_object.field-0.now.entries _ _ _ _ _ _ _ c.in_ok-as_object.ensures (search rules)
    c.in_ok-set_count.ensures c.in_ok-way_count.ensures c.in_ok-line_size.ensures c.in_ok-cycles.ensures c.in_ok-cycles-2.ensures c.in_ok-cycles-3.ensures
    c.in_ok-class_costs.ensures
