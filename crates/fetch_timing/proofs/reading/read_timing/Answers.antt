use Rattle.serde_json.specs.View.{view}
use Rattle.fetch_timing.proofs.Numbers.{limits_if_ok}
use Rattle.fetch_timing.proofs.reading.read_timing.Goals as goal

pub returns-clause-limits : goal.returns-clause-limits
returns-clause-limits c = limits_if_ok (view c.in_ok-value.value) c.timing_in.result _ c.ok_or.result c.timing_in.ensures c.ok_or.ensures.value
