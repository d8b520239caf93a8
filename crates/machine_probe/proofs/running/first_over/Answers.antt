use Rattle.std.proofs.Common.{Bool, cond, None, Some, ap, ◌∙◌}
use Rattle.std.specs.Option.{option_or}
use Rattle.machine_probe.proofs.Showing.{first_next}
use Rattle.machine_probe.proofs.running.first_over.Goals as goal

pub loop-place-preserved : goal.loop-place-preserved
loop-place-preserved g c =
    c.least-first.ensures
    ∙ ap (λ (b : Bool). option_or c.loop-place.first (cond b (Some c.loop-place.place) None)) c.is_over.ensures
    ∙ first_next (λ b. (goal.Probe-dyn g (b.vtable, b.value)).standing b.value) c.loop-place.place c.args.probes.now c.index-probes-place.result
    c.loop-place.first c.index-probes-place.is c.loop-place.invariant c.loop-place-test.true
