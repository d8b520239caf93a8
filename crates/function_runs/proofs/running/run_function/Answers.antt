use Rattle.function_runs.proofs.FromStart.{has_end, is_result, is_text, started}
use Rattle.function_runs.proofs.running.run_function.Goals as goal

pub returns-in-Returned-clause-text : goal.returns-in-Returned-clause-text
returns-in-Returned-clause-text g c =
    is_text (λ b. (goal.Probe-dyn g (b.vtable, b.value)).standing b.value) _ _ _ c.in-Returned.steps c.in-Returned.cycles _ c.as_slice.ensures.value
    (is_result _ _ _ _ _ _ (started _ _ _ _ _ _ _ _ c.as_slice-values.ensures c.in_ok-machine.ensures.machine) c.in_ok-machine.ensures.good c.in-Returned.ensures.ran c.in-Returned.ensures.returned)
    c.in_ok-write_result-in-Returned.ensures

pub returns-in-Stopped-clause-refused : goal.returns-in-Stopped-clause-refused
returns-in-Stopped-clause-refused g c = has_end _ _ _ _ _ (started _ _ _ _ _ _ _ _ c.as_slice-values.ensures c.in_ok-machine.ensures.machine) c.in_ok-machine.ensures.good c.in-Stopped.ensures.ran

pub returns-in-Halted-clause-refused : goal.returns-in-Halted-clause-refused
returns-in-Halted-clause-refused g c = has_end _ _ _ _ _ (started _ _ _ _ _ _ _ _ c.as_slice-values.ensures c.in_ok-machine.ensures.machine) c.in_ok-machine.ensures.good c.in-Halted.ensures.ran

pub returns-in-Spent-clause-refused : goal.returns-in-Spent-clause-refused
returns-in-Spent-clause-refused g c = has_end _ _ _ _ _ (started _ _ _ _ _ _ _ _ c.as_slice-values.ensures c.in_ok-machine.ensures.machine) c.in_ok-machine.ensures.good c.in-Spent.ensures.ran
