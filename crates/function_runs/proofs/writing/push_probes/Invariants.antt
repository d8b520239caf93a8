use Rattle.std.proofs.Common.{◌≡◌, ◌++◌, string_bytes, drop, map}
use Rattle.function_runs.specs.Lines.{probe_lines}
use Rattle.function_runs.specs.Results.{tallies_of}
use Rattle.function_runs.proofs.writing.push_probes.Given as goal

abbrev pub invariant-loop-place : goal.invariant-loop-place
invariant-loop-place g l =
    string_bytes l.out ++ probe_lines l.place (tallies_of (map (λ b. (goal.Probe-dyn g (b.vtable, b.value)).standing b.value) (drop l.place l.probes)))
    ≡ string_bytes l.fn.out ++ probe_lines 0 (tallies_of (map (λ b. (goal.Probe-dyn g (b.vtable, b.value)).standing b.value) l.probes))
