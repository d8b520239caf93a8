-- A returning run from a start state costs at most the value of the tree.
use Rattle.std.proofs.Common.{ℕ, ◌<◌, ◌^◌, List, slice_index, sym, subst}
use Rattle.elf32_image.specs.Parts.{ImageValue}
use Rattle.fetch_timing.specs.declared.timing.Timing.{Timing}
use Rattle.wsym_terms.specs.Extents.{Extent, IsWithin}
use Rattle.arm_machine.specs.States.{State}
use Rattle.arm_machine.specs.declared.start.RegisterValue.{RegisterValue}
use Rattle.arm_machine.specs.Starts.{IsStart}
use Rattle.arm_machine.specs.Runs.{Returns}
use Rattle.path_facts.specs.Histories.{IsFollowed}
use Rattle.path_facts.proofs.RouteLemmas.{follows}
use Rattle.cycle_bounds.specs.Analyses.{Analysis}
use Rattle.cycle_bounds.specs.Functions.{AllTurnsWithin, IsAnalysisOf, value_of}
use Rattle.cycle_bounds.proofs.RouteBoundLemmas.{route_bound}

pub run_bound : (image : ImageValue) (t : Timing) (entry stack : ℕ) (numbers : List RegisterValue) (s : State) (n c : ℕ)
    (a : Analysis) (bounds : ℕ → Extent) → entry < 2 ^ 32 → stack < 2 ^ 31 → 0 < t.sets → 0 < t.ways
    → IsFollowed image entry stack → IsAnalysisOf image t entry a → IsStart image t entry stack numbers s
    → AllTurnsWithin image t entry stack bounds a s → Returns image t (slice_index s.cpu.registers 14) s n c
    → IsWithin c (value_of t bounds a)
run_bound image t entry stack numbers s n c a bounds word small some any followed is start turns returns =
    let r = follows image t entry stack numbers s word small start followed n c returns in
    subst (λ (k : ℕ). IsWithin k (value_of t bounds a)) (sym r.cycles)
    (route_bound image t entry a is some s.sets start.cache.all_sets any bounds r.route r.starts r.is_route
    (turns r.route r.starts r.is_route r.states))
