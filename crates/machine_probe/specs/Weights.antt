-- What probes count of the events that they see.
use Rattle.std.specs.Prelude.{ℕ, ◌+◌, ◌<◌, ◌≤◌, ◌==◌, ◌^◌, Bool, if◌then◌else◌, nat_lt, List}
use Rattle.std.specs.List.{AllByRecursion}
use Rattle.arm_isa.specs.declared.instruction.Class.{Class}
use Rattle.fetch_timing.specs.Timings.{class_place}
use Rattle.arm_machine.specs.declared.events.Event.{Event}
use Rattle.machine_probe.specs.declared.rules.Go.{Go}
use Rattle.machine_probe.specs.declared.rules.Go.TheVariants as go
use Rattle.machine_probe.specs.declared.rules.Rule.{Rule}
use Rattle.machine_probe.specs.declared.rules.Weigh.{Weigh}
use Rattle.machine_probe.specs.declared.rules.Weigh.TheVariants as weigh

-- the same class, done or skipped
abbrev pub is_of : Class → Event → Bool
is_of class e = class_place e.class == class_place class

-- what an event counts
abbrev pub weight_by : Weigh → Event → ℕ
weight_by weigh.Steps e = 1
weight_by weigh.Misses e = if e.miss then 1 else 0
weight_by weigh.Cycles e = e.cycles
weight_by (weigh.OfClass class) e = if is_of class e then 1 else 0

-- where a probe stands: its rule, and what it has counted
pub record Standing : Type 0 where
  pub rule : Rule
  pub tally : ℕ

-- a probe that has seen an event
abbrev pub seen : Event → Standing → Standing
seen e p = record p { tally = p.tally + weight_by p.rule.weigh e }

-- its tally is greater than its limit
abbrev pub is_over : Standing → Bool
is_over p = nat_lt p.rule.limit p.tally

-- what a probe answers that stands there
abbrev pub go_by : Standing → Go
go_by p = if is_over p then go.Stop else go.On

-- each can count one event more
abbrev pub HaveRoom : List Standing → Type 0
HaveRoom ps = AllByRecursion (λ p. p.tally < 2 ^ 127) ps

-- with these a run may begin
abbrev pub AreReady : List Standing → Type 0
AreReady ps = AllByRecursion (λ p. p.tally ≤ 2 ^ 126) ps
