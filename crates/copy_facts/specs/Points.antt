-- The points of a function by their numbers, with what the instruction at each does to facts.
use Rattle.std.specs.Prelude.{ℕ, ℤ, ◌==◌, ◌++◌, Bool, true, false, if◌then◌else◌, Option, Some, None, List, [], ◌∷◌}
use Rattle.std.specs.Prelude.{length, slice_get}
use Rattle.control_flow.specs.Routes.{Place, Way}
use Rattle.control_flow.specs.Routes.Place.{At, Exit}
use Rattle.path_facts.specs.Facts.Location.{StackWord}
use Rattle.path_facts.specs.Facts.Source.{Copy}
use Rattle.path_facts.specs.Histories.{start_facts}
use Rattle.path_facts.specs.Sources.{mark_of, source_of}
use Rattle.path_facts.specs.StackUse.{accesses_by_sp}
use Rattle.fact_lattice.specs.Cells.{AbstractState, Step, one_offset, transferred}
use Rattle.fact_lattice.specs.Flows.{Flow}
use Rattle.copy_facts.specs.declared.sites.Site.{Site}
use Rattle.copy_facts.specs.declared.tables.PointFacts.{PointFacts}
use Rattle.copy_facts.specs.declared.tables.WordFacts.{WordFacts}
use Rattle.copy_facts.specs.Tables.{state_of_point}

-- a skipped instruction leaves all as it was
abbrev pub skipped_step : Step
skipped_step = record { source = λ location. Copy location; mark = λ k before. before }

-- a done one changes it by the table
abbrev pub done_step : ℕ → Site → Option ℤ → Step
done_step stack site offset = record {
  source = source_of stack site.address site.literal offset site.insn.op;
  mark = mark_of stack offset site.insn.op;
}

abbrev pub site_step : ℕ → Site → Bool → Option ℤ → Step
site_step stack site done offset = if done then done_step stack site offset else skipped_step

abbrev pub step_in : ℕ → Option Site → Bool → Option ℤ → Step
step_in stack None done offset = skipped_step
step_in stack (Some site) done offset = site_step stack site done offset

-- the number after the last point's is the way out
abbrev pub place_in : ℕ → ℕ → Place ℕ
place_in count j = if j == count then Exit else At j

abbrev pub way_in : ℕ → Bool → Option ℕ → List (Way ℕ)
way_in count done None = []
way_in count done (Some j) = record { done = done; to = place_in count j } ∷ []

-- the ways from a point, the done one first
abbrev pub site_ways : ℕ → Site → List (Way ℕ)
site_ways count site = way_in count true site.targets.done ++ way_in count false site.targets.skipped

abbrev pub ways_in : ℕ → Option Site → List (Way ℕ)
ways_in count None = []
ways_in count (Some site) = site_ways count site

abbrev pub accesses_in : Option Site → Bool
accesses_in None = false
accesses_in (Some site) = accesses_by_sp site.insn.op

-- the flow of the points
abbrev pub flow_of : ℕ → ℕ → List Site → Flow
flow_of stack start sites = record {
  stack = stack;
  start = start;
  first = start_facts;
  ways = λ p. ways_in (length sites) (slice_get sites p);
  step = λ p. step_in stack (slice_get sites p);
  accesses = λ p. accesses_in (slice_get sites p);
}

-- what is known after an instruction, by the table before it
abbrev pub stepped_state : ℕ → Site → Bool → PointFacts → AbstractState
stepped_state stack site done t =
    transferred stack (site_step stack site done (one_offset (state_of_point t))) (state_of_point t)

-- the same of one word
abbrev pub stepped_entry : ℕ → Site → Bool → PointFacts → ℕ → WordFacts
stepped_entry stack site done t k = record {
  word = k;
  cell = (stepped_state stack site done t).cell (StackWord k);
  kept = (stepped_state stack site done t).marked k;
}
