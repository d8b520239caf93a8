-- What the report of a function says of its image.
use Rattle.std.specs.Prelude.{◌≡◌, ℕ, suc, List, [], ◌∷◌, length, map}
use Rattle.elf32_image.specs.Parts.{ImageValue}
use Rattle.fetch_timing.specs.declared.timing.Timing.{Timing}
use Rattle.control_flow.specs.Points.{Point}
use Rattle.basic_blocks.specs.Blocks.{Chain, points}
use Rattle.report_lines.specs.declared.report.ReportBlock.{ReportBlock}
use Rattle.report_lines.specs.declared.report.ReportLoop.{ReportLoop}
use Rattle.report_lines.specs.declared.report.Report.{Report}
use Rattle.tree_law.specs.Levels.{function_tree}
use Rattle.cycle_bounds.specs.Analyses.{Analysis}
use Rattle.cycle_bounds.specs.Functions.{IsAnalysisOf}

-- a block of the report, with the address and the open calls of its first point
abbrev pub report_block : (ℕ → Point) → Chain ℕ → ReportBlock
report_block point b =
    record { address = (point b.first).address; points = length (points b); returns = (point b.first).returns }

-- the loops from a number on: their headers and how many loops hold these
abbrev pub AreReportLoops : Analysis → ℕ → List ReportLoop → Type 0
AreReportLoops a c [] = Unit {0}
AreReportLoops a c (l ∷ loops) = (l.header ≡ a.loops.header c) × (l.depth ≡ a.at c) × AreReportLoops a (suc c) loops

-- The report is that of an analysis: its blocks, loops and tree.
pub record IsReportOf (timing : Timing) (entry stack : ℕ) (a : Analysis) (report : Report) : Type 0 where
  pub entry_is : report.entry ≡ entry
  pub stack_is : report.stack ≡ stack
  pub timing_is : report.timing ≡ timing
  pub blocks : report.blocks ≡ map (report_block a.point) a.blocks
  pub loops : AreReportLoops a 1 report.loops
  pub tree : report.tree ≡ function_tree a.nest (suc (a.height 0))

-- the report's structure is that of the function in the image
abbrev pub Describes : ImageValue → Timing → ℕ → ℕ → Report → Type 0
Describes image timing entry stack report =
    (a : Analysis) × IsAnalysisOf image timing entry a × IsReportOf timing entry stack a report
