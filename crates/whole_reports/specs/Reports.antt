-- A whole report: what was read of it, whether it is well formed, and what a text is read as.
use Rattle.std.specs.Prelude.{ℕ, ◌==◌, ◌&&◌, if◌then◌else◌, Bool, true, List, [], Option, Some, None, Result, Ok, Err}
use Rattle.fetch_timing.specs.declared.timing.Timing.{Timing}
use Rattle.report_rules.specs.declared.forms.Function.{Function}
use Rattle.report_lines.specs.declared.report.Report.{Report}
use Rattle.report_rules.specs.declared.forms.Form.{Form}
use Rattle.report_lines.specs.declared.report.Line.{Line}
use Rattle.wsym_terms.specs.declared.trees.Tree.{Tree}
use Rattle.wsym_formula.specs.declared.terms.Term.{Term}
use Rattle.whole_reports.specs.declared.verdicts.Verdict.{Verdict}
use Rattle.whole_reports.specs.declared.verdicts.Verdict.TheVariants as verdict
use Rattle.whole_reports.specs.Walk.{walked}
use Rattle.report_rules.specs.Steps.{all_may}
use Rattle.report_lines.specs.Grammar.{lines_of}
use Rattle.report_lines.specs.Reading.{line_of}
use Rattle.report_rules.specs.Following.{after, may, names_text, put, start}

-- the report, once its last line was read
abbrev pub done_with : Form → Option ℕ → Option Function → Option Timing → Option Tree → Option Term → Option Report
done_with f (Some v) (Some g) (Some t) (Some tree) (Some formula) = Some (record {
  version = v;
  entry = g.entry;
  stack = g.stack;
  timing = t;
  params = f.params;
  blocks = f.blocks;
  loops = f.loops;
  rows = f.rows;
  facts = f.facts;
  proofs = f.proofs;
  tree = tree;
  formula = formula;
})
done_with f _ _ _ _ _ = None

abbrev pub done : Form → Option Report
done f = if f.ended && f.owed == 0 then done_with f f.version f.function f.timing f.tree f.formula else None

-- what was read when all of a report was read
abbrev pub whole : Report → Form
whole r = record {
  version = Some r.version;
  function = Some (record { entry = r.entry; stack = r.stack });
  timing = Some r.timing;
  params = r.params;
  blocks = r.blocks;
  loops = r.loops;
  owed = 0;
  rows = r.rows;
  facts = r.facts;
  proofs = r.proofs;
  tree = Some r.tree;
  formula = Some r.formula;
  ended = true;
}

-- each of its lines may stand after those before it
abbrev pub is_well_formed : Report → Bool
is_well_formed r = all_may names_text may put start (lines_of r)

-- the reader
abbrev pub read_line : Form → List ℕ → Option Line
read_line f text = line_of f.params text

abbrev pub report_walk : ℕ → List ℕ → Form → List ℕ → Result Report ℕ
report_walk = walked read_line after done

abbrev pub report_of : List ℕ → Result Report ℕ
report_of bytes = report_walk 1 [] start bytes

abbrev pub verdict_of : Result Report ℕ → Verdict
verdict_of (Ok r) = verdict.Good r
verdict_of (Err k) = verdict.Bad k
