-- What a call of the program answers and writes: an outcome that is due, delivered.
use Rattle.std.specs.Prelude.{◌≡◌, ℕ, ◌⊎◌, true, List, Option, Some, Ok}
use Rattle.wsym_io.specs.Io.{File, appended, AppendsFront, Rose}
use Rattle.command_words.specs.Commands.{command_of, files_of}
use Rattle.command_words.specs.declared.analyses.AnalysisSetup.{AnalysisSetup}
use Rattle.command_words.specs.declared.commands.Command.{Command}
use Rattle.command_words.specs.declared.commands.Command.TheVariants.{Analyse, Eval, Run}
use Rattle.command_words.specs.declared.options.Setup.{Setup}
use Rattle.command_words.specs.declared.places.Task.{Task}
use Rattle.input_files.specs.Inputs.{AreRead}
use Rattle.function_runs.specs.Lines.{result_text}
use Rattle.function_runs.specs.Results.{IsResult}
use Rattle.report_lines.specs.declared.report.Report.{Report}
use Rattle.report_lines.specs.Grammar.{text_of}
use Rattle.whole_reports.specs.Reports.{is_well_formed}
use Rattle.command_words.specs.declared.valuations.Valuation.{Valuation}
use Rattle.wsymb_top.specs.declared.jobs.Job.{Job}
use Rattle.wsymb_top.specs.declared.refusals.Refusal.{Refusal}
use Rattle.wsymb_top.specs.declared.refusals.Refusal.TheVariants as refusal
use Rattle.wsymb_top.specs.Jobs.{file_at, job_of}
use Rattle.wsymb_top.specs.Outcomes.{Call, HasReadFault, IsDecided, IsDue, IsReportText, IsValueText, Outcome, outcome_status, outcome_text, running}
use Rattle.wsymb_top.specs.Refusals.{line_of, memory_line, status_of}

-- What a sink says and counts: its contents and its count of faults, before and after the call.
pub record Writing : Type 0 where
  pub contents : Option (List ℕ)
  pub new : Option (List ℕ)
  pub before : ℕ
  pub after : ℕ

-- what a sink says and counts before and after
abbrev pub writing_of : {K : Type 0} → (K → Option (List ℕ)) → (K → ℕ) → K → K → Writing
writing_of contents faults old new =
    record { contents = contents old; new = contents new; before = faults old; after = faults new }

-- A text with a status is delivered: it is appended whole; or the sink failed, which is status 4, or had no memory,
-- which is status 1, and some front of the text is appended.
pub data IsDelivered (text : List ℕ) (status : ℕ) (writing : Writing) (result : ℕ) : Type 0 where
  Whole : (answer : result ≡ status) → (written : writing.new ≡ appended writing.contents text)
      → IsDelivered text status writing result
  SinkFailed : (answer : result ≡ 4) → (rose : Rose writing.before writing.after)
      → (written : AppendsFront writing.contents writing.new text) → IsDelivered text status writing result
  SinkFull : (answer : result ≡ 1) → (written : AppendsFront writing.contents writing.new text)
      → IsDelivered text status writing result

-- the line of a refusal, or of want of memory, is delivered
abbrev pub IsRefused : Refusal → Writing → ℕ → Type 0
IsRefused why writing result =
    IsDelivered (line_of why) (status_of why) writing result ⊎ IsDelivered memory_line 1 writing result

-- the whole answer of a call: an outcome that is due, delivered
abbrev pub IsAnswered : Call → Writing → ℕ → Type 0
IsAnswered call writing result =
    (outcome : Outcome) × IsDue call outcome × IsDelivered (outcome_text outcome) (outcome_status outcome) writing result

-- what the files of a command hold, of which the fact holds
abbrev pub IfRead : Call → Command → (List (List ℕ) → Type 0) → Type 0
IfRead call command P = (files : List (List ℕ)) × AreRead call.content (files_of command) files × P files

-- The text of a report was appended, and nothing else. It is the report of the function that the files hold and the
-- task names, by their timing, and it keeps its promises.
abbrev pub IsGivenReport : AnalysisSetup → Task → Writing → List (List ℕ) → Type 0
IsGivenReport setup task writing files = (job : Job) × (job_of task files ≡ Ok job)
    × ((text : List ℕ) × IsReportText setup job text × (writing.new ≡ appended writing.contents text))

-- The lines of a run were appended, and nothing else: the steps and cycles of the function's run that returns from the
-- start that the setup asks for, and what the probes counted of it.
abbrev pub IsGivenRun : Call → Task → Setup → Writing → List (List ℕ) → Type 0
IsGivenRun call task setup writing files = (job : Job) × (job_of task files ≡ Ok job)
    × ((steps cycles : ℕ) × (tallies : List ℕ) × IsResult (running setup call.probes job) steps cycles tallies
    × (writing.new ≡ appended writing.contents (result_text steps cycles tallies)))

-- The line of a value was appended, and nothing else: the value of the formula of the report whose text the file is, at
-- the values that the words give its parameters, in their ranges.
abbrev pub IsGivenValue : Valuation → Writing → List (List ℕ) → Type 0
IsGivenValue valuation writing files = (report : Report) × (is_well_formed report ≡ true)
    × (file_at files 0 ≡ text_of report)
    × ((text : List ℕ) × IsValueText report valuation.values text × (writing.new ≡ appended writing.contents text))

-- what the status 0 says, by the command
pub record IsGiven (call : Call) (writing : Writing) : Type 0 where
  pub report : (task : Task) (setup : AnalysisSetup) → command_of call.words ≡ Some (Analyse task setup)
      → IfRead call (Analyse task setup) (IsGivenReport setup task writing)
  pub run : (task : Task) (setup : Setup) → command_of call.words ≡ Some (Run task setup)
      → IfRead call (Run task setup) (IsGivenRun call task setup writing)
  pub value : (valuation : Valuation) → command_of call.words ≡ Some (Eval valuation)
      → IfRead call (Eval valuation) (IsGivenValue valuation writing)

-- But for want of memory (1), a fault of reading (3) and one of writing (4), the status is that of each outcome that
-- the words, the files and the probes decide.
abbrev pub IsOnly : Call → ℕ → Type 0
IsOnly call result = (result ≡ 1) ⊎ (((result ≡ 3) × HasReadFault call)
    ⊎ ((result ≡ 4) ⊎ ((outcome : Outcome) → IsDecided call outcome → result ≡ outcome_status outcome)))
