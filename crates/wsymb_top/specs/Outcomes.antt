-- Which outcome a call of the program has, by its words, the files that they name and its probes.
use Rattle.std.specs.Prelude.{◌≡◌, ◌≢◌, ℕ, ◌⊎◌, Bool, true, false, List, [], ◌∷◌, Option, Some, None, Result, Ok, Err}
use Rattle.wsym_io.specs.Io.{File}
use Rattle.command_words.specs.Commands.{command_of, files_of}
use Rattle.command_words.specs.declared.analyses.AnalysisSetup.{AnalysisSetup}
use Rattle.command_words.specs.declared.commands.Command.{Command}
use Rattle.command_words.specs.declared.commands.Command.TheVariants.{Analyse, Eval, Run}
use Rattle.command_words.specs.declared.options.Setup.{Setup}
use Rattle.command_words.specs.declared.valuations.NamedValue.{NamedValue}
use Rattle.input_files.specs.Inputs.{AreRead, HasRisen, is_any_long}
use Rattle.input_files.specs.declared.reading.InputRefusal.TheVariants as input
use Rattle.machine_probe.specs.Weights.{Standing}
use Rattle.wcet_core.specs.Analyses.{IsAnalysed}
use Rattle.wcet_core.specs.Refusals.{IsRefusedAnalysis}
use Rattle.wcet_core.specs.declared.refusals.AnalysisRefusal.{AnalysisRefusal}
use Rattle.function_runs.specs.declared.refusals.RunRefusal.{RunRefusal}
use Rattle.function_runs.specs.Causes.{IsRefused}
use Rattle.function_runs.specs.Results.{FunctionRun, IsResultText}
use Rattle.report_lines.specs.declared.report.Report.{Report}
use Rattle.report_lines.specs.Grammar.{text_of}
use Rattle.whole_reports.specs.Reports.{report_of}
use Rattle.report_values.specs.Evaluations.{IsValueAt}
use Rattle.report_values.specs.Lines.{value_text}
use Rattle.report_values.specs.Naming.{named_values}
use Rattle.wsym_terms.specs.declared.costs.Cost.{Cost}
use Rattle.wsymb_top.specs.declared.jobs.Job.{Job}
use Rattle.wsymb_top.specs.declared.refusals.Refusal.{Refusal}
use Rattle.wsymb_top.specs.declared.refusals.Refusal.TheVariants as refusal
use Rattle.wsymb_top.specs.Jobs.{file_at, job_of}
use Rattle.wsymb_top.specs.Refusals.{IsMemory, line_of, status_of}

-- What comes of a call: one line of refusal, or the text of an answer.
pub data Outcome : Type 0 where
  Refuses : (why : Refusal) → Outcome
  Answers : (text : List ℕ) → Outcome

abbrev pub outcome_status : Outcome → ℕ
outcome_status (Refuses why) = status_of why
outcome_status (Answers text) = 0

abbrev pub outcome_text : Outcome → List ℕ
outcome_text (Refuses why) = line_of why
outcome_text (Answers text) = text

-- the text is that of a report of the function of a job
abbrev pub IsReportText : AnalysisSetup → Job → List ℕ → Type 0
IsReportText setup job text = (report : Report)
    × IsAnalysed job.image job.timing job.entry setup.stack setup.params report × (text ≡ text_of report)

-- an analysis gives the report of the function, or there is a cause why not
abbrev pub IsOfAnalysis : AnalysisSetup → Job → Outcome → Type 0
IsOfAnalysis setup job (Answers text) = IsReportText setup job text
IsOfAnalysis setup job (Refuses why) = (cause : AnalysisRefusal)
    × IsRefusedAnalysis job.image job.timing job.entry setup.stack cause × (why ≡ refusal.Analysis cause)
    × (IsMemory why → ⊥)

-- the run of the function of a job that a setup asks for, which these probes watch
abbrev pub running : Setup → List Standing → Job → FunctionRun
running setup probes job =
    record { image = job.image; timing = job.timing; entry = job.entry; setup = setup; probes = probes }

-- a run returns, or there is a cause why not
abbrev pub IsOfRun : FunctionRun → Outcome → Type 0
IsOfRun r (Answers text) = IsResultText r text
IsOfRun r (Refuses why) = (cause : RunRefusal) × IsRefused r cause × (why ≡ refusal.Run cause r.setup.steps)
    × (IsMemory why → ⊥)

-- the line of the value of a report's formula at values by name
abbrev pub IsValueText : Report → List NamedValue → List ℕ → Type 0
IsValueText report values text = (cost : Cost) × IsValueAt report values cost × (text ≡ value_text cost)

-- the name at fault of some values
abbrev pub IsBadValue : Report → List NamedValue → Refusal → Type 0
IsBadValue report values why =
    (name : List ℕ) × (named_values report.params values ≡ Err name) × (why ≡ refusal.BadValue name)

-- what comes of evaluating what was read: a report, or the number of the first bad line
abbrev pub IsOfReading : List NamedValue → Result Report ℕ → Outcome → Type 0
IsOfReading values (Err line) o = o ≡ Refuses (refusal.BadReport line)
IsOfReading values (Ok report) (Answers text) = IsValueText report values text
IsOfReading values (Ok report) (Refuses why) = IsBadValue report values why

-- the value of the formula of the report whose text these bytes are, or there is a cause why not
abbrev pub IsOfValue : List NamedValue → List ℕ → Outcome → Type 0
IsOfValue values bytes o = IsOfReading values (report_of bytes) o

-- the outcome of a command that has a job
abbrev pub IsOfLoaded : (Job → Outcome → Type 0) → Result Job Refusal → Outcome → Type 0
IsOfLoaded P (Ok job) o = P job o
IsOfLoaded P (Err why) o = o ≡ Refuses why

abbrev pub IsOfBytes : Command → List Standing → List (List ℕ) → Outcome → Type 0
IsOfBytes (Analyse task setup) probes files o = IsOfLoaded (IsOfAnalysis setup) (job_of task files) o
IsOfBytes (Run task setup) probes files o = IsOfLoaded (λ job. IsOfRun (running setup probes job)) (job_of task files) o
IsOfBytes (Eval valuation) probes files o = IsOfValue valuation.values (file_at files 0) o

abbrev pub IsOfLength : Bool → Command → List Standing → List (List ℕ) → Outcome → Type 0
IsOfLength true command probes files o = o ≡ Refuses (refusal.Input input.TooLong)
IsOfLength false command probes files o = IsOfBytes command probes files o

-- The outcome of a command whose files hold this. The causes of refusals are tested in this order: a file is too long,
-- and then the command's own.
abbrev pub IsOfFiles : Command → List Standing → List (List ℕ) → Outcome → Type 0
IsOfFiles command probes files o = IsOfLength (is_any_long files) command probes files o

-- What a call has and sees: its words, where its probes stand, what the shelf says, and the shelf's counts of faults by
-- name before and after the call.
pub record Call : Type 0 where
  pub words : List (List ℕ)
  pub probes : List Standing
  pub content : Option (List File)
  pub before : List ℕ → ℕ
  pub after : List ℕ → ℕ

-- the call of these words, by what a shelf says and counts before and after
abbrev pub call_of : {S : Type 0} → (S → Option (List File)) → (S → List ℕ → ℕ) → List (List ℕ) → List Standing → S → S
    → Call
call_of content faults words probes old new =
    record { words = words; probes = probes; content = content old; before = faults old; after = faults new }

-- the outcome of a command over what was read for it
abbrev pub IsOfCommand : Option (List File) → List Standing → Command → Outcome → Type 0
IsOfCommand content probes command o =
    (files : List (List ℕ)) × AreRead content (files_of command) files × IsOfFiles command probes files o

abbrev pub IsOfWords : Option (List File) → List Standing → Option Command → Outcome → Type 0
IsOfWords content probes None o = o ≡ Refuses refusal.Usage
IsOfWords content probes (Some command) o = IsOfCommand content probes command o

-- the outcome that the words, the files and the probes decide
abbrev pub IsDecided : Call → Outcome → Type 0
IsDecided call o = IsOfWords call.content call.probes (command_of call.words) o

-- the words are right, and the count of faults rose for a file that they name
abbrev pub HasReadFault : Call → Type 0
HasReadFault call = (command : Command) × (command_of call.words ≡ Some command)
    × HasRisen call.content call.before call.after (files_of command)

-- An outcome is due for a call: memory may be refused at any place, a file can't be read, or else it is decided.
pub data IsDue (call : Call) (o : Outcome) : Type 0 where
  OutOfMemory : (why : Refusal) → (is : o ≡ Refuses why) → (memory : IsMemory why) → IsDue call o
  Unreadable : (is : o ≡ Refuses (refusal.Input input.ReadFault)) → (fault : HasReadFault call) → IsDue call o
  Decided : (decided : IsDecided call o) → IsDue call o

-- memory was refused, or the fact holds of the refusal
abbrev pub IsRefusal : (Outcome → Type 0) → Refusal → Type 0
IsRefusal P why = IsMemory why ⊎ P (Refuses why)

-- why a command has no text
abbrev pub IsUnanswered : Option (List File) → (List ℕ → ℕ) → (List ℕ → ℕ) → List Standing → Command → Refusal
    → Type 0
IsUnanswered content before after probes command why =
    IsMemory why
    ⊎ (((why ≡ refusal.Input input.ReadFault) × HasRisen content before after (files_of command))
    ⊎ IsOfCommand content probes command (Refuses why))
