-- From what comes of a command to what a call answers.
use Rattle.std.proofs.Common.{◌≡◌, ℕ, ◌||◌, ◌==◌, ◌⊎◌, eqb, inl, inr, Bool, true, false, IfErr, Option, Some, None, Result, Ok, Err, List, [], ◌∷◌, length, replicate, suc, nat_lt, refl, sym, ap, ◌∙◌, subst, arith}
use Rattle.std.proofs.lemmas.Bool.{eq-eqb, eqb-true, false≢true, lt-ltb}
use Rattle.std.proofs.lemmas.List.{length-replicate}
use Rattle.wsym_io.specs.Io.{File, IfTold, appended}
use Rattle.elf32_image.specs.declared.refusal.ElfRefusal.{ElfRefusal}
use Rattle.elf32_image.specs.declared.refusal.ElfRefusal.TheVariants as elf
use Rattle.elf32_image.specs.declared.refusal.NameRefusal.{NameRefusal}
use Rattle.elf32_image.specs.declared.refusal.NameRefusal.TheVariants as name
use Rattle.elf32_image.specs.Names.{function_of}
use Rattle.elf32_image.specs.Parts.{ImageValue}
use Rattle.elf32_image.specs.Segments.{image_of}
use Rattle.fetch_timing.specs.declared.timing.Timing.{Timing}
use Rattle.fetch_timing.specs.TimingFiles as file
use Rattle.command_words.specs.Commands.{command_of, files_of}
use Rattle.command_words.specs.declared.analyses.AnalysisSetup.{AnalysisSetup}
use Rattle.command_words.specs.declared.commands.Command.{Command}
use Rattle.command_words.specs.declared.commands.Command.TheVariants.{Analyse, Eval, Run}
use Rattle.command_words.specs.declared.options.Setup.{Setup}
use Rattle.command_words.specs.declared.places.FunctionWord.{FunctionWord}
use Rattle.command_words.specs.declared.places.FunctionWord.TheVariants as word
use Rattle.command_words.specs.declared.places.Task.{Task}
use Rattle.command_words.specs.declared.places.TimingWord.{TimingWord}
use Rattle.command_words.specs.declared.places.TimingWord.TheVariants as timing
use Rattle.command_words.specs.declared.valuations.NamedValue.{NamedValue}
use Rattle.command_words.specs.declared.valuations.Valuation.{Valuation}
use Rattle.input_files.specs.Inputs.{AreRead, IsUnread, bytes_of, is_any_long, longest}
use Rattle.input_files.specs.declared.reading.InputRefusal.{InputRefusal}
use Rattle.input_files.specs.declared.reading.InputRefusal.TheVariants as input
use Rattle.flow_graph.specs.declared.graph.GraphRefusal.{GraphRefusal}
use Rattle.flow_graph.specs.declared.graph.GraphRefusal.TheVariants as graph
use Rattle.interval_loops.specs.declared.bodies.LoopRefusal.{LoopRefusal}
use Rattle.interval_loops.specs.declared.bodies.LoopRefusal.TheVariants as loops
use Rattle.copy_facts.specs.declared.following.FrameRefusal.{FrameRefusal}
use Rattle.copy_facts.specs.declared.following.FrameRefusal.TheVariants as frames
use Rattle.wcet_core.specs.declared.refusals.AnalysisRefusal.{AnalysisRefusal}
use Rattle.wcet_core.specs.declared.refusals.AnalysisRefusal.TheVariants as analysis
use Rattle.wcet_core.specs.Refusals.{IsRefusedAnalysis}
use Rattle.machine_probe.specs.Weights.{Standing}
use Rattle.function_runs.specs.Causes.{IsRefused as IsRefusedRun}
use Rattle.function_runs.specs.Results.{FunctionRun}
use Rattle.function_runs.specs.declared.refusals.RunRefusal.{RunRefusal}
use Rattle.function_runs.specs.declared.refusals.RunRefusal.TheVariants as run
use Rattle.report_lines.specs.Grammar.{text_of}
use Rattle.report_lines.specs.declared.report.Report.{Report}
use Rattle.whole_reports.specs.Reports.{is_well_formed, report_of}
use Rattle.wsymb_top.specs.declared.jobs.Job.{Job}
use Rattle.wsymb_top.specs.declared.refusals.Refusal.{Refusal}
use Rattle.wsymb_top.specs.declared.refusals.Refusal.TheVariants as refusal
use Rattle.wsymb_top.specs.Answers.{IfRead, IsAnswered, IsDelivered, IsGiven, IsGivenReport, IsGivenRun, IsGivenValue, IsRefused, Writing}
use Rattle.wsymb_top.specs.Answers.IsDelivered.{SinkFailed, SinkFull, Whole}
use Rattle.wsymb_top.specs.Jobs.{and_then, entry_in, file_at, image_in, job_of, or_refused, timing_in, timing_or_bad}
use Rattle.wsymb_top.specs.Outcomes.{Call, HasReadFault, IsDecided, IsDue, IsOfAnalysis, IsOfBytes, IsOfCommand, IsOfFiles, IsOfLength, IsOfLoaded, IsBadValue, IsOfReading, IsOfRun, IsOfValue, IsOfWords, IsRefusal, IsUnanswered, IsValueText, Outcome, running}
use Rattle.wsymb_top.specs.Outcomes.IsDue.{Decided, OutOfMemory, Unreadable}
use Rattle.wsymb_top.specs.Outcomes.Outcome.{Answers, Refuses}
use Rattle.wsymb_top.specs.Refusals.{IsMemory, analysis_status, frames_status, graph_status, line_of, loops_status, run_status, status_of}

-- the text of an answer, delivered
pub answered_text : (call : Call) (writing : Writing) (text : List ℕ) (result : ℕ) → IsDecided call (Answers text)
    → IsDelivered text 0 writing result → IsAnswered call writing result
answered_text call writing text result decided delivered = (Answers text, Decided decided, delivered)

-- the line of a refusal that is due, or of want of memory
pub answered_refusal : (call : Call) (writing : Writing) (why : Refusal) (result : ℕ) → IsDue call (Refuses why)
    → IsRefused why writing result → IsAnswered call writing result
answered_refusal call writing why result due (inl delivered) = (Refuses why, due, delivered)
answered_refusal call writing why result due (inr delivered) =
    (Refuses refusal.Memory, OutOfMemory refusal.Memory refl refl, delivered)

-- ---- what the status 0 says

-- A text whose status is 0 was appended whole.
whole : (writing : Writing) (text : List ℕ) (result : ℕ) → IsDelivered text 0 writing result → result ≡ 0
    → writing.new ≡ appended writing.contents text
whole writing text result (Whole answer written) zero = written
whole writing text result (SinkFailed answer rose written) zero = absurd (omega arith)
whole writing text result (SinkFull answer written) zero = absurd (omega arith)

abbrev IsAnswer : Outcome → Type 0
IsAnswer (Refuses why) = ⊥
IsAnswer (Answers text) = Unit {0}

abbrev why_of : Outcome → Refusal
why_of (Refuses why) = why
why_of (Answers text) = refusal.Memory

same_why : (why other : Refusal) → Refuses why ≡ Refuses other → why ≡ other
same_why why other same = ap why_of same

no_refusal : (text : List ℕ) (why : Refusal) → Answers text ≡ Refuses why → ⊥
no_refusal text why same = subst IsAnswer same tt

of_length : (long : Bool) (command : Command) (probes : List Standing) (files : List (List ℕ)) (text : List ℕ)
    → IsOfLength long command probes files (Answers text) → IsOfBytes command probes files (Answers text)
of_length true command probes files text is = absurd (no_refusal text (refusal.Input input.TooLong) is)
of_length false command probes files text is = is

of_loaded : (P : Job → Outcome → Type 0) (loaded : Result Job Refusal) (text : List ℕ) → IsOfLoaded P loaded (Answers text)
    → (job : Job) × (loaded ≡ Ok job) × P job (Answers text)
of_loaded P (Ok job) text is = (job, refl, is)
of_loaded P (Err why) text is = absurd (no_refusal text why is)

of_reading : (values : List NamedValue) (read : Result Report ℕ) (text : List ℕ) → IsOfReading values read (Answers text)
    → (report : Report) × (read ≡ Ok report) × IsValueText report values text
of_reading values (Ok report) text is = (report, refl, is)
of_reading values (Err line) text is = absurd (no_refusal text (refusal.BadReport line) is)

of_command : (call : Call) (command : Command) (text : List ℕ) → command_of call.words ≡ Some command
    → IsDecided call (Answers text) → IfRead call command (λ files. IsOfBytes command call.probes files (Answers text))
of_command call command text asked decided =
    let read : IsOfCommand call.content call.probes command (Answers text) =
    subst (λ (c : Option Command). IsOfWords call.content call.probes c (Answers text)) asked decided in
    (read.0, read.1, of_length (is_any_long read.0) command call.probes read.0 text read.2)

report_given : (call : Call) (task : Task) (setup : AnalysisSetup) (writing : Writing) (text : List ℕ)
    → IfRead call (Analyse task setup) (λ files. IsOfBytes (Analyse task setup) call.probes files (Answers text))
    → writing.new ≡ appended writing.contents text → IfRead call (Analyse task setup) (IsGivenReport setup task writing)
report_given call task setup writing text (files, are, is) written =
    let loaded = of_loaded (IsOfAnalysis setup) (job_of task files) text is in
    (files, are, (loaded.0, loaded.1, (text, loaded.2, written)))

run_given : (call : Call) (task : Task) (setup : Setup) (writing : Writing) (text : List ℕ)
    → IfRead call (Run task setup) (λ files. IsOfBytes (Run task setup) call.probes files (Answers text))
    → writing.new ≡ appended writing.contents text → IfRead call (Run task setup) (IsGivenRun call task setup writing)
run_given call task setup writing text (files, are, is) written =
    let loaded = of_loaded (λ job. IsOfRun (running setup call.probes job)) (job_of task files) text is in
    let lines = loaded.2 in
    (files, are, (loaded.0, loaded.1, (lines.0, lines.1, lines.2, lines.3, written ∙ ap (appended writing.contents) lines.4)))

-- what is read is the report whose text it is
abbrev pub AreTexts : Type 0
AreTexts = (bytes : List ℕ) (r : Report) → report_of bytes ≡ Ok r → (is_well_formed r ≡ true) × (bytes ≡ text_of r)

value_given : (call : Call) (valuation : Valuation) (writing : Writing) (text : List ℕ) → AreTexts
    → IfRead call (Eval valuation) (λ files. IsOfBytes (Eval valuation) call.probes files (Answers text))
    → writing.new ≡ appended writing.contents text → IfRead call (Eval valuation) (IsGivenValue valuation writing)
value_given call valuation writing text texts (files, are, is) written =
    let read = of_reading valuation.values (report_of (file_at files 0)) text is in
    let its = texts (file_at files 0) read.0 read.1 in
    (files, are, (read.0, its.0, its.1, (text, read.2, written)))

pub given : (call : Call) (writing : Writing) (text : List ℕ) (result : ℕ) → AreTexts → IsDecided call (Answers text)
    → IsDelivered text 0 writing result → result ≡ 0 → IsGiven call writing
given call writing text result texts decided delivered zero =
    let written : writing.new ≡ appended writing.contents text = whole writing text result delivered zero in
    record {
      report = λ task setup asked. report_given call task setup writing text (of_command call (Analyse task setup) text asked decided) written;
      run = λ task setup asked. run_given call task setup writing text (of_command call (Run task setup) text asked decided) written;
      value = λ valuation asked. value_given call valuation writing text texts (of_command call (Eval valuation) text asked decided) written;
    }

-- ---- wrong words and a fault of reading have a status of their own, which comes of no command

abbrev is_early : ℕ → Bool
is_early status = (status == 2) || (status == 3)

abbrev IsLate : Refusal → Type 0
IsLate why = is_early (status_of why) ≡ false

abbrev IsLateErr : {A : Type 0} → Result A Refusal → Type 0
IsLateErr (Ok a) = Unit {0}
IsLateErr (Err why) = IsLate why

late_image : (why : ElfRefusal) → IsLate (refusal.Image why)
late_image elf.Memory = refl
late_image elf.NotElf32Arm = refl
late_image elf.Truncated = refl
late_image elf.SegmentsOverlap = refl

late_name : (why : NameRefusal) → IsLate (refusal.Name why)
late_name name.NoSymbol = refl
late_name name.TwoSymbols = refl
late_name name.ThumbCode = refl

late_graph : (why : GraphRefusal) → is_early (graph_status why) ≡ false
late_graph graph.Memory = refl
late_graph graph.TooLarge = refl
late_graph (graph.UnknownWord a) = refl
late_graph (graph.OutsideCode a) = refl
late_graph (graph.IndirectJump a) = refl
late_graph (graph.Recursion a) = refl
late_graph graph.NoReturn = refl

late_loops : (why : LoopRefusal) → is_early (loops_status why) ≡ false
late_loops loops.Memory = refl
late_loops loops.Irreducible = refl
late_loops loops.TooDeep = refl

late_frames : (why : FrameRefusal) → is_early (frames_status why) ≡ false
late_frames frames.Memory = refl
late_frames (frames.Lost a) = refl
late_frames (frames.Over a o) = refl
late_frames (frames.Unproved a) = refl

late_analysis : (why : AnalysisRefusal) → IsLate (refusal.Analysis why)
late_analysis analysis.Memory = refl
late_analysis (analysis.Graph why) = late_graph why
late_analysis (analysis.Loops why) = late_loops why
late_analysis (analysis.Frames why) = late_frames why
late_analysis analysis.TreeTooLarge = refl

late_run : (steps : ℕ) (why : RunRefusal) → IsLate (refusal.Run why steps)
late_run steps run.Memory = refl
late_run steps run.SpUnaligned = refl
late_run steps run.SpOutOfRange = refl
late_run steps run.StackLoaded = refl
late_run steps run.ReturnLoaded = refl
late_run steps (run.Stopped stop address) = refl
late_run steps run.Spent = refl
late_run steps (run.Halted probe) = refl

late_lower : {A E : Type 0} (f : E → Refusal) (r : Result A E) → ((e : E) → IsLate (f e)) → IsLateErr (or_refused f r)
late_lower f (Ok a) late = tt
late_lower f (Err e) late = late e

late_then : {A B : Type 0} (f : A → Result B Refusal) (r : Result A Refusal) → IsLateErr r → ((a : A) → IsLateErr (f a))
    → IsLateErr (and_then f r)
late_then f (Ok a) first then = then a
late_then f (Err why) first then = first

late_entry : (image : ImageValue) (function : FunctionWord) → IsLateErr (entry_in image function)
late_entry image (word.Address a) = tt
late_entry image (word.Symbol n) = late_lower refusal.Name (function_of image n) late_name

late_or_bad : (t : Option Timing) → IsLateErr (timing_or_bad t)
late_or_bad None = refl
late_or_bad (Some t) = tt

late_timing : (t : TimingWord) (files : List (List ℕ)) → IsLateErr (timing_in t files)
late_timing timing.UnitTable files = tt
late_timing (timing.File name) files = late_or_bad (file.timing_of (file_at files 1))

late_job : (task : Task) (files : List (List ℕ)) → IsLateErr (job_of task files)
late_job task files =
    late_then (λ image. and_then (λ entry. and_then (λ t. Ok (record { image = image; timing = t; entry = entry })) (timing_in task.timing files)) (entry_in image task.function)) (image_in (file_at files 0))
    (late_lower refusal.Image (image_of (file_at files 0)) late_image)
    (λ image. late_then (λ entry. and_then (λ t. Ok (record { image = image; timing = t; entry = entry })) (timing_in task.timing files)) (entry_in image task.function)
    (late_entry image task.function)
    (λ entry. late_then (λ t. Ok (record { image = image; timing = t; entry = entry })) (timing_in task.timing files) (late_timing task.timing files) (λ t. tt)))

late_of_loaded : (P : Job → Outcome → Type 0) (loaded : Result Job Refusal) (why : Refusal) → IsLateErr loaded
    → ((job : Job) → P job (Refuses why) → IsLate why) → IsOfLoaded P loaded (Refuses why) → IsLate why
late_of_loaded P (Ok job) why late of_job is = of_job job is
late_of_loaded P (Err other) why late of_job is = subst IsLate (sym (same_why why other is)) late

late_of_reading : (values : List NamedValue) (read : Result Report ℕ) (why : Refusal) → IsOfReading values read (Refuses why)
    → IsLate why
late_of_reading values (Ok report) why (name, named, is) = subst IsLate (sym is) refl
late_of_reading values (Err line) why is = subst IsLate (sym (same_why why (refusal.BadReport line) is)) refl

late_of_bytes : (command : Command) (probes : List Standing) (files : List (List ℕ)) (why : Refusal)
    → IsOfBytes command probes files (Refuses why) → IsLate why
late_of_bytes (Analyse task setup) probes files why is =
    late_of_loaded (IsOfAnalysis setup) (job_of task files) why (late_job task files)
    (λ job (cause, refused, is, free). subst IsLate (sym is) (late_analysis cause)) is
late_of_bytes (Run task setup) probes files why is =
    late_of_loaded (λ job. IsOfRun (running setup probes job)) (job_of task files) why (late_job task files)
    (λ job (cause, refused, is, free). subst IsLate (sym is) (late_run setup.steps cause)) is
late_of_bytes (Eval valuation) probes files why is = late_of_reading valuation.values (report_of (file_at files 0)) why is

late_of_length : (long : Bool) (command : Command) (probes : List Standing) (files : List (List ℕ)) (why : Refusal)
    → IsOfLength long command probes files (Refuses why) → IsLate why
late_of_length true command probes files why is = subst IsLate (sym (same_why why (refusal.Input input.TooLong) is)) refl
late_of_length false command probes files why is = late_of_bytes command probes files why is

late_of_command : (content : Option (List File)) (probes : List Standing) (command : Command) (why : Refusal)
    → IsOfCommand content probes command (Refuses why) → IsLate why
late_of_command content probes command why (files, are, is) =
    late_of_length (is_any_long files) command probes files why is

not_early : (why : Refusal) (status : ℕ) → is_early status ≡ true → status_of why ≡ status → IsLate why → ⊥
not_early why status early is late = false≢true (sym late ∙ ap is_early is ∙ early)

other_status : (why other : Refusal) (n m : ℕ) → why ≡ other → status_of why ≡ n → status_of other ≡ m → n ≡ m
other_status why other n m same is was = sym is ∙ ap status_of same ∙ was

-- the outcome of words whose status is 2 is that they are wrong
wrong : (content : Option (List File)) (probes : List Standing) (command : Option Command) (why : Refusal)
    → IsOfWords content probes command (Refuses why) → status_of why ≡ 2 → (command ≡ None) × (why ≡ refusal.Usage)
wrong content probes None why is two = (refl, same_why why refusal.Usage is)
wrong content probes (Some command) why is two =
    absurd (not_early why 2 refl two (late_of_command content probes command why is))

no_fault : (content : Option (List File)) (probes : List Standing) (command : Option Command) (why : Refusal)
    → IsOfWords content probes command (Refuses why) → status_of why ≡ 3 → ⊥
no_fault content probes None why is three =
    let differ = other_status why refusal.Usage 3 2 (same_why why refusal.Usage is) three refl in omega (arith, differ)
no_fault content probes (Some command) why is three =
    not_early why 3 refl three (late_of_command content probes command why is)

usage_due : (call : Call) (why : Refusal) → IsDue call (Refuses why) → status_of why ≡ 2
    → (command_of call.words ≡ None) × (why ≡ refusal.Usage)
usage_due call why (OutOfMemory other is memory) two =
    let differ = other_status why other 2 1 (same_why why other is) two memory in absurd (omega (arith, differ))
usage_due call why (Unreadable is fault) two =
    let differ = other_status why (refusal.Input input.ReadFault) 2 3 (same_why why (refusal.Input input.ReadFault) is) two refl in
    absurd (omega (arith, differ))
usage_due call why (Decided decided) two = wrong call.content call.probes (command_of call.words) why decided two

fault_due : (call : Call) (why : Refusal) → IsDue call (Refuses why) → status_of why ≡ 3
    → HasReadFault call × (why ≡ refusal.Input input.ReadFault)
fault_due call why (OutOfMemory other is memory) three =
    let differ = other_status why other 3 1 (same_why why other is) three memory in absurd (omega (arith, differ))
fault_due call why (Unreadable is fault) three = (fault, same_why why (refusal.Input input.ReadFault) is)
fault_due call why (Decided decided) three =
    absurd (no_fault call.content call.probes (command_of call.words) why decided three)

-- what the status 2 says
pub usage : (call : Call) (writing : Writing) (why : Refusal) (result : ℕ) → IsDue call (Refuses why)
    → IsRefused why writing result → result ≡ 2
    → (command_of call.words ≡ None) × (writing.new ≡ appended writing.contents (line_of refusal.Usage))
usage call writing why result due (inl (Whole answer written)) two =
    let is = usage_due call why due (sym answer ∙ two) in
    (is.0, written ∙ ap (λ (w : Refusal). appended writing.contents (line_of w)) is.1)
usage call writing why result due (inl (SinkFailed answer rose written)) two = absurd (omega arith)
usage call writing why result due (inl (SinkFull answer written)) two = absurd (omega arith)
usage call writing why result due (inr (Whole answer written)) two = absurd (omega arith)
usage call writing why result due (inr (SinkFailed answer rose written)) two = absurd (omega arith)
usage call writing why result due (inr (SinkFull answer written)) two = absurd (omega arith)

-- what the status 3 says
pub read_fault : (call : Call) (writing : Writing) (why : Refusal) (result : ℕ) → IsDue call (Refuses why)
    → IsRefused why writing result → result ≡ 3
    → HasReadFault call × (writing.new ≡ appended writing.contents (line_of (refusal.Input input.ReadFault)))
read_fault call writing why result due (inl (Whole answer written)) three =
    let is = fault_due call why due (sym answer ∙ three) in
    (is.0, written ∙ ap (λ (w : Refusal). appended writing.contents (line_of w)) is.1)
read_fault call writing why result due (inl (SinkFailed answer rose written)) three = absurd (omega arith)
read_fault call writing why result due (inl (SinkFull answer written)) three = absurd (omega arith)
read_fault call writing why result due (inr (Whole answer written)) three = absurd (omega arith)
read_fault call writing why result due (inr (SinkFailed answer rose written)) three = absurd (omega arith)
read_fault call writing why result due (inr (SinkFull answer written)) three = absurd (omega arith)

-- ---- why there is no text

-- the fact holds of a refusal, or memory was refused
pub or_memory : (P : Outcome → Type 0) (why : Refusal) → ((status_of why ≡ 1 → ⊥) → P (Refuses why)) → IsRefusal P why
or_memory P why found = by_test (eqb (status_of why) 1) refl
  where
    by_test : (b : Bool) → eqb (status_of why) 1 ≡ b → IsRefusal P why
    by_test true e = inl (eqb-true (status_of why) 1 e)
    by_test false e = inr (found (λ m. false≢true (sym e ∙ eq-eqb (status_of why) 1 m)))

pub of_refused_analysis : (setup : AnalysisSetup) (job : Job) (cause : AnalysisRefusal)
    → IsRefusedAnalysis job.image job.timing job.entry setup.stack cause
    → IsRefusal (IsOfAnalysis setup job) (refusal.Analysis cause)
of_refused_analysis setup job cause refused =
    or_memory (IsOfAnalysis setup job) (refusal.Analysis cause) (λ free. (cause, refused, refl, free))

pub of_refused_run : (r : FunctionRun) (cause : RunRefusal) → IsRefusedRun r cause
    → IsRefusal (IsOfRun r) (refusal.Run cause r.setup.steps)
of_refused_run r cause refused =
    or_memory (IsOfRun r) (refusal.Run cause r.setup.steps) (λ free. (cause, refused, refl, free))

-- what comes of evaluating a report that was read
pub of_bad_value : (values : List NamedValue) (bytes : List ℕ) (report : Report) (why : Refusal)
    → report_of bytes ≡ Ok report → IsMemory why ⊎ IsBadValue report values why → IsRefusal (IsOfValue values bytes) why
of_bad_value values bytes report why read (inl memory) = inl memory
of_bad_value values bytes report why read (inr bad) =
    inr (subst (λ r. IsOfReading values r (Refuses why)) (sym read) bad)

pub if_refused : {A E : Type 0} (P Q : E → Type 0) (r : Result A E) → IfErr r P → ((e : E) → P e → Q e) → IfErr r Q
if_refused P Q (Ok a) h f = tt
if_refused P Q (Err e) h f = f e h

pub of_bad_report : (values : List NamedValue) (bytes : List ℕ) (line : ℕ) → report_of bytes ≡ Err line
    → IsRefusal (IsOfValue values bytes) (refusal.BadReport line)
of_bad_report values bytes line read =
    inr (subst (λ r. IsOfReading values r (Refuses (refusal.BadReport line))) (sym read) refl)

-- a report that was found is what its text is read as
pub read_as : (bytes : List ℕ) (r : Report) → ((r : Report) → is_well_formed r ≡ true → report_of (text_of r) ≡ Ok r)
    → (is_well_formed r ≡ true) × (bytes ≡ text_of r) → report_of bytes ≡ Ok r
read_as bytes r law found = ap report_of found.1 ∙ law r found.0

-- ---- files that can't be read

-- the job of a task whose first file has no image
pub no_image : (task : Task) (files : List (List ℕ)) (bytes : List ℕ) (why : Refusal) → bytes ≡ file_at files 0
    → image_in bytes ≡ Err why → job_of task files ≡ Err why
no_image task files bytes why same e =
    ap (and_then (λ image. and_then (λ entry. and_then (λ t. Ok (record { image = image; timing = t; entry = entry })) (timing_in task.timing files)) (entry_in image task.function)))
    (sym (ap image_in same) ∙ e)

-- there are lists of every length
long_list : (n : ℕ) → (xs : List ℕ) × (nat_lt n (length xs) ≡ true)
long_list n = (replicate (suc n) 0, rw length-replicate (lt-ltb n (suc n) (omega arith)))

too_long : (command : Command) (probes : List Standing) (files : List (List ℕ)) → is_any_long files ≡ true
    → IsOfFiles command probes files (Refuses (refusal.Input input.TooLong))
too_long command probes files long =
    subst (λ (b : Bool). IsOfLength b command probes files (Refuses (refusal.Input input.TooLong))) (sym long) refl

-- a file that is too long is what comes of the command
long_command : (content : Option (List File)) (probes : List Standing) (command : Command)
    → IfTold content (λ shelf. is_any_long (bytes_of shelf (files_of command)) ≡ true)
    → IsOfCommand content probes command (Refuses (refusal.Input input.TooLong))
long_command None probes command told =
    let bytes = long_list longest in
    (bytes.0 ∷ [], tt, too_long command probes (bytes.0 ∷ []) (ap (λ (b : Bool). b || false) bytes.1))
long_command (Some shelf) probes command told =
    (bytes_of shelf (files_of command), refl, too_long command probes (bytes_of shelf (files_of command)) told)

-- why the files could not be read is why there is no answer
pub unanswered : (content : Option (List File)) (before after : List ℕ → ℕ) (probes : List Standing) (command : Command)
    (why : InputRefusal) → IsUnread content before after (files_of command) why
    → IsUnanswered content before after probes command (refusal.Input why)
unanswered content before after probes command input.Memory is = inl refl
unanswered content before after probes command input.ReadFault is = inr (inl (refl, is))
unanswered content before after probes command input.TooLong is = inr (inr (long_command content probes command is))

-- and that is due
pub due_of : (call : Call) (command : Command) (why : Refusal) → Some command ≡ command_of call.words
    → IsUnanswered call.content call.before call.after call.probes command why → IsDue call (Refuses why)
due_of call command why asked (inl memory) = OutOfMemory why refl memory
due_of call command why asked (inr (inl (is, risen))) = Unreadable (ap Refuses is) (command, sym asked, risen)
due_of call command why asked (inr (inr decided)) =
    Decided (subst (λ (c : Option Command). IsOfWords call.content call.probes c (Refuses why)) asked decided)

pub memory_due : (call : Call) → IsDue call (Refuses refusal.Memory)
memory_due call = OutOfMemory refusal.Memory refl refl
