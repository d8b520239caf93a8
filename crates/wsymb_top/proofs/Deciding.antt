-- For one call one outcome at most is decided, as far as its status goes.
use Rattle.std.proofs.Common.{◌≡◌, ◌≢◌, ℕ, inl, inr, Bool, true, false, Option, Some, None, Result, Ok, Err, List, refl, sym, ap, ◌∙◌, subst}
use Rattle.wsym_io.specs.Io.{File, IfTold}
use Rattle.command_words.specs.Commands.{command_of, files_of}
use Rattle.command_words.specs.declared.analyses.AnalysisSetup.{AnalysisSetup}
use Rattle.command_words.specs.declared.commands.Command.{Command}
use Rattle.command_words.specs.declared.commands.Command.TheVariants.{Analyse, Eval, Run}
use Rattle.command_words.specs.declared.valuations.NamedValue.{NamedValue}
use Rattle.input_files.specs.Inputs.{bytes_of, is_any_long}
use Rattle.input_files.specs.declared.reading.InputRefusal.TheVariants as input
use Rattle.elf32_image.specs.Parts.{ImageValue}
use Rattle.fetch_timing.specs.declared.timing.Timing.{Timing}
use Rattle.wsym_terms.specs.declared.bounds.ParamRange.{ParamRange}
use Rattle.copy_facts.specs.declared.following.FrameRefusal.{FrameRefusal}
use Rattle.copy_facts.specs.declared.following.FrameRefusal.TheVariants as frames
use Rattle.wcet_core.specs.Agreement.{AreOneFrameRefusal, AreOneRefusal}
use Rattle.wcet_core.specs.Analyses.{IsAnalysed}
use Rattle.wcet_core.specs.Refusals.{IsRefusedAnalysis}
use Rattle.wcet_core.specs.declared.refusals.AnalysisRefusal.{AnalysisRefusal}
use Rattle.wcet_core.specs.declared.refusals.AnalysisRefusal.TheVariants as analysis
use Rattle.machine_probe.specs.Weights.{Standing}
use Rattle.function_runs.specs.Agreement.{HasOneOutcome}
use Rattle.function_runs.specs.Results.{FunctionRun}
use Rattle.function_runs.specs.declared.refusals.RunRefusal.{RunRefusal}
use Rattle.function_runs.specs.declared.refusals.RunRefusal.TheVariants as run
use Rattle.report_values.specs.Naming.{named_values}
use Rattle.report_lines.specs.declared.report.Report.{Report}
use Rattle.whole_reports.specs.Reports.{report_of}
use Rattle.wsymb_top.specs.declared.jobs.Job.{Job}
use Rattle.wsymb_top.specs.declared.refusals.Refusal.{Refusal}
use Rattle.wsymb_top.specs.declared.refusals.Refusal.TheVariants as refusal
use Rattle.wsymb_top.specs.Answers.{IsAnswered, IsDelivered, IsOnly, Writing}
use Rattle.wsymb_top.specs.Answers.IsDelivered.{SinkFailed, SinkFull, Whole}
use Rattle.wsymb_top.specs.Jobs.{file_at, job_of}
use Rattle.wsymb_top.specs.Outcomes.{Call, IsDue, IsOfAnalysis, IsOfBytes, IsOfCommand, IsOfFiles, IsOfLength, IsOfLoaded, IsOfReading, IsOfRun, IsOfWords, Outcome, outcome_status, outcome_text, running}
use Rattle.wsymb_top.specs.Outcomes.IsDue.{Decided, OutOfMemory, Unreadable}
use Rattle.wsymb_top.specs.Outcomes.Outcome.{Answers, Refuses}
use Rattle.wsymb_top.specs.Refusals.{analysis_status, frames_status, graph_status, loops_status, run_status, status_of}

-- two outcomes have one status
abbrev AreLike : Outcome → Outcome → Type 0
AreLike o p = outcome_status o ≡ outcome_status p

-- results of runs agree, and analyses
abbrev pub AgreedRuns : Type 0
AgreedRuns = (run : FunctionRun) → HasOneOutcome run

abbrev pub AgreedAnalyses : Type 0
AgreedAnalyses = (setup : AnalysisSetup) (job : Job) (o p : Outcome) → IsOfAnalysis setup job o → IsOfAnalysis setup job p
    → AreLike o p

-- ---- analyses

-- a law of wcet_core: a function that has a report is refused for memory alone
abbrev pub HasNotBoth : Type 0
HasNotBoth = (image : ImageValue) (t : Timing) (entry stack : ℕ) (params : List ParamRange) (r : Report)
    (why : AnalysisRefusal) → IsAnalysed image t entry stack params r → IsRefusedAnalysis image t entry stack why
    → why ≡ analysis.Memory

-- and two other refusals are of one kind
abbrev pub HasOneKind : Type 0
HasOneKind = (image : ImageValue) (t : Timing) (entry stack : ℕ) (why other : AnalysisRefusal)
    → IsRefusedAnalysis image t entry stack why → IsRefusedAnalysis image t entry stack other → why ≢ analysis.Memory
    → other ≢ analysis.Memory → AreOneRefusal why other

same_frame_status : (why other : FrameRefusal) → AreOneFrameRefusal why other → frames_status why ≡ frames_status other
same_frame_status (frames.Lost a) (frames.Lost b) one = refl
same_frame_status (frames.Over a o) (frames.Over b k) one = refl
same_frame_status (frames.Unproved a) (frames.Unproved b) one = refl
same_frame_status (frames.Lost a) (frames.Over b k) one = absurd one
same_frame_status (frames.Lost a) (frames.Unproved b) one = absurd one
same_frame_status (frames.Lost a) frames.Memory one = absurd one
same_frame_status (frames.Over a o) (frames.Lost b) one = absurd one
same_frame_status (frames.Over a o) (frames.Unproved b) one = absurd one
same_frame_status (frames.Over a o) frames.Memory one = absurd one
same_frame_status (frames.Unproved a) (frames.Lost b) one = absurd one
same_frame_status (frames.Unproved a) (frames.Over b k) one = absurd one
same_frame_status (frames.Unproved a) frames.Memory one = absurd one
same_frame_status frames.Memory other one = absurd one

same_status : (why other : AnalysisRefusal) → AreOneRefusal why other → analysis_status why ≡ analysis_status other
same_status analysis.Memory other one = absurd one
same_status (analysis.Graph why) (analysis.Graph other) one = ap graph_status one
same_status (analysis.Graph why) analysis.Memory one = absurd one
same_status (analysis.Graph why) (analysis.Loops other) one = absurd one
same_status (analysis.Graph why) (analysis.Frames other) one = absurd one
same_status (analysis.Graph why) analysis.TreeTooLarge one = absurd one
same_status (analysis.Loops why) (analysis.Loops other) one = ap loops_status one
same_status (analysis.Loops why) analysis.Memory one = absurd one
same_status (analysis.Loops why) (analysis.Graph other) one = absurd one
same_status (analysis.Loops why) (analysis.Frames other) one = absurd one
same_status (analysis.Loops why) analysis.TreeTooLarge one = absurd one
same_status (analysis.Frames why) (analysis.Frames other) one = same_frame_status why other one
same_status (analysis.Frames why) analysis.Memory one = absurd one
same_status (analysis.Frames why) (analysis.Graph other) one = absurd one
same_status (analysis.Frames why) (analysis.Loops other) one = absurd one
same_status (analysis.Frames why) analysis.TreeTooLarge one = absurd one
same_status analysis.TreeTooLarge analysis.TreeTooLarge one = refl
same_status analysis.TreeTooLarge analysis.Memory one = absurd one
same_status analysis.TreeTooLarge (analysis.Graph other) one = absurd one
same_status analysis.TreeTooLarge (analysis.Loops other) one = absurd one
same_status analysis.TreeTooLarge (analysis.Frames other) one = absurd one

-- a refusal of an analysis that isn't for memory
free_analysis : (why : Refusal) (cause : AnalysisRefusal) → why ≡ refusal.Analysis cause → (status_of why ≡ 1 → ⊥)
    → cause ≢ analysis.Memory
free_analysis why cause is free memory = free (ap status_of is ∙ ap analysis_status memory)

pub one_analysis : HasNotBoth → HasOneKind → AgreedAnalyses
one_analysis none one setup job (Answers text) (Answers other) o_is p_is = refl
one_analysis none one setup job (Answers text) (Refuses why) (report, of, written) (cause, refused, is, free) =
    absurd (free_analysis why cause is free
    (none job.image job.timing job.entry setup.stack setup.params report cause of refused))
one_analysis none one setup job (Refuses why) (Answers text) (cause, refused, is, free) (report, of, written) =
    absurd (free_analysis why cause is free
    (none job.image job.timing job.entry setup.stack setup.params report cause of refused))
one_analysis none one setup job (Refuses why) (Refuses other) (cause, refused, is, free) (cause2, refused2, is2, free2) =
    ap status_of is
    ∙ (same_status cause cause2 (one job.image job.timing job.entry setup.stack cause cause2 refused refused2
    (free_analysis why cause is free) (free_analysis other cause2 is2 free2))
    ∙ sym (ap status_of is2))

-- ---- runs and values

both_are : (o p q : Outcome) → o ≡ q → p ≡ q → AreLike o p
both_are o p q o_is p_is = ap outcome_status (o_is ∙ sym p_is)

-- a refusal of a run that isn't for memory
free_run : (why : Refusal) (cause : RunRefusal) (steps : ℕ) → why ≡ refusal.Run cause steps → (status_of why ≡ 1 → ⊥)
    → cause ≢ run.Memory
free_run why cause steps is free memory = free (ap status_of is ∙ ap run_status memory)

one_run : (r : FunctionRun) (o p : Outcome) → HasOneOutcome r → IsOfRun r o → IsOfRun r p → AreLike o p
one_run r (Answers text) (Answers other) agreed o_is p_is = refl
one_run r (Answers text) (Refuses why) agreed (steps, cycles, tallies, result, written) (cause, refused, is, free) =
    absurd (agreed.exclusive steps cycles tallies cause result refused (free_run why cause r.setup.steps is free))
one_run r (Refuses why) (Answers text) agreed (cause, refused, is, free) (steps, cycles, tallies, result, written) =
    absurd (agreed.exclusive steps cycles tallies cause result refused (free_run why cause r.setup.steps is free))
one_run r (Refuses why) (Refuses other) agreed (cause, refused, is, free) (cause2, refused2, is2, free2) =
    ap status_of (is ∙ ap (λ c. refusal.Run c r.setup.steps) (agreed.cause cause cause2 refused refused2
    (free_run why cause r.setup.steps is free) (free_run other cause2 r.setup.steps is2 free2)) ∙ sym is2)

abbrev IsOk : {A B : Type 0} → Result A B → Type 0
IsOk (Ok a) = Unit {0}
IsOk (Err b) = ⊥

not_both : {A B : Type 0} (x : Result A B) (a : A) (b : B) → x ≡ Ok a → x ≡ Err b → ⊥
not_both x a b ok err = subst IsOk (sym ok ∙ err) tt

one_reading : (values : List NamedValue) (read : Result Report ℕ) (o p : Outcome) → IsOfReading values read o
    → IsOfReading values read p → AreLike o p
one_reading values (Err line) o p o_is p_is = both_are o p (Refuses (refusal.BadReport line)) o_is p_is
one_reading values (Ok report) (Answers text) (Answers other) o_is p_is = refl
one_reading values (Ok report) (Answers text) (Refuses why) (cost, value, written) (name, named, is) =
    absurd (not_both (named_values report.params values) value.at name value.named named)
one_reading values (Ok report) (Refuses why) (Answers text) (name, named, is) (cost, value, written) =
    absurd (not_both (named_values report.params values) value.at name value.named named)
one_reading values (Ok report) (Refuses why) (Refuses other) (name, named, is) (name2, named2, is2) =
    ap status_of is ∙ sym (ap status_of is2)

one_of_loaded : (P : Job → Outcome → Type 0) (loaded : Result Job Refusal) (o p : Outcome)
    → ((job : Job) → P job o → P job p → AreLike o p) → IsOfLoaded P loaded o → IsOfLoaded P loaded p → AreLike o p
one_of_loaded P (Ok job) o p one o_is p_is = one job o_is p_is
one_of_loaded P (Err why) o p one o_is p_is = both_are o p (Refuses why) o_is p_is

one_of_bytes : (command : Command) (probes : List Standing) (files : List (List ℕ)) (o p : Outcome) → AgreedRuns
    → AgreedAnalyses → IsOfBytes command probes files o → IsOfBytes command probes files p → AreLike o p
one_of_bytes (Analyse task setup) probes files o p runs analyses o_is p_is =
    one_of_loaded (IsOfAnalysis setup) (job_of task files) o p (λ job. analyses setup job o p) o_is p_is
one_of_bytes (Run task setup) probes files o p runs analyses o_is p_is =
    one_of_loaded (λ job. IsOfRun (running setup probes job)) (job_of task files) o p
    (λ job. one_run (running setup probes job) o p (runs (running setup probes job))) o_is p_is
one_of_bytes (Eval valuation) probes files o p runs analyses o_is p_is =
    one_reading valuation.values (report_of (file_at files 0)) o p o_is p_is

one_of_length : (long : Bool) (command : Command) (probes : List Standing) (files : List (List ℕ)) (o p : Outcome)
    → AgreedRuns → AgreedAnalyses → IsOfLength long command probes files o → IsOfLength long command probes files p
    → AreLike o p
one_of_length true command probes files o p runs analyses o_is p_is =
    both_are o p (Refuses (refusal.Input input.TooLong)) o_is p_is
one_of_length false command probes files o p runs analyses o_is p_is =
    one_of_bytes command probes files o p runs analyses o_is p_is

-- what the files hold, where the shelf says it
of_files : (content : Option (List File)) (shelf : List File) (probes : List Standing) (command : Command) (o : Outcome)
    → content ≡ Some shelf → IsOfCommand content probes command o
    → IsOfFiles command probes (bytes_of shelf (files_of command)) o
of_files content shelf probes command o told (files, are, is) =
    let same : files ≡ bytes_of shelf (files_of command) =
    subst (λ (c : Option (List File)). IfTold c (λ s. files ≡ bytes_of s (files_of command))) told are in
    subst (λ (fs : List (List ℕ)). IsOfFiles command probes fs o) same is

one_of_words : (content : Option (List File)) (shelf : List File) (probes : List Standing) (command : Option Command)
    (o p : Outcome) → AgreedRuns → AgreedAnalyses → content ≡ Some shelf → IsOfWords content probes command o
    → IsOfWords content probes command p → AreLike o p
one_of_words content shelf probes None o p runs analyses told o_is p_is = both_are o p (Refuses refusal.Usage) o_is p_is
one_of_words content shelf probes (Some command) o p runs analyses told o_is p_is =
    let files = bytes_of shelf (files_of command) in
    one_of_length (is_any_long files) command probes files o p runs analyses
    (of_files content shelf probes command o told o_is)
    (of_files content shelf probes command p told p_is)

only_due : (call : Call) (shelf : List File) (o : Outcome) (result : ℕ) → AgreedRuns → AgreedAnalyses
    → call.content ≡ Some shelf → IsDue call o → result ≡ outcome_status o → IsOnly call result
only_due call shelf o result runs analyses told (OutOfMemory why is memory) answer =
    inl (answer ∙ (ap outcome_status is ∙ memory))
only_due call shelf o result runs analyses told (Unreadable is fault) answer =
    inr (inl (answer ∙ ap outcome_status is, fault))
only_due call shelf o result runs analyses told (Decided decided) answer =
    inr (inr (inr (λ p p_decided. answer
    ∙ one_of_words call.content shelf call.probes (command_of call.words) o p runs analyses told decided p_decided)))

only_delivered : (call : Call) (shelf : List File) (o : Outcome) (text : List ℕ) (writing : Writing) (result : ℕ)
    → AgreedRuns → AgreedAnalyses → call.content ≡ Some shelf → IsDue call o
    → IsDelivered text (outcome_status o) writing result → IsOnly call result
only_delivered call shelf o text writing result runs analyses told due (Whole answer written) =
    only_due call shelf o result runs analyses told due answer
only_delivered call shelf o text writing result runs analyses told due (SinkFailed answer rose written) =
    inr (inr (inl answer))
only_delivered call shelf o text writing result runs analyses told due (SinkFull answer written) = inl answer

by_content : (content : Option (List File)) (call : Call) (writing : Writing) (result : ℕ) → AgreedRuns
    → AgreedAnalyses → call.content ≡ content → IsAnswered call writing result → IfTold content (λ files. IsOnly call result)
by_content None call writing result runs analyses told answered = tt
by_content (Some shelf) call writing result runs analyses told (o, due, delivered) =
    only_delivered call shelf o (outcome_text o) writing result runs analyses told due delivered

-- the status of an answer over a shelf that says its content
pub only : (call : Call) (writing : Writing) (result : ℕ) → AgreedRuns → AgreedAnalyses → IsAnswered call writing result
    → IfTold call.content (λ files. IsOnly call result)
only call writing result runs analyses answered = by_content call.content call writing result runs analyses refl answered
