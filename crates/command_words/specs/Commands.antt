-- Which words are right, and what they ask for.
use Rattle.std.specs.Prelude.{ℕ, if◌then◌else◌, Option, None, option_map, option_and_then, List, [], ◌∷◌, codes}
use Rattle.std.specs.Str.{bytes_eq}
use Rattle.command_words.specs.Places.{places_of, timing_files}
use Rattle.command_words.specs.Analyses.{analysis_of, IsAnalysis}
use Rattle.command_words.specs.Options.{setup_of, IsSetup}
use Rattle.command_words.specs.Valuations.{valuation_of}
use Rattle.command_words.specs.declared.places.Task.{Task}
use Rattle.command_words.specs.declared.commands.Command.{Command}
use Rattle.command_words.specs.declared.commands.Command.TheVariants.{Analyse, Run, Eval}

-- ELF TIMING FUNCTION with parameters and a stack
abbrev pub analyse_of : List (List ℕ) → Option Command
analyse_of words = option_and_then (λ p. option_map (Analyse p.0) (analysis_of p.1)) (places_of words)

-- ELF TIMING FUNCTION and how the run starts
abbrev pub run_of : List (List ℕ) → Option Command
run_of words = option_and_then (λ p. option_map (Run p.0) (setup_of p.1)) (places_of words)

-- REPORT and values
abbrev pub eval_of : List (List ℕ) → Option Command
eval_of words = option_map Eval (valuation_of words)

-- None where the words are wrong
abbrev pub command_of : List (List ℕ) → Option Command
command_of [] = None
command_of (command ∷ words) =
    if bytes_eq command (codes "analyse") then analyse_of words
    else if bytes_eq command (codes "run") then run_of words
    else if bytes_eq command (codes "eval") then eval_of words
    else None

-- the names of the files that a task reads, in the order of the words
abbrev pub files_of_task : Task → List (List ℕ)
files_of_task task = task.elf ∷ timing_files task.timing

-- the names of the files that a command reads, in the order of the words
abbrev pub files_of : Command → List (List ℕ)
files_of (Analyse task setup) = files_of_task task
files_of (Run task setup) = files_of_task task
files_of (Eval valuation) = valuation.report ∷ []

-- The setup of an analysis is one that a report takes, that of a run one that the machine takes.
abbrev pub HasSetup : Command → Type 0
HasSetup (Analyse task setup) = IsAnalysis setup
HasSetup (Run task setup) = IsSetup setup
HasSetup (Eval valuation) = Unit {0}
