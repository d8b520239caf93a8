-- What a command works on: the bytes of the files that it names, in the order of the words.
use Rattle.std.specs.Prelude.{ℕ, Option, Some, None, Result, Ok, Err, List, [], get_or}
use Rattle.elf32_image.specs.Parts.{ImageValue}
use Rattle.elf32_image.specs.Segments.{image_of}
use Rattle.elf32_image.specs.Names.{function_of}
use Rattle.fetch_timing.specs.declared.timing.Timing.{Timing}
use Rattle.fetch_timing.specs.Timings.{unit_timing}
use Rattle.fetch_timing.specs.TimingFiles as file
use Rattle.command_words.specs.declared.places.FunctionWord.{FunctionWord}
use Rattle.command_words.specs.declared.places.FunctionWord.TheVariants as word
use Rattle.command_words.specs.declared.places.Task.{Task}
use Rattle.command_words.specs.declared.places.TimingWord.{TimingWord}
use Rattle.command_words.specs.declared.places.TimingWord.TheVariants as timing
use Rattle.wsymb_top.specs.declared.jobs.Job.{Job}
use Rattle.wsymb_top.specs.declared.refusals.Refusal.{Refusal}
use Rattle.wsymb_top.specs.declared.refusals.Refusal.TheVariants as refusal

-- the bytes of a file by its place
abbrev pub file_at : List (List ℕ) → ℕ → List ℕ
file_at files place = get_or files place []

abbrev pub and_then : {A B : Type 0} → (A → Result B Refusal) → Result A Refusal → Result B Refusal
and_then f (Ok a) = f a
and_then f (Err why) = Err why

-- a value, or the refusal that a lower one is
abbrev pub or_refused : {A E : Type 0} → (E → Refusal) → Result A E → Result A Refusal
or_refused f (Ok a) = Ok a
or_refused f (Err why) = Err (f why)

abbrev pub image_in : List ℕ → Result ImageValue Refusal
image_in bytes = or_refused refusal.Image (image_of bytes)

-- the address of the function: that of the word, or that of the symbol
abbrev pub entry_in : ImageValue → FunctionWord → Result ℕ Refusal
entry_in image (word.Address a) = Ok a
entry_in image (word.Symbol name) = or_refused refusal.Name (function_of image name)

abbrev pub timing_or_bad : Option Timing → Result Timing Refusal
timing_or_bad None = Err refusal.BadTiming
timing_or_bad (Some t) = Ok t

-- the built-in timing, or that of the second file
abbrev pub timing_in : TimingWord → List (List ℕ) → Result Timing Refusal
timing_in timing.UnitTable files = Ok unit_timing
timing_in (timing.File name) files = timing_or_bad (file.timing_of (file_at files 1))

-- The job of a task whose files hold this, or the first cause why there is none: the executable comes before the
-- function's name, and that before the timing.
abbrev pub job_of : Task → List (List ℕ) → Result Job Refusal
job_of task files =
    and_then (λ image.
    and_then (λ entry.
    and_then (λ t. Ok (record { image = image; timing = t; entry = entry }))
    (timing_in task.timing files))
    (entry_in image task.function))
    (image_in (file_at files 0))
