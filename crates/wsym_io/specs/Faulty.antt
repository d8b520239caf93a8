-- The states of the shelf and the sink in memory that fail at calls chosen beforehand.
use Rattle.std.specs.Prelude.{ℕ, ◌+◌, ◌-◌, ◌^◌, min, Bool, ◌==◌, ◌||◌, not, if◌then◌else◌, List, ◌++◌}
use Rattle.std.specs.List.{list_any}
use Rattle.wsym_io.specs.Io.{File, has_file, raised}

-- what a `MemShelf` holds, the numbers of the calls that fail, the calls so far, and its faults
pub record ShelfState : Type 0 where
  pub files : List File
  pub failing : List ℕ
  pub calls : ℕ
  pub faults : ℕ

-- what a `MemSink` holds, the most bytes that a call takes, the numbers of the calls that fail, the
-- calls so far, and its faults
pub record SinkState : Type 0 where
  pub written : List ℕ
  pub most : ℕ
  pub failing : List ℕ
  pub calls : ℕ
  pub faults : ℕ

-- whether the call of that number, counted from 0, is one of those that fail
abbrev pub is_numbered : List ℕ → ℕ → Bool
is_numbered failing call = list_any (λ number. number == call) failing

-- the calls after one more: no number of 64 bits is that of a call from 2 ^ 64 on, so the count may
-- stay at its last value
abbrev pub next_call : ℕ → ℕ
next_call calls = min (calls + 1) (2 ^ 128 - 1)

-- whether the shelf's next call fails, where it asks for that name
abbrev pub shelf_fails : ShelfState → List ℕ → Bool
shelf_fails shelf name = is_numbered shelf.failing shelf.calls || not (has_file shelf.files name)

-- the shelf after a call for that name
abbrev pub shelf_after : ShelfState → List ℕ → ShelfState
shelf_after shelf name =
    record shelf {
      calls = next_call shelf.calls;
      faults = if shelf_fails shelf name then raised shelf.faults else shelf.faults;
    }

-- whether the sink's next call fails
abbrev pub sink_fails : SinkState → Bool
sink_fails sink = is_numbered sink.failing sink.calls

-- the sink after a call that took that piece, none of it where the call gave an error
abbrev pub sink_after : SinkState → List ℕ → SinkState
sink_after sink piece =
    record sink {
      written = sink.written ++ piece;
      calls = next_call sink.calls;
      faults = if sink_fails sink then raised sink.faults else sink.faults;
    }
