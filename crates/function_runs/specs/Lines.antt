-- The lines of a result, each ended by one line feed.
use Rattle.std.specs.Prelude.{ℕ, ◌+◌, List, [], ◌∷◌, ◌++◌, codes}
use Rattle.std.specs.Fmt.{decimal}

-- returned S steps C cycles
abbrev pub returned_line : ℕ → ℕ → List ℕ
returned_line steps cycles = codes "returned " ++ decimal steps ++ codes " steps " ++ decimal cycles ++ codes " cycles\n"

-- probe I T
abbrev pub probe_line : ℕ → ℕ → List ℕ
probe_line place tally = codes "probe " ++ decimal place ++ codes " " ++ decimal tally ++ codes "\n"

-- the lines of probes that are numbered from a place on
abbrev pub probe_lines : ℕ → List ℕ → List ℕ
probe_lines place [] = []
probe_lines place (tally ∷ tallies) = probe_line place tally ++ probe_lines (place + 1) tallies

-- probes are numbered from 0
abbrev pub result_text : ℕ → ℕ → List ℕ → List ℕ
result_text steps cycles tallies = returned_line steps cycles ++ probe_lines 0 tallies
