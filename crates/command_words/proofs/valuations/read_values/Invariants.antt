use Rattle.std.proofs.Common.{◌≡◌, [], drop, map, string_bytes}
use Rattle.command_words.specs.Valuations.{values_after}
use Rattle.command_words.proofs.valuations.read_values.Given as goal

abbrev pub invariant-loop-word : goal.invariant-loop-word
invariant-loop-word l =
    values_after l.values (map string_bytes (drop l.word-index l.words)) ≡ values_after [] (map string_bytes l.words)
