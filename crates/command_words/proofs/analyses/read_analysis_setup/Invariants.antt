use Rattle.std.proofs.Common.{◌≡◌, drop, map, string_bytes}
use Rattle.command_words.specs.Analyses.{after_words, nothing_given, IsGiven}
use Rattle.command_words.proofs.analyses.read_analysis_setup.Given as goal

abbrev pub invariant-loop-word : goal.invariant-loop-word
invariant-loop-word l = record {
  rest : after_words l.given (map string_bytes (drop l.word-index l.words)) ≡ after_words nothing_given (map string_bytes l.words);
  given : IsGiven l.given;
}
