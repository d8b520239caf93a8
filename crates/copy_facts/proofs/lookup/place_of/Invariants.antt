use Rattle.std.proofs.Common.{◌-◌, ◌≡◌, ℕ, ◌<◌, ◌≤◌, Some, length, slice_get}
use Rattle.copy_facts.specs.declared.tables.WordFacts.{WordFacts as WordFactsValue}
use Rattle.copy_facts.proofs.lookup.place_of.Given as goal

abbrev pub invariant-loop-low : goal.invariant-loop-low
invariant-loop-low l = record {
  within : l.low ≤ l.high;
  inside : l.high ≤ length l.words;
  before : (i : ℕ) (w : WordFactsValue) → i < l.low → slice_get l.words i ≡ Some w → w.word < l.word;
  after : (i : ℕ) (w : WordFactsValue) → l.high ≤ i → slice_get l.words i ≡ Some w → l.word ≤ w.word;
}

abbrev pub decreases-loop-low : goal.decreases-loop-low
decreases-loop-low l = l.high - l.low
