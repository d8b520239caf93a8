use Rattle.std.proofs.Common.{arith}
use Rattle.path_facts.proofs.OffsetLemmas.{moved_stands, residue_stands, touches_same, word_same}
use Rattle.path_facts.proofs.laws.offsets_touch_the_same_words.Goals as goal

pub returns-clause-known : goal.returns-clause-known
returns-clause-known c o low high = residue_stands o low high

pub returns-clause-moved : goal.returns-clause-moved
returns-clause-moved c up e n z word few low high stands = moved_stands up e n z word few low high stands

pub returns-clause-touched : goal.returns-clause-touched
returns-clause-touched c e bytes k z word some few small low high stands = touches_same e bytes k z word some few small low high stands

pub returns-clause-word : goal.returns-clause-word
returns-clause-word c e k z word small low high stands = word_same e 1 k z word (omega arith) (omega arith) small low high stands
