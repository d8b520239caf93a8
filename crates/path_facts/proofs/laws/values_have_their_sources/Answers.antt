use Rattle.path_facts.specs.Histories.{literal_of}
use Rattle.path_facts.proofs.LiteralLemmas.{literal_read}
use Rattle.path_facts.proofs.StepLemmas.{source_row}
use Rattle.path_facts.proofs.laws.values_have_their_sources.Goals as goal

pub returns : goal.returns
returns c start stack has image f s o fits guarded constants h location =
    source_row start stack has f s h.orderly.words h.values h.marks image o fits guarded (literal_of image s.cpu.pc o)
    (literal_read image s constants h.orderly.bytes o) location
