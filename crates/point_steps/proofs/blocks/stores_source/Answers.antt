use Rattle.std.proofs.Common.{rules}
use Rattle.arm_machine.specs.Blocks.{registers_of}
use Rattle.path_facts.specs.Sources.{stores_source}
use Rattle.point_steps.specs.Meanings.{source_meant}
use Rattle.point_steps.proofs.Listed.{stores_on}
use Rattle.point_steps.proofs.blocks.stores_source.Goals as goal

pub loop-listed-preserved : goal.loop-listed-preserved
loop-listed-preserved c =
    stores_on c.loop-listed.at c.next_offset-at.result c.args.list c.loop-listed.listed c.args.word
    (source_meant c.loop-listed.source) (source_meant c.word_store_source-source.result)
    (stores_source c.args.lowest (registers_of c.args.list) c.args.word (source_meant c.args.before))
    (search rules) (search rules) c.word_store_source-source.ensures c.next_offset-at.ensures c.loop-listed.invariant
