use Rattle.point_steps.proofs.table.written_source.Goals as goal

pub returns-in-Word : goal.returns-in-Word
returns-in-Word c = rw (c.in-Word.is) (c.word_written.ensures c.args.address)

pub returns-in-Half : goal.returns-in-Half
returns-in-Half c = rw (c.in-Half.is) (c.half_written.ensures c.args.address c.args.literal c.args.offset)

pub returns-in-Block : goal.returns-in-Block
returns-in-Block c = rw (c.in-Block.is) (c.block_written.ensures c.args.address c.args.literal)
