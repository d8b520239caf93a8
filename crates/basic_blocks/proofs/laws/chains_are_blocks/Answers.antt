use Rattle.basic_blocks.specs.PointOrder.{Before}
use Rattle.basic_blocks.proofs.NumberLemmas.{are_blocks, blocks_ascend}
use Rattle.basic_blocks.proofs.laws.chains_are_blocks.Goals as goal

pub returns : goal.returns
returns c ways start ps flag only back bs are opposite cut = (
  are_blocks ways start Before ps flag only back are opposite bs cut,
  blocks_ascend ways start Before ps flag only back are opposite bs
      cut,
)
