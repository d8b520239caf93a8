use Rattle.basic_blocks.specs.PointOrder.{Before}
use Rattle.basic_blocks.proofs.AgreementLemmas.{one_cut, before_apart}
use Rattle.basic_blocks.proofs.laws.blocks_agree.Goals as goal

pub returns : goal.returns
returns c ways start bs cs are too a b = one_cut ways start Before before_apart bs cs are too a b
