use Rattle.std.proofs.Common.{refl}
use Rattle.wsym_io.proofs.Untold.{if_ok}
use Rattle.wsym_io.proofs.system.FileShelfShelf.TheImpl.Goals as goal

pub read_all-tells : goal.read_all-tells
read_all-tells g c = record {
  short = c.ensures.short;
  told = if_ok c.result (λ _. Unit {0}) (λ _. tt);
  content = refl;
  later = λ _. c.ensures.later;
  failed = c.ensures.failed;
}
