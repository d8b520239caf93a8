use Rattle.std.proofs.Common.{◌≡◌, ℕ, Option, None, List, refl}
use Rattle.wsym_io.proofs.Untold.{if_ok, on_err}
use Rattle.wsym_io.proofs.system.StdoutSinkSink.TheImpl.Goals as goal

pub write-tells : goal.write-tells
write-tells g c = record {
  some = c.ensures.some;
  within = c.ensures.within;
  taken = if_ok c.result (λ _. ◌≡◌ {A = Option (List ℕ)} None None) (λ _. refl);
  err = on_err c.result (◌≡◌ {A = Option (List ℕ)} None None) refl;
  later = c.ensures.later;
  failed = c.ensures.failed;
}
