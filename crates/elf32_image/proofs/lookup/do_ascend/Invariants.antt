use Rattle.std.proofs.Common.{◌≡◌, drop}
use Rattle.elf32_image.specs.Index.{ascend}
use Rattle.elf32_image.proofs.lookup.do_ascend.Given as goal

abbrev pub invariant-loop-segment : goal.invariant-loop-segment
invariant-loop-segment l = ascend l.end (drop l.segment-index l.loaded) ≡ ascend 0 l.loaded
