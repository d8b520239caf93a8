use Rattle.std.proofs.Common.{◌+◌}
use Rattle.farkas.proofs.placing.+is_less_natural.Given as goal

abbrev pub decreases-is_less_natural : goal.decreases-is_less_natural
decreases-is_less_natural l = l.m + l.n
