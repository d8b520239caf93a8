use Rattle.std.proofs.Common.{◌≡◌, ℕ, nat_eq}
use Rattle.std.specs.Prelude.{nat_lt}
use Rattle.graph_search.specs.NodeLists.{holds}
use Rattle.level_tables.proofs.rows.all_blocks.Given as goal

abbrev pub invariant-loop-block : goal.invariant-loop-block
invariant-loop-block l = (u : ℕ) → holds nat_eq u l.blocks ≡ nat_lt u l.block
