-- Edges by the nodes that they lead from.
use Rattle.std.specs.Prelude.{ℕ, List, [], Option, Some, None}

abbrev pub row_or : Option (List ℕ) → List ℕ
row_or None = []
row_or (Some row) = row
