-- What an image is: the loaded segments of a file, in the order of its program headers, and its function
-- symbols, in the order of its symbol tables.
use Rattle.std.specs.Prelude.{ℕ, List}

-- `size` bytes from `address` on: those of the file, and then zeros
pub record Segment : Type 0 where
  pub address : ℕ
  pub bytes : List ℕ
  pub size : ℕ
  pub flags : ℕ

-- the name of a function, as bytes, and its value
pub record FunctionSymbol : Type 0 where
  pub name : List ℕ
  pub value : ℕ

pub record ImageValue : Type 0 where
  pub segments : List Segment
  pub functions : List FunctionSymbol
