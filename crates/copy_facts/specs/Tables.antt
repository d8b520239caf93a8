-- What all paths say of a point, as a table: the cells of r0 to r14, and the stack words that have a cell or a mark.
use Rattle.std.specs.Prelude.{◌≡◌, ℕ, suc, ◌≤◌, ◌-◌, ◌^◌, ◌==◌, ◌&&◌, ◌||◌, false, if◌then◌else◌, List, [], ◌∷◌, ◌++◌}
use Rattle.std.specs.Prelude.{Option, None, get_or, is_some, length}
use Rattle.path_facts.specs.Facts.{Location}
use Rattle.path_facts.specs.Facts.Location.{Register, StackWord}
use Rattle.fact_lattice.specs.declared.cells.Range.{Range}
use Rattle.fact_lattice.specs.Cells.{AbstractState, joined_cell}
use Rattle.copy_facts.specs.declared.tables.PointFacts.{PointFacts}
use Rattle.copy_facts.specs.declared.tables.WordFacts.{WordFacts}

-- nothing is known of a word
abbrev pub nothing_of : ℕ → WordFacts
nothing_of k = record { word = k; cell = None; kept = false }

-- what a list says of a word
abbrev pub entry_in : List WordFacts → ℕ → WordFacts
entry_in [] k = nothing_of k
entry_in (w ∷ ws) k = if w.word == k then w else entry_in ws k

-- the words ascend; all are at least a, and below b
abbrev pub RisesTo : ℕ → ℕ → List WordFacts → Type 0
RisesTo a b [] = a ≤ b
RisesTo a b (w ∷ ws) = (a ≤ w.word) × RisesTo (suc w.word) b ws

-- a word is written down where it has a cell or a mark
abbrev pub with_entry : List WordFacts → WordFacts → List WordFacts
with_entry ws e = if is_some e.cell || e.kept then ws ++ e ∷ [] else ws

abbrev pub cell_in : List (Option Range) → List WordFacts → Location → Option Range
cell_in registers words (Register r) = get_or registers r None
cell_in registers words (StackWord k) = (entry_in words k).cell

abbrev pub state_in : List (Option Range) → List WordFacts → AbstractState
state_in registers words = record { cell = cell_in registers words; marked = λ k. (entry_in words k).kept }

-- what a table says
abbrev pub state_of_point : PointFacts → AbstractState
state_of_point t = state_in t.registers t.words.items

-- a table is in order
pub record IsTable (t : PointFacts) : Type 0 where
  pub long : length t.registers ≡ 15
  pub rising : RisesTo 0 (2 ^ 32 - 1) t.words.items

-- what two paths say of a word together
abbrev pub joined_entry : ℕ → WordFacts → WordFacts → WordFacts
joined_entry stack v w = record {
  word = v.word;
  cell = joined_cell stack v.cell w.cell;
  kept = v.kept && w.kept;
}

-- the list says the entries of the words below b, and nothing of others
pub record AreEntriesTo (f : ℕ → WordFacts) (b : ℕ) (ws : List WordFacts) : Type 0 where
  pub rises : RisesTo 0 b ws
  pub entries : (k : ℕ) → suc k ≤ b → entry_in ws k ≡ f k
