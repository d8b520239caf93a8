-- What the answers promise.
use Rattle.std.specs.Prelude.{◌≡◌, ℕ, ◌<◌, pos, ◌≤ℤ◌, ◌<ℤ◌, List, [], length, ◌⊎◌}
use Rattle.linear_rows.specs.Rows.{Inequality}
use Rattle.farkas.specs.declared.answers.Answer.{Answer}
use Rattle.farkas.specs.declared.answers.Answer.TheVariants.{Proved, Refuted, Beyond}
use Rattle.farkas.specs.declared.answers.Emptiness.{Emptiness}
use Rattle.farkas.specs.declared.answers.Emptiness.TheVariants as emptiness
use Rattle.farkas.specs.Points.{Entail, AreEmpty}
use Rattle.farkas.specs.Evidence.{row_at, IsProof, IsEmptyProof, IsRefutation, IsWitness}

-- multipliers that prove the row, or a point that breaks it
abbrev pub CarriesEvidence : List Inequality → Inequality → Answer → Type 0
CarriesEvidence rows row (Proved multipliers divisor) = IsProof rows row multipliers divisor
CarriesEvidence rows row (Refuted point) = IsRefutation rows row point
CarriesEvidence rows row Beyond = Unit {0}

-- the answer is the truth over all rational points
abbrev pub Decides : List Inequality → Inequality → Answer → Type 0
Decides rows row (Proved multipliers divisor) = Entail rows row
Decides rows row (Refuted point) = Entail rows row → ⊥
Decides rows row Beyond = Unit {0}

abbrev pub IsProved : Answer → Type 0
IsProved (Proved multipliers divisor) = Unit {0}
IsProved (Refuted point) = ⊥
IsProved Beyond = ⊥

-- no terms, and a constant that isn't negative
abbrev pub IsPlain : Inequality → Type 0
IsPlain row = (row.terms ≡ []) × (pos 0 ≤ℤ row.constant)

-- no terms, and a negative constant
abbrev pub IsAbsurd : Inequality → Type 0
IsAbsurd row = (row.terms ≡ []) × (row.constant <ℤ pos 0)

-- the first is the second, has its left side and a smaller constant, or holds nowhere
abbrev pub Gives : Inequality → Inequality → Type 0
Gives other row = ((other.terms ≡ row.terms) × (other.constant ≤ℤ row.constant)) ⊎ IsAbsurd other

-- the inequalities have one: it is there to be read
abbrev pub Have : List Inequality → Inequality → Type 0
Have rows row = IsPlain row ⊎ ((place : ℕ) × (place < length rows) × Gives (row_at rows place) row)

-- multipliers that show that no rational point meets them, or a point that does
abbrev pub CarriesEmptiness : List Inequality → Emptiness → Type 0
CarriesEmptiness rows (emptiness.Empty multipliers) = IsEmptyProof rows multipliers
CarriesEmptiness rows (emptiness.Inhabited point) = IsWitness rows point
CarriesEmptiness rows emptiness.Beyond = Unit {0}

-- the answer is the truth over all rational points
abbrev pub DecidesEmptiness : List Inequality → Emptiness → Type 0
DecidesEmptiness rows (emptiness.Empty multipliers) = AreEmpty rows
DecidesEmptiness rows (emptiness.Inhabited point) = AreEmpty rows → ⊥
DecidesEmptiness rows emptiness.Beyond = Unit {0}

abbrev pub IsEmptyAnswer : Emptiness → Type 0
IsEmptyAnswer (emptiness.Empty multipliers) = Unit {0}
IsEmptyAnswer (emptiness.Inhabited point) = ⊥
IsEmptyAnswer emptiness.Beyond = ⊥

-- an inequality that holds nowhere is there to be read
abbrev pub HaveAbsurd : List Inequality → Type 0
HaveAbsurd rows = (place : ℕ) × (place < length rows) × IsAbsurd (row_at rows place)
