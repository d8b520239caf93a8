-- Timing files: a JSON object with a number for each of 17 names.
use Rattle.std.specs.Prelude.{◌≡◌, ℕ, ◌==◌, ◌&&◌, Bool, true, if◌then◌else◌, nat_le, List, [], ◌∷◌, map, drop, slice_index, codes, Option, Some, None, option_map, option_and_then}
use Rattle.std.specs.List.{list_all, list_any}
use Rattle.std.specs.Str.{bytes_eq, is_utf8}
use Rattle.serde_json.specs.Data.{Data, Members, no_members, member}
use Rattle.serde_json.specs.Find.{as_number, as_object, as_u64, get}
use Rattle.serde_json.specs.Read.{read}
use Rattle.fetch_timing.specs.declared.timing.Timing.{Timing}

-- a name of a timing file, and the numbers that it may have
pub record Field : Type 0 where
  pub name : List ℕ
  pub allows : ℕ → Bool

abbrev pub one_of : List ℕ → ℕ → Bool
one_of ms n = list_any (λ m. n == m) ms

abbrev pub from_to : ℕ → ℕ → ℕ → Bool
from_to least greatest n = nat_le least n && nat_le n greatest

abbrev pub set_counts : ℕ → Bool
set_counts = one_of (1 ∷ 2 ∷ 4 ∷ 8 ∷ 16 ∷ 32 ∷ 64 ∷ 128 ∷ 256 ∷ 512 ∷ 1024 ∷ [])

abbrev pub way_counts : ℕ → Bool
way_counts = from_to 1 16

abbrev pub line_sizes : ℕ → Bool
line_sizes = one_of (4 ∷ 8 ∷ 16 ∷ 32 ∷ 64 ∷ [])

abbrev pub cycles : ℕ → Bool
cycles = from_to 0 1000000

-- the classes of instructions, in their order
abbrev pub class_names : List (List ℕ)
class_names =
    codes "compute" ∷ codes "shifted" ∷ codes "multiply" ∷ codes "long" ∷ codes "load" ∷ codes "store"
    ∷ codes "loadmany" ∷ codes "storemany" ∷ codes "branch" ∷ codes "call" ∷ codes "exchange" ∷ []

abbrev pub class_fields : List Field
class_fields = map (λ name. record { name = name; allows = cycles }) class_names

-- the instruction cache, what a miss costs, an instruction that is skipped, each register of a load or store of
-- several, and the classes
abbrev pub fields : List Field
fields =
    record { name = codes "sets"; allows = set_counts }
    ∷ record { name = codes "ways"; allows = way_counts }
    ∷ record { name = codes "line"; allows = line_sizes }
    ∷ record { name = codes "miss"; allows = cycles }
    ∷ record { name = codes "skipped"; allows = cycles }
    ∷ record { name = codes "register"; allows = cycles }
    ∷ class_fields

-- the whole number that an object has at a name, where it is one that the name may have
abbrev pub number_at : Data → Field → Option ℕ
number_at value field =
    option_and_then (λ n. if field.allows n then Some n else None)
    (option_and_then as_u64 (option_and_then as_number (get field.name value)))

-- one number for each of the names
abbrev pub numbers_at : Data → List Field → Option (List ℕ)
numbers_at value [] = Some []
numbers_at value (field ∷ rest) = option_and_then (λ n. option_map (λ ns. n ∷ ns) (numbers_at value rest)) (number_at value field)

abbrev pub is_field : List ℕ → Bool
is_field name = list_any (λ field. bytes_eq name field.name) fields

abbrev pub names_of : Members → List (List ℕ)
names_of no_members = []
names_of (member name value rest) = name ∷ names_of rest

-- the numbers in the order of the names
abbrev pub timing_by : List ℕ → Timing
timing_by ns = record {
  sets = slice_index ns 0;
  ways = slice_index ns 1;
  line = slice_index ns 2;
  miss = slice_index ns 3;
  skipped = slice_index ns 4;
  register = slice_index ns 5;
  classes = drop 6 ns;
}

-- the numbers of a timing, in this order
abbrev pub numbers_of : Timing → List ℕ
numbers_of t = t.sets ∷ t.ways ∷ t.line ∷ t.miss ∷ t.skipped ∷ t.register ∷ t.classes

-- one number for each name, and each one that its name may have
abbrev pub AreAllowed : List Field → List ℕ → Type 0
AreAllowed [] [] = Unit {0}
AreAllowed [] (n ∷ ns) = ⊥
AreAllowed (field ∷ rest) [] = ⊥
AreAllowed (field ∷ rest) (n ∷ ns) = (field.allows n ≡ true) × AreAllowed rest ns

-- an object with exactly these names
abbrev pub timing_in : Data → Option Timing
timing_in value =
    option_and_then
    (λ members. if list_all is_field (names_of members) then option_map timing_by (numbers_at value fields) else None)
    (as_object value)

-- the timing that a file's bytes are: UTF-8 text of a JSON value that is such an object. Of a name that stands
-- twice, the value of a JSON text has the last.
abbrev pub timing_of : List ℕ → Option Timing
timing_of bytes = if is_utf8 bytes then option_and_then timing_in (read bytes) else None
