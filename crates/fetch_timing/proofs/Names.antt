-- The names of an object that was read.
use Rattle.std.proofs.Common.{◌≡◌, ℕ, ◌&&◌, List, [], ◌∷◌, true, false, Some, None, String, Global, codes, string_bytes, refl, sym, ap}
use Rattle.std.specs.List.{list_all}
use Rattle.std.specs.Map.{keys_of}
use Rattle.serde_json.specs.Data.{Data}
use Rattle.serde_json.specs.Find.{as_object}
use Rattle.serde_json.specs.View.{members_view}
use Rattle.serde_json.proofs.Views.{Entry}
use Rattle.fetch_timing.specs.TimingFiles.{class_fields, cycles, is_field, line_sizes, names_of, number_at, numbers_at, set_counts, timing_in, way_counts}

-- the keys of the members are the names
pub same_names : (es : List Entry) → list_all (λ (k : String Global). is_field (string_bytes k)) (keys_of es) ≡ list_all is_field (names_of (members_view es))
same_names [] = refl
same_names (e ∷ es) = ap (λ b. is_field (string_bytes e.0) && b) (same_names es)

-- an object with another name
pub other_name : (v : Data) (es : List Entry) → Some (members_view es) ≡ as_object v → list_all (λ (k : String Global). is_field (string_bytes k)) (keys_of es) ≡ false → None ≡ timing_in v
other_name v es object others = rw (sym object, sym (same_names es), others) refl

-- an object with all the names and no other
pub all_names : (v : Data) (es : List Entry) (sets ways line miss skipped register : ℕ) (classes : List ℕ)
    → Some (members_view es) ≡ as_object v → list_all (λ (k : String Global). is_field (string_bytes k)) (keys_of es) ≡ true
    → Some sets ≡ number_at v (record { name = codes "sets"; allows = set_counts })
    → Some ways ≡ number_at v (record { name = codes "ways"; allows = way_counts })
    → Some line ≡ number_at v (record { name = codes "line"; allows = line_sizes })
    → Some miss ≡ number_at v (record { name = codes "miss"; allows = cycles })
    → Some skipped ≡ number_at v (record { name = codes "skipped"; allows = cycles })
    → Some register ≡ number_at v (record { name = codes "register"; allows = cycles })
    → Some classes ≡ numbers_at v class_fields
    → Some (record { sets = sets; ways = ways; line = line; miss = miss; skipped = skipped; register = register; classes = classes }) ≡ timing_in v
all_names v es sets ways line miss skipped register classes object known a b c d e f g =
    rw (sym object, sym (same_names es), known, sym a, sym b, sym c, sym d, sym e, sym f, sym g) refl
