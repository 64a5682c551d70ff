-- Definitions in order, each under two names. An import has two names and a type, and needs a
-- definition with the same names.
use Rattle.std.specs.Prelude.{◌≡◌, ℕ, ◌+◌, Bool, ◌&&◌, List, [], ◌∷◌, Option, Some, None, IsSome, slice_get, if◌then◌else◌}
use Rattle.std.specs.Str.{bytes_eq}
use Rattle.std.specs.String.{string_bytes}
use Rattle.wasm_types.specs.declared.entity.EntityType.{EntityType}
use Rattle.import_match.specs.declared.names.DefinitionNames.{DefinitionNames}

-- the name of a module, and the name of an entity there
abbrev pub TwoNames : Type 0
TwoNames = List ℕ × List ℕ

-- the type of an entity under two names
abbrev pub Definition : Type 0
Definition = TwoNames × EntityType

abbrev pub names_of : DefinitionNames → TwoNames
names_of n = (string_bytes n.from, string_bytes n.own)

abbrev pub names_eq : TwoNames → TwoNames → Bool
names_eq a b = bytes_eq a.0 b.0 && bytes_eq a.1 b.1

-- the first definition under two names: its number, from one on, and its type
abbrev pub found_from : ℕ → List Definition → TwoNames → Option (ℕ × EntityType)
found_from k [] names = None
found_from k (d ∷ ds) names = if names_eq names d.0 then Some (k, d.1) else found_from (k + 1) ds names

abbrev pub found : List Definition → TwoNames → Option (ℕ × EntityType)
found ds names = found_from 0 ds names

abbrev pub IsDefined : List Definition → TwoNames → Type 0
IsDefined ds names = IsSome (found ds names)

-- no two definitions are under the same two names
abbrev pub AreOnce : List Definition → Type 0
AreOnce ds = (i j : ℕ) (d e : Definition) → slice_get ds i ≡ Some d → slice_get ds j ≡ Some e → d.0 ≡ e.0 → i ≡ j
