-- How definitions are kept: in a map by their names, each with its number.
use Rattle.std.specs.Prelude.{◌≡◌, ◌<◌, ℕ, Bool, nat_le, nat_lt, List, [], ◌∷◌, length, map, All, if◌then◌else◌}
use Rattle.std.specs.BTreeMap.{is_at}
use Rattle.std.specs.Map.{lookup}
use Rattle.wasm_types.specs.declared.entity.EntityType.{EntityType}
use Rattle.import_match.specs.declared.names.DefinitionNames.{DefinitionNames}
use Rattle.import_match.specs.contracts.names.DefinitionNamesOrd.TheImpl as ordered
use Rattle.import_match.specs.Definitions.{Definition, names_of, found, AreOnce}

-- a definition that is to be appended
abbrev pub definition_of : DefinitionNames × EntityType → Definition
definition_of d = (names_of d.0, d.1)

-- an entry of the map: the names of a definition, its number and its type
abbrev pub MapEntry : Type 0
MapEntry = DefinitionNames × (ℕ × EntityType)

abbrev pub entry_definition : MapEntry → Definition
entry_definition e = (names_of e.0, e.1.1)

-- an entry goes before the first whose number is no smaller
abbrev pub put : MapEntry → List MapEntry → List MapEntry
put e [] = e ∷ []
put e (x ∷ xs) = if nat_le e.1.0 x.1.0 then e ∷ x ∷ xs else x ∷ put e xs

abbrev pub by_number : List MapEntry → List MapEntry
by_number [] = []
by_number (e ∷ es) = put e (by_number es)

-- the definitions of a map, in the order of their numbers
abbrev pub in_order : List MapEntry → List Definition
in_order es = map entry_definition (by_number es)

-- the number of an entry is below another
abbrev pub is_below : ℕ → MapEntry → Bool
is_below n e = nat_lt e.1.0 n

-- a map finds under two names what its definitions in order have there; no two are under the same
-- names, and their numbers are below the count
pub record DefinitionsAreKept (es : List MapEntry) : Type 0 where
  pub numbers : All (λ (e : MapEntry). e.1.0 < length es) es
  pub finds : (n : DefinitionNames) → lookup (is_at (ordered.ghosts.cmp n)) es ≡ found (in_order es) (names_of n)
  pub once : AreOnce (in_order es)
