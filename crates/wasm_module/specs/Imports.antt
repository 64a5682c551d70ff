-- The imports of a module (core specification, 2.5, imports).
use Rattle.std.specs.Prelude.{◌≡◌, ◌≢◌, ◌<◌, ℕ, List, Option, Some, None, IsSome, slice_get, option_and_then}
use Rattle.std.specs.Borrow.{Bor}
use Rattle.std.specs.List.{filter_map}
use Rattle.std.specs.Option.{option_map}
use Rattle.entity_map.specs.Pool.{atom_number}
use Rattle.entity_map.specs.declared.pool.Atom.{Atom}
use Rattle.wasm_types.specs.declared.entity.EntityIndex.{EntityIndex}
use Rattle.wasm_types.specs.declared.entity.EntityType.{EntityType}
use Rattle.wasm_module.specs.declared.initializer.Initializer.{Initializer}
use Rattle.wasm_module.specs.declared.initializer.Initializer.TheVariants as initializer
use Rattle.wasm_module.specs.Record.{ModuleRecord}
use Rattle.wasm_module.specs.Entities.{entity_type, IsImported}

-- the text of an atom, if it is in the pool
abbrev pub text_of : ModuleRecord → Atom → Option (List ℕ)
text_of m atom = slice_get m.strings (atom_number atom)

-- the entity that an import imports
abbrev pub imported_entity : Initializer → EntityIndex
imported_entity (initializer.Import name field index) = index

-- its names are in the pool and the module has its entity
abbrev pub IsResolved : ModuleRecord → Initializer → Type 0
IsResolved m (initializer.Import name field index) = IsSome (text_of m name) × IsSome (text_of m field) × IsSome (entity_type m index)

-- the name of the module that it is imported from, its own name, and its type; none where one of
-- these is missing
abbrev pub import_of : ModuleRecord → Initializer → Option (List ℕ × List ℕ × EntityType)
import_of m (initializer.Import name field index) =
    option_and_then (λ from. option_and_then (λ own. option_map (λ ty. (from, own, ty)) (entity_type m index)) (text_of m field)) (text_of m name)

-- the imports in order
abbrev pub imports_of : ModuleRecord → List Initializer → List (List ℕ × List ℕ × EntityType)
imports_of m initializers = filter_map (import_of m) initializers

-- an import as it is borrowed
abbrev pub lent_import : Bor (List ℕ) × Bor (List ℕ) × EntityType → List ℕ × List ℕ × EntityType
lent_import import = (import.0.now, import.1.now, import.2)

-- the entity that the import at a position imports, if there is one
abbrev pub entity_at : ModuleRecord → ℕ → Option EntityIndex
entity_at m at = option_map imported_entity (slice_get m.initializers at)

-- the position holds the first import of the entity; without a position there is no such import
abbrev pub IsFirstImport : ModuleRecord → EntityIndex → Option ℕ → Type 0
IsFirstImport m e (Some at) = IsImported m e × (entity_at m at ≡ Some e) × ((before : ℕ) → before < at → entity_at m before ≢ Some e)
IsFirstImport m e None = IsImported m e → (at : ℕ) → entity_at m at ≢ Some e
