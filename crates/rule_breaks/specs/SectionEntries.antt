-- Which entry of a section has an entry of a list, and where it begins (core specification, 2.5,
-- indices, and 5.5, sections).
use Rattle.std.specs.Prelude.{◌≡◌, ◌⊎◌, ℕ, ◌+◌, ◌<◌, ◌≤◌, List, length, take, Option, Some, slice_get}
use Rattle.std.specs.List.{flat_map, filter_map}
use Rattle.wasm_spec.specs.declared.entities.TypeRef.{TypeRef}
use Rattle.wasm_spec.specs.declared.types.UnpackedIndex.{UnpackedIndex}
use Rattle.wasm_spec.specs.TypeData.{Group}
use Rattle.wasm_spec.specs.Module as plain
use Rattle.wasm_spec.specs.Module.{Import, Module, imported_of}
use Rattle.refusal_place.specs.declared.kind.SectionKind.{SectionKind}
use Rattle.refusal_place.specs.declared.kind.SectionKind.TheVariants as kind
use Rattle.refusal_place.specs.Entries.{IsEntryAt}
use Rattle.refusal_place.specs.Contents.{AreContentsAt}
use Rattle.rule_breaks.specs.declared.lists.ModuleList.{ModuleList}
use Rattle.rule_breaks.specs.declared.lists.ModuleList.TheVariants as list

-- ---- recursion groups

-- how many types the groups before this one have
abbrev pub types_before : List (Group UnpackedIndex UnpackedIndex) → ℕ → ℕ
types_before groups entry = length (flat_map (λ group. group) (take entry groups))

-- the group has the type with this index
pub record IsGroupOf (groups : List (Group UnpackedIndex UnpackedIndex)) (index entry : ℕ) : Type 0 where
  pub begins : types_before groups entry ≤ index
  pub ends : index < types_before groups (entry + 1)

-- ---- index spaces

-- the import is of the kind, and so many imports of the kind stand before it
pub record IsImportOf {A : Type 0} (of : TypeRef → Option A) (imports : List Import) (index entry : ℕ) : Type 0 where
  pub import : Import
  pub imported : A
  pub stands : slice_get imports entry ≡ Some import
  pub is_of_kind : of import.type ≡ Some imported
  pub before : length (filter_map (λ i. of i.type) (take entry imports)) ≡ index

-- the entry is that import, or, past the imports of the kind, the entry of the section that defines
-- the others
abbrev pub IsInIndexSpace : {A : Type 0} → (TypeRef → Option A) → SectionKind → Module → ℕ → SectionKind → ℕ → Type 0
IsInIndexSpace of defining m index section entry =
    ((index < length (imported_of of m)) × (section ≡ kind.Import) × IsImportOf of (plain.imports m) index entry)
    ⊎ ((section ≡ defining) × (length (imported_of of m) + entry ≡ index))

-- ---- lists

-- the entry of a list is this entry of a section; start and data count sections have one number
abbrev pub IsEntryOf : Module → ModuleList → ℕ → SectionKind → ℕ → Type 0
IsEntryOf m list.Types n section entry = (section ≡ kind.Type) × IsGroupOf (plain.groups m) n entry
IsEntryOf m list.Functions n section entry = IsInIndexSpace plain.function_import kind.Function m n section entry
IsEntryOf m list.TableTypes n section entry = IsInIndexSpace plain.table_import kind.Table m n section entry
IsEntryOf m list.Memories n section entry = IsInIndexSpace plain.memory_import kind.Memory m n section entry
IsEntryOf m list.Tags n section entry = IsInIndexSpace plain.tag_import kind.Tag m n section entry
IsEntryOf m list.Imports n section entry = (section ≡ kind.Import) × (entry ≡ n)
IsEntryOf m list.Tables n section entry = (section ≡ kind.Table) × (entry ≡ n)
IsEntryOf m list.Globals n section entry = (section ≡ kind.Global) × (entry ≡ n)
IsEntryOf m list.Exports n section entry = (section ≡ kind.Export) × (entry ≡ n)
IsEntryOf m list.Starts n section entry = (section ≡ kind.Start) × (entry ≡ 0)
IsEntryOf m list.Elements n section entry = (section ≡ kind.Element) × (entry ≡ n)
IsEntryOf m list.DataCounts n section entry = (section ≡ kind.DataCount) × (entry ≡ 0)
IsEntryOf m list.Bodies n section entry = (section ≡ kind.Code) × (entry ≡ n)
IsEntryOf m list.Segments n section entry = (section ≡ kind.Data) × (entry ≡ n)

-- ---- bytes

-- the entry of the section begins at this byte; what start and data count sections have is one
-- number, which begins with the contents
abbrev pub BeginsAt : List ℕ → SectionKind → ℕ → ℕ → Type 0
BeginsAt bytes kind.Start entry byte = AreContentsAt bytes kind.Start byte
BeginsAt bytes kind.DataCount entry byte = AreContentsAt bytes kind.DataCount byte
BeginsAt bytes section entry byte = IsEntryAt bytes section entry byte
