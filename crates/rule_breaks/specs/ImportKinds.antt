-- Imports by the kinds of index spaces.
use Rattle.std.specs.Prelude.{◌≡◌, ◌⊎◌, ℕ, ◌+◌, Bool, true, false, List, length, take, filter, Some, slice_get}
use Rattle.wasm_spec.specs.declared.entities.TypeRef.{TypeRef}
use Rattle.wasm_spec.specs.declared.entities.TypeRef.TheVariants as imported
use Rattle.wasm_spec.specs.declared.entities.ExternalKind.{ExternalKind}
use Rattle.wasm_spec.specs.declared.entities.ExternalKind.TheVariants as external
use Rattle.wasm_spec.specs.Module.{Import}
use Rattle.refusal_place.specs.declared.kind.SectionKind.{SectionKind}
use Rattle.refusal_place.specs.declared.kind.SectionKind.TheVariants as kind

-- what is imported is of this kind
abbrev pub is_import_of : ExternalKind → TypeRef → Bool
is_import_of external.Func (imported.Func type) = true
is_import_of external.Table (imported.Table type) = true
is_import_of external.Memory (imported.Memory type) = true
is_import_of external.Global (imported.Global type) = true
is_import_of external.Tag (imported.Tag type) = true
is_import_of _ _ = false

-- how many of the imports are of this kind
abbrev pub imported_count : ExternalKind → List Import → ℕ
imported_count k imports = length (filter (λ i. is_import_of k i.type) imports)

-- the import is of the kind, and so many of the kind stand before it
pub record IsImport (k : ExternalKind) (imports : List Import) (index entry : ℕ) : Type 0 where
  pub import : Import
  pub stands : slice_get imports entry ≡ Some import
  pub is_of_kind : is_import_of k import.type ≡ true
  pub before : imported_count k (take entry imports) ≡ index

-- the entry is that import, or the entry of the section that defines the others
abbrev pub IsIndexed : ExternalKind → SectionKind → List Import → ℕ → SectionKind → ℕ → Type 0
IsIndexed k defining imports index section entry =
    ((section ≡ kind.Import) × IsImport k imports index entry)
    ⊎ ((section ≡ defining) × (imported_count k imports + entry ≡ index))
