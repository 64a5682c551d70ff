-- Indices of exports, of the start function and of segments (core specification, 3.5).
use Rattle.std.specs.Prelude.{◌≡◌, ℕ, ◌<◌, [], length, All, IsSomeAnd, Option, slice_get, unwrap_or}
use Rattle.std.specs.Option.{option_and_then}
use Rattle.wasm_spec.specs.declared.entities.ExternalKind.{ExternalKind}
use Rattle.wasm_spec.specs.declared.entities.ExternalKind.TheVariants as kind
use Rattle.wasm_spec.specs.declared.types.UnpackedIndex.{UnpackedIndex}
use Rattle.wasm_spec.specs.TypeData.{Composite, Func}
use Rattle.wasm_spec.specs.Module.{Export, ElementKind, ActiveElement, ElementItems, Functions, Expressions, Element, DataKind, Passive, Active}
use Rattle.rule_spec.specs.Lists.{Lists, kind_at}

-- how many entries the index space of a kind has (2.5, indices)
abbrev pub space_size : Lists → ExternalKind → ℕ
space_size l kind.Func = length l.functions
space_size l kind.Table = length l.table_types
space_size l kind.Memory = length l.memories
space_size l kind.Global = length l.global_types
space_size l kind.Tag = length l.tags

-- an export names an entry of its index space (3.5, exports)
abbrev pub IsInSpace : Lists → Export → Type 0
IsInSpace l e = e.index < space_size l e.kind

-- a function type without parameters and results
abbrev pub TakesAndGivesNothing : Composite UnpackedIndex UnpackedIndex → Type 0
TakesAndGivesNothing (Func type) = (type.params ≡ []) × (type.results ≡ [])
TakesAndGivesNothing _ = ⊥

-- the kind of the type of a function, where both exist
abbrev pub kind_of_function : Lists → ℕ → Option (Composite UnpackedIndex UnpackedIndex)
kind_of_function l f = option_and_then (kind_at l) (slice_get l.functions f)

-- the function exists, and its type has no parameters and no results (3.5, start function)
abbrev pub CanStart : Lists → ℕ → Type 0
CanStart l f = IsSomeAnd (kind_of_function l f) TakesAndGivesNothing

-- a data segment that is written when the module is instantiated names a memory that exists (3.5,
-- data segments)
abbrev pub NamesMemory : Lists → DataKind → Type 0
NamesMemory l Passive = Unit {0}
NamesMemory l (Active memory offset) = memory < length l.memories

-- an element segment that is written names a table that exists; without an index it is table 0
-- (3.5, element segments)
abbrev pub NamesTable : Lists → ElementKind → Type 0
NamesTable l (ActiveElement table offset) = unwrap_or table 0 < length l.table_types
NamesTable l _ = Unit {0}

-- function items name functions that exist (3.5, element segments)
abbrev pub NamesFunctions : Lists → ElementItems → Type 0
NamesFunctions l (Functions indices) = All (λ f. f < length l.functions) indices
NamesFunctions l (Expressions type items) = Unit {0}

pub record IsElementInRange (l : Lists) (e : Element) : Type 0 where
  pub table : NamesTable l e.kind
  pub items : NamesFunctions l e.items
