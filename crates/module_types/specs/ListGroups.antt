-- An interned list as a list of groups, whose references are positions in it.
use Rattle.std.specs.Prelude.{◌≡◌, ◌↔◌, ◌<◌, ◌≤◌, ℕ, ◌-◌, List, length, get_or, take, drop, map}
use Rattle.wasm_spec.specs.TypeData.{Group, map_group}
use Rattle.type_spec.specs.Names.{NameKind, Named, named, index_of as index_in}
use Rattle.type_spec.specs.Equality.{Home, SameType}
use Rattle.type_spec.specs.Interned.{Interned, GroupSpan, Built, kind_of_type, composite_at}
use Rattle.type_spec.specs.Taken.{NameEarlier}
use Rattle.wasm_index.specs.declared.index.Index.{Index}
use Rattle.wasm_index.specs.declared.spaces.VMSharedTypeSpace.{VMSharedTypeSpace}
use Rattle.wasm_index.specs.declared.spaces.ModuleInternedTypeSpace.{ModuleInternedTypeSpace}
use Rattle.wasm_index.specs.Index.{index_of}
use Rattle.wasm_types.specs.declared.sub.WasmRecGroup.{WasmRecGroup}
use Rattle.wasm_types.specs.TypeViews.{group_of}
use Rattle.wasm_trace.specs.Canonical.{consed_edge}
use Rattle.module_types.specs.Views.{index_at}
use Rattle.module_types.specs.Orderly.{IsOrderly}
use Rattle.module_types.specs.Conversion.{no_span}

-- types without the kinds of what they name
abbrev pub unkinded : List Interned → Group ℕ ℕ
unkinded ts = map_group (index_in {R = ℕ}) (λ (r : ℕ). r) ts

-- the types of a span
abbrev pub types_in : List Interned → GroupSpan → List Interned
types_in ts s = take (s.end - s.start) (drop s.start ts)

abbrev pub home_of : List Interned → GroupSpan → Home
home_of ts s = record { start = s.start; members = unkinded (types_in ts s) }

-- the group with an index, and where it is
abbrev pub span_at : Built → ℕ → GroupSpan
span_at b k = get_or b.groups k no_span

abbrev pub group_at : Built → ℕ → Home
group_at b k = home_of b.types (span_at b k)

abbrev pub list_groups : Built → List (Group ℕ ℕ)
list_groups b = map (λ (s : GroupSpan). unkinded (types_in b.types s)) b.groups

-- the kind of the type at an index
abbrev pub kind_in : List Interned → ℕ → NameKind
kind_in ts i = kind_of_type (composite_at ts i)

-- what the type at an index is named by
abbrev pub name_in : List Interned → ℕ → Named ℕ
name_in ts i = record { kind = kind_in ts i; index = i }

-- the groups are consecutive; each reference names a type of its own group or of an earlier one, by
-- its kind
pub record IsWellNamed (b : Built) : Type 0 where
  pub orderly : IsOrderly b
  pub earlier : NameEarlier 0 (list_groups b)
  pub kinds : map_group (name_in b.types) (λ (r : ℕ). r) (unkinded b.types) ≡ b.types

-- ---- canonical forms

-- an engine's index of each type of a module
abbrev pub EngineMap : Type 0
EngineMap = Index ModuleInternedTypeSpace → Index VMSharedTypeSpace

-- the engine's indices of two lists' types are equal exactly where the types are
abbrev pub TellTypes : Built → Built → EngineMap → EngineMap → Type 0
TellTypes b b' engine engine' = (i j : ℕ) → i < length b.types → j < length b'.types
    → (engine (index_of i) ≡ engine' (index_of j)) ↔ SameType (list_groups b) (list_groups b') i j

-- the same for the types before two positions
abbrev pub TellTypesBefore : Built → Built → EngineMap → EngineMap → ℕ → ℕ → Type 0
TellTypesBefore b b' engine engine' start start' = (i j : ℕ) → i < start → j < start'
    → (engine (index_of i) ≡ engine' (index_of j)) ↔ SameType (list_groups b) (list_groups b') i j

-- the group with an index, and what it is rewritten to over its own range
pub record IsCompared (b : Built) (engine : EngineMap) (k : ℕ) (old new : WasmRecGroup) : Type 0 where
  pub within : k < length b.groups
  pub stands : group_of old ≡ map_group (named index_at) index_at (types_in b.types (span_at b k))
  pub mapped : group_of new ≡ map_group (named (consed_edge engine (span_at b k).start)) (consed_edge engine (span_at b k).start) (group_of old)

-- types of two lists have one engine's index exactly where they are at one position of one
-- canonical group
abbrev pub OneIndex : Built → Built → EngineMap → EngineMap → (ℕ → WasmRecGroup) → (ℕ → WasmRecGroup) → Type 0
OneIndex b b' engine engine' forms forms' = (k l i j : ℕ) → k < length b.groups → l < length b'.groups
    → (span_at b k).start ≤ i → i < (span_at b k).end → (span_at b' l).start ≤ j → j < (span_at b' l).end
    → (engine (index_of i) ≡ engine' (index_of j)) ↔ ((i - (span_at b k).start ≡ j - (span_at b' l).start) × (forms k ≡ forms' l))

-- each group, and the canonical group that it becomes
abbrev pub AreCompared : Built → EngineMap → (ℕ → WasmRecGroup) → (ℕ → WasmRecGroup) → Type 0
AreCompared b engine olds forms = (k : ℕ) → k < length b.groups → IsCompared b engine k (olds k) (forms k)
