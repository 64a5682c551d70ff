-- What is wrong with an entry that breaks a rule, with the numbers that were found.
use Rattle.std.specs.Prelude.{◌≡◌, ◌≢◌, ◌⊎◌, ℕ, ◌+◌, ◌*◌, ◌^◌, ◌<◌, ◌≤◌, false, List, length, Contains, None, Some, IsTrue, IsSomeAnd, slice_get}
use Rattle.wasm_spec.specs.declared.entities.ExternalKind.{ExternalKind}
use Rattle.wasm_spec.specs.declared.entities.ExternalKind.TheVariants as kind
use Rattle.wasm_spec.specs.declared.entities.MemoryType.{MemoryType}
use Rattle.wasm_spec.specs.declared.entities.TableType.{TableType}
use Rattle.wasm_spec.specs.declared.types.UnpackedIndex.{UnpackedIndex}
use Rattle.wasm_spec.specs.declared.types.UnpackedIndex.TheVariants.{Module}
use Rattle.wasm_spec.specs.Sizes.{page_log2}
use Rattle.wasm_spec.specs.TypeData.{Cont, composite_edges, sub_type_edges}
use Rattle.wasm_spec.specs.Module.{Import, TableDef, GlobalDef, Export, ElementItems, Functions, Expressions, Element, Body, DataKind, Segment}
use Rattle.rule_spec.specs.declared.classes.Class.TheVariants as class
use Rattle.rule_spec.specs.declared.rules.Rule.{Rule}
use Rattle.rule_spec.specs.declared.rules.Rule.TheVariants as rule
use Rattle.rule_spec.specs.Lists.{Lists, Declared}
use Rattle.rule_spec.specs.TypeRules.{NamesFunctionType}
use Rattle.rule_spec.specs.Limits.{address_space}
use Rattle.rule_spec.specs.Indices.{CanStart}
use Rattle.rule_spec.specs.Typing.{HasClass}
use Rattle.rule_spec.specs.Expressions.{HasTypedInitialiser, HasTableOffset, HasMemoryOffset}
use Rattle.rule_spec.specs.Rules.{locals}
use Rattle.form_rules.specs.Globals.{IsGlobalTyped}
use Rattle.rule_breaks.specs.declared.lists.ModuleList.{ModuleList}
use Rattle.rule_breaks.specs.declared.lists.ModuleList.TheVariants as list
use Rattle.rule_breaks.specs.declared.fault.IndexSpace.{IndexSpace}
use Rattle.rule_breaks.specs.declared.fault.IndexSpace.TheVariants as space
use Rattle.rule_breaks.specs.declared.fault.ExpressionPlace.TheVariants as place
use Rattle.rule_breaks.specs.declared.fault.RuleFault.{RuleFault}
use Rattle.rule_breaks.specs.declared.fault.RuleFault.TheVariants as fault
use Rattle.rule_breaks.specs.Named.{import_types, table_types, global_types, element_types, body_types, segment_types, element_indices, memory_indices}

-- the list has an entry with this index, and the property holds of it
abbrev pub At : {A : Type 0} → List A → ℕ → (A → Type 0) → Type 0
At xs n P = IsSomeAnd (slice_get xs n) P

-- ---- index spaces

-- how many entries an index space has (2.5, indices)
abbrev pub size : Lists → IndexSpace → ℕ
size l space.Types = length l.types
size l space.Functions = length l.functions
size l space.Tables = length l.table_types
size l space.Memories = length l.memories
size l space.Globals = length l.global_types
size l space.Tags = length l.tags

abbrev pub space_of : ExternalKind → IndexSpace
space_of kind.Func = space.Functions
space_of kind.Table = space.Tables
space_of kind.Memory = space.Memories
space_of kind.Global = space.Globals
space_of kind.Tag = space.Tags

-- the space has `count` entries, and none with this index
abbrev pub IsPast : Lists → IndexSpace → ℕ → ℕ → Type 0
IsPast l s index count = (count ≡ size l s) × (count ≤ index)

-- ---- types

-- of so many types none has the index
abbrev pub IsNoType : ℕ → UnpackedIndex → RuleFault → Type 0
IsNoType types (Module i) (fault.NoSuchEntry space.Types index count) = (index ≡ i) × (count ≡ types) × (count ≤ index)
IsNoType types (Module i) _ = ⊥
IsNoType types _ fault.ForeignIndex = Unit {0}
IsNoType types _ _ = ⊥

-- one of the type indices that are named names no type
abbrev pub IsTypeFault : Lists → List UnpackedIndex → RuleFault → Type 0
IsTypeFault l named f = (i : UnpackedIndex) × Contains named i × IsNoType (length l.types) i f

-- a type names a type past its own group, or its supertype is not before it, or it is a
-- continuation of no function type
abbrev pub IsDeclaredFault : Lists → Declared → RuleFault → Type 0
IsDeclaredFault l d (fault.NoEarlierType index bound) = (bound ≤ index) × (
    (Contains (composite_edges (λ i. i) d.type.composite.inner) (Module index) × (bound ≡ d.group_end))
    ⊎ ((d.type.supertype ≡ Some (Module index)) × (bound ≡ d.index)))
IsDeclaredFault l d (fault.NotAFunctionType index) =
    (d.type.composite.inner ≡ Cont (Module index)) × (index < length l.types) × ¬ NamesFunctionType l index
IsDeclaredFault l d f = IsTypeFault l (sub_type_edges (λ i. i) d.type) f

-- a function, tag or start function has a type index that names no type, or no function type
abbrev pub IsFunctionTypeFault : Lists → ℕ → RuleFault → Type 0
IsFunctionTypeFault l type (fault.NoSuchEntry space.Types index count) = (index ≡ type) × IsPast l space.Types index count
IsFunctionTypeFault l type (fault.NotAFunctionType index) = (index ≡ type) × (index < length l.types) × ¬ NamesFunctionType l index
IsFunctionTypeFault l type _ = ⊥

-- ---- counts and limits

abbrev pub IsBodyCountFault : Lists → RuleFault → Type 0
IsBodyCountFault l (fault.BodyCount functions bodies) =
    (length l.functions ≡ l.imported_functions + functions) × (bodies ≡ length l.bodies) × (functions ≢ bodies)
IsBodyCountFault l _ = ⊥

abbrev pub IsDataCountFault : Lists → ℕ → RuleFault → Type 0
IsDataCountFault l found (fault.DataCount stated segments) = (stated ≡ found) × (segments ≡ length l.segments) × (stated ≢ segments)
IsDataCountFault l found _ = ⊥

abbrev pub IsTableTypeFault : TableType → RuleFault → Type 0
IsTableTypeFault t (fault.MaximumBelowMinimum minimum maximum) = (minimum ≡ t.initial) × (t.maximum ≡ Some maximum) × (maximum < minimum)
IsTableTypeFault t _ = ⊥

abbrev pub IsMemoryFault : MemoryType → RuleFault → Type 0
IsMemoryFault t (fault.MaximumBelowMinimum minimum maximum) = (minimum ≡ t.initial) × (t.maximum ≡ Some maximum) × (maximum < minimum)
IsMemoryFault t (fault.PageSize log2) = (t.page_size_log2 ≡ Some log2) × (log2 ≢ 0) × (log2 ≢ 16)
IsMemoryFault t (fault.ManyPages pages log2 bits) =
    ((pages ≡ t.initial) ⊎ (t.maximum ≡ Some pages)) × (log2 ≡ page_log2 t) × (2 ^ bits ≡ address_space t) × (2 ^ bits < pages * 2 ^ log2)
IsMemoryFault t fault.SharedWithoutMaximum = IsTrue t.shared × (t.maximum ≡ None)
IsMemoryFault t _ = ⊥

-- ---- entries of sections

abbrev pub IsFunctionFault : Rule → Lists → ℕ → RuleFault → Type 0
IsFunctionFault rule.L2 l type f = IsFunctionTypeFault l type f
IsFunctionFault rule.L3 l type f = IsBodyCountFault l f
IsFunctionFault _ _ _ _ = ⊥

abbrev pub IsBodyFault : Rule → Lists → Body → RuleFault → Type 0
IsBodyFault rule.L3 l b (fault.ManyLocals n) = (n ≡ locals b) × (4294967295 < n)
IsBodyFault rule.L3 l b f = IsBodyCountFault l f
IsBodyFault rule.L10 l b f = IsTypeFault l (body_types b) f
IsBodyFault _ _ _ _ = ⊥

abbrev pub IsTableFault : Rule → Lists → TableDef → RuleFault → Type 0
IsTableFault rule.L5 l t fault.NotInitialised = (t.type.element_type.nullable ≡ false) × (t.init ≡ None)
IsTableFault rule.L6 l t (fault.Mistyped place.Initialiser) = ¬ HasTypedInitialiser l t
IsTableFault rule.L10 l t f = IsTypeFault l (table_types t) f
IsTableFault _ _ _ _ = ⊥

abbrev pub IsGlobalFault : Rule → Lists → ℕ → GlobalDef → RuleFault → Type 0
IsGlobalFault rule.L6 l index g (fault.Mistyped place.Initialiser) = ¬ IsGlobalTyped l index g
IsGlobalFault rule.L10 l index g f = IsTypeFault l (global_types g) f
IsGlobalFault _ _ _ _ _ = ⊥

abbrev pub IsItemMistyped : Lists → ElementItems → ℕ → Type 0
IsItemMistyped l (Functions indices) i = ⊥
IsItemMistyped l (Expressions type items) i = At items i (λ e. ¬ HasClass l l.global_types e class.Ref)

abbrev pub IsElementFault : Rule → Lists → Element → RuleFault → Type 0
IsElementFault rule.L6 l e (fault.Mistyped place.Offset) = ¬ HasTableOffset l e.kind
IsElementFault rule.L6 l e (fault.Mistyped (place.Item i)) = IsItemMistyped l e.items i
IsElementFault rule.L9 l e (fault.NoSuchEntry s index count) = Contains (element_indices e s) index × IsPast l s index count
IsElementFault rule.L10 l e f = IsTypeFault l (element_types e) f
IsElementFault _ _ _ _ = ⊥

-- a data segment names a memory that does not exist
abbrev pub IsMemoryIndexFault : Lists → DataKind → RuleFault → Type 0
IsMemoryIndexFault l k (fault.NoSuchEntry space.Memories index count) = Contains (memory_indices k) index × IsPast l space.Memories index count
IsMemoryIndexFault l k _ = ⊥

abbrev pub IsSegmentFault : Rule → Lists → Segment → RuleFault → Type 0
IsSegmentFault rule.L6 l s (fault.Mistyped place.Offset) = ¬ HasMemoryOffset l s.kind
IsSegmentFault rule.L9 l s f = IsMemoryIndexFault l s.kind f
IsSegmentFault rule.L10 l s f = IsTypeFault l (segment_types s.kind) f
IsSegmentFault _ _ _ _ = ⊥

-- the export that has this number names no entry, or its name is that of an earlier export
abbrev pub IsExportFault : Lists → ℕ → Export → RuleFault → Type 0
IsExportFault l n e (fault.NoSuchEntry s index count) = (s ≡ space_of e.kind) × (index ≡ e.index) × IsPast l s index count
IsExportFault l n e (fault.RepeatedName earlier) = (earlier < n) × At l.exports earlier (λ (x : Export). x.name ≡ e.name)
IsExportFault l n e _ = ⊥

abbrev pub IsStartFault : Lists → ℕ → RuleFault → Type 0
IsStartFault l start (fault.NoSuchEntry space.Functions index count) = (index ≡ start) × IsPast l space.Functions index count
IsStartFault l start (fault.StartType function) = (function ≡ start) × At l.functions start (NamesFunctionType l) × ¬ CanStart l start
IsStartFault l start f = At l.functions start (λ type. IsFunctionTypeFault l type f)

-- ---- rules

-- the fault of an entry that breaks the rule
abbrev pub IsFaultOf : Rule → Lists → ModuleList → ℕ → RuleFault → Type 0
IsFaultOf r l list.Types n f = At l.types n (λ d. IsDeclaredFault l d f)
IsFaultOf r l list.Functions n f = At l.functions n (λ type. IsFunctionFault r l type f)
IsFaultOf r l list.TableTypes n f = At l.table_types n (λ t. IsTableTypeFault t f)
IsFaultOf r l list.Memories n f = At l.memories n (λ t. IsMemoryFault t f)
IsFaultOf r l list.Tags n f = At l.tags n (λ type. IsFunctionTypeFault l type f)
IsFaultOf r l list.Imports n f = At l.imports n (λ (i : Import). IsTypeFault l (import_types i.type) f)
IsFaultOf r l list.Tables n f = At l.tables n (λ t. IsTableFault r l t f)
IsFaultOf r l list.Globals n f = At l.globals n (λ g. IsGlobalFault r l (l.imported_globals + n) g f)
IsFaultOf r l list.Exports n f = At l.exports n (λ e. IsExportFault l n e f)
IsFaultOf r l list.Starts n f = At l.starts n (λ start. IsStartFault l start f)
IsFaultOf r l list.Elements n f = At l.elements n (λ e. IsElementFault r l e f)
IsFaultOf r l list.DataCounts n f = At l.data_counts n (λ stated. IsDataCountFault l stated f)
IsFaultOf r l list.Bodies n f = At l.bodies n (λ b. IsBodyFault r l b f)
IsFaultOf r l list.Segments n f = At l.segments n (λ s. IsSegmentFault r l s f)
