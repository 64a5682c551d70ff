-- When segments can be converted, and what the element segments of a module become.
use Rattle.std.specs.Prelude.{◌≡◌, ℕ, ◌+◌, ◌<◌, ◌^◌, List, ◌++◌, length, map, slice_get, All, None, unwrap_or}
use Rattle.std.specs.Option.{option_map}
use Rattle.entity_map.specs.Secondary.{value_at}
use Rattle.wasm_spec.specs.declared.types.UnpackedIndex.{UnpackedIndex}
use Rattle.wasm_spec.specs.Module.{Expression, ElementItems, Functions, Expressions, ElementKind, ActiveElement, Element, DataKind, Passive, Active, Segment}
use Rattle.wasm_spec.specs.TypeData.{reference_of, reference_edges}
use Rattle.wasm_index.specs.Index.{number_of}
use Rattle.wasm_convert.specs.Conversion.{LookUp}
use Rattle.wasm_convert.specs.Known.{Known}
use Rattle.wasm_convert.specs.Operators.{KnowsOperator}
use Rattle.wasm_module.specs.Elements.{element_type, element_count}
use Rattle.module_sections.specs.declared.elements.ElementSegments.{ElementSegments}
use Rattle.module_sections.specs.Convertible.{IsConvertible}
use Rattle.module_sections.specs.Initialisers.{active_items, view_segment, passive_items, view_items, passive_numbers}

-- over the indices that an environment knows
module _ (known : UnpackedIndex → Type 0) where
  -- an offset can be converted: it has an operator, and what its operators name is known
  pub record IsOffset (e : Expression) : Type 0 where
    pub some : 0 < length e
    pub operators : All (KnowsOperator known) e

  -- the memory of an active data segment has an index
  abbrev pub IsDataConvertible : DataKind → Type 0
  IsDataConvertible Passive = Unit {0}
  IsDataConvertible (Active memory offset) = (memory < 4294967295) × IsOffset offset

  abbrev pub AreDataConvertible : List Segment → Type 0
  AreDataConvertible segments = All (λ s. IsDataConvertible s.kind) segments

  -- the table of an active element segment has an index
  abbrev pub IsKindConvertible : ElementKind → Type 0
  IsKindConvertible (ActiveElement table offset) = (unwrap_or table 0 < 4294967295) × IsOffset offset
  IsKindConvertible _ = Unit {0}

  -- each function is below the number of functions
  abbrev pub AreItemsConvertible : ℕ → ElementItems → Type 0
  AreItemsConvertible functions (Functions indices) = All (λ f. (f < functions) × (f < 4294967295)) indices
  AreItemsConvertible functions (Expressions type items) =
      Known known (reference_edges (λ i. i) (reference_of type)) × All (IsConvertible known functions) items

  pub record IsElementConvertible (functions : ℕ) (e : Element) : Type 0 where
    pub kind : IsKindConvertible e.kind
    pub items : AreItemsConvertible functions e.items

  abbrev pub AreElementsConvertible : ℕ → List Element → Type 0
  AreElementsConvertible functions elements = All (IsElementConvertible functions) elements

-- active segments, and passive ones with their types and lengths, each found by its position among
-- all
pub record HoldsElements (look : LookUp) (elements : List Element) (s : ElementSegments) : Type 0 where
  pub active : map view_segment s.active.items ≡ active_items look elements
  pub passive : map view_items s.passive ≡ passive_items look elements
  pub kinds : s.kinds ≡ map (λ items. (element_type items, element_count items)) s.passive
  pub numbers : (index : ℕ) → option_map number_of (value_at s.numbers index) ≡ unwrap_or (slice_get (passive_numbers 0 elements) index) None
  pub count : s.count ≡ length elements

-- after any segments that are held, these are held too
abbrev pub AddsElements : LookUp → ElementSegments → ElementSegments → List Element → Type 0
AddsElements look old new elements = (before : List Element) → HoldsElements look before old → HoldsElements look (before ++ elements) new

-- more segments can be held, with fewer than 2 ^ 30 in all
abbrev pub HasRoomForSegments : LookUp → ElementSegments → ℕ → Type 0
HasRoomForSegments look s more = (before : List Element) × HoldsElements look before s × (length before + more < 2 ^ 30)
