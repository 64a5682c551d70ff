-- The functions to which `ref.func` in a body may refer: those that occur in the module outside of its
-- functions and its start function (core specification, 3.4.10, modules: the context's `refs`).
use Rattle.std.specs.Prelude.{◌↔◌, ℕ, List, [], ◌∷◌, ◌++◌, Contains}
use Rattle.std.specs.List.{flat_map}
use Rattle.std.specs.Option.{option_to_list}
use Rattle.wasm_spec.specs.declared.operators.Operator.{Operator}
use Rattle.wasm_spec.specs.declared.operators.Operator.TheVariants.{RefFunc}
use Rattle.wasm_spec.specs.declared.entities.ExternalKind.TheVariants as kind
use Rattle.wasm_spec.specs.Module.{Expression, TableDef, GlobalDef, Export, ElementItems, Element, Segment, Payload, Tables, Globals, Exports, Elements, Segments, Module}
use Rattle.module_sections.specs.Escapes.{Ascend}
use Rattle.segment_tables.specs.Elements.{functions_in, expressions_in, offsets_in}
use Rattle.segment_tables.specs.DataSegments.{data_offsets}
use Rattle.wasm_spec.specs.declared.entities.ExternalKind.{ExternalKind}

-- the function that an operator names as a reference
abbrev pub referred_by : Operator → List ℕ
referred_by (RefFunc function) = function ∷ []
referred_by _ = []

abbrev pub referred : Expression → List ℕ
referred e = flat_map referred_by e

abbrev pub exported_function : ExternalKind → ℕ → List ℕ
exported_function kind.Func index = index ∷ []
exported_function _ index = []

abbrev pub table_references : TableDef → List ℕ
table_references t = flat_map referred (option_to_list t.init)

abbrev pub global_references : GlobalDef → List ℕ
global_references g = referred g.init

abbrev pub export_references : Export → List ℕ
export_references e = exported_function e.kind e.index

abbrev pub item_references : ElementItems → List ℕ
item_references items = functions_in items ++ flat_map referred (expressions_in items)

-- of its offset, and of its items
abbrev pub element_references : Element → List ℕ
element_references e = flat_map referred (offsets_in e.kind) ++ item_references e.items

abbrev pub data_references : Segment → List ℕ
data_references s = flat_map referred (data_offsets s.kind)

-- the functions that occur in a section
abbrev pub section_references : Payload → List ℕ
section_references (Tables tables) = flat_map table_references tables
section_references (Globals globals) = flat_map global_references globals
section_references (Exports exports) = flat_map export_references exports
section_references (Elements elements) = flat_map element_references elements
section_references (Segments segments) = flat_map data_references segments
section_references _ = []

abbrev pub module_references : Module → List ℕ
module_references m = flat_map section_references m

-- the numbers of a list, each once and ascending
pub record ListsOnce (all ns : List ℕ) : Type 0 where
  pub ascend : Ascend ns
  pub exact : (k : ℕ) → Contains ns k ↔ Contains all k
