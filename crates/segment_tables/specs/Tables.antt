-- What a record tells of the segments of a module.
use Rattle.std.specs.Prelude.{◌≡◌, ℕ, List, ◌++◌, length, map}
use Rattle.std.specs.List.{flat_map}
use Rattle.wasm_spec.specs.Module.{Module, Expression, elements_of_section, segments}
use Rattle.wasm_spec.specs.Grammar.{Spells}
use Rattle.segment_tables.specs.declared.segment_rows.SegmentsRecord.{SegmentsRecord}
use Rattle.segment_tables.specs.Expressions.{TellsReadExpressions}
use Rattle.segment_tables.specs.Elements.{functions_in, element_expressions, element_rows}
use Rattle.segment_tables.specs.DataSegments.{data_told, data_rows, data_expressions}
use Rattle.segment_tables.specs.References.{module_references, ListsOnce}
use Rattle.wasm_spec.specs.Module as plain

-- the element segments of a module
abbrev pub elements : Module → List plain.Element
elements m = flat_map elements_of_section m

-- the expressions of the element segments
abbrev pub in_elements : Module → List Expression
in_elements m = flat_map element_expressions (elements m)

-- and behind them the offsets of the data segments
abbrev pub module_expressions : Module → List Expression
module_expressions m = in_elements m ++ data_expressions (segments m)

-- the record has the segments of the module, in order, and each function that `ref.func` in a body
-- may name, once
pub record TellsSegments (m : Module) (r : SegmentsRecord) : Type 0 where
  pub data_segments : map data_told r.data_segments.now ≡ data_rows (length (in_elements m)) (segments m)
  pub element_segments : r.element_segments.now ≡ element_rows 0 0 (elements m)
  pub functions : r.functions.now ≡ flat_map (λ e. functions_in e.items) (elements m)
  pub expressions : TellsReadExpressions (module_expressions m) r.expressions
  pub references : ListsOnce (module_references m) r.references.now

-- the bytes spell a module, whose segments the record has
pub record TellsSegmentsOf (bytes : List ℕ) (r : SegmentsRecord) : Type 0 where
  pub meaning : Module
  pub spelled : Spells bytes meaning
  pub told : TellsSegments meaning r
