-- What a plan holds of the expressions of a module: each with `any` for the heap type of a null
-- reference, since a plan names interned types where the module names declared ones. All nulls are
-- one value, so that nothing is lost.
use Rattle.std.specs.Prelude.{List, map}
use Rattle.std.specs.Option.{option_map}
use Rattle.wasm_spec.specs.declared.types.HeapType.TheVariants.{Abstract}
use Rattle.wasm_spec.specs.declared.types.AbstractHeapType.TheVariants.{Any}
use Rattle.wasm_spec.specs.declared.operators.Operator.{Operator}
use Rattle.wasm_spec.specs.declared.operators.Operator.TheVariants.{RefNull}
use Rattle.wasm_spec.specs.Module.{Expression, Element, Module}
use Rattle.rule_spec.specs.Lists.{Lists}
use Rattle.replay_spec.specs.Data.{ActiveSegment, active_segments}
use Rattle.replay_spec.specs.Elements.{ActiveElements, DefinedTable, active_items_by, defined_tables}
use Rattle.replay_spec.specs.Globals.{initialisers}

abbrev pub any_null : Operator → Operator
any_null (RefNull heap) = RefNull (Abstract Any)
any_null operator = operator

abbrev pub any_nulls : Expression → Expression
any_nulls e = map any_null e

abbrev pub held_segment : ActiveSegment → ActiveSegment
held_segment s = record s { offset = any_nulls s.offset }

-- the active data segments
abbrev pub held_segments : Module → List ActiveSegment
held_segments m = map held_segment (active_segments m)

-- the active element segments
abbrev pub held_elements : List Element → List ActiveElements
held_elements elements = active_items_by (λ type. tt) any_nulls elements

abbrev pub held_table : DefinedTable → DefinedTable
held_table t = record t { initial = option_map any_nulls t.initial }

-- the defined tables
abbrev pub held_tables : Lists → List DefinedTable
held_tables l = map held_table (defined_tables l)

-- the initialisers of the defined globals
abbrev pub held_initialisers : Lists → List Expression
held_initialisers l = map any_nulls (initialisers l)
