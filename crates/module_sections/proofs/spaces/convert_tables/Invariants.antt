use Rattle.std.proofs.Common.{◌≡◌, map, take}
use Rattle.wasm_types.specs.EntityData.{map_table}
use Rattle.wasm_types.specs.EntityViews.{table_of}
use Rattle.wasm_convert.specs.Conversion.{table_type_of}
use Rattle.module_sections.proofs.spaces.convert_tables.Given as goal

abbrev pub invariant-loop-ty : goal.invariant-loop-ty
invariant-loop-ty g l =
    map table_of l.tables
    ≡ map (λ t. map_table ((goal.TypeConvert-dyn g l.env.now).look_up l.env.now.1) (table_type_of t)) (take l.ty-index l.types)
