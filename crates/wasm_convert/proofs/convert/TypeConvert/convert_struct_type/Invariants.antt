use Rattle.std.proofs.Common.{◌≡◌, map, take}
use Rattle.wasm_spec.specs.TypeData.{map_field}
use Rattle.wasm_spec.specs.TypeData as read
use Rattle.wasm_types.specs.ValueViews as made
use Rattle.wasm_convert.proofs.convert.TypeConvert.convert_struct_type.Given as goal

abbrev pub invariant-loop-field : goal.invariant-loop-field
invariant-loop-field g l =
    map made.field_of l.converted.items ≡ map (λ f. map_field (g.Self.TypeConvert.look_up l.self) (read.field_of f)) (take l.field-index l.fields)
