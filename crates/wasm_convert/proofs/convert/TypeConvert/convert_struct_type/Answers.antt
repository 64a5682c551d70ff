use Rattle.std.proofs.Common.{arith}
use Rattle.wasm_spec.specs.TypeData.{field_edges, map_field}
use Rattle.wasm_spec.specs.TypeData as read
use Rattle.wasm_types.specs.ValueViews as made
use Rattle.wasm_convert.specs.Known.{CanLookUp}
use Rattle.wasm_convert.proofs.Parts.{all-parts, converted}
use Rattle.wasm_convert.proofs.convert.TypeConvert.convert_struct_type.Goals as goal

pub convert_field_type-requires : goal.convert_field_type-requires
convert_field_type-requires g c =
    all-parts (CanLookUp (g.Self.TypeConvert.knows c.args.self.now)) (field_edges (λ i. i)) read.field_of c.args.fields.now c.requires
    c.loop-field.field-index _ c.loop-field-test.true

pub returns : goal.returns
returns g c =
    converted made.field_of (map_field (g.Self.TypeConvert.look_up c.args.self.now)) read.field_of c.args.fields.now c.loop-field.field-index _
    (omega arith) c.loop-field.invariant
