use Rattle.std.specs.Option.{option_to_list}
use Rattle.wasm_convert.specs.Known.{CanLookUp}
use Rattle.wasm_convert.proofs.Parts.{all-second}
use Rattle.wasm_convert.proofs.convert.TypeConvert.convert_sub_type.Goals as goal

pub convert_composite_type-requires-clause-known : goal.convert_composite_type-requires-clause-known
convert_composite_type-requires-clause-known g c =
    all-second (CanLookUp (g.Self.TypeConvert.knows c.args.self.now)) (option_to_list c.args.ty.now.supertype) _ c.requires.known
