use Rattle.std.proofs.Common.{◌≡◌, map, take}
use Rattle.wasm_spec.specs.TypeData.{map_value, value_of}
use Rattle.wasm_types.specs.ValueViews.{value_of as view_value}
use Rattle.module_environ.proofs.metadata.convert_types.Given as goal

-- the types so far
abbrev pub invariant-loop-ty : goal.invariant-loop-ty
invariant-loop-ty g l =
    map view_value l.converted.items
    ≡ map (map_value ((goal.TypeConvert-dyn g l.env.now).look_up l.env.now.1)) (map value_of (take l.ty-index l.types))
