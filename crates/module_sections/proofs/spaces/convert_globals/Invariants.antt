use Rattle.std.proofs.Common.{◌≡◌, map, take}
use Rattle.wasm_types.specs.EntityData.{map_global}
use Rattle.wasm_types.specs.EntityViews.{global_of}
use Rattle.wasm_convert.specs.Conversion.{global_type_of}
use Rattle.module_sections.proofs.spaces.convert_globals.Given as goal

abbrev pub invariant-loop-ty : goal.invariant-loop-ty
invariant-loop-ty g l =
    map global_of l.globals
    ≡ map (λ t. map_global ((goal.TypeConvert-dyn g l.env.now).look_up l.env.now.1) (global_type_of t)) (take l.ty-index l.types)
