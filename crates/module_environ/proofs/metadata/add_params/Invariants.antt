use Rattle.std.proofs.Common.{◌≡◌, ◌++◌, map, take}
use Rattle.form_reader.specs.Views.{sub_type_of}
use Rattle.wasm_types.specs.ValueViews.{value_of as view_value}
use Rattle.module_environ.specs.Metadata.{params_to}
use Rattle.module_environ.proofs.metadata.add_params.Given as goal

-- the parameters of the members so far are added
abbrev pub invariant-loop-ty : goal.invariant-loop-ty
invariant-loop-ty g l =
    map (λ params. map view_value params.value.items) l.all.items
    ≡ map (λ params. map view_value params.value.items) l.initial.all.items
    ++ map (params_to ((goal.TypeConvert-dyn g l.env.now).look_up l.env.now.1)) (map sub_type_of (take l.ty-index l.ty-items))
