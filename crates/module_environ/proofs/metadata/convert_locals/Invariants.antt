use Rattle.std.proofs.Common.{◌≡◌, ℕ, map, take}
use Rattle.wasm_spec.specs.TypeData.{ValueType, map_value, value_of}
use Rattle.wasm_types.specs.ValueViews.{Name, value_of as view_value}
use Rattle.module_environ.proofs.metadata.convert_locals.Given as goal

-- the runs so far
abbrev pub invariant-loop-count : goal.invariant-loop-count
invariant-loop-count g l =
    map {B = ℕ × ValueType Name} (λ run. (run.0, view_value run.1)) l.converted.items
    ≡ map (λ run. (run.0, map_value ((goal.TypeConvert-dyn g l.env.now).look_up l.env.now.1) (value_of run.1))) (take l.count-index l.locals)
