-- The metadata of the functions that a module defines: their parameters, and their locals in runs
-- of one type (core specification, 2.5, functions).
use Rattle.std.specs.Prelude.{ℕ, ◌+◌, Bool, List, [], map, All, unwrap_or, if◌then◌else◌}
use Rattle.std.specs.List.{enumerate_from}
use Rattle.std.specs.Option.{option_map}
use Rattle.wasm_spec.specs.declared.types.UnpackedIndex.{UnpackedIndex}
use Rattle.wasm_spec.specs.TypeData.{ValueType, Composite, Func, SubType, value_edges, value_of, map_value}
use Rattle.wasm_spec.specs.Module.{Body}
use Rattle.rule_spec.specs.Lists.{Lists, Declared}
use Rattle.rule_spec.specs.Indices.{kind_of_function}
use Rattle.wasm_types.specs.ValueViews.{Name, value_of as view_value}
use Rattle.wasm_convert.specs.Conversion.{LookUp}
use Rattle.wasm_convert.specs.Known.{Known}
use Rattle.init_plan.specs.declared.debug_info.FunctionMetadata.{FunctionMetadata}

pub record ParamsAndLocals : Type 0 where
  pub params : List (ValueType Name)
  -- how many consecutive locals have one type, and the type
  pub locals : List (ℕ × ValueType Name)

-- the parameters of a function type
abbrev pub params_of : Composite UnpackedIndex UnpackedIndex → List (ValueType UnpackedIndex)
params_of (Func type) = type.params
params_of _ = []

-- the types that the parameters of a declared type name are known
abbrev pub KnowsParams : (UnpackedIndex → Type 0) → SubType UnpackedIndex UnpackedIndex → Type 0
KnowsParams known type = All (λ v. Known known (value_edges (λ i. i) v)) (params_of type.composite.inner)

-- what the parameters are looked up to
abbrev pub params_to : LookUp → SubType UnpackedIndex UnpackedIndex → List (ValueType Name)
params_to look type = map (map_value look) (params_of type.composite.inner)

-- the parameters of a function of the index space
abbrev pub params_at : Lists → ℕ → List (ValueType UnpackedIndex)
params_at l function = unwrap_or (option_map params_of (kind_of_function l function)) []

-- over the lists of a module, and what its types are looked up to
module _ (look : LookUp) (l : Lists) where
  -- the parameters of each declared type
  abbrev pub params_of_types : List (List (ValueType Name))
  params_of_types = map (λ (d : Declared). params_to look d.type) l.types

  -- of a defined function, by its number among those, and its body
  abbrev pub function_data : ℕ × Body → ParamsAndLocals
  function_data f = record {
    params = map (map_value look) (params_at l (l.imported_functions + f.0));
    locals = map (λ run. (run.0, map_value look (value_of run.1))) f.1.locals;
  }

  -- the metadata of all defined functions, in order
  abbrev pub functions_data : List ParamsAndLocals
  functions_data = map function_data (enumerate_from 0 l.bodies)

  -- of all where the caller requires it, and of none otherwise
  abbrev pub functions_asked : Bool → List ParamsAndLocals
  functions_asked asked = if asked then functions_data else []

-- as a translation has it
abbrev pub view_function : FunctionMetadata → ParamsAndLocals
view_function f = record { params = map view_value f.params.value.items; locals = map (λ run. (run.0, view_value run.1)) f.locals.items }
