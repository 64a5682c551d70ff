-- What a list of interned types and a map of mapped types hold, as the definition has it.
use Rattle.std.specs.Prelude.{map, Option}
use Rattle.std.specs.Option.{option_map}
use Rattle.type_spec.specs.Interned.{Built}
use Rattle.wasm_index.specs.Index.{number_of}
use Rattle.wasm_types.specs.declared.func.WasmFuncType.{WasmFuncType}
use Rattle.module_types.specs.Views.{TypeIndex, interned_of, function_at, span_of}
use Rattle.module_types.specs.TypeList.{TypeList}

abbrev pub built_of : TypeList → (WasmFuncType → Option TypeIndex) → Built
built_of l get = record {
  types = map interned_of l.types;
  groups = map span_of l.groups;
  trampolines = map (option_map number_of) l.trampolines;
  known_trampolines = λ f. option_map number_of (get (function_at f));
}
