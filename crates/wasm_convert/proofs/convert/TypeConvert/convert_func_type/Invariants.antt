use Rattle.std.proofs.Common.{◌≡◌, ◌+◌, ◌≤◌, ◌++◌, length, map, take}
use Rattle.std.specs.Prelude.{vec_len, vec_capacity}
use Rattle.wasm_spec.specs.TypeData.{map_value}
use Rattle.wasm_spec.specs.TypeData as read
use Rattle.wasm_types.specs.ValueViews as made
use Rattle.wasm_convert.proofs.convert.TypeConvert.convert_func_type.Given as goal

abbrev pub invariant-loop-ty : goal.invariant-loop-ty
invariant-loop-ty g l = record {
  len : vec_len l.types ≡ l.ty-index;
  room : length l.ty.params.items + length l.ty.results.items ≤ vec_capacity l.types;
  converted : map made.value_of l.types.items ≡ map (λ t. map_value (g.Self.TypeConvert.look_up l.self) (read.value_of t)) (take l.ty-index l.ty.params.items);
}

abbrev pub invariant-loop-ty-2 : goal.invariant-loop-ty-2
invariant-loop-ty-2 g l = record {
  len : vec_len l.types ≡ length l.ty.params.items + l.ty-index;
  room : length l.ty.params.items + length l.ty.results.items ≤ vec_capacity l.types;
  converted : map made.value_of l.types.items
      ≡ map (λ t. map_value (g.Self.TypeConvert.look_up l.self) (read.value_of t)) (l.ty.params.items ++ take l.ty-index l.ty.results.items);
}
