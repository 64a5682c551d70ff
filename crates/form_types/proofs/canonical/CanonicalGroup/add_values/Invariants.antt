use Rattle.std.proofs.Common.{◌+◌, ◌-◌, ◌<◌, length, map, take}
use Rattle.std.specs.Prelude.{vec_len, vec_capacity}
use Rattle.std.specs.List.{flat_map}
use Rattle.wasm_spec.specs.TypeData.{value_of, value_edges}
use Rattle.form_types.specs.Codes.{value_code}
use Rattle.form_types.specs.Keys.{AddsToKey}
use Rattle.form_types.proofs.canonical.CanonicalGroup.add_values.Given as goal

-- the values so far are added, and there is capacity for the others and the end mark
abbrev pub invariant-loop-value : goal.invariant-loop-value
invariant-loop-value l = record {
  room : vec_len l.self.frame + (length l.values - l.value-index) < vec_capacity l.self.frame;
  adds : AddsToKey l.fn.self l.self (map value_code (map value_of (take l.value-index l.values)))
      (flat_map (value_edges (λ i. i)) (map value_of (take l.value-index l.values)));
}
