use Rattle.std.proofs.Common.{◌+◌, ◌-◌, ◌*◌, ◌<◌, ◌∷◌, length, map, take}
use Rattle.std.specs.Prelude.{vec_len, vec_capacity}
use Rattle.std.specs.List.{flat_map}
use Rattle.wasm_spec.specs.TypeData.{field_of, field_edges}
use Rattle.form_types.specs.Codes.{field_codes}
use Rattle.form_types.specs.Keys.{AddsToKey}
use Rattle.form_types.proofs.canonical.CanonicalGroup.add_struct.Given as goal

-- the fields so far are added, and there is capacity for the others and the end mark
abbrev pub invariant-loop-field : goal.invariant-loop-field
invariant-loop-field l = record {
  room : vec_len l.self.frame + 2 * (length l.fields - l.field-index) < vec_capacity l.self.frame;
  adds : AddsToKey l.fn.self l.self (0x5F ∷ flat_map field_codes (map field_of (take l.field-index l.fields)))
      (flat_map (field_edges (λ i. i)) (map field_of (take l.field-index l.fields)));
}
