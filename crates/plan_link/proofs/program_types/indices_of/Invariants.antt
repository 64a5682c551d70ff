use Rattle.std.proofs.Common.{◌≡◌, ◌<◌, ℕ, length, map, slice_get}
use Rattle.wasm_index.specs.Index.{number_of}
use Rattle.type_registry.specs.Keys.{key_number}
use Rattle.type_registry.specs.Registry.{registry_of, index_at}
use Rattle.plan_link.proofs.program_types.indices_of.Given as goal

abbrev pub invariant-loop-place : goal.invariant-loop-place
invariant-loop-place l = record {
  long : length l.indices.items ≡ l.place;
  each : (i : ℕ) → i < l.place → slice_get (map number_of l.indices.items) i ≡ index_at (registry_of l.registry) (key_number l.key) i;
}
