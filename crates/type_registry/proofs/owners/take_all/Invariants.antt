use Rattle.std.proofs.Common.{◌≡◌, map, take}
use Rattle.wasm_index.specs.Index.{number_of}
use Rattle.type_registry.specs.Owners.{free_count, owned_by}
use Rattle.type_registry.proofs.owners.take_all.Given as goal

abbrev pub invariant-loop-place : goal.invariant-loop-place
invariant-loop-place l = record {
  owners : l.owners.items ≡ owned_by l.first 0 l.fn.owners.items (map number_of (take l.place l.indices));
  free : l.free ≡ map free_count l.owners.items;
}
