use Rattle.std.proofs.Common.{◌≡◌, map, take}
use Rattle.wasm_index.specs.Index.{number_of}
use Rattle.type_registry.specs.Owners.{free_count, emptied}
use Rattle.type_registry.proofs.owners.give_back.Given as goal

abbrev pub invariant-loop-index : goal.invariant-loop-index
invariant-loop-index l = record {
  owners : l.owners.items ≡ emptied l.fn.owners.items (map number_of (take l.index-index l.indices));
  free : l.free ≡ map free_count l.owners.items;
}
