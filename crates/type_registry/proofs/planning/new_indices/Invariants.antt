use Rattle.std.proofs.Common.{◌≡◌, ◌++◌, map, take}
use Rattle.wasm_index.specs.Index.{number_of}
use Rattle.type_registry.specs.Registry.{indices_of}
use Rattle.type_registry.specs.Changes.{free_indices}
use Rattle.type_registry.proofs.planning.new_indices.Given as goal

abbrev pub invariant-loop-place : goal.invariant-loop-place
invariant-loop-place l =
    map number_of l.indices.items
    ≡ take l.place (free_indices (indices_of l.groups.groups ++ free_indices (indices_of l.groups.groups) l.given) l.count)
