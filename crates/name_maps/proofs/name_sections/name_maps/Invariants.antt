use Rattle.std.proofs.Common.{◌≡◌, map, take}
use Rattle.std.specs.List.{flat_map}
use Rattle.name_maps.specs.Entries.{entry_of}
use Rattle.name_maps.proofs.Unique.{entries_at}
use Rattle.name_maps.proofs.name_sections.name_maps.Given as goal

abbrev pub invariant-loop-place : goal.invariant-loop-place
invariant-loop-place l = map entry_of l.entries.items ≡ flat_map (entries_at l.bytes) (take l.place-index l.place-items)
