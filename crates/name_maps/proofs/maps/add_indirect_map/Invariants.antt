use Rattle.std.proofs.Common.{◌-◌, map}
use Rattle.custom_sections.specs.NameReading.{locals_before, vector_before}
use Rattle.name_maps.specs.Entries.{entry_of, indirect_entries}
use Rattle.name_maps.proofs.Adding.{Adds}
use Rattle.name_maps.proofs.maps.add_indirect_map.Given as goal

abbrev pub invariant-maps : goal.invariant-maps
invariant-maps l = Adds locals_before (indirect_entries l.subsection) (map entry_of l.fn.entries.items) (map entry_of l.entries.items)
    (l.count - l.counter) l.rest (vector_before locals_before l.fn.bytes)
