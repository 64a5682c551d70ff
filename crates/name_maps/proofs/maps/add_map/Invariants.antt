use Rattle.std.proofs.Common.{◌-◌, map}
use Rattle.custom_sections.specs.NameReading.{naming_before, names_before}
use Rattle.name_maps.specs.Entries.{entry_of, entry_in}
use Rattle.name_maps.proofs.Adding.{Adds}
use Rattle.name_maps.proofs.maps.add_map.Given as goal

abbrev pub invariant-names : goal.invariant-names
invariant-names l = Adds naming_before (map (entry_in l.subsection l.outer)) (map entry_of l.fn.entries.items) (map entry_of l.entries.items)
    (l.count - l.counter) l.rest (names_before l.fn.bytes)
