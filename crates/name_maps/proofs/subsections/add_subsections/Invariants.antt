use Rattle.std.proofs.Common.{◌-◌, map}
use Rattle.custom_sections.specs.NameReading.{elements_before}
use Rattle.name_maps.specs.Entries.{entry_of, all_entries}
use Rattle.name_maps.specs.Reading.{subsection_before}
use Rattle.name_maps.proofs.Adding.{Adds}
use Rattle.name_maps.proofs.subsections.add_subsections.Given as goal

abbrev pub invariant-subsections : goal.invariant-subsections
invariant-subsections l = Adds subsection_before all_entries (map entry_of l.fn.entries.items) (map entry_of l.entries.items)
    (l.most - l.counter) l.rest (elements_before subsection_before l.most l.fn.bytes)
