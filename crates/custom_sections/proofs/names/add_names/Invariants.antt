use Rattle.std.proofs.Common.{◌≡◌, ◌-◌, map}
use Rattle.custom_sections.specs.Views.{text_of}
use Rattle.custom_sections.specs.NameReading.{in_front, naming_before, names_before}
use Rattle.custom_sections.proofs.Before.{still}
use Rattle.custom_sections.proofs.names.add_names.Given as goal

abbrev pub invariant-names : goal.invariant-names
invariant-names l = still naming_before (map text_of l.names.items) (l.count - l.counter) l.rest
    ≡ in_front (map text_of l.fn.names.items) (names_before l.fn.bytes)
