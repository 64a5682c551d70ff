use Rattle.std.proofs.Common.{◌≡◌, ◌-◌, length}
use Rattle.custom_sections.specs.Views.{names_of}
use Rattle.custom_sections.specs.NameReading.{names_of_section}
use Rattle.custom_sections.proofs.Joining.{still_named}
use Rattle.custom_sections.proofs.names.read_names.Given as goal

abbrev pub invariant-subsections : goal.invariant-subsections
invariant-subsections l = still_named l.locals (names_of l.names) (length l.fn.contents - l.counter) l.rest ≡ names_of_section l.locals l.fn.contents
