use Rattle.std.proofs.Common.{◌≡◌, ◌-◌, map}
use Rattle.custom_sections.specs.Views.{locals_of}
use Rattle.custom_sections.specs.NameReading.{in_front, locals_before, vector_before}
use Rattle.custom_sections.proofs.Before.{still}
use Rattle.custom_sections.proofs.names.add_locals.Given as goal

abbrev pub invariant-functions : goal.invariant-functions
invariant-functions l = still locals_before (map locals_of l.locals.items) (l.count - l.counter) l.rest
    ≡ in_front (map locals_of l.fn.locals.items) (vector_before locals_before l.fn.bytes)
