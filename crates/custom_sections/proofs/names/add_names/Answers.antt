use Rattle.std.proofs.Common.{arith, map}
use Rattle.std.proofs.lemmas.Grind.{common_steps}
use Rattle.std.proofs.lemmas.List.{map_push, append-nil}
use Rattle.custom_sections.specs.Views.{text_of}
use Rattle.custom_sections.specs.NameReading.{naming_before}
use Rattle.custom_sections.proofs.Before.{naming_is, naming_none, at_start, no_count, more, fails, is_done}
use Rattle.custom_sections.proofs.names.add_names.Goals as goal

pub returns-in_default-clause-added : goal.returns-in_default-clause-added
returns-in_default-clause-added c = grind (arith, no_count, append-nil)

pub returns-in_default-clause-left : goal.returns-in_default-clause-left
returns-in_default-clause-left c = grind (arith, no_count)

pub names-init : goal.names-init
names-init c = grind (arith, at_start)

pub returns-in_default-naming-clause-added : goal.returns-in_default-naming-clause-added
returns-in_default-naming-clause-added c = grind (arith, fails, naming_none)

pub returns-in_default-naming-clause-left : goal.returns-in_default-naming-clause-left
returns-in_default-naming-clause-left c = grind (arith, fails, naming_none)

pub names-preserved : goal.names-preserved
names-preserved c = grind (arith, common_steps, map_push, naming_is, more)

pub returns-clause-added : goal.returns-clause-added
returns-clause-added c = grind (arith, is_done)

pub returns-clause-left : goal.returns-clause-left
returns-clause-left c =
    grind (arith, is_done naming_before (map text_of c.names.names.items) c.in-Some.count c.names.counter c.names.rest.now _ c.names-test.false c.names.invariant)
