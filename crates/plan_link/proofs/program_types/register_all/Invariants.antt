use Rattle.std.proofs.Common.{◌≡◌, ◌≤◌, take, length}
use Rattle.type_registry.specs.Registry.{registry_of, live}
use Rattle.plan_link.specs.Program.{count_types, capacity}
use Rattle.plan_link.specs.Members.{AreHeld}
use Rattle.plan_link.proofs.program_types.register_all.Given as goal

abbrev pub invariant-loop-module : goal.invariant-loop-module
invariant-loop-module l = record {
  held : AreHeld l.registry (take l.module-index l.modules) l.keys.items;
  live : length (live (registry_of l.registry)) ≤ count_types (take l.module-index l.modules);
  most : (registry_of l.registry).max_types ≡ capacity;
  counted : (registry_of l.registry).registrations ≡ l.module-index;
}
