-- A module without a name and without bytes, past the end of a list.
use Rattle.std.proofs.Common.{[]}
use Rattle.planner_c.specs.declared.programs.NamedModule.{NamedModule}

abbrev pub nothing : NamedModule
nothing = record { name = record { ref_ptr = (0, 0); now = [] }; bytes = record { ref_ptr = (0, 0); now = [] } }
