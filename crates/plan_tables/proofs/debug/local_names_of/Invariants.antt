use Rattle.std.proofs.Common.{◌≡◌, ◌++◌, map}
use Rattle.std.specs.List.{flat_map}
use Rattle.plan_tables.specs.Debug.{local_name_told, local_names}
use Rattle.plan_tables.proofs.debug.local_names_of.Given as goal

abbrev pub invariant-loop-function : goal.invariant-loop-function
invariant-loop-function l = map local_name_told l.rows.items ++ flat_map local_names l.function-iterator ≡ flat_map local_names l.names.entries
