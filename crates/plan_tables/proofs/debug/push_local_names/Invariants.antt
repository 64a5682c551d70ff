use Rattle.std.proofs.Common.{◌≡◌, ◌++◌, map}
use Rattle.plan_tables.specs.Debug.{local_name_told, local_name}
use Rattle.plan_tables.proofs.debug.push_local_names.Given as goal

abbrev pub invariant-loop-local : goal.invariant-loop-local
invariant-loop-local l = map local_name_told l.rows.items ++ map (local_name l.function) l.local-iterator
    ≡ map local_name_told l.initial.rows.items ++ map (local_name l.function) l.names.entries
