use Rattle.std.proofs.Common.{◌≡◌, ◌++◌, map}
use Rattle.module_types.specs.TypeList.{called_from}
use Rattle.plan_tables.specs.Interned.{trampoline_row}
use Rattle.plan_tables.proofs.interned.trampolines_of.Given as goal

abbrev pub invariant-loop-ty : goal.invariant-loop-ty
invariant-loop-ty l = l.rows.items ++ map trampoline_row l.ty-iterator ≡ map trampoline_row (called_from 0 l.types.trampolines)
