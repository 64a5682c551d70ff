use Rattle.std.proofs.Common.{◌≡◌, map, take}
use Rattle.module_types.specs.Views.{field_at}
use Rattle.module_types.proofs.interner.fields_of_params.Given as goal

abbrev pub invariant-loop-ty : goal.invariant-loop-ty
invariant-loop-ty l = l.fields.items ≡ map field_at (take l.ty-index l.types)
