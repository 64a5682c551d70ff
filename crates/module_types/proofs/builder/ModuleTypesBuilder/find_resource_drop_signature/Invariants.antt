use Rattle.std.proofs.Common.{◌≡◌, drop}
use Rattle.module_types.specs.TypeParts.{is_resource_drop, first_from}
use Rattle.module_types.proofs.builder.ModuleTypesBuilder.find_resource_drop_signature.Given as goal

abbrev pub invariant-loop-i : goal.invariant-loop-i
invariant-loop-i l = first_from is_resource_drop l.i (drop l.i l.self.list.types) ≡ first_from is_resource_drop 0 l.self.list.types
