use Rattle.std.proofs.Common.{◌≡◌, ◌++◌, map}
use Rattle.vm_offsets.specs.Layouts.{fields_of, pointer_of, size_of_context}
use Rattle.vm_offsets.specs.Regions.{context_regions}
use Rattle.plan_tables.specs.Context.{region_told, placed_back}
use Rattle.plan_tables.proofs.context.regions_of.Given as goal

abbrev pub invariant-loop-name : goal.invariant-loop-name
invariant-loop-name l = map region_told l.regions.items ++ placed_back l.begin l.name-iterator ≡ placed_back (size_of_context l.offsets) (context_regions (pointer_of l.offsets) (fields_of l.offsets))
