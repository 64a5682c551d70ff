use Rattle.std.proofs.Common.{◌≡◌, ◌++◌}
use Rattle.std.specs.List.{flat_map}
use Rattle.vm_offsets.specs.Layouts.{fields_of, pointer_of}
use Rattle.vm_offsets.specs.Regions.{context_regions}
use Rattle.plan_lines.specs.ContextLines.{region_line}
use Rattle.plan_lines.proofs.context_lines.append_regions.Given as goal

abbrev pub invariant-loop-description : goal.invariant-loop-description
invariant-loop-description l = l.text ++ flat_map region_line l.description-iterator
    ≡ l.initial.text ++ flat_map region_line (context_regions (pointer_of l.offsets) (fields_of l.offsets))
