use Rattle.std.proofs.Common.{◌≡◌, Option, arith}
use Rattle.std.proofs.lemmas.Grind.{common_steps}
use Rattle.std.specs.List.{flat_map}
use Rattle.entity_map.specs.Keyed.{keyed}
use Rattle.wasm_index.specs.declared.spaces.ModuleInternedTypeSpace.{ModuleInternedTypeSpace}
use Rattle.wasm_index.specs.Index.{index_of}
use Rattle.gc_layout.specs.declared.object.GcLayout.{GcLayout}
use Rattle.module_types.specs.Views.{TypeIndex}
use Rattle.plan_tables.specs.Layouts.{layout_fields}
use Rattle.plan_tables.proofs.Keyed.{flat_keyed}
use Rattle.plan_tables.proofs.layouts.layouts_record.Goals as goal

-- at the start, all layouts remain
pub loop-ty-init : goal.loop-ty-init
loop-ty-init c =
    let whole : flat_map (λ (p : TypeIndex × Option GcLayout). layout_fields p.1) (keyed index_of c.args.layouts.now) ≡ flat_map layout_fields c.args.layouts.now
    = flat_keyed (index_of {Space = ModuleInternedTypeSpace}) layout_fields 0 c.args.layouts.now in
    record {
      rows = grind (arith, common_steps);
      fields = rw (c.into_iter-ty-iterator.ensures.into_iter_gives, c.iter-ty-items.ensures, c.new-fields.ensures.items) whole;
    }
