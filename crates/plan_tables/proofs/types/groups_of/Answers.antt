use Rattle.std.proofs.Common.{◌≡◌, map}
use Rattle.std.specs.declared.ops.Range.{Range}
use Rattle.entity_map.specs.Keyed.{keyed}
use Rattle.wasm_index.specs.declared.index.Index.{Index}
use Rattle.wasm_index.specs.declared.spaces.ModuleInternedRecGroupSpace.{ModuleInternedRecGroupSpace}
use Rattle.wasm_index.specs.Index.{index_of}
use Rattle.module_types.specs.Views.{TypeIndex}
use Rattle.plan_tables.specs.declared.rows.NumberRange.{NumberRange}
use Rattle.plan_tables.specs.Types.{index_range}
use Rattle.plan_tables.proofs.Keyed.{map_keyed}
use Rattle.plan_tables.proofs.types.groups_of.Goals as goal

-- at the start, all groups remain
pub loop-range-init : goal.loop-range-init
loop-range-init c =
    let whole : map {B = NumberRange} (λ (p : Index ModuleInternedRecGroupSpace × Range TypeIndex). index_range p.1) (keyed index_of c.args.types.now.groups) ≡ map index_range c.args.types.now.groups
    = map_keyed (index_of {Space = ModuleInternedRecGroupSpace}) index_range 0 c.args.types.now.groups in
    rw (c.into_iter-range-iterator.ensures.into_iter_gives, c.rec_groups-range-items.ensures, c.new-groups.ensures.items) whole
