use Rattle.std.proofs.Common.{◌≡◌, ◌++◌, length, map, All}
use Rattle.wasm_spec.specs.Module.{types, groups_of_section}
use Rattle.form_reader.specs.Views.{group_of}
use Rattle.form_reader.specs.TypeRows.{group}
use Rattle.form_rules.specs.Walk.{walk_left}
use Rattle.form_types.specs.Types.{types_by_id}
use Rattle.wasm_types.specs.ValueViews.{value_of as view_value}
use Rattle.module_sections.specs.Filling.{module_in}
use Rattle.module_environ.specs.Metadata.{KnowsParams, params_to}
use Rattle.module_environ.proofs.metadata.params_by_type.Given as goal

-- with the parameters of the remaining groups, all are there
abbrev pub invariant-loop-groups : goal.invariant-loop-groups
invariant-loop-groups g l =
    let env = goal.TypeConvert-dyn g l.env.now in
    let look = env.look_up l.env.now.1 in
    let left = types_by_id (walk_left group.read group_of groups_of_section l.groups) in
    record {
      known : All (KnowsParams (env.knows l.env.now.1)) left;
      params : map (λ params. map view_value params.value.items) l.all.items ++ map (params_to look) left
          ≡ map (params_to look) (types (module_in l.lists));
    }

-- the remaining groups
abbrev pub decreases-loop-groups : goal.decreases-loop-groups
decreases-loop-groups g l = length (walk_left group.read group_of groups_of_section l.groups)
