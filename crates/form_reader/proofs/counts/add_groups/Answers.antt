use Rattle.std.proofs.Common.{List, [], ◌∷◌}
use Rattle.wasm_spec.specs.declared.types.UnpackedIndex.{UnpackedIndex}
use Rattle.wasm_spec.specs.TypeData.{Group}
use Rattle.wasm_spec.specs.Module.{Types}
use Rattle.form_reader.specs.Views.{group_of}
use Rattle.form_reader.proofs.Counting.{groups_join, CountsMore-next, SizesFit-item}
use Rattle.form_reader.proofs.counts.add_groups.Goals as goal

pub add_group-requires : goal.add_group-requires
add_group-requires c =
    SizesFit-item group_of (λ (gs : List (Group UnpackedIndex UnpackedIndex)). Types gs ∷ []) groups_join c.args.counts.now c.loop-group.counts
    c.args.groups.now c.loop-group.group-index c.group-item.result c.loop-group-test.true c.group-item.is c.requires c.loop-group.invariant

pub loop-group-preserved : goal.loop-group-preserved
loop-group-preserved c =
    CountsMore-next group_of (λ (gs : List (Group UnpackedIndex UnpackedIndex)). Types gs ∷ []) groups_join c.args.counts.now c.loop-group.counts
    c.add_group.new.counts c.args.groups.now c.loop-group.group-index c.group-item.result c.loop-group-test.true c.group-item.is
    c.loop-group.invariant c.add_group.ensures
