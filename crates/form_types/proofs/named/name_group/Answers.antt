use Rattle.std.proofs.Common.{◌≡◌, ◌∙◌, [], map, sym, ap}
use Rattle.std.proofs.lemmas.List.{nil_from_length}
use Rattle.wasm_spec.specs.declared.types.UnpackedIndex.{UnpackedIndex}
use Rattle.wasm_spec.specs.TypeData.{map_sub_type, map_group, group_edges}
use Rattle.type_spec.specs.Shapes.{erased}
use Rattle.type_spec.specs.TypeShapes.{group_shape}
use Rattle.type_spec.specs.Names.{plainly}
use Rattle.form_reader.specs.Views.{sub_type_of}
use Rattle.form_types.specs.Types.{NamedGroup}
use Rattle.form_types.specs.EarlierTypes.{ids_of}
use Rattle.form_types.specs.Placed.{named_index}
use Rattle.form_types.proofs.InPlace.{one_changed}
use Rattle.form_types.proofs.named.name_group.Goals as goal

-- a group that names no type stays
stays : (f : UnpackedIndex → UnpackedIndex) (g : NamedGroup) → group_edges (λ i. i) g ≡ [] → map_group f f g ≡ g
stays f g none =
    let s = plainly group_shape in
    s.determined (s.map f g) g (s.map_twice f erased g) (s.edges_map f g ∙ ap (map f) none ∙ sym none)

pub returns-then-count-eq0 : goal.returns-then-count-eq0
returns-then-count-eq0 c = sym (stays (named_index (ids_of c.args.ids.now)) (map sub_type_of c.args.types.now) (nil_from_length _ (sym c.requires ∙ c.if-count-eq0.true)))

pub loop-ty-preserved : goal.loop-ty-preserved
loop-ty-preserved c =
    one_changed sub_type_of (map_sub_type (named_index (ids_of c.args.ids.now)) (named_index (ids_of c.args.ids.now))) c.loop-ty.ty-index
    c.args.types.now c.loop-ty.types c.ty-item.result c.name_sub_type.new.ty c.loop-ty-test.true c.name_sub_type.ensures c.loop-ty.invariant
