use Rattle.std.proofs.Common.{◌∙◌, List, All, map, sym, ap, subst}
use Rattle.std.specs.Global.{Vec}
use Rattle.wasm_spec.specs.declared.types.UnpackedIndex.{UnpackedIndex}
use Rattle.wasm_spec.specs.TypeData.{ValueType, value_edges, value_of, map_value}
use Rattle.form_reader.specs.declared.types.SubType.{SubType}
use Rattle.form_reader.specs.Views.{sub_type_of}
use Rattle.form_types.proofs.AllOf.{All-from_map}
use Rattle.wasm_types.specs.declared.value.WasmValType.{WasmValType}
use Rattle.wasm_types.specs.ValueViews.{value_of as view_value}
use Rattle.wasm_convert.specs.Known.{Known}
use Rattle.module_environ.specs.Metadata.{KnowsParams, params_to}
use Rattle.module_sections.proofs.BySection.{at-item, made-more}
use Rattle.module_environ.proofs.metadata.add_params.Goals as goal

pub convert_types-requires : goal.convert_types-requires
convert_types-requires g c =
    let knows = (goal.TypeConvert-dyn g c.args.env.now).knows c.args.env.now.1 in
    let known = subst (λ (ts : List SubType). All (KnowsParams knows) (map sub_type_of ts)) (sym c.deref-ty-items.ensures.value) c.requires in
    let value : ValueType UnpackedIndex → Type 0 = λ v. Known knows (value_edges (λ i. i) v) in
    All-from_map value value_of c.kind_params.result.now (subst (All value) (sym c.kind_params.ensures)
    (at-item (KnowsParams knows) sub_type_of c.deref-ty-items.result.now c.loop-ty.ty-index c.ty-item.result c.loop-ty-test.true c.ty-item.is known))

pub loop-ty-preserved : goal.loop-ty-preserved
loop-ty-preserved g c =
    let look = (goal.TypeConvert-dyn g c.args.env.now).look_up c.args.env.now.1 in
    made-more (λ params. map view_value params.value.items) (params_to look) sub_type_of c.args.all.now.items c.loop-ty.all.items c.push.new.self.items
    c.in_ok-shared.field-0 c.deref-ty-items.result.now c.loop-ty.ty-index c.ty-item.result c.loop-ty-test.true c.ty-item.is
    (ap (λ (ps : Vec WasmValType). map view_value ps.items) c.in_ok-shared.ensures ∙ c.in_ok-params.ensures ∙ ap (map (map_value look)) c.kind_params.ensures)
    c.in_ok-push.ensures.items c.loop-ty.invariant
