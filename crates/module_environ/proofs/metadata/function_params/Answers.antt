use Rattle.std.proofs.Common.{◌≡◌, ◌∙◌, ap, map}
use Rattle.std.proofs.lemmas.Result.{IfOk-weaker}
use Rattle.std.specs.Global.{Vec}
use Rattle.wasm_spec.specs.TypeData.{map_value}
use Rattle.wasm_types.specs.declared.value.WasmValType.{WasmValType}
use Rattle.wasm_types.specs.ValueViews.{value_of as view_value}
use Rattle.rule_spec.specs.Lists.{lists_of_module}
use Rattle.module_sections.specs.Filling.{module_in}
use Rattle.module_environ.specs.Metadata.{params_at}
use Rattle.interned_types.specs.Types.{look_up_in}
use Rattle.module_environ.proofs.AlikeFunctions.{params-some, params-none}
use Rattle.module_sections.proofs.FilledSections.{functions-are}
use Rattle.module_environ.proofs.metadata.function_params.Goals as goal

pub returns-in_ok-clone-in-Some : goal.returns-in_ok-clone-in-Some
returns-in_ok-clone-in-Some c =
    let lists = c.args.lists.now in
    let found = c.in-Some.ensures.lookup in
    ap (λ (ps : Vec WasmValType). map view_value ps.items) c.in_ok-clone-in-Some.ensures.cases
    ∙ params-some (look_up_in (module_in lists)) (lists_of_module (module_in lists)) (λ ps. map view_value ps.value.items) c.args.by_type.now c.requires.by_type
    lists.spaces.functions.items c.args.function c.index.result.now c.index.result.now (functions-are lists c.requires.gathered) c.requires.there c.index.ensures c.in-Some.params.now found.3.0 (found.3.1 c.in-Some.params.now)

pub returns-in-None : goal.returns-in-None
returns-in-None c =
    let lists = c.args.lists.now in
    let none = params-none (look_up_in (module_in lists)) (lists_of_module (module_in lists)) (λ ps. map view_value ps.value.items) c.args.by_type.now c.requires.by_type
    lists.spaces.functions.items c.args.function c.index.result.now c.index.result.now (functions-are lists c.requires.gathered) c.requires.there c.index.ensures c.in-None.ensures.lookup.3 in
    IfOk-weaker c.shared.result (λ list. list.value ≡ c.new.result)
    (λ list. map view_value list.value.items ≡ map (map_value (look_up_in (module_in lists))) (params_at (lists_of_module (module_in lists)) c.args.function))
    (λ list is. ap (λ (ps : Vec WasmValType). map view_value ps.items) is ∙ ap (map view_value) c.new.ensures.items ∙ none) c.shared.ensures
