use Rattle.std.proofs.Common.{◌∙◌, ◌+◌, ◌++◌, ◌∷◌, length, map, sym, ap, arith}
use Rattle.std.specs.List.{enumerate_from}
use Rattle.std.proofs.lemmas.List.{length_push}
use Rattle.std.proofs.lemmas.List.Elements.{All-head, All-same, All-rest}
use Rattle.wasm_spec.specs.Module.{bodies_of_section}
use Rattle.rule_spec.specs.declared.rules.Rule.TheVariants.{L10}
use Rattle.rule_spec.specs.Lists.{lists_of_module}
use Rattle.rule_spec.specs.References.{BodyRefersIn}
use Rattle.form_reader.specs.Views.{body_of}
use Rattle.form_rules.specs.Sections.{entries_left}
use Rattle.init_plan.specs.declared.debug_info.FunctionMetadata.{FunctionMetadata}
use Rattle.module_sections.specs.Filling.{module_in}
use Rattle.module_environ.specs.Metadata.{function_data, view_function}
use Rattle.interned_types.specs.Types.{look_up_in}
use Rattle.module_environ.proofs.AlikeFunctions.{bodies-counted, locals-known, metadata, metadata_more}
use Rattle.module_environ.proofs.metadata.function_metadata.Goals as goal

pub loop-body-init : goal.loop-body-init
loop-body-init g c =
    let lists = c.args.lists.now in
    let m = module_in lists in
    let made = function_data (look_up_in m) (lists_of_module m) in
    let none = c.new-all.ensures.items in
    let start = ap (entries_left body_of bodies_of_section) c.into_iter-body-iterator.ensures.into_iter_gives ∙ c.entries_of-body-items.ensures in
    record {
      refer = All-same (BodyRefersIn (length (lists_of_module m).types)) _ _ start (c.requires.gathered.keeps L10).bodies;
      counted = omega (arith, bodies-counted lists c.requires.gathered, ap length start, ap length none);
      metadata = λ i. map view_function (none i) ++ map made (enumerate_from (length (none i)) (start i));
    }

pub convert_locals-requires : goal.convert_locals-requires
convert_locals-requires g c =
    let refers = BodyRefersIn (length (lists_of_module (module_in c.args.lists.now)).types) in
    let body = body_of c.in-Some.body.now in
    locals-known c.args.lists.now c.requires.gathered _ _ c.requires.looks body
    (All-head refers body _ (All-same refers (body ∷ _) _ (sym c.in-Some.ensures.steps) c.loop-body.invariant.refer)) c.deref-in-loop-body.result.now c.deref-in-loop-body.ensures.value

pub loop-body-preserved : goal.loop-body-preserved
loop-body-preserved g c =
    let lists = c.args.lists.now in
    let refers = BodyRefersIn (length (lists_of_module (module_in lists)).types) in
    let at = c.in-Some.ensures.steps in
    let body = body_of c.in-Some.body.now in
    let had = c.loop-body.invariant in
    let all = c.loop-body.all.items in
    let z : FunctionMetadata = record { params = c.in_ok-function_params.field-0; locals = c.in_ok-convert_locals.field-0 } in
    let one = metadata lists c.requires.gathered _ _ c.requires.looks (length all) (lists.imported_functions + c.len.result) body c.deref-in-loop-body.result.now z
    (omega (arith, c.len.ensures)) c.deref-in-loop-body.ensures.value c.in_ok-function_params.ensures c.in_ok-convert_locals.ensures in
    record {
      refer = All-rest refers body _ _ at had.refer;
      counted = omega (arith, had.counted, ap length at, ap length c.in_ok-push.ensures.items ∙ length_push all z);
      metadata = metadata_more view_function (function_data (look_up_in (module_in lists)) (lists_of_module (module_in lists))) all c.push.new.self.items z
          _ _ body _ at one c.in_ok-push.ensures.items had.metadata;
    }
