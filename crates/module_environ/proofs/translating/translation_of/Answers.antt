use Rattle.std.proofs.Common.{[], refl, ap, ◌∙◌, map}
use Rattle.std.proofs.lemmas.Result.{err_from_is_err_and}
use Rattle.form_reader.specs.Views.{body_of}
use Rattle.form_reader.specs.Input.{input_module_of}
use Rattle.init_plan.specs.declared.translation.ModuleTranslation.{ModuleTranslation}
use Rattle.module_environ.proofs.Answering.{read_cause, read_complete, was_readable, form_cause, is_translated}
use Rattle.module_environ.proofs.WayPlaces.{stops-read}
use Rattle.module_environ.proofs.translating.translation_of.Goals as goal

-- ---- the bytes are not read

pub read_input-requires : goal.read_input-requires
read_input-requires c = ([], c.new-numbering.ensures)

pub translate_form-requires-clause-took : goal.translate_form-requires-clause-took
translate_form-requires-clause-took c = c.in_ok-form.ensures.takes [] c.new-numbering.ensures

pub returns-in_err-form-clause-cause : goal.returns-in_err-form-clause-cause
returns-in_err-form-clause-cause c =
    let p = err_from_is_err_and c.from_residual.result c.from_residual.ensures.1 in
    let e = c.read_input.ensures in
    rw (p.1, p.2) (read_cause c.args.bytes.now _ c.read_input.result c.in_err-form.field-0.0 e.too_large e.unsupported e.malformed e.stops_nowhere c.in_err-form.was)

pub returns-in_err-form-clause-complete : goal.returns-in_err-form-clause-complete
returns-in_err-form-clause-complete c = λ m can kept sound.
    let p = err_from_is_err_and c.from_residual.result c.from_residual.ensures.1 in
    let e = c.read_input.ensures in
    rw p.1 (p.2 ∙ read_complete c.read_input.result c.in_err-form.field-0.0 m (c.read_input.ensures.complete can.short m can.spelled can.no_interface_types) c.in_err-form.was)

pub returns-in_err-form-clause-poisoned : goal.returns-in_err-form-clause-poisoned
returns-in_err-form-clause-poisoned c = λ m can kept was.
    let p = err_from_is_err_and c.from_residual.result c.from_residual.ensures.1 in
    let e = c.read_input.ensures in
    rw (p.1, p.2, read_complete c.read_input.result c.in_err-form.field-0.0 m (c.read_input.ensures.complete can.short m can.spelled can.no_interface_types) c.in_err-form.was) tt

-- ---- its form becomes no translation

pub returns-in-Err-clause-cause : goal.returns-in-Err-clause-cause
returns-in-Err-clause-cause c =
    let e = c.in_ok-form.ensures in
    form_cause _ _ _ _ (was_readable _ c.in_ok-form.form e.too_large e.read e.no_interface_types) c.in-Err.ensures.cause

pub returns-in-Err-clause-complete : goal.returns-in-Err-clause-complete
returns-in-Err-clause-complete c = λ m can kept sound.
    c.in-Err.ensures.complete (rw (c.in_ok-form.ensures.complete can.short m can.spelled can.no_interface_types) kept) sound

pub returns-in-Err-clause-poisoned : goal.returns-in-Err-clause-poisoned
returns-in-Err-clause-poisoned c = λ m can kept was.
    c.in-Err.ensures.poisoned (rw (c.in_ok-form.ensures.complete can.short m can.spelled can.no_interface_types) kept) was

pub returns-in-Err-clause-stops : goal.returns-in-Err-clause-stops
returns-in-Err-clause-stops c =
    let e = c.in_ok-form.ensures in
    stops-read _ _ _ _ _ (was_readable _ c.in_ok-form.form e.too_large e.read e.no_interface_types) c.translate_form.ensures.stops

-- ---- memory runs out for its code

pub returns-in-Err-take_bodies-clause-stops : goal.returns-in-Err-take_bodies-clause-stops
returns-in-Err-take_bodies-clause-stops c =
    let e = c.in_ok-form.ensures in
    stops-read _ _ _ _ _ (was_readable _ c.in_ok-form.form e.too_large e.read e.no_interface_types) c.translate_form.ensures.stops

pub returns-in-Err-take_bodies-clause-cause : goal.returns-in-Err-take_bodies-clause-cause
returns-in-Err-take_bodies-clause-cause c = rw c.into.ensures tt

pub returns-in-Err-take_bodies-clause-complete : goal.returns-in-Err-take_bodies-clause-complete
returns-in-Err-take_bodies-clause-complete c = λ m can kept sound. c.into.ensures

pub returns-in-Err-take_bodies-clause-poisoned : goal.returns-in-Err-take_bodies-clause-poisoned
returns-in-Err-take_bodies-clause-poisoned c = λ m can kept was. rw c.into.ensures tt

-- ---- it is translated

pub returns-in-Ok-clause-poisoned : goal.returns-in-Ok-clause-poisoned
returns-in-Ok-clause-poisoned c = λ m can kept was.
    absurd (c.in_default.ensures.poisoned (rw (c.in_ok-form.ensures.complete can.short m can.spelled can.no_interface_types) kept) was)

pub returns-in-Ok-clause-translated : goal.returns-in-Ok-clause-translated
returns-in-Ok-clause-translated c =
    let m = input_module_of c.in_ok-form.form in
    let formed = c.translate_form.new.translation in
    let e = c.in_ok-form.ensures in
    let coded : ModuleTranslation = record formed {
      wasm = c.args.bytes;
      function_body_inputs = c.replace-none.new.dest;
      debuginfo = record formed.debuginfo { wasm_file = record formed.debuginfo.wasm_file { code_section_offset = c.in-Ok.place } };
    } in
    is_translated c.args.tunables.now c.args.module_index c.args.validator.now c.args.bytes.now m c.in_ok-translation.translation formed coded
    c.translate_form.new.types (was_readable c.args.bytes.now c.in_ok-form.form e.too_large e.read e.no_interface_types) e.few
    c.in_ok-translation.ensures c.in_default.ensures.formed refl
    (ap (map (λ input. body_of input.body)) c.replace-none.ensures.after ∙ c.in-Ok.ensures.bodies) c.in-Ok.ensures.place
