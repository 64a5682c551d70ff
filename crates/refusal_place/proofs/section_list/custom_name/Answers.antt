use Rattle.std.proofs.Common.{◌∙◌}
use Rattle.form_reader.specs.SectionRows.{name_agrees}
use Rattle.refusal_place.proofs.ContentLaws.{no_name, name_never_stops}
use Rattle.refusal_place.proofs.section_list.custom_name.Goals as goal

pub returns-in-Ok : goal.returns-in-Ok
returns-in-Ok c =
    let found = name_agrees.found c.args.contents.now _ _ c.in-Ok.ensures in
    (c.if-id.false ∙ c.id.ensures, (found.0, _, found.1, found.2))

pub returns-in-Err-Malformed : goal.returns-in-Err-Malformed
returns-in-Err-Malformed c = λ custom. no_name c.args.contents.now _ c.in-Err-Malformed.field-0-is c.in-Err-Malformed.ensures

pub returns-in-Err-Unsupported : goal.returns-in-Err-Unsupported
returns-in-Err-Unsupported c = λ custom. name_never_stops c.args.contents.now _ _ c.in-Err-Unsupported.field-0-is c.in-Err-Unsupported.ensures
