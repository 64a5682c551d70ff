use Rattle.std.proofs.Common.{◌≡◌, Err, ap, sym, ◌∙◌}
use Rattle.form_reader.specs.declared.error.ReadError.TheVariants as read
use Rattle.form_reader.specs.Views.{module_of}
use Rattle.rule_breaks.proofs.PlacedEntries.{lacks_read}
use Rattle.rule_breaks.proofs.list_places.list_entry_place.Goals as goal

pub returns-in-Err-Malformed-clause-none : goal.returns-in-Err-Malformed-clause-none
returns-in-Err-Malformed-clause-none c = λ none short m spelled plain.
    absurd (c.in-Err-Malformed.ensures.malformed (ap Err c.in-Err-Malformed.field-0-is) m spelled)

pub returns-in-Err-Unsupported-clause-none : goal.returns-in-Err-Unsupported-clause-none
returns-in-Err-Unsupported-clause-none c = λ none short m spelled plain.
    let both : read.Unsupported _ ≡ read.OutOfMemory = sym c.in-Err-Unsupported.field-0-is ∙ c.in-Err-Unsupported.ensures.complete short m spelled plain in
    absurd cc

pub returns-clause-none : goal.returns-clause-none
returns-clause-none c =
    lacks_read c.args.bytes.now (module_of c.in-Ok.form) c.args.place c.in-Ok.ensures.complete c.entry_place_in.result c.entry_place_in.ensures.none
