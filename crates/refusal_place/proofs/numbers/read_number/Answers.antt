use Rattle.refusal_place.proofs.EntryLaws.{number_never_stops}
use Rattle.refusal_place.proofs.numbers.read_number.Goals as goal

pub returns-in-Err-Unsupported : goal.returns-in-Err-Unsupported
returns-in-Err-Unsupported c =
    number_never_stops c.args.cursor.now.rest.now _ _ c.in-Err-Unsupported.field-0-is c.in-Err-Unsupported.ensures
