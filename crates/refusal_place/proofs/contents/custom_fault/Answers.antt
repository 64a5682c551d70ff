use Rattle.refusal_place.proofs.ContentLaws.{no_name, name_never_stops, stops_after_name}
use Rattle.refusal_place.proofs.contents.custom_fault.Goals as goal

pub returns-in-Ok : goal.returns-in-Ok
returns-in-Ok c =
    let e = c.at_start.ensures in
    rw (e.0, e.1) (stops_after_name c.args.contents.now _ _ c.in-Ok.ensures c.requires.unread, e.2)

pub returns-in-Err-Malformed : goal.returns-in-Err-Malformed
returns-in-Err-Malformed c =
    let e = c.at_start-in-Err-Malformed.ensures in
    rw (e.0, e.1) (no_name c.args.contents.now _ c.in-Err-Malformed.field-0-is c.in-Err-Malformed.ensures, e.2)

pub returns-in-Err-Unsupported : goal.returns-in-Err-Unsupported
returns-in-Err-Unsupported c =
    let e = c.at_start-in-Err-Unsupported.ensures in
    rw (e.0, e.1) (name_never_stops c.args.contents.now _ _ c.in-Err-Unsupported.field-0-is c.in-Err-Unsupported.ensures, e.2)
