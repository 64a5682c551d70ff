use Rattle.rule_breaks.proofs.PlacedEntries.{none_number, none_listed}
use Rattle.rule_breaks.proofs.list_places.section_entry_place.Goals as goal

pub returns-in-Start-clause-none : goal.returns-in-Start-clause-none
returns-in-Start-clause-none c =
    none_number c.args.bytes.now c.args.section c.args.entry c.in-Start.is c.contents_place.result c.contents_place.ensures.none

pub returns-in_default-clause-none : goal.returns-in_default-clause-none
returns-in_default-clause-none c =
    none_listed c.args.bytes.now c.args.section c.args.entry c.in_default.not-Start c.in_default.not-DataCount c.entry_place.result c.entry_place.ensures.none
