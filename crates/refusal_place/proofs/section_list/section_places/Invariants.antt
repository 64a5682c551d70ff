use Rattle.std.proofs.Common.{◌-◌, length}
use Rattle.refusal_place.proofs.SectionLists.{AreListed}
use Rattle.refusal_place.proofs.section_list.section_places.Given as goal

abbrev pub invariant-sections : goal.invariant-sections
invariant-sections l = AreListed l.bytes l.start l.places.items

abbrev pub decreases-sections : goal.decreases-sections
decreases-sections l = length l.bytes - l.start
