use Rattle.std.proofs.Common.{◌+◌, ◌<◌, ◌^◌, length}
use Rattle.std.specs.List.{flat_map}
use Rattle.wasm_spec.specs.Module as plain
use Rattle.form_reader.specs.Input.{sections_of_part, AddsGroups}
use Rattle.form_reader.specs.ReadingSections.{Passes}
use Rattle.form_reader.proofs.sections.sections.Given as goal

abbrev pub invariant-parts : goal.invariant-parts
invariant-parts g l = record {
  small : l.place + length l.cursor.rest.now < 2 ^ 30;
  so_far : Passes l.start 0 l.bytes (flat_map sections_of_part l.all.items) l.place l.next l.cursor.rest.now;
  takes : AddsGroups g.T.GroupSink.holds l.initial.sink l.sink (plain.groups (flat_map sections_of_part l.all.items));
}

abbrev pub decreases-parts : goal.decreases-parts
decreases-parts g l = length l.cursor.rest.now
