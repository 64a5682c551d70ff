use Rattle.std.proofs.Common.{◌≡◌, ◌++◌, map}
use Rattle.std.specs.List.{flat_map}
use Rattle.std.specs.Vec.Iter.{into_iter_items}
use Rattle.form_reader.specs.Views.{payload_of}
use Rattle.form_reader.specs.Input.{sections_of_part}
use Rattle.form_reader.proofs.module.collected.Given as goal

abbrev pub invariant-loop-part : goal.invariant-loop-part
invariant-loop-part l = map payload_of l.payloads.items ++ flat_map sections_of_part (into_iter_items l.part-iterator)
    ≡ flat_map sections_of_part l.fn.parts.items
