use Rattle.std.proofs.Common.{◌≡◌, ◌++◌, map, take}
use Rattle.std.specs.List.{flat_map}
use Rattle.segment_tables.proofs.references.push_all.Given as goal

abbrev pub invariant-loop-part : goal.invariant-loop-part
invariant-loop-part g l = l.functions.items ≡ l.initial.functions.items ++ flat_map g.T.Refers.names (map g.T.Refers.as_data (take l.part-index l.parts))
