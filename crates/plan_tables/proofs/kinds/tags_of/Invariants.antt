use Rattle.std.proofs.Common.{◌≡◌, map, take}
use Rattle.plan_tables.specs.Kinds.{tag_row}
use Rattle.plan_tables.proofs.kinds.tags_of.Given as goal

abbrev pub invariant-loop-tag : goal.invariant-loop-tag
invariant-loop-tag l = l.rows.items ≡ map tag_row (take l.tag-index l.tags)
