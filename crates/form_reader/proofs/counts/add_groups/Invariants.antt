use Rattle.std.proofs.Common.{[], ◌∷◌, map, take}
use Rattle.wasm_spec.specs.Module.{Types}
use Rattle.form_reader.specs.Counted.{CountsMore}
use Rattle.form_reader.specs.Views.{group_of}
use Rattle.form_reader.proofs.counts.add_groups.Given as goal

-- the members of the groups so far are counted
abbrev pub invariant-loop-group : goal.invariant-loop-group
invariant-loop-group l = CountsMore l.initial.counts l.counts (Types (map group_of (take l.group-index l.groups)) ∷ [])
