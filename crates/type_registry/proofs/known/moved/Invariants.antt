use Rattle.std.proofs.Common.{◌≡◌, ◌≤◌, ◌+◌, length}
use Rattle.std.specs.HashMap.{spare}
use Rattle.std.specs.Map.{update_all}
use Rattle.type_registry.specs.Keeping.{Shared, first_of}
use Rattle.type_registry.proofs.SameNames.{same}
use Rattle.type_registry.proofs.known.moved.Given as goal

-- the new map's entries and the remaining groups are the old map's entries, and there is capacity
-- for them
abbrev pub invariant-loop-name : goal.invariant-loop-name
invariant-loop-name l = record {
  rest : (q : Shared) → update_all same (first_of l.into) l.name-iterator q ≡ first_of l.fn.old q;
  room : length l.name-iterator ≤ spare l.into;
  spare : spare l.fn.into + length l.name-iterator ≤ spare l.into + length l.fn.old.entries;
}
