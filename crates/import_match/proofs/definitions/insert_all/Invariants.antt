use Rattle.std.proofs.Common.{◌≡◌, ◌≤◌, ◌++◌, length, map, All}
use Rattle.std.specs.Prelude.{filter}
use Rattle.std.specs.Vec.Iter.{into_iter_items}
use Rattle.import_match.specs.Definitions.{AreOnce}
use Rattle.import_match.specs.Kept.{definition_of, in_order, is_below, DefinitionsAreKept}
use Rattle.import_match.proofs.Keeping.{IsNew}
use Rattle.import_match.proofs.definitions.insert_all.Given as goal

abbrev pub invariant-loop-names : goal.invariant-loop-names
invariant-loop-names l = record {
  kept : DefinitionsAreKept l.numbered.entries;
  listed : in_order l.numbered.entries ++ map definition_of (into_iter_items l.names-iterator)
      ≡ in_order l.fn.numbered.entries ++ map definition_of l.fn.planned.items;
  new : All (IsNew (in_order l.numbered.entries)) (map definition_of (into_iter_items l.names-iterator));
  once : AreOnce (map definition_of (into_iter_items l.names-iterator));
  before : filter (is_below (length l.fn.numbered.entries)) l.numbered.entries ≡ l.fn.numbered.entries;
  more : length l.fn.numbered.entries ≤ length l.numbered.entries;
}
