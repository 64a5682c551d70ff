use Rattle.std.proofs.Common.{◌≡◌, true, length, map, take, drop}
use Rattle.replay_spec.specs.Tables.{kept_initial}
use Rattle.table_images.specs.Views.{defined_tables_of, initial_of}
use Rattle.table_images.specs.Left.{StandStill}
use Rattle.table_images.proofs.first.drop_imaged.Given as goal

-- the values so far are those that are kept, the others are unchanged, and each initialiser keeps
-- its position
abbrev pub invariant-tables : goal.invariant-tables
invariant-tables l = record {
  count : length l.values ≡ length l.fn.values;
  done : map initial_of (take l.i l.values) ≡ map (kept_initial true) (defined_tables_of (take l.i l.tables) (take l.i l.fn.values));
  rest : drop l.i l.values ≡ drop l.i l.fn.values;
  still : StandStill l.fn.values l.values;
}
