use Rattle.std.proofs.Common.{◌≡◌, List, length, map, take}
use Rattle.std.specs.Prelude.{All}
use Rattle.replay_spec.specs.Tables.{reference_of}
use Rattle.replay_spec.specs.Values.{Term}
use Rattle.table_images.specs.Views.{image_of}
use Rattle.plan_run.specs.Values.{values_in, IsPlain}
use Rattle.plan_run.proofs.tables.image_cells.Given as goal

abbrev pub invariant-loop-function : goal.invariant-loop-function
invariant-loop-function l = record {
  count : length l.cells.items ≡ l.function-index;
  means : (terms : List Term) → values_in terms l.cells.items ≡ map reference_of (image_of (take l.function-index l.image));
  plain : All IsPlain l.cells.items;
}
