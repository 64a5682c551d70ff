use Rattle.std.proofs.Common.{◌≡◌, ◌++◌, length, map, take, drop}
use Rattle.std.specs.List.{flat_map}
use Rattle.wasm_index.specs.Index.{number_of}
use Rattle.plan_tables.specs.Spans.{spans_from}
use Rattle.plan_tables.proofs.tables.images_of.Given as goal

abbrev pub invariant-loop-image : goal.invariant-loop-image
invariant-loop-image l = record {
  parts : l.parts.items ++ spans_from (length l.cells.items) (map (λ image. length image.items) (drop l.image-index l.planned))
      ≡ spans_from 0 (map (λ image. length image.items) l.planned);
  cells : l.cells.items ≡ flat_map (λ image. map number_of image.items) (take l.image-index l.planned);
}
